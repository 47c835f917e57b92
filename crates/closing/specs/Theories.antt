-- What a theory holds, and what can be derived from it.
use Rattle.std.specs.Prelude.{◌≡◌, ℕ, ◌<◌, Bool, true, List, Decides, MatchBool, Option, slice_set}
use Rattle.axioms.specs.declared.axiom_types.Axiom.{Axiom}
use Rattle.axioms.specs.declared.kinds.Kind.{Kind}
use Rattle.axioms.specs.declared.kinds.Sort.{Sort}
use Rattle.axioms.specs.Kinds.{row}
use Rattle.axioms.specs.Axioms.{count}
use Rattle.axioms.specs.Ordered.{NoneFits}
use Rattle.closing.specs.Meaning.{Empty, Inhabited}
use Rattle.closing.specs.Places.{held, put_grounds}
use Rattle.closing.specs.Rules.{Derives, FoundEmpty}
use Rattle.closing.specs.declared.names.Name.{Name}
use Rattle.closing.specs.declared.theory.Theory.{Theory}

abbrev pub class_count : Theory → ℕ
class_count t = t.counts.classes

abbrev pub property_count : Theory → ℕ
property_count t = t.counts.properties

-- how many names of a sort there are
abbrev pub names : Theory → Sort → ℕ
names t sort = count (class_count t) (property_count t) sort

-- what is at each place, counted from 0
abbrev pub placed : Theory → List (Option Axiom)
placed t = t.places

abbrev pub axioms_of : Theory → List Axiom
axioms_of t = held (placed t)

-- the place holds what was put there, and all else is as it was
pub record Filled (before : Theory) (place : ℕ) (found : Option Axiom) (after : Theory) : Type 0 where
  pub no_cause : NoneFits (put_grounds (class_count before) (property_count before) place found)
  pub same_classes : class_count after ≡ class_count before
  pub same_properties : property_count after ≡ property_count before
  pub only_there : placed after ≡ slice_set (placed before) place found

abbrev pub Derivable : Theory → Kind → ℕ → ℕ → Type 0
Derivable t k l r = Derives (axioms_of t) (class_count t) (property_count t) k l r

-- the answer tells, of any two numbers, whether the relation between them can be derived; at or past a count it is false
pub record Tells (t : Theory) (k : Kind) (l r : ℕ) (answer : Bool) : Type 0 where
  pub derivable : Decides answer (Derivable t k l r)
  pub in_range : answer ≡ true → (l < names t (row k).left) × (r < names t (row k).right)

abbrev pub FoundIn : Theory → Name → Type 0
FoundIn t name = FoundEmpty (axioms_of t) (class_count t) (property_count t) name

-- the answer tells, by the meaning alone, whether the name is empty: if not, there is an interpretation that gives it a member
abbrev pub TellsEmpty : Theory → Name → Bool → Type 0
TellsEmpty t name answer = MatchBool answer (Empty (axioms_of t) name) (Inhabited (axioms_of t) name)
