-- A table that is exact, read within its ranges, tells of any two names whether the relation can be derived.
use Rattle.std.proofs.Common.{◌≡◌, ℕ, ◌<◌, ◌≤◌, Bool, false, Decides, ◌∙◌, inl, inr, arith}
use Rattle.std.proofs.lemmas.Bool.{cases_lt, lt-ltb, le-ltb}
use Rattle.std.proofs.lemmas.Bool.Decides.{Decides-at}
use Rattle.tables.specs.Tables.{cell}
use Rattle.axioms.specs.declared.kinds.Kind.{Kind}
use Rattle.axioms.specs.declared.kinds.Kind.TheVariants.{Csub, Psub, Cdis, Pdis, Dom, Ran, Psubinv, Pdisinv}
use Rattle.axioms.specs.Kinds.{row}
use Rattle.closing.specs.Exactness.{ExactTo, table_of, reading}
use Rattle.closing.specs.Reading.{stage_of}
use Rattle.closing.specs.Theories.{class_count, property_count, names, axioms_of, Tells, FoundIn, TellsEmpty}
use Rattle.closing.specs.declared.names.Name.{Name}
use Rattle.closing.specs.declared.relations.Relations.{Relations}
use Rattle.closing.specs.declared.theory.Theory.{Theory}
use Rattle.closing.proofs.Beyond.{told}
use Rattle.closing.proofs.Derived.{decides}
use Rattle.closing.proofs.Ranged.{ranged}
use Rattle.closing.proofs.Stating.{all_ranged}

module _ (n : ℕ) (t : Theory) (r : Relations) (exact : ExactTo n t r) (k : Kind) (left right : ℕ) (answer : Bool) (is_read : answer ≡ reading t r k left right) where
  outside : answer ≡ false → (left < names t (row k).left → right < names t (row k).right → ⊥) → Tells t k left right answer
  outside isnt out = record {
    derivable = (λ is. cc, λ d. let h = ranged (class_count t) (property_count t) (all_ranged t) d in absurd (out h.0 h.1));
    in_range = λ is. cc;
  }

  pub tells : stage_of k ≤ n → Tells t k left right answer
  tells come =
      elim (cases_lt left (names t (row k).left)) [
        | inl hl ↦ elim (cases_lt right (names t (row k).right)) [
          | inl hr ↦
              let held : answer ≡ cell (table_of r k) left right = is_read ∙ rw (lt-ltb left (names t (row k).left) hl, lt-ltb right (names t (row k).right) hr) in
              record { derivable = Decides-at _ _ (held ∙ exact k come left right hl hr) (decides (axioms_of t) (class_count t) (property_count t) (all_ranged t) k left right); in_range = λ is. (hl, hr) }
          | inr hr ↦ outside (is_read ∙ rw (lt-ltb left (names t (row k).left) hl, le-ltb right (names t (row k).right) hr)) (λ a b. omega arith)
        ]
        | inr hl ↦ outside (is_read ∙ rw (le-ltb left (names t (row k).left) hl)) (λ a b. omega arith)
      ]

-- the fifth stage has every relation
pub every_stage_came : (k : Kind) → stage_of k ≤ 5
every_stage_came Csub = omega arith
every_stage_came Psub = omega arith
every_stage_came Cdis = omega arith
every_stage_came Pdis = omega arith
every_stage_came Dom = omega arith
every_stage_came Ran = omega arith
every_stage_came Psubinv = omega arith
every_stage_came Pdisinv = omega arith

-- a name by whether it is found
pub told_in : (t : Theory) (name : Name) (answer : Bool) → Decides answer (FoundIn t name) → TellsEmpty t name answer
told_in t name answer = told (axioms_of t) (class_count t) (property_count t) (all_ranged t) name answer
