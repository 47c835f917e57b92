-- Cases worked by hand over 3 classes and 3 properties, and what is promised of each.
use Rattle.std.specs.Prelude.{ℕ, Bool, false, ◌||◌, List, [], ◌∷◌, MatchBool, ◌==◌}
use Rattle.std.specs.List.{AllByRecursion}
use Rattle.axioms.specs.declared.axiom_types.Axiom.{Axiom}
use Rattle.axioms.specs.declared.kinds.Kind.{Kind}
use Rattle.axioms.specs.declared.kinds.Kind.TheVariants.{Csub, Psub, Cdis, Pdis, Dom, Ran, Psubinv, Pdisinv}
use Rattle.closing.specs.Meaning.{Empty, Inhabited}
use Rattle.closing.specs.Rules.{Derives, FoundEmpty}
use Rattle.closing.specs.declared.names.Name.{Name}
use Rattle.closing.specs.declared.names.Name.TheVariants.{Class, Property}

pub record Relation : Type 0 where
  pub kind : Kind
  pub left : ℕ
  pub right : ℕ

-- axioms, the names that are empty under them, and relations that can and that cannot be derived
pub record Case : Type 0 where
  pub axioms : List Axiom
  pub empty : List Name
  pub derivable : List Relation
  pub not_derivable : List Relation

abbrev pub all_names : List Name
all_names = Class 0 ∷ Class 1 ∷ Class 2 ∷ Property 0 ∷ Property 1 ∷ Property 2 ∷ []

abbrev pub same_name : Name → Name → Bool
same_name (Class a) (Class b) = a == b
same_name (Class a) (Property q) = false
same_name (Property p) (Class b) = false
same_name (Property p) (Property q) = p == q

abbrev pub among : Name → List Name → Bool
among name [] = false
among name (n ∷ ns) = same_name name n || among name ns

abbrev pub CanDerive : List Axiom → Relation → Type 0
CanDerive axioms r = Derives axioms 3 3 r.kind r.left r.right

abbrev pub Found : List Axiom → Name → Type 0
Found axioms name = FoundEmpty axioms 3 3 name

-- the names listed are found empty and no other, by the rules and by the meaning; and the relations are as said
pub record Right (c : Case) : Type 0 where
  pub found : AllByRecursion (λ name. MatchBool (among name c.empty) (Found c.axioms name) (Found c.axioms name → ⊥)) all_names
  pub meaning : AllByRecursion (λ name. MatchBool (among name c.empty) (Empty c.axioms name) (Inhabited c.axioms name)) all_names
  pub can : AllByRecursion (CanDerive c.axioms) c.derivable
  pub cannot : AllByRecursion (λ r. CanDerive c.axioms r → ⊥) c.not_derivable

abbrev pub ax : Kind → ℕ → ℕ → Axiom
ax k l r = record { kind = k; left = l; right = r; trust = 50 }

abbrev pub relation : Kind → ℕ → ℕ → Relation
relation k l r = record { kind = k; left = l; right = r }

-- a case of emptiness alone
abbrev pub case : List Axiom → List Name → Case
case axioms empty = record { axioms = axioms; empty = empty; derivable = []; not_derivable = [] }

abbrev pub cases : List Case
cases =
    -- nothing stated
    case [] []
    -- two disjoint superclasses, and a property whose domain is such a class
    ∷ case (ax Csub 0 1 ∷ ax Csub 0 2 ∷ ax Cdis 1 2 ∷ []) (Class 0 ∷ [])
    ∷ case (ax Csub 0 1 ∷ ax Csub 0 2 ∷ ax Cdis 1 2 ∷ ax Dom 0 0 ∷ []) (Class 0 ∷ Property 0 ∷ [])
    -- an asymmetric property, and one that is symmetric too
    ∷ case (ax Pdisinv 0 0 ∷ []) []
    ∷ case (ax Pdisinv 0 0 ∷ ax Psubinv 0 0 ∷ []) (Property 0 ∷ [])
    -- reversed twice: the two are disjoint as they stand, and need not be with one reversed
    ∷ record {
      axioms = ax Psubinv 0 1 ∷ ax Pdisinv 1 2 ∷ [];
      empty = [];
      derivable = relation Pdis 0 2 ∷ [];
      not_derivable = relation Pdisinv 0 2 ∷ [];
    }
    -- two reasons for one property
    ∷ case (ax Psub 0 1 ∷ ax Pdis 0 1 ∷ ax Ran 0 0 ∷ ax Ran 1 1 ∷ ax Cdis 0 1 ∷ []) (Property 0 ∷ [])
    -- a range from the inverse's domain
    ∷ case (ax Psubinv 0 1 ∷ ax Dom 1 0 ∷ ax Ran 0 1 ∷ ax Cdis 0 1 ∷ []) (Property 0 ∷ [])
    -- two classes within each other, and disjoint
    ∷ case (ax Csub 0 1 ∷ ax Csub 1 0 ∷ ax Cdis 0 1 ∷ []) (Class 0 ∷ Class 1 ∷ [])
    ∷ []
