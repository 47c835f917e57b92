-- Which axioms are well formed, and why raw numbers are refused.
use Rattle.std.specs.Prelude.{◌≡◌, ℕ, Bool, true, false, not, ◌&&◌, List, [], ◌∷◌, Some, None, Option, ◌==◌, ◌≢◌, nat_lt, slice_index_or}
use Rattle.axioms.specs.declared.kinds.Kind.{Kind}
use Rattle.axioms.specs.declared.kinds.Sort.{Sort}
use Rattle.axioms.specs.declared.kinds.Sort.TheVariants.{Class, Property}
use Rattle.axioms.specs.declared.axiom_types.Axiom.{Axiom}
use Rattle.axioms.specs.declared.axiom_types.RawAxiom.{RawAxiom}
use Rattle.axioms.specs.declared.causes.Cause.{Cause}
use Rattle.axioms.specs.declared.causes.Cause.TheVariants.{UnknownKind, NameOutOfRange, TrustOutOfRange, EqualNames}
use Rattle.axioms.specs.Kinds.{row}
use Rattle.axioms.specs.Limits.{in_trust}
use Rattle.axioms.specs.Ordered.{Ground, refuse}

-- the names differ where the kind asks for it
abbrev pub names_apart : Kind → ℕ → ℕ → Bool
names_apart k left right = not ((row k).differ && left == right)

-- the counts are two numbers, and no record: rules and cases speak of any two, and a record of them would be no plainer
module _ (classes properties : ℕ) where
  -- how many names of a sort there are
  abbrev pub count : Sort → ℕ
  count Class = classes
  count Property = properties

  -- both names are below their counts
  abbrev pub names_in_range : Kind → ℕ → ℕ → Bool
  names_in_range k left right = nat_lt left (count (row k).left) && nat_lt right (count (row k).right)

  abbrev pub well_formed : Axiom → Bool
  well_formed a = names_in_range a.kind a.left a.right && (in_trust a.trust && names_apart a.kind a.left a.right)

-- the axiom has the raw numbers
pub record States (raw : RawAxiom) (a : Axiom) : Type 0 where
  pub kind : (row a.kind).code ≡ raw.kind
  pub left : a.left ≡ raw.left
  pub right : a.right ≡ raw.right
  pub trust : a.trust ≡ raw.trust

-- the raw numbers are of a kind of which P holds
abbrev pub OfKind : RawAxiom → (Kind → Type 0) → Type 0
OfKind raw P = (k : Kind) × ((row k).code ≡ raw.kind) × P k

-- why raw numbers are refused, in the order in which the causes are tested
abbrev pub raw_grounds : ℕ → ℕ → RawAxiom → List (Ground Cause)
raw_grounds classes properties raw =
    refuse UnknownKind ((k : Kind) → (row k).code ≢ raw.kind)
    ∷ refuse NameOutOfRange (OfKind raw (λ k. names_in_range classes properties k raw.left raw.right ≡ false))
    ∷ refuse TrustOutOfRange (in_trust raw.trust ≡ false)
    ∷ refuse EqualNames (OfKind raw (λ k. names_apart k raw.left raw.right ≡ false))
    ∷ []

-- the axioms at a list of places are well formed
abbrev pub AllFormed : ℕ → ℕ → List (Option Axiom) → Type 0
AllFormed classes properties places =
    (k : ℕ) (a : Axiom) → slice_index_or places k None ≡ Some a → well_formed classes properties a ≡ true
