-- What axioms mean: when an interpretation fits them, and when a name is empty under them.
use Rattle.std.specs.Prelude.{◌≡◌, ℕ, Bool, true, List}
use Rattle.std.specs.List.{AllByRecursion}
use Rattle.axioms.specs.declared.axiom_types.Axiom.{Axiom}
use Rattle.axioms.specs.declared.kinds.Kind.{Kind}
use Rattle.axioms.specs.declared.kinds.Kind.TheVariants.{Csub, Psub, Cdis, Pdis, Dom, Ran, Psubinv, Pdisinv}
use Rattle.closing.specs.declared.names.Name.{Name}
use Rattle.closing.specs.declared.names.Name.TheVariants.{Class, Property}

-- for each class which whole numbers are its members, for each property which ordered pairs of them are its pairs
pub record Interpretation : Type 0 where
  pub member : ℕ → ℕ → Bool
  pub pair : ℕ → ℕ → ℕ → Bool

module _ (I : Interpretation) where
  -- x is a member of the class a
  abbrev pub Member : ℕ → ℕ → Type 0
  Member a x = I.member a x ≡ true

  -- (x, y) is a pair of the property p
  abbrev pub Pair : ℕ → ℕ → ℕ → Type 0
  Pair p x y = I.pair p x y ≡ true

  -- what each kind says of its left and its right name
  abbrev pub Holds : Kind → ℕ → ℕ → Type 0
  Holds Csub a b = (x : ℕ) → Member a x → Member b x
  Holds Psub p q = (x y : ℕ) → Pair p x y → Pair q x y
  Holds Cdis a b = (x : ℕ) → Member a x → Member b x → ⊥
  Holds Pdis p q = (x y : ℕ) → Pair p x y → Pair q x y → ⊥
  Holds Dom p a = (x y : ℕ) → Pair p x y → Member a x
  Holds Ran p a = (x y : ℕ) → Pair p x y → Member a y
  Holds Psubinv p q = (x y : ℕ) → Pair p x y → Pair q y x
  Holds Pdisinv p q = (x y : ℕ) → Pair p x y → Pair q y x → ⊥

  abbrev pub Fits : Axiom → Type 0
  Fits a = Holds a.kind a.left a.right

  abbrev pub FitsAll : List Axiom → Type 0
  FitsAll axioms = AllByRecursion Fits axioms

  -- the class has no member, the property no pair
  abbrev pub HasNone : Name → Type 0
  HasNone (Class a) = (x : ℕ) → Member a x → ⊥
  HasNone (Property p) = (x y : ℕ) → Pair p x y → ⊥

  -- the class has a member, the property a pair
  abbrev pub HasOne : Name → Type 0
  HasOne (Class a) = (x : ℕ) × Member a x
  HasOne (Property p) = (x : ℕ) × (y : ℕ) × Pair p x y

-- no interpretation that fits all the axioms gives the name a member, or a pair
abbrev pub Empty : List Axiom → Name → Type 0
Empty axioms name = (I : Interpretation) → FitsAll I axioms → HasNone I name

-- some interpretation that fits all the axioms gives it one
abbrev pub Inhabited : List Axiom → Name → Type 0
Inhabited axioms name = (I : Interpretation) × FitsAll I axioms × HasOne I name
