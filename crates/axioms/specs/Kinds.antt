-- The kinds of axioms: the one table of their codes, words and names.
use Rattle.std.specs.Prelude.{ℕ, Bool, true, false, List, [], ◌∷◌, codes}
use Rattle.axioms.specs.declared.kinds.Kind.{Kind}
use Rattle.axioms.specs.declared.kinds.Kind.TheVariants.{Csub, Psub, Cdis, Pdis, Dom, Ran, Psubinv, Pdisinv}
use Rattle.axioms.specs.declared.kinds.Sort.{Sort}
use Rattle.axioms.specs.declared.kinds.Sort.TheVariants.{Class, Property}

-- what is fixed for a kind: its code, its word, what its left and right names are names of, and whether the two must differ
pub record Row : Type 0 where
  pub code : ℕ
  pub word : List ℕ
  pub left : Sort
  pub right : Sort
  pub differ : Bool

abbrev pub row : Kind → Row
row Csub = record { code = 1; word = codes "csub"; left = Class; right = Class; differ = false }
row Psub = record { code = 2; word = codes "psub"; left = Property; right = Property; differ = false }
row Cdis = record { code = 3; word = codes "cdis"; left = Class; right = Class; differ = true }
row Pdis = record { code = 4; word = codes "pdis"; left = Property; right = Property; differ = true }
row Dom = record { code = 5; word = codes "dom"; left = Property; right = Class; differ = false }
row Ran = record { code = 6; word = codes "ran"; left = Property; right = Class; differ = false }
row Psubinv = record { code = 7; word = codes "psubinv"; left = Property; right = Property; differ = false }
row Pdisinv = record { code = 8; word = codes "pdisinv"; left = Property; right = Property; differ = false }

abbrev pub kinds : List Kind
kinds = Csub ∷ Psub ∷ Cdis ∷ Pdis ∷ Dom ∷ Ran ∷ Psubinv ∷ Pdisinv ∷ []
