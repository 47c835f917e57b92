-- Two relations between names together: one as it stands, and one between reversed pairs. Two reversals cancel.
use Rattle.std.specs.Prelude.{ℕ, zero, suc, Bool, true, false, not, ◌&&◌, ◌||◌, ◌==◌}
use Rattle.tables.specs.Relations.{Rel, Agree, SameFrom, nothing, some}

-- as it stands under false, between reversed pairs under true
abbrev pub Signed : Type 0
Signed = Bool → Rel

-- a relation alone, with nothing between reversed pairs
abbrev pub alone : Rel → Signed
alone R false = R
alone R true = nothing

abbrev pub AgreeBoth : ℕ → ℕ → Signed → Signed → Type 0
AgreeBoth lefts rights E F = (s : Bool) → Agree lefts rights (E s) (F s)

abbrev pub BothSameFrom : ℕ → Signed → Signed → Type 0
BothSameFrom n E F = (s : Bool) → SameFrom n (E s) (F s)

-- whether two steps together reverse
abbrev pub plus : Bool → Bool → Bool
plus false s = s
plus true s = not s

-- a step of E to k and a step of F from there, which together reverse as s says
abbrev pub via : Signed → Signed → ℕ → Signed
via E F k s a b = (E false a k && F s k b) || (E true a k && F (not s) k b)

-- E and then F, by way of a name below n
abbrev pub signed_product : ℕ → Signed → Signed → Signed
signed_product n E F s a b = some n (λ k. via E F k s a b)

-- the row of a with what the row of k adds to it
abbrev pub joined : ℕ → ℕ → Signed → Signed
joined a k E s i j = E s i j || (i == a && via E E k s a j)

-- each row with what the row of k adds to it
abbrev pub crossed : ℕ → Signed → Signed
crossed k E s i j = E s i j || via E E k s i j

-- chains of steps by way of names below n; a name that is reversed into itself first joins its own row
unfoldable pub signed_closed : ℕ → Signed → Signed
signed_closed zero E = E
signed_closed (suc k) E = crossed k (joined k k (signed_closed k E))
