-- Refusals in order: where several grounds fit a call, the one named first is answered.
use Rattle.std.specs.Prelude.{◌≡◌, ◌⊎◌, List, [], ◌∷◌}

-- a ground says when it fits, and what is then answered
abbrev pub Ground : Type 0 → Type 1
Ground R = R → Type 0

-- under the condition P the answer is e
abbrev pub refuse : {R : Type 0} → R → Type 0 → Ground R
refuse e P r = P × (r ≡ e)

-- the ground does not fit
abbrev pub Fails : {R : Type 0} → Ground R → Type 0
Fails {R} g = (r : R) → g r → ⊥

-- r is the answer of the first ground that fits
abbrev pub FirstFitting : {R : Type 0} → List (Ground R) → R → Type 0
FirstFitting [] r = ⊥
FirstFitting (g ∷ gs) r = g r ⊎ (Fails g × FirstFitting gs r)

abbrev pub NoneFits : {R : Type 0} → List (Ground R) → Type 0
NoneFits [] = Unit {0}
NoneFits (g ∷ gs) = Fails g × NoneFits gs
