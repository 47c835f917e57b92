-- A relation alone, with nothing between reversed pairs, closes as it does by itself.
use Rattle.std.proofs.Common.{◌≡◌, ℕ, zero, suc, Bool, true, false, ◌&&◌, ◌||◌, eqb, refl, ap, ◌∙◌, inl, inr}
use Rattle.std.proofs.Math.Bool.{or-false, and-false}
use Rattle.std.proofs.lemmas.Bool.{cases_eq, eq-eqb, ne_eqb}
use Rattle.tables.specs.Relations.{Rel, through, closed}
use Rattle.tables.specs.Signed.{Signed, alone, joined, crossed, signed_closed}
use Rattle.tables.proofs.Signs.{reversing}

pub nothing_beside : (x y : Bool) → (x && ((y && false) || false)) ≡ false
nothing_beside x y = rw (and-false y) (and-false x)

module _ (k : ℕ) (R : Rel) where
  -- the row of k takes nothing from itself
  alone_joined : (s : Bool) (i j : ℕ) → joined k k (alone R) s i j ≡ alone R s i j
  alone_joined false i j =
      elim (cases_eq i k) [
        | inl e ↦ rw (e, eq-eqb k k refl) (again (R k k) (R k j))
        | inr ne ↦ rw (ne_eqb i k ne) (or-false (R i j))
      ]
    where
      again : (x y : Bool) → (y || ((x && y) || false)) ≡ y
      again x true = refl
      again true false = refl
      again false false = refl
  alone_joined true i j = nothing_beside (eqb i k) (R k k)

  alone_crossed : (s : Bool) (i j : ℕ) → crossed k (alone R) s i j ≡ alone (through k R) s i j
  alone_crossed false i j = ap (λ b. R i j || b) (or-false (R i k && R k j))
  alone_crossed true i j = nothing_beside true (R i k)

module _ (k : ℕ) (E F : Signed) (like : (s : Bool) (i j : ℕ) → E s i j ≡ F s i j) where
  joined_same : (s : Bool) (i j : ℕ) → joined k k E s i j ≡ joined k k F s i j
  joined_same s i j = rw (like s i j, reversing.by_like E E F F k s k j (λ t. like t k k) (λ t. like t k j))

  crossed_same : (s : Bool) (i j : ℕ) → crossed k E s i j ≡ crossed k F s i j
  crossed_same s i j = rw (like s i j, reversing.by_like E E F F k s i j (λ t. like t i k) (λ t. like t k j))

pub alone_closed : (n : ℕ) (R : Rel) (s : Bool) (i j : ℕ) → signed_closed n (alone R) s i j ≡ alone (closed n R) s i j
unfolding closed signed_closed
alone_closed zero R s i j = refl
alone_closed (suc k) R s i j =
    crossed_same k (joined k k (signed_closed k (alone R))) (alone (closed k R))
    (λ s i j. joined_same k (signed_closed k (alone R)) (alone (closed k R)) (alone_closed k R) s i j ∙ alone_joined k (closed k R) s i j) s i j
    ∙ alone_crossed k (closed k R) s i j
