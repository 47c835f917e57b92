-- Closings of relations that agree over some names agree there. Offered to the crates above.
use Rattle.std.proofs.Common.{ℕ, zero, suc, ◌<◌, ◌≤◌, ◌||◌, ap, ◌∙◌, arith}
use Rattle.tables.specs.Relations.{Rel, Agree, closed}
use Rattle.tables.specs.Signed.{Signed, AgreeBoth, joined, signed_closed}
use Rattle.tables.proofs.Signs.{Signs, plain, reversing, Steps}
use Rattle.tables.proofs.Joining.{across}
use Rattle.tables.proofs.Closings.{steps}

module _ (G : Signs) (n w : ℕ) (wide : n ≤ w) where
  -- over the left names below n and the right names below w the steps are the same
  abbrev pub Alike : Steps G → Steps G → Type 0
  Alike E F = (s : G.Sign) → Agree n w (E s) (F s)

  pub across_like : (k : ℕ) → k < n → (E R : Steps G) → Alike E R → Alike (across G k E) (across G k R)
  across_like k hk E R like s i j hi hj =
      ap (λ x. x || G.by E E k s i j) (like s i j hi hj) ∙ ap (λ x. R s i j || x) (G.by_like E E R R k s i j (λ t. like t i k hi (omega arith)) (λ t. like t k j hk hj))

module _ (n w : ℕ) (wide : n ≤ w) where
  pub closed_like : (k : ℕ) (R S : Rel) → k ≤ n → Agree n w R S → Agree n w (closed k R) (closed k S)
  unfolding closed
  closed_like zero R S h like = like
  closed_like (suc k) R S h like = across_like plain n w wide k (omega arith) (steps (closed k R)) (steps (closed k S)) (λ s. closed_like k R S (omega arith) like) tt

  pub joined_like : (k : ℕ) → k < n → (E R : Signed) → AgreeBoth n w E R → AgreeBoth n w (joined k k E) (joined k k R)
  joined_like k hk E R like s i j hi hj =
      rw (like s i j hi hj, reversing.by_like E E R R k s k j (λ t. like t k k hk (omega arith)) (λ t. like t k j hk hj))

  pub signed_like : (k : ℕ) (E F : Signed) → k ≤ n → AgreeBoth n w E F → AgreeBoth n w (signed_closed k E) (signed_closed k F)
  unfolding signed_closed
  signed_like zero E F h like = like
  signed_like (suc k) E F h like =
      let hk : k < n = omega arith in
      across_like reversing n w wide k hk (joined k k (signed_closed k E)) (joined k k (signed_closed k F)) (joined_like k hk (signed_closed k E) (signed_closed k F) (signed_like k E F (omega arith) like))
