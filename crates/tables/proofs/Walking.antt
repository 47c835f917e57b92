-- Going through the names of a set from the first on.
use Rattle.std.proofs.Common.{◌≡◌, ℕ, ◌<◌, ◌≤◌, Bool, false, ◌&&◌, ◌||◌, eqb, ltb, sym, refl, ap, ◌∙◌, inl, inr, arith}
use Rattle.std.proofs.Math.Bool.{or_assoc, or_comm, and-or_distrib_right}
use Rattle.std.proofs.lemmas.Bool.{cases_order, eq-eqb, ne_eqb, lt-ltb, le-ltb}
use Rattle.tables.specs.Relations.{some}
use Rattle.tables.specs.Sets.{has, first}
use Rattle.tables.specs.declared.name_set.NameSet.{NameSet}
use Rattle.tables.proofs.Digits.{trailing_none, trailing_one}
use Rattle.tables.proofs.Sums.{some_never, some_like, some_or, some_one}

-- the set t is the set s without its first name a
module _ (s t : NameSet) (a : ℕ) (is_first : a ≡ first s) (few : a < 64) (dropped : (k : ℕ) → has t k ≡ (ltb (first s) k && has s k)) where
  pub taken : (k : ℕ) → has s k ≡ (eqb k a || has t k)
  taken k =
      rw (dropped k, is_first)
      (elim (cases_order k (first s)) [
        | inl e ↦ rw (e, eq-eqb (first s) (first s) refl) (trailing_one 64 s.bits (omega arith))
        | inr (inl below) ↦ rw (ne_eqb k (first s) (λ z. omega arith), le-ltb (first s) k (omega arith)) (trailing_none 64 s.bits k below)
        | inr (inr above) ↦ rw (ne_eqb k (first s) (λ z. omega arith), lt-ltb (first s) k above)
      ])

  -- what the names of s have together, by what a and the names of t have
  pub gathered_more : (n : ℕ) → a < n → (C : ℕ → Bool) → some n (λ k. has s k && C k) ≡ (C a || some n (λ k. has t k && C k))
  gathered_more n within C =
      some_like n (λ k. has s k && C k) (λ k. (eqb k a && C k) || (has t k && C k)) (λ k hk. ap (λ b. b && C k) (taken k) ∙ and-or_distrib_right (eqb k a) (has t k) (C k))
      ∙ sym (some_or n (λ k. eqb k a && C k) (λ k. has t k && C k))
      ∙ ap (λ b. b || some n (λ k. has t k && C k)) (some_one n a C within)

pub none_within : (s : NameSet) (n : ℕ) → n ≤ first s → (C : ℕ → Bool) → some n (λ k. has s k && C k) ≡ false
none_within s n past C = sym (some_never n (λ k. has s k && C k) (λ k hk. rw (trailing_none 64 s.bits k (omega arith))))

-- what is there and what is left, by one more
pub regroup : (p a q : Bool) → ((p || a) || q) ≡ (a || (p || q))
regroup p a q = ap (λ b. b || q) (or_comm p a) ∙ or_assoc a p q

pub column_more : (x p q e : Bool) → ((x || (p && e)) || (q && e)) ≡ (x || ((p || q) && e))
column_more x p q e = or_assoc x (p && e) (q && e) ∙ ap (λ b. x || b) (sym (and-or_distrib_right p q e))
