-- Laws of tests over the numbers below a count, offered to the crates above.
use Rattle.std.proofs.Common.{◌≡◌, ℕ, zero, suc, ◌+◌, ◌<◌, Bool, true, false, ◌&&◌, ◌||◌, eqb, sym, refl, ap, ◌∙◌, subst, inl, inr, add-one, arith}
use Rattle.std.proofs.Math.Bool.{or-false, or_assoc, or_comm}
use Rattle.std.proofs.lemmas.Bool.{or_cases, or_left, or_right, cases_lt, cases_eq, eq-eqb, ne_eqb}
use Rattle.tables.specs.Relations.{some, count}

pub and_both : (x y : Bool) → x ≡ true → y ≡ true → (x && y) ≡ true
and_both x y p q = rw (p, q)

pub some_made : (n : ℕ) (test : ℕ → Bool) (k : ℕ) → k < n → test k ≡ true → some n test ≡ true
unfolding some
some_made zero test k h on = absurd (omega arith)
some_made (suc n) test k h on =
    elim (cases_lt k n) [
      | inl less ↦ or_right (test n) (some n test) (some_made n test k less on)
      | inr more ↦ let is : n ≡ k = omega arith in or_left (test n) (some n test) (rw is on)
    ]

pub some_found : (n : ℕ) (test : ℕ → Bool) → some n test ≡ true → (k : ℕ) × (k < n) × (test k ≡ true)
unfolding some
some_found zero test h = cc
some_found (suc n) test h =
    elim (or_cases (test n) (some n test) h) [
      | inl l ↦ (n, omega arith, l)
      | inr r ↦ let found = some_found n test r in (found.0, omega (arith, found.1), found.2)
    ]

pub some_like : (n : ℕ) (f g : ℕ → Bool) → ((k : ℕ) → k < n → f k ≡ g k) → some n f ≡ some n g
unfolding some
some_like zero f g like = refl
some_like (suc n) f g like = rw (like n (omega arith), some_like n f g (λ k h. like k (omega arith)))

pub some_never : (n : ℕ) (test : ℕ → Bool) → ((k : ℕ) → k < n → test k ≡ false) → false ≡ some n test
unfolding some
some_never zero test none = refl
some_never (suc n) test none = some_never n test (λ k h. none k (omega arith)) ∙ sym (ap (λ x. x || some n test) (none n (omega arith)))

-- one number alone
pub some_one : (n a : ℕ) (test : ℕ → Bool) → a < n → some n (λ k. eqb k a && test k) ≡ test a
unfolding some
some_one zero a test h = absurd (omega arith)
some_one (suc n) a test h =
    elim (cases_eq n a) [
      | inl e ↦ rw (e, eq-eqb a a refl) (ap (λ x. test a || x) (sym (some_never a (λ k. eqb k a && test k) (λ k hk. rw (ne_eqb k a (λ z. omega arith))))) ∙ or-false (test a))
      | inr ne ↦ rw (ne_eqb n a ne) (some_one n a test (omega arith))
    ]

pub some_or : (n : ℕ) (f g : ℕ → Bool) → (some n f || some n g) ≡ some n (λ k. f k || g k)
unfolding some
some_or zero f g = refl
some_or (suc n) f g = swap (f n) (some n f) (g n) (some n g) ∙ ap (λ b. (f n || g n) || b) (some_or n f g)
  where
    swap : (a b c d : Bool) → ((a || b) || (c || d)) ≡ ((a || c) || (b || d))
    swap true b c d = refl
    swap false b c d = sym (or_assoc b c d) ∙ ap (λ e. e || d) (or_comm b c) ∙ or_assoc c b d

pub some_none : (test : ℕ → Bool) → false ≡ some 0 test
unfolding some
some_none test = refl

pub count_none : (test : ℕ → Bool) → 0 ≡ count 0 test
unfolding count
count_none test = refl

pub count_taken : (n : ℕ) (test : ℕ → Bool) → test n ≡ true → count n test + 1 ≡ count (n + 1) test
unfolding count
count_taken n test h = subst (λ m. count n test + 1 ≡ count m test) (sym (add-one n)) (rw h (omega arith))

pub count_left : (n : ℕ) (test : ℕ → Bool) → test n ≡ false → count n test ≡ count (n + 1) test
unfolding count
count_left n test h = subst (λ m. count n test ≡ count m test) (sym (add-one n)) (rw h (omega arith))

pub count_like : (n : ℕ) (f g : ℕ → Bool) → ((k : ℕ) → k < n → f k ≡ g k) → count n f ≡ count n g
unfolding count
count_like zero f g like = refl
count_like (suc n) f g like = rw (like n (omega arith), count_like n f g (λ k h. like k (omega arith)))
