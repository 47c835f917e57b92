-- The binary digits of a set.
use Rattle.std.proofs.Common.{◌≡◌, ℕ, zero, suc, ◌-◌, ◌*◌, ◌/◌, ◌%◌, ◌^◌, ◌<◌, ◌≤◌, true, false, ◌&&◌, ◌||◌, eqb, ltb, sym, refl, ap, ◌∙◌, inl, inr, arith}
use Rattle.std.proofs.Math.Bool.{and-false, and_self}
use lib.Bits.{bit_and, bit_or}
use lib.Count.{count_trailing_zeros, trailing_of_zero, under}
use Rattle.std.proofs.lemmas.Nat.{and_le_r, one_shl, mod_below, div-add-mod'}
use Rattle.std.proofs.lemmas.Nat.Bits.{bit_at-zero, bit_at-lt, bit_at_or, bit_at_and, bit_at-pow_same, bit_at-pow_other, shr_and_one, bit_at_lowest, bit_at-suc}
use Rattle.std.proofs.lemmas.Bool.{cases_lt, cases_eq, eq-eqb, ne_eqb, lt-ltb, le-ltb}
use Rattle.std.proofs.lemmas.Bool.Decides.{nat_tests}
use Rattle.tables.specs.Relations.{some}
use Rattle.tables.specs.Sets.{bit}
use Rattle.tables.proofs.Sums.{some_made, some_never, some_like}

pub bit_none : (j : ℕ) → bit 0 j ≡ false
unfolding bit
bit_none j = rw (bit_at-zero j)

pub bit_of_or : (x y j : ℕ) → bit (bit_or x y) j ≡ (bit x j || bit y j)
unfolding bit
bit_of_or x y j = rw (bit_at_or x y j) (grind (arith, nat_tests, bit_at-lt x j, bit_at-lt y j))

bit_of_and : (x y j : ℕ) → bit (bit_and x y) j ≡ (bit x j && bit y j)
unfolding bit
bit_of_and x y j = rw (bit_at_and x y j) (grind (arith, nat_tests, bit_at-lt x j, bit_at-lt y j))

-- a power of two has one digit
bit_pow : (k j : ℕ) → bit (2 ^ k) j ≡ eqb j k
unfolding bit
bit_pow k j =
    elim (cases_eq j k) [
      | inl e ↦ rw (e, bit_at-pow_same k, eq-eqb k k refl)
      | inr ne ↦ rw (bit_at-pow_other k j ne, ne_eqb j k ne)
    ]

pub bit_only : (k j : ℕ) → k < 64 → bit ((1 * 2 ^ k) % 2 ^ 64) j ≡ eqb j k
bit_only k j h = rw (one_shl k 64 h) (bit_pow k j)

pub bit_read : (x k : ℕ) → eqb (bit_and (x / 2 ^ k) 1) 1 ≡ bit x k
unfolding bit
bit_read x k = rw (shr_and_one x k)

bit_lowest : (x : ℕ) → bit x 0 ≡ eqb (x % 2) 1
unfolding bit
bit_lowest x = rw (bit_at_lowest x)

bit_above : (x k : ℕ) → bit x (suc k) ≡ bit (x / 2) k
unfolding bit
bit_above x k = rw (bit_at-suc x k)

-- below the lowest digit that is 1 there are zeros
pub trailing_none : (w x k : ℕ) → k < count_trailing_zeros w x → bit x k ≡ false
unfolding count_trailing_zeros
trailing_none zero x k h = absurd (omega arith)
trailing_none (suc w) x k h = go (trailing_none w (x / 2)) (x % 2) refl k h
  where
    go : ((k : ℕ) → k < count_trailing_zeros w (x / 2) → bit (x / 2) k ≡ false) → (d : ℕ) → x % 2 ≡ d → (k : ℕ) → k < under d (count_trailing_zeros w (x / 2)) → bit x k ≡ false
    go rest zero e zero h = bit_lowest x ∙ rw e
    go rest zero e (suc k) h = bit_above x k ∙ rest k (omega arith)
    go rest (suc d) e k h = absurd (omega arith)

pub trailing_one : (w x : ℕ) → count_trailing_zeros w x < w → bit x (count_trailing_zeros w x) ≡ true
unfolding count_trailing_zeros
trailing_one zero x h = absurd (omega arith)
trailing_one (suc w) x h = go (trailing_one w (x / 2)) (x % 2) refl (mod_below x 2 (omega arith)) h
  where
    go : (count_trailing_zeros w (x / 2) < w → bit (x / 2) (count_trailing_zeros w (x / 2)) ≡ true) → (d : ℕ) → x % 2 ≡ d → x % 2 < 2 → under d (count_trailing_zeros w (x / 2)) < suc w → bit x (under d (count_trailing_zeros w (x / 2))) ≡ true
    go rest zero e small h = bit_above x (count_trailing_zeros w (x / 2)) ∙ rest (omega arith)
    go rest (suc d) e small h = bit_lowest x ∙ eq-eqb (x % 2) 1 (omega arith)

pub nonzero : (w x : ℕ) → count_trailing_zeros w x < w → 0 < x
nonzero w x h =
    elim (cases_eq x 0) [
      | inl e ↦ let all : count_trailing_zeros w x ≡ w = ap (count_trailing_zeros w) e ∙ trailing_of_zero w in absurd (omega arith)
      | inr ne ↦ omega arith
    ]

-- one less than a number, halved
half_even : (x : ℕ) → 0 < x → x % 2 ≡ 0 → (x - 1) / 2 ≡ x / 2 - 1
half_even x h e = omega (arith, e, div-add-mod' x 2, div-add-mod' (x - 1) 2, mod_below (x - 1) 2 (omega arith))

half_odd : (x : ℕ) → x % 2 ≡ 1 → (x - 1) / 2 ≡ x / 2
half_odd x e = omega (arith, e, div-add-mod' x 2, div-add-mod' (x - 1) 2, mod_below (x - 1) 2 (omega arith))

low_odd : (x : ℕ) → x % 2 ≡ 1 → (x - 1) % 2 ≡ 0
low_odd x e = omega (arith, e, div-add-mod' x 2, div-add-mod' (x - 1) 2, mod_below (x - 1) 2 (omega arith))

ltb-suc : (a b : ℕ) → ltb (suc a) (suc b) ≡ ltb a b
ltb-suc a b = grind (arith, nat_tests)

-- a number and one less share no digit up to the lowest that is 1, and those above it
lowered : (w x j : ℕ) → count_trailing_zeros w x < w → (bit x j && bit (x - 1) j) ≡ (ltb (count_trailing_zeros w x) j && bit x j)
unfolding count_trailing_zeros
lowered zero x j h = absurd (omega arith)
lowered (suc w) x j h = go (lowered w (x / 2)) (x % 2) refl (mod_below x 2 (omega arith)) j h
  where
    go : ((j : ℕ) → count_trailing_zeros w (x / 2) < w → (bit (x / 2) j && bit (x / 2 - 1) j) ≡ (ltb (count_trailing_zeros w (x / 2)) j && bit (x / 2) j)) →
        (d : ℕ) → x % 2 ≡ d → x % 2 < 2 → (j : ℕ) → under d (count_trailing_zeros w (x / 2)) < suc w → (bit x j && bit (x - 1) j) ≡ (ltb (under d (count_trailing_zeros w (x / 2))) j && bit x j)
    go rest zero e small zero h = rw (bit_lowest x, e) (sym (and-false (ltb (suc (count_trailing_zeros w (x / 2))) 0)))
    go rest zero e small (suc j) h =
        let pos : 0 < x = omega (arith, nonzero w (x / 2) (omega arith), div-add-mod' x 2) in
        rw (bit_above x j, bit_above (x - 1) j, half_even x pos e) (rest j (omega arith) ∙ ap (λ b. b && bit (x / 2) j) (sym (ltb-suc (count_trailing_zeros w (x / 2)) j)))
    go rest (suc d) e small zero h = rw (bit_lowest (x - 1), low_odd x (omega arith)) (and-false (bit x 0))
    go rest (suc d) e small (suc j) h = rw (bit_above x j, bit_above (x - 1) j, half_odd x (omega arith), lt-ltb 0 (suc j) (omega arith)) (and_self (bit (x / 2) j))

-- a number without the lowest digit that is 1
pub bit_dropped : (x j : ℕ) → count_trailing_zeros 64 x < 64 → bit (bit_and x (x - 1)) j ≡ (ltb (count_trailing_zeros 64 x) j && bit x j)
bit_dropped x j h = bit_of_and x (x - 1) j ∙ lowered 64 x j h

-- the lowest digit that is 1 stands below n exactly when some digit below n is 1
first_below : (n x : ℕ) → n ≤ 64 → ltb (count_trailing_zeros 64 x) n ≡ some n (bit x)
first_below n x h =
    let t = count_trailing_zeros 64 x in
    elim (cases_lt t n) [
      | inl within ↦ rw (lt-ltb t n within) (sym (some_made n (bit x) t within (trailing_one 64 x (omega arith))))
      | inr past ↦ rw (le-ltb t n past) (some_never n (bit x) (λ k hk. trailing_none 64 x k (omega arith)))
    ]

-- some digit below n is 1 in both exactly when the lowest that is stands below n
pub share_below : (n x y : ℕ) → n ≤ 64 → ltb (count_trailing_zeros 64 (bit_and x y)) n ≡ some n (λ j. bit x j && bit y j)
share_below n x y h = first_below n (bit_and x y) h ∙ some_like n _ _ (λ j hj. bit_of_and x y j)

pub less_dropped : (x : ℕ) → 0 < x → bit_and x (x - 1) < x
less_dropped x h = omega (arith, and_le_r x (x - 1))
