-- Relations between names, as yes or no for each two names; their chains and products.
use Rattle.std.specs.Prelude.{◌≡◌, ℕ, zero, suc, ◌+◌, ◌<◌, ◌≤◌, Bool, false, cond, ◌&&◌, ◌||◌, ◌==◌, nat_lt}

abbrev pub Rel : Type 0
Rel = ℕ → ℕ → Bool

-- the two relations are one over so many left and so many right names
abbrev pub Agree : ℕ → ℕ → Rel → Rel → Type 0
Agree lefts rights R S = (i j : ℕ) → i < lefts → j < rights → R i j ≡ S i j

-- from the left name n on the two relations are one
abbrev pub SameFrom : ℕ → Rel → Rel → Type 0
SameFrom n R S = (i j : ℕ) → n ≤ i → i < 64 → j < 64 → R i j ≡ S i j

-- no name is related
abbrev pub nothing : Rel
nothing a b = false

-- some number below n passes the test
unfoldable pub some : ℕ → (ℕ → Bool) → Bool
some zero test = false
some (suc n) test = test n || some n test

-- how many numbers below n pass the test
unfoldable pub count : ℕ → (ℕ → Bool) → ℕ
count zero test = 0
count (suc n) test = cond (test n) 1 0 + count n test

-- one more pair
abbrev pub marked : ℕ → ℕ → Rel → Rel
marked a b R i j = R i j || (i == a && j == b)

-- each name below n related to itself as well
abbrev pub reflexive : ℕ → Rel → Rel
reflexive n R a b = R a b || (a == b && nat_lt a n)

abbrev pub turned : Rel → Rel
turned R a b = R b a

-- R and then S, by way of a name below n
abbrev pub product : ℕ → Rel → Rel → Rel
product n R S a b = some n (λ k. R a k && S k b)

-- p is related by R to two names below n that are apart
abbrev pub clash : ℕ → Rel → Rel → ℕ → Bool
clash n apart R p = some n (λ b. product n R apart p b && R p b)

-- two steps by way of k as well
abbrev pub through : ℕ → Rel → Rel
through k R a b = R a b || (R a k && R k b)

-- chains of steps by way of names below n
unfoldable pub closed : ℕ → Rel → Rel
closed zero R = R
closed (suc k) R = through k (closed k R)
