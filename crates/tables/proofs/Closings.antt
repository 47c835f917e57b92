-- Both closings hold what they are given, join along chains, and hold no more. Offered to the crates above.
use Rattle.std.proofs.Common.{◌≡◌, ℕ, zero, suc, ◌<◌, Bool, true, false, not, ◌&&◌, eqb, ◌⊎◌, sym, refl, subst, inl, inr, arith}
use Rattle.std.proofs.lemmas.Bool.{and_parts, or_cases, or_left, or_right, eqb-true, eq-eqb}
use Rattle.tables.specs.Relations.{Rel, closed}
use Rattle.tables.specs.Signed.{Signed, plus, via, joined, signed_closed}
use Rattle.tables.proofs.Sums.{and_both}
use Rattle.tables.proofs.Signs.{plain, reversing, Steps, On, under}
use Rattle.tables.proofs.Joining.{JoinsBelow, across_old, across_within, across_joins}

-- a relation as steps of one sign
abbrev pub steps : Rel → Steps plain
steps R s = R

pub closed_holds : (n : ℕ) (R : Rel) (a b : ℕ) → R a b ≡ true → closed n R a b ≡ true
unfolding closed
closed_holds zero R a b h = h
closed_holds (suc k) R a b h = across_old plain k (steps (closed k R)) tt a b (closed_holds k R a b h)

pub closed_joins : (n : ℕ) (R : Rel) → JoinsBelow plain n (steps (closed n R))
unfolding closed
closed_joins zero R s u a m b h left right = absurd (omega arith)
closed_joins (suc k) R s u a m b h left right = across_joins plain k (steps (closed k R)) (λ s u b g h. h) (closed_joins k R) s u a m b h left right

pub closed_within : (P : ℕ → ℕ → Type 0) (n : ℕ) → ((a m b : ℕ) → m < n → P a m → P m b → P a b) → (R : Rel) → ((a b : ℕ) → R a b ≡ true → P a b) → (a b : ℕ) → closed n R a b ≡ true → P a b
unfolding closed
closed_within P zero passes R base a b h = base a b h
closed_within P (suc k) passes R base a b h =
    across_within plain k (steps (closed k R)) (λ s. P) (λ s u a b. passes a k b (omega arith)) (λ s. closed_within P k (λ a m b hm. passes a m b (omega arith)) R base) tt a b h

-- the row of k joined to itself
module _ (k : ℕ) (T : Signed) where
  abbrev F : Signed
  F = joined k k T

  f_old : (s : Bool) (a b : ℕ) → On reversing T s a b → On reversing F s a b
  f_old s a b h = or_left (T s a b) (eqb a k && via T T k s k b) h

  f_new : (t s : Bool) (b : ℕ) → On reversing T t k k → On reversing T (plus t s) k b → On reversing F s k b
  f_new t s b g h = or_right (T s k b) (eqb k k && via T T k s k b) (and_both (eqb k k) (via T T k s k b) (eq-eqb k k refl) (reversing.by_made T T k t s k b g h))

  f_view : (s : Bool) (a b : ℕ) → On reversing F s a b → On reversing T s a b ⊎ ((a ≡ k) × On reversing (via T T k) s k b)
  f_view s a b h =
      elim (or_cases (T s a b) (eqb a k && via T T k s k b) h) [
        | inl l ↦ inl l
        | inr r ↦ let parts = and_parts (eqb a k) (via T T k s k b) r in inr (eqb-true a k parts.0, parts.1)
      ]

  -- k is reversed into itself only if it was
  f_loop : On reversing F true k k → On reversing T true k k
  f_loop h = elim (f_view true k k h) [ inl l ↦ l | inr r ↦ let v = reversing.by_parts T T k true k k r.1 in go v.0 v.1 v.2 ]
    where
      go : (t : Bool) → On reversing T t k k → On reversing T (plus t true) k k → On reversing T true k k
      go false g h = h
      go true g h = g

  f_turn : On reversing T true k k → (u : Bool) (b : ℕ) → On reversing F u k b → On reversing F (not u) k b
  f_turn loop u b h = elim (f_view u k b h) [ inl l ↦ turned l | inr r ↦ let v = reversing.by_parts T T k u k b r.1 in go v.0 v.2 ]
    where
      turned : On reversing T u k b → On reversing F (not u) k b
      turned l = f_new true (not u) b loop (under reversing T k b (sym (reversing.twice true u)) l)

      go : (t : Bool) → On reversing T (plus t u) k b → On reversing F (not u) k b
      go false h = turned h
      go true h = f_old (not u) k b h

  -- a step from k to itself joins the row of k
  pub joined_again : (s u : Bool) (b : ℕ) → On reversing F s k k → On reversing F u k b → On reversing F (plus s u) k b
  joined_again false u b g h = h
  joined_again true u b g h = f_turn (f_loop g) u b h

  joined_joins : JoinsBelow reversing k T → JoinsBelow reversing k F
  joined_joins joins s u a m b less g h =
      elim (f_view u m b h) [
        | inl y ↦ elim (f_view s a m g) [
          | inl x ↦ f_old (plus s u) a b (joins s u a m b less x y)
          | inr x ↦
              let v = reversing.by_parts T T k s k m x.1 in
              let far = under reversing T k b (reversing.assoc v.0 s u) (joins (plus v.0 s) u k m b less v.2 y) in
              subst (λ z. On reversing F (plus s u) z b) (sym x.0) (f_new v.0 (plus s u) b v.1 far)
        ]
        | inr y ↦ absurd (omega (arith, y.0))
      ]

  joined_within : (P : Bool → ℕ → ℕ → Type 0) → ((s u : Bool) (a b : ℕ) → P s a k → P u k b → P (plus s u) a b) →
      ((s : Bool) (a b : ℕ) → On reversing T s a b → P s a b) → (s : Bool) (a b : ℕ) → On reversing F s a b → P s a b
  joined_within P passes base s a b h =
      elim (f_view s a b h) [
        | inl l ↦ base s a b l
        | inr r ↦ subst (λ z. P s z b) (sym r.0) (across_within reversing k T P passes base s k b (or_right (T s k b) (via T T k s k b) r.1))
      ]

pub signed_holds : (n : ℕ) (E : Signed) (s : Bool) (a b : ℕ) → On reversing E s a b → On reversing (signed_closed n E) s a b
unfolding signed_closed
signed_holds zero E s a b h = h
signed_holds (suc k) E s a b h = across_old reversing k (joined k k (signed_closed k E)) s a b (f_old k (signed_closed k E) s a b (signed_holds k E s a b h))

pub signed_joins : (n : ℕ) (E : Signed) → JoinsBelow reversing n (signed_closed n E)
unfolding signed_closed
signed_joins zero E s u a m b h left right = absurd (omega arith)
signed_joins (suc k) E s u a m b h left right = across_joins reversing k (joined k k (signed_closed k E)) (joined_again k (signed_closed k E)) (joined_joins k (signed_closed k E) (signed_joins k E)) s u a m b h left right

pub signed_within : (P : Bool → ℕ → ℕ → Type 0) (n : ℕ) → ((s u : Bool) (a m b : ℕ) → m < n → P s a m → P u m b → P (plus s u) a b) →
    (E : Signed) → ((s : Bool) (a b : ℕ) → On reversing E s a b → P s a b) → (s : Bool) (a b : ℕ) → On reversing (signed_closed n E) s a b → P s a b
unfolding signed_closed
signed_within P zero passes E base s a b h = base s a b h
signed_within P (suc k) passes E base s a b h =
    let by-k : (s u : Bool) (a b : ℕ) → P s a k → P u k b → P (plus s u) a b = λ s u a b. passes s u a k b (omega arith) in
    across_within reversing k (joined k k (signed_closed k E)) P by-k (joined_within k (signed_closed k E) P by-k (signed_within P k (λ s u a m b hm. passes s u a m b (omega arith)) E base)) s a b h
