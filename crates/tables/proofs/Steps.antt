-- What a step of a closing makes of the relations that the tables hold, for both closings.
use Rattle.std.proofs.Common.{◌≡◌, ℕ, ◌+◌, ◌<◌, ◌≤◌, Bool, true, false, ◌&&◌, ◌||◌, eqb, ltb, sym, refl, ap, ◌∙◌, add-one, arith}
use Rattle.std.proofs.Math.Bool.{or-false, or_self}
use Rattle.std.proofs.lemmas.Bool.{eqb-true, ne_eqb, le-ltb, lt-ltb}
use Rattle.std.proofs.lemmas.Bool.Decides.{nat_tests}
use Rattle.tables.specs.Least.{LeastJoining, LeastSignedJoining}
use Rattle.tables.specs.Relations.{Rel, Agree, closed}
use Rattle.tables.specs.Signed.{Signed, AgreeBoth, plus, via, joined, crossed, signed_closed}
use Rattle.tables.proofs.Signs.{reversing, under}
use Rattle.tables.proofs.Likeness.{across_like, joined_like}
use Rattle.tables.proofs.Closings.{closed_holds, closed_joins, closed_within, joined_again, signed_holds, signed_joins, signed_within}

ltb_more : (j r : ℕ) → ltb j (r + 1) ≡ (ltb j r || eqb j r)
ltb_more j r = grind (arith, nat_tests)

-- one row more of what is being added
add_row : (x p q v w : Bool) → (q ≡ true → w ≡ v) → ((x || (p && v)) || (q && w)) ≡ (x || ((p || q) && v))
add_row true p q v w same = refl
add_row false true false v w same = or-false v
add_row false true true v w same = rw (same refl) (or_self v)
add_row false false false v w same = refl
add_row false false true v w same = same refl

absorbed : (x p v : Bool) → (v ≡ true → x ≡ true) → (x || (p && v)) ≡ x
absorbed true p v h = refl
absorbed false false v h = refl
absorbed false true false h = refl
absorbed false true true h = sym (h refl)

-- the rows before a are done
abbrev pub Done : ℕ → ℕ → Signed → Signed
Done k a R s i j = R s i j || (ltb i a && via R R k s i j)

module _ (n w : ℕ) (wide : n ≤ w) (k : ℕ) (hk : k < n) (R C : Signed) where
  -- the row of k takes no more from itself, and the row of a takes what the row of k adds to it
  pub done_more : (a : ℕ) → a < n → (C' : Signed) → ((s : Bool) (j : ℕ) → j < w → via R R k s k j ≡ true → R s k j ≡ true) →
      AgreeBoth n w C (Done k a R) → AgreeBoth n w C' (joined a k C) → AgreeBoth n w C' (Done k (a + 1) R)
  done_more a ha C' stable before step s i j hi hj =
      let own : (u : Bool) → C u a k ≡ R u a k = λ u. before u a k ha (omega arith) ∙ rw (le-ltb a a (omega arith)) (or-false (R u a k)) in
      let row : (u : Bool) → C u k j ≡ R u k j = λ u. before u k j hk hj ∙ absorbed (R u k j) (ltb k a) (via R R k u k j) (stable u j hj) in
      let added : via C C k s a j ≡ via R R k s a j = reversing.by_like C C R R k s a j own row in
      step s i j hi hj ∙ ap (λ x. x || (eqb i a && via C C k s a j)) (before s i j hi hj)
      ∙ rw (ltb_more i a) (add_row (R s i j) (ltb i a) (eqb i a) (via R R k s i j) (via C C k s a j)
      (λ h. added ∙ ap (λ z. via R R k s z j) (sym (eqb-true i a h))))

  pub done_all : (T : Signed) → AgreeBoth n w C (Done k n R) → AgreeBoth n w R T → AgreeBoth n w C (crossed k T)
  done_all T done like s i j hi hj =
      done s i j hi hj ∙ rw (lt-ltb i n hi) (across_like reversing n w wide k hk R T like s i j hi hj)

-- a row that is not the one added to stays
pub row_stays : (x y z : Bool) (i a : ℕ) → (i ≡ a → ⊥) → z ≡ (x || (eqb i a && y)) → z ≡ x
row_stays x y z i a ne e = e ∙ rw (ne_eqb i a ne) (or-false x)

-- a relation as it stands
pub least_joining : (n : ℕ) (R C : Rel) → Agree n n C (closed n R) → LeastJoining n R C
least_joining n R C like = record {
  holds = λ a b ha hb h. like a b ha hb ∙ closed_holds n R a b h;
  joins = λ a b c ha hb hc g h. like a c ha hc ∙ closed_joins n R tt tt a b c hb (sym (like a b ha hb) ∙ g) (sym (like b c hb hc) ∙ h);
  least = λ D holds joins a b ha hb h. closed_within (λ a b. a < n → b < n → D a b ≡ true) n (λ a m b hm f g ha hb. joins a m b ha hm hb (f ha hm) (g hm hb)) R (λ a b e ha hb. holds a b ha hb e) a b (sym (like a b ha hb) ∙ h) ha hb;
}

-- a relation beside a reversed one
pub signed_stable : (n w : ℕ) (wide : n ≤ w) (k : ℕ) → k < n → (T R : Signed) → AgreeBoth n w R (joined k k T) → (s : Bool) (j : ℕ) → j < w → via R R k s k j ≡ true → R s k j ≡ true
signed_stable n w wide k hk T R like s j hj h =
    let F = joined k k T in
    let v = reversing.by_parts F F k s k j (sym (reversing.by_like R R F F k s k j (λ t. like t k k hk (omega arith)) (λ t. like t k j hk hj)) ∙ h) in
    like s k j hk hj ∙ under reversing F k j (reversing.twice v.0 s) (joined_again k T v.0 (reversing.add v.0 s) j v.1 v.2)

pub signed_none : (n w : ℕ) (E : Signed) → AgreeBoth n w E (signed_closed 0 E)
unfolding signed_closed
signed_none n w E s i j hi hj = refl

pub signed_more : (n w : ℕ) (wide : n ≤ w) (m : ℕ) (E C D : Signed) → m < n → AgreeBoth n w C (signed_closed m E) → AgreeBoth n w D (crossed m (joined m m C)) → AgreeBoth n w D (signed_closed (m + 1) E)
unfolding signed_closed
signed_more n w wide m E C D hm before step s i j hi hj =
    rw add-one (step s i j hi hj ∙ across_like reversing n w wide m hm (joined m m C) (joined m m (signed_closed m E)) (joined_like n w wide m hm C (signed_closed m E) before) s i j hi hj)

pub least_signed_joining : (n : ℕ) (E C : Signed) → AgreeBoth n n C (signed_closed n E) → LeastSignedJoining n E C
least_signed_joining n E C like = record {
  holds = λ s a b ha hb h. like s a b ha hb ∙ signed_holds n E s a b h;
  joins = λ s u a b c ha hb hc g h. like (plus s u) a c ha hc ∙ signed_joins n E s u a b c hb (sym (like s a b ha hb) ∙ g) (sym (like u b c hb hc) ∙ h);
  least = λ D holds joins s a b ha hb h. signed_within (λ s a b. a < n → b < n → D s a b ≡ true) n (λ s u a m b hm f g ha hb. joins s u a m b ha hm hb (f ha hm) (g hm hb)) E (λ s a b e ha hb. holds s a b ha hb e) s a b (sym (like s a b ha hb) ∙ h) ha hb;
}
