-- What a step of the code makes of a table's rows.
use Rattle.std.proofs.Common.{◌≡◌, ℕ, ◌+◌, Bool, true, false, not, ◌&&◌, ◌||◌, eqb, ltb, refl, ap, ◌∙◌, inl, inr, arith}
use Rattle.std.proofs.Math.Bool.{or-false}
use Rattle.std.proofs.lemmas.Bool.{cases_eq, eq-eqb, ne_eqb, lt-ltb, le-ltb}
use Rattle.std.proofs.lemmas.Bool.Decides.{nat_tests}
use Rattle.tables.specs.Relations.{product}
use Rattle.tables.specs.Signed.{Signed, signed_product}
use Rattle.tables.specs.Tables.{cell, cells}
use Rattle.tables.specs.declared.signed.SignedTable.{SignedTable}
use Rattle.tables.proofs.Sums.{some_or}

-- two sets, each under a condition
pub either : {z x y f g p q f' g' p' q' : Bool} → z ≡ (x || y) → x ≡ (f && p) → y ≡ (g && q) → f ≡ f' → g ≡ g' → p ≡ p' → q ≡ q' → z ≡ ((f' && p') || (g' && q'))
either ez ex ey ef eg ep eq = rw (ez, ex, ey, ef, eg, ep, eq)

-- two tables with no pair
pub no_pair : (t : SignedTable) → ((i j : ℕ) → cell t.along i j ≡ false) → ((i j : ℕ) → cell t.against i j ≡ false) → (s : Bool) (i j : ℕ) → cells t s i j ≡ false
no_pair t along against false = along
no_pair t along against true = against

-- a product added to a product
pub signed_sum : (n : ℕ) (E F : Signed) (s : Bool) (i j : ℕ) (y z : Bool) → y ≡ product n (E false) (F s) i j → z ≡ (y || product n (E true) (F (not s)) i j) → z ≡ signed_product n E F s i j
signed_sum n E F s i j y z one two =
    two ∙ ap (λ b. b || product n (E true) (F (not s)) i j) one ∙ some_or n (λ k. E false i k && F s k j) (λ k. E true i k && F (not s) k j)

-- one name more beside itself
pub beside_more : (x y : Bool) (i j p q : ℕ) → q ≡ p + 1 → y ≡ (x || (eqb i j && ltb i p)) → (y || (eqb i p && eqb j p)) ≡ (x || (eqb i j && ltb i q))
beside_more x y i j p q up e = rw e (grind (arith, nat_tests))

-- one name more beside itself, if it passes the test
pub beside_taken : (K : ℕ → Bool) (x y : Bool) (i j p : ℕ) → K p ≡ true → y ≡ (x || (eqb i j && (ltb i p && K i))) → (y || (eqb i p && eqb j p)) ≡ (x || (eqb i j && (ltb i (p + 1) && K i)))
beside_taken K x y i j p held e =
    rw e
    (elim (cases_eq i p) [
      | inl is ↦ rw (is, held, le-ltb p p (omega arith), lt-ltb p (p + 1) (omega arith), eq-eqb p p refl, eqb_turned j p) (placed x (eqb p j))
      | inr ne ↦
          let later : ltb i (p + 1) ≡ ltb i p = grind (arith, nat_tests) in
          rw (ne_eqb i p ne, later) (or-false (x || (eqb i j && (ltb i p && K i))))
    ])
  where
    eqb_turned : (a b : ℕ) → eqb a b ≡ eqb b a
    eqb_turned a b = grind (arith, nat_tests)

    placed : (x e : Bool) → ((x || (e && false)) || e) ≡ (x || (e && true))
    placed true e = refl
    placed false true = refl
    placed false false = refl

pub beside_left : (K : ℕ → Bool) (x y : Bool) (i j p : ℕ) → K p ≡ false → y ≡ (x || (eqb i j && (ltb i p && K i))) → y ≡ (x || (eqb i j && (ltb i (p + 1) && K i)))
beside_left K x y i j p held e =
    e ∙ ap (λ b. x || (eqb i j && b))
    (elim (cases_eq i p) [
      | inl is ↦ rw (is, held, le-ltb p p (omega arith), lt-ltb p (p + 1) (omega arith))
      | inr ne ↦
          let later : ltb i (p + 1) ≡ ltb i p = grind (arith, nat_tests) in
          rw later
    ])
