-- Steps between names with a sign each, which adds up along a chain: one scheme for relations as they stand, where there is
-- one sign, and for relations beside reversed ones, where there are two. Offered to the crates above.
use Rattle.std.proofs.Common.{◌≡◌, ℕ, Bool, true, false, not, ◌&&◌, sym, refl, ap, ◌∙◌, subst, inl, inr}
use Rattle.std.proofs.Math.Bool.{not-not}
use Rattle.std.proofs.lemmas.Bool.{and_parts, or_cases, or_left, or_right}
use Rattle.tables.specs.Relations.{Rel}
use Rattle.tables.specs.Signed.{plus, via}
use Rattle.tables.proofs.Sums.{and_both}

pub record Signs : Type 1 where
  pub Sign : Type 0
  pub none : Sign
  pub add : Sign → Sign → Sign
  pub none_add : (s : Sign) → add none s ≡ s
  pub comm : (s t : Sign) → add s t ≡ add t s
  pub assoc : (s t u : Sign) → add (add s t) u ≡ add s (add t u)
  pub twice : (t s : Sign) → add t (add t s) ≡ s
  -- a step to k and a step from there, whose signs add up to s
  pub by : (Sign → Rel) → (Sign → Rel) → ℕ → Sign → Rel
  pub by_parts : (E F : Sign → Rel) (k : ℕ) (s : Sign) (a b : ℕ) → by E F k s a b ≡ true → (t : Sign) × (E t a k ≡ true) × (F (add t s) k b ≡ true)
  pub by_made : (E F : Sign → Rel) (k : ℕ) (t s : Sign) (a b : ℕ) → E t a k ≡ true → F (add t s) k b ≡ true → by E F k s a b ≡ true
  pub by_like : (E F E' F' : Sign → Rel) (k : ℕ) (s : Sign) (a b : ℕ) → ((t : Sign) → E t a k ≡ E' t a k) → ((t : Sign) → F t k b ≡ F' t k b) → by E F k s a b ≡ by E' F' k s a b

-- one sign
abbrev pub plain : Signs
plain = record {
  Sign = Unit {0};
  none = tt;
  add = λ s t. t;
  none_add = λ s. refl;
  comm = λ s t. refl;
  assoc = λ s t u. refl;
  twice = λ t s. refl;
  by = λ E F k s a b. E s a k && F s k b;
  by_parts = λ E F k s a b h. (s, (and_parts (E s a k) (F s k b) h).0, (and_parts (E s a k) (F s k b) h).1);
  by_made = λ E F k t s a b g h. and_both (E t a k) (F s k b) g h;
  by_like = λ E F E' F' k s a b e f. rw (e s, f s);
}

pub plus_comm : (s t : Bool) → plus s t ≡ plus t s
plus_comm false false = refl
plus_comm false true = refl
plus_comm true false = refl
plus_comm true true = refl

pub plus_assoc : (s t u : Bool) → plus (plus s t) u ≡ plus s (plus t u)
plus_assoc false t u = refl
plus_assoc true false u = refl
plus_assoc true true u = sym (not-not u)

pub plus_twice : (t s : Bool) → plus t (plus t s) ≡ s
plus_twice false s = refl
plus_twice true s = not-not s

pub via_parts : (E F : Bool → Rel) (k : ℕ) (s : Bool) (a b : ℕ) → via E F k s a b ≡ true → (t : Bool) × (E t a k ≡ true) × (F (plus t s) k b ≡ true)
via_parts E F k s a b h =
    elim (or_cases (E false a k && F s k b) (E true a k && F (not s) k b) h) [
      | inl l ↦ let parts = and_parts (E false a k) (F s k b) l in (false, parts.0, parts.1)
      | inr r ↦ let parts = and_parts (E true a k) (F (not s) k b) r in (true, parts.0, parts.1)
    ]

pub via_made : (E F : Bool → Rel) (k : ℕ) (t s : Bool) (a b : ℕ) → E t a k ≡ true → F (plus t s) k b ≡ true → via E F k s a b ≡ true
via_made E F k false s a b g h = or_left (E false a k && F s k b) (E true a k && F (not s) k b) (and_both (E false a k) (F s k b) g h)
via_made E F k true s a b g h = or_right (E false a k && F s k b) (E true a k && F (not s) k b) (and_both (E true a k) (F (not s) k b) g h)

-- two signs: as it stands, and reversed
abbrev pub reversing : Signs
reversing = record {
  Sign = Bool;
  none = false;
  add = plus;
  none_add = λ s. refl;
  comm = plus_comm;
  assoc = plus_assoc;
  twice = plus_twice;
  by = via;
  by_parts = via_parts;
  by_made = via_made;
  by_like = λ E F E' F' k s a b e f. rw (e false, e true, f s, f (not s));
}

module _ (G : Signs) where
  abbrev pub Steps : Type 0
  Steps = G.Sign → Rel

  -- a step under the sign s
  abbrev pub On : Steps → G.Sign → ℕ → ℕ → Type 0
  On E s a b = E s a b ≡ true

  pub under : (E : Steps) (a b : ℕ) {s t : G.Sign} → s ≡ t → On E s a b → On E t a b
  under E a b e h = subst (λ z. On E z a b) e h

  pub shift : (s t u : G.Sign) → G.add t u ≡ G.add (G.add s t) (G.add s u)
  shift s t u = sym (ap (λ x. G.add x (G.add s u)) (G.comm s t) ∙ G.assoc t s (G.add s u) ∙ ap (G.add t) (G.twice s u))

  pub swap : (s t u : G.Sign) → G.add s (G.add t u) ≡ G.add t (G.add s u)
  swap s t u = sym (G.assoc s t u) ∙ ap (λ x. G.add x u) (G.comm s t) ∙ G.assoc t s u
