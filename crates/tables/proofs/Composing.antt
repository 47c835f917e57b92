-- Laws of products, offered to the crates above.
use Rattle.std.proofs.Common.{◌≡◌, ℕ, ◌<◌, sym, subst}
use Rattle.tables.specs.Relations.{some, turned}
use Rattle.tables.proofs.Sums.{some_made, some_found, some_like}
use Rattle.tables.proofs.Signs.{Signs, Steps, On, under, shift, swap}
use Rattle.tables.proofs.Joining.{JoinsBelow}

module _ (G : Signs) (n : ℕ) where
  -- E and then F, by way of a name below n
  abbrev pub times : Steps G → Steps G → Steps G
  times E F s a b = some n (λ k. G.by E F k s a b)

  pub times_like : (E F E' F' : Steps G) (s : G.Sign) (a b : ℕ) → ((t : G.Sign) (k : ℕ) → k < n → E t a k ≡ E' t a k) → ((t : G.Sign) (k : ℕ) → k < n → F t k b ≡ F' t k b) → times E F s a b ≡ times E' F' s a b
  times_like E F E' F' s a b left right =
      some_like n (λ k. G.by E F k s a b) (λ k. G.by E' F' k s a b) (λ k hk. G.by_like E F E' F' k s a b (λ t. left t k hk) (λ t. right t k hk))

  module _ (E F : Steps G) where
    pub times_made : (t s : G.Sign) (a k b : ℕ) → k < n → On G E t a k → On G F (G.add t s) k b → On G (times E F) s a b
    times_made t s a k b h g on = some_made n (λ m. G.by E F m s a b) k h (G.by_made E F k t s a b g on)

    pub times_found : (s : G.Sign) (a b : ℕ) → On G (times E F) s a b → (k : ℕ) × (k < n) × (t : G.Sign) × On G E t a k × On G F (G.add t s) k b
    times_found s a b h =
        let found = some_found n (λ m. G.by E F m s a b) h in
        let parts = G.by_parts E F found.0 s a b found.2 in
        (found.0, found.1, parts.0, parts.1, parts.2)

    -- one step more on the left
    pub times_step : JoinsBelow G n E → (u s : G.Sign) (a m b : ℕ) → m < n → On G E u a m → On G (times E F) s m b → On G (times E F) (G.add u s) a b
    times_step joins u s a m b h g on =
        let found = times_found s m b on in
        times_made (G.add u found.2) (G.add u s) a found.0 b found.1 (joins u found.2 a m found.0 h g found.3) (under G F found.0 b (shift G u found.2 s) found.4)

    -- what passes along a step of E holds of the product where it holds of F
    pub times_within : (P Q : G.Sign → ℕ → ℕ → Type 0) → ((t u : G.Sign) (a m b : ℕ) → On G E t a m → P u m b → Q (G.add t u) a b) →
        ((s : G.Sign) (a b : ℕ) → On G F s a b → P s a b) → (s : G.Sign) (a b : ℕ) → On G (times E F) s a b → Q s a b
    times_within P Q passes base s a b h =
        let found = times_found s a b h in
        subst (λ z. Q z a b) (G.twice found.2 s) (passes found.2 (G.add found.2 s) a found.0 b found.3 (base (G.add found.2 s) found.0 b found.4))

  -- steps of `sub` from both sides to what `seed` relates, where `seed` relates both ways
  module _ (sub seed : Steps G) where
    abbrev half : Steps G
    half s = turned (times sub seed s)

    abbrev pub between : Steps G
    between = times sub half

    -- the steps t from p to q and u from r to o, and the seed from o to q
    pub between_made : (s t u : G.Sign) (p q r o : ℕ) → q < n → o < n → On G sub t p q → On G sub u r o → On G seed (G.add u (G.add t s)) o q → On G between s p r
    between_made s t u p q r o hq ho g h on =
        times_made sub half t s p q r hq g (times_made sub seed u (G.add t s) r o q ho h on)

    pub between_step : JoinsBelow G n sub → (u s : G.Sign) (p q r : ℕ) → q < n → On G sub u p q → On G between s q r → On G between (G.add u s) p r
    between_step joins = times_step sub half joins

    module _ (turns : (s : G.Sign) (a b : ℕ) → On G seed s a b → On G seed s b a) where
      pub between_turned : (s : G.Sign) (p r : ℕ) → On G between s p r → On G between s r p
      between_turned s p r h =
          let f = times_found sub half s p r h in
          let g = times_found sub seed (G.add f.2 s) r f.0 f.4 in
          between_made s g.2 f.2 r g.0 p f.0 g.1 f.1 g.3 f.3
          (under G seed f.0 g.0 (swap G g.2 f.2 s) (turns (G.add g.2 (G.add f.2 s)) g.0 f.0 g.4))

      pub between_holds : ((a : ℕ) → a < n → On G sub G.none a a) → (s : G.Sign) (p q : ℕ) → p < n → q < n → On G seed s p q → On G between s p q
      between_holds self s p q hp hq h =
          between_made s G.none G.none p p q q hp hq (self p hp) (self q hq)
          (under G seed q p (sym (G.none_add (G.add G.none s))) (under G seed q p (sym (G.none_add s)) (turns s p q h)))

    -- what passes along steps of `sub`, and turns, holds of what is between where it holds of the seed
    pub between_within : (P : G.Sign → ℕ → ℕ → Type 0) → ((t u : G.Sign) (a m b : ℕ) → On G sub t a m → P u m b → P (G.add t u) a b) →
        ((s : G.Sign) (a b : ℕ) → P s a b → P s b a) → ((s : G.Sign) (a b : ℕ) → On G seed s a b → P s a b) → (s : G.Sign) (a b : ℕ) → On G between s a b → P s a b
    between_within P passes flips base =
        times_within sub half P P passes (λ s q r h. flips s r q (times_within sub seed P P passes base s r q h))
