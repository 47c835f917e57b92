-- One middle name more: what is joined by way of the names below k is joined by way of k too. Offered to the crates above.
use Rattle.std.proofs.Common.{◌≡◌, ℕ, suc, ◌<◌, ◌||◌, ◌⊎◌, sym, ap, ◌∙◌, subst, inl, inr, arith}
use Rattle.std.proofs.lemmas.Bool.{or_cases, or_left, or_right, cases_lt}
use Rattle.tables.proofs.Signs.{Signs, Steps, On, under, shift}

module _ (G : Signs) where
  -- two steps are a step, by way of a name below n
  abbrev pub JoinsBelow : ℕ → Steps G → Type 0
  JoinsBelow n E = (s u : G.Sign) (a m b : ℕ) → m < n → On G E s a m → On G E u m b → On G E (G.add s u) a b

  module _ (k : ℕ) (F : Steps G) where
    -- what steps by way of k add
    abbrev pub across : Steps G
    across s a b = F s a b || G.by F F k s a b

    across_view : (s : G.Sign) (a b : ℕ) → On G across s a b → On G F s a b ⊎ ((t : G.Sign) × On G F t a k × On G F (G.add t s) k b)
    across_view s a b h = elim (or_cases (F s a b) (G.by F F k s a b) h) [ inl l ↦ inl l | inr r ↦ inr (G.by_parts F F k s a b r) ]

    pub across_old : (s : G.Sign) (a b : ℕ) → On G F s a b → On G across s a b
    across_old s a b h = or_left (F s a b) (G.by F F k s a b) h

    across_new : (t s : G.Sign) (a b : ℕ) → On G F t a k → On G F (G.add t s) k b → On G across s a b
    across_new t s a b g h = or_right (F s a b) (G.by F F k s a b) (G.by_made F F k t s a b g h)

    -- what holds of F, and passes along two steps by way of k, holds of what is added
    pub across_within : (P : G.Sign → ℕ → ℕ → Type 0) → ((s u : G.Sign) (a b : ℕ) → P s a k → P u k b → P (G.add s u) a b) →
        ((s : G.Sign) (a b : ℕ) → On G F s a b → P s a b) → (s : G.Sign) (a b : ℕ) → On G across s a b → P s a b
    across_within P passes base s a b h =
        elim (across_view s a b h) [
          | inl l ↦ base s a b l
          | inr r ↦ subst (λ z. P z a b) (G.twice r.0 s) (passes r.0 (G.add r.0 s) a b (base r.0 a k r.1) (base (G.add r.0 s) k b r.2))
        ]

    -- a step from k to itself joins the row of k, and F is joined by way of the names below k
    module _ (again : (s u : G.Sign) (b : ℕ) → On G F s k k → On G F u k b → On G F (G.add s u) k b) (joins : JoinsBelow k F) where
      from_k : (u : G.Sign) (b : ℕ) → On G across u k b → On G F u k b
      from_k u b h =
          elim (across_view u k b h) [
            | inl l ↦ l
            | inr r ↦ under G F k b (G.twice r.0 u) (again r.0 (G.add r.0 u) b r.1 r.2)
          ]

      pub across_joins : JoinsBelow (suc k) across
      across_joins s u a m b h left right =
          elim (cases_lt m k) [
            | inl less ↦
                elim (across_view s a m left) [
                  | inl x ↦ elim (across_view u m b right) [
                    | inl y ↦ across_old (G.add s u) a b (joins s u a m b less x y)
                    | inr y ↦ across_new (G.add s y.0) (G.add s u) a b (joins s y.0 a m k less x y.1) (under G F k b (shift G s y.0 u) y.2)
                  ]
                  | inr x ↦ elim (across_view u m b right) [
                    | inl y ↦ across_new x.0 (G.add s u) a b x.1 (under G F k b (G.assoc x.0 s u) (joins (G.add x.0 s) u k m b less x.2 y))
                    | inr y ↦
                        let loop = joins (G.add x.0 s) y.0 k m k less x.2 y.1 in
                        let sum = G.assoc (G.add x.0 s) y.0 (G.add y.0 u) ∙ ap (G.add (G.add x.0 s)) (G.twice y.0 u) ∙ G.assoc x.0 s u in
                        across_new x.0 (G.add s u) a b x.1 (under G F k b sum (again (G.add (G.add x.0 s) y.0) (G.add y.0 u) b loop y.2))
                  ]
                ]
            | inr more ↦
                let is : m ≡ k = omega arith in
                let y = from_k u b (subst (λ z. On G across u z b) is right) in
                elim (across_view s a k (subst (λ z. On G across s a z) is left)) [
                  | inl x ↦ across_new s (G.add s u) a b x (under G F k b (sym (G.twice s u)) y)
                  | inr x ↦ across_new x.0 (G.add s u) a b x.1 (under G F k b (G.assoc x.0 s u) (again (G.add x.0 s) u b x.2 y))
                ]
          ]
