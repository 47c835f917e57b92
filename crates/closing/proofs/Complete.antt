-- A name is empty if the rules find it so, and else it has an example.
use Rattle.std.proofs.Common.{◌≡◌, ℕ, ◌<◌, true, false, ◌&&◌, eqb, ◌⊎◌, List, [], ◌∷◌, Decides, refl, inl, inr, arith}
use Rattle.std.proofs.lemmas.Bool.{and_parts, or_cases, or_left, or_right, eqb-true, eq-eqb}
use Rattle.tables.specs.Relations.{Rel}
use Rattle.tables.proofs.Sums.{and_both}
use Rattle.axioms.specs.declared.axiom_types.Axiom.{Axiom}
use Rattle.axioms.specs.declared.kinds.Kind.{Kind}
use Rattle.axioms.specs.declared.kinds.Kind.TheVariants.{Csub, Psub, Cdis, Pdis, Dom, Ran, Psubinv, Pdisinv}
use Rattle.closing.specs.Meaning.{Interpretation, Holds, FitsAll, Empty, Inhabited}
use Rattle.closing.specs.Examples.{class_example, property_example}
use Rattle.closing.specs.Rules.{Stated, Derives, stated, csub_self, csub_csub, psub_self, psub_psub, psubinv_psubinv, psubinv_psub, psub_psubinv, dom_csub, ran_csub, psub_dom, psub_ran, psubinv_dom, psubinv_ran, cdis_turned, csub_cdis, pdis_turned, psub_pdis, cdis_doms, cdis_rans, pdisinv_psub, psubinv_pdis, psubinv_pdisinv, pdisinv_turned}
use Rattle.closing.specs.declared.names.Name.TheVariants.{Class, Property}
use Rattle.closing.proofs.Soundness.{sound}

-- an interpretation fits the axioms if all that they state holds
pub fits_all : (I : Interpretation) (axioms : List Axiom) → ((k : Kind) (l r : ℕ) → Stated axioms k l r → Holds I k l r) → FitsAll I axioms
fits_all I [] each = tt
fits_all I (a ∷ axioms) each =
    (each a.kind a.left a.right (inl (record { kind = refl; left = refl; right = refl })), fits_all I axioms (λ k l r g. each k l r (inr g)))

pub never : {X : Type 0} → false ≡ true → X
never h = cc

module _ (axioms : List Axiom) (classes properties : ℕ) where
  abbrev D : Kind → ℕ → ℕ → Type 0
  D k l r = Derives axioms classes properties k l r

  pub class_empty : (a : ℕ) → D Cdis a a → Empty axioms (Class a)
  class_empty a d = λ I fits x m. sound I fits d x m m

  pub property_empty : (p : ℕ) → D Pdis p p → Empty axioms (Property p)
  property_empty p d = λ I fits x y m. sound I fits d x y m m

  module _ (test : Kind → Rel) (decides : (k : Kind) (l r : ℕ) → Decides (test k l r) (D k l r)) where
    class_holds : (a : ℕ) → (D Cdis a a → ⊥) → (k : Kind) (l r : ℕ) → Stated axioms k l r → Holds (class_example test a) k l r
    class_holds a none Csub l r g = λ x m.
        let parts = and_parts (eqb x 0) (test Csub a l) m in
        and_both (eqb x 0) (test Csub a r) parts.0 ((decides Csub a r).1 (csub_csub ((decides Csub a l).0 parts.1) (stated g)))
    class_holds a none Psub l r g = λ x y m. never m
    class_holds a none Cdis l r g = λ x m n.
        let in_left = (decides Csub a l).0 (and_parts (eqb x 0) (test Csub a l) m).1 in
        let in_right = (decides Csub a r).0 (and_parts (eqb x 0) (test Csub a r) n).1 in
        none (csub_cdis in_right (cdis_turned (csub_cdis in_left (stated g))))
    class_holds a none Pdis l r g = λ x y m n. never m
    class_holds a none Dom l r g = λ x y m. never m
    class_holds a none Ran l r g = λ x y m. never m
    class_holds a none Psubinv l r g = λ x y m. never m
    class_holds a none Pdisinv l r g = λ x y m n. never m

    pub class_inhabited : (a : ℕ) → a < classes → (D Cdis a a → ⊥) → Inhabited axioms (Class a)
    class_inhabited a h none =
        (class_example test a, fits_all (class_example test a) axioms (class_holds a none), (0, (decides Csub a a).1 (csub_self h)))

    module _ (p : ℕ) where
      abbrev I : Interpretation
      I = property_example test p

      -- the two individuals, each with its classes
      member_view : (c x : ℕ) → I.member c x ≡ true → ((x ≡ 0) × D Dom p c) ⊎ ((x ≡ 1) × D Ran p c)
      member_view c x m =
          elim (or_cases (eqb x 0 && test Dom p c) (eqb x 1 && test Ran p c) m) [
            | inl s ↦ let parts = and_parts (eqb x 0) (test Dom p c) s in inl (eqb-true x 0 parts.0, (decides Dom p c).0 parts.1)
            | inr t ↦ let parts = and_parts (eqb x 1) (test Ran p c) t in inr (eqb-true x 1 parts.0, (decides Ran p c).0 parts.1)
          ]

      first : (c x : ℕ) → x ≡ 0 → D Dom p c → I.member c x ≡ true
      first c x e d = or_left (eqb x 0 && test Dom p c) (eqb x 1 && test Ran p c) (and_both (eqb x 0) (test Dom p c) (eq-eqb x 0 e) ((decides Dom p c).1 d))

      second : (c x : ℕ) → x ≡ 1 → D Ran p c → I.member c x ≡ true
      second c x e d = or_right (eqb x 0 && test Dom p c) (eqb x 1 && test Ran p c) (and_both (eqb x 1) (test Ran p c) (eq-eqb x 1 e) ((decides Ran p c).1 d))

      -- the two pairs, each with its properties
      pair_view : (q x y : ℕ) → I.pair q x y ≡ true → ((x ≡ 0) × (y ≡ 1) × D Psub p q) ⊎ ((x ≡ 1) × (y ≡ 0) × D Psubinv p q)
      pair_view q x y m =
          elim (or_cases ((eqb x 0 && eqb y 1) && test Psub p q) ((eqb x 1 && eqb y 0) && test Psubinv p q) m) [
            | inl s ↦
                let parts = and_parts (eqb x 0 && eqb y 1) (test Psub p q) s in
                let ends = and_parts (eqb x 0) (eqb y 1) parts.0 in
                inl (eqb-true x 0 ends.0, eqb-true y 1 ends.1, (decides Psub p q).0 parts.1)
            | inr t ↦
                let parts = and_parts (eqb x 1 && eqb y 0) (test Psubinv p q) t in
                let ends = and_parts (eqb x 1) (eqb y 0) parts.0 in
                inr (eqb-true x 1 ends.0, eqb-true y 0 ends.1, (decides Psubinv p q).0 parts.1)
          ]

      forth : (q x y : ℕ) → x ≡ 0 → y ≡ 1 → D Psub p q → I.pair q x y ≡ true
      forth q x y e f d =
          or_left ((eqb x 0 && eqb y 1) && test Psub p q) ((eqb x 1 && eqb y 0) && test Psubinv p q)
          (and_both (eqb x 0 && eqb y 1) (test Psub p q) (and_both (eqb x 0) (eqb y 1) (eq-eqb x 0 e) (eq-eqb y 1 f)) ((decides Psub p q).1 d))

      back : (q x y : ℕ) → x ≡ 1 → y ≡ 0 → D Psubinv p q → I.pair q x y ≡ true
      back q x y e f d =
          or_right ((eqb x 0 && eqb y 1) && test Psub p q) ((eqb x 1 && eqb y 0) && test Psubinv p q)
          (and_both (eqb x 1 && eqb y 0) (test Psubinv p q) (and_both (eqb x 1) (eqb y 0) (eq-eqb x 1 e) (eq-eqb y 0 f)) ((decides Psubinv p q).1 d))

      mixed : {X : Type 0} (x : ℕ) → x ≡ 0 → x ≡ 1 → X
      mixed x e f = absurd (omega arith)

      property_holds : (D Pdis p p → ⊥) → (k : Kind) (l r : ℕ) → Stated axioms k l r → Holds I k l r
      property_holds none Csub l r g = λ x m.
          elim (member_view l x m) [ inl s ↦ first r x s.0 (dom_csub s.1 (stated g)) | inr t ↦ second r x t.0 (ran_csub t.1 (stated g)) ]
      property_holds none Psub l r g = λ x y m.
          elim (pair_view l x y m) [ inl s ↦ forth r x y s.0 s.1 (psub_psub s.2 (stated g)) | inr t ↦ back r x y t.0 t.1 (psubinv_psub t.2 (stated g)) ]
      property_holds none Cdis l r g = λ x m n.
          elim (member_view l x m) [
            | inl s ↦ elim (member_view r x n) [ inl t ↦ none (cdis_doms (stated g) s.1 t.1) | inr t ↦ mixed x s.0 t.0 ]
            | inr s ↦ elim (member_view r x n) [ inl t ↦ mixed x t.0 s.0 | inr t ↦ none (cdis_rans (stated g) s.1 t.1) ]
          ]
      property_holds none Pdis l r g = λ x y m n.
          elim (pair_view l x y m) [
            | inl s ↦ elim (pair_view r x y n) [ inl t ↦ none (psub_pdis t.2 (pdis_turned (psub_pdis s.2 (stated g)))) | inr t ↦ mixed x s.0 t.0 ]
            | inr s ↦ elim (pair_view r x y n) [ inl t ↦ mixed x t.0 s.0 | inr t ↦ none (psubinv_pdisinv t.2 (pdisinv_turned (psubinv_pdis s.2 (stated g)))) ]
          ]
      property_holds none Dom l r g = λ x y m.
          elim (pair_view l x y m) [ inl s ↦ first r x s.0 (psub_dom s.2 (stated g)) | inr t ↦ second r x t.0 (psubinv_dom t.2 (stated g)) ]
      property_holds none Ran l r g = λ x y m.
          elim (pair_view l x y m) [ inl s ↦ second r y s.1 (psub_ran s.2 (stated g)) | inr t ↦ first r y t.1 (psubinv_ran t.2 (stated g)) ]
      property_holds none Psubinv l r g = λ x y m.
          elim (pair_view l x y m) [ inl s ↦ back r y x s.1 s.0 (psub_psubinv s.2 (stated g)) | inr t ↦ forth r y x t.1 t.0 (psubinv_psubinv t.2 (stated g)) ]
      property_holds none Pdisinv l r g = λ x y m n.
          elim (pair_view l x y m) [
            | inl s ↦ elim (pair_view r y x n) [ inl t ↦ mixed x s.0 t.1 | inr t ↦ none (psubinv_pdisinv t.2 (pdisinv_psub (pdisinv_turned (stated g)) s.2)) ]
            | inr s ↦ elim (pair_view r y x n) [ inl t ↦ none (psub_pdis t.2 (pdis_turned (psubinv_pdisinv s.2 (stated g)))) | inr t ↦ mixed x t.1 s.0 ]
          ]

      pub property_inhabited : p < properties → (D Pdis p p → ⊥) → Inhabited axioms (Property p)
      property_inhabited h none = (I, fits_all I axioms (property_holds none), (0, 1, forth p 0 1 refl refl (psub_self h)))
