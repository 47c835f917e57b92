-- Every derivation holds in every interpretation that fits the axioms.
use Rattle.std.proofs.Common.{ℕ, List, [], ◌∷◌, subst, inl, inr}
use Rattle.axioms.specs.declared.axiom_types.Axiom.{Axiom}
use Rattle.axioms.specs.declared.kinds.Kind.{Kind}
use Rattle.closing.specs.Meaning.{Interpretation, Holds, Fits, FitsAll}
use Rattle.closing.specs.Rules.{Says, Stated, Derives, stated, csub_self, csub_csub, psub_self, psub_psub, psubinv_psubinv, psubinv_psub, psub_psubinv, dom_csub, ran_csub, psub_dom, psub_ran, psubinv_dom, psubinv_ran, cdis_turned, csub_cdis, pdis_turned, psub_pdis, cdis_doms, cdis_rans, pdisinv_psub, psubinv_pdis, psubinv_pdisinv, pdisinv_turned}

module _ (I : Interpretation) where
  says_holds : (a : Axiom) (k : Kind) (l r : ℕ) → Says a k l r → Fits I a → Holds I k l r
  says_holds a k l r says fits =
      subst (λ z. Holds I z l r) says.kind
      (subst (λ z. Holds I a.kind z r) says.left
      (subst (λ z. Holds I a.kind a.left z) says.right fits))

  stated_holds : (axioms : List Axiom) (k : Kind) (l r : ℕ) → FitsAll I axioms → Stated axioms k l r → Holds I k l r
  stated_holds [] k l r fits g = absurd g
  stated_holds (a ∷ axioms) k l r fits (inl says) = says_holds a k l r says fits.0
  stated_holds (a ∷ axioms) k l r fits (inr g) = stated_holds axioms k l r fits.1 g

  pub sound : {axioms : List Axiom} {classes properties : ℕ} {k : Kind} {l r : ℕ} →
      FitsAll I axioms → Derives axioms classes properties k l r → Holds I k l r
  sound {axioms} {k} {l} {r} fits (stated g) = stated_holds axioms k l r fits g
  sound fits (csub_self h) = λ x m. m
  sound fits (cdis_turned d) = λ x m n. sound fits d x n m
  sound fits (csub_csub d e) = λ x m. sound fits e x (sound fits d x m)
  sound fits (csub_cdis d e) = λ x m. sound fits e x (sound fits d x m)
  sound fits (psub_self h) = λ x y m. m
  sound fits (pdis_turned d) = λ x y m n. sound fits d x y n m
  sound fits (psub_psub d e) = λ x y m. sound fits e x y (sound fits d x y m)
  sound fits (psub_pdis d e) = λ x y m. sound fits e x y (sound fits d x y m)
  sound fits (dom_csub d e) = λ x y m. sound fits e x (sound fits d x y m)
  sound fits (ran_csub d e) = λ x y m. sound fits e y (sound fits d x y m)
  sound fits (psub_dom d e) = λ x y m. sound fits e x y (sound fits d x y m)
  sound fits (psub_ran d e) = λ x y m. sound fits e x y (sound fits d x y m)
  sound fits (cdis_doms d e f) = λ x y m n. sound fits d x (sound fits e x y m) (sound fits f x y m)
  sound fits (cdis_rans d e f) = λ x y m n. sound fits d y (sound fits e x y m) (sound fits f x y m)
  sound fits (psubinv_dom d e) = λ x y m. sound fits e y x (sound fits d x y m)
  sound fits (psubinv_ran d e) = λ x y m. sound fits e y x (sound fits d x y m)
  sound fits (psubinv_psubinv d e) = λ x y m. sound fits e y x (sound fits d x y m)
  sound fits (psubinv_psub d e) = λ x y m. sound fits e y x (sound fits d x y m)
  sound fits (psub_psubinv d e) = λ x y m. sound fits e x y (sound fits d x y m)
  sound fits (pdisinv_psub d e) = λ x y m n. sound fits d x y m (sound fits e y x n)
  sound fits (psubinv_pdis d e) = λ x y m n. sound fits e y x (sound fits d x y m) n
  sound fits (psubinv_pdisinv d e) = λ x y m n. sound fits e y x (sound fits d x y m) n
  sound fits (pdisinv_turned d) = λ x y m n. sound fits d y x n m
