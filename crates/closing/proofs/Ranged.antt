-- The test for what is stated, and that what can be derived is between names below their counts.
use Rattle.std.proofs.Common.{◌≡◌, ℕ, ◌<◌, true, ◌&&◌, eqb, ltb, List, [], ◌∷◌, sym, ap, subst, inl, inr}
use Rattle.std.proofs.lemmas.Bool.{and_parts, or_cases, or_left, or_right, ltb-true, eqb-true, eq-eqb}
use Rattle.tables.proofs.Sums.{and_both}
use Rattle.axioms.specs.declared.axiom_types.Axiom.{Axiom}
use Rattle.axioms.specs.declared.kinds.Kind.{Kind}
use Rattle.axioms.specs.Kinds.{row}
use Rattle.axioms.specs.Axioms.{count, names_in_range}
use Rattle.axioms.proofs.Formed.{same_kind}
use Rattle.closing.specs.Rules.{Says, Stated, Derives, stated, csub_self, csub_csub, psub_self, psub_psub, psubinv_psubinv, psubinv_psub, psub_psubinv, dom_csub, ran_csub, psub_dom, psub_ran, psubinv_dom, psubinv_ran, cdis_turned, csub_cdis, pdis_turned, psub_pdis, cdis_doms, cdis_rans, pdisinv_psub, psubinv_pdis, psubinv_pdisinv, pdisinv_turned}
use Rattle.closing.specs.Tests.{says, is_stated}

says_it : (a : Axiom) (k : Kind) (l r : ℕ) → says a k l r ≡ true → Says a k l r
says_it a k l r h =
    let outer = and_parts (eqb (row a.kind).code (row k).code) (eqb l a.left && eqb r a.right) h in
    let inner = and_parts (eqb l a.left) (eqb r a.right) outer.1 in
    record {
      kind = same_kind a.kind k (eqb-true _ _ outer.0);
      left = sym (eqb-true _ _ inner.0);
      right = sym (eqb-true _ _ inner.1);
    }

it_says : (a : Axiom) (k : Kind) (l r : ℕ) → Says a k l r → says a k l r ≡ true
it_says a k l r s =
    and_both _ _ (eq-eqb _ _ (ap (λ j. (row j).code) s.kind)) (and_both _ _ (eq-eqb _ _ (sym s.left)) (eq-eqb _ _ (sym s.right)))

pub stated_from : (axioms : List Axiom) (k : Kind) (l r : ℕ) → is_stated axioms k l r ≡ true → Stated axioms k l r
stated_from [] k l r h = cc
stated_from (a ∷ axioms) k l r h =
    elim (or_cases (says a k l r) (is_stated axioms k l r) h) [
      | inl s ↦ inl (says_it a k l r s)
      | inr t ↦ inr (stated_from axioms k l r t)
    ]

pub stated_to : (axioms : List Axiom) (k : Kind) (l r : ℕ) → Stated axioms k l r → is_stated axioms k l r ≡ true
stated_to [] k l r g = absurd g
stated_to (a ∷ axioms) k l r (inl s) = or_left (says a k l r) (is_stated axioms k l r) (it_says a k l r s)
stated_to (a ∷ axioms) k l r (inr g) = or_right (says a k l r) (is_stated axioms k l r) (stated_to axioms k l r g)

module _ (classes properties : ℕ) where
  abbrev pub lefts : Kind → ℕ
  lefts k = count classes properties (row k).left

  abbrev pub rights : Kind → ℕ
  rights k = count classes properties (row k).right

  abbrev pub Ranged : Kind → ℕ → ℕ → Type 0
  Ranged k l r = (l < lefts k) × (r < rights k)

  -- every axiom has its names below their counts
  abbrev pub AllRanged : List Axiom → Type 0
  AllRanged axioms = (k : Kind) (l r : ℕ) → Stated axioms k l r → Ranged k l r

  pub says_ranged : (a : Axiom) (k : Kind) (l r : ℕ) → names_in_range classes properties a.kind a.left a.right ≡ true → Says a k l r → Ranged k l r
  says_ranged a k l r h s =
      let parts = and_parts (ltb a.left (lefts a.kind)) (ltb a.right (rights a.kind)) h in
      subst (λ z. Ranged z l r) s.kind
      (subst (λ z. Ranged a.kind z r) s.left
      (subst (λ z. Ranged a.kind a.left z) s.right (ltb-true _ _ parts.0, ltb-true _ _ parts.1)))

  module _ {axioms : List Axiom} (all : AllRanged axioms) where
    pub ranged : {k : Kind} {l r : ℕ} → Derives axioms classes properties k l r → Ranged k l r
    ranged {k} {l} {r} (stated g) = all k l r g
    ranged (csub_self a) = (a, a)
    ranged (csub_csub d e) = ((ranged d).0, (ranged e).1)
    ranged (psub_self p) = (p, p)
    ranged (psub_psub d e) = ((ranged d).0, (ranged e).1)
    ranged (psubinv_psubinv d e) = ((ranged d).0, (ranged e).1)
    ranged (psubinv_psub d e) = ((ranged d).0, (ranged e).1)
    ranged (psub_psubinv d e) = ((ranged d).0, (ranged e).1)
    ranged (dom_csub d e) = ((ranged d).0, (ranged e).1)
    ranged (ran_csub d e) = ((ranged d).0, (ranged e).1)
    ranged (psub_dom d e) = ((ranged d).0, (ranged e).1)
    ranged (psub_ran d e) = ((ranged d).0, (ranged e).1)
    ranged (psubinv_dom d e) = ((ranged d).0, (ranged e).1)
    ranged (psubinv_ran d e) = ((ranged d).0, (ranged e).1)
    ranged (cdis_turned d) = ((ranged d).1, (ranged d).0)
    ranged (csub_cdis d e) = ((ranged d).0, (ranged e).1)
    ranged (pdis_turned d) = ((ranged d).1, (ranged d).0)
    ranged (psub_pdis d e) = ((ranged d).0, (ranged e).1)
    ranged (cdis_doms d e f) = ((ranged e).0, (ranged e).0)
    ranged (cdis_rans d e f) = ((ranged e).0, (ranged e).0)
    ranged (pdisinv_psub d e) = ((ranged d).0, (ranged e).0)
    ranged (psubinv_pdis d e) = ((ranged d).0, (ranged e).1)
    ranged (psubinv_pdisinv d e) = ((ranged d).0, (ranged e).1)
    ranged (pdisinv_turned d) = ((ranged d).1, (ranged d).0)
