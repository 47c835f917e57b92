-- The test of stage 2 decides which psub and psubinv can be derived.
use Rattle.std.proofs.Common.{ℕ, ◌<◌, Bool, true, false, ◌&&◌, eqb, ltb, List, refl, subst, inl, inr}
use Rattle.std.proofs.lemmas.Bool.{and_parts, or_cases, or_left, or_right, eqb-true, ltb-true, eq-eqb, lt-ltb}
use Rattle.tables.specs.Signed.{plus}
use Rattle.tables.proofs.Sums.{and_both}
use Rattle.tables.proofs.Signs.{reversing, On}
use Rattle.tables.proofs.Joining.{JoinsBelow}
use Rattle.tables.proofs.Closings.{signed_holds, signed_joins, signed_within}
use Rattle.axioms.specs.declared.axiom_types.Axiom.{Axiom}
use Rattle.axioms.specs.declared.kinds.Kind.{Kind}
use Rattle.axioms.specs.declared.kinds.Kind.TheVariants.{Psub, Psubinv}
use Rattle.closing.specs.Rules.{Derives, stated, psub_self, psub_psub, psubinv_psubinv, psubinv_psub, psub_psubinv}
use Rattle.closing.specs.Tests.{is_stated, psub_seed, psub_of}
use Rattle.closing.proofs.Ranged.{AllRanged, stated_from, stated_to, ranged}

module _ (axioms : List Axiom) (classes properties : ℕ) where
  abbrev pub psub_kind : Bool → Kind
  psub_kind false = Psub
  psub_kind true = Psubinv

  abbrev pub PsubDerives : Bool → ℕ → ℕ → Type 0
  PsubDerives s p q = Derives axioms classes properties (psub_kind s) p q

  seed : (s : Bool) (p q : ℕ) → On reversing (psub_seed axioms classes properties) s p q → PsubDerives s p q
  seed false p q h =
      elim (or_cases (is_stated axioms Psub p q) (eqb p q && ltb p properties) h) [
        | inl s ↦ stated (stated_from axioms Psub p q s)
        | inr t ↦
            let parts = and_parts (eqb p q) (ltb p properties) t in
            subst (λ z. PsubDerives false p z) (eqb-true p q parts.0) (psub_self (ltb-true p properties parts.1))
      ]
  seed true p q h = stated (stated_from axioms Psubinv p q h)

  passes : (s u : Bool) (p q r : ℕ) → PsubDerives s p q → PsubDerives u q r → PsubDerives (plus s u) p r
  passes false false p q r d e = psub_psub d e
  passes false true p q r d e = psub_psubinv d e
  passes true false p q r d e = psubinv_psub d e
  passes true true p q r d e = psubinv_psubinv d e

  pub psub_derives : (s : Bool) (p q : ℕ) → On reversing (psub_of axioms classes properties) s p q → PsubDerives s p q
  psub_derives = signed_within PsubDerives properties (λ s u p q r h. passes s u p q r) (psub_seed axioms classes properties) seed

  pub psub_joins : JoinsBelow reversing properties (psub_of axioms classes properties)
  psub_joins = signed_joins properties (psub_seed axioms classes properties)

  holds : (s : Bool) (p q : ℕ) → On reversing (psub_seed axioms classes properties) s p q → On reversing (psub_of axioms classes properties) s p q
  holds = signed_holds properties (psub_seed axioms classes properties)

  pub psub_selves : (p : ℕ) → p < properties → On reversing (psub_of axioms classes properties) false p p
  psub_selves p h = holds false p p (or_right (is_stated axioms Psub p p) (eqb p p && ltb p properties) (and_both (eqb p p) (ltb p properties) (eq-eqb p p refl) (lt-ltb p properties h)))

  module _ (all : AllRanged classes properties axioms) where
    mutual
      psub_held : {p q : ℕ} → PsubDerives false p q → On reversing (psub_of axioms classes properties) false p q
      psub_held {p} {q} (stated g) = holds false p q (or_left (is_stated axioms Psub p q) (eqb p q && ltb p properties) (stated_to axioms Psub p q g))
      psub_held {p} {q} (psub_self h) = psub_selves p h
      psub_held {p} {q} (psub_psub {q = m} d e) = psub_joins false false p m q (ranged classes properties all d).1 (psub_held d) (psub_held e)
      psub_held {p} {q} (psubinv_psubinv {q = m} d e) = psub_joins true true p m q (ranged classes properties all d).1 (psubinv_held d) (psubinv_held e)

      psubinv_held : {p q : ℕ} → PsubDerives true p q → On reversing (psub_of axioms classes properties) true p q
      psubinv_held {p} {q} (stated g) = holds true p q (stated_to axioms Psubinv p q g)
      psubinv_held {p} {q} (psubinv_psub {q = m} d e) = psub_joins true false p m q (ranged classes properties all d).1 (psubinv_held d) (psub_held e)
      psubinv_held {p} {q} (psub_psubinv {q = m} d e) = psub_joins false true p m q (ranged classes properties all d).1 (psub_held d) (psubinv_held e)

    pub held : (s : Bool) (p q : ℕ) → PsubDerives s p q → On reversing (psub_of axioms classes properties) s p q
    held false p q d = psub_held d
    held true p q d = psubinv_held d

    pub below : (s : Bool) (p q : ℕ) → PsubDerives s p q → q < properties
    below false p q d = (ranged classes properties all d).1
    below true p q d = (ranged classes properties all d).1
