-- The test of stage 5 decides which pdis and pdisinv can be derived.
use Rattle.std.proofs.Common.{◌≡◌, ℕ, ◌<◌, Bool, true, false, ◌&&◌, ◌||◌, eqb, ◌⊎◌, List, refl, subst, inl, inr}
use Rattle.std.proofs.lemmas.Bool.{and_parts, or_cases, or_left, or_right, eqb-true, eq-eqb}
use Rattle.tables.specs.Relations.{product, clash}
use Rattle.tables.specs.Signed.{Signed, plus}
use Rattle.tables.proofs.Sums.{and_both, some_made, some_found}
use Rattle.tables.proofs.Signs.{plain, reversing, On}
use Rattle.tables.proofs.Closings.{steps}
use Rattle.tables.proofs.Composing.{times_made, times_found, between_step, between_turned, between_holds, between_within}
use Rattle.axioms.specs.declared.axiom_types.Axiom.{Axiom}
use Rattle.axioms.specs.declared.kinds.Kind.{Kind}
use Rattle.axioms.specs.declared.kinds.Kind.TheVariants.{Cdis, Pdis, Pdisinv}
use Rattle.closing.specs.Rules.{Derives, stated, pdis_turned, psub_pdis, cdis_doms, cdis_rans, pdisinv_psub, psubinv_pdis, psubinv_pdisinv, pdisinv_turned}
use Rattle.closing.specs.Tests.{is_stated, either_way, psub_of, ends_of, cdis_of, pdis_seed, pdis_of}
use Rattle.closing.proofs.Ranged.{AllRanged, stated_from, stated_to}
use Rattle.closing.proofs.Psub.{PsubDerives, psub_derives, psub_joins, psub_selves}
use Rattle.closing.proofs.Psub as psub
use Rattle.closing.proofs.Ends.{EndsDerives, ends_derives, ends_held, ends_ranged}
use Rattle.closing.proofs.Cdis.{either_turned, cdis_derives, cdis_held}

module _ (axioms : List Axiom) (classes properties : ℕ) (all : AllRanged classes properties axioms) where
  abbrev pub pdis_kind : Bool → Kind
  pdis_kind false = Pdis
  pdis_kind true = Pdisinv

  abbrev pub PdisDerives : Bool → ℕ → ℕ → Type 0
  PdisDerives s p q = Derives axioms classes properties (pdis_kind s) p q

  abbrev sub : Signed
  sub = psub_of axioms classes properties

  abbrev ends : Signed
  ends = ends_of axioms classes properties

  abbrev seed : Signed
  seed = pdis_seed axioms classes properties ends (cdis_of axioms classes properties)

  abbrev dis : Signed
  dis = pdis_of axioms classes properties

  -- two classes that are apart both hold the firsts, or both the seconds, of p's pairs
  abbrev clashing : Bool → ℕ → Bool
  clashing s p = clash classes (cdis_of axioms classes properties) (ends s) p

  apart : (s : Bool) (p a b : ℕ) → Derives axioms classes properties Cdis a b → EndsDerives axioms classes properties s p a → EndsDerives axioms classes properties s p b → PdisDerives false p p
  apart false p a b d e f = cdis_doms d e f
  apart true p a b d e f = cdis_rans d e f

  clash_derives : (s : Bool) (p : ℕ) → clashing s p ≡ true → PdisDerives false p p
  clash_derives s p h =
      let outer = some_found classes (λ b. product classes (ends s) (cdis_of axioms classes properties) p b && ends s p b) h in
      let b = outer.0 in
      let parts = and_parts (product classes (ends s) (cdis_of axioms classes properties) p b) (ends s p b) outer.2 in
      let inner = times_found plain classes (steps (ends s)) (steps (cdis_of axioms classes properties)) tt p b parts.0 in
      apart s p inner.0 b (cdis_derives axioms classes properties all inner.0 b inner.4) (ends_derives axioms classes properties s p inner.0 inner.3) (ends_derives axioms classes properties s p b parts.1)

  clash_held : (s : Bool) (p a b : ℕ) → Derives axioms classes properties Cdis a b → EndsDerives axioms classes properties s p a → EndsDerives axioms classes properties s p b → clashing s p ≡ true
  clash_held s p a b d e f =
      some_made classes (λ b. product classes (ends s) (cdis_of axioms classes properties) p b && ends s p b) b (ends_ranged axioms classes properties all s p b f).1
      (and_both _ _ (times_made plain classes (steps (ends s)) (steps (cdis_of axioms classes properties)) tt tt p a b (ends_ranged axioms classes properties all s p a e).1 (ends_held axioms classes properties all s p a e) (cdis_held axioms classes properties all d))
      (ends_held axioms classes properties all s p b f))

  -- what the seed has, either as stated or from a clash
  seed_view : (p q : ℕ) → On reversing seed false p q → (either_way (is_stated axioms Pdis) p q ≡ true) ⊎ ((p ≡ q) × (s : Bool) × (clashing s p ≡ true))
  seed_view p q h =
      elim (or_cases (either_way (is_stated axioms Pdis) p q || (eqb p q && clashing false p)) (eqb p q && clashing true p) h) [
        | inl l ↦ elim (or_cases (either_way (is_stated axioms Pdis) p q) (eqb p q && clashing false p) l) [
          | inl x ↦ inl x
          | inr y ↦ let parts = and_parts (eqb p q) (clashing false p) y in inr (eqb-true p q parts.0, false, parts.1)
        ]
        | inr r ↦ let parts = and_parts (eqb p q) (clashing true p) r in inr (eqb-true p q parts.0, true, parts.1)
      ]

  seed_stated : (p q : ℕ) → either_way (is_stated axioms Pdis) p q ≡ true → On reversing seed false p q
  seed_stated p q h = or_left _ (eqb p q && clashing true p) (or_left (either_way (is_stated axioms Pdis) p q) (eqb p q && clashing false p) h)

  seed_clash : (s : Bool) (p : ℕ) → clashing s p ≡ true → On reversing seed false p p
  seed_clash false p h = or_left _ (eqb p p && clashing true p) (or_right (either_way (is_stated axioms Pdis) p p) (eqb p p && clashing false p) (and_both (eqb p p) (clashing false p) (eq-eqb p p refl) h))
  seed_clash true p h = or_right (either_way (is_stated axioms Pdis) p p || (eqb p p && clashing false p)) (eqb p p && clashing true p) (and_both (eqb p p) (clashing true p) (eq-eqb p p refl) h)

  seed_derives : (s : Bool) (p q : ℕ) → On reversing seed s p q → PdisDerives s p q
  seed_derives false p q h =
      elim (seed_view p q h) [
        | inl l ↦ elim (or_cases (is_stated axioms Pdis p q) (is_stated axioms Pdis q p) l) [
          | inl x ↦ stated (stated_from axioms Pdis p q x)
          | inr y ↦ pdis_turned (stated (stated_from axioms Pdis q p y))
        ]
        | inr r ↦ subst (λ z. PdisDerives false p z) r.0 (clash_derives r.1 p r.2)
      ]
  seed_derives true p q h =
      elim (or_cases (is_stated axioms Pdisinv p q) (is_stated axioms Pdisinv q p) h) [
        | inl x ↦ stated (stated_from axioms Pdisinv p q x)
        | inr y ↦ pdisinv_turned (stated (stated_from axioms Pdisinv q p y))
      ]

  seed_turns : (s : Bool) (p q : ℕ) → On reversing seed s p q → On reversing seed s q p
  seed_turns false p q h =
      elim (seed_view p q h) [
        | inl l ↦ seed_stated q p (either_turned (is_stated axioms Pdis) p q l)
        | inr r ↦ subst (λ z. On reversing seed false z p) r.0 (seed_clash r.1 p r.2)
      ]
  seed_turns true p q h = either_turned (is_stated axioms Pdisinv) p q h

  flips : (s : Bool) (p q : ℕ) → PdisDerives s p q → PdisDerives s q p
  flips false p q d = pdis_turned d
  flips true p q d = pdisinv_turned d

  passes : (t u : Bool) (p q r : ℕ) → PsubDerives axioms classes properties t p q → PdisDerives u q r → PdisDerives (plus t u) p r
  passes false false p q r d e = psub_pdis d e
  passes false true p q r d e = pdisinv_turned (pdisinv_psub (pdisinv_turned e) d)
  passes true false p q r d e = psubinv_pdis d e
  passes true true p q r d e = psubinv_pdisinv d e

  pub pdis_derives : (s : Bool) (p r : ℕ) → On reversing dis s p r → PdisDerives s p r
  pdis_derives = between_within reversing properties sub seed PdisDerives (λ t u p q r g. passes t u p q r (psub_derives axioms classes properties t p q g)) flips seed_derives

  holds : (s : Bool) (p q : ℕ) → p < properties → q < properties → On reversing seed s p q → On reversing dis s p q
  holds = between_holds reversing properties sub seed seed_turns (psub_selves axioms classes properties)

  turned : (s : Bool) (p r : ℕ) → On reversing dis s p r → On reversing dis s r p
  turned = between_turned reversing properties sub seed seed_turns

  stepped : (u s : Bool) (p q r : ℕ) → PsubDerives axioms classes properties u p q → On reversing dis s q r → On reversing dis (plus u s) p r
  stepped u s p q r d h =
      between_step reversing properties sub seed (psub_joins axioms classes properties) u s p q r (psub.below axioms classes properties all u p q d) (psub.held axioms classes properties all u p q d) h

  clashed : (s : Bool) (p a b : ℕ) → Derives axioms classes properties Cdis a b → EndsDerives axioms classes properties s p a → EndsDerives axioms classes properties s p b → On reversing dis false p p
  clashed s p a b d e f =
      let h = ends_ranged axioms classes properties all s p a e in
      holds false p p h.0 h.0 (seed_clash s p (clash_held s p a b d e f))

  mutual
    pdis_held : {p q : ℕ} → PdisDerives false p q → On reversing dis false p q
    pdis_held {p} {q} (stated g) =
        let h = all Pdis p q g in
        holds false p q h.0 h.1 (seed_stated p q (or_left (is_stated axioms Pdis p q) (is_stated axioms Pdis q p) (stated_to axioms Pdis p q g)))
    pdis_held {p} {q} (pdis_turned d) = turned false q p (pdis_held d)
    pdis_held {p} {q} (psub_pdis {q = m} d e) = stepped false false p m q d (pdis_held e)
    pdis_held {p} {q} (cdis_doms {a = a} {b = b} d e f) = clashed false p a b d e f
    pdis_held {p} {q} (cdis_rans {a = a} {b = b} d e f) = clashed true p a b d e f
    pdis_held {p} {q} (psubinv_pdisinv {q = m} d e) = stepped true true p m q d (pdisinv_held e)

    pdisinv_held : {p q : ℕ} → PdisDerives true p q → On reversing dis true p q
    pdisinv_held {p} {q} (stated g) =
        let h = all Pdisinv p q g in
        holds true p q h.0 h.1 (or_left (is_stated axioms Pdisinv p q) (is_stated axioms Pdisinv q p) (stated_to axioms Pdisinv p q g))
    pdisinv_held {p} {q} (pdisinv_psub {q = m} d e) = turned true q p (stepped false true q m p e (turned true p m (pdisinv_held d)))
    pdisinv_held {p} {q} (psubinv_pdis {q = m} d e) = stepped true false p m q d (pdis_held e)
    pdisinv_held {p} {q} (pdisinv_turned d) = turned true q p (pdisinv_held d)

  pub held : (s : Bool) (p q : ℕ) → PdisDerives s p q → On reversing dis s p q
  held false p q d = pdis_held d
  held true p q d = pdisinv_held d
