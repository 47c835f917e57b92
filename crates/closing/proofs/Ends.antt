-- The test of stage 3 decides which dom and ran can be derived.
use Rattle.std.proofs.Common.{ℕ, ◌<◌, Bool, true, false, List}
use Rattle.tables.specs.Signed.{Signed, plus, signed_product}
use Rattle.tables.proofs.Signs.{plain, reversing, On}
use Rattle.tables.proofs.Closings.{steps}
use Rattle.tables.proofs.Composing.{times_made, times_found, times_step, times_within}
use Rattle.axioms.specs.declared.axiom_types.Axiom.{Axiom}
use Rattle.axioms.specs.declared.kinds.Kind.{Kind}
use Rattle.axioms.specs.declared.kinds.Kind.TheVariants.{Csub, Dom, Ran}
use Rattle.closing.specs.Rules.{Derives, stated, dom_csub, ran_csub, psub_dom, psub_ran, psubinv_dom, psubinv_ran}
use Rattle.closing.specs.Tests.{csub_of, psub_of, ends_seed, ends_of}
use Rattle.closing.proofs.Ranged.{AllRanged, stated_from, stated_to, ranged}
use Rattle.closing.proofs.Csub.{csub_derives, csub_joins, csub_selves, csub_held}
use Rattle.closing.proofs.Psub.{PsubDerives, psub_derives, psub_joins, psub_selves}
use Rattle.closing.proofs.Psub as psub

module _ (axioms : List Axiom) (classes properties : ℕ) where
  abbrev pub ends_kind : Bool → Kind
  ends_kind false = Dom
  ends_kind true = Ran

  abbrev pub EndsDerives : Bool → ℕ → ℕ → Type 0
  EndsDerives s p a = Derives axioms classes properties (ends_kind s) p a

  abbrev sub : Signed
  sub = psub_of axioms classes properties

  abbrev near : Signed
  near = signed_product properties sub (ends_seed axioms classes properties)

  abbrev ends : Signed
  ends = ends_of axioms classes properties

  seed : (s : Bool) (p a : ℕ) → On reversing (ends_seed axioms classes properties) s p a → EndsDerives s p a
  seed false p a h = stated (stated_from axioms Dom p a h)
  seed true p a h = stated (stated_from axioms Ran p a h)

  passes : (t u : Bool) (p q a : ℕ) → PsubDerives axioms classes properties t p q → EndsDerives u q a → EndsDerives (plus t u) p a
  passes false false p q a d e = psub_dom d e
  passes false true p q a d e = psub_ran d e
  passes true false p q a d e = psubinv_dom d e
  passes true true p q a d e = psubinv_ran d e

  widens : (s : Bool) (p a b : ℕ) → EndsDerives s p a → Derives axioms classes properties Csub a b → EndsDerives s p b
  widens false p a b d e = dom_csub d e
  widens true p a b d e = ran_csub d e

  pub ends_derives : (s : Bool) (p a : ℕ) → On reversing ends s p a → EndsDerives s p a
  ends_derives s p a h =
      let f = times_found plain classes (steps (near s)) (steps (csub_of axioms classes properties)) tt p a h in
      widens s p f.0 a
      (times_within reversing properties sub (ends_seed axioms classes properties) EndsDerives EndsDerives (λ t u p q a g. passes t u p q a (psub_derives axioms classes properties t p q g)) seed s p f.0 f.3)
      (csub_derives axioms classes properties f.0 a f.4)

  module _ (all : AllRanged classes properties axioms) where
    holds : (s : Bool) (p a : ℕ) → p < properties → a < classes → On reversing (ends_seed axioms classes properties) s p a → On reversing ends s p a
    holds s p a hp ha h =
        times_made plain classes (steps (near s)) (steps (csub_of axioms classes properties)) tt tt p a a ha
        (times_made reversing properties sub (ends_seed axioms classes properties) false s p p a hp (psub_selves axioms classes properties p hp) h)
        (csub_selves axioms classes properties a ha)

    widened : (s : Bool) (p : ℕ) {a b : ℕ} → On reversing ends s p a → Derives axioms classes properties Csub a b → On reversing ends s p b
    widened s p {a} {b} g d =
        let f = times_found plain classes (steps (near s)) (steps (csub_of axioms classes properties)) tt p a g in
        times_made plain classes (steps (near s)) (steps (csub_of axioms classes properties)) tt tt p f.0 b f.1 f.3
        (csub_joins axioms classes properties tt tt f.0 a b (ranged classes properties all d).0 f.4 (csub_held axioms classes properties all d))

    stepped : (u s : Bool) (p q a : ℕ) → PsubDerives axioms classes properties u p q → On reversing ends s q a → On reversing ends (plus u s) p a
    stepped u s p q a d g =
        let f = times_found plain classes (steps (near s)) (steps (csub_of axioms classes properties)) tt q a g in
        times_made plain classes (steps (near (plus u s))) (steps (csub_of axioms classes properties)) tt tt p f.0 a f.1
        (times_step reversing properties sub (ends_seed axioms classes properties) (psub_joins axioms classes properties) u s p q f.0 (psub.below axioms classes properties all u p q d) (psub.held axioms classes properties all u p q d) f.3) f.4

    mutual
      dom_held : {p a : ℕ} → EndsDerives false p a → On reversing ends false p a
      dom_held {p} {a} (stated g) = let h = all Dom p a g in holds false p a h.0 h.1 (stated_to axioms Dom p a g)
      dom_held {p} {a} (dom_csub d e) = widened false p (dom_held d) e
      dom_held {p} {a} (psub_dom {q = q} d e) = stepped false false p q a d (dom_held e)
      dom_held {p} {a} (psubinv_ran {q = q} d e) = stepped true true p q a d (ran_held e)

      ran_held : {p a : ℕ} → EndsDerives true p a → On reversing ends true p a
      ran_held {p} {a} (stated g) = let h = all Ran p a g in holds true p a h.0 h.1 (stated_to axioms Ran p a g)
      ran_held {p} {a} (ran_csub d e) = widened true p (ran_held d) e
      ran_held {p} {a} (psub_ran {q = q} d e) = stepped false true p q a d (ran_held e)
      ran_held {p} {a} (psubinv_dom {q = q} d e) = stepped true false p q a d (dom_held e)

    pub ends_held : (s : Bool) (p a : ℕ) → EndsDerives s p a → On reversing ends s p a
    ends_held false p a d = dom_held d
    ends_held true p a d = ran_held d

    pub ends_ranged : (s : Bool) (p a : ℕ) → EndsDerives s p a → (p < properties) × (a < classes)
    ends_ranged false p a d = ranged classes properties all d
    ends_ranged true p a d = ranged classes properties all d
