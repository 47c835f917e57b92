-- The test of stage 4 decides which cdis can be derived.
use Rattle.std.proofs.Common.{◌≡◌, ◌∙◌, ℕ, true, List, Decides, inl, inr}
use Rattle.std.proofs.lemmas.Bool.{or_cases, or_left}
use Rattle.std.proofs.Math.Bool.{or_comm}
use Rattle.tables.specs.Relations.{Rel}
use Rattle.tables.proofs.Signs.{plain, Steps}
use Rattle.tables.proofs.Closings.{steps}
use Rattle.tables.proofs.Composing.{between_step, between_turned, between_holds, between_within}
use Rattle.axioms.specs.declared.axiom_types.Axiom.{Axiom}
use Rattle.axioms.specs.declared.kinds.Kind.TheVariants.{Cdis}
use Rattle.closing.specs.Rules.{Derives, stated, cdis_turned, csub_cdis}
use Rattle.closing.specs.Tests.{is_stated, either_way, csub_of, cdis_of}
use Rattle.closing.proofs.Ranged.{AllRanged, stated_from, stated_to, ranged}
use Rattle.closing.proofs.Csub.{csub_derives, csub_joins, csub_selves, csub_held}

pub either_turned : (R : Rel) (a b : ℕ) → either_way R a b ≡ true → either_way R b a ≡ true
either_turned R a b h = or_comm (R b a) (R a b) ∙ h

module _ (axioms : List Axiom) (classes properties : ℕ) (all : AllRanged classes properties axioms) where
  abbrev Dis : ℕ → ℕ → Type 0
  Dis a b = Derives axioms classes properties Cdis a b

  abbrev sub : Steps plain
  sub = steps (csub_of axioms classes properties)

  abbrev seed : Steps plain
  seed = steps (either_way (is_stated axioms Cdis))

  seed_derives : (a b : ℕ) → either_way (is_stated axioms Cdis) a b ≡ true → Dis a b
  seed_derives a b h =
      elim (or_cases (is_stated axioms Cdis a b) (is_stated axioms Cdis b a) h) [
        | inl l ↦ stated (stated_from axioms Cdis a b l)
        | inr r ↦ cdis_turned (stated (stated_from axioms Cdis b a r))
      ]

  turns : (s : plain.Sign) (a b : ℕ) → either_way (is_stated axioms Cdis) a b ≡ true → either_way (is_stated axioms Cdis) b a ≡ true
  turns s = either_turned (is_stated axioms Cdis)

  pub cdis_derives : (a b : ℕ) → cdis_of axioms classes properties a b ≡ true → Dis a b
  cdis_derives = between_within plain classes sub seed (λ s. Dis) (λ t u a m b g d. csub_cdis (csub_derives axioms classes properties a m g) d) (λ s a b d. cdis_turned d) (λ s. seed_derives) tt

  pub cdis_held : {a b : ℕ} → Dis a b → cdis_of axioms classes properties a b ≡ true
  cdis_held {a} {b} (stated g) =
      let h = all Cdis a b g in
      between_holds plain classes sub seed turns (csub_selves axioms classes properties) tt a b h.0 h.1 (or_left (is_stated axioms Cdis a b) (is_stated axioms Cdis b a) (stated_to axioms Cdis a b g))
  cdis_held {a} {b} (cdis_turned d) = between_turned plain classes sub seed turns tt b a (cdis_held d)
  cdis_held {a} {b} (csub_cdis {b = m} d e) =
      between_step plain classes sub seed (csub_joins axioms classes properties) tt tt a m b (ranged classes properties all d).1 (csub_held axioms classes properties all d) (cdis_held e)

  pub cdis_decides : (a b : ℕ) → Decides (cdis_of axioms classes properties a b) (Dis a b)
  cdis_decides a b = (cdis_derives a b, cdis_held)
