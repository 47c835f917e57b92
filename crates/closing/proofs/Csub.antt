-- The test of stage 1 decides which csub can be derived.
use Rattle.std.proofs.Common.{◌≡◌, ℕ, ◌<◌, true, ◌&&◌, eqb, ltb, List, Decides, refl, subst, inl, inr}
use Rattle.std.proofs.lemmas.Bool.{and_parts, or_cases, or_left, or_right, eqb-true, ltb-true, eq-eqb, lt-ltb}
use Rattle.tables.specs.Relations.{reflexive}
use Rattle.tables.proofs.Sums.{and_both}
use Rattle.tables.proofs.Signs.{plain}
use Rattle.tables.proofs.Joining.{JoinsBelow}
use Rattle.tables.proofs.Closings.{steps, closed_holds, closed_joins, closed_within}
use Rattle.axioms.specs.declared.axiom_types.Axiom.{Axiom}
use Rattle.axioms.specs.declared.kinds.Kind.TheVariants.{Csub}
use Rattle.closing.specs.Rules.{Derives, stated, csub_self, csub_csub}
use Rattle.closing.specs.Tests.{is_stated, csub_of}
use Rattle.closing.proofs.Ranged.{AllRanged, stated_from, stated_to, ranged}

module _ (axioms : List Axiom) (classes properties : ℕ) where
  abbrev D : ℕ → ℕ → Type 0
  D a b = Derives axioms classes properties Csub a b

  seed : (a b : ℕ) → reflexive classes (is_stated axioms Csub) a b ≡ true → D a b
  seed a b h =
      elim (or_cases (is_stated axioms Csub a b) (eqb a b && ltb a classes) h) [
        | inl s ↦ stated (stated_from axioms Csub a b s)
        | inr t ↦
            let parts = and_parts (eqb a b) (ltb a classes) t in
            subst (λ z. D a z) (eqb-true a b parts.0) (csub_self (ltb-true a classes parts.1))
      ]

  pub csub_derives : (a b : ℕ) → csub_of axioms classes properties a b ≡ true → D a b
  csub_derives = closed_within D classes (λ a m b h d e. csub_csub d e) (reflexive classes (is_stated axioms Csub)) seed

  pub csub_joins : JoinsBelow plain classes (steps (csub_of axioms classes properties))
  csub_joins = closed_joins classes (reflexive classes (is_stated axioms Csub))

  holds : (a b : ℕ) → reflexive classes (is_stated axioms Csub) a b ≡ true → csub_of axioms classes properties a b ≡ true
  holds = closed_holds classes (reflexive classes (is_stated axioms Csub))

  pub csub_selves : (a : ℕ) → a < classes → csub_of axioms classes properties a a ≡ true
  csub_selves a h = holds a a (or_right (is_stated axioms Csub a a) (eqb a a && ltb a classes) (and_both (eqb a a) (ltb a classes) (eq-eqb a a refl) (lt-ltb a classes h)))

  module _ (all : AllRanged classes properties axioms) where
    pub csub_held : {a b : ℕ} → D a b → csub_of axioms classes properties a b ≡ true
    csub_held {a} {b} (stated g) = holds a b (or_left (is_stated axioms Csub a b) (eqb a b && ltb a classes) (stated_to axioms Csub a b g))
    csub_held {a} {b} (csub_self h) = csub_selves a h
    csub_held {a} {b} (csub_csub {b = m} d e) = csub_joins tt tt a m b (ranged classes properties all d).1 (csub_held d) (csub_held e)

    pub csub_decides : (a b : ℕ) → Decides (csub_of axioms classes properties a b) (D a b)
    csub_decides a b = (csub_derives a b, csub_held)
