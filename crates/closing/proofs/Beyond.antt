-- A name at or past its count is not empty, since no axiom speaks of it.
use Rattle.std.proofs.Common.{◌≡◌, ℕ, ◌<◌, ◌≤◌, Bool, true, false, eqb, List, Decides, MatchBool, refl, inl, inr, arith}
use Rattle.std.proofs.lemmas.Bool.{cases_lt, eq-eqb, eqb-true}
use Rattle.axioms.specs.declared.axiom_types.Axiom.{Axiom}
use Rattle.axioms.specs.declared.kinds.Kind.{Kind}
use Rattle.axioms.specs.declared.kinds.Kind.TheVariants.{Csub, Psub, Cdis, Pdis, Dom, Ran, Psubinv, Pdisinv}
use Rattle.closing.specs.Meaning.{Interpretation, Holds, Empty, Inhabited}
use Rattle.closing.specs.Rules.{FoundEmpty}
use Rattle.closing.specs.declared.names.Name.{Name}
use Rattle.closing.specs.declared.names.Name.TheVariants.{Class, Property}
use Rattle.closing.proofs.Ranged.{AllRanged, lefts, ranged}
use Rattle.closing.proofs.Complete.{fits_all, never}
use Rattle.closing.proofs.Derived.{by_meaning}

module _ (axioms : List Axiom) (classes properties : ℕ) (all : AllRanged classes properties axioms) where
  module _ (a : ℕ) (past : classes ≤ a) where
    -- every number is a member of the class a alone, and there are no pairs
    abbrev lone_class : Interpretation
    lone_class = record { member = λ c x. eqb c a; pair = λ q x y. false }

    off_class : {X : Type 0} (c : ℕ) → c < classes → eqb c a ≡ true → X
    off_class c h e = let same = eqb-true c a e in absurd (omega arith)

    lone_class_holds : (k : Kind) (l r : ℕ) → l < lefts classes properties k → Holds lone_class k l r
    lone_class_holds Csub l r h = λ x m. off_class l h m
    lone_class_holds Psub l r h = λ x y p. never p
    lone_class_holds Cdis l r h = λ x m n. off_class l h m
    lone_class_holds Pdis l r h = λ x y p q. never p
    lone_class_holds Dom l r h = λ x y p. never p
    lone_class_holds Ran l r h = λ x y p. never p
    lone_class_holds Psubinv l r h = λ x y p. never p
    lone_class_holds Pdisinv l r h = λ x y p q. never p

    class_beyond : Inhabited axioms (Class a)
    class_beyond = (lone_class, fits_all lone_class axioms (λ k l r g. lone_class_holds k l r (all k l r g).0), (0, eq-eqb a a refl))

  module _ (p : ℕ) (past : properties ≤ p) where
    -- every two numbers are a pair of the property p alone, and there are no members
    abbrev lone_property : Interpretation
    lone_property = record { member = λ c x. false; pair = λ q x y. eqb q p }

    off_property : {X : Type 0} (q : ℕ) → q < properties → eqb q p ≡ true → X
    off_property q h e = let same = eqb-true q p e in absurd (omega arith)

    lone_property_holds : (k : Kind) (l r : ℕ) → l < lefts classes properties k → Holds lone_property k l r
    lone_property_holds Csub l r h = λ x m. never m
    lone_property_holds Psub l r h = λ x y o. off_property l h o
    lone_property_holds Cdis l r h = λ x m n. never m
    lone_property_holds Pdis l r h = λ x y o q. off_property l h o
    lone_property_holds Dom l r h = λ x y o. off_property l h o
    lone_property_holds Ran l r h = λ x y o. off_property l h o
    lone_property_holds Psubinv l r h = λ x y o. off_property l h o
    lone_property_holds Pdisinv l r h = λ x y o q. off_property l h o

    property_beyond : Inhabited axioms (Property p)
    property_beyond = (lone_property, fits_all lone_property axioms (λ k l r g. lone_property_holds k l r (all k l r g).0), (0, 0, eq-eqb p p refl))

  inhabited_when : (name : Name) (answer : Bool) → (answer ≡ true → ⊥) → Inhabited axioms name → MatchBool answer (Empty axioms name) (Inhabited axioms name)
  inhabited_when name true isnt i = absurd (isnt refl)
  inhabited_when name false isnt i = i

  -- of any name, in range or not
  pub told : (name : Name) (answer : Bool) → Decides answer (FoundEmpty axioms classes properties name) → MatchBool answer (Empty axioms name) (Inhabited axioms name)
  told (Class a) answer d =
      elim (cases_lt a classes) [
        | inl h ↦ by_meaning axioms classes properties all (Class a) h answer d
        | inr h ↦ inhabited_when (Class a) answer (λ is. let names = ranged classes properties all (d.0 is) in omega arith) (class_beyond a h)
      ]
  told (Property p) answer d =
      elim (cases_lt p properties) [
        | inl h ↦ by_meaning axioms classes properties all (Property p) h answer d
        | inr h ↦ inhabited_when (Property p) answer (λ is. let names = ranged classes properties all (d.0 is) in omega arith) (property_beyond p h)
      ]
