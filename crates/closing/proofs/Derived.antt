-- The tests of the five stages decide every relation, and so emptiness.
use Rattle.std.proofs.Common.{ℕ, ◌<◌, Bool, true, false, List, Decides, MatchBool, refl}
use Rattle.std.proofs.lemmas.Bool.{both_ways}
use Rattle.axioms.specs.declared.axiom_types.Axiom.{Axiom}
use Rattle.axioms.specs.declared.kinds.Kind.{Kind}
use Rattle.axioms.specs.declared.kinds.Kind.TheVariants.{Csub, Psub, Cdis, Pdis, Dom, Ran, Psubinv, Pdisinv}
use Rattle.closing.specs.Meaning.{Empty, Inhabited}
use Rattle.closing.specs.Rules.{Derives, FoundEmpty}
use Rattle.closing.specs.Tests.{derived}
use Rattle.closing.specs.declared.names.Name.{Name}
use Rattle.closing.specs.declared.names.Name.TheVariants.{Class, Property}
use Rattle.closing.proofs.Ranged.{AllRanged}
use Rattle.closing.proofs.Csub.{csub_decides}
use Rattle.closing.proofs.Psub.{psub_derives}
use Rattle.closing.proofs.Psub as psub
use Rattle.closing.proofs.Ends.{ends_derives, ends_held}
use Rattle.closing.proofs.Cdis.{cdis_decides}
use Rattle.closing.proofs.Pdis.{pdis_derives}
use Rattle.closing.proofs.Pdis as pdis
use Rattle.closing.proofs.Complete.{class_empty, class_inhabited, property_empty, property_inhabited}

module _ (axioms : List Axiom) (classes properties : ℕ) where
  abbrev D : Kind → ℕ → ℕ → Type 0
  D = Derives axioms classes properties

  -- the test by which a name is found empty
  abbrev pub found : Name → Bool
  found (Class a) = derived axioms classes properties Cdis a a
  found (Property p) = derived axioms classes properties Pdis p p

  abbrev pub Below : Name → Type 0
  Below (Class a) = a < classes
  Below (Property p) = p < properties

  pub is_empty : (name : Name) → FoundEmpty axioms classes properties name → Empty axioms name
  is_empty (Class a) d = class_empty axioms classes properties a d
  is_empty (Property p) d = property_empty axioms classes properties p d

  module _ (all : AllRanged classes properties axioms) where
    pub decides : (k : Kind) (l r : ℕ) → Decides (derived axioms classes properties k l r) (D k l r)
    decides Csub = csub_decides axioms classes properties all
    decides Psub = λ l r. (psub_derives axioms classes properties false l r, psub.held axioms classes properties all false l r)
    decides Cdis = cdis_decides axioms classes properties all
    decides Pdis = λ l r. (pdis_derives axioms classes properties all false l r, pdis.held axioms classes properties all false l r)
    decides Dom = λ l r. (ends_derives axioms classes properties false l r, ends_held axioms classes properties all false l r)
    decides Ran = λ l r. (ends_derives axioms classes properties true l r, ends_held axioms classes properties all true l r)
    decides Psubinv = λ l r. (psub_derives axioms classes properties true l r, psub.held axioms classes properties all true l r)
    decides Pdisinv = λ l r. (pdis_derives axioms classes properties all true l r, pdis.held axioms classes properties all true l r)

    pub found_decides : (name : Name) → Decides (found name) (FoundEmpty axioms classes properties name)
    found_decides (Class a) = decides Cdis a a
    found_decides (Property p) = decides Pdis p p

    is_inhabited : (name : Name) → Below name → (FoundEmpty axioms classes properties name → ⊥) → Inhabited axioms name
    is_inhabited (Class a) h none = class_inhabited axioms classes properties (derived axioms classes properties) decides a h none
    is_inhabited (Property p) h none = property_inhabited axioms classes properties (derived axioms classes properties) decides p h none

    -- by the meaning alone
    pub by_meaning : (name : Name) → Below name → (answer : Bool) → Decides answer (FoundEmpty axioms classes properties name) → MatchBool answer (Empty axioms name) (Inhabited axioms name)
    by_meaning name h true told = is_empty name (told.0 refl)
    by_meaning name h false told = is_inhabited name h (λ d. both_ways false refl (told.1 d))
