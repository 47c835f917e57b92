-- What the axioms at a list of places state, place by place.
use Rattle.std.proofs.Common.{◌≡◌, ℕ, suc, ◌+◌, ◌<◌, Bool, false, ◌&&◌, ◌||◌, eqb, List, [], ◌∷◌, ◌++◌, length, get_or, take, Some, None, Option, sym, refl, ap, ◌∙◌, inl, inr}
use mathlib.Core.Bool.{or-false, or_assoc}
use Rattle.std.proofs.lemmas.List.{take_more}
use Rattle.std.proofs.lemmas.Bool.{and_parts, eq-eqb, ne_eqb}
use Rattle.axioms.specs.declared.axiom_types.Axiom.{Axiom}
use Rattle.axioms.specs.declared.kinds.Kind.{Kind}
use Rattle.axioms.specs.Kinds.{row}
use Rattle.axioms.specs.Axioms.{names_in_range, AllFormed}
use Rattle.axioms.proofs.Formed.{same_kind}
use Rattle.closing.specs.Places.{held}
use Rattle.closing.specs.Tests.{says, is_stated}
use Rattle.closing.specs.Theories.{class_count, property_count, axioms_of}
use Rattle.closing.specs.declared.theory.Theory.{Theory}
use Rattle.closing.proofs.Ranged.{AllRanged, says_ranged}

held_ranged : (c p : ℕ) (places : List (Option Axiom)) → AllFormed c p places → AllRanged c p (held places)
held_ranged c p [] formed k l r g = absurd g
held_ranged c p (None ∷ places) formed k l r g = held_ranged c p places (λ j. formed (suc j)) k l r g
held_ranged c p (Some a ∷ places) formed k l r (inl s) =
    says_ranged c p a k l r (and_parts (names_in_range c p a.kind a.left a.right) _ (formed 0 a refl)).0 s
held_ranged c p (Some a ∷ places) formed k l r (inr g) = held_ranged c p places (λ j. formed (suc j)) k l r g

-- the axioms of a theory have their names below their counts
pub all_ranged : (t : Theory) → AllRanged (class_count t) (property_count t) (axioms_of t)
all_ranged t = held_ranged (class_count t) (property_count t) t.places t.formed

-- what one place states
abbrev says_at : Option Axiom → Kind → ℕ → ℕ → Bool
says_at None k l r = false
says_at (Some a) k l r = says a k l r

stated_push : (xs : List (Option Axiom)) (o : Option Axiom) (k : Kind) (l r : ℕ) → is_stated (held (xs ++ (o ∷ []))) k l r ≡ (is_stated (held xs) k l r || says_at o k l r)
stated_push [] None k l r = refl
stated_push [] (Some a) k l r = or-false (says a k l r)
stated_push (None ∷ xs) o k l r = stated_push xs o k l r
stated_push (Some a ∷ xs) o k l r = ap (λ b. says a k l r || b) (stated_push xs o k l r) ∙ sym (or_assoc (says a k l r) (is_stated (held xs) k l r) (says_at o k l r))

-- one place more: vacant, of another kind, or of this kind
module _ (places : List (Option Axiom)) (i : ℕ) (within : i < length places) (k : Kind) (l r : ℕ) where
  abbrev before : Bool
  before = is_stated (held (take i places)) k l r

  abbrev after : Bool
  after = is_stated (held (take (i + 1) places)) k l r

  more : (o : Option Axiom) → get_or places i None ≡ o → after ≡ (before || says_at o k l r)
  more o is =
      ap (λ xs. is_stated (held xs) k l r) (take_more places i None within) ∙ stated_push (take i places) (get_or places i None) k l r ∙ ap (λ x. before || says_at x k l r) is

  pub more_vacant : get_or places i None ≡ None → after ≡ before
  more_vacant is = more None is ∙ or-false before

  pub more_other : (a : Axiom) → get_or places i None ≡ Some a → (a.kind ≡ k → ⊥) → after ≡ before
  more_other a is ne = more (Some a) is ∙ ap (λ b. before || b) (rw (ne_eqb _ _ (λ e. ne (same_kind a.kind k e)))) ∙ or-false before

  pub more_such : (a : Axiom) → get_or places i None ≡ Some a → a.kind ≡ k → after ≡ (before || (eqb l a.left && eqb r a.right))
  more_such a is e = more (Some a) is ∙ ap (λ b. before || b) (rw (eq-eqb _ _ (ap (λ j. (row j).code) e)))
