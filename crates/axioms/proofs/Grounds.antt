-- Laws of refusals in order, offered to the crates above.
use Rattle.std.proofs.Common.{◌≡◌, List, [], ◌∷◌, ◌++◌, sym, ◌∙◌, inl, inr, ⊎_elim}
use Rattle.axioms.specs.Ordered.{Ground, refuse, FirstFitting, NoneFits}

module _ {R : Type 0} where
  -- where no ground fits, none is the first
  pub none_not_first : (gs : List (Ground R)) (r : R) → NoneFits gs → FirstFitting gs r → ⊥
  none_not_first [] r n f = f
  none_not_first (g ∷ gs) r n f = ⊎_elim (n.0 r) (λ x. none_not_first gs r n.1 x.1) f

  -- the first of some grounds is the first of more
  pub first_before : (gs hs : List (Ground R)) (r : R) → FirstFitting gs r → FirstFitting (gs ++ hs) r
  first_before [] hs r f = absurd f
  first_before (g ∷ gs) hs r f = ⊎_elim inl (λ x. inr (x.0, first_before gs hs r x.1)) f

  -- and so is the first after grounds that do not fit
  pub first_after : (gs hs : List (Ground R)) (r : R) → NoneFits gs → FirstFitting hs r → FirstFitting (gs ++ hs) r
  first_after [] hs r n f = f
  first_after (g ∷ gs) hs r n f = inr (n.0, first_after gs hs r n.1 f)

  pub none_of_both : (gs hs : List (Ground R)) → NoneFits gs → NoneFits hs → NoneFits (gs ++ hs)
  none_of_both [] hs n m = m
  none_of_both (g ∷ gs) hs n m = (n.0, none_of_both gs hs n.1 m)

  -- each ground has at most one answer
  abbrev pub Single : List (Ground R) → Type 0
  Single [] = Unit {0}
  Single (g ∷ gs) = ((r q : R) → g r → g q → r ≡ q) × Single gs

  -- so there is one first
  pub first_unique : (gs : List (Ground R)) → Single gs → (r q : R) → FirstFitting gs r → FirstFitting gs q → r ≡ q
  first_unique [] s r q f h = absurd f
  first_unique (g ∷ gs) s r q f h =
      ⊎_elim
      (λ x. ⊎_elim (s.0 r q x) (λ y. absurd (y.0 r x)) h)
      (λ x. ⊎_elim (λ y. absurd (x.0 q y)) (λ y. first_unique gs s.1 r q x.1 y.1) h)
      f

  pub refuse_single : (e : R) (P : Type 0) (r q : R) → refuse e P r → refuse e P q → r ≡ q
  refuse_single e P r q x y = x.1 ∙ sym y.1
