-- What is accepted at a place.
use Rattle.std.proofs.Common.{◌≡◌, ℕ, true, Some, refl, ap, ◌∙◌, subst}
use Rattle.axioms.specs.declared.axiom_types.Axiom.{Axiom}
use Rattle.axioms.specs.Axioms.{well_formed, States, raw_grounds}
use Rattle.axioms.specs.Ordered.{NoneFits}
use Rattle.axioms.specs.Raw.{raw_of}
use Rattle.axioms.proofs.Formed.{same_axiom, no_cause_for_formed}

-- an axiom states its own numbers
own_numbers : (a : Axiom) → States (raw_of a) a
own_numbers a = record { kind = refl; left = refl; right = refl; trust = refl }

-- an axiom whose numbers pass the check is itself well formed
pub accepted : (c p : ℕ) (a b : Axiom) → States (raw_of a) b × (well_formed c p b ≡ true) →
    NoneFits (raw_grounds c p (raw_of a)) × ((x : Axiom) → Some a ≡ Some x → well_formed c p x ≡ true)
accepted c p a b h =
    let formed : well_formed c p a ≡ true = ap (well_formed c p) (same_axiom (raw_of a) a b (own_numbers a) h.0) ∙ h.1 in
    (no_cause_for_formed c p (raw_of a) a (own_numbers a) formed, λ x e. let same : a ≡ x = cc in subst (λ y. well_formed c p y ≡ true) same formed)
