-- Laws of kinds and of well-formed axioms, offered to the crates above.
use Rattle.std.proofs.Common.{◌≡◌, ℕ, zero, suc, Bool, true, eqb, List, [], ◌∷◌, get_or, set, replicate, Some, None, Option, sym, refl, ap, ◌∙◌, ⊎_elim}
use Rattle.std.proofs.lemmas.Bool.{both_ways, cases_Bool, cond-true, cond-false, eqb-true, and_parts}
use Rattle.axioms.specs.declared.kinds.Kind.{Kind}
use Rattle.axioms.specs.declared.kinds.Kind.TheVariants.{Csub, Psub, Cdis, Pdis, Dom, Ran, Psubinv, Pdisinv}
use Rattle.axioms.specs.declared.axiom_types.Axiom.{Axiom}
use Rattle.axioms.specs.declared.axiom_types.RawAxiom.{RawAxiom}
use Rattle.axioms.specs.Kinds.{row}
use Rattle.axioms.specs.Limits.{in_trust}
use Rattle.axioms.specs.Ordered.{NoneFits}
use Rattle.axioms.specs.Axioms.{names_in_range, names_apart, well_formed, AllFormed, States, raw_grounds}
use Rattle.axioms.specs.Steps.{with_code, kind_of}

-- the code of a kind names it
pub kind_of_code : (k : Kind) → kind_of (row k).code ≡ Some k
kind_of_code Csub = refl
kind_of_code Psub = refl
kind_of_code Cdis = refl
kind_of_code Pdis = refl
kind_of_code Dom = refl
kind_of_code Ran = refl
kind_of_code Psubinv = refl
kind_of_code Pdisinv = refl

pub code_of_kind : (n : ℕ) (ks : List Kind) (k : Kind) → with_code n ks ≡ Some k → (row k).code ≡ n
code_of_kind n [] k h = cc
code_of_kind n (j ∷ js) k h =
    ⊎_elim
    (λ t. let is : j ≡ k = cc (sym (cond-true (eqb n (row j).code) (Some j) (with_code n js) t) ∙ h) in ap (λ i. (row i).code) (sym is) ∙ sym (eqb-true n (row j).code t))
    (λ f. code_of_kind n js k (sym (cond-false (eqb n (row j).code) (Some j) (with_code n js) f) ∙ h))
    (cases_Bool (eqb n (row j).code))

-- codes tell kinds apart
pub same_kind : (j k : Kind) → (row j).code ≡ (row k).code → j ≡ k
same_kind j k h = let e = sym (kind_of_code j) ∙ ap kind_of h ∙ kind_of_code k in cc

module _ (raw : RawAxiom) where
  -- a test on a kind and names gives the same at the same kind and names
  alike : (test : Kind → ℕ → ℕ → Bool) (a : Axiom) (k : Kind) → States raw a → (row k).code ≡ raw.kind → test k raw.left raw.right ≡ test a.kind a.left a.right
  alike test a k st h =
      ap (λ j. test j raw.left raw.right) (same_kind k a.kind (h ∙ sym st.kind))
      ∙ ap (λ n. test a.kind n raw.right) (sym st.left)
      ∙ ap (λ n. test a.kind a.left n) (sym st.right)

  -- the raw numbers state one axiom
  pub same_axiom : (a b : Axiom) → States raw a → States raw b → a ≡ b
  same_axiom a b s t =
      let k = same_kind a.kind b.kind (s.kind ∙ sym t.kind) in
      let l = s.left ∙ sym t.left in
      let r = s.right ∙ sym t.right in
      let u = s.trust ∙ sym t.trust in
      λ i. record { kind = k i; left = l i; right = r i; trust = u i }

module _ (c p : ℕ) (raw : RawAxiom) where
  -- no cause fits the numbers of a well-formed axiom
  pub no_cause_for_formed : (a : Axiom) → States raw a → well_formed c p a ≡ true → NoneFits (raw_grounds c p raw)
  no_cause_for_formed a st wf =
      let n = and_parts (names_in_range c p a.kind a.left a.right) _ wf in
      let t = and_parts (in_trust a.trust) _ n.1 in (
        λ r x. x.0 a.kind st.kind,
        (
          λ r x. both_ways _ x.0.2 (alike raw (names_in_range c p) a x.0.0 st x.0.1 ∙ n.0),
          (
            λ r x. both_ways _ x.0 (ap in_trust (sym st.trust) ∙ t.0),
            (λ r x. both_ways _ x.0.2 (alike raw names_apart a x.0.0 st x.0.1 ∙ t.1), tt),
          ),
        ),
      )

-- an axiom that stands at changed places was put there, or stood there before
pub formed_set : (c p : ℕ) (places : List (Option Axiom)) (i : ℕ) (o : Option Axiom) → ((a : Axiom) → o ≡ Some a → well_formed c p a ≡ true)
    → AllFormed c p places → AllFormed c p (set places i o)
formed_set c p [] i o ok h k a e = h k a e
formed_set c p (x ∷ xs) zero o ok h zero a e = ok a e
formed_set c p (x ∷ xs) zero o ok h (suc k) a e = h (suc k) a e
formed_set c p (x ∷ xs) (suc i) o ok h zero a e = h 0 a e
formed_set c p (x ∷ xs) (suc i) o ok h (suc k) a e = formed_set c p xs i o ok (λ j. h (suc j)) k a e

none_at : (n k : ℕ) → get_or (replicate {A = Option Axiom} n None) k None ≡ None
none_at zero k = refl
none_at (suc n) zero = refl
none_at (suc n) (suc k) = none_at n k

-- vacant places hold no axiom
pub formed_none : (c p n : ℕ) → AllFormed c p (replicate n None)
formed_none c p n k a e = let d : None ≡ Some a = sym (none_at n k) ∙ e in cc
