-- The steps of the check answer as the raw numbers' grounds say.
use Rattle.std.proofs.Common.{◌≡◌, ℕ, Bool, true, false, not, eqb, ◌⊎◌, ◌↔◌, Some, None, Ok, Err, Option, Result, sym, refl, ap, ◌∙◌, subst, inl, inr, ⊎_elim}
use Rattle.std.specs.Prelude.{IsErrAnd}
use Rattle.std.proofs.lemmas.Bool.{both_ways, cases_Bool, cond-true, cond-false, eq-eqb, ne_eqb, and_from, and_left, and_right}
use Rattle.axioms.specs.declared.kinds.Kind.{Kind}
use Rattle.axioms.specs.declared.axiom_types.Axiom.{Axiom}
use Rattle.axioms.specs.declared.axiom_types.RawAxiom.{RawAxiom}
use Rattle.axioms.specs.declared.causes.Cause.{Cause}
use Rattle.axioms.specs.declared.causes.Cause.TheVariants.{NameOutOfRange, TrustOutOfRange, EqualNames}
use Rattle.axioms.specs.Kinds.{row, kinds}
use Rattle.axioms.specs.Limits.{in_trust}
use Rattle.axioms.specs.Ordered.{FirstFitting}
use Rattle.axioms.specs.Axioms.{names_in_range, names_apart, well_formed, States, raw_grounds}
use Rattle.axioms.specs.Steps.{kind_of, ranged}
use Rattle.axioms.proofs.Formed.{kind_of_code, code_of_kind, same_kind, no_cause_for_formed, same_axiom}
use Rattle.axioms.proofs.Grounds.{none_not_first, first_unique, refuse_single}

module _ (c p : ℕ) (raw : RawAxiom) where
  -- an axiom that is stated and well formed, or the first cause
  abbrev pub Outcome : Result Axiom Cause → Type 0
  Outcome (Ok a) = States raw a × (well_formed c p a ≡ true)
  Outcome (Err e) = FirstFitting (raw_grounds c p raw) e

  axiom_exactly : (r : Result Axiom Cause) → Outcome r → (a : Axiom) → (r ≡ Ok a) ↔ (States raw a × (well_formed c p a ≡ true))
  axiom_exactly (Ok b) o a =
      (λ e. let is : b ≡ a = cc in subst (λ x. States raw x × (well_formed c p x ≡ true)) is o, λ h. ap Ok (same_axiom raw b a o.0 h.0))
  axiom_exactly (Err e) o a =
      (λ h. cc, λ h. absurd (none_not_first (raw_grounds c p raw) e (no_cause_for_formed c p raw a h.0 h.1) o))

  cause_exactly : (r : Result Axiom Cause) → Outcome r → (e : Cause) → (r ≡ Err e) ↔ FirstFitting (raw_grounds c p raw) e
  cause_exactly (Ok a) o e =
      (λ h. cc, λ f. absurd (none_not_first (raw_grounds c p raw) e (no_cause_for_formed c p raw a o.0 o.1) f))
  cause_exactly (Err d) o e = (
    λ h. let is : d ≡ e = cc in subst (λ x. FirstFitting (raw_grounds c p raw) x) is o,
    λ f. ap Err (first_unique (raw_grounds c p raw) (refuse_single _ _, (refuse_single _ _, (refuse_single _ _, (refuse_single _ _, tt)))) d e o f),
  )

  -- so the check's promise is kept
  abbrev Promise : Result Axiom Cause → Type 0
  Promise r = record {
    axiom_exactly_when_well_formed : (a : Axiom) → (r ≡ Ok a) ↔ (States raw a × (well_formed c p a ≡ true));
    else_the_first_cause : (e : Cause) → (r ≡ Err e) ↔ FirstFitting (raw_grounds c p raw) e;
  }

  pub settled : (r : Result Axiom Cause) → Outcome r → Promise r
  settled r o = record { axiom_exactly_when_well_formed = axiom_exactly r o; else_the_first_cause = cause_exactly r o }

  -- also where a `?` passes a cause on
  pub passed_on : (r : Result Axiom Cause) (d e : Cause) → IsErrAnd r (λ x. x ≡ d) → d ≡ e → Outcome (Err e) → Promise r
  passed_on (Ok a) d e h is o = absurd h
  passed_on (Err x) d e h is o = settled (Err x) (subst (λ z. Outcome (Err z)) (sym (h ∙ is)) o)

  -- the first step refuses as the first two grounds say
  unknown : kind_of raw.kind ≡ None → (k : Kind) → (row k).code ≡ raw.kind → ⊥
  unknown none k h = let e = sym (kind_of_code k) ∙ ap kind_of h in cc

  ranged_err : (o : Option Kind) → kind_of raw.kind ≡ o → (e : Cause) → Err e ≡ ranged c p raw o → FirstFitting (raw_grounds c p raw) e
  ranged_err None is e h = inl (unknown is, cc)
  ranged_err (Some k) is e h =
      let code = code_of_kind raw.kind kinds k is in
      ⊎_elim
      (λ t. let d : Err e ≡ Ok k = h ∙ cond-true _ (Ok k) (Err NameOutOfRange) t in cc)
      (λ f. let d : Err e ≡ Err NameOutOfRange = h ∙ cond-false (names_in_range c p k raw.left raw.right) (Ok k) (Err NameOutOfRange) f in inr (λ r x. x.0 k code, inl ((k, code, f), cc)))
      (cases_Bool (names_in_range c p k raw.left raw.right))

  ranged_ok : (o : Option Kind) → kind_of raw.kind ≡ o → (k : Kind) → Ok k ≡ ranged c p raw o → ((row k).code ≡ raw.kind) × (names_in_range c p k raw.left raw.right ≡ true)
  ranged_ok None is k h = cc
  ranged_ok (Some j) is k h =
      ⊎_elim
      (λ t. let d : Ok k ≡ Ok j = h ∙ cond-true (names_in_range c p j raw.left raw.right) (Ok j) (Err NameOutOfRange) t in let same : j ≡ k = cc in subst (λ i. ((row i).code ≡ raw.kind) × (names_in_range c p i raw.left raw.right ≡ true)) same (code_of_kind raw.kind kinds j is, t))
      (λ f. let d : Ok k ≡ Err NameOutOfRange = h ∙ cond-false (names_in_range c p j raw.left raw.right) (Ok j) (Err NameOutOfRange) f in cc)
      (cases_Bool (names_in_range c p j raw.left raw.right))

  pub out_of_range : (e : Cause) → Err e ≡ ranged c p raw (kind_of raw.kind) → Outcome (Err e)
  out_of_range e h = ranged_err (kind_of raw.kind) refl e h

  -- what later steps answer, once the first has let a kind through
  module _ (k : Kind) (let_through : Ok k ≡ ranged c p raw (kind_of raw.kind)) where
    code : (row k).code ≡ raw.kind
    code = (ranged_ok (kind_of raw.kind) refl k let_through).0

    in_range : names_in_range c p k raw.left raw.right ≡ true
    in_range = (ranged_ok (kind_of raw.kind) refl k let_through).1

    names_in : (j : Kind) → (row j).code ≡ raw.kind → names_in_range c p j raw.left raw.right ≡ true
    names_in j h = ap (λ i. names_in_range c p i raw.left raw.right) (same_kind j k (h ∙ sym code)) ∙ in_range

    pub untrusted : in_trust raw.trust ≡ false → Outcome (Err TrustOutOfRange)
    untrusted f = inr (λ r x. x.0 k code, inr (λ r x. both_ways _ x.0.2 (names_in x.0.0 x.0.1), inl (f, refl)))

    module _ (trust : ℕ) (same : trust ≡ raw.trust) (trusted : in_trust trust ≡ true) where
      pub equal_names : names_apart k raw.left raw.right ≡ false → Outcome (Err EqualNames)
      equal_names f =
          let t = ap in_trust (sym same) ∙ trusted in
          inr (λ r x. x.0 k code, inr (λ r x. both_ways _ x.0.2 (names_in x.0.0 x.0.1), inr (λ r x. both_ways _ x.0 t, inl ((k, code, f), refl))))

      pub stated : names_apart k raw.left raw.right ≡ true → Outcome (Ok (record { kind = k; left = raw.left; right = raw.right; trust = trust }))
      stated t = (record { kind = code; left = refl; right = refl; trust = same }, and_from _ _ in_range (and_from _ _ trusted t))

-- how the test of the names comes out, where b says whether they must differ
module _ (k : Kind) (left right : ℕ) (b : Bool) (is : b ≡ (row k).differ) where
  pub same_names : b ≡ true → left ≡ right → names_apart k left right ≡ false
  same_names d e = ap not (and_from _ _ (sym is ∙ d) (eq-eqb left right e))

  pub differing : ((b ≡ true) × (left ≡ right → ⊥)) ⊎ (b ≡ false) → names_apart k left right ≡ true
  differing h =
      ap not (⊎_elim (λ x. and_right (row k).differ (eqb left right) (ne_eqb left right x.1)) (λ f. and_left (row k).differ (eqb left right) (sym is ∙ f)) h)
