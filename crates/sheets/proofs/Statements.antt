-- What a statement does to a workbook.
use Rattle.std.proofs.Common.{◌≡◌, ℕ, ◌-◌, ◌<◌, ◌≤◌, true, false, List, [], ◌∷◌, ◌++◌, length, Some, None, Option, refl, ap, inl, inr, arith}
use Rattle.std.specs.Prelude.{is_ok}
use Rattle.std.proofs.lemmas.List.{map-append, length-map, length-append}
use Rattle.axioms.specs.declared.axiom_types.Axiom.{Axiom}
use Rattle.axioms.specs.declared.axiom_types.RawAxiom.{RawAxiom}
use Rattle.axioms.specs.declared.causes.Cause.{Cause}
use Rattle.axioms.specs.declared.causes.Cause.TheVariants.{NoRoom}
use Rattle.axioms.specs.declared.counts.Counts.{Counts}
use Rattle.axioms.specs.Axioms.{well_formed, States, raw_grounds}
use Rattle.axioms.specs.Ordered.{Ground, refuse, FirstFitting, NoneFits}
use Rattle.axioms.proofs.Grounds.{first_before, first_after, none_of_both}
use Rattle.axioms.proofs.Formed.{no_cause_for_formed}
use Rattle.sheets.specs.declared.workbook.Workbook.{Workbook}
use Rattle.sheets.specs.OpenSheets.{opened, NoFaultFewPlaces, Accepted, with_axiom, statement_grounds}
use Rattle.sheets.specs.Slots.{most_slots, slot_content}
use Rattle.sheets.specs.Workbooks.{book_of, book}
use Rattle.sheets.specs.Slotting.{within_slots}

pub few_faultless : (classes properties : ℕ) (used : List (Option Axiom)) → length used ≤ most_slots
    → NoFaultFewPlaces (opened (slot_content classes properties used) (most_slots - length used) false)
few_faultless classes properties used few = record {
  no_fault = λ k h. ap is_ok (within_slots classes properties used k None (simp length-map at h));
  few = simp length-map (omega (arith, few));
}

pub faultless : (w : Workbook) → NoFaultFewPlaces (book w)
faultless w = few_faultless w.counts.classes w.counts.properties w.slots.items w.few_slots

module _ (n : Counts) (used : List (Option Axiom)) (raw : RawAxiom) where
  abbrev grounds : List (Ground Cause)
  grounds = raw_grounds n.classes n.properties raw

  abbrev full : List (Ground Cause)
  full = refuse NoRoom (most_slots - length used ≡ 0) ∷ []

  pub refused_first : (e : Cause) → FirstFitting grounds e → FirstFitting (statement_grounds (book_of n used) raw) e
  refused_first e f = inr (λ r x. cc, first_before grounds full e f)

  module _ (a : Axiom) (h : States raw a × (well_formed n.classes n.properties a ≡ true)) where
    none : NoneFits grounds
    none = no_cause_for_formed n.classes n.properties raw a h.0 h.1

    pub refused_full : most_slots ≤ length used → FirstFitting (statement_grounds (book_of n used) raw) NoRoom
    refused_full all = inr (λ r x. cc, first_after grounds full NoRoom none (inl (omega arith, refl)))

    pub accepted : length used < most_slots → (place : ℕ) (after : List (Option Axiom)) → place ≡ length used → after ≡ used ++ (Some a ∷ [])
        → Accepted (book_of n used) raw place (book_of n after)
    accepted room place after at adds = record {
      no_cause = (λ r x. cc, none_of_both grounds full none (λ r x. omega (arith, x.0), tt));
      stated = a;
      states = h.0;
      at = simp length-map at;
      adds = rw adds (simp (map-append, length-append) (ap (λ m. opened (with_axiom (slot_content n.classes n.properties used) a) m false) (omega arith)));
    }
