-- What a workbook's slots answer, and why a withdrawal is refused. Offered to the crates above.
use Rattle.std.proofs.Common.{◌≡◌, ℕ, ◌<◌, ◌≤◌, ◌⊎◌, cond, List, length, None, Ok, Err, Option, sym, refl, ◌∙◌, inl, inr, ⊎_elim}
use Rattle.std.specs.Prelude.{slice_index_or, nat_lt, IfErr, Result}
use Rattle.std.proofs.lemmas.List.{length-map}
use Rattle.std.proofs.lemmas.Bool.{cases_lt, cond_below, cond_above}
use Rattle.axioms.specs.declared.axiom_types.Axiom.{Axiom}
use Rattle.axioms.specs.declared.causes.Cause.{Cause}
use Rattle.axioms.specs.declared.causes.Cause.TheVariants.{NoSuchPlace, VacantPlace}
use Rattle.axioms.specs.declared.counts.Counts.{Counts}
use Rattle.axioms.specs.Ordered.{FirstFitting}
use Rattle.sheets.specs.Contents.{answer}
use Rattle.sheets.specs.Faults.{no_such_place}
use Rattle.sheets.specs.OpenSheets.{withdrawal_grounds}
use Rattle.sheets.specs.Slots.{slot_content}
use Rattle.sheets.specs.Workbooks.{book_of}
use Rattle.sheets.specs.Slotting.{within_slots, past_slots}
use Rattle.sheets.proofs.Withdrawals.{refused_vacant}

-- what holds at every refusal
pub refused_any : {X Y : Type 0} (r : Result X Y) (P : Y → Type 0) → ((y : Y) → P y) → IfErr r P
refused_any (Ok x) P h = tt
refused_any (Err y) P h = h y

module _ (classes properties : ℕ) (used : List (Option Axiom)) where
  pub slots_length : length (slot_content classes properties used).places ≡ length used
  slots_length = simp length-map

  pub slots_answer : (k : ℕ) → cond (nat_lt k (length used)) (Ok (slice_index_or used k None)) (Err (no_such_place k)) ≡ answer (slot_content classes properties used) k
  slots_answer k =
      ⊎_elim
      (λ within. sym (cond_below k (length used) (Ok (slice_index_or used k None)) (Err (no_such_place k)) within) ∙ sym (within_slots classes properties used k None within))
      (λ past. sym (cond_above k (length used) (Ok (slice_index_or used k None)) (Err (no_such_place k)) (Err (no_such_place k)) past refl) ∙ sym (past_slots classes properties used k past))
      (cases_lt k (length used))

module _ (n : Counts) (used : List (Option Axiom)) (k : ℕ) where
  pub refused_place : (e : Cause) → ((e ≡ NoSuchPlace) × (length used ≤ k)) ⊎ ((e ≡ VacantPlace) × (k < length used) × (slice_index_or used k None ≡ None))
      → FirstFitting (withdrawal_grounds (book_of n used) k) e
  refused_place e h =
      ⊎_elim
      (λ x. rw x.0 (inr (λ r y. cc, inl (simp length-map x.1, refl))))
      (λ x. rw x.0 (refused_vacant n used k x.1 x.2))
      h
