-- What a withdrawal does to a workbook.
use Rattle.std.proofs.Common.{◌≡◌, ℕ, ◌<◌, List, length, Some, None, Option, refl, ap, sym, ◌∙◌, inl, inr, arith}
use Rattle.std.specs.Prelude.{slice_index_or, slice_set, Result}
use Rattle.std.specs.Option.{ok_or}
use Rattle.std.proofs.lemmas.List.{map-set, length-map, length-set}
use Rattle.axioms.specs.declared.axiom_types.Axiom.{Axiom}
use Rattle.axioms.specs.declared.causes.Cause.{Cause}
use Rattle.axioms.specs.declared.causes.Cause.TheVariants.{VacantPlace}
use Rattle.axioms.specs.declared.counts.Counts.{Counts}
use Rattle.axioms.specs.Ordered.{FirstFitting}
use Rattle.sheets.specs.OpenSheets.{Withdrawn, Withdrawal, withdrawal_grounds}
use Rattle.sheets.specs.Slots.{of_slot}
use Rattle.sheets.specs.Workbooks.{book_of}
use Rattle.sheets.specs.Slotting.{within_slots}

module _ (n : Counts) (used : List (Option Axiom)) (k : ℕ) (within : k < length used) where
  pub refused_vacant : slice_index_or used k None ≡ None → FirstFitting (withdrawal_grounds (book_of n used) k) VacantPlace
  refused_vacant h =
      inr (λ r x. cc, inr (λ r x. omega (arith, within, simp length-map at x.0), inl (within_slots n.classes n.properties used k None within ∙ ap of_slot h, refl)))

  pub withdrawn : (a : Axiom) → slice_index_or used k (Some a) ≡ Some a → Withdrawn (book_of n used) k a (book_of n (slice_set used k None))
  withdrawn a h =
      let was = within_slots n.classes n.properties used k (Some a) within ∙ ap of_slot h in
      record {
        no_cause = (λ r x. cc, (λ r x. omega (arith, within, simp length-map at x.0), (λ r x. cc (was, x.0), tt)));
        was = was;
        leaves = simp (map-set, length-set);
      }

  -- what the place holds is answered, and it is vacant afterwards
  pub vacated : (held : Option Axiom) → held ≡ slice_index_or used k held
      → (answered : Result Axiom Cause) (after : List (Option Axiom)) → answered ≡ ok_or held VacantPlace → after ≡ slice_set used k None
      → Withdrawal (book_of n used) k answered (book_of n after)
  vacated None h answered after is left = rw is (refused_vacant (sym h))
  vacated (Some a) h answered after is left = rw (is, left) (withdrawn a (sym h))
