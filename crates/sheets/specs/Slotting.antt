-- A workbook's slots as a sheet.
use Rattle.std.specs.Prelude.{◌≡◌, ℕ, ◌<◌, ◌≤◌, List, map, length, None, Ok, Err, Option, slice_index_or}
use Rattle.std.proofs.Common.{⊎_elim, arith}
use Rattle.std.proofs.lemmas.List.{get_or-map, get_or_past, length-map}
use Rattle.std.proofs.lemmas.Bool.{cases_lt}
use Rattle.axioms.specs.declared.axiom_types.Axiom.{Axiom}
use Rattle.axioms.specs.Axioms.{AllFormed}
use Rattle.axioms.specs.Limits.{most_names}
use Rattle.sheets.specs.Faults.{no_such_place}
use Rattle.sheets.specs.Contents.{Content, Sound, answer}
use Rattle.sheets.specs.Slots.{most_slots, of_slot, slot_content}

module _ (classes properties : ℕ) (used : List (Option Axiom)) where
  abbrev shown : Content
  shown = slot_content classes properties used

  pub within_slots : (k : ℕ) (o : Option Axiom) → k < length used → answer shown k ≡ Ok (slice_index_or used k o)
  within_slots k o within = get_or-map of_slot used k o (Err (no_such_place k)) within

  pub past_slots : (k : ℕ) → length used ≤ k → answer shown k ≡ Err (no_such_place k)
  past_slots k past = get_or_past (map of_slot used) k (Err (no_such_place k)) (simp length-map past)

  pub slots_sound : classes ≤ most_names → properties ≤ most_names → length used ≤ most_slots → AllFormed classes properties used → Sound shown
  slots_sound few_classes few_properties few formed = record {
    few_classes = few_classes;
    few_properties = few_properties;
    few_places = simp length-map (omega (arith, few));
    axioms_well_formed = λ k a e. ⊎_elim
        (λ within. formed k a (cc (within_slots k None within)))
        (λ past. cc (past_slots k past))
        (cases_lt k (length used));
  }
