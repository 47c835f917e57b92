-- What a workbook means as an open sheet.
use Rattle.std.specs.Prelude.{◌-◌, false, List, length, Option}
use Rattle.axioms.specs.declared.axiom_types.Axiom.{Axiom}
use Rattle.axioms.specs.declared.counts.Counts.{Counts}
use Rattle.sheets.specs.declared.workbook.Workbook.{Workbook}
use Rattle.sheets.specs.OpenSheets.{Open, opened}
use Rattle.sheets.specs.Slots.{slot_content, most_slots}

-- each slot not yet used is room for one statement; a workbook is never held
abbrev pub book_of : Counts → List (Option Axiom) → Open
book_of n used = opened (slot_content n.classes n.properties used) (most_slots - length used) false

abbrev pub book : Workbook → Open
book w = book_of w.counts w.slots.items
