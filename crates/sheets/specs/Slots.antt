-- What a workbook's slots mean.
use Rattle.std.specs.Prelude.{ℕ, List, map, Ok, Option}
use Rattle.axioms.specs.declared.axiom_types.Axiom.{Axiom}
use Rattle.sheets.specs.Contents.{Place, Content}

-- a workbook has so many slots
abbrev pub most_slots : ℕ
most_slots = 512

abbrev pub of_slot : Option Axiom → Place
of_slot o = Ok o

-- the slots that were used are the places, in order
abbrev pub slot_content : ℕ → ℕ → List (Option Axiom) → Content
slot_content classes properties used =
    record { classes = classes; properties = properties; places = map of_slot used }
