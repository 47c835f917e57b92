-- What a layer shows of the sheet below it.
use Rattle.std.specs.Prelude.{ℕ, cond, map, Some, None, Ok, Err, Option, nat_lt}
use Rattle.axioms.specs.declared.axiom_types.Axiom.{Axiom}
use Rattle.sheets.specs.Faults.{deeper}
use Rattle.sheets.specs.Contents.{Place, Content}

-- the same counts, and f of each place
abbrev pub each_place : (Place → Place) → Content → Content
each_place f s = record { classes = s.classes; properties = s.properties; places = map f s.places }

-- a fault is handed up one deeper
abbrev pub one_up : Place → Place
one_up (Ok o) = Ok o
one_up (Err f) = Err (deeper f)

-- the sheet below as it is handed up to a layer
abbrev pub handed_up : Content → Content
handed_up s = each_place one_up s

-- an axiom under the floor shows as nothing
abbrev pub above : ℕ → Option Axiom → Option Axiom
above floor None = None
above floor (Some a) = cond (nat_lt a.trust floor) None (Some a)

abbrev pub shown_above : ℕ → Place → Place
shown_above floor (Ok o) = Ok (above floor o)
shown_above floor (Err f) = Err f

-- what the floor layer shows
abbrev pub floor_content : ℕ → Content → Content
floor_content floor s = each_place (shown_above floor) (handed_up s)
