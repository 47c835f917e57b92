-- What the floor answers, offered to the crates above.
use Rattle.std.proofs.Common.{◌≡◌, ℕ, Err}
use Rattle.std.proofs.Math.ListN.{get_or-map}
use Rattle.sheets.specs.Faults.{no_such_place}
use Rattle.sheets.specs.Contents.{Content, answer}
use Rattle.sheets.specs.Layers.{handed_up, shown_above, floor_content}

-- the floor answers by what is handed up
pub floor_answer : (floor : ℕ) (s : Content) (k : ℕ) → answer (floor_content floor s) k ≡ shown_above floor (answer (handed_up s) k)
floor_answer floor s k = get_or-map (shown_above floor) (handed_up s).places k (Err (no_such_place k))
