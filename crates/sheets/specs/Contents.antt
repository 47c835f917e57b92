-- What a sheet means: two counts, and a list of places counted from 0.
use Rattle.std.specs.Prelude.{◌≡◌, ℕ, ◌≤◌, true, List, length, Some, None, Ok, Err, Option, Result, slice_index_or}
use Rattle.axioms.specs.declared.axiom_types.Axiom.{Axiom}
use Rattle.axioms.specs.Limits.{most_names}
use Rattle.axioms.specs.Axioms.{well_formed}
use Rattle.sheets.specs.declared.faults.Fault.{Fault}
use Rattle.sheets.specs.Faults.{no_such_place}

-- a place holds an axiom, nothing, or a fault
abbrev pub Place : Type 0
Place = Result (Option Axiom) Fault

abbrev pub vacant : Place
vacant = Ok None

pub record Content : Type 0 where
  pub classes : ℕ
  pub properties : ℕ
  pub places : List Place

-- what a sheet answers at a place
abbrev pub answer : Content → ℕ → Place
answer s k = slice_index_or s.places k (Err (no_such_place k))

-- a sheet has at most so many places
abbrev pub most_places : ℕ
most_places = 1024

-- what every sheet keeps
pub record Sound (s : Content) : Type 0 where
  pub few_classes : s.classes ≤ most_names
  pub few_properties : s.properties ≤ most_names
  pub few_places : length s.places ≤ most_places
  pub axioms_well_formed : (k : ℕ) (a : Axiom) → answer s k ≡ Ok (Some a) → well_formed s.classes s.properties a ≡ true
