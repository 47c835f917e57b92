-- Faults: why a place cannot be read.
use Rattle.std.specs.Prelude.{ℕ, ◌+◌, min}
use Rattle.axioms.specs.declared.causes.Cause.TheVariants.{NoSuchPlace}
use Rattle.sheets.specs.declared.faults.Fault.{Fault}

-- what any sheet answers at or past its end
abbrev pub no_such_place : ℕ → Fault
no_such_place k = record { cause = NoSuchPlace; place = k; depth = 0 }

-- a fault as the next layer hands it up; the depth stays at 255 once there
abbrev pub deeper : Fault → Fault
deeper f = record { cause = f.cause; place = f.place; depth = min (f.depth + 1) 255 }
