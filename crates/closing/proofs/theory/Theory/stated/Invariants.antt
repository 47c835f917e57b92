use Rattle.std.proofs.Common.{take}
use Rattle.tables.specs.Relations.{Agree}
use Rattle.tables.specs.Tables.{cell}
use Rattle.closing.specs.Places.{held}
use Rattle.closing.specs.Tests.{is_stated}
use Rattle.closing.proofs.theory.Theory.stated.Given as goal

-- the axioms before `found` are marked
abbrev pub invariant-loop-found : goal.invariant-loop-found
invariant-loop-found l = Agree 64 64 (cell l.table) (is_stated (held (take l.found-index l.self.places)) l.kind)
