use Rattle.std.proofs.Common.{◌≡◌, ◌&&◌, ltb}
use Rattle.tables.specs.Relations.{Agree}
use Rattle.tables.specs.Tables.{cell}
use Rattle.tables.proofs.table.Table.turned.Given as goal

-- the columns before the next name are done
abbrev pub invariant-loop-name : goal.invariant-loop-name
invariant-loop-name l =
    (l.name-iterator.numbers.end ≡ 64)
    × Agree 64 64 (cell l.turned) (λ i j. ltb j l.name-iterator.numbers.start && cell l.self j i)
