use Rattle.std.proofs.Common.{◌≡◌, ◌&&◌, ◌||◌, ltb}
use Rattle.tables.specs.Relations.{Agree}
use Rattle.tables.specs.Tables.{cell}
use Rattle.tables.proofs.table.Table.either_way.Given as goal

-- the rows before the next name are done
abbrev pub invariant-loop-name : goal.invariant-loop-name
invariant-loop-name l =
    (l.name-iterator.numbers.end ≡ 64)
    × Agree 64 64 (cell l.both) (λ i j. cell l.self j i || (ltb i l.name-iterator.numbers.start && cell l.self i j))
