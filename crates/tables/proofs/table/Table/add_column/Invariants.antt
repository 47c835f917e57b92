use Rattle.std.proofs.Common.{◌≡◌, ◌&&◌, ◌||◌, eqb}
use Rattle.tables.specs.Relations.{Agree}
use Rattle.tables.specs.Sets.{has}
use Rattle.tables.specs.Tables.{cell}
use Rattle.tables.proofs.table.Table.add_column.Given as goal

-- what is there and what is left to add are all together
abbrev pub invariant-loop-left : goal.invariant-loop-left
invariant-loop-left l =
    (l.left-iterator.n.names ≡ 64)
    × Agree 64 64 (λ i j. cell l.self i j || (has l.left-iterator.left i && eqb j l.name.number)) (λ i j. cell l.initial.self i j || (has l.fn.lefts i && eqb j l.name.number))
