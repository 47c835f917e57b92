use Rattle.std.proofs.Common.{◌≡◌, ◌≤◌}
use Rattle.tables.specs.Relations.{count}
use Rattle.tables.specs.Tables.{cell}
use Rattle.tables.proofs.table.Table.count_diagonal.Given as goal

-- the names before the next are counted
abbrev pub invariant-loop-name : goal.invariant-loop-name
invariant-loop-name l =
    (l.name-iterator.numbers.end ≡ l.fn.n.names)
    × (l.held ≡ count l.name-iterator.numbers.start (λ k. cell l.self k k))
    × (l.held ≤ l.name-iterator.numbers.start)
