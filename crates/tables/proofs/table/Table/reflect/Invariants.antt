use Rattle.std.proofs.Common.{◌≡◌, ◌&&◌, ◌||◌, eqb, ltb}
use Rattle.tables.specs.Relations.{Agree}
use Rattle.tables.specs.Tables.{cell}
use Rattle.tables.proofs.table.Table.reflect.Given as goal

-- the names before the next are done
abbrev pub invariant-loop-name : goal.invariant-loop-name
invariant-loop-name l =
    (l.name-iterator.numbers.end ≡ l.fn.n.names)
    × Agree 64 64 (cell l.self) (λ i j. cell l.initial.self i j || (eqb i j && ltb i l.name-iterator.numbers.start))
