use Rattle.std.proofs.Common.{◌≡◌, ◌&&◌, ◌||◌, ltb}
use Rattle.tables.specs.Relations.{Agree, product}
use Rattle.tables.specs.Tables.{cell}
use Rattle.tables.proofs.table.Table.add_product.Given as goal

-- the rows before the next name are done
abbrev pub invariant-loop-name : goal.invariant-loop-name
invariant-loop-name l =
    (l.name-iterator.numbers.end ≡ l.fn.lefts.names)
    × Agree 64 64 (cell l.self) (λ i j. cell l.initial.self i j || (ltb i l.name-iterator.numbers.start && product l.middles.names (cell l.left) (cell l.right) i j))
