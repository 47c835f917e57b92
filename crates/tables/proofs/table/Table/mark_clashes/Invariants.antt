use Rattle.std.proofs.Common.{◌≡◌, ◌&&◌, ◌||◌, eqb, ltb}
use Rattle.tables.specs.Relations.{Agree, clash}
use Rattle.tables.specs.Tables.{cell}
use Rattle.tables.proofs.table.Table.mark_clashes.Given as goal

-- the names before the next are done
abbrev pub invariant-loop-name : goal.invariant-loop-name
invariant-loop-name l =
    (l.name-iterator.numbers.end ≡ l.fn.lefts.names)
    × Agree 64 64 (cell l.self) (λ i j. cell l.initial.self i j || (eqb i j && (ltb i l.name-iterator.numbers.start && clash l.rights.names (cell l.apart) (cell l.ends) i)))
