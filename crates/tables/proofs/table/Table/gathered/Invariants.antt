use Rattle.std.proofs.Common.{◌≡◌, ℕ, ◌&&◌, ◌||◌}
use Rattle.tables.specs.Relations.{some}
use Rattle.tables.specs.Sets.{has}
use Rattle.tables.specs.Tables.{cell}
use Rattle.tables.proofs.table.Table.gathered.Given as goal

-- what is there and what is left to add are all together
abbrev pub invariant-loop-name : goal.invariant-loop-name
invariant-loop-name l =
    (l.name-iterator.n.names ≡ l.fn.n.names)
    × ((j : ℕ) → (has l.all j || some l.fn.n.names (λ k. has l.name-iterator.left k && cell l.self k j)) ≡ some l.fn.n.names (λ k. has l.fn.names k && cell l.self k j))
