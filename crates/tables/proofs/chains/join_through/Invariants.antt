use Rattle.std.proofs.Common.{◌≡◌}
use Rattle.tables.specs.Signed.{AgreeBoth, BothSameFrom}
use Rattle.tables.proofs.Steps.{Done}
use Rattle.tables.proofs.chains.join_through.Given as goal

-- the rows before the next name are done
abbrev pub invariant-loop-left : goal.invariant-loop-left
invariant-loop-left g l =
    let n = l.fn.n.names in
    (l.left-iterator.numbers.end ≡ n)
    × AgreeBoth n 64 (g.T.Steps.steps l.table) (Done l.middle.number l.left-iterator.numbers.start (g.T.Steps.steps l.initial.table))
    × BothSameFrom n (g.T.Steps.steps l.table) (g.T.Steps.steps l.initial.table)
