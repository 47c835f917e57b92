use Rattle.std.proofs.Common.{◌≡◌}
use Rattle.tables.specs.Signed.{AgreeBoth, BothSameFrom, signed_closed}
use Rattle.tables.proofs.chains.close.Given as goal

-- the chains by way of the names before the next are there
abbrev pub invariant-loop-middle : goal.invariant-loop-middle
invariant-loop-middle g l =
    (l.middle-iterator.numbers.end ≡ l.n.names)
    × AgreeBoth l.n.names 64 (g.T.Steps.steps l.table) (signed_closed l.middle-iterator.numbers.start (g.T.Steps.steps l.initial.table))
    × BothSameFrom l.n.names (g.T.Steps.steps l.table) (g.T.Steps.steps l.initial.table)
