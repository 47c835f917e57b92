use Rattle.std.proofs.Common.{arith}
use Rattle.tables.specs.Tables.{cells}
use Rattle.tables.proofs.Steps.{least_signed_joining}
use Rattle.tables.proofs.signed.SignedTable.close.Goals as goal

pub returns-clause-is_the_least_that_joins : goal.returns-clause-is_the_least_that_joins
returns-clause-is_the_least_that_joins c =
    let few = c.args.n.few in
    least_signed_joining c.args.n.names (cells c.args.self.now) _ (λ s i j hi hj. c.close.ensures.chains s i j hi (omega arith))
