use Rattle.std.proofs.Common.{false, ◌∙◌, arith}
use Rattle.tables.specs.Relations.{Agree, closed}
use Rattle.tables.specs.Tables.{cell}
use Rattle.tables.proofs.Alone.{alone_closed}
use Rattle.tables.proofs.Steps.{least_joining}
use Rattle.tables.proofs.table.Table.close.Goals as goal

pub returns : goal.returns
returns c =
    let n = c.args.n.names in
    let few = c.args.n.few in
    let R = cell c.args.self.now in
    let C = cell c.close.new.table in
    let chains : Agree n 64 C (closed n R) = λ i j hi hj. c.close.ensures.chains false i j hi hj ∙ alone_closed n R false i j in
    record {
      holds_each_chain = chains;
      other_rows_stay = c.close.ensures.others false;
      is_the_least_that_joins = least_joining n R C (λ i j hi hj. chains i j hi (omega arith));
    }
