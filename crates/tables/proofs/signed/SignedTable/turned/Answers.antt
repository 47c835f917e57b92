use Rattle.std.proofs.Common.{true, false}
use Rattle.tables.proofs.signed.SignedTable.turned.Goals as goal

pub returns : goal.returns
returns c = record { each_the_other_way = elim [ false ↦ c.turned.ensures.each_the_other_way | true ↦ c.turned-2.ensures.each_the_other_way ] }
