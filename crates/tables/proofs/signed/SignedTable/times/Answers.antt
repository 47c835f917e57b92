use Rattle.std.proofs.Common.{true, false, ◌∙◌}
use Rattle.tables.specs.Tables.{cells}
use Rattle.tables.proofs.Rows.{signed_sum}
use Rattle.tables.proofs.signed.SignedTable.times.Goals as goal

pub returns : goal.returns
returns c =
    let n = c.args.n.names in
    let E = cells c.args.self.now in
    let F = cells c.args.right.now in
    record {
      is_the_product = elim [
        | false ↦ λ i j hi hj. signed_sum n E F false i j _ _ (c.times-along.ensures.is_the_product i j hi hj) (c.add_product.ensures.added i j hi hj)
        | true ↦ λ i j hi hj. signed_sum n E F true i j _ _ (c.times-against.ensures.is_the_product i j hi hj) (c.add_product-2.ensures.added i j hi hj)
      ];
      other_rows_are_empty = elim [
        | false ↦ λ i j past hi hj. c.add_product.ensures.others i j past hi hj ∙ c.times-along.ensures.other_rows_are_empty i j past hi hj
        | true ↦ λ i j past hi hj. c.add_product-2.ensures.others i j past hi hj ∙ c.times-against.ensures.other_rows_are_empty i j past hi hj
      ];
    }
