use Rattle.std.proofs.Common.{true, false, ◌&&◌, ◌||◌, eqb, ap, ◌∙◌}
use Rattle.tables.specs.Tables.{cell}
use Rattle.tables.proofs.Rows.{either}
use Rattle.tables.proofs.signed.SignedTable.merge_row.Goals as goal

pub returns : goal.returns
returns c =
    let t = c.args.self.now in
    let along = c.at-along.ensures in
    let against = c.at-against.ensures in
    elim [
      | false ↦ λ i j hi hj. c.add.ensures i j hi hj ∙ ap (λ b. cell t.along i j || (eqb i c.args.left.number && b))
          (either (c.union.ensures j) (c.when.ensures j) (c.when-2.ensures j) along against (c.row-ahead.ensures j) (c.row-turned.ensures j))
      | true ↦ λ i j hi hj. c.add-2.ensures i j hi hj ∙ ap (λ b. cell t.against i j || (eqb i c.args.left.number && b))
          (either (c.union-2.ensures j) (c.when-3.ensures j) (c.when-4.ensures j) along against (c.row-turned.ensures j) (c.row-ahead.ensures j))
    ]
