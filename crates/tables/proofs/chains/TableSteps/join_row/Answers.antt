use Rattle.std.proofs.Common.{◌≡◌, true, false, ◌&&◌, ◌||◌, eqb, sym, ap, ◌∙◌}
use Rattle.std.proofs.Math.Bool.{or-false}
use Rattle.tables.specs.Tables.{cell}
use Rattle.tables.proofs.Alone.{nothing_beside}
use Rattle.tables.proofs.chains.TableSteps.join_row.Goals as goal

pub returns-then-at : goal.returns-then-at
returns-then-at c =
    let R = cell c.args.self.now in
    let l = c.args.left.number in
    let m = c.args.middle.number in
    let on : R l m ≡ true = sym c.at.ensures ∙ c.if-at.true in
    elim [
      | false ↦ λ i j hi hj. c.add.ensures i j hi hj ∙ ap (λ b. R i j || (eqb i l && b)) (c.row.ensures j ∙ sym (rw on (or-false (R m j))))
      | true ↦ λ i j hi hj. sym (nothing_beside (eqb i l) (R l m))
    ]
