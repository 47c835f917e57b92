use Rattle.std.proofs.Common.{◌≡◌, ◌&&◌, sym, ap, ◌∙◌, ap₂}
use Rattle.tables.specs.Relations.{product, clash}
use Rattle.tables.specs.Sets.{has}
use Rattle.tables.specs.Tables.{cell}
use Rattle.tables.proofs.Rows.{beside_taken, beside_left}
use Rattle.tables.proofs.Sums.{some_like}
use Rattle.tables.proofs.table.Table.mark_clashes.Goals as goal
use Rattle.tables.proofs.table.Table.mark_clashes.Goals.{After-meets}

-- the test in the code is the clash
met : (c : After-meets) → c.meets.result ≡ clash c.args.rights.names (cell c.args.apart.now) (cell c.args.ends.now) c.in-Some.name.number
met c =
    let n = c.args.rights.names in
    let R = cell c.args.ends.now in
    let A = cell c.args.apart.now in
    let name = c.in-Some.name.number in
    let row = c.row-row.ensures in
    c.meets.ensures ∙ some_like n (λ b. has c.gathered.result b && has c.row-row.result b) (λ b. product n R A name b && R name b)
    (λ b hb. ap₂ (λ x y. x && y) (c.gathered.ensures b ∙ some_like n (λ k. has c.row-row.result k && A k b) (λ k. R name k && A k b) (λ k hk. ap (λ x. x && A k b) (row k))) (row b))

pub loop-name-preserved : goal.loop-name-preserved
loop-name-preserved c =
    let steps = c.in-Some.ensures.steps in
    let inv = c.loop-name.invariant in
    let K = clash c.args.rights.names (cell c.args.apart.now) (cell c.args.ends.now) in
    let inv = c.loop-name.invariant in (
      steps.0 ∙ inv.0,
      λ i j hi hj. rw steps.1.2 (beside_left K (cell c.args.self.now i j) _ i j c.in-Some.name.number (sym (met (goal.at.loop-name-preserved c).After-meets) ∙ c.if-meets.false) (rw steps.1.0 at (inv.1 i j hi hj))),
    )

pub loop-name-preserved-then-meets : goal.loop-name-preserved-then-meets
loop-name-preserved-then-meets c =
    let steps = c.in-Some.ensures.steps in
    let inv = c.loop-name.invariant in
    let K = clash c.args.rights.names (cell c.args.apart.now) (cell c.args.ends.now) in (
      steps.0 ∙ inv.0,
      λ i j hi hj. rw steps.1.2 (c.add_pair.ensures i j hi hj ∙ beside_taken K (cell c.args.self.now i j) _ i j c.in-Some.name.number (sym (met (goal.at.loop-name-preserved-then-meets c).After-meets) ∙ c.if-meets.true) (rw steps.1.0 at (inv.1 i j hi hj))),
    )
