use Rattle.std.proofs.Common.{◌≡◌, ◌≤◌, ◌∙◌, arith}
use Rattle.tables.specs.Signed.{via, joined}
use Rattle.tables.proofs.Steps.{done_more, done_all, row_stays, signed_stable}
use Rattle.tables.proofs.chains.join_through.Goals as goal

pub loop-left-preserved : goal.loop-left-preserved
loop-left-preserved g c =
    let n = c.args.n.names in
    let k = c.args.middle.number in
    let a = c.in-Some.left.number in
    let T = g.T.Steps.steps c.args.table.now in
    let R = g.T.Steps.steps c.join_row.new.self in
    let C = g.T.Steps.steps c.loop-left.table in
    let C' = g.T.Steps.steps c.join_row-in-loop-left.new.self in
    let wide : n ≤ 64 = c.args.n.few in
    let steps = c.in-Some.ensures.steps in
    let inv = c.loop-left.invariant in (
      steps.0 ∙ inv.0,
      rw steps.1.2 (done_more n 64 wide k c.requires R C a (omega (arith, steps)) C'
          (signed_stable n 64 wide k c.requires T R (λ s i j hi hj. c.join_row.ensures s i j (omega arith) hj)) (rw steps.1.0 at inv.1) (λ s i j hi hj. c.join_row-in-loop-left.ensures s i j (omega arith) hj)),
      λ s i j past hi hj. row_stays (C s i j) (via C C k s a j) (C' s i j) i a (λ e. omega (arith, steps)) (c.join_row-in-loop-left.ensures s i j hi hj) ∙ inv.2 s i j past hi hj,
    )

pub returns : goal.returns
returns g c =
    let n = c.args.n.names in
    let k = c.args.middle.number in
    let T = g.T.Steps.steps c.args.table.now in
    let R = g.T.Steps.steps c.join_row.new.self in
    let C = g.T.Steps.steps c.loop-left.table in
    let wide : n ≤ 64 = c.args.n.few in
    let inv = c.loop-left.invariant in
    let ended : c.loop-left.left-iterator.numbers.start ≡ n = c.in-None.ensures.steps.1 ∙ inv.0 in
    record {
      joined = done_all n 64 wide k c.requires R C (joined k k T) (rw ended at inv.1) (λ s i j hi hj. c.join_row.ensures s i j (omega arith) hj);
      others = λ s i j past hi hj. inv.2 s i j past hi hj ∙ row_stays (T s i j) (via T T k s k j) (R s i j) i k (λ e. omega (arith, c.requires)) (c.join_row.ensures s i j hi hj);
    }
