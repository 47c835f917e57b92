use Rattle.std.proofs.Common.{◌≡◌, refl, ap, ◌∙◌, arith}
use Rattle.tables.proofs.Steps.{signed_none, signed_more}
use Rattle.tables.proofs.chains.close.Goals as goal

pub loop-middle-init : goal.loop-middle-init
loop-middle-init g c =
    let same = c.into_iter-middle-iterator.ensures.into_iter_gives in
    let begun : c.into_iter-middle-iterator.result.numbers.start ≡ 0 = ap (λ s. s.numbers.start) same ∙ c.each-middle-items.ensures.from_zero in (
      ap (λ s. s.numbers.end) same ∙ c.each-middle-items.ensures.to_its_count,
      rw begun (signed_none c.args.n.names 64 (g.T.Steps.steps c.args.table.now)),
      λ s i j past hi hj. refl,
    )

pub loop-middle-preserved : goal.loop-middle-preserved
loop-middle-preserved g c =
    let n = c.args.n.names in
    let steps = c.in-Some.ensures.steps in
    let inv = c.loop-middle.invariant in (
      steps.0 ∙ inv.0,
      rw steps.1.2 (signed_more n 64 c.args.n.few c.in-Some.middle.number (g.T.Steps.steps c.args.table.now) (g.T.Steps.steps c.loop-middle.table) (g.T.Steps.steps c.join_through.new.table)
          (omega (arith, steps)) (rw steps.1.0 at inv.1) c.join_through.ensures.joined),
      λ s i j past hi hj. c.join_through.ensures.others s i j past hi hj ∙ inv.2 s i j past hi hj,
    )
