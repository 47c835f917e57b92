use Rattle.std.proofs.Common.{◌≡◌, false, ◌&&◌, ◌||◌, eqb, sym, ap, ◌∙◌, arith}
use Rattle.std.proofs.Math.Bool.{or-false}
use Rattle.tables.specs.Sets.{has}
use Rattle.tables.specs.Tables.{cell}
use Rattle.tables.proofs.Digits.{trailing_none}
use Rattle.tables.proofs.Walking.{taken, column_more}
use Rattle.tables.proofs.table.Table.add_column.Goals as goal

pub loop-left-preserved : goal.loop-left-preserved
loop-left-preserved c =
    let s = c.loop-left.left-iterator.left in
    let t = c.next.new.self.left in
    let a = c.in-Some.left.number in
    let steps = c.in-Some.ensures.steps in
    let inv = c.loop-left.invariant in (
      steps.0 ∙ inv.0,
      λ i j hi hj.
          let beside = eqb j c.args.name.number in
          let was = cell c.loop-left.self i j in
          ap (λ b. b || (has t i && beside)) (c.add_pair.ensures i j hi hj) ∙ column_more was (eqb i a) (has t i) beside
          ∙ ap (λ b. was || (b && beside)) (sym (taken s t a steps.1.0 c.in-Some.left.small steps.1.2 i)) ∙ inv.1 i j hi hj,
    )

pub returns : goal.returns
returns c i j hi hj =
    let beside = eqb j c.args.name.number in
    let was = cell c.loop-left.self i j in
    let inv = c.loop-left.invariant in
    let none : has c.loop-left.left-iterator.left i ≡ false = trailing_none 64 _ i (omega (arith, c.in-None.ensures.steps.1)) in
    sym (or-false was) ∙ ap (λ b. was || (b && beside)) (sym none) ∙ inv.1 i j hi hj
