use Rattle.std.proofs.Common.{ℕ, Bool, ◌&&◌, ◌||◌, sym, ap, ◌∙◌, arith}
use Rattle.std.proofs.Math.Bool.{or-false}
use Rattle.tables.specs.Relations.{some}
use Rattle.tables.specs.Sets.{has}
use Rattle.tables.specs.Tables.{cell}
use Rattle.tables.proofs.Walking.{gathered_more, none_within, regroup}
use Rattle.tables.proofs.table.Table.gathered.Goals as goal

pub loop-name-preserved : goal.loop-name-preserved
loop-name-preserved c =
    let n = c.args.n.names in
    let s = c.loop-name.name-iterator.left in
    let t = c.next.new.self.left in
    let a = c.in-Some.name.number in
    let steps = c.in-Some.ensures.steps in
    let few = c.args.n.few in
    let inv = c.loop-name.invariant in (
      steps.0 ∙ inv.0,
      λ j.
          let C : ℕ → Bool = λ k. cell c.args.self.now k j in
          let left = some n (λ k. has t k && C k) in
          let all = has c.loop-name.all j in
          ap (λ b. b || left) (c.union-all.ensures j ∙ ap (λ b. b || all) (c.row.ensures j)) ∙ regroup (C a) all left
          ∙ ap (λ b. all || b) (sym (gathered_more s t a steps.1.0 (omega arith) steps.1.2 n (omega arith) C)) ∙ inv.1 j,
    )

pub returns : goal.returns
returns c j =
    let C : ℕ → Bool = λ k. cell c.args.self.now k j in
    let all = has c.loop-name.all j in
    let inv = c.loop-name.invariant in
    sym (or-false all) ∙ ap (λ b. all || b) (sym (none_within c.loop-name.name-iterator.left c.args.n.names (omega (arith, c.in-None.ensures.steps.1)) C)) ∙ inv.1 j
