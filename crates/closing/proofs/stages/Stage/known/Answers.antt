use Rattle.std.proofs.Common.{◌≤◌, arith}
use Rattle.closing.specs.Reading.{stage_of}
use Rattle.closing.proofs.Telling.{tells}
use Rattle.closing.proofs.stages.Stage.known.Goals as goal

pub returns-then-stage_of : goal.returns-then-stage_of
returns-then-stage_of g c =
    let s = c.args.self.now in
    let come : stage_of c.args.kind ≤ g.row.N = omega (arith, c.stage_of.ensures) in
    record { tells_from_its_stage_on = (come, tells g.row.N s.theory.now s.relations s.exact c.args.kind c.args.left c.args.right _ c.held.ensures come) }
