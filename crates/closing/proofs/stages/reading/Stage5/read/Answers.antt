use Rattle.closing.proofs.Telling.{tells, every_stage_came}
use Rattle.closing.proofs.stages.reading.Stage5.read.Goals as goal

pub returns : goal.returns
returns c =
    let s = c.args.self.now in
    record { tells_what_is_derivable = tells 5 s.theory.now s.relations s.exact c.args.kind c.args.left c.args.right _ c.held.ensures (every_stage_came c.args.kind) }
