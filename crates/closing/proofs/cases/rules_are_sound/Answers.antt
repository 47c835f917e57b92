use Rattle.closing.proofs.Soundness.{sound}
use Rattle.closing.proofs.cases.rules_are_sound.Goals as goal

pub returns : goal.returns
returns c = record { whatever_is_derivable_holds = λ axioms classes properties k l r d I fits. sound I fits d }
