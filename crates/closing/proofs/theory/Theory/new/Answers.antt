use Rattle.axioms.proofs.Formed.{formed_none}
use Rattle.closing.specs.Places.{most_places}
use Rattle.closing.proofs.theory.Theory.new.Goals as goal

pub invariant_of-result-clause-formed : goal.invariant_of-result-clause-formed
invariant_of-result-clause-formed c = formed_none c.args.counts.classes c.args.counts.properties most_places
