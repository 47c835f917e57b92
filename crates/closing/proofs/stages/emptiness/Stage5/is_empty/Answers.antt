use Rattle.closing.specs.declared.names.Name.TheVariants.{Class, Property}
use Rattle.closing.proofs.Telling.{told_in}
use Rattle.closing.proofs.stages.emptiness.Stage5.is_empty.Goals as goal

pub returns-in-Class-clause-empty_or_inhabited : goal.returns-in-Class-clause-empty_or_inhabited
returns-in-Class-clause-empty_or_inhabited c =
    rw c.in-Class.is (told_in c.args.self.now.theory.now (Class c.in-Class.a) _ c.read.ensures.tells_what_is_derivable.derivable)

pub returns-in-Property-clause-empty_or_inhabited : goal.returns-in-Property-clause-empty_or_inhabited
returns-in-Property-clause-empty_or_inhabited c =
    rw c.in-Property.is (told_in c.args.self.now.theory.now (Property c.in-Property.p) _ c.read-in-Property.ensures.tells_what_is_derivable.derivable)
