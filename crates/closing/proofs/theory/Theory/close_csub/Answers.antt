use Rattle.closing.proofs.Making.{csub_made}
use Rattle.closing.proofs.theory.Theory.close_csub.Goals as goal

pub returns : goal.returns
returns c =
    csub_made c.args.self.now _ _ _ c.stated-csub.ensures (rw c.span-classes.ensures at c.reflect.ensures.each_beside_itself) (rw c.span-classes.ensures at c.close.ensures.holds_each_chain)
