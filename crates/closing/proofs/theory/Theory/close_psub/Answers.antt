use Rattle.closing.proofs.Making.{psub_made}
use Rattle.closing.proofs.theory.Theory.close_psub.Goals as goal

pub returns : goal.returns
returns c =
    psub_made c.args.self.now _ (record { along = c.reflect.new.self; against = c.stated-against.result }) _
    c.stated-along.ensures (rw c.span-properties.ensures at c.reflect.ensures.each_beside_itself) c.stated-against.ensures (rw c.span-properties.ensures at c.close.ensures.holds_each_chain)
