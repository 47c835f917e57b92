use Rattle.closing.proofs.Making.{ends_made}
use Rattle.closing.proofs.relations.Relations.close_ends.Goals as goal

pub returns : goal.returns
returns c =
    ends_made c.args.theory.now c.args.self.now (record { along = c.stated.result; against = c.stated-2.result }) _ (record { along = c.times.result; against = c.times-2.result })
    c.requires c.stated.ensures c.stated-2.ensures (rw c.span-properties.ensures at c.times-near.ensures.is_the_product)
    (rw (c.span-properties.ensures, c.span-classes.ensures) at c.times.ensures.is_the_product) (rw (c.span-properties.ensures, c.span-classes.ensures) at c.times-2.ensures.is_the_product)
