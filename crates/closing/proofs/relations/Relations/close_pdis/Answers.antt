use Rattle.closing.proofs.Making.{pdis_made}
use Rattle.closing.proofs.relations.Relations.close_pdis.Goals as goal

pub returns : goal.returns
returns c =
    pdis_made c.args.theory.now c.args.self.now _ _ _ _ (record { along = c.mark_clashes-2.new.self; against = c.either_way-against.result }) _ _ _
    c.requires c.stated.ensures c.either_way-along.ensures.holds_each_both_ways
    (rw (c.span-properties.ensures, c.span-classes.ensures) at c.mark_clashes.ensures.each_that_clashes) (rw (c.span-properties.ensures, c.span-classes.ensures) at c.mark_clashes-2.ensures.each_that_clashes)
    c.stated-2.ensures c.either_way-against.ensures.holds_each_both_ways
    (rw c.span-properties.ensures at c.times-half.ensures.is_the_product) c.turned.ensures.each_the_other_way (rw c.span-properties.ensures at c.times.ensures.is_the_product)
