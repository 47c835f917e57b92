use Rattle.closing.proofs.Making.{cdis_made}
use Rattle.closing.proofs.relations.Relations.close_cdis.Goals as goal

pub returns : goal.returns
returns c =
    cdis_made c.args.theory.now c.args.self.now _ _ _ _ _ c.requires c.stated.ensures c.either_way-stated.ensures.holds_each_both_ways
    (rw c.span-classes.ensures at c.times-half.ensures.is_the_product) c.turned.ensures.each_the_other_way (rw c.span-classes.ensures at c.times.ensures.is_the_product)
