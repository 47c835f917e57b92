use Rattle.std.proofs.Common.{refl, arith}
use Rattle.tables.proofs.Digits.{nonzero, bit_dropped, less_dropped}
use Rattle.tables.proofs.name_set.NamesOfSetIterator.next.Goals as goal

pub overflow_sub-self : goal.overflow_sub-self
overflow_sub-self c = nonzero 64 c.args.self.now.left.bits (omega (arith, c.args.self.now.n.few))

pub returns-clause-steps : goal.returns-clause-steps
returns-clause-steps c = (refl, (refl, c.if-number-self.false, λ j. bit_dropped c.args.self.now.left.bits j (omega (arith, c.args.self.now.n.few))))

pub returns-clause-goes : goal.returns-clause-goes
returns-clause-goes c =
    let some = nonzero 64 c.args.self.now.left.bits (omega (arith, c.args.self.now.n.few)) in
    record { on = λ _. (tt, tt, less_dropped c.args.self.now.left.bits some); keeps = tt; rests = λ _. tt }
