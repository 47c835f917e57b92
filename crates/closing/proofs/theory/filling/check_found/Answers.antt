use Rattle.std.proofs.Common.{refl}
use Rattle.std.proofs.lemmas.Result.{err_from_is_err_and}
use Rattle.closing.proofs.Putting.{accepted}
use Rattle.closing.proofs.theory.filling.check_found.Goals as goal

pub returns-in_ok-check : goal.returns-in_ok-check
returns-in_ok-check c =
    let made = c.in_ok-check.field-0 in
    rw c.in-Some.is (accepted _ _ c.in-Some.stated made (rw c.from.ensures at ((c.in_ok-check.ensures.axiom_exactly_when_well_formed made).0 refl)))

pub returns-in_err-check : goal.returns-in_err-check
returns-in_err-check c =
    let p = err_from_is_err_and c.from_residual.result c.from_residual.ensures.1 in
    rw (p.1, p.2, c.in-Some.is) (rw c.from.ensures at ((c.in_err-check.ensures.else_the_first_cause c.in_err-check.field-0.0).0 refl))
