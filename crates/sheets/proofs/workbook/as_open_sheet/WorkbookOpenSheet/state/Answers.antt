use Rattle.std.proofs.Common.{rules}
use Rattle.std.proofs.lemmas.Result.{err_from_is_err_and}
use Rattle.sheets.proofs.Statements.{few_faultless, refused_first, refused_full, accepted}
use Rattle.sheets.proofs.workbook.as_open_sheet.WorkbookOpenSheet.state.Goals as goal

pub returns-in_err-stated-clause-added_or_first_cause : goal.returns-in_err-stated-clause-added_or_first_cause
returns-in_err-stated-clause-added_or_first_cause c =
    let first = (c.check.ensures.else_the_first_cause _).0 c.in_err-stated.was in
    let p = err_from_is_err_and c.from_residual.result c.from_residual.ensures.1 in
    rw (p.1, p.2) (search (rules, refused_first))

pub returns-then-is_full-clause-added_or_first_cause : goal.returns-then-is_full-clause-added_or_first_cause
returns-then-is_full-clause-added_or_first_cause c =
    let formed = (c.check.ensures.axiom_exactly_when_well_formed _).0 c.in_ok-stated.was in
    search (rules, refused_full)

pub returns-clause-added_or_first_cause : goal.returns-clause-added_or_first_cause
returns-clause-added_or_first_cause c =
    let formed = (c.check.ensures.axiom_exactly_when_well_formed _).0 c.in_ok-stated.was in
    search (rules, accepted)

pub returns-clause-no_fault_and_few_places : goal.returns-clause-no_fault_and_few_places
returns-clause-no_fault_and_few_places c = search (rules, few_faultless)
