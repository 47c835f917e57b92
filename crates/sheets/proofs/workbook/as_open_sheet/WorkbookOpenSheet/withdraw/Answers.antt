use Rattle.std.proofs.Common.{rules, sym, ◌∙◌}
use Rattle.sheets.proofs.Statements.{few_faultless}
use Rattle.sheets.proofs.Withdrawals.{vacated}
use Rattle.sheets.proofs.workbook.as_open_sheet.WorkbookOpenSheet.withdraw.Goals as goal

pub returns-in_err-withdrawn-clause-no_fault_and_few_places : goal.returns-in_err-withdrawn-clause-no_fault_and_few_places
returns-in_err-withdrawn-clause-no_fault_and_few_places c = search (rules, few_faultless)

pub returns-clause-vacated_or_first_cause : goal.returns-clause-vacated_or_first_cause
returns-clause-vacated_or_first_cause c =
    vacated c.args.self.now.counts _ _ (search rules) _ (search rules) _ _ (sym c.in_ok-withdrawn.was ∙ c.ok_or-2.ensures.value) (search rules)

pub returns-clause-no_fault_and_few_places : goal.returns-clause-no_fault_and_few_places
returns-clause-no_fault_and_few_places c = search (rules, few_faultless)
