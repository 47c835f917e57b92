use Rattle.std.proofs.Common.{refl}
use Rattle.closing.proofs.Checked.{cases_right}
use Rattle.closing.proofs.cases.cases_are_right.Goals as goal

pub returns : goal.returns
returns c = record { each_case_is_right = cases_right; there_are_so_many = refl }
