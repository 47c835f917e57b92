use Rattle.std.proofs.Common.{◌≤◌}
use Rattle.closing_tests.proofs.axiom_count.Given as goal

abbrev pub invariant-loop-place : goal.invariant-loop-place
invariant-loop-place l = l.held ≤ l.place
