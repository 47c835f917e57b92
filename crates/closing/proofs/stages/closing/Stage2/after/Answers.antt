use Rattle.std.proofs.Common.{arith}
use Rattle.axioms.specs.declared.kinds.Kind.TheVariants.{Csub, Psub, Cdis, Pdis, Dom, Ran, Psubinv, Pdisinv}
use Rattle.closing.proofs.stages.closing.Stage2.after.Goals as goal

pub invariant_of-result : goal.invariant_of-result
invariant_of-result c = record {
  exact = elim [
    | Csub ↦ λ h. c.args.before.exact Csub (omega arith)
    | Psub ↦ λ h. c.close_psub-relations.ensures.0
    | Cdis ↦ λ h. absurd (omega arith)
    | Pdis ↦ λ h. absurd (omega arith)
    | Dom ↦ λ h. absurd (omega arith)
    | Ran ↦ λ h. absurd (omega arith)
    | Psubinv ↦ λ h. c.close_psub-relations.ensures.1
    | Pdisinv ↦ λ h. absurd (omega arith)
  ];
}
