use Rattle.std.proofs.Common.{sym, refl, ◌∙◌}
use Rattle.axioms.proofs.Checking.{settled, passed_on, out_of_range, untrusted, equal_names, stated, same_names, differing}
use Rattle.axioms.proofs.axiom_check.check.Goals as goal

pub returns-in_err-kind : goal.returns-in_err-kind
returns-in_err-kind c =
    passed_on _ _ c.args.raw _ _ _ c.from_residual.ensures.1 refl (out_of_range _ _ c.args.raw _ (sym c.in_err-kind.was ∙ c.kind_in_range.ensures))

pub returns-in_err-trust : goal.returns-in_err-trust
returns-in_err-trust c =
    let t = c.in_err-trust.ensures.trust_exactly_when_in_range in
    passed_on _ _ c.args.raw _ _ _ c.from_residual-in_err-trust.ensures.1 t.0 (untrusted _ _ c.args.raw _ (sym c.in_ok-kind.was ∙ c.kind_in_range.ensures) t.1)

pub returns-then-raw : goal.returns-then-raw
returns-then-raw c =
    let t = c.in_ok-trust in
    settled _ _ c.args.raw _ (equal_names _ _ c.args.raw _ (sym c.in_ok-kind.was ∙ c.kind_in_range.ensures) t.trust.value t.ensures.trust_exactly_when_in_range t.trust.in_range
    (same_names _ _ _ _ c.names_differ.ensures.says_the_table c.if-names_differ.true c.if-raw.true))

pub returns : goal.returns
returns c =
    let t = c.in_ok-trust in
    settled _ _ c.args.raw _ (stated _ _ c.args.raw _ (sym c.in_ok-kind.was ∙ c.kind_in_range.ensures) t.trust.value t.ensures.trust_exactly_when_in_range t.trust.in_range
    (differing _ _ _ _ c.names_differ.ensures.says_the_table c.else-names_differ.either))
