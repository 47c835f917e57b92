-- Which numbers are trusts.
use Rattle.std.specs.Prelude.{◌≡◌, ℕ, false, MatchResult, Result}
use Rattle.axioms.specs.declared.causes.Cause.{Cause}
use Rattle.axioms.specs.declared.causes.Cause.TheVariants.{TrustOutOfRange}
use Rattle.axioms.specs.declared.trust.Trust.{Trust}
use Rattle.axioms.specs.Limits.{in_trust}

-- the number makes a trust of that value, or is refused since it is out of range
abbrev pub MakesTrust : ℕ → Result Trust Cause → Type 0
MakesTrust number r = MatchResult r (λ t. t.value ≡ number) (λ e. (e ≡ TrustOutOfRange) × (in_trust number ≡ false))
