-- From which stage on each relation can be read, and what is then answered.
use Rattle.std.specs.Prelude.{ℕ, ◌<◌, ◌≤◌, Bool, Some, None, Option}
use Rattle.axioms.specs.declared.kinds.Kind.{Kind}
use Rattle.axioms.specs.declared.kinds.Kind.TheVariants.{Csub, Psub, Cdis, Pdis, Dom, Ran, Psubinv, Pdisinv}
use Rattle.closing.specs.Theories.{Tells}
use Rattle.closing.specs.declared.theory.Theory.{Theory}

-- the stage that closes the relation
abbrev pub stage_of : Kind → ℕ
stage_of Csub = 1
stage_of Psub = 2
stage_of Cdis = 4
stage_of Pdis = 5
stage_of Dom = 3
stage_of Ran = 3
stage_of Psubinv = 2
stage_of Pdisinv = 5

-- what the stage n answers: nothing before the relation's own stage, and from then on whether it can be derived
abbrev pub ReadAt : ℕ → Theory → Kind → ℕ → ℕ → Option Bool → Type 0
ReadAt n t k l r None = n < stage_of k
ReadAt n t k l r (Some answer) = (stage_of k ≤ n) × Tells t k l r answer
