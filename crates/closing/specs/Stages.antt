-- The theory that a stage is over.
use Rattle.std.specs.Prelude.{ℕ}
use Rattle.closing.specs.declared.stages.Stage.{Stage}
use Rattle.closing.specs.declared.theory.Theory.{Theory}

abbrev pub theory_of : {n : ℕ} → Stage n → Theory
theory_of s = s.theory.now
