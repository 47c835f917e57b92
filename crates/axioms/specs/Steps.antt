-- What the first step of the check of raw numbers answers; the promise in the subject's words stands on `check`.
use Rattle.std.specs.Prelude.{ℕ, cond, List, [], ◌∷◌, Some, None, Ok, Err, Option, Result, ◌==◌}
use Rattle.axioms.specs.declared.kinds.Kind.{Kind}
use Rattle.axioms.specs.declared.axiom_types.RawAxiom.{RawAxiom}
use Rattle.axioms.specs.declared.causes.Cause.{Cause}
use Rattle.axioms.specs.declared.causes.Cause.TheVariants.{UnknownKind, NameOutOfRange}
use Rattle.axioms.specs.Kinds.{row, kinds}
use Rattle.axioms.specs.Axioms.{names_in_range}

-- the first of the kinds that has the code
abbrev pub with_code : ℕ → List Kind → Option Kind
with_code n [] = None
with_code n (k ∷ ks) = cond (n == (row k).code) (Some k) (with_code n ks)

-- the kind that a code stands for
abbrev pub kind_of : ℕ → Option Kind
kind_of n = with_code n kinds

-- a kind that is known and whose names are in range
abbrev pub ranged : ℕ → ℕ → RawAxiom → Option Kind → Result Kind Cause
ranged classes properties raw None = Err UnknownKind
ranged classes properties raw (Some k) = cond (names_in_range classes properties k raw.left raw.right) (Ok k) (Err NameOutOfRange)
