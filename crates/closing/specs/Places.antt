-- The axioms at a list of places.
use Rattle.std.specs.Prelude.{ℕ, ◌≤◌, List, [], ◌∷◌, Some, None, Option}
use Rattle.axioms.specs.declared.axiom_types.Axiom.{Axiom}
use Rattle.axioms.specs.declared.causes.Cause.{Cause}
use Rattle.axioms.specs.declared.causes.Cause.TheVariants.{NoSuchPlace}
use Rattle.axioms.specs.Axioms.{raw_grounds}
use Rattle.axioms.specs.Ordered.{Ground, refuse}
use Rattle.axioms.specs.Raw.{raw_of}

-- a theory has so many places
abbrev pub most_places : ℕ
most_places = 1024

-- the axioms that the places hold, in order
abbrev pub held : List (Option Axiom) → List Axiom
held [] = []
held (None ∷ places) = held places
held (Some a ∷ places) = a ∷ held places

-- why what is found cannot stand at a place, in order
abbrev pub found_grounds : ℕ → ℕ → Option Axiom → List (Ground Cause)
found_grounds classes properties None = []
found_grounds classes properties (Some a) = raw_grounds classes properties (raw_of a)

-- why it cannot be put at this place, in order
abbrev pub put_grounds : ℕ → ℕ → ℕ → Option Axiom → List (Ground Cause)
put_grounds classes properties place found = refuse NoSuchPlace (most_places ≤ place) ∷ found_grounds classes properties found
