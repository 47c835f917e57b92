-- How many names are empty.
use Rattle.std.specs.Prelude.{◌≡◌, ℕ, ◌+◌, Bool}
use Rattle.tables.specs.Relations.{count}
use Rattle.closing.specs.Theories.{class_count, property_count, TellsEmpty}
use Rattle.closing.specs.declared.names.Name.{Name}
use Rattle.closing.specs.declared.names.Name.TheVariants.{Class, Property}
use Rattle.closing.specs.declared.theory.Theory.{Theory}

-- n is how many names below their counts pass a test that tells whether each is empty
pub record CountsEmpty (t : Theory) (n : ℕ) : Type 0 where
  pub test : Name → Bool
  pub tells : (name : Name) → TellsEmpty t name (test name)
  pub number : n ≡ count (class_count t) (λ a. test (Class a)) + count (property_count t) (λ p. test (Property p))
