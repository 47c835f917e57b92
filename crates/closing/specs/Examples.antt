-- An example for a name that is not empty, from a test for what can be derived.
use Rattle.std.specs.Prelude.{ℕ, false, ◌&&◌, ◌||◌, ◌==◌}
use Rattle.tables.specs.Relations.{Rel}
use Rattle.axioms.specs.declared.kinds.Kind.{Kind}
use Rattle.axioms.specs.declared.kinds.Kind.TheVariants.{Csub, Psub, Dom, Ran, Psubinv}
use Rattle.closing.specs.Meaning.{Interpretation}

module _ (derived : Kind → Rel) where
  -- 0 is a member of the classes that the class a lies within, and there are no pairs
  abbrev pub class_example : ℕ → Interpretation
  class_example a = record {
    member = λ c x. (x == 0) && derived Csub a c;
    pair = λ q x y. false;
  }

  -- (0, 1) is a pair of the properties that p lies within, and (1, 0) of those that its inverse lies within;
  -- 0 is a member of the domains of p, and 1 of its ranges
  abbrev pub property_example : ℕ → Interpretation
  property_example p = record {
    member = λ c x. (x == 0 && derived Dom p c) || (x == 1 && derived Ran p c);
    pair = λ q x y. ((x == 0 && y == 1) && derived Psub p q) || ((x == 1 && y == 0) && derived Psubinv p q);
  }
