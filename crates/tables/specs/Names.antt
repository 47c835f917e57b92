-- How the names of a span come, one after another.
use Rattle.std.specs.Prelude.{◌≡◌, ◌+◌, ◌<◌, Option, MatchOption}
use Rattle.tables.specs.declared.span.Name.{Name}
use Rattle.tables.specs.declared.span.Names.{Names}

-- from s on the next name comes, and t is left; or none is left
abbrev pub Rises : Names → Option Name → Names → Type 0
Rises s r t = (t.numbers.end ≡ s.numbers.end)
    × MatchOption r (s.numbers.start ≡ s.numbers.end) (λ name. (s.numbers.start ≡ name.number)
    × (name.number < s.numbers.end) × (t.numbers.start ≡ name.number + 1))
