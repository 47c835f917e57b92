-- The limits of the subject.
use Rattle.std.specs.Prelude.{ℕ, Bool, ◌&&◌, nat_le}

-- there are at most so many classes, and at most so many properties
abbrev pub most_names : ℕ
most_names = 64

-- trusts and floors are 1 to 100
abbrev pub in_trust : ℕ → Bool
in_trust t = nat_le 1 t && nat_le t 100
