-- Which names a set holds.
use Rattle.std.specs.Prelude.{ℕ, ◌/◌, ◌%◌, ◌^◌, Bool, ◌==◌}
use Rattle.std.specs.Int.Count.{count_trailing_zeros}
use Rattle.tables.specs.declared.name_set.NameSet.{NameSet}

-- the binary digit of x at the place j is 1
unfoldable pub bit : ℕ → ℕ → Bool
bit x j = x / 2 ^ j % 2 == 1

abbrev pub has : NameSet → ℕ → Bool
has r j = bit r.bits j

-- the first name that the set holds, or 64
abbrev pub first : NameSet → ℕ
first r = count_trailing_zeros 64 r.bits
