-- The causes of refusals: the one table of their numbers.
use Rattle.std.specs.Prelude.{ℕ}
use Rattle.axioms.specs.declared.causes.Cause.{Cause}
use Rattle.axioms.specs.declared.causes.Cause.TheVariants.{NoSuchPlace, VacantPlace, MalformedLine, UnendedLine, UnknownKind, NameOutOfRange, TrustOutOfRange, EqualNames, NoRoom, Held, NotStanding, WrongMark, NoSuchName, NotEmpty, BufferTooShort, BadHeader, ListingTooLong, BadImageHeader, BrokenChain, StraySlot}

abbrev pub number : Cause → ℕ
number NoSuchPlace = 1
number VacantPlace = 2
number MalformedLine = 3
number UnendedLine = 4
number UnknownKind = 6
number NameOutOfRange = 7
number TrustOutOfRange = 8
number EqualNames = 9
number NoRoom = 10
number Held = 11
number NotStanding = 12
number WrongMark = 13
number NoSuchName = 14
number NotEmpty = 15
number BufferTooShort = 16
number BadHeader = 17
number ListingTooLong = 18
number BadImageHeader = 19
number BrokenChain = 20
number StraySlot = 21
