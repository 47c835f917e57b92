-- Which pairs a table holds.
use Rattle.std.specs.Prelude.{true, false, slice_index_or}
use Rattle.tables.specs.Relations.{Rel}
use Rattle.tables.specs.Signed.{Signed}
use Rattle.tables.specs.Sets.{has}
use Rattle.tables.specs.declared.name_set.NameSet.{NameSet}
use Rattle.tables.specs.declared.table.Table.{Table}
use Rattle.tables.specs.declared.signed.SignedTable.{SignedTable}

abbrev pub no_names : NameSet
no_names = record { bits = 0 }

-- the relation between the names below 64 that the table holds
unfoldable pub cell : Table → Rel
cell t i j = has (slice_index_or t.rows i no_names) j

abbrev pub cells : SignedTable → Signed
cells t false = cell t.along
cells t true = cell t.against
