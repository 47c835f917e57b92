-- What the tables of a stage hold, by the tests for what can be derived. No public promise cites it.
use Rattle.std.specs.Prelude.{ℕ, ◌≤◌, ◌&&◌, nat_lt}
use Rattle.tables.specs.Relations.{Rel, Agree}
use Rattle.tables.specs.Tables.{cell}
use Rattle.tables.specs.declared.signed.SignedTable.{SignedTable}
use Rattle.tables.specs.declared.table.Table.{Table}
use Rattle.axioms.specs.declared.kinds.Kind.{Kind}
use Rattle.axioms.specs.declared.kinds.Kind.TheVariants.{Csub, Psub, Cdis, Pdis, Dom, Ran, Psubinv, Pdisinv}
use Rattle.axioms.specs.Kinds.{row}
use Rattle.closing.specs.Reading.{stage_of}
use Rattle.closing.specs.Theories.{class_count, property_count, names, axioms_of}
use Rattle.closing.specs.Tests.{derived}
use Rattle.closing.specs.declared.theory.Theory.{Theory}
use Rattle.closing.specs.declared.relations.Relations.{Relations}

-- the test for each kind, over the axioms of a theory
abbrev pub derived_in : Theory → Kind → Rel
derived_in t = derived (axioms_of t) (class_count t) (property_count t)

-- between the names of a kind, the table holds what can be derived
abbrev pub Exact : Theory → Kind → Table → Type 0
Exact t k table = Agree (names t (row k).left) (names t (row k).right) (cell table) (derived_in t k)

-- the same of two tables, each by its kind
abbrev pub ExactBoth : Theory → Kind → Kind → SignedTable → Type 0
ExactBoth t k l tables = Exact t k tables.along × Exact t l tables.against

-- the table of each kind
abbrev pub table_of : Relations → Kind → Table
table_of r Csub = r.csub
table_of r Psub = r.psub.along
table_of r Cdis = r.cdis
table_of r Pdis = r.pdis.along
table_of r Dom = r.ends.along
table_of r Ran = r.ends.against
table_of r Psubinv = r.psub.against
table_of r Pdisinv = r.pdis.against

-- the relations of the first n stages are exact
abbrev pub ExactTo : ℕ → Theory → Relations → Type 0
ExactTo n t r = (k : Kind) → stage_of k ≤ n → Exact t k (table_of r k)

-- what is read between two numbers
abbrev pub reading : Theory → Relations → Kind → Rel
reading t r k left right = nat_lt left (names t (row k).left) && (nat_lt right (names t (row k).right) && cell (table_of r k) left right)
