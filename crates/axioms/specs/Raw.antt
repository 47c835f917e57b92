-- The raw numbers that state an axiom.
use Rattle.axioms.specs.declared.axiom_types.Axiom.{Axiom}
use Rattle.axioms.specs.declared.axiom_types.RawAxiom.{RawAxiom}
use Rattle.axioms.specs.Kinds.{row}

-- the numbers of an axiom
abbrev pub raw_of : Axiom → RawAxiom
raw_of a = record { kind = (row a.kind).code; left = a.left; right = a.right; trust = a.trust }
