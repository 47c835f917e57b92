-- Tests that the stages run for what can be derived. No public promise cites them.
use Rattle.std.specs.Prelude.{ℕ, true, false, ◌&&◌, ◌||◌, List, [], ◌∷◌, ◌==◌}
use Rattle.tables.specs.Relations.{Rel, reflexive, turned, product, clash, closed}
use Rattle.tables.specs.Signed.{Signed, signed_product, signed_closed}
use Rattle.axioms.specs.declared.axiom_types.Axiom.{Axiom}
use Rattle.axioms.specs.declared.kinds.Kind.{Kind}
use Rattle.axioms.specs.declared.kinds.Kind.TheVariants.{Csub, Psub, Cdis, Pdis, Dom, Ran, Psubinv, Pdisinv}
use Rattle.axioms.specs.Kinds.{row}

abbrev pub says : Axiom → Kind → Rel
says a k l r = (row a.kind).code == (row k).code && (l == a.left && r == a.right)

abbrev pub is_stated : List Axiom → Kind → Rel
is_stated [] k l r = false
is_stated (a ∷ axioms) k l r = says a k l r || is_stated axioms k l r

abbrev pub either_way : Rel → Rel
either_way R a b = R a b || R b a

module _ (axioms : List Axiom) (classes properties : ℕ) where
  -- stage 1
  abbrev pub csub_of : Rel
  csub_of = closed classes (reflexive classes (is_stated axioms Csub))

  -- stage 2: psub under false, psubinv under true
  abbrev pub psub_seed : Signed
  psub_seed false = reflexive properties (is_stated axioms Psub)
  psub_seed true = is_stated axioms Psubinv

  abbrev pub psub_of : Signed
  psub_of = signed_closed properties psub_seed

  -- stage 3: dom under false, ran under true
  abbrev pub ends_seed : Signed
  ends_seed false = is_stated axioms Dom
  ends_seed true = is_stated axioms Ran

  abbrev pub ends_by : Rel → Signed → Signed
  ends_by csub psub s = product classes (signed_product properties psub ends_seed s) csub

  abbrev pub ends_of : Signed
  ends_of = ends_by csub_of psub_of

  -- stage 4
  abbrev pub cdis_by : Rel → Rel
  cdis_by csub = product classes csub (turned (product classes csub (either_way (is_stated axioms Cdis))))

  abbrev pub cdis_of : Rel
  cdis_of = cdis_by csub_of

  -- stage 5: pdis under false, pdisinv under true
  abbrev pub pdis_seed : Signed → Rel → Signed
  pdis_seed ends apart false p q = (either_way (is_stated axioms Pdis) p q || (p == q && clash classes apart (ends false) p)) || (p == q && clash classes apart (ends true) p)
  pdis_seed ends apart true p q = either_way (is_stated axioms Pdisinv) p q

  abbrev pub pdis_by : Signed → Signed → Rel → Signed
  pdis_by psub ends apart = signed_product properties psub (λ s. turned (signed_product properties psub (pdis_seed ends apart) s))

  abbrev pub pdis_of : Signed
  pdis_of = pdis_by psub_of ends_of cdis_of

  -- the test for each kind
  abbrev pub derived : Kind → Rel
  derived Csub = csub_of
  derived Psub = psub_of false
  derived Cdis = cdis_of
  derived Pdis = pdis_of false
  derived Dom = ends_of false
  derived Ran = ends_of true
  derived Psubinv = psub_of true
  derived Pdisinv = pdis_of true
