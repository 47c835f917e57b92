-- Each case is right, by the tests of the five stages, which antt runs.
use Rattle.std.proofs.Common.{◌≡◌, Bool, true, false, not, ◌&&◌, List, [], ◌∷◌, MatchBool, sym, refl, inl, inr}
use Rattle.std.specs.List.{AllByRecursion}
use Rattle.std.proofs.lemmas.Bool.{and_parts, not-true, both_ways}
use Rattle.std.proofs.lemmas.Bool.Decides.{Decides-at}
use Rattle.tables.specs.Relations.{closed, some}
use Rattle.tables.specs.Signed.{signed_closed}
use Rattle.axioms.specs.declared.axiom_types.Axiom.{Axiom}
use Rattle.axioms.specs.Axioms.{names_in_range}
use Rattle.closing.specs.Cases.{Relation, Case, Right, CanDerive, Found, all_names, among, cases}
use Rattle.closing.specs.Meaning.{Empty, Inhabited}
use Rattle.closing.specs.Tests.{derived}
use Rattle.closing.specs.declared.names.Name.{Name}
use Rattle.closing.proofs.Ranged.{AllRanged, says_ranged}
use Rattle.closing.proofs.Derived.{decides, found, found_decides}
use Rattle.closing.proofs.Beyond.{told}

abbrev agree : Bool → Bool → Bool
agree true b = b
agree false b = not b

agree_same : (a b : Bool) → agree a b ≡ true → a ≡ b
agree_same true b h = sym h
agree_same false b h = sym (not-true b h)

abbrev in_range : List Axiom → Bool
in_range [] = true
in_range (a ∷ axioms) = names_in_range 3 3 a.kind a.left a.right && in_range axioms

all_ranged : (axioms : List Axiom) → in_range axioms ≡ true → AllRanged 3 3 axioms
all_ranged [] h k l r g = absurd g
all_ranged (a ∷ axioms) h k l r (inl s) = says_ranged 3 3 a k l r (and_parts (names_in_range 3 3 a.kind a.left a.right) (in_range axioms) h).0 s
all_ranged (a ∷ axioms) h k l r (inr g) = all_ranged axioms (and_parts (names_in_range 3 3 a.kind a.left a.right) (in_range axioms) h).1 k l r g

module _ (axioms : List Axiom) where
  abbrev names_check : List Name → List Name → Bool
  names_check empty [] = true
  names_check empty (n ∷ ns) = agree (among n empty) (found axioms 3 3 n) && names_check empty ns

  abbrev can_check : List Relation → Bool
  can_check [] = true
  can_check (s ∷ ss) = derived axioms 3 3 s.kind s.left s.right && can_check ss

  abbrev cannot_check : List Relation → Bool
  cannot_check [] = true
  cannot_check (s ∷ ss) = not (derived axioms 3 3 s.kind s.left s.right) && cannot_check ss

  module _ (all : AllRanged 3 3 axioms) where
    said_right : (said : Bool) (n : Name) → said ≡ found axioms 3 3 n → MatchBool said (Found axioms n) (Found axioms n → ⊥)
    said_right true n e = (found_decides axioms 3 3 all n).0 (sym e)
    said_right false n e = λ d. both_ways (found axioms 3 3 n) (sym e) ((found_decides axioms 3 3 all n).1 d)

    found_right : (empty ns : List Name) → names_check empty ns ≡ true → AllByRecursion (λ n. MatchBool (among n empty) (Found axioms n) (Found axioms n → ⊥)) ns
    found_right empty [] h = tt
    found_right empty (n ∷ ns) h =
        let parts = and_parts (agree (among n empty) (found axioms 3 3 n)) (names_check empty ns) h in
        (said_right (among n empty) n (agree_same _ _ parts.0), found_right empty ns parts.1)

    meaning_right : (empty ns : List Name) → names_check empty ns ≡ true → AllByRecursion (λ n. MatchBool (among n empty) (Empty axioms n) (Inhabited axioms n)) ns
    meaning_right empty [] h = tt
    meaning_right empty (n ∷ ns) h =
        let parts = and_parts (agree (among n empty) (found axioms 3 3 n)) (names_check empty ns) h in
        (told axioms 3 3 all n (among n empty) (Decides-at _ _ (agree_same _ _ parts.0) (found_decides axioms 3 3 all n)), meaning_right empty ns parts.1)

    can_right : (ss : List Relation) → can_check ss ≡ true → AllByRecursion (CanDerive axioms) ss
    can_right [] h = tt
    can_right (s ∷ ss) h =
        let parts = and_parts (derived axioms 3 3 s.kind s.left s.right) (can_check ss) h in
        ((decides axioms 3 3 all s.kind s.left s.right).0 parts.0, can_right ss parts.1)

    cannot_right : (ss : List Relation) → cannot_check ss ≡ true → AllByRecursion (λ s. CanDerive axioms s → ⊥) ss
    cannot_right [] h = tt
    cannot_right (s ∷ ss) h =
        let test = derived axioms 3 3 s.kind s.left s.right in
        let parts = and_parts (not test) (cannot_check ss) h in
        ((λ d. both_ways test (not-true test parts.0) ((decides axioms 3 3 all s.kind s.left s.right).1 d)), cannot_right ss parts.1)

abbrev case_checks : Case → Bool
case_checks c = in_range c.axioms && (names_check c.axioms c.empty all_names && (can_check c.axioms c.derivable && cannot_check c.axioms c.not_derivable))

case_right : (c : Case) → case_checks c ≡ true → Right c
case_right c h =
    let one = and_parts (in_range c.axioms) _ h in
    let two = and_parts (names_check c.axioms c.empty all_names) _ one.1 in
    let three = and_parts (can_check c.axioms c.derivable) _ two.1 in
    let all = all_ranged c.axioms one.0 in
    record {
      found = found_right c.axioms all c.empty all_names two.0;
      meaning = meaning_right c.axioms all c.empty all_names two.0;
      can = can_right c.axioms all c.derivable three.0;
      cannot = cannot_right c.axioms all c.not_derivable three.1;
    }

abbrev all_check : List Case → Bool
all_check [] = true
all_check (c ∷ cs) = case_checks c && all_check cs

all_right : (cs : List Case) → all_check cs ≡ true → AllByRecursion Right cs
all_right [] h = tt
all_right (c ∷ cs) h = let parts = and_parts (case_checks c) (all_check cs) h in (case_right c parts.0, all_right cs parts.1)

run : all_check cases ≡ true
unfolding closed signed_closed some
run = refl

pub cases_right : AllByRecursion Right cases
cases_right = all_right cases run
