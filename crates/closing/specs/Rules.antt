-- The completion rules: what can be derived from axioms over so many classes and properties.
use Rattle.std.specs.Prelude.{◌≡◌, ℕ, ◌<◌, ◌⊎◌, List, [], ◌∷◌}
use Rattle.axioms.specs.declared.axiom_types.Axiom.{Axiom}
use Rattle.axioms.specs.declared.kinds.Kind.{Kind}
use Rattle.axioms.specs.declared.kinds.Kind.TheVariants.{Csub, Psub, Cdis, Pdis, Dom, Ran, Psubinv, Pdisinv}
use Rattle.closing.specs.declared.names.Name.{Name}
use Rattle.closing.specs.declared.names.Name.TheVariants.{Class, Property}

-- the axiom has this kind and these names
pub record Says (a : Axiom) (k : Kind) (l r : ℕ) : Type 0 where
  pub kind : a.kind ≡ k
  pub left : a.left ≡ l
  pub right : a.right ≡ r

-- one of the axioms says it
abbrev pub Stated : List Axiom → Kind → ℕ → ℕ → Type 0
Stated [] k l r = ⊥
Stated (a ∷ axioms) k l r = Says a k l r ⊎ Stated axioms k l r

-- here and in the other definitions the counts are two numbers, and no record: what is said holds of any two
module _ (axioms : List Axiom) (classes properties : ℕ) where
  -- a case for what is stated, and one for each rule, by its number
  pub data Derives : Kind → ℕ → ℕ → Type 0 where
    stated : {k : Kind} {l r : ℕ} → Stated axioms k l r → Derives k l r
    -- csub: 1, 3
    csub_self : {a : ℕ} → a < classes → Derives Csub a a
    csub_csub : {a b c : ℕ} → Derives Csub a b → Derives Csub b c → Derives Csub a c
    -- psub and psubinv: 5, 7, 17, 18, 19
    psub_self : {p : ℕ} → p < properties → Derives Psub p p
    psub_psub : {p q r : ℕ} → Derives Psub p q → Derives Psub q r → Derives Psub p r
    psubinv_psubinv : {p q r : ℕ} → Derives Psubinv p q → Derives Psubinv q r → Derives Psub p r
    psubinv_psub : {p q r : ℕ} → Derives Psubinv p q → Derives Psub q r → Derives Psubinv p r
    psub_psubinv : {p q r : ℕ} → Derives Psub p q → Derives Psubinv q r → Derives Psubinv p r
    -- dom and ran: 9, 10, 11, 12, 15, 16
    dom_csub : {p a b : ℕ} → Derives Dom p a → Derives Csub a b → Derives Dom p b
    ran_csub : {p a b : ℕ} → Derives Ran p a → Derives Csub a b → Derives Ran p b
    psub_dom : {p q a : ℕ} → Derives Psub p q → Derives Dom q a → Derives Dom p a
    psub_ran : {p q a : ℕ} → Derives Psub p q → Derives Ran q a → Derives Ran p a
    psubinv_dom : {p q a : ℕ} → Derives Psubinv p q → Derives Dom q a → Derives Ran p a
    psubinv_ran : {p q a : ℕ} → Derives Psubinv p q → Derives Ran q a → Derives Dom p a
    -- cdis: 2, 4
    cdis_turned : {a b : ℕ} → Derives Cdis a b → Derives Cdis b a
    csub_cdis : {a b c : ℕ} → Derives Csub a b → Derives Cdis b c → Derives Cdis a c
    -- pdis and pdisinv: 6, 8, 13, 14, 20, 21, 22, 23
    pdis_turned : {p q : ℕ} → Derives Pdis p q → Derives Pdis q p
    psub_pdis : {p q r : ℕ} → Derives Psub p q → Derives Pdis q r → Derives Pdis p r
    cdis_doms : {p a b : ℕ} → Derives Cdis a b → Derives Dom p a → Derives Dom p b → Derives Pdis p p
    cdis_rans : {p a b : ℕ} → Derives Cdis a b → Derives Ran p a → Derives Ran p b → Derives Pdis p p
    pdisinv_psub : {p q r : ℕ} → Derives Pdisinv p q → Derives Psub r q → Derives Pdisinv p r
    psubinv_pdis : {p q r : ℕ} → Derives Psubinv p q → Derives Pdis q r → Derives Pdisinv p r
    psubinv_pdisinv : {p q r : ℕ} → Derives Psubinv p q → Derives Pdisinv q r → Derives Pdis p r
    pdisinv_turned : {p q : ℕ} → Derives Pdisinv p q → Derives Pdisinv q p

  -- by what a name is found empty
  abbrev pub FoundEmpty : Name → Type 0
  FoundEmpty (Class a) = Derives Cdis a a
  FoundEmpty (Property p) = Derives Pdis p p
