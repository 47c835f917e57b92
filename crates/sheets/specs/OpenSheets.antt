-- What an open sheet means, and what statements and withdrawals do to it.
use Rattle.std.specs.Prelude.{◌≡◌, ℕ, ◌+◌, ◌-◌, ◌<◌, ◌≤◌, Bool, true, List, [], ◌∷◌, ◌++◌, length, is_ok, Some, Ok, Err, Result, slice_set}
use Rattle.axioms.specs.declared.axiom_types.Axiom.{Axiom}
use Rattle.axioms.specs.declared.axiom_types.RawAxiom.{RawAxiom}
use Rattle.axioms.specs.declared.causes.Cause.{Cause}
use Rattle.axioms.specs.declared.causes.Cause.TheVariants.{NoSuchPlace, VacantPlace, NoRoom, Held}
use Rattle.axioms.specs.Axioms.{States, raw_grounds}
use Rattle.axioms.specs.Ordered.{Ground, refuse, FirstFitting, NoneFits}
use Rattle.sheets.specs.Contents.{Content, answer, vacant, most_places}

-- its content, how many more statements it takes, and whether it is held
pub record Open : Type 0 where
  pub content : Content
  pub room : ℕ
  pub held : Bool

abbrev pub opened : Content → ℕ → Bool → Open
opened content room held = record { content = content; room = room; held = held }

-- an open sheet has no faulty place, and its places and its room are together at most 1,024
pub record NoFaultFewPlaces (b : Open) : Type 0 where
  pub no_fault : (k : ℕ) → k < length b.content.places → is_ok (answer b.content k) ≡ true
  pub few : length b.content.places + b.room ≤ most_places

-- where a statement's axiom goes: a new place at the end
abbrev pub place_for : Content → ℕ
place_for s = length s.places

abbrev pub with_axiom : Content → Axiom → Content
with_axiom s a = record { classes = s.classes; properties = s.properties; places = s.places ++ (Ok (Some a) ∷ []) }

-- an accepted statement lowers the room by one
abbrev pub after_statement : Open → Axiom → Open
after_statement b a = opened (with_axiom b.content a) (b.room - 1) b.held

abbrev pub without : Content → ℕ → Content
without s k = record { classes = s.classes; properties = s.properties; places = slice_set s.places k vacant }

-- an accepted withdrawal moves no other place and frees no room
abbrev pub after_withdrawal : Open → ℕ → Open
after_withdrawal b k = opened (without b.content k) b.room b.held

-- why a statement is refused, in order
abbrev pub statement_grounds : Open → RawAxiom → List (Ground Cause)
statement_grounds b raw =
    refuse Held (b.held ≡ true)
    ∷ (raw_grounds b.content.classes b.content.properties raw
    ++ (refuse NoRoom (b.room ≡ 0) ∷ []))

-- why a withdrawal is refused, in order
abbrev pub withdrawal_grounds : Open → ℕ → List (Ground Cause)
withdrawal_grounds b k =
    refuse Held (b.held ≡ true)
    ∷ refuse NoSuchPlace (length b.content.places ≤ k)
    ∷ refuse VacantPlace (answer b.content k ≡ vacant)
    ∷ []

-- an accepted statement: of the sheet before, the place answered and the sheet after
pub record Accepted (b : Open) (raw : RawAxiom) (place : ℕ) (after : Open) : Type 0 where
  pub no_cause : NoneFits (statement_grounds b raw)
  pub stated : Axiom
  pub states : States raw stated
  pub at : place ≡ place_for b.content
  pub adds : after ≡ after_statement b stated

abbrev pub Statement : Open → RawAxiom → Result ℕ Cause → Open → Type 0
Statement b raw (Ok place) after = Accepted b raw place after
Statement b raw (Err e) after = FirstFitting (statement_grounds b raw) e

-- an accepted withdrawal: of the sheet before, the axiom answered and the sheet after
pub record Withdrawn (b : Open) (place : ℕ) (a : Axiom) (after : Open) : Type 0 where
  pub no_cause : NoneFits (withdrawal_grounds b place)
  pub was : answer b.content place ≡ Ok (Some a)
  pub leaves : after ≡ after_withdrawal b place

abbrev pub Withdrawal : Open → ℕ → Result Axiom Cause → Open → Type 0
Withdrawal b place (Ok a) after = Withdrawn b place a after
Withdrawal b place (Err e) after = FirstFitting (withdrawal_grounds b place) e
