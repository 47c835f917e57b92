use Rattle.std.proofs.Common.{◌≤◌, length, replicate, ap, ◌∙◌, inl, inr}
use lib.ListN.{length-replicate}
use Rattle.std.proofs.lemmas.List.{get_or-replicate, get_or_past}
use Rattle.std.proofs.lemmas.Bool.{cases_lt}
use Rattle.tables.specs.Sets.{has}
use Rattle.tables.specs.Tables.{cell, no_names}
use Rattle.tables.proofs.Digits.{bit_none}
use Rattle.tables.proofs.table.Table.none.Goals as goal

pub returns : goal.returns
unfolding cell
returns c = record {
  holds_no_pair = λ i j. elim (cases_lt i 64) [
    | inl hi ↦ ap (λ r. has r j) (get_or-replicate 64 i c.none-none.result no_names hi) ∙ c.none-none.ensures j
    | inr hi ↦
        let past : length (replicate 64 c.none-none.result) ≤ i = simp length-replicate hi in
        ap (λ r. has r j) (get_or_past (replicate 64 c.none-none.result) i no_names past) ∙ bit_none j
  ];
}
