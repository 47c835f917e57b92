use Rattle.std.proofs.Common.{◌<◌, ◌≤◌, ◌&&◌, ◌||◌, eqb, length, sym, ap, ◌∙◌, arith, rules}
use Rattle.std.proofs.lemmas.List.{take_all}
use Rattle.tables.specs.Tables.{cell}
use Rattle.closing.specs.Places.{held}
use Rattle.closing.specs.Tests.{is_stated}
use Rattle.closing.proofs.Stating.{more_vacant, more_other, more_such}
use denote.Enum.Bare.{same_true, same_false}
use Rattle.axioms.specs.contracts.kinds.Kind.{the_type}
use Rattle.closing.proofs.theory.Theory.stated.Goals as goal
use Rattle.closing.proofs.theory.Theory.stated.Goals.{in-Some+then-eq, in_default, in_default-via-in-None-1, in_default-via-in-Some+else-eq}

pub loop-found-preserved : goal.loop-found-preserved
loop-found-preserved c i j hi hj =
    let t = c.args.self.now in
    let k = c.args.kind in
    let place = c.loop-found.found-index in
    let within : place < length t.places = omega (arith, t.all_places) in
    let before = c.loop-found.invariant i j hi hj in
    elim c.match-found.branch [
      | in-Some+then-eq w ↦
          let stated = w.in-Some.stated in
          ap (λ u. cell u i j) w.table-is ∙ w.mark.ensures.one_pair_more i j hi hj ∙ ap (λ b. b || (eqb i stated.left && eqb j stated.right)) before
          ∙ sym (more_such t.places place within k i j stated w.in-Some.is (same_true the_type (search rules) _ _ (sym w.if-eq.ensures)))
      | in_default w ↦ ap (λ u. cell u i j) w.table-is ∙ before
          ∙ sym (elim w.in_default.branch [
            | in_default-via-in-None-1 w' ↦ more_vacant t.places place within k i j (cc)
            | in_default-via-in-Some+else-eq w' ↦ more_other t.places place within k i j w'.in-Some.stated w'.in-Some.is (same_false the_type _ _ (sym w'.if-eq.ensures))
          ])
    ]

pub returns : goal.returns
returns c i j hi hj =
    let t = c.args.self.now in
    let all : length t.places ≤ c.loop-found.found-index = omega (arith, t.all_places) in
    c.loop-found.invariant i j hi hj ∙ ap (λ xs. is_stated (held xs) c.args.kind i j) (take_all c.loop-found.found-index t.places all)
