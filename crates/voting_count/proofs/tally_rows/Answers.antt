-- `tally_rows` meets its contract. Assumes nothing.
use mathlib.Core.Path.{◌≡◌, refl, sym, ap, ◌∙◌}
use mathlib.Core.Bool.{false}
use mathlib.Core.List.{List, [], ◌∷◌, ◌++◌}
use native.Mathlib.Omega.{arith}
use lib.ListN.{length, take, get_or, length-append}
use lib.Seq.{take_all, length-take-le}
use Rattle.std.proofs.lemmas.Result.{err_from_is_err_and}
use Rattle.lists.proofs.Front.{take_more}
use Rattle.record_rows.proofs.grounds.Grounds.{given-none}
use Rattle.voting.specs.declared.ElectionResult.{ElectionResult}
use Rattle.voting.specs.declared.RollRow.{RollRow}
use Rattle.voting_roll.specs.Roll.{roll_faulty, row_faulty}
use Rattle.voting_roll.proofs.Rolls.{no-rows-faultless, row-passed, row-refused}
use Rattle.voting_count.proofs.Proposals.{proposal-bench-low}
use Rattle.voting_count.proofs.Rolled.{row-place, RowsCounted, no-rows-counted, row-counted}
use Rattle.voting_count.proofs.tally_rows.Goals as goal

abbrev no_row : RollRow
no_row = record { bench = 0; weight = 0 }

pub loop-i-init : goal.loop-i-init
loop-i-init c =
    let t = c.args.tally.now in
    let q : c.push.new.self.items ≡ t.election ∷ [] = c.push.ensures.items ∙ ap (λ (l : List ElectionResult). l ++ (t.election ∷ [])) c.new-answers.ensures in
    rw q (no-rows-faultless, refl, λ P h k z. no-rows-counted c.args.name P t z)

pub returns-in_err-row_fault : goal.returns-in_err-row_fault
returns-in_err-row_fault c =
    let p = err_from_is_err_and c.from_residual.result c.from_residual.ensures.1 in
    λ P h k z. rw (p.1, p.2) (row-refused c.args.roll.now c.loop-i.i c.loop-i-test.true c.loop-i.invariant.0 no_row c.in_err-row_fault.field-0.0 c.in_err-row_fault.ensures, tt)

pub push-requires-in-loop-i : goal.push-requires-in-loop-i
push-requires-in-loop-i c =
    let rows = c.args.roll.now in
    let i = c.loop-i.i in
    let lt = c.loop-i-test.true in
    let h = row-place (take i rows) (get_or rows i no_row) (length (take i rows)) (given-none 13 _ (sym c.in_ok-row_fault.ensures)) in
    (omega arith, omega (arith, h, lt, length-take-le i rows (omega (arith, lt)), c.loop-i.invariant.1))

pub loop-i-preserved : goal.loop-i-preserved
loop-i-preserved c =
    let rows = c.args.roll.now in
    let i = c.loop-i.i in
    let lt = c.loop-i-test.true in
    let row = get_or rows i no_row in
    let w = c.loop-i.invariant in
    let f = given-none 13 (row_faulty (take i rows) row (length (take i rows))) (sym c.in_ok-row_fault.ensures) in
    let answers = c.loop-i.answers.items in
    let t = c.add_vote.new.self in
    let q : c.push-in-loop-i.new.self.items ≡ answers ++ (t.election ∷ []) = c.push-in-loop-i.ensures.items in (
      row-passed rows i lt w.0 no_row f,
      rw q (length-append answers (t.election ∷ []) ∙ omega (arith, w.1)),
      λ P h k z. rw (q, take_more rows i no_row lt)
          (row-counted c.args.name P (take i rows) row (w.2 P h k z) f c.add_vote.ensures.0
          (λ l b s n m. let low = proposal-bench-low row b in c.add_vote.ensures.1 l _ s n m (c.vote_in-cast.ensures P h k low.0 low.1))),
    )

pub returns : goal.returns
returns c = λ P h k z.
    let rows = c.args.roll.now in
    let w = c.loop-i.invariant in
    let whole : take c.loop-i.i rows ≡ rows = take_all c.loop-i.i rows c.loop-i-test.false in
    let counted : RowsCounted c.args.name P rows c.loop-i.tally c.loop-i.answers.items = rw whole at (w.2 P h k z) in
    let f : roll_faulty rows ≡ false = rw whole at w.0 in
    (rw f refl, λ i. record { tally = counted.tally-is i; answers = record { items = counted.answers-are i } })
