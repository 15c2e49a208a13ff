-- `with_answer` meets its contract. Assumes nothing.
use mathlib.Core.Path.{refl, sym, ◌∙◌}
use native.Mathlib.Nat.{pos_of_ne-zero}
use borrow.Author.Rules.{rules}
use Rattle.unity_table.proofs.Sums.{row-few, answer-range, answer-place, answer-room, answer-empty, answer-share}
use Rattle.unity_table.proofs.Summed.with_answer.Goals as goal

pub overflow_add-row : goal.overflow_add-row
overflow_add-row c = let p = row-few c.args.self c.requires.answers c.args.a c.requires.after in search rules

pub returns-then-is_out_of_range : goal.returns-then-is_out_of_range
returns-then-is_out_of_range c = λ l o. answer-range c.args.self l c.args.a o (sym c.is_out_of_range.ensures ∙ c.if-is_out_of_range.true)

pub returns-then-self-ge-ELECTION_LIMIT : goal.returns-then-self-ge-ELECTION_LIMIT
returns-then-self-ge-ELECTION_LIMIT c = λ l o. answer-place c.args.self l c.args.a o (sym c.is_out_of_range.ensures ∙ c.if-is_out_of_range.false) c.if-self-ge-ELECTION_LIMIT.true

pub with_empty-requires : goal.with_empty-requires
with_empty-requires c = answer-room c.args.self c.requires.answers c.args.a c.requires.after (sym c.is_out_of_range.ensures ∙ c.if-is_out_of_range.false) c.if-self-ge-ELECTION_LIMIT.false

pub returns-then-a-eq0 : goal.returns-then-a-eq0
returns-then-a-eq0 c = λ l o. rw c.with_empty.ensures (answer-empty c.args.self l c.args.a o (sym c.is_out_of_range.ensures ∙ c.if-is_out_of_range.false) c.if-self-ge-ELECTION_LIMIT.false c.if-a-eq0.true)

pub with_share-requires : goal.with_share-requires
with_share-requires c = (answer-room c.args.self c.requires.answers c.args.a c.requires.after (sym c.is_out_of_range.ensures ∙ c.if-is_out_of_range.false) c.if-self-ge-ELECTION_LIMIT.false, (sym c.is_out_of_range.ensures ∙ c.if-is_out_of_range.false, pos_of_ne-zero c.if-a-eq0.false))

pub returns : goal.returns
returns c = λ l o.
    rw (c.ok_or.ensures.value, c.with_share.ensures)
    (answer-share c.args.self l c.args.a o (sym c.is_out_of_range.ensures ∙ c.if-is_out_of_range.false) c.if-self-ge-ELECTION_LIMIT.false (pos_of_ne-zero c.if-a-eq0.false) _ refl)
