-- `number_end` meets its contract. Assumes nothing.
use Rattle.std.proofs.Common.{ap, length, arith}
use lib.ListN.{length-drop}
use Rattle.std.proofs.lemmas.List.{take_rest}
use Rattle.text_forms.specs.Spelling.{number_spelling}
use Rattle.text_lines.proofs.Signs.{no-numeral-past, numeral-short, spelled-missing, spelled-ends}
use Rattle.text_lines.proofs.number_end.Goals as goal

pub returns-then-bytes-from : goal.returns-then-bytes-from
returns-then-bytes-from c = no-numeral-past c.args.bytes.now c.args.from c.if-bytes-from.true

pub overflow_add-result : goal.overflow_add-result
overflow_add-result c =
    let s = c.args.bytes.now in
    let from = c.args.from in
    omega (arith, c.if-bytes-from.false, numeral-short _ c.in-Some.ensures, ap length (take_rest s from), length-drop from s)

pub returns-in-Some : goal.returns-in-Some
unfolding number_spelling
returns-in-Some c = spelled-ends number_spelling c.args.bytes.now c.args.from (take_rest c.args.bytes.now c.args.from) c.in-Some.ensures (numeral-short _ c.in-Some.ensures)

pub returns-in-None : goal.returns-in-None
unfolding number_spelling
returns-in-None c = spelled-missing number_spelling c.args.bytes.now c.args.from (take_rest c.args.bytes.now c.args.from) c.in-None.ensures
