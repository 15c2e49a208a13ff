-- `write_field` meets its contract. Assumes nothing.
use Rattle.std.proofs.Common.{◌++◌, arith}
use lib.ListN.{length-append}
use Rattle.text_forms.specs.decimal.Decimal.{decimal}
use Rattle.text_forms.specs.Spelling.{bytes}
use Rattle.text_forms.proofs.decimal.Parts.{second-room, written_both}
use Rattle.text_lines.specs.Pieces.{line_ended}
use Rattle.text_lines.proofs.write_field.Goals as goal

pub write_words-at-requires : goal.write_words-at-requires
unfolding bytes
write_words-at-requires c = let a = c.args in let s = bytes " field=" ++ a.word.now in let t = line_ended (bytes " value=" ++ decimal a.value) in omega (arith, length-append s t, c.requires)

pub write_ended-requires : goal.write_ended-requires
unfolding bytes
write_ended-requires c = let a = c.args in let s = bytes " field=" ++ a.word.now in second-room s a.out.now c.write_words-at.ensures (line_ended (bytes " value=" ++ decimal a.value)) c.requires

pub returns : goal.returns
unfolding bytes
returns c = let a = c.args in let s = bytes " field=" ++ a.word.now in written_both s a.out.now c.write_words-at.ensures (line_ended (bytes " value=" ++ decimal a.value)) c.requires c.write_ended.ensures
