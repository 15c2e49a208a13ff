-- `write_setting` meets its contract. Assumes nothing.
use Rattle.std.proofs.Common.{◌++◌, arith}
use lib.ListN.{length-append}
use Rattle.text_forms.specs.decimal.Decimal.{decimal}
use Rattle.text_forms.specs.Spelling.{bytes}
use Rattle.text_forms.proofs.decimal.Parts.{second-room, written_both}
use Rattle.text_lines.specs.Pieces.{field_part}
use Rattle.text_lines.proofs.write_setting.Goals as goal

pub write_worded-at-requires : goal.write_worded-at-requires
unfolding bytes
write_worded-at-requires c = let a = c.args in let s = bytes " do=set chip=" ++ decimal a.place in omega (arith, length-append s (field_part a.word.now a.value), c.requires)

pub write_field-requires : goal.write_field-requires
unfolding bytes
write_field-requires c = let a = c.args in second-room (bytes " do=set chip=" ++ decimal a.place) a.out.now c.write_worded-at.ensures (field_part a.word.now a.value) c.requires

pub returns : goal.returns
unfolding bytes
returns c = let a = c.args in written_both (bytes " do=set chip=" ++ decimal a.place) a.out.now c.write_worded-at.ensures (field_part a.word.now a.value) c.requires c.write_field.ensures
