-- `lookup::place_of` meets its contract. Assumes nothing.
use mathlib.Core.Path.{◌≡◌, ap, ◌∙◌}
use Rattle.std.proofs.Common.{rules}
use Rattle.std.proofs.lemmas.Fn.{always_returns_same}
use Rattle.std.specs.Ordering.{nat_cmp}
use Rattle.record.specs.declared.Edit.{Edit}
use Rattle.record.specs.Record.{Record, name_of, written}
use Rattle.record_tables.proofs.Tables.{held-record}
use Rattle.record_tables.proofs.lookup.Places.{searched, written-ascends}
use Rattle.record_tables.proofs.lookup.place_of.Goals as goal

pub returns : goal.returns
unfolding written
returns c = λ R e k.
    let s = c.args in
    let l : c.edit_slice.result.now ≡ R.edits = c.edit_slice.ensures ∙ ap (λ (x : Record). x.edits) (held-record s.joined R e) in
    let found = c.binary_search_by.ensures.position (λ (x : Edit). nat_cmp (name_of x) s.name) (always_returns_same _ _ _ (λ a r h q. search rules)) in
    c.ok.ensures.value ∙ searched R.edits s.name (written-ascends R k) c.binary_search_by.result (rw l at c.binary_search_by.ensures.bound) (rw l at found)
