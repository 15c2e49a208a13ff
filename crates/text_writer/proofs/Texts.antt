-- The text of a stored record in a manner: the lines of its edits, and those of its constraints. Assumes nothing.
use Rattle.std.proofs.Common.{◌≡◌, sym, ◌∙◌, true, false, List, ◌++◌, map, ℕ, ◌+◌, ◌-◌, ◌≤◌, leb, take, Some, None, arith}
use mathlib.Core.List.{map-map}
use borrow.Author.Tests.{le-leb, lt-leb, leb-true, leb-false}
use Rattle.std.specs.Prelude.{Option, is_some}
use Rattle.lists.proofs.Lists.{by}
use Rattle.record.specs.declared.Record as declared
use Rattle.record.specs.Stored.{record_of}
use Rattle.record_rows.specs.row.Row.{edit_row, constraint_row}
use Rattle.text_forms.specs.Fit.{room_after}
use Rattle.text_forms.proofs.Fits.{room-short, room-both}
use Rattle.record_tables.specs.Table.{edit_rows, constraint_rows}
use Rattle.text.specs.Text.{Manner, joined_lines, rows_text, written_in}
use Rattle.text_writer.proofs.Writing.{room-none, room-some}
use Rattle.text_writer.specs.Placed.{edit_text, constraint_text, tables_text, headed_text}

module _ (M : Manner) (content : declared.Record) where
  abbrev pub edits-text : List ℕ
  edits-text = joined_lines (map (edit_text M) (take content.edit_count content.edits))

  abbrev pub constraints-text : List ℕ
  constraints-text = joined_lines (map (constraint_text M) (take content.constraint_count content.constraints))

  pub text-is : tables_text M content ≡ edits-text ++ constraints-text
  unfolding rows_text
  text-is =
      rw (map-map M.line.edit edit_row (take content.edit_count content.edits), map-map M.line.constraint constraint_row (take content.constraint_count content.constraints))

  -- a record in the manner's order
  pub arranged-text : (arranged : declared.Record) → (edit_rows (record_of arranged) ≡ M.edits (record_of content)) × (constraint_rows (record_of arranged) ≡ M.constraints (record_of content)) → headed_text M arranged ≡ written_in M (record_of content)
  unfolding written_in
  arranged-text arranged p = rw (p.0, p.1)

-- what two texts leave of a room
module _ (room m n : ℕ) where
  pub first-short : None ≡ room_after room m → None ≡ room_after room (m + n)
  first-short h = sym (room-short room (m + n) (omega (arith, room-none room m h)))

  pub both-left : {left : ℕ} → Some left ≡ room_after room m → {rest : Option ℕ} → rest ≡ room_after left n → rest ≡ room_after room (m + n)
  both-left h e = let p = room-some room m h in e ∙ rw p.1 (sym (room-both room m n p.0))

  pub both-short : None ≡ room_after room m → false ≡ leb (m + n) room
  both-short h =
      by (leb m room)
      (λ (e : leb m room ≡ true). let q = rw e at h in (cc))
      (λ (e : leb m room ≡ false). sym (lt-leb (m + n) room (omega (arith, leb-false m room e))))

  pub both-fit : {left : ℕ} → Some left ≡ room_after room m → is_some (room_after left n) ≡ leb (m + n) room
  both-fit {left} h =
      by (leb m room)
      (λ (e : leb m room ≡ true).
      let l : m ≤ room = leb-true m room e in
      let p : left ≡ room - m = (let q = rw e at h in (cc)) in
      by (leb n left)
      (λ (f : leb n left ≡ true). rw (f, le-leb (m + n) room (omega (arith, leb-true n left f))))
      (λ (f : leb n left ≡ false). rw (f, lt-leb (m + n) room (omega (arith, leb-false n left f)))))
      (λ (e : leb m room ≡ false). let q = rw e at h in (cc))
