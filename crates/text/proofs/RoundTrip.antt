-- The round trip of old texts: a record's text is read as that record, and a text that is read as a record is that record's text. Assumes nothing.
use mathlib.Core.Path.{◌≡◌, refl, sym, ◌∙◌}
use mathlib.Core.Bool.{true, false}
use mathlib.Core.List.{List, [], ◌∷◌}
use Prim.Native.Nat.{ℕ, ◌+◌}
use native.Mathlib.Omega.{arith}
use lib.Dec.{eqb}
use lib.ListN.{length, length-map}
use Rattle.lists.specs.Lists.{all}
use Rattle.lists.proofs.Lists.{by}
use Rattle.record.specs.Record.{Record}
use Rattle.record.specs.Judgement.{sound}
use Rattle.record_rows.specs.row.Row.{edit_row, constraint_row}
use Rattle.record_rows.specs.grounds.Ground.{Rows}
use Rattle.record_tables.specs.Table.{edit_rows}
use Rattle.record_tables.specs.Checked.{Checked}
use Rattle.text_lines.specs.Lines.{lines}
use Rattle.text.specs.Text.{no_ground, old_lines, old_manner, text_of, read_text, Answer, Accepted, Refused, ◌followed_by◌, judged, values_fit}
use Rattle.text.specs.Rows.{read_rows}
use Rattle.text.proofs.Manners.{LawfulManner}
use Rattle.text.proofs.InManner.{refused-not, refused-number-in, rows-judged, rows-took-in, took-in, written-again-in}
use Rattle.text.proofs.Rows.{old-lines-lawful, constraint-lines, edit-lines, lines-values}
use Rattle.text.proofs.OwnOrder.{own-lawful, own-rows-read, own-read-again}

pub old-lawful : LawfulManner old_manner
old-lawful = own-lawful no_ground old_lines [] old-lines-lawful (λ e rest. let z : ⊥ = cc in absurd z) (omega arith)

none-last : (t : Rows) → all (λ row. eqb (no_ground row) 0) t ≡ true
unfolding all
none-last [] = refl
none-last (x ∷ t) = none-last t

-- The lines of what was written are accepted, and their rows are those of the record, sound or not.
pub rows-read : (R : Record) → Checked R → values_fit R ≡ true → read_rows (text_of R) ≡ Accepted R
rows-read R k v = own-rows-read no_ground old_lines [] old-lawful R k (edit-lines R k v) (constraint-lines R k) (none-last (edit_rows R))

-- Reading what was written gives the same record.
pub read_again : (R : Record) → Checked R → values_fit R ≡ true → sound R ≡ true → read_text (text_of R) ≡ Accepted R
read_again R k v s = own-read-again no_ground old_lines [] old-lawful R k (edit-lines R k v) (constraint-lines R k) (none-last (edit_rows R)) s

-- An accepted text, read and written, is the same bytes.
pub written-again : (text : List ℕ) (R : Record) → read_text text ≡ Accepted R → text_of R ≡ text
written-again = written-again-in old_manner old-lawful

-- A text without a faulty line gave a checked record, sound or not, whose values fit, and is that record's text; its lines are as many as the record's rows.
pub record Took (text : List ℕ) (R : Record) : Type 0 where
  pub checked : Checked R
  pub values : values_fit R ≡ true
  pub same : text_of R ≡ text
  pub count : length R.edits + length R.constraints ≡ length (lines text)

pub rows-took : (text : List ℕ) (R : Record) → read_rows text ≡ Accepted R → Took text R
rows-took text R h =
    let t = rows-took-in old_manner old-lawful text R h in
    record {
      checked = t.checked;
      values = lines-values R t.forms;
      same = t.same;
      count = omega (arith, t.count, length-map R.edits edit_row, length-map R.constraints constraint_row);
    }

-- an accepted text too, and its record is sound
pub accepted-text : (text : List ℕ) (R : Record) → read_text text ≡ Accepted R → Took text R × (sound R ≡ true)
accepted-text text R h =
    let t = took-in old_manner old-lawful text R h in (
      record {
        checked = t.checked;
        values = lines-values R t.forms;
        same = t.same;
        count = omega (arith, t.count, length-map R.edits edit_row, length-map R.constraints constraint_row);
      },
      t.sound-now,
    )

-- A refusal has a number.
pub refused-number : (text : List ℕ) (k l : ℕ) → read_rows text ≡ Refused k l → k ≡ 0 → ⊥
refused-number = refused-number-in old_manner

pub refused-text-number : (text : List ℕ) (k l : ℕ) → read_text text ≡ Refused k l → k ≡ 0 → ⊥
refused-text-number text k l h z = go (read_rows text) refl (sym (rows-judged old_manner text) ∙ h)
  where
    go : (a : Answer) → read_rows text ≡ a → (a followed_by judged (length (lines text))) ≡ Refused k l → ⊥
    go (Accepted S) q w =
        by (sound S)
        (λ (e : sound S ≡ true). refused-not k l S (sym (rw e at w)))
        (λ (e : sound S ≡ false). let u : Refused 8 (length (lines text)) ≡ Refused k l = rw e at w in let m : 8 ≡ k = cc in omega arith)
    go (Refused n m) q w = let u : n ≡ k = cc in refused-number text n m q (u ∙ z)
