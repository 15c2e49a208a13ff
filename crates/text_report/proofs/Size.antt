-- What is printed of a text takes at most 16,384 bytes, so that an output of this size is never too short. Assumes nothing.
use mathlib.Core.Path.{◌≡◌, refl, ◌∙◌}
use mathlib.Core.Bool.{Bool, true, false, cond}
use mathlib.Core.Logic.{inl, inr}
use mathlib.Core.List.{List, [], ◌∷◌, ◌++◌, map}
use Prim.Native.Nat.{ℕ, ◌+◌, ◌*◌, ◌≤◌, ◌<◌}
use native.Mathlib.Omega.{arith}
use lib.ListN.{length, length-append, length-map}
use Rattle.record.specs.declared.Edit.{Edit}
use Rattle.lists.specs.Lists.{mem, Has}
use Rattle.record.specs.Record.{Record, name_of, written}
use Rattle.record.specs.Schedule.{schedule}
use Rattle.record.specs.Judgement.{sound, must, never, settled}
use Rattle.lists.proofs.Lists.{mem_index, by}
use Rattle.record.proofs.Scheduled.{schedule-sound, sound-length}
use Rattle.lists.proofs.Logic.{has-mapped, all-has}
use Rattle.record_rows.specs.row.Row.{edit_in_range, edit_row}
use Rattle.record_tables.specs.Checked.{Checked}
use Rattle.record_tables.proofs.Marks.{edit-small}
use Rattle.record_tables.proofs.Records.{checked-wellformed}
use Rattle.graph.specs.links.Marks.{place_in}
use Rattle.text_forms.specs.Spelling.{bytes}
use Rattle.text_forms.specs.Form.{is_mark, fill}
use Rattle.text_forms.proofs.Lawful.{decimal-lawful}
use Rattle.text_forms.proofs.Forms.{room, fill-room}
use Rattle.text.specs.Text.{joined_lines, Answer, Accepted, Refused, read_text}
use Rattle.text.proofs.RoundTrip.{accepted-text}
use Rattle.text.proofs.Limit.{refusal-small}
use Rattle.std.specs.Prelude.{Ok}
use Rattle.text_writer.specs.Placed.{placing}
use Rattle.text_writer.proofs.Placing.{start-enough}
use Rattle.text_report.specs.Report.{counts_form, report_form, refusal_form, report_numbers, report_of, refusal_line, printed}

counts-room : room counts_form ≤ 40
unfolding room counts_form bytes is_mark
counts-room = omega arith

line-room : room report_form ≤ 100
unfolding room report_form bytes is_mark
line-room = omega arith

refusal-room : room refusal_form ≤ 40
unfolding room refusal_form bytes is_mark
refusal-room = omega arith

pub joined-size : (bound : ℕ) (ls : List (List ℕ)) → ((l : List ℕ) → Has l ls → length l ≤ bound) → length (joined_lines ls) ≤ bound * length ls
unfolding joined_lines
joined-size bound [] f = omega arith
joined-size bound (l ∷ ls) f =
    let a : length (l ++ joined_lines ls) ≡ length l + length (joined_lines ls) = length-append l (joined_lines ls) in
    omega (arith, f l (inl refl), joined-size bound ls (λ x m. f x (inr m)))

bit-small : (b : Bool) → cond b 1 0 < 4294967296
bit-small true = omega arith
bit-small false = omega arith

module _ (R : Record) (k : Checked R) (s : sound R ≡ true) where
  place-small : (x : ℕ) → place_in (schedule R []) x < 4294967296
  unfolding place_in written
  place-small x =
      let w = sound-length R (schedule R []) (schedule-sound R (checked-wellformed R k) s []) in
      let n : length (map name_of R.edits) ≡ length R.edits = length-map R.edits name_of in
      by (mem x (schedule R []))
      (λ (e : mem x (schedule R []) ≡ true). rw e (omega (arith, mem_index x (schedule R []) e, k.editplaces)))
      (λ (e : mem x (schedule R []) ≡ false). rw e (omega arith))

  line-size : (e : Edit) → Has e R.edits → length (fill report_form (report_numbers R e.name)) ≤ 100
  unfolding report_numbers
  line-size e m =
      let n : e.name < 2304 = edit-small e (all-has (λ e. edit_in_range (edit_row e)) R.edits k.editrange e m) in
      omega (arith, line-room, fill-room decimal-lawful report_form (report_numbers R e.name) (omega arith, (bit-small (must R e.name), (bit-small (never R e.name), (bit-small (settled R e.name), (place-small e.name, tt))))))

  pub report-size : length (report_of R) ≤ 16384
  unfolding report_of written
  report-size =
      let first = fill counts_form (length R.edits ∷ length R.constraints ∷ []) in
      let ls = map (fill report_form) (map (report_numbers R) (map name_of R.edits)) in
      let a : length first ≤ 40 = omega (arith, counts-room, fill-room decimal-lawful counts_form (length R.edits ∷ length R.constraints ∷ []) (omega (arith, k.editplaces), (omega (arith, k.constraintplaces), tt))) in
      let b : length (joined_lines ls) ≤ 100 * length ls = joined-size 100 ls
      (λ l m. has-mapped (fill report_form) l (map (report_numbers R) (map name_of R.edits)) m
      (λ ns u p. has-mapped (report_numbers R) ns (map name_of R.edits) u
      (λ x v q. has-mapped name_of x R.edits v (λ e w r. rw (p, q, r) (line-size e w))))) in
      let c : length ls ≡ length R.edits = length-map (map (report_numbers R) (map name_of R.edits)) (fill report_form) ∙ length-map (map name_of R.edits) (report_numbers R) ∙ length-map R.edits name_of in
      omega (arith, length-append first (joined_lines ls), k.editplaces)

refusal-size : (number line : ℕ) → number ≤ 13 → line ≤ 640 → length (refusal_line number line) ≤ 16384
unfolding refusal_line
refusal-size number line a b = omega (arith, refusal-room, fill-room decimal-lawful refusal_form (number ∷ line ∷ []) (omega arith, (omega arith, tt)))

pub printed-size : (text : List ℕ) → length (printed (read_text text)) ≤ 16384
printed-size text = go (read_text text) refl
  where
    go : (a : Answer) → read_text text ≡ a → length (printed a) ≤ 16384
    go (Accepted R) q = let t = accepted-text text R q in report-size R t.0.checked t.1
    go (Refused k m) q = let t = refusal-small text k m q in refusal-size k m t.0 t.1

-- An output of 16,384 bytes takes what is printed of any text.
pub printed-fits : (text out : List ℕ) → 16384 ≤ length out → placing (printed (read_text text)) 0 out ≡ Ok (length (printed (read_text text)))
printed-fits text out h = start-enough (printed (read_text text)) out 16384 (printed-size text) h
