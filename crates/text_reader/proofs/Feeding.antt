-- A text that is read line by line: the next line, the loop over the lines, and the end. Assumes nothing.
use Rattle.std.proofs.Common.{◌≡◌, refl, ap, sym, ◌∙◌, Bool, true, false, List, [], ◌∷◌, ℕ, ◌+◌, length, eqb, arith}
use Rattle.std.specs.Prelude.{Result, Ok, Err, IfOk}
use borrow.Author.Tests.{eqb-true, eqb-false}
use Rattle.lists.proofs.Lists.{by}
use Rattle.record.specs.declared.Record as declared
use Rattle.record.specs.Record.{Record}
use Rattle.record.specs.Judgement.{sound}
use Rattle.record.specs.Stored.{stored}
use Rattle.record_rows.specs.row.Row.{same}
use Rattle.refusals.specs.declared.Refusal.TheVariants.{NotInForm, Unsound}
use Rattle.graph.specs.indexes.Fit.{Fit}
use Rattle.graph.proofs.indexes.Fit.{checked-fit}
use Rattle.text_lines.specs.Lines.{lines}
use Rattle.text.specs.Text.{Manner, Parsed, Answer, Accepted, Refused, ReadSoFar, text_begun, ◌followed_by◌, line_fault, awaits_header, line_fed, text_finished, read_from, read_in, read_text}
use Rattle.text.specs.Above.{Gathers}
use Rattle.text.proofs.RoundTrip.{accepted-text}
use Rattle.text_reader.specs.declared.Fault.{Fault}
use Rattle.text_reader.specs.Reading.{Reads, ReadsLine}
use Rattle.text_reader.specs.Held.{HeaderTaken, LineTaken, LineRead}

module _ (M : Manner) where
  -- the next line: the header, or one of a row
  module _ (before : ReadSoFar) (line : List ℕ) {number : ℕ} {after : ReadSoFar} where
    pub header-read : awaits_header M before.count ≡ true → HeaderTaken M before line number after → LineRead (line_fed M before line) before number after
    unfolding line_fed
    header-read o t =
        by (same line M.header)
        (λ (e : same line M.header ≡ true). rw (o, e) (t.number_is ∙ rw e refl, t.rows-are ∙ rw e refl))
        (λ (e : same line M.header ≡ false). rw (o, e) (t.number_is ∙ rw e refl, λ z. absurd (omega (arith, z)), refl, t.rows-are ∙ rw e refl))

    pub row_read : awaits_header M before.count ≡ false → LineTaken M before (M.line.reads line) number after → LineRead (line_fed M before line) before number after
    unfolding line_fed
    row_read o t =
        let n = line_fault M before.edits before.constraints (M.line.reads line) in
        by (eqb n 0)
        (λ (e : eqb n 0 ≡ true). let z : number ≡ 0 = t.number_is ∙ eqb-true n 0 e in rw (o, e) (z, t.rows-are ∙ rw z refl))
        (λ (e : eqb n 0 ≡ false).
        let f : eqb number 0 ≡ false = rw t.number_is e in
        rw (o, e) (t.number_is, eqb-false n 0 e, refl, t.rows-are ∙ rw f refl))

  -- what the whole text comes to, what is read so far, and what is left
  abbrev pub Upto : Answer → ReadSoFar → List ℕ → Type 0
  Upto whole before rest = whole ≡ read_from M before (lines rest)

  module _ (whole : Answer) (before : ReadSoFar) (rest : List ℕ) (u : Upto whole before rest) where
    -- the next line, and what is left after it
    module _ (l later : List ℕ) (h : lines rest ≡ l ∷ lines later) (after : ReadSoFar) where
      pub upto-refused : (fault : Fault) → ReadsLine {A = Unit {0}} (line_fed M before l) before (Err fault) after → Reads whole (Err fault)
      unfolding read_from
      upto-refused fault t = rw (u, h) (go (line_fed M before l) t)
        where
          go : (r : Parsed ReadSoFar) → ReadsLine {A = Unit {0}} r before (Err fault) after → Reads (r followed_by (λ now. read_from M now (lines later))) (Err fault)
          go (Accepted more) t = absurd t
          go (Refused n line) t = t.0

      pub upto_next : (x : Unit {0}) → ReadsLine (line_fed M before l) before (Ok x) after → Upto whole after later
      unfolding read_from
      upto_next x t = u ∙ rw h (go (line_fed M before l) t)
        where
          go : (r : Parsed ReadSoFar) → ReadsLine r before (Ok x) after → (r followed_by (λ now. read_from M now (lines later))) ≡ read_from M after (lines later)
          go (Accepted more) t = ap (λ now. read_from M now (lines later)) (sym t)
          go (Refused n line) t = absurd t.0

    pub upto-end : lines rest ≡ [] → whole ≡ text_finished M before
    unfolding read_from
    upto-end h = rw h at u

  -- a text is read from where nothing is
  pub upto-start : (text : List ℕ) → Upto (read_in M text) text_begun text
  unfolding read_in
  upto-start text = refl

  module _ (text : List ℕ) where
    pub whole-refused : (fault : Fault) → Reads (read_from M text_begun (lines text)) (Err fault) → Reads (read_in M text) (Err fault)
    whole-refused fault r = rw (upto-start text) r

    pub whole-finished : (before : ReadSoFar) → read_from M text_begun (lines text) ≡ text_finished M before → (answer : Result declared.Record Fault) → Reads (text_finished M before) answer → Reads (read_in M text) answer
    whole-finished before e answer r = rw (upto-start text, e) r

  -- the end
  module _ (before : ReadSoFar) where
    pub finish-headless : awaits_header M before.count ≡ true → Reads (text_finished M before) (Err (record { refusal = NotInForm; line = 1 }))
    unfolding text_finished
    finish-headless o = rw o (refl, refl)

    module _ (o : awaits_header M before.count ≡ false) {content : declared.Record} (g : Gathers M before.edits before.constraints content) {s : Bool} (f : (R : Record) → content ≡ stored R → Fit R → s ≡ sound R) where
      sound-is : s ≡ sound (M.gathered before.edits before.constraints)
      sound-is = f (M.gathered before.edits before.constraints) g.is (checked-fit (M.gathered before.edits before.constraints) g.checked)

      pub finish-sound : s ≡ true → Reads (text_finished M before) (Ok content)
      unfolding text_finished
      finish-sound t = let e : sound (M.gathered before.edits before.constraints) ≡ true = sym sound-is ∙ t in rw (o, e) (ap Ok g.is)

      pub finish-unsound : s ≡ false → Reads (text_finished M before) (Err (record { refusal = Unsound; line = before.count }))
      unfolding text_finished
      finish-unsound t = let e : sound (M.gathered before.edits before.constraints) ≡ false = sym sound-is ∙ t in rw (o, e) (refl, refl)

-- an accepted text has a line for each row
pub rows-counted : (text : List ℕ) (answer : Result declared.Record Fault) → Reads (read_text text) answer → IfOk answer (λ content. content.edit_count + content.constraint_count ≡ length (lines text))
rows-counted text answer r = go (read_text text) refl answer r
  where
    go : (a : Answer) → read_text text ≡ a → (answer : Result declared.Record Fault) → Reads a answer → IfOk answer (λ content. content.edit_count + content.constraint_count ≡ length (lines text))
    go (Accepted R) e answer r = rw r (accepted-text text R e).0.count
    go (Refused n line) e (Ok content) r = absurd r
    go (Refused n line) e (Err fault) r = tt
