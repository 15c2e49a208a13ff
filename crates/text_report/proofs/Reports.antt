-- What the report and the refusal of a text come to. Assumes nothing.
use mathlib.Core.Path.{◌≡◌, refl, ap, ◌∙◌}
use mathlib.Core.List.{List, [], ◌∷◌, ◌++◌, map}
use Prim.Native.Nat.{ℕ}
use lib.ListN.{length, take}
use lib.Seq.{take_at}
use Rattle.record.specs.declared.Constraint.{Constraint}
use Rattle.record.specs.declared.Edit.{Edit}
use Rattle.record.specs.declared.Record as declared
use Rattle.record.specs.Record.{Record, written}
use Rattle.record.specs.Stored.{stored, padded}
use Rattle.record_tables.specs.Checked.{Checked}
use Rattle.graph.specs.indexes.Fit.{Fit}
use Rattle.graph.proofs.indexes.Fit.{checked-fit}
use Rattle.judgement.specs.declared.Judged.{Judged}
use Rattle.judgement.specs.Judged.{judged_of}
use Rattle.text_forms.specs.Form.{fill}
use Rattle.text.specs.Text.{joined_lines, Answer, Accepted, Refused, read_text}
use Rattle.text.proofs.RoundTrip.{accepted-text}
use Rattle.std.specs.Prelude.{Result, Ok, Err}
use Rattle.refusals.specs.declared.Refusal.{Refusal}
use Rattle.refusals.specs.Numbers.{number}
use Rattle.text_reader.specs.declared.Fault.{Fault}
use Rattle.text_reader.specs.Reading.{Reads}
use Rattle.text_writer.specs.Placed.{placed, placing}
use Rattle.text_report.specs.declared.ReportLine.{ReportLine}
use Rattle.text_report.specs.Report.{counts_form, report_form, report_numbers, report_of, refusal_line, printed, at_no_line, Reported, reported_out}
use Rattle.text_report.specs.Rows.{line_text, report_lines}
use Rattle.text_report.proofs.Numbers.{lines-are}

-- the report by the code's lines
module _ (content : declared.Record) (R : Record) (e : content ≡ stored R) (k : Checked R) {j : Judged} (f : (S : Record) → content ≡ stored S → Fit S → j ≡ judged_of S) {edits : List Edit} {constraints : List Constraint}
    (a : edits ≡ take content.edit_count content.edits) (b : constraints ≡ take content.constraint_count content.constraints) (lines : List ReportLine) (g : take (length edits) lines ≡ report_lines j 1 edits) where
  report-is : fill counts_form (length edits ∷ length constraints ∷ []) ++ joined_lines (map line_text (take (length edits) lines)) ≡ report_of R
  unfolding report_of padded
  report-is =
      let t : edits ≡ R.edits = a ∙ rw e (take_at R.edits _ (length R.edits) refl) in
      let u : constraints ≡ R.constraints = b ∙ rw e (take_at R.constraints _ (length R.constraints) refl) in
      let q : j ≡ judged_of R = f R e (checked-fit R k) in
      let w : map line_text (take (length edits) lines) ≡ map (fill report_form) (map (report_numbers R) (written R)) = ap (map line_text) g ∙ rw (t, q) (lines-are R) in
      rw (w, t, u)

  pub report-placed : (before : List ℕ) (at : ℕ) {w : Result ℕ Refusal} {after : List ℕ}
      → w ≡ placing (fill counts_form (length edits ∷ length constraints ∷ []) ++ joined_lines (map line_text (take (length edits) lines))) at before
      → after ≡ placed (fill counts_form (length edits ∷ length constraints ∷ []) ++ joined_lines (map line_text (take (length edits) lines))) at before
      → (w ≡ placing (report_of R) at before) × (after ≡ placed (report_of R) at before)
  report-placed before at p q = (rw report-is at p, rw report-is at q)

module _ (text out : List ℕ) where
  -- a refused text
  module _ (fault : Fault) (h : Reads (read_text text) (Err fault)) where
    pub reported-refused : Reported (read_text text) out (Err fault) × (out ≡ reported_out (read_text text) out)
    reported-refused = go (read_text text) h
      where
        go : (a : Answer) → Reads a (Err fault) → Reported a out (Err fault) × (out ≡ reported_out a out)
        go (Accepted R) q = let z : ⊥ = cc in absurd z
        go (Refused n l) q = (q, refl)

    pub printed-refused : {w : Result ℕ Refusal} {after : List ℕ} → w ≡ placing (refusal_line (number fault.refusal) fault.line) 0 out → after ≡ placed (refusal_line (number fault.refusal) fault.line) 0 out
        → (w ≡ placing (printed (read_text text)) 0 out) × (after ≡ placed (printed (read_text text)) 0 out)
    printed-refused {w} {after} p r = go (read_text text) h
      where
        go : (a : Answer) → Reads a (Err fault) → (w ≡ placing (printed a) 0 out) × (after ≡ placed (printed a) 0 out)
        go (Accepted R) q = let z : ⊥ = cc in absurd z
        go (Refused n l) q = (p ∙ rw (q.0, q.1), r ∙ rw (q.0, q.1))

  -- an accepted one
  module _ (content : declared.Record) (h : Reads (read_text text) (Ok content)) {w : Result ℕ Refusal} {after : List ℕ}
      (f : (R : Record) → content ≡ stored R → Checked R → (w ≡ placing (report_of R) 0 out) × (after ≡ placed (report_of R) 0 out)) where
    pub reported-accepted : Reported (read_text text) out (at_no_line w) × (after ≡ reported_out (read_text text) out)
    reported-accepted = go (read_text text) refl h
      where
        go : (a : Answer) → read_text text ≡ a → Reads a (Ok content) → Reported a out (at_no_line w) × (after ≡ reported_out a out)
        go (Accepted R) e q = let c : content ≡ stored R = cc in let p = f R c (accepted-text text R e).0.checked in (ap at_no_line p.0, p.1)
        go (Refused n l) e q = absurd q

    pub printed-accepted : (w ≡ placing (printed (read_text text)) 0 out) × (after ≡ placed (printed (read_text text)) 0 out)
    printed-accepted = go (read_text text) refl h
      where
        go : (a : Answer) → read_text text ≡ a → Reads a (Ok content) → (w ≡ placing (printed a) 0 out) × (after ≡ placed (printed a) 0 out)
        go (Accepted R) e q = let c : content ≡ stored R = cc in f R c (accepted-text text R e).0.checked
        go (Refused n l) e q = absurd q
