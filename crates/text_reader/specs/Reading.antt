-- Document 01, "Text": what the reader of a text answers, line by line and at its end. Assumes nothing.
use Rattle.std.specs.Prelude.{◌≡◌, ℕ, Result, Ok, Err}
use Rattle.record.specs.declared.Record as declared
use Rattle.record.specs.Stored.{stored}
use Rattle.refusals.specs.declared.Refusal.{Refusal}
use Rattle.refusals.specs.Numbers.{number}
use Rattle.text.specs.Text.{Parsed, Answer, Accepted, Refused, ReadSoFar}
use Rattle.text_reader.specs.declared.Fault.{Fault}

-- refused with this number, at this line
abbrev pub FaultIs : {A : Type 0} → ℕ → ℕ → Result A Fault → Type 0
FaultIs n line (Ok x) = ⊥
FaultIs n line (Err fault) = (number fault.refusal ≡ n) × (fault.line ≡ line)

-- at no line of a text
abbrev pub without_line : Refusal → Fault
without_line refusal = record { refusal = refusal; line = 0 }

-- the record, or the number and the line of the refusal
abbrev pub Reads : Answer → Result declared.Record Fault → Type 0
Reads (Accepted R) answer = answer ≡ Ok (stored R)
Reads (Refused n line) answer = FaultIs n line answer

-- what is read with one more line; or the number and the line of the refusal, and what was read stays
abbrev pub ReadsLine : {A : Type 0} → Parsed ReadSoFar → ReadSoFar → Result A Fault → ReadSoFar → Type 0
ReadsLine (Accepted more) before (Ok x) after = after ≡ more
ReadsLine (Accepted more) before (Err fault) after = ⊥
ReadsLine (Refused n line) before answer after = FaultIs n line answer × (after ≡ before)
