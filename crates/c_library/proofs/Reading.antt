-- What comes of a text that is written back, as the library answers it. Assumes nothing.
use mathlib.Core.Path.{◌≡◌, refl, ap, ◌∙◌}
use mathlib.Core.List.{List}
use Prim.Native.Nat.{ℕ}
use Rattle.std.specs.Prelude.{Result, Ok, Err}
use Rattle.record.specs.declared.Record as declared
use Rattle.record.specs.Record.{Record}
use Rattle.record.specs.Stored.{stored, record_of}
use Rattle.record_tables.proofs.Tables.{stored_back}
use Rattle.refusals.specs.declared.Refusal.{Refusal}
use Rattle.text.specs.Text.{Answer, Accepted, Refused, text_of}
use Rattle.text_reader.specs.declared.Fault.{Fault}
use Rattle.text_reader.specs.Reading.{Reads}
use Rattle.text_writer.specs.Placed.{placed, placing}
use Rattle.c_library.specs.Replies.{placed_reply, told_reply, rewritten_reply, rewritten_out}

pub rewrite-refused : (a : Answer) (out : List ℕ) (fault : Fault) → Reads a (Err fault) → (told_reply (Err fault) ≡ rewritten_reply a out) × (out ≡ rewritten_out a out)
rewrite-refused (Accepted R) out fault q = cc
rewrite-refused (Refused n line) out fault q = (λ i. record { number = q.0 i; line = q.1 i; size = 0 }, refl)

pub rewrite-accepted : (a : Answer) (out : List ℕ) (content : declared.Record) → Reads a (Ok content) → {w : Result ℕ Refusal} {after : List ℕ}
    → w ≡ placing (text_of (record_of content)) 0 out → after ≡ placed (text_of (record_of content)) 0 out
    → (placed_reply w ≡ rewritten_reply a out) × (after ≡ rewritten_out a out)
rewrite-accepted (Accepted R) out content q {w} {after} p r =
    let c : content ≡ stored R = cc in
    let h : record_of content ≡ R = ap record_of c ∙ stored_back R in
    (ap placed_reply (p ∙ ap (λ (S : Record). placing (text_of S) 0 out) h), r ∙ ap (λ (S : Record). placed (text_of S) 0 out) h)
rewrite-accepted (Refused n line) out content q p r = absurd q
