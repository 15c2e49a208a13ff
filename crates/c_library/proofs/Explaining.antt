-- Why an edit of a text's record must stand, or can never stand, as the library answers it, return by return. Assumes nothing.
use mathlib.Core.Path.{◌≡◌, refl, ◌∙◌}
use mathlib.Core.Bool.{true, false, cond}
use mathlib.Core.List.{List}
use Prim.Native.Nat.{ℕ, ◌+◌, ◌<◌}
use native.Mathlib.Omega.{arith}
use lib.Dec.{eqb}
use lib.ListN.{length}
use borrow.Author.Tests.{ne_eqb}
use Rattle.std.specs.Prelude.{Option, Result, Ok, Err}
use Rattle.record.specs.declared.Record as declared
use Rattle.record.specs.Record.{Record}
use Rattle.record.specs.Stored.{stored}
use Rattle.record.specs.Judgement.{sound}
use Rattle.record_tables.specs.Checked.{Checked}
use Rattle.graph.proofs.indexes.Fit.{checked-fit}
use Rattle.judgement.specs.lent_edit.Asked.{named_fault, KnownIn}
use Rattle.refusals.specs.declared.Refusal.{Refusal}
use Rattle.refusals.specs.Numbers.{number, Gives}
use Rattle.refusals.proofs.Numbers.{number-positive}
use Rattle.reasons.specs.Reasons.{Reason}
use Rattle.reasons.specs.Given.{reason_of}
use Rattle.reasons_lent.proofs.Known.{place-few}
use Rattle.text.specs.Text.{Answer, Accepted, Refused, read_text}
use Rattle.text.proofs.RoundTrip.{accepted-text}
use Rattle.text_reader.specs.declared.Fault.{Fault}
use Rattle.text_reader.specs.Reading.{Reads}
use Rattle.text_writer.specs.Placed.{placed}
use Rattle.text_reasons.specs.ReasonLine.{line_if_given, given_fault, given_out}
use Rattle.c_library.specs.Replies.{placed_reply, told_reply, why_number, why_reply, why_out}

pub why-unread : (a : Answer) (edit : ℕ) (out : List ℕ) (fault : Fault) → Reads a (Err fault) → (told_reply (Err fault) ≡ why_reply a edit out) × (out ≡ why_out a edit out)
why-unread (Accepted R) edit out fault q = cc
why-unread (Refused n line) edit out fault q = (λ i. record { number = q.0 i; line = q.1 i; size = 0 }, refl)

-- the record of a text without fault, and in memory
pub record TextRecord (text : List ℕ) (content : declared.Record) : Type 0 where
  pub multilog : Record
  pub read : read_text text ≡ Accepted multilog
  pub is : content ≡ stored multilog
  pub checked : Checked multilog
  pub sound-now : sound multilog ≡ true

pub text-record : {text : List ℕ} {content : declared.Record} → Reads (read_text text) (Ok content) → TextRecord text content
text-record {text} {content} h = go (read_text text) refl h
  where
    go : (a : Answer) → read_text text ≡ a → Reads a (Ok content) → TextRecord text content
    go (Accepted R) e q = let t = accepted-text text R e in record { multilog = R; read = e; is = cc; checked = t.0.checked; sound-now = t.1 }
    go (Refused n line) e q = absurd q

module _ {text : List ℕ} {content : declared.Record} (d : TextRecord text content) (edit : ℕ) (out : List ℕ) where
  -- what the library answers, and the output after it
  abbrev pub Explains : Result ℕ Refusal → List ℕ → Type 0
  Explains answer after = (placed_reply answer ≡ why_reply (read_text text) edit out) × (after ≡ why_out (read_text text) edit out)

  pub why-unnamed : (r : Refusal) → number r ≡ named_fault d.multilog edit → Explains (Err r) out
  unfolding why_number
  why-unnamed r q =
      let z : eqb (named_fault d.multilog edit) 0 ≡ false = ne_eqb (named_fault d.multilog edit) 0 (λ y. number-positive r (q ∙ y)) in
      let n : eqb (number r) 0 ≡ false = ne_eqb (number r) 0 (number-positive r) in
      rw (d.read, z, ← q, n) (refl, refl)

  -- what is told of the reason, or of none
  given-told : (found : Option Reason) (w : Result ℕ Refusal) (after : List ℕ) → Gives (given_fault edit found 0 out) (0 + length (line_if_given edit found)) w
      → after ≡ given_out edit found 0 out
      → (placed_reply w ≡ record { number = given_fault edit found 0 out; line = 0; size = cond (eqb (given_fault edit found 0 out) 0) (length (line_if_given edit found)) 0 })
      × (after ≡ cond (eqb (given_fault edit found 0 out) 0) (placed (line_if_given edit found) 0 out) out)
  unfolding given_out
  given-told found (Ok n) after p q = let m : n ≡ length (line_if_given edit found) = omega (arith, p.1) in (rw (← p.0, m) refl, q)
  given-told found (Err r) after p q =
      let n : eqb (number r) 0 ≡ false = ne_eqb (number r) 0 (number-positive r) in (rw (← p.0, n) refl, q)

  module _ {name place : ℕ} (k : KnownIn d.multilog edit name place) where
    pub place-below : place < 127
    place-below = place-few k (checked-fit d.multilog d.checked)

  pub why-told : 0 ≡ named_fault d.multilog edit → {found : Option Reason} → found ≡ reason_of d.multilog edit → (w : Result ℕ Refusal) {after : List ℕ}
      → Gives (given_fault edit found 0 out) (0 + length (line_if_given edit found)) w → after ≡ given_out edit found 0 out → Explains w after
  unfolding why_number
  why-told z {found} g w {after} p q = rw (d.read, ← z, ← g) (given-told found w after p q)
