-- Answers that are printed, or refused. Assumes nothing.
use mathlib.Core.Path.{◌≡◌, sym}
use mathlib.Core.Bool.{true, false}
use mathlib.Core.List.{[], ◌∷◌, append-nil}
use Prim.Native.Nat.{ℕ}
use lib.Dec.{eqb}
use borrow.Author.Tests.{eq-eqb, ne_eqb}
use Rattle.std.specs.Prelude.{Result, Ok, Err}
use Rattle.refusals.specs.declared.Refusal.{Refusal}
use Rattle.refusals.specs.Numbers.{number, number_of}
use Rattle.refusals.proofs.Numbers.{number-positive}
use Rattle.text_report.specs.Report.{refusal_line}
use Rattle.log_answers.specs.Answers.{answered_text}
use Rattle.log_forms.specs.declared.Printer.{Printer}
use Rattle.log_forms.specs.Printed.{Texts, Printed}
use Rattle.log_forms.proofs.Printing.{printed-both, printed-as}
use Rattle.log_session.specs.Desk.{Effect, printed_of, accepted_text}

-- the line of a refusal is the answer
pub refused-so : (line : ℕ) (r : Refusal) (texts : Texts) {before after : Printer} → Printed (refusal_line (number r) line ∷ []) before after
    → Printed (answered_text (number r) texts line) before after
refused-so line r texts p = let e : eqb (number r) 0 ≡ false = ne_eqb (number r) 0 (number-positive r) in rw e p

-- what is printed of an accepted line, then its refusal where it is none
pub told-printed : {A : Type 0} (told : Result A Refusal) (E : Effect) {before middle after : Printer} → number_of told ≡ E.number
    → Printed (accepted_text told E.text) before middle → Printed (answered_text (number_of told) [] middle.line) middle after → Printed (printed_of E before.line) before after
unfolding printed_of
told-printed (Ok x) E n p r = let e : eqb E.number 0 ≡ true = eq-eqb E.number 0 (sym n) in rw e (printed-as (append-nil E.text) (printed-both p r))
told-printed (Err s) E {before} n p r =
    let e : eqb (number s) 0 ≡ false = ne_eqb (number s) 0 (number-positive s) in
    rw (← n) (refused-so before.line s E.text (rw p.line at (printed-both p (rw e at r))))
