-- No answer is longer than the limit: the numbers of a line fit, so that every line leaves a desk whose numbers fit, and its answer is short.
-- Assumes nothing.
use mathlib.Core.Path.{◌≡◌}
use mathlib.Core.Bool.{true, false}
use mathlib.Core.List.{List, [], ◌∷◌, ◌++◌, map}
use mathlib.Core.Option.{Option, none, some}
use Prim.Native.Nat.{ℕ, zero, suc, ◌+◌, ◌≤◌, ◌<◌, ◌^◌}
use native.Mathlib.Omega.{arith}
use borrow.Author.Tests.{ltb-true}
use lib.Dec.{ltb}
use lib.ListN.{length, get_or}
use Rattle.std.specs.Prelude.{Result, Ok, Err}
use Rattle.refusals.specs.declared.Refusal.{Refusal}
use Rattle.refusals.specs.Numbers.{number}
use Rattle.lists.specs.Lists.{all}
use Rattle.lists.proofs.Lists.{by, and_l, and_r}
use Rattle.text_forms.specs.Form.{taken}
use Rattle.text_lines.specs.Line.{shapes, fits_word, line_limit}
use Rattle.log_forms.specs.productions.Productions.{Production, meant, parse}
use Rattle.ledger.specs.Ledger.{last}
use Rattle.log_forms.specs.Printed.{Texts, PrintedInto}
use Rattle.log_forms.proofs.Printing.{printed-whole}
use Rattle.log_bounds.proofs.Sizes.{size_of}
use Rattle.log_commands.specs.Grammar.{turn_forward, turn_back, command_forms, add_form, lend_form, grammar, command_read}
use Rattle.log_commands.specs.declared.Command.{Command}
use Rattle.log_commands.specs.declared.Command.TheVariants.{Lend, Propose, Call, Vote, Ask}
use Rattle.log_session.specs.Desk.{Desk, printed_of}
use Rattle.log_bounds.specs.Bounded.{answer_limit, Bounded}
use Rattle.log_session.specs.calls.Lines.{call_text, call_effect}
use Rattle.log_session.specs.questions.Questions.{ask_effect}
use Rattle.log_bounds.proofs.Bounds.{CallLineFits, LendLineFits, call-bounded, lend-bounded, proposal-bounded}
use Rattle.log_bounds.proofs.Lengths.{ask-size, call-size, proposal-size, vote-size, lend-size, refusal-size}
use Rattle.log_run.specs.Effects.{effect}
use Rattle.log_run.specs.Log.{Run, run_line, run_lines}
use Rattle.log_run.proofs.Performed.{same-desk}

-- a command whose numbers fit
abbrev CommandFits : Result Command Refusal → Type 0
CommandFits (Err refusal) = number refusal ≤ 14
CommandFits (Ok (Lend lend)) = LendLineFits lend
CommandFits (Ok (Propose asked)) = Unit
CommandFits (Ok (Call call)) = CallLineFits call
CommandFits (Ok (Vote vote)) = Unit
CommandFits (Ok (Ask ask)) = Unit

-- a production of the grammar gives such a command to numbers of 32 bits
abbrev Fits : Production (Result Command Refusal) → Type 0
Fits production = (n : ℕ → ℕ) → ((k : ℕ) → n k < 4294967296) → CommandFits (production.meaning n)

abbrev AllFit : List (Production (Result Command Refusal)) → Type 0
AllFit [] = Unit
AllFit (production ∷ rest) = Fits production × AllFit rest

both-fit : (s t : List (Production (Result Command Refusal))) → AllFit s → AllFit t → AllFit (s ++ t)
both-fit [] t f g = g
both-fit (p ∷ s) t f g = (f.0, both-fit s t f.1 g)

number_fits : (ns : List ℕ) → all fits_word ns ≡ true → (k : ℕ) → get_or ns k 0 < 4294967296
unfolding all
number_fits [] h k = omega arith
number_fits (n ∷ ns) h zero = ltb-true n 4294967296 (and_l (fits_word n) (all fits_word ns) h)
number_fits (n ∷ ns) h (suc k) = number_fits ns (and_r (fits_word n) (all fits_word ns) h) k

meant-fits : (meaning : (ℕ → ℕ) → Result Command Refusal) (o : Option (List ℕ)) (other : Result Command Refusal) → ((n : ℕ → ℕ) → ((k : ℕ) → n k < 4294967296) → CommandFits (meaning n)) → CommandFits other
    → CommandFits (meant Err meaning o other)
meant-fits meaning none other f g = g
meant-fits meaning (some ns) other f g =
    by (all fits_word ns)
    (λ (e : all fits_word ns ≡ true). rw e (f (λ k. get_or ns k 0) (number_fits ns e)))
    (λ (e : all fits_word ns ≡ false). rw e (omega arith))

parse-fits : (productions : List (Production (Result Command Refusal))) → AllFit productions → (s : List ℕ) → CommandFits (parse Err productions s)
unfolding parse
parse-fits [] f s = omega arith
parse-fits (p ∷ rest) f s = meant-fits p.meaning (taken p.form s) (parse Err rest s) f.0 (parse-fits rest f.1 s)

forward-fits : (n : ℕ) → CommandFits (turn_forward n)
unfolding turn_forward
forward-fits n = by (ltb n 2147483648) (λ (e : ltb n 2147483648 ≡ true). rw e tt) (λ (e : ltb n 2147483648 ≡ false). rw e (omega arith))

back_fits : (n : ℕ) → CommandFits (turn_back n)
unfolding turn_back
back_fits n = by (ltb n 2147483649) (λ (e : ltb n 2147483649 ≡ true). rw e tt) (λ (e : ltb n 2147483649 ≡ false). rw e (omega arith))

forms-fit : AllFit command_forms
unfolding command_forms
forms-fit = search (forward-fits, back_fits)

-- the lines of the exchanged text
added-fit : AllFit (map add_form shapes)
unfolding shapes
added-fit = search arith

lent-fit : AllFit (map lend_form shapes)
unfolding shapes
lent-fit = search arith

command-fits : (line : List ℕ) → CommandFits (command_read line)
unfolding command_read grammar
command-fits line =
    by (ltb line_limit (length line))
    (λ (e : ltb line_limit (length line) ≡ true). rw e (omega arith))
    (λ (e : ltb line_limit (length line) ≡ false). rw e (parse-fits grammar (both-fit command_forms _ forms-fit (both-fit (map add_form shapes) _ added-fit lent-fit)) line))

-- by the kind of line
after-bounded : (D : Desk) → Bounded D → (command : Result Command Refusal) → CommandFits command → Bounded (effect D command).after
unfolding effect call_effect ask_effect
after-bounded D B (Err refusal) c = B
after-bounded D B (Ok (Lend lend)) c = lend-bounded D B lend c
after-bounded D B (Ok (Propose asked)) c = proposal-bounded D B asked
after-bounded D B (Ok (Call call)) c = call-bounded D B (λ a L. call_text call a L.opened (last L)) call c
after-bounded D B (Ok (Vote vote)) c = rw (same-desk D vote) B
after-bounded D B (Ok (Ask ask)) c = B

answered : (D : Desk) → Bounded D → (number : ℕ) → number < 2 ^ 64 → (command : Result Command Refusal) → CommandFits command → size_of (printed_of (effect D command) number) ≤ answer_limit
unfolding effect ask_effect printed_of
answered D B n l (Err refusal) c = refusal-size n l (number refusal) c
answered D B number l (Ok (Lend lend)) c = lend-size D B number l lend
answered D B number l (Ok (Propose asked)) c = proposal-size D B number l asked
answered D B number l (Ok (Call call)) c = call-size D B number l call c
answered D B number l (Ok (Vote vote)) c = vote-size D B number l vote
answered D B number l (Ok (Ask ask)) c = ask-size D B ask

module _ (D : Desk) (B : Bounded D) (line : List ℕ) where
  -- THE GREATEST ANSWER
  pub answer-fits : (number : ℕ) → number < 2 ^ 64 → size_of (printed_of (effect D (command_read line)) number) ≤ answer_limit
  answer-fits number l = answered D B number l (command_read line) (command-fits line)

  pub line-bounded : Bounded (effect D (command_read line)).after
  line-bounded = after-bounded D B (command_read line) (command-fits line)

pub lines-bounded : (r : Run) (ls : List (List ℕ)) → Bounded r.desk → Bounded (run_lines r ls).desk
unfolding run_lines run_line
lines-bounded r [] B = B
lines-bounded r (line ∷ ls) B = lines-bounded (run_line r line) ls (line-bounded r.desk B line)

-- texts of at most so many bytes, with room for them
pub printed-within : (bound : ℕ) {texts : Texts} {before : List ℕ} {at : ℕ} {after : List ℕ} {end : ℕ} → PrintedInto texts before at after end → size_of texts ≤ bound → at + bound ≤ length before → end ≤ at + bound
printed-within bound p h l = omega (arith, (printed-whole p (omega arith)).0)
