-- What a line about votes comes to, of the line that it is. Assumes nothing.
use mathlib.Core.Path.{◌≡◌}
use Rattle.std.specs.Prelude.{Result, IsErr, IsErrAnd}
use Rattle.std.proofs.lemmas.Result.{err_from_is_err_and}
use Rattle.refusals.specs.declared.Refusal.{Refusal}
use Rattle.refusals.specs.Numbers.{number, number_of}
use Rattle.log_forms.specs.declared.Printer.{Printer}
use Rattle.log_forms.specs.Printed.{Texts, Printed}
use Rattle.log_forms.proofs.Printing.{printed-nothing}
use Rattle.log_commands.specs.declared.Vote.{Vote}
use Rattle.log_session.specs.Desk.{Desk, accepted_text}
use Rattle.log_session.specs.votes.Votes.{vote_effect}

module _ (D : Desk) {vote kind : Vote} (e : vote ≡ kind) where
  pub vote-accepted : {texts : Texts} {before after : Printer} → 0 ≡ (vote_effect D kind).number → texts ≡ (vote_effect D kind).text → Printed texts before after
      → (0 ≡ (vote_effect D vote).number) × Printed (vote_effect D vote).text before after
  vote-accepted n t p = rw e (n, rw (← t) p)

  pub vote-refused : {A : Type 0} (told : Result A Refusal) (r : Refusal) (p : Printer) → IsErr told × IsErrAnd told (λ s. s ≡ r) → number r ≡ (vote_effect D kind).number
      → (number_of told ≡ (vote_effect D vote).number) × Printed (accepted_text told (vote_effect D vote).text) p p
  vote-refused told r p f n = let s = err_from_is_err_and told f.1 in rw (e, s.1, s.2) (n, printed-nothing p)
