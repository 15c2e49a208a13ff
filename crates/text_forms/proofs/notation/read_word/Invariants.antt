use Rattle.text_forms.proofs.Words.{Looked}
use Rattle.text_forms.proofs.notation.read_word.Given as goal

abbrev pub invariant-loop-place : goal.invariant-loop-place
invariant-loop-place l = Looked l.words l.bytes l.place
