-- An election's answer in numbers says which result or refusal it is. Assumes nothing.
use mathlib.Core.Path.{◌≡◌, sym, ap}
use Rattle.std.specs.Prelude.{Result, Ok, Err}
use Rattle.refusals.specs.declared.Refusal.{Refusal}
use Rattle.refusals.proofs.Numbers.{number-injective, number-positive}
use Rattle.voting.specs.declared.ElectionResult.{ElectionResult}
use Rattle.voting.specs.Tally.{election_told}

pub result-told-unique : (r s : ElectionResult) → election_told (Ok r) ≡ election_told (Ok s) → r ≡ s
result-told-unique r s e = λ i. record { won = ap (λ x. x.won) e i; greatest = ap (λ x. x.greatest) e i; silent = ap (λ x. x.silent) e i; total = ap (λ x. x.total) e i }

pub election-told-unique : (a b : Result ElectionResult Refusal) → election_told a ≡ election_told b → a ≡ b
election-told-unique (Ok r) (Ok s) e = ap Ok (result-told-unique r s e)
election-told-unique (Ok r) (Err g) e = absurd (number-positive g (sym (ap (λ x. x.number) e)))
election-told-unique (Err f) (Ok s) e = absurd (number-positive f (ap (λ x. x.number) e))
election-told-unique (Err f) (Err g) e = ap Err (number-injective f g (ap (λ x. x.number) e))
