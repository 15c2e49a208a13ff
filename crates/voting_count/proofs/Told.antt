-- A count in numbers, with the won bundle as it is given, says which count or refusal it is. Assumes nothing.
use mathlib.Core.Path.{◌≡◌, refl, sym, ap, ◌∙◌}
use mathlib.Core.List.{List, [], ◌∷◌, map}
use Rattle.std.specs.Prelude.{Option, Result, Ok, Err, IfOk}
use Rattle.arrayvec.specs.ArrayVec.{ArrayVec}
use Rattle.record.specs.declared.Record as declared
use Rattle.refusals.specs.declared.Refusal.{Refusal}
use Rattle.refusals.proofs.Numbers.{number-injective, number-positive}
use Rattle.voting.specs.declared.ElectionResult.{ElectionResult}
use Rattle.voting.specs.Tally.{Election, election_told}
use Rattle.voting.proofs.Told.{result-told-unique}
use Rattle.voting_count.specs.declared.Counted.{Counted}
use Rattle.voting_count.specs.Count.{count_told}
use Rattle.voting_count.specs.Tallied.{Tallied, tallied_told}

pub count-told-unique : (w : Option declared.Record) (a b : Result Counted Refusal) → count_told a ≡ count_told b → IfOk a (λ c. c.bundle ≡ w) → IfOk b (λ c. c.bundle ≡ w) → a ≡ b
count-told-unique w (Ok c) (Ok d) e p q =
    let f : c.election ≡ d.election = result-told-unique c.election d.election (ap (λ x. x.election) e) in
    let g : c ≡ d = λ i. record { election = f i; bundle = (p ∙ sym q) i } in
    ap Ok g
count-told-unique w (Ok c) (Err g) e p q = absurd (number-positive g (sym (ap (λ x. x.election.number) e)))
count-told-unique w (Err f) (Ok d) e p q = absurd (number-positive f (ap (λ x. x.election.number) e))
count-told-unique w (Err f) (Err g) e p q = ap Err (number-injective f g (ap (λ x. x.election.number) e))

-- the same of the answers of a tally
told-back : (l : List ElectionResult) → map (λ (E : Election). record { won = E.won; greatest = E.greatest; silent = E.silent; total = E.total }) (map (λ r. election_told (Ok r)) l) ≡ l
told-back [] = refl
told-back (r ∷ l) = ap (λ (t : List ElectionResult). r ∷ t) (told-back l)

pub tallied-told-unique : (a b : Result (ArrayVec ElectionResult) Refusal) → tallied_told a ≡ tallied_told b → a ≡ b
tallied-told-unique (Ok a) (Ok b) e =
    let back : List Election → List ElectionResult = map (λ (E : Election). record { won = E.won; greatest = E.greatest; silent = E.silent; total = E.total }) in
    let q : a.items ≡ b.items = sym (told-back a.items) ∙ ap (λ (t : Tallied). back t.answers) e ∙ told-back b.items in
    ap Ok (λ i. record { items = q i })
tallied-told-unique (Ok a) (Err g) e = absurd (number-positive g (sym (ap (λ (t : Tallied). t.number) e)))
tallied-told-unique (Err f) (Ok b) e = absurd (number-positive f (ap (λ (t : Tallied). t.number) e))
tallied-told-unique (Err f) (Err g) e = ap Err (number-injective f g (ap (λ (t : Tallied). t.number) e))
