-- The answer about a bundle in numbers says which bundle or refusal it is. Assumes nothing.
use mathlib.Core.Path.{◌≡◌, sym, ap}
use Rattle.std.specs.Prelude.{Result, Ok, Err}
use Rattle.refusals.specs.declared.Refusal.{Refusal}
use Rattle.refusals.proofs.Numbers.{number-injective, number-positive}
use Rattle.voting_bundles.specs.declared.Bundled.{Bundled}
use Rattle.voting_bundles.specs.Bundles.{bundle_told}

pub bundle-told-unique : (a b : Result Bundled Refusal) → bundle_told a ≡ bundle_told b → a ≡ b
bundle-told-unique (Ok x) (Ok y) e =
    let f : x ≡ y = λ i. record { eligible = (ap (λ x. x.eligible) e) i; bundle = (ap (λ x. x.bundle) e) i } in
    ap Ok f
bundle-told-unique (Ok x) (Err g) e = absurd (number-positive g (sym (ap (λ x. x.number) e)))
bundle-told-unique (Err f) (Ok y) e = absurd (number-positive f (ap (λ x. x.number) e))
bundle-told-unique (Err f) (Err g) e = ap Err (number-injective f g (ap (λ x. x.number) e))
