-- Each ground has a number of its own, so that number and detail say how an answer is refused. Assumes nothing.
use Rattle.std.specs.Prelude.{◌≡◌, refl, cond, ℕ, eqb, Result, Ok, Err}
use native.Mathlib.Omega.{arith}
use Rattle.refusals.specs.declared.Refusal.{Refusal}
use Rattle.refusals.specs.declared.Refusal.TheVariants.{NotInForm, OutOfRange, NoPlace, OtherBody, Unknown, NotAllowed, Decision, Unsound, NotHideable, NoPage, NotKept, NoRoom, Misplaced, FaultyRoll, NoReason, TooWide}
use Rattle.refusals.specs.Numbers.{number, detail, Gives}
use mathlib.Core.Path.{sym, ◌∙◌, ap}

-- the ground of a number, and of what is told beside it
abbrev refusal_at : ℕ → ℕ → Refusal
refusal_at n at =
    cond (eqb n 1) NotInForm (cond (eqb n 2) OutOfRange (cond (eqb n 3) NoPlace (cond (eqb n 4) OtherBody (cond (eqb n 5) Unknown (cond (eqb n 6) NotAllowed (cond (eqb n 7) Decision (cond (eqb n 8) Unsound (cond (eqb n 9) NotHideable (cond (eqb n 10) NoPage (cond (eqb n 11) NotKept (cond (eqb n 12) NoRoom (cond (eqb n 13) Misplaced (cond (eqb n 14) FaultyRoll (cond (eqb n 15) NoReason (TooWide)))))))))))))))

refusal-back : (r : Refusal) → refusal_at (number r) (detail r) ≡ r
refusal-back NotInForm = refl
refusal-back OutOfRange = refl
refusal-back NoPlace = refl
refusal-back OtherBody = refl
refusal-back Unknown = refl
refusal-back NotAllowed = refl
refusal-back Decision = refl
refusal-back Unsound = refl
refusal-back NotHideable = refl
refusal-back NoPage = refl
refusal-back NotKept = refl
refusal-back NoRoom = refl
refusal-back Misplaced = refl
refusal-back FaultyRoll = refl
refusal-back NoReason = refl
refusal-back TooWide = refl

-- number and detail say which ground it is
pub refusal-told-unique : (r s : Refusal) → number r ≡ number s → detail r ≡ detail s → r ≡ s
refusal-told-unique r s e d = sym (refusal-back r) ∙ ((λ i. refusal_at (e i) (d i)) ∙ refusal-back s)

-- no ground tells anything beside its number
pub no-detail : (r : Refusal) → detail r ≡ 0
no-detail NotInForm = refl
no-detail OutOfRange = refl
no-detail NoPlace = refl
no-detail OtherBody = refl
no-detail Unknown = refl
no-detail NotAllowed = refl
no-detail Decision = refl
no-detail Unsound = refl
no-detail NotHideable = refl
no-detail NoPage = refl
no-detail NotKept = refl
no-detail NoRoom = refl
no-detail Misplaced = refl
no-detail FaultyRoll = refl
no-detail NoReason = refl
no-detail TooWide = refl

pub number-injective : (r s : Refusal) → number r ≡ number s → r ≡ s
number-injective r s e = refusal-told-unique r s e (no-detail r ∙ sym (no-detail s))

-- no ground has the number 0
pub number-positive : (r : Refusal) → number r ≡ 0 → ⊥
number-positive NotInForm e = absurd (omega (arith, e))
number-positive OutOfRange e = absurd (omega (arith, e))
number-positive NoPlace e = absurd (omega (arith, e))
number-positive OtherBody e = absurd (omega (arith, e))
number-positive Unknown e = absurd (omega (arith, e))
number-positive NotAllowed e = absurd (omega (arith, e))
number-positive Decision e = absurd (omega (arith, e))
number-positive Unsound e = absurd (omega (arith, e))
number-positive NotHideable e = absurd (omega (arith, e))
number-positive NoPage e = absurd (omega (arith, e))
number-positive NotKept e = absurd (omega (arith, e))
number-positive NoRoom e = absurd (omega (arith, e))
number-positive Misplaced e = absurd (omega (arith, e))
number-positive FaultyRoll e = absurd (omega (arith, e))
number-positive NoReason e = absurd (omega (arith, e))
number-positive TooWide e = absurd (omega (arith, e))

-- what an answer is refused with, and what it gives, is the answer
pub gives-unique : {A : Type 0} (n : ℕ) (x : A) (a b : Result A Refusal) → Gives n x a → Gives n x b → a ≡ b
gives-unique n x (Ok y) (Ok z) g h = ap Ok (g.1 ∙ sym h.1)
gives-unique n x (Ok y) (Err s) g h = absurd (number-positive s (h.0 ∙ sym g.0))
gives-unique n x (Err r) (Ok z) g h = absurd (number-positive r (g.0 ∙ sym h.0))
gives-unique n x (Err r) (Err s) g h = ap Err (number-injective r s (g.0 ∙ sym h.0))
