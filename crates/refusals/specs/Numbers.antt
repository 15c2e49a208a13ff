-- Document 01, "What is turned away": the number of each ground, what is told beside it, and an answer that is refused by a number. Assumes nothing.
use Rattle.std.specs.Prelude.{◌≡◌, ℕ, Result, Ok, Err, IfOk}
use Rattle.refusals.specs.declared.Refusal.{Refusal}
use Rattle.refusals.specs.declared.Refusal.TheVariants.{NotInForm, OutOfRange, NoPlace, OtherBody, Unknown, NotAllowed, Decision, Unsound, NotHideable, NoPage, NotKept, NoRoom, Misplaced, FaultyRoll, NoReason, TooWide}

abbrev pub number : Refusal → ℕ
number NotInForm = 1
number OutOfRange = 2
number NoPlace = 3
number OtherBody = 4
number Unknown = 5
number NotAllowed = 6
number Decision = 7
number Unsound = 8
number NotHideable = 9
number NoPage = 10
number NotKept = 11
number NoRoom = 12
number Misplaced = 13
number FaultyRoll = 14
number NoReason = 15
number TooWide = 17

-- what is told beside the number, by grounds that say where or of which edit they hold: 0 of a ground that says no more
abbrev pub detail : Refusal → ℕ
detail NotInForm = 0
detail OutOfRange = 0
detail NoPlace = 0
detail OtherBody = 0
detail Unknown = 0
detail NotAllowed = 0
detail Decision = 0
detail Unsound = 0
detail NotHideable = 0
detail NoPage = 0
detail NotKept = 0
detail NoRoom = 0
detail Misplaced = 0
detail FaultyRoll = 0
detail NoReason = 0
detail TooWide = 0

-- 0 is given where nothing is refused
abbrev pub number_of : {A : Type 0} → Result A Refusal → ℕ
number_of (Ok x) = 0
number_of (Err r) = number r

-- the answer is refused with this number, or, where that is 0, it is x
abbrev pub Gives : {A : Type 0} → ℕ → A → Result A Refusal → Type 0
Gives n x answer = (number_of answer ≡ n) × IfOk answer (λ y. y ≡ x)
