-- The round trip of numbers: what is written is read back, whatever follows that is no digit, and what is read was written so. Assumes nothing.
use Prim.Native.Nat.{ℕ, zero, suc, ◌+◌, ◌*◌, ◌-◌, ◌/◌, ◌%◌, ◌≤◌, ◌<◌}
use mathlib.Core.Path.{◌≡◌, refl, ap, sym, ◌∙◌}
use mathlib.Core.Bool.{true, false, false≢true}
use mathlib.Core.Logic.{◌≢◌, ⊎_elim}
use mathlib.Core.List.{List, [], ◌∷◌, ◌++◌, append_assoc, append-nil}
use native.Mathlib.Nat.{not-suc-le-zero}
use native.Mathlib.Omega.{arith}
use borrow.Author.Tests.{lt-ltb, le-ltb, eq-eqb, ne_eqb}
use lib.Dec.{ltb}
use lib.ListN.{length, get_or, drop, length-append, get_or-append, take-append-drop}
use Rattle.lists.specs.Lists.{mem}
use Rattle.lists.proofs.Lists.{by, le-by}
use Rattle.text_forms.specs.decimal.Decimal.{digits_in, decimal, digit_run, value_from, is_numeral, numeral_size, numeral_value, is_digit, saturated}
use Rattle.text_forms.proofs.decimal.Laws.{decimal-small, decimal-large, digit-or-not, run_on, run-off, run-prefix, value-snoc, numeral-more}
use Rattle.std.proofs.lemmas.Bool.{cases_lt}

some : (f n : ℕ) → n < f → 0 < length (digits_in f n)
unfolding digits_in
some zero n h = absurd (not-suc-le-zero h)
some (suc f) n h =
    ⊎_elim (λ l. rw (lt-ltb n 10 l) (omega arith))
    (λ l. rw (le-ltb n 10 l, length-append) (omega arith))
    (cases_lt n 10)

head-digit : (f n : ℕ) → n < f → 1 ≤ n → 48 < get_or (digits_in f n) 0 0
unfolding digits_in
head-digit zero n h p = absurd (not-suc-le-zero h)
head-digit (suc f) n h p =
    ⊎_elim (λ l. rw (lt-ltb n 10 l) (omega arith))
    (λ l. rw (le-ltb n 10 l, get_or-append (digits_in f (n / 10)) ((48 + n % 10) ∷ []) 0 0 (some f (n / 10) (omega arith))) (head-digit f (n / 10) (omega arith) (omega arith)))
    (cases_lt n 10)

run-digits_in : (f n : ℕ) (rest : List ℕ) → n < f → digit_run (digits_in f n ++ rest) ≡ digits_in f n ++ digit_run rest
unfolding digits_in
run-digits_in zero n rest h = absurd (not-suc-le-zero h)
run-digits_in (suc f) n rest h =
    ⊎_elim (λ l. rw (lt-ltb n 10 l) (run_on (48 + n) rest (omega arith) (omega arith)))
    (λ l. rw (le-ltb n 10 l, append_assoc, append_assoc)
    (run-digits_in f (n / 10) ((48 + n % 10) ∷ rest) (omega arith) ∙ ap (λ (r : List ℕ). digits_in f (n / 10) ++ r) (run_on (48 + n % 10) rest (omega arith) (omega arith))))
    (cases_lt n 10)

value-one : (c : ℕ) → value_from 0 (c ∷ []) ≡ c - 48
unfolding value_from
value-one c = omega arith

value-digits_in : (f n : ℕ) → n < f → value_from 0 (digits_in f n) ≡ n
unfolding digits_in
value-digits_in zero n h = absurd (not-suc-le-zero h)
value-digits_in (suc f) n h =
    ⊎_elim (λ l. rw (lt-ltb n 10 l) (value-one (48 + n) ∙ omega arith))
    (λ l. rw (le-ltb n 10 l, value-snoc, value-digits_in f (n / 10) (omega arith)) (omega arith))
    (cases_lt n 10)

numeral-digits_in : (f n : ℕ) → n < f → is_numeral (digits_in f n) ≡ true
unfolding digits_in
numeral-digits_in zero n h = absurd (not-suc-le-zero h)
numeral-digits_in (suc f) n h =
    ⊎_elim (λ l. rw (lt-ltb n 10 l))
    (λ l. rw (le-ltb n 10 l)
    (numeral-more (digits_in f (n / 10) ++ ((48 + n % 10) ∷ []))
    (omega (arith, some f (n / 10) (omega arith), length-append (digits_in f (n / 10)) ((48 + n % 10) ∷ [])))
    (λ e. omega (arith, head-digit f (n / 10) (omega arith) (omega arith), get_or-append (digits_in f (n / 10)) ((48 + n % 10) ∷ []) 0 0 (some f (n / 10) (omega arith))))))
    (cases_lt n 10)

-- a text that starts with no digit
abbrev pub Apart : List ℕ → Type 0
Apart rest = digit_run rest ≡ []

pub run-decimal : (n : ℕ) (rest : List ℕ) → Apart rest → digit_run (decimal n ++ rest) ≡ decimal n
unfolding decimal
run-decimal n rest e = run-digits_in (suc n) n rest (omega arith) ∙ rw (e, append-nil)

pub value-decimal : (n : ℕ) → value_from 0 (decimal n) ≡ n
unfolding decimal
value-decimal n = value-digits_in (suc n) n (omega arith)

pub formed-decimal : (n : ℕ) → is_numeral (decimal n) ≡ true
unfolding decimal
formed-decimal n = numeral-digits_in (suc n) n (omega arith)

pub run-whole : (n : ℕ) → digit_run (decimal n) ≡ decimal n
unfolding digit_run
run-whole n = rw append-nil at (run-decimal n [] refl)

-- Digits without a leading zero are the decimal text of what they spell.
abbrev pub Digits : List ℕ → Type 0
Digits [] = Unit
Digits (c ∷ cs) = (48 ≤ c) × (c < 58) × Digits cs

decimal-on : (v : ℕ) (ds : List ℕ) → 1 ≤ v → Digits ds → decimal (value_from v ds) ≡ decimal v ++ ds
unfolding value_from
decimal-on v [] p h = rw append-nil
decimal-on v (c ∷ cs) p h =
    let q : (v * 10 + (c - 48)) / 10 ≡ v = omega arith in
    let m : 48 + (v * 10 + (c - 48)) % 10 ≡ c = omega arith in
    decimal-on (v * 10 + (c - 48)) cs (omega arith) h.2
    ∙ rw (decimal-large (v * 10 + (c - 48)) (omega arith), q, m, append_assoc)

pub decimal-value : (ds : List ℕ) → Digits ds → is_numeral ds ≡ true → decimal (value_from 0 ds) ≡ ds
unfolding value_from
decimal-value [] h w = absurd (false≢true w)
decimal-value (c ∷ []) h w =
    let e : 0 * 10 + (c - 48) ≡ c - 48 = omega arith in
    let f : 48 + (c - 48) ≡ c = omega arith in
    rw (e, decimal-small (c - 48) (omega arith), f)
decimal-value (c ∷ d ∷ ds) h w =
    let n : c ≢ 48 = λ e. false≢true (rw (eq-eqb c 48 e) at w) in
    let e : 0 * 10 + (c - 48) ≡ c - 48 = omega arith in
    let f : 48 + (c - 48) ≡ c = omega arith in
    rw e (decimal-on (c - 48) (d ∷ ds) (omega arith) h.2 ∙ rw (decimal-small (c - 48) (omega arith), f))

pub digits-run : (s : List ℕ) → Digits (digit_run s)
unfolding digit_run
digits-run [] = tt
digits-run (c ∷ cs) =
    ⊎_elim
    (λ d. rw (le-ltb c 48 d.0, lt-ltb c 58 d.1) (d.0, d.1, digits-run cs))
    (λ n. rw (run-off c cs n) tt)
    (digit-or-not c)

-- the decimal text of a number starts with a digit
pub decimal-head : {P : Type 0} (n : ℕ) → ((d : ℕ) (ds : List ℕ) → decimal n ≡ d ∷ ds → 48 ≤ d → d < 58 → P) → P
decimal-head {P} n k = go (decimal n) refl (rw (run-whole n) at (digits-run (decimal n))) (formed-decimal n)
  where
    go : (ds : List ℕ) → decimal n ≡ ds → Digits ds → is_numeral ds ≡ true → P
    go [] e h w = absurd (false≢true w)
    go (d ∷ ds) e h w = k d ds e h.0 h.1

pub digits_decimal : (n : ℕ) → Digits (decimal n)
digits_decimal n = rw (run-whole n) at (digits-run (decimal n))

-- what is no digit stops the digits
pub run-stops : (d : ℕ) (s : List ℕ) → is_digit d ≡ false → digit_run (d ∷ s) ≡ []
unfolding digit_run
run-stops d s h = rw h

-- What is written is read back.
pub size-written : (n : ℕ) (rest : List ℕ) → digit_run rest ≡ [] → numeral_size (decimal n ++ rest) ≡ length (decimal n)
unfolding numeral_size
size-written n rest h = rw (run-decimal n rest h, formed-decimal n)

pub value_written : (n : ℕ) (rest : List ℕ) → digit_run rest ≡ [] → numeral_value (decimal n ++ rest) ≡ n
unfolding numeral_value
value_written n rest h = rw (run-decimal n rest h) (value-decimal n)

-- What is read was written so.
pub written_read : (s : List ℕ) → numeral_size s ≢ 0 → s ≡ decimal (numeral_value s) ++ drop (numeral_size s) s
unfolding numeral_size numeral_value
written_read s h =
    by (is_numeral (digit_run s))
    (λ (w : is_numeral (digit_run s) ≡ true).
    rw (w, decimal-value (digit_run s) (digits-run s) w)
    (sym (take-append-drop (length (digit_run s)) s) ∙ rw run-prefix))
    (λ (w : is_numeral (digit_run s) ≡ false). absurd (h (rw w)))

-- Where no digit comes first there is no numeral.
pub size-nothing : numeral_size [] ≡ 0
unfolding numeral_size digit_run
size-nothing = refl

pub size-other : (d : ℕ) (s : List ℕ) → is_digit d ≡ false → numeral_size (d ∷ s) ≡ 0
unfolding numeral_size
size-other d s h = rw (run-stops d s h)

-- Whether a number fits 32 bits is the same of what is kept of it; one that fits is kept whole.
pub saturated-test : (n : ℕ) → ltb (saturated n) 4294967296 ≡ ltb n 4294967296
saturated-test n =
    le-by 4294967296 n
    (λ h. le-ltb (saturated n) 4294967296 (omega arith) ∙ sym (le-ltb n 4294967296 h))
    (λ h. lt-ltb (saturated n) 4294967296 (omega arith) ∙ sym (lt-ltb n 4294967296 h))

pub saturated-same : (n : ℕ) → n < 4294967296 → saturated n ≡ n
saturated-same n h = omega arith

digits-no-end : (ds : List ℕ) → Digits ds → mem 10 ds ≡ false
unfolding mem
digits-no-end [] h = refl
digits-no-end (d ∷ ds) h = let n : 10 ≢ d = λ e. omega arith in rw (ne_eqb 10 d n, digits-no-end ds h.2)

-- a number has no byte that ends a line
pub decimal-no-end : (n : ℕ) → mem 10 (decimal n) ≡ false
decimal-no-end n = digits-no-end (decimal n) (digits_decimal n)
