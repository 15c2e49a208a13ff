-- Laws of digits and of the decimal text, as the code meets them. Assumes nothing.
use Prim.Native.Nat.{ℕ, zero, suc, ◌+◌, ◌*◌, ◌-◌, ◌/◌, ◌%◌, ◌≤◌, ◌<◌, ◌^◌, min}
use mathlib.Core.Path.{◌≡◌, refl, ap, sym, ◌∙◌}
use mathlib.Core.Bool.{Bool, true, false, cond, not}
use mathlib.Core.Logic.{◌⊎◌, inl, inr, ⊎_elim}
use mathlib.Core.List.{List, [], ◌∷◌, ◌++◌}
use Rattle.std.specs.Prelude.{Option, Some, None}
use Rattle.std.specs.List.{position, position_or_len}
use Rattle.std.specs.Option.{unwrap_or}
use native.Mathlib.Nat.{pow-suc, not-suc-le-zero, le_of_suc-le-suc}
use native.Mathlib.Numerals.{add-one}
use native.Mathlib.Omega.{arith}
use borrow.Author.Tests.{lt-ltb, le-ltb, ltb-false, eq-eqb, ne_eqb}
use lib.Dec.{ltb}
use lib.ListN.{length, get_or, take, drop, set, length-append, length-take, length-set}
use lib.Seq.{drop-cons, drop-set-lt, get_or_at, get_or-set_same, get_or-take, length-take-le, lt-length-set, take_at, take-suc, take-take}
use Rattle.lists.proofs.Lists.{by}
use Rattle.text_forms.specs.decimal.Decimal.{digits_in, decimal, is_digit, digit_run, value_from, is_numeral, numeral_size, numeral_value, saturated, numeral_read}
use Rattle.text_forms.specs.decimal.Written.{Written}
use Rattle.std.proofs.lemmas.Bool.{cases_lt}

-- any bound above n serves
enough : (f g n : ℕ) → n < f → n < g → digits_in f n ≡ digits_in g n
unfolding digits_in
enough zero g n hf hg = absurd (not-suc-le-zero hf)
enough (suc f) zero n hf hg = absurd (not-suc-le-zero hg)
enough (suc f) (suc g) n hf hg =
    ⊎_elim (λ l. rw (lt-ltb n 10 l)) (λ l. rw (le-ltb n 10 l, enough f g (n / 10) (omega arith) (omega arith))) (cases_lt n 10)

pub decimal-small : (n : ℕ) → n < 10 → decimal n ≡ (48 + n) ∷ []
unfolding decimal digits_in
decimal-small n h = rw (lt-ltb n 10 h)

pub decimal-large : (n : ℕ) → 10 ≤ n → decimal n ≡ decimal (n / 10) ++ ((48 + n % 10) ∷ [])
unfolding decimal digits_in
decimal-large n h = rw (le-ltb n 10 h, enough n (suc (n / 10)) (n / 10) (omega arith) (omega arith))

pub length-large : (n : ℕ) → 10 ≤ n → length (decimal n) ≡ length (decimal (n / 10)) + 1
length-large n h = rw (decimal-large n h, length-append)

-- n of one digit, and of two
pub one-room : (n : ℕ) → n < 10 → length (decimal n) ≡ 1
one-room n h = ap length (decimal-small n h)

pub one-digit : (n : ℕ) (before : List ℕ) → length (decimal n) ≤ length before → n < 10 → Written (decimal n) before 1 (set before 0 (48 + n))
one-digit n [] h l = absurd (omega (arith, one-room n l))
one-digit n (b ∷ bs) h l = rw (decimal-small n l) (refl, refl)

decimal-two : (n : ℕ) → 10 ≤ n → n < 100 → decimal n ≡ (48 + n / 10) ∷ (48 + n % 10) ∷ []
decimal-two n h l = decimal-large n h ∙ rw (decimal-small (n / 10) (omega arith)) refl

pub two-room : (n : ℕ) → 10 ≤ n → n < 100 → length (decimal n) ≡ 2
two-room n h l = ap length (decimal-two n h l)

pub two-digits : (n : ℕ) (before : List ℕ) → length (decimal n) ≤ length before → 10 ≤ n → n < 100
    → Written (decimal n) before 2 (set (set before 0 (48 + n / 10)) 1 (48 + n % 10))
two-digits n [] h m l = absurd (omega (arith, two-room n m l))
two-digits n (b ∷ []) h m l = absurd (omega (arith, two-room n m l))
two-digits n (b ∷ (c ∷ bs)) h m l = rw (decimal-two n m l) (refl, refl)

-- n is written from its last digit on: the i digits that are left spell rest, and what stands after them is done
pub record WritingDigits (n : ℕ) (before : List ℕ) (i rest : ℕ) (out : List ℕ) : Type 0 where
  pub room : length (decimal n) ≤ length before
  pub same : length out ≡ length before
  pub near : i ≤ length (decimal n)
  pub left : (i ≡ 0) ⊎ (decimal rest ≡ take i (decimal n))
  pub written : drop i out ≡ drop i (decimal n) ++ drop (length (decimal n)) before

-- the last of some digits, and what those before it spell
last-digit : (digits : List ℕ) (j rest : ℕ) → j < length digits → decimal rest ≡ take (suc j) digits → (get_or digits j 0 ≡ 48 + rest % 10) × ((j ≡ 0) ⊎ (decimal (rest / 10) ≡ take j digits))
last-digit digits j rest h e =
    ⊎_elim
    (λ l. let q : (48 + rest) ∷ [] ≡ take (suc j) digits = sym (decimal-small rest l) ∙ e in
    let z : j ≡ 0 = omega (arith, ap length q, length-take-le (suc j) digits h) in
    let m : rest ≡ rest % 10 = omega arith in
    (here ∙ ap (λ (s : List ℕ). get_or s j 0) (sym q) ∙ rw z (ap (λ (k : ℕ). 48 + k) m), inl z))
    (λ l. let q : decimal (rest / 10) ++ ((48 + rest % 10) ∷ []) ≡ take (suc j) digits = sym (decimal-large rest l) ∙ e in
    let k : length (decimal (rest / 10)) ≡ j = omega (arith, ap length q, length-append (decimal (rest / 10)) ((48 + rest % 10) ∷ []), length-take-le (suc j) digits h) in (
      here ∙ ap (λ (s : List ℕ). get_or s j 0) (sym q) ∙ get_or_at (decimal (rest / 10)) (48 + rest % 10) [] 0 j k,
      inr (sym (take_at (decimal (rest / 10)) ((48 + rest % 10) ∷ []) j k) ∙ ap (take j) q ∙ take-take j (suc j) digits (omega arith)),
    ))
    (cases_lt rest 10)
  where
    here : get_or digits j 0 ≡ get_or (take (suc j) digits) j 0
    here = sym (get_or-take (suc j) digits j 0 (omega arith))

module _ (n : ℕ) (before : List ℕ) {rest : ℕ} {out : List ℕ} where
  pub writing-next : {i : ℕ} → WritingDigits n before i rest out → 0 < i → WritingDigits n before (i - 1) (rest / 10) (set out (i - 1) (48 + rest % 10))
  writing-next {i} w h = let e : i ≡ suc (i - 1) = omega arith in step (i - 1) (rw e at w)
    where
      step : (j : ℕ) → WritingDigits n before (suc j) rest out → WritingDigits n before j (rest / 10) (set out j (48 + rest % 10))
      step j w =
          let l : j < length (decimal n) = w.near in
          let o : j < length out = omega (arith, w.same, w.room) in
          let d = last-digit (decimal n) j rest l (⊎_elim (λ z. absurd (omega arith)) (λ q. q) w.left) in
          record {
            room = w.room;
            same = length-set out j (48 + rest % 10) ∙ w.same;
            near = omega arith;
            left = d.1;
            written = rw (drop-cons (set out j (48 + rest % 10)) j 0 (lt-length-set out j (48 + rest % 10) o), get_or-set_same out j (48 + rest % 10) 0 o, drop-set-lt (suc j) out j (48 + rest % 10) (omega arith), w.written, drop-cons (decimal n) j 0 l, d.0);
          }

-- a digit, or none
pub digit-or-not : (c : ℕ) → ((48 ≤ c) × (c < 58)) ⊎ ((c < 48) ⊎ (58 ≤ c))
digit-or-not c = ⊎_elim (λ l. inr (inl l)) (λ l. ⊎_elim (λ m. inl (l, m)) (λ m. inr (inr m)) (cases_lt c 58)) (cases_lt c 48)

pub run_on : (c : ℕ) (cs : List ℕ) → 48 ≤ c → c < 58 → digit_run (c ∷ cs) ≡ c ∷ digit_run cs
unfolding digit_run
run_on c cs l h = rw (le-ltb c 48 l, lt-ltb c 58 h)

pub run-off : (c : ℕ) (cs : List ℕ) → (c < 48) ⊎ (58 ≤ c) → digit_run (c ∷ cs) ≡ []
unfolding digit_run
run-off c cs (inl l) = rw (lt-ltb c 48 l)
run-off c cs (inr h) = let l : 48 ≤ c = omega arith in rw (le-ltb c 48 l, le-ltb c 58 h)

-- the place of the first byte that is no digit
abbrev others : ℕ → Bool
others byte = not (is_digit byte)

run-place : (s : List ℕ) → (position_or_len others s ≡ length (digit_run s)) × (length (digit_run s) ≤ length s)
unfolding digit_run
run-place [] = (refl, omega arith)
run-place (c ∷ s) =
    let q = run-place s in
    by (is_digit c)
    (λ (e : is_digit c ≡ true). rw e (omega (arith, q.0), omega (arith, q.1)))
    (λ (e : is_digit c ≡ false). rw e (refl, omega arith))

pub run-length : (s : List ℕ) {place : Option ℕ} → place ≡ position others s → unwrap_or place (length s) ≡ length (digit_run s)
run-length s e =
    let q = run-place s in
    by (ltb (position_or_len others s) (length s))
    (λ (h : ltb (position_or_len others s) (length s) ≡ true). rw (e, h) q.0)
    (λ (h : ltb (position_or_len others s) (length s) ≡ false). rw (e, h) (let l = ltb-false (position_or_len others s) (length s) h in omega (arith, q.0, q.1)))

run_none : length (digit_run []) ≡ 0
unfolding digit_run
run_none = refl

pub run-digits : (s : List ℕ) (i : ℕ) → i < length (digit_run s) → (48 ≤ get_or (digit_run s) i 0) × (get_or (digit_run s) i 0 < 58)
run-digits [] i h = absurd (not-suc-le-zero (rw run_none at h))
run-digits (c ∷ cs) zero h =
    ⊎_elim
    (λ d. rw (run_on c cs d.0 d.1) d)
    (λ n. absurd (not-suc-le-zero (rw (run-off c cs n) at h)))
    (digit-or-not c)
run-digits (c ∷ cs) (suc i) h =
    ⊎_elim
    (λ d. rw (run_on c cs d.0 d.1) (run-digits cs i (le_of_suc-le-suc (rw (run_on c cs d.0 d.1) at h))))
    (λ n. absurd (not-suc-le-zero (rw (run-off c cs n) at h)))
    (digit-or-not c)

-- digits alone
pub run-again : (s : List ℕ) → digit_run (digit_run s) ≡ digit_run s
unfolding digit_run
run-again [] = refl
run-again (c ∷ cs) =
    ⊎_elim
    (λ d. rw (le-ltb c 48 d.0, lt-ltb c 58 d.1) (rw (le-ltb c 48 d.0, lt-ltb c 58 d.1) (ap (λ (l : List ℕ). c ∷ l) (run-again cs))))
    (λ n. rw (run-off c cs n))
    (digit-or-not c)

pub all-digits : (s : List ℕ) → digit_run s ≡ s → (i : ℕ) → i < length s → (48 ≤ get_or s i 0) × (get_or s i 0 < 58)
all-digits s e i h = rw e at (run-digits s i (rw (ap length e) h))

pub run-prefix : (s : List ℕ) → take (length (digit_run s)) s ≡ digit_run s
unfolding digit_run
run-prefix [] = refl
run-prefix (c ∷ cs) =
    ⊎_elim
    (λ d. rw (le-ltb c 48 d.0, lt-ltb c 58 d.1) (ap (λ (l : List ℕ). c ∷ l) (run-prefix cs)))
    (λ n. rw (run-off c cs n))
    (digit-or-not c)

pub run_short : (s : List ℕ) → length (digit_run s) ≤ length s
run_short s = omega (arith, ap length (run-prefix s), length-take (length (digit_run s)) s)

pub run-get_or : (s : List ℕ) (i : ℕ) → i < length (digit_run s) → get_or s i 0 ≡ get_or (digit_run s) i 0
run-get_or s i h = sym (get_or-take (length (digit_run s)) s i 0 h) ∙ rw run-prefix

pub value-snoc : (v : ℕ) (xs : List ℕ) (c : ℕ) → value_from v (xs ++ (c ∷ [])) ≡ value_from v xs * 10 + (c - 48)
unfolding value_from
value-snoc v [] c = refl
value-snoc v (x ∷ xs) c = value-snoc (v * 10 + (x - 48)) xs c

-- the value of one digit more, where what is known of the value so far is its minimum with m
module _ (m : ℕ) (ds : List ℕ) (i v : ℕ) (h : i < length ds) (e : v ≡ min (value_from 0 (take i ds)) m) where
  next : value_from 0 (take (i + 1) ds) ≡ value_from 0 (take i ds) * 10 + (get_or ds i 0 - 48)
  next = rw (add-one, take-suc ds i 0 h, value-snoc)

  pub capped : min (v * 10 + (get_or ds i 0 - 48)) m ≡ min (value_from 0 (take (i + 1) ds)) m
  capped = omega (arith, next)

pub value_none : (ds : List ℕ) (m : ℕ) → 0 ≡ min (value_from 0 (take 0 ds)) m
unfolding value_from
value_none ds m = omega arith

-- which digits are a number's
numeral-zero : (ds : List ℕ) → 1 < length ds → get_or ds 0 0 ≡ 48 → is_numeral ds ≡ false
numeral-zero [] h e = refl
numeral-zero (c ∷ []) h e = absurd (not-suc-le-zero (le_of_suc-le-suc h))
numeral-zero (c ∷ d ∷ ds) h e = rw (eq-eqb c 48 e)

numeral-none : (ds : List ℕ) → length ds ≡ 0 → is_numeral ds ≡ false
numeral-none [] h = refl
numeral-none (c ∷ ds) h = absurd (not-suc-le-zero {n = length ds} (omega arith))

numeral-one : (ds : List ℕ) → (length ds ≡ 0 → ⊥) → length ds ≤ 1 → is_numeral ds ≡ true
numeral-one [] h l = absurd (h refl)
numeral-one (c ∷ []) h l = refl
numeral-one (c ∷ d ∷ ds) h l = absurd (not-suc-le-zero (le_of_suc-le-suc l))

pub numeral-more : (ds : List ℕ) → 1 < length ds → (get_or ds 0 0 ≡ 48 → ⊥) → is_numeral ds ≡ true
numeral-more [] h e = absurd (not-suc-le-zero h)
numeral-more (c ∷ []) h e = refl
numeral-more (c ∷ d ∷ ds) h e = rw (ne_eqb c 48 e)

-- the numeral that a text starts with, from the digits that it starts with
module _ (s : List ℕ) {size : ℕ} (e : size ≡ length (digit_run s)) where
  no_numeral : numeral_size s ≡ 0 → None ≡ numeral_read s
  no_numeral z = rw (eq-eqb (numeral_size s) 0 z)

  pub read-nothing : size ≡ 0 → None ≡ numeral_read s
  unfolding numeral_size
  read-nothing z = no_numeral (rw (numeral-none (digit_run s) (sym e ∙ z)))

  pub read-zero-first : 1 < size → get_or s 0 0 ≡ 48 → None ≡ numeral_read s
  unfolding numeral_size
  read-zero-first h z =
      let l : 1 < length (digit_run s) = omega arith in
      let m : 0 < length (digit_run s) = omega arith in
      no_numeral (rw (numeral-zero (digit_run s) l (sym (run-get_or s 0 m) ∙ z)))

  some_numeral : is_numeral (digit_run s) ≡ true → (size ≡ 0 → ⊥) → {v : ℕ} → v ≡ saturated (value_from 0 (digit_run s)) → Some (record { size = size; value = v }) ≡ numeral_read s
  unfolding numeral_size numeral_value
  some_numeral n z q = rw (n, ne_eqb (length (digit_run s)) 0 (λ y. z (e ∙ y))) (λ i. Some (record { size = e i; value = q i }))

  pub read-digit : (size ≡ 0 → ⊥) → size ≤ 1 → {v : ℕ} → v ≡ saturated (value_from 0 (digit_run s)) → Some (record { size = size; value = v }) ≡ numeral_read s
  read-digit z h q = some_numeral (numeral-one (digit_run s) (λ y. z (e ∙ y)) (omega arith)) z q

  pub read-digits : (get_or s 0 0 ≡ 48 → ⊥) → 1 < size → {v : ℕ} → v ≡ saturated (value_from 0 (digit_run s)) → Some (record { size = size; value = v }) ≡ numeral_read s
  read-digits n h q =
      let m : 0 < length (digit_run s) = omega arith in
      some_numeral (numeral-more (digit_run s) (omega arith) (λ y. n (run-get_or s 0 m ∙ y))) (λ y. omega arith) q

-- how many digits a number has
pub decimal-digits : (k n : ℕ) → n < 10 ^ suc k → length (decimal n) ≤ suc k
decimal-digits zero n h = rw (decimal-small n h) (omega arith)
decimal-digits (suc k) n h =
    ⊎_elim
    (λ l. rw (decimal-small n l) (omega arith))
    (λ l. let m : n / 10 < 10 ^ suc k = div-lt n (10 ^ suc k) (rw (pow-suc 10 (suc k)) at h) in omega (arith, length-large n l, decimal-digits k (n / 10) m))
    (cases_lt n 10)
  where
    div-lt : (n m : ℕ) → n < m * 10 → n / 10 < m
    div-lt n m h = omega arith

ten-power : (k : ℕ) → 1 ≤ 10 ^ k
ten-power zero = omega arith
ten-power (suc k) = let p : 10 ^ suc k ≡ 10 ^ k * 10 = pow-suc 10 k in omega (arith, ten-power k)

-- and just so many, by the greatest power of ten that is no larger
pub decimal-power : (k n : ℕ) → 10 ^ k ≤ n → n < 10 * 10 ^ k → length (decimal n) ≡ k + 1
decimal-power zero n g h = rw (decimal-small n (omega arith)) refl
decimal-power (suc k) n g h =
    let p : 10 ^ suc k ≡ 10 ^ k * 10 = pow-suc 10 k in
    let large : 10 ≤ n = omega (arith, ten-power k) in
    let half : 10 ^ k ≤ n / 10 = omega arith in
    let less : n / 10 < 10 * 10 ^ k = omega arith in
    omega (arith, length-large n large, decimal-power k (n / 10) half less)

-- a number of 32 bits has at most ten
pub decimal-ten : (n : ℕ) → n < 4294967296 → length (decimal n) ≤ 10
decimal-ten n h = decimal-digits 9 n (omega arith)

-- and one of 64 bits at most twenty
pub decimal-twenty : (n : ℕ) → n < 2 ^ 64 → length (decimal n) ≤ 20
decimal-twenty n h = decimal-digits 19 n (omega arith)

pub number_short : (s : List ℕ) → numeral_size s ≤ length s
unfolding numeral_size
number_short s = by-case (is_numeral (digit_run s))
  where
    by-case : (b : Bool) → cond b (length (digit_run s)) 0 ≤ length s
    by-case true = run_short s
    by-case false = omega arith
