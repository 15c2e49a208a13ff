-- How long the line of a reason is: at most 671 bytes, if it is the one that is given. Assumes nothing.
use mathlib.Core.Path.{◌≡◌, sym, ◌∙◌}
use mathlib.Core.Bool.{true, false, cond, ◌||◌}
use mathlib.Core.Logic.{◌⊎◌, inl, inr, ⊎_elim}
use mathlib.Core.List.{List, [], ◌∷◌, ◌++◌}
use Prim.Native.Nat.{ℕ, zero, suc, ◌+◌, ◌*◌, ◌≤◌, ◌<◌}
use native.Mathlib.Omega.{arith}
use borrow.Author.Tests.{eqb-true}
use lib.Dec.{eqb}
use lib.ListN.{length, length-append}
use lib.Seq.{get_or-drop}
use Rattle.std.specs.Prelude.{flat_map, Some, get_or, drop}
use Rattle.lists.specs.Lists.{◌among◌, ◌within◌}
use Rattle.lists.proofs.Lists.{by, mem-head, mem-tail, mem-append, or-by, cons-by}
use Rattle.record.specs.Record.{Record, names, WellFormed}
use Rattle.record.specs.Judgement.{sound}
use Rattle.record.proofs.Records.{left-known, right-known, init-known}
use Rattle.record_tables.specs.Checked.{Checked}
use Rattle.graph.proofs.indexes.Fit.{checked-fit}
use Rattle.graph.proofs.indexes.Tables.{names-few}
use Rattle.text_forms.specs.Spelling.{bytes, number_spelling}
use Rattle.text_forms.specs.Form.{is_mark, spelling, fill_in, fill}
use Rattle.text_forms.proofs.Lawful.{most_bytes, lawful, decimal-lawful}
use Rattle.text_forms.proofs.Marks.{spells-decimal}
use Rattle.text_forms.proofs.decimal.Laws.{decimal-digits}
use Rattle.reasons.specs.Reasons.{Reason, must_by, never_by, IsReason, names_printed}
use Rattle.reasons.specs.Given.{reason_of}
use Rattle.reasons.proofs.Reasons.{walk-last, walk-links}
use Rattle.reasons.proofs.Paths.{walk-within}
use Rattle.reasons.proofs.Given.{reason-least}
use Rattle.reasons.proofs.Meeting.{least-printed}
use Rattle.text_reasons.specs.ReasonLine.{name_marks, must_words, never_words, ring_words, reason_form, reason_line}

-- The most bytes that a mark takes with a number of at most four digits, and a form with such numbers.
abbrev short_most : ℕ → ℕ
short_most c = cond (eqb c 35 || eqb c 64) 4 12

unfoldable short_room : List ℕ → ℕ
short_room [] = 0
short_room (c ∷ form) = cond (is_mark c) (short_most c + short_room form) (1 + short_room form)

most-few : (c : ℕ) → most_bytes c ≤ 12
most-few c =
    by (eqb c 37)
    (λ (e : eqb c 37 ≡ true). rw e (omega arith))
    (λ (e : eqb c 37 ≡ false).
    by (eqb c 33) (λ (m : eqb c 33 ≡ true). rw (e, m) (omega arith)) (λ (m : eqb c 33 ≡ false). rw (e, m) (omega arith)))

decimal-short : (c n : ℕ) → number_spelling ≡ spelling c → n < 10000 → length ((spelling c).write n) ≤ 4
unfolding number_spelling
decimal-short c n e h = rw (← e) (decimal-digits 3 n h)

mark-short : (c n : ℕ) → n < 10000 → length ((spelling c).write n) ≤ short_most c
mark-short c n h =
    by (eqb c 35 || eqb c 64)
    (λ (e : (eqb c 35 || eqb c 64) ≡ true).
    let d : (c ≡ 35) ⊎ (c ≡ 64) = or-by (eqb c 35) (eqb c 64) e (λ m. inl (eqb-true c 35 m)) (λ m. inr (eqb-true c 64 m)) in
    rw e (decimal-short c n (spells-decimal c d) h))
    (λ (e : (eqb c 35 || eqb c 64) ≡ false). rw e (omega (arith, (lawful decimal-lawful c).narrow n (omega arith), most-few c)))

fill-short : (f ns : List ℕ) → ((i : ℕ) → get_or ns i 0 < 10000) → length (fill f ns) ≤ short_room f
unfolding short_room fill_in
fill-short [] ns h = omega arith
fill-short (c ∷ f) ns h =
    by (is_mark c)
    (λ (m : is_mark c ≡ true).
    rw (m, length-append)
    (omega (arith, mark-short c (get_or ns 0 0) (h 0), fill-short f (drop 1 ns) (λ i. rw get_or-drop (h (1 + i))))))
    (λ (m : is_mark c ≡ false). rw m (omega (arith, fill-short f ns h)))

room-append : (f g : List ℕ) → short_room (f ++ g) ≡ short_room f + short_room g
unfolding short_room
room-append [] g = omega arith
room-append (c ∷ f) g =
    by (is_mark c)
    (λ (m : is_mark c ≡ true). rw (m, room-append f g) (omega arith))
    (λ (m : is_mark c ≡ false). rw (m, room-append f g) (omega arith))

-- a comma and a name's four digits for each
flat-room : (row : List ℕ) → short_room (flat_map (λ y. 44 ∷ 64 ∷ []) row) ≤ 5 * length row
unfolding short_room is_mark
flat-room [] = omega arith
flat-room (x ∷ row) = omega (arith, flat-room row)

marks-room : (row : List ℕ) → 1 ≤ length row → 1 + short_room (name_marks row) ≤ 5 * length row
unfolding short_room is_mark name_marks bytes
marks-room [] h = absurd (omega arith)
marks-room (x ∷ row) h = omega (arith, flat-room row)

words-room : (short_room must_words ≤ 25) × ((short_room never_words ≤ 26) × ((short_room ring_words ≤ 6) × (short_room (bytes "\n") ≤ 1)))
unfolding short_room is_mark must_words never_words ring_words bytes
words-room = (omega arith, (omega arith, (omega arith, omega arith)))

-- no row of a reason is empty, so that it has a comma less than names
form-room : (R : Record) (e : ℕ) (r : Reason) → IsReason R e r → short_room (reason_form r) ≤ 31 + 5 * length (names_printed r)
unfolding reason_form
form-room R e (must_by chain) m =
    let a = room-append (must_words ++ name_marks chain) (bytes "\n") in
    let b = room-append must_words (name_marks chain) in
    omega (arith, a, b, words-room.0, words-room.1.1.1, marks-room chain (omega (arith, walk-links m)))
form-room R e (never_by chain ring) n =
    let a = room-append (never_words ++ name_marks chain ++ ring_words ++ name_marks ring) (bytes "\n") in
    let b = room-append (never_words ++ name_marks chain ++ ring_words) (name_marks ring) in
    let c = room-append (never_words ++ name_marks chain) ring_words in
    let d = room-append never_words (name_marks chain) in
    let u = marks-room chain (omega (arith, walk-links n.chained)) in
    let v = marks-room ring (omega (arith, walk-links n.ringed)) in
    omega (arith, a, b, c, d, words-room.1.0, words-room.1.1.0, words-room.1.1.1, u, v, length-append chain ring)

get-short : (l : List ℕ) → ((x : ℕ) → x among l → x < 10000) → (i : ℕ) → get_or l i 0 < 10000
get-short [] f i = omega arith
get-short (x ∷ l) f zero = f x (mem-head x l)
get-short (x ∷ l) f (suc i) = get-short l (λ y j. f y (mem-tail y x l j)) i

-- names of a reason are names of the record
reason-within : (R : Record) → WellFormed R → (e : ℕ) → e among names R → (r : Reason) → IsReason R e r → names_printed r within names R
reason-within R w e i (must_by chain) m = walk-within (names R) (λ x y l. right-known w x 1 y l) m i
reason-within R w e i (never_by chain ring) n =
    let s : n.start among names R = ⊎_elim (λ (q : n.start ≡ 0). rw q (init-known R)) (λ (q : n.start ≡ e). rw q i) n.from in
    let c = walk-within (names R) (λ x y l. left-known w y 1 x l) n.chained s in
    let r = walk-within (names R) (λ x y l. right-known w x 0 y l) n.ringed (c n.meet (walk-last n.chained)) in
    λ x k. or-by _ _ (sym (mem-append x chain ring) ∙ k) (c x) (r x)

-- The line of the reason that is given, of a record with at most 127 edits: 31 bytes, and five for each of at most 128 names.
pub given-line-size : (R : Record) → Checked R → sound R ≡ true → (e : ℕ) → e among names R → (r : Reason) → reason_of R e ≡ Some r
    → length (reason_line e r) ≤ 671
unfolding reason_line
given-line-size R k s e i r g =
    let f = checked-fit R k in
    let l = reason-least R f.formed f.ascends s e r g in
    let w = reason-within R f.formed e i r l.given in
    let short = get-short (e ∷ names_printed r) (λ x j. omega (arith, f.low x (cons-by x e (names_printed r) j (λ q. rw q i) (w x)))) in
    let n = least-printed R f.formed s e i r l in
    omega (arith, fill-short (reason_form r) (e ∷ names_printed r) short, form-room R e r l.given, n, names-few R f)
