-- The laws that the loops over a form cite that count and write its bytes. Assumes nothing.
use Prim.Native.Nat.{ℕ, suc, ◌+◌, ◌-◌, ◌/◌, ◌≤◌, ◌<◌, ◌^◌}
use mathlib.Core.Path.{◌≡◌, refl, ap, sym, ◌∙◌}
use mathlib.Core.Bool.{true, false}
use mathlib.Core.List.{List, [], ◌∷◌, ◌++◌, append_assoc, append-nil}
use native.Mathlib.Numerals.{add-one}
use native.Mathlib.Omega.{arith}
use borrow.Author.Tests.{le-leb}
use lib.Dec.{leb}
use lib.ListN.{length, get_or, take, drop, set, length-append, length-drop, drop_of_length-le, take-append-drop}
use lib.Seq.{drop-cons, drop-drop, length-take-le, take-append-add, drop-append-add, take-append_seam, drop-append_seam, set_split}
use Rattle.text_forms.specs.decimal.Written.{Written}
use Rattle.text_forms.proofs.decimal.Parts.{part-written}
use Rattle.text_forms.specs.Spelling.{decimal_notation}
use Rattle.text_forms.specs.Form.{is_mark, spelling, fill_in, fill}
use Rattle.text_forms.proofs.Lawful.{decimal-lawful}
use Rattle.std.proofs.Common.{Some, None, Option, MatchOption, option_copied, Bor, Iter}
use Rattle.std.specs.Prelude.{unwrap_or}
use Rattle.text_forms.specs.Fit.{room_after}
use Rattle.text_forms.proofs.Fits.{room-short, room-whole, room-both}
use Rattle.text_forms.proofs.Forms.{fill-mark, fill-byte, fill-wide}
use Rattle.std.proofs.lemmas.List.{take_rest}

-- the first of the numbers that are left, 0 where there is none, and those after it
none-left : (l : List ℕ) → length l ≡ 0 → (0 ≡ get_or l 0 0) × (l ≡ drop 1 l)
none-left [] h = (refl, refl)
none-left (n ∷ l) h = absurd (omega arith)

abbrev pub Steps : Iter ℕ → Option (Bor ℕ) → Iter ℕ → Type 0
Steps s r t = MatchOption r ((length s.rest.now ≡ 0) × (t ≡ s)) (λ n. s.rest.now ≡ n.now ∷ t.rest.now)

module _ (s t : Iter ℕ) where
  pub first-left : (r : Option (Bor ℕ)) → Steps s r t → unwrap_or (option_copied r) 0 ≡ get_or s.rest.now 0 0
  first-left None h = (none-left s.rest.now h.0).0
  first-left (Some n) e = rw e refl

  pub others-left : (r : Option (Bor ℕ)) → Steps s r t → t.rest.now ≡ drop 1 s.rest.now
  others-left None h = ap (λ (i : Iter ℕ). i.rest.now) h.1 ∙ (none-left s.rest.now h.0).1
  others-left (Some n) e = rw e refl

-- what the form gives from place i on with these numbers
module _ (form ns : List ℕ) (i : ℕ) where
  pub mark-fill : i < length form → is_mark (get_or form i 0) ≡ true
      → fill (drop i form) ns ≡ (spelling (get_or form i 0)).write (get_or ns 0 0) ++ fill (drop (i + 1) form) (drop 1 ns)
  mark-fill h m = rw (drop-cons form i 0 h, add-one) (fill-mark decimal_notation (get_or form i 0) (drop (suc i) form) m ns)

  pub byte-fill : i < length form → is_mark (get_or form i 0) ≡ false → fill (drop i form) ns ≡ get_or form i 0 ∷ fill (drop (i + 1) form) ns
  byte-fill h m = rw (drop-cons form i 0 h, add-one) (fill-byte decimal_notation (get_or form i 0) (drop (suc i) form) m ns)

  pub end-fill : length form ≤ i → fill (drop i form) ns ≡ []
  unfolding fill_in
  end-fill h = rw (drop_of_length-le form {i = i} h)

-- fitting: what is left of the form leaves of what is left what the whole leaves of the room
abbrev pub Fitting : List ℕ → List ℕ → ℕ → ℕ → ℕ → List ℕ → Type 0
Fitting form ns room left i rest = room_after left (length (fill (drop i form) rest)) ≡ room_after room (length (fill form ns))

module _ (form ns : List ℕ) where
  pub fitting-ample : (room : ℕ) → ((k : ℕ) → get_or ns k 0 < 2 ^ 64) → length form ≤ room / 20 → true ≡ leb (length (fill form ns)) room
  fitting-ample room h l = sym (le-leb (length (fill form ns)) room (omega (arith, fill-wide decimal-lawful form ns h)))

  module _ (room left i : ℕ) (rest : List ℕ) (w : Fitting form ns room left i rest) where
    size_more : (others : List ℕ) (size : ℕ) → length (fill (drop i form) rest) ≡ size + length (fill (drop (i + 1) form) others)
        → size ≤ left → Fitting form ns room (left - size) (i + 1) others
    size_more others size p h = sym (room-both left size (length (fill (drop (i + 1) form) others)) h) ∙ ap (room_after left) (sym p) ∙ w

    size-short : (others : List ℕ) (size : ℕ) → length (fill (drop i form) rest) ≡ size + length (fill (drop (i + 1) form) others)
        → left < size → None ≡ room_after room (length (fill form ns))
    size-short others size p h = sym (room-short left _ (omega (arith, p))) ∙ w

    module _ (h : i < length form) where
      module _ (m : is_mark (get_or form i 0) ≡ true) {n size : ℕ} (q : n ≡ get_or rest 0 0) (e : size ≡ length ((spelling (get_or form i 0)).write n)) where
        mark-size : length (fill (drop i form) rest) ≡ size + length (fill (drop (i + 1) form) (drop 1 rest))
        mark-size = ap length (mark-fill form rest i h m) ∙ rw (e, q, length-append)

        pub fitting-mark : size ≤ left → {less : ℕ} {next : List ℕ} → less ≡ left - size → next ≡ drop 1 rest → Fitting form ns room less (i + 1) next
        fitting-mark l p r = rw (p, r) (size_more (drop 1 rest) size mark-size l)

        pub fitting-no-mark : left < size → None ≡ room_after room (length (fill form ns))
        fitting-no-mark l = size-short (drop 1 rest) size mark-size l

      module _ (m : is_mark (get_or form i 0) ≡ false) where
        byte-size : length (fill (drop i form) rest) ≡ 1 + length (fill (drop (i + 1) form) rest)
        byte-size = ap length (byte-fill form rest i h m) ∙ omega arith

        pub fitting-byte : 1 ≤ left → {less : ℕ} → less ≡ left - 1 → Fitting form ns room less (i + 1) rest
        fitting-byte l p = rw p (size_more rest 1 byte-size l)

        pub fitting-no-byte : left < 1 → None ≡ room_after room (length (fill form ns))
        fitting-no-byte l = size-short rest 1 byte-size l

    pub fitting-end : length form ≤ i → Some left ≡ room_after room (length (fill form ns))
    fitting-end h = sym (room-whole left) ∙ ap (room_after left) (sym (ap length (end-fill form rest i h))) ∙ w

-- two pieces in front
pub front_of : (n : ℕ) (a b c : List ℕ) → length a ≡ n → take (n + length b) (a ++ (b ++ c)) ≡ a ++ b
front_of n a b c e = rw (← e) (take-append-add a (b ++ c) (length b) ∙ rw take-append_seam)

pub back-of : (n : ℕ) (a b c : List ℕ) → length a ≡ n → drop (n + length b) (a ++ (b ++ c)) ≡ c
back-of n a b c e = rw (← e) (drop-append-add a (b ++ c) (length b) ∙ drop-append_seam b c)

-- writing: what is written and what is left are the whole, and from `at` on nothing has changed
pub record Writing (form ns before out : List ℕ) (at i : ℕ) (others : List ℕ) : Type 0 where
  pub all : fill form ns ≡ take at out ++ fill (drop i form) others
  pub rest : drop at out ≡ drop at before
  pub same : length out ≡ length before
  pub inside : at ≤ length out
  pub enough : length (fill form ns) ≤ length before

module _ (form ns before : List ℕ) where
  module _ (out : List ℕ) (at i : ℕ) (others : List ℕ) (w : Writing form ns before out at i others) where
    -- one piece more
    piece-room : (piece left : List ℕ) → fill (drop i form) others ≡ piece ++ left → at + length piece ≤ length out
    piece-room piece left e =
        let a : length (fill form ns) ≡ at + (length piece + length left) =
        ap length w.all ∙ rw (e, length-append, length-append, length-take-le at out w.inside) in
        omega (arith, w.same, w.enough)

    piece-written : (piece next : List ℕ) → i < length form → fill (drop i form) others ≡ piece ++ fill (drop (i + 1) form) next
        → Writing form ns before (take at out ++ (piece ++ drop (at + length piece) out)) (at + length piece) (i + 1) next
    piece-written piece next h e =
        let room : at + length piece ≤ length out = piece-room piece (fill (drop (i + 1) form) next) e in
        let t : length (take at out) ≡ at = length-take-le at out w.inside in
        let front : take (at + length piece) (take at out ++ (piece ++ drop (at + length piece) out)) ≡ take at out ++ piece =
        front_of at (take at out) piece (drop (at + length piece) out) t in
        let back : drop (at + length piece) (take at out ++ (piece ++ drop (at + length piece) out)) ≡ drop (at + length piece) out =
        back-of at (take at out) piece (drop (at + length piece) out) t in
        record {
          all = w.all ∙ rw (e, front, append_assoc);
          rest = back ∙ sym (drop-drop (length piece) at out) ∙ ap (drop (length piece)) w.rest ∙ drop-drop (length piece) at before;
          same = rw (length-append, length-append, length-drop, t) (omega (arith, w.same));
          inside = rw (length-append, length-append, length-drop, t) (omega arith);
          enough = w.enough;
        }

    pub mark-room : i < length form → is_mark (get_or form i 0) ≡ true → at + length ((spelling (get_or form i 0)).write (get_or others 0 0)) ≤ length out
    mark-room h m = piece-room ((spelling (get_or form i 0)).write (get_or others 0 0)) (fill (drop (i + 1) form) (drop 1 others)) (mark-fill form others i h m)

    -- a mark's writer is lent the part from `at` on
    pub mark-fits : {n : ℕ} → i < length form → is_mark (get_or form i 0) ≡ true → n ≡ get_or others 0 0
        → length ((spelling (get_or form i 0)).write n) ≤ length (take (length out - at) (drop at out))
    mark-fits h m q = rw (take_rest out at, q, length-drop) (omega (arith, mark-room h m))

    pub writing-mark : {n r : ℕ} {after next : List ℕ} → i < length form → is_mark (get_or form i 0) ≡ true → n ≡ get_or others 0 0
        → Written ((spelling (get_or form i 0)).write n) (take (length out - at) (drop at out)) r after
        → next ≡ drop 1 others → Writing form ns before (take at out ++ (after ++ drop (length out - at) (drop at out))) (at + r) (i + 1) next
    writing-mark {n} {r} {after} h m q v p =
        let piece = (spelling (get_or form i 0)).write n in
        let e : fill (drop i form) others ≡ piece ++ fill (drop (i + 1) form) (drop 1 others) = mark-fill form others i h m ∙ rw q in
        let room : at + length piece ≤ length out = piece-room piece (fill (drop (i + 1) form) (drop 1 others)) e in
        rw (part-written at out after piece room v.1, v.0, p) (piece-written piece (drop 1 others) h e)

    pub byte-room : i < length form → is_mark (get_or form i 0) ≡ false → at < length out
    byte-room h m = let p : at + 1 ≤ length out = piece-room (get_or form i 0 ∷ []) (fill (drop (i + 1) form) others) (byte-fill form others i h m) in omega arith

    pub writing-byte : i < length form → is_mark (get_or form i 0) ≡ false → Writing form ns before (set out at (get_or form i 0)) (at + 1) (i + 1) others
    writing-byte h m =
        let b : at < length out = byte-room h m in
        rw (set_split out at (get_or form i 0) b, ← add-one at) (piece-written (get_or form i 0 ∷ []) others h (byte-fill form others i h m))

    pub writing-end : length form ≤ i → Written (fill form ns) before at out
    writing-end h =
        let e : fill form ns ≡ take at out = w.all ∙ rw (end-fill form others i h, append-nil) in
        let t : length (fill form ns) ≡ at = ap length e ∙ length-take-le at out w.inside in
        (sym t, sym (rw (t, e, ← w.rest) (take-append-drop at out)))
