-- Lines written one after the other, for any kind of line: whether they fit, and what they leave. Assumes nothing.
use Rattle.std.proofs.Common.{◌≡◌, refl, ap, sym, ◌∙◌, List, [], ◌∷◌, ◌++◌, map, append_assoc, ℕ, ◌+◌, ◌-◌, ◌≤◌, ◌<◌, length, get_or, take, drop, Some, None, add-one, length-append, drop-cons, arith}
use mathlib.Core.List.{map-append, append-nil}
use lib.ListN.{drop_of_length-le}
use lib.Seq.{take-suc, take_all, take-add}
use Rattle.text_forms.specs.decimal.Written.{Written}
use Rattle.text_forms.proofs.decimal.Parts.{second-room, written_both}
use Rattle.text_forms.specs.Fit.{room_after}
use Rattle.lists.proofs.Lists.{le-by}
use Rattle.text_forms.proofs.Fits.{room-short, room-enough, room-whole, room-both}
use Rattle.text.specs.Text.{joined_lines}

-- a line does not fit what is left of a room, or leaves the rest
pub room-none : (room size : ℕ) → None ≡ room_after room size → room < size
room-none room size e = le-by size room (λ l. let q = e ∙ room-enough room size l in cc) (λ l. l)

pub room-some : (room size : ℕ) {rest : ℕ} → Some rest ≡ room_after room size → (size ≤ room) × (rest ≡ room - size)
room-some room size {rest} e =
    le-by size room
    (λ l. let q = e ∙ room-enough room size l in let r : rest ≡ room - size = cc in (l, r))
    (λ l. let q = e ∙ room-short room size l in cc)

pub joined-append : (s t : List (List ℕ)) → joined_lines (s ++ t) ≡ joined_lines s ++ joined_lines t
unfolding joined_lines
joined-append [] t = refl
joined-append (l ∷ s) t = ap (λ (x : List ℕ). l ++ x) (joined-append s t) ∙ sym (append_assoc l (joined_lines s) (joined_lines t))

-- the lines of some elements
module _ {A : Type 0} (line : A → List ℕ) (a : List A) where
  abbrev pub element_lines : List A → List ℕ
  element_lines l = joined_lines (map line l)

  first-line : (i : ℕ) (d : A) → i < length a → element_lines (drop i a) ≡ line (get_or a i d) ++ element_lines (drop (i + 1) a)
  unfolding joined_lines
  first-line i d h = rw (add-one, drop-cons a i d h)

  no-lines : (i : ℕ) → length a ≤ i → element_lines (drop i a) ≡ []
  unfolding joined_lines
  no-lines i h = rw (drop_of_length-le a {i = i} h)

  -- what is left of a room: what the lines from i on leave of it is what all leave of the room
  pub record Leaves (room left i : ℕ) : Type 0 where
    pub is : room_after left (length (element_lines (drop i a))) ≡ room_after room (length (element_lines a))

  module _ (room : ℕ) where
    pub leaves_all : Leaves room room 0
    leaves_all = record { is = refl }

    module _ {left i : ℕ} (w : Leaves room left i) where
      module _ (x : A) (q : x ≡ get_or a i x) (h : i < length a) where
        size-first : length (element_lines (drop i a)) ≡ length (line x) + length (element_lines (drop (i + 1) a))
        size-first = ap length (first-line i x h) ∙ length-append (line (get_or a i x)) (element_lines (drop (i + 1) a)) ∙ rw (← q)

        pub leaves-next : {rest : ℕ} → Some rest ≡ room_after left (length (line x)) → Leaves room rest (i + 1)
        leaves-next p =
            let s = room-some left (length (line x)) p in
            rw s.1 (record { is = sym (room-both left (length (line x)) (length (element_lines (drop (i + 1) a))) s.0) ∙ ap (room_after left) (sym size-first) ∙ w.is })

        pub leaves-none : None ≡ room_after left (length (line x)) → None ≡ room_after room (length (element_lines a))
        leaves-none p = sym (room-short left _ (omega (arith, room-none left (length (line x)) p, size-first))) ∙ w.is

      pub leaves-end : length a ≤ i → Some left ≡ room_after room (length (element_lines a))
      leaves-end h = sym (room-whole left) ∙ ap (room_after left) (sym (ap length (no-lines i h))) ∙ w.is

  -- what is written: the lines of the first i
  abbrev pub upto : ℕ → List ℕ
  upto i = element_lines (take i a)

  next-line : (i : ℕ) (d : A) → i < length a → upto (i + 1) ≡ upto i ++ line (get_or a i d)
  unfolding joined_lines
  next-line i d h = rw (add-one, take-suc a i d h, map-append, joined-append (map line (take i a)) (line (get_or a i d) ∷ []), append-nil)

  shorter : (i k : ℕ) → length (upto i) ≤ length (upto (i + k))
  shorter i k = rw (take-add i k a, map-append, joined-append (map line (take i a)) (map line (take k (drop i a))), length-append) (omega arith)

  shortest : (i : ℕ) → i ≤ length a → length (upto i) ≤ length (element_lines a)
  shortest i h = let e : i + (length a - i) ≡ length a = omega arith in let q = rw e at (shorter i (length a - i)) in rw (take_all (length a) a (omega arith)) at q

  pub record Writes (before out : List ℕ) (at i : ℕ) : Type 0 where
    pub near : i ≤ length a
    pub room : length (element_lines a) ≤ length before
    pub so_far : Written (upto i) before at out

  pub writes-none : (before : List ℕ) → length (element_lines a) ≤ length before → Writes before before 0 0
  unfolding joined_lines
  writes-none before h = record { near = omega arith; room = h; so_far = (refl, refl) }

  module _ (before : List ℕ) {out : List ℕ} {at i : ℕ} (w : Writes before out at i) where
    module _ (x : A) (q : x ≡ get_or a i x) (h : i < length a) where
      line-more : upto (i + 1) ≡ upto i ++ line x
      line-more = next-line i x h ∙ ap (λ (y : A). upto i ++ line y) (sym q)

      fits_next : length (upto i ++ line x) ≤ length before
      fits_next =
          let l : length (upto (i + 1)) ≤ length before = omega (arith, w.room, shortest (i + 1) (omega arith)) in
          rw line-more at l

      pub writes-room : length (line x) ≤ length (take (length out - at) (drop at out))
      writes-room = second-room (upto i) before w.so_far (line x) fits_next

      pub writes-next : {r : ℕ} {after : List ℕ} → Written (line x) (take (length out - at) (drop at out)) r after → Writes before (take at out ++ (after ++ drop (length out - at) (drop at out))) (at + r) (i + 1)
      writes-next v =
          record {
            near = omega arith;
            room = w.room;
            so_far = rw line-more (written_both (upto i) before w.so_far (line x) fits_next v);
          }

    pub writes_end : length a ≤ i → Written (element_lines a) before at out
    writes_end h = let q = w.so_far in rw (take_all i a h) at q
