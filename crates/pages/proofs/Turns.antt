-- Pages run, undone, turned and changed come to the view of the edits that are then open. For any number of places and rows and any kind of entry.
use mathlib.Core.Path.{◌≡◌, refl, sym, ap, ◌∙◌}
use mathlib.Core.List.{List, [], ◌∷◌, ◌++◌, append_assoc, append-nil}
use Prim.Native.Nat.{ℕ, suc, ◌+◌, ◌-◌, ◌≤◌, ◌<◌, min}
use native.Mathlib.Omega.{arith}
use native.Mathlib.Numerals.{add-one}
use native.Mathlib.Nat.{add-zero, add-suc, suc-add}
use lib.Dec.{leb}
use lib.ListN.{length, get_or, take, drop, length-append, length-take, length-drop, take-append-drop, drop_of_length-le}
use lib.Seq.{slice, slice-cons, length-slice, length-take-le, take_all, take-take, take-suc, drop-append-le}
use borrow.Author.Tests.{leb-true, leb-false}
use Rattle.lists.proofs.Lists.{by}
use Rattle.pages.specs.Pages.{Shelf, View, view_of}
use Rattle.pages.specs.Steps.{step_forward, step_back, forward, back, turned_view, rescheduled}
use Rattle.pages.proofs.Pages.{view-more, view-less}

-- the first rows up to one that is not past a later one
pub take-slice : {A : Type 0} (p q : ℕ) (l : List A) → p ≤ q → take p l ++ slice p q l ≡ take q l
take-slice p q l h = rw (← take-take p q l h) (take-append-drop p (take q l))

pub slice-end : {A : Type 0} (i t : ℕ) (l : List A) → t ≤ i → slice i t l ≡ []
slice-end i t l h = let k : length (take t l) ≤ i = omega (arith, length-take t l) in drop_of_length-le (take t l) k

slice_snoc : {A : Type 0} (f i : ℕ) (l : List A) (d : A) → f ≤ i → i < length l → slice f (suc i) l ≡ slice f i l ++ (get_or l i d ∷ [])
slice_snoc f i l d h k =
    let m : f ≤ length (take i l) = rw (length-take-le i l (omega arith)) h in
    ap (drop f) (take-suc l i d k) ∙ drop-append-le f (take i l) (get_or l i d ∷ []) m

module _ (K : Shelf) where
  back-snoc : (row : ℕ) (xs : List K.Edit) (x : K.Edit) (view : View K.Entry)
      → back K row (xs ++ (x ∷ [])) view ≡ back K row xs (step_back K (row + length xs) x view)
  unfolding back
  back-snoc row [] x view = rw add-zero
  back-snoc row (y ∷ xs) x view = rw (add-suc, ← suc-add row) (ap (step_back K row y) (back-snoc (suc row) xs x view))

  -- the loops' turns: one page more, one page less
  module _ (es : List K.Edit) (d : K.Edit) (w x : View K.Entry) where
    pub forward-more : (i t : ℕ) → i < t → t ≤ length es → x ≡ step_forward K i (get_or es i d) w
        → forward K i (slice i t es) w ≡ forward K (i + 1) (slice (i + 1) t es) x
    unfolding forward
    forward-more i t h l e = rw (slice-cons i t es d h l, add-one, e)

    pub back_more : (f i : ℕ) → f < i → i ≤ length es → x ≡ step_back K (i - 1) (get_or es (i - 1) d) w
        → back K f (slice f i es) w ≡ back K f (slice f (i - 1) es) x
    back_more f i h l e =
        let a : i ≡ suc (i - 1) = omega arith in
        let m : f ≤ i - 1 = omega arith in
        let k : i - 1 < length es = omega arith in
        let n : f + length (slice f (i - 1) es) ≡ i - 1 = omega (arith, length-slice f (i - 1) es (omega arith)) in
        ap (λ (j : ℕ). back K f (slice f j es) w) a
        ∙ ap (λ (l : List K.Edit). back K f l w) (slice_snoc f (i - 1) es d m k)
        ∙ back-snoc f (slice f (i - 1) es) (get_or es (i - 1) d) w
        ∙ ap (λ (j : ℕ). back K f (slice f (i - 1) es) (step_back K j (get_or es (i - 1) d) w)) n
        ∙ ap (back K f (slice f (i - 1) es)) (sym e)

  pub forward-end : (es : List K.Edit) (w : View K.Entry) (i t : ℕ) → t ≤ i → forward K i (slice i t es) w ≡ w
  unfolding forward
  forward-end es w i t h = rw (slice-end i t es h)

  pub back_end : (es : List K.Edit) (w : View K.Entry) (f i : ℕ) → i ≤ f → back K f (slice f i es) w ≡ w
  unfolding back
  back_end es w f i h = rw (slice-end f i es h)

  module _ (places rows : ℕ) where
    -- Pages run come to the view of all the edits.
    pub view-forward : (xs ys : List K.Edit) → length xs + length ys ≤ rows
        → forward K (length xs) ys (view_of K places rows xs) ≡ view_of K places rows (xs ++ ys)
    unfolding forward
    view-forward xs [] h = rw append-nil
    view-forward xs (y ∷ ys) h =
        let l : length (xs ++ (y ∷ [])) ≡ suc (length xs) = length-append xs (y ∷ []) ∙ omega arith in
        let r : length (xs ++ (y ∷ [])) + length ys ≤ rows = omega arith in
        rw (view-more K places rows xs y (omega arith), ← l) (view-forward (xs ++ (y ∷ [])) ys r ∙ ap (view_of K places rows) (append_assoc xs (y ∷ []) ys))

    -- Undone by the journal they leave the view of the edits before them.
    pub view-back : (xs ys : List K.Edit) → length xs + length ys ≤ rows
        → back K (length xs) ys (view_of K places rows (xs ++ ys)) ≡ view_of K places rows xs
    unfolding back
    view-back xs [] h = rw append-nil
    view-back xs (y ∷ ys) h =
        let l : length (xs ++ (y ∷ [])) ≡ suc (length xs) = length-append xs (y ∷ []) ∙ omega arith in
        let r : length (xs ++ (y ∷ [])) + length ys ≤ rows = omega arith in
        let e : back K (suc (length xs)) ys (view_of K places rows (xs ++ (y ∷ ys))) ≡ view_of K places rows (xs ++ (y ∷ []))
        = rw (← l, ← append_assoc xs (y ∷ []) ys) (view-back (xs ++ (y ∷ [])) ys r) in
        rw e (view-less K places rows xs y (omega arith))

    -- from page to page of one row of edits
    module _ (es : List K.Edit) (room : length es ≤ rows) (p q : ℕ) (h : p ≤ q) (k : q ≤ length es) where
      pub pages-forward : forward K p (slice p q es) (view_of K places rows (take p es)) ≡ view_of K places rows (take q es)
      pages-forward =
          let a : length (take p es) ≡ p = length-take-le p es (omega arith) in
          let b : length (slice p q es) ≡ q - p = length-slice p q es k in
          let r : length (take p es) + length (slice p q es) ≤ rows = omega arith in
          ap (λ (row : ℕ). forward K row (slice p q es) (view_of K places rows (take p es))) (sym a)
          ∙ view-forward (take p es) (slice p q es) r ∙ ap (view_of K places rows) (take-slice p q es h)

      pub pages-back : back K p (slice p q es) (view_of K places rows (take q es)) ≡ view_of K places rows (take p es)
      pages-back =
          let a : length (take p es) ≡ p = length-take-le p es (omega arith) in
          let b : length (slice p q es) ≡ q - p = length-slice p q es k in
          let r : length (take p es) + length (slice p q es) ≤ rows = omega arith in
          sym (λ i. back K (a i) (slice p q es) (view_of K places rows (take-slice p q es h i))) ∙ view-back (take p es) (slice p q es) r

    -- A turn from one open page to another comes to the view at that page.
    pub pages-turn : (es : List K.Edit) (p q : ℕ) → length es ≤ rows → p ≤ length es → q ≤ length es
        → turned_view K es p q (view_of K places rows (take p es)) ≡ view_of K places rows (take q es)
    unfolding turned_view
    pages-turn es p q room h k =
        by (leb p q) (λ e. rw e (pages-forward es room p q (leb-true p q e) k))
        (λ e. let l : q < p = leb-false p q e in rw e (pages-back es room q p (omega arith) h))

    -- A change goes back to a common beginning of c pages and on, and comes to the view of the new edits.
    change-within : (opened new : List K.Edit) (c : ℕ) → length opened ≤ rows → length new ≤ rows → c ≤ length opened → c ≤ length new
        → take c opened ≡ take c new → rescheduled K opened new c (view_of K places rows opened) ≡ view_of K places rows new
    unfolding rescheduled
    change-within opened new c r s h k e =
        let a : length (take c opened) ≡ c = length-take-le c opened h in
        let b : length (take c new) ≡ c = length-take-le c new k in
        let f : length (take c opened) + length (drop c opened) ≤ rows = omega (arith, length-drop c opened) in
        let g : length (take c new) + length (drop c new) ≤ rows = omega (arith, length-drop c new) in
        let undone : back K c (drop c opened) (view_of K places rows opened) ≡ view_of K places rows (take c new)
        = sym (λ i. back K (a i) (drop c opened) (view_of K places rows (take-append-drop c opened i))) ∙ view-back (take c opened) (drop c opened) f
        ∙ ap (view_of K places rows) e in
        ap (forward K c (drop c new)) undone
        ∙ ap (λ (row : ℕ). forward K row (drop c new) (view_of K places rows (take c new))) (sym b)
        ∙ view-forward (take c new) (drop c new) g ∙ ap (view_of K places rows) (take-append-drop c new)

    -- The same without the bounds: rows that have more pages in common than one of them has are one.
    pub pages-change : (opened new : List K.Edit) (c : ℕ) → length opened ≤ rows → length new ≤ rows → take c opened ≡ take c new
        → rescheduled K opened new c (view_of K places rows opened) ≡ view_of K places rows new
    unfolding rescheduled forward back
    pages-change opened new c r s e =
        let m : min c (length opened) ≡ min c (length new) = sym (length-take c opened) ∙ (ap length e ∙ length-take c new) in
        by (leb c (length opened))
        (λ t. let h : c ≤ length opened = leb-true _ _ t in change-within opened new c r s h (omega arith) e)
        (λ t. let h : length opened < c = leb-false _ _ t in
        let k : length new ≤ c = omega arith in
        let one : opened ≡ new = sym (take_all c opened (omega arith)) ∙ (e ∙ take_all c new k) in
        let n : length opened ≤ c = omega arith in
        rw (drop_of_length-le new k, drop_of_length-le opened n, one) refl)
