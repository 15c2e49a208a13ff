-- What the open pages make: the journal's rows, one page more, and a page run and undone. For any number of places and rows and any kind of entry.
use mathlib.Core.Path.{◌≡◌, refl, sym, ap, ◌∙◌}
use mathlib.Core.List.{List, [], ◌∷◌, ◌++◌}
use Prim.Native.Nat.{ℕ, zero, suc, ◌≤◌, ◌<◌, suc-le-suc}
use native.Mathlib.Omega.{arith}
use lib.ListN.{length, get_or, set, take}
use lib.Seq.{get_or-set_same, set-set, set-get_or}
use Rattle.record.specs.Stored.{padded}
use Rattle.pages.specs.Pages.{Shelf, View, touched, run_edit, run, kept, empty_catalogue, view_of}
use Rattle.pages.specs.Steps.{step_forward, step_back}
use Rattle.record.proofs.Padded.{length-padded, padded-more, get_or-padded, padded-past}

module _ (K : Shelf) where
  pub run-append : (c : List K.Entry) (xs ys : List K.Edit) → run K c (xs ++ ys) ≡ run K (run K c xs) ys
  unfolding run
  run-append c [] ys = refl
  run-append c (x ∷ xs) ys = run-append (run_edit K c x) xs ys

  pub kept_append : (c : List K.Entry) (xs ys : List K.Edit) → kept K c (xs ++ ys) ≡ kept K c xs ++ kept K (run K c xs) ys
  unfolding kept run
  kept_append c [] ys = refl
  kept_append c (x ∷ xs) ys = ap (λ l. touched K c x ∷ l) (kept_append (run_edit K c x) xs ys)

  pub length-kept : (c : List K.Entry) (xs : List K.Edit) → length (kept K c xs) ≡ length xs
  unfolding kept
  length-kept c [] = refl
  length-kept c (x ∷ xs) = ap suc (length-kept (run_edit K c x) xs)

  -- the entry that the edit at a place of the row touched
  pub kept_at : (c : List K.Entry) (xs : List K.Edit) (i : ℕ) (d : K.Entry) (e : K.Edit) → i < length xs
      → get_or (kept K c xs) i d ≡ touched K (run K c (take i xs)) (get_or xs i e)
  unfolding kept run
  kept_at c [] i d e h = elim h [ ]
  kept_at c (x ∷ xs) zero d e h = refl
  kept_at c (x ∷ xs) (suc i) d e (suc-le-suc h) = kept_at (run_edit K c x) xs i d e h

  -- Undo after run is the same view, where the row held an absent entry.
  pub step-undone : (row : ℕ) (edit : K.Edit) (view : View K.Entry) → row < length view.journal → get_or view.journal row K.absent ≡ K.absent
      → step_back K row edit (step_forward K row edit view) ≡ view
  unfolding step_back step_forward run_edit touched
  step-undone row edit view h z =
      let old = get_or view.catalogue (K.place edit) K.absent in
      let entries : set (set view.catalogue (K.place edit) (K.action edit old)) (K.place edit) (get_or (set view.journal row old) row K.absent) ≡ view.catalogue
      = simp (get_or-set_same, set-set, set-get_or) in
      let rows : set (set view.journal row old) row K.absent ≡ view.journal
      = set-set view.journal row old K.absent ∙ ap (set view.journal row) (sym z) ∙ set-get_or view.journal row K.absent in
      λ i. record { catalogue = entries i; journal = rows i }

  module _ (places rows : ℕ) where
    -- the catalogue is the fold of the open edits, by definition
    pub catalogue-of : (xs : List K.Edit) → (view_of K places rows xs).catalogue ≡ run K (empty_catalogue K places) xs
    unfolding view_of
    catalogue-of xs = refl

    pub length-journal : (xs : List K.Edit) → length xs ≤ rows → length (view_of K places rows xs).journal ≡ rows
    unfolding view_of
    length-journal xs h = length-padded rows K.absent (kept K (empty_catalogue K places) xs) (rw length-kept h)

    -- row q, counted from 0, of an open page: the touched entry before that edit ran
    pub journal-row : (xs : List K.Edit) (q : ℕ) (e : K.Edit) → q < length xs
        → get_or (view_of K places rows xs).journal q K.absent ≡ touched K (run K (empty_catalogue K places) (take q xs)) (get_or xs q e)
    unfolding view_of
    journal-row xs q e h =
        get_or-padded rows K.absent (kept K (empty_catalogue K places) xs) q K.absent (rw length-kept h)
        ∙ kept_at (empty_catalogue K places) xs q K.absent e h

    -- later rows hold an absent entry
    pub journal-later : (xs : List K.Edit) (q : ℕ) → length xs ≤ q → get_or (view_of K places rows xs).journal q K.absent ≡ K.absent
    unfolding view_of
    journal-later xs q h = padded-past rows K.absent (kept K (empty_catalogue K places) xs) q (rw length-kept h)

    -- one page more
    pub view-more : (xs : List K.Edit) (x : K.Edit) → length xs < rows
        → step_forward K (length xs) x (view_of K places rows xs) ≡ view_of K places rows (xs ++ (x ∷ []))
    unfolding view_of step_forward run kept
    view-more xs x h =
        let c = run K (empty_catalogue K places) xs in
        let l : length (kept K (empty_catalogue K places) xs) < rows = rw length-kept h in
        let entries : run_edit K c x ≡ run K (empty_catalogue K places) (xs ++ (x ∷ [])) = sym (run-append (empty_catalogue K places) xs (x ∷ [])) in
        let journal : set (padded rows K.absent (kept K (empty_catalogue K places) xs)) (length xs) (touched K c x)
        ≡ padded rows K.absent (kept K (empty_catalogue K places) (xs ++ (x ∷ [])))
        = rw (kept_append (empty_catalogue K places) xs (x ∷ []), ← padded-more rows K.absent (kept K (empty_catalogue K places) xs) (touched K c x) l, length-kept (empty_catalogue K places) xs) in
        λ i. record { catalogue = entries i; journal = journal i }

    -- and that page undone
    pub view-less : (xs : List K.Edit) (x : K.Edit) → length xs < rows
        → step_back K (length xs) x (view_of K places rows (xs ++ (x ∷ []))) ≡ view_of K places rows xs
    view-less xs x h =
        let l : length (view_of K places rows xs).journal ≡ rows = length-journal xs (omega arith) in
        rw (← view-more xs x h) (step-undone (length xs) x (view_of K places rows xs) (rw l h) (journal-later xs (length xs) (omega arith)))
