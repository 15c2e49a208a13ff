-- Document 01, "Entries and pages": pages run and pages undone by the journal, a turn, and a change. Page q has row q - 1 of the journal, counted
-- from 0. Assumes nothing.
use Rattle.std.specs.Prelude.{◌≡◌, cond, List, [], ◌∷◌, ℕ, suc, ◌<◌, eqb, leb, length, get_or, set, drop}
use Rattle.std.proofs.Math.Seq.{slice}
use Rattle.pages.specs.Pages.{Shelf, View, touched, run_edit}

module _ (K : Shelf) where
  -- the row keeps the touched entry, and the edit runs
  unfoldable pub step_forward : ℕ → K.Edit → View K.Entry → View K.Entry
  step_forward row edit view = record {
    catalogue = run_edit K view.catalogue edit;
    journal = set view.journal row (touched K view.catalogue edit);
  }

  -- the row's entry comes back to its place, and the row holds an absent entry again
  unfoldable pub step_back : ℕ → K.Edit → View K.Entry → View K.Entry
  step_back row edit view = record {
    catalogue = set view.catalogue (K.place edit) (get_or view.journal row K.absent);
    journal = set view.journal row K.absent;
  }

  -- the edits of pages run, the first at the row
  unfoldable pub forward : ℕ → List K.Edit → View K.Entry → View K.Entry
  forward row [] view = view
  forward row (edit ∷ edits) view = forward (suc row) edits (step_forward row edit view)

  -- the same pages undone, the last one first
  unfoldable pub back : ℕ → List K.Edit → View K.Entry → View K.Entry
  back row [] view = view
  back row (edit ∷ edits) view = step_back row edit (back (suc row) edits view)

  -- a turn from one open page to another
  unfoldable pub turned_view : List K.Edit → ℕ → ℕ → View K.Entry → View K.Entry
  turned_view edits opened page view =
      cond (leb opened page) (forward opened (slice opened page edits) view) (back page (slice page opened edits) view)

  -- a change from the open edits to new ones: back to the common beginning of c pages, and on
  unfoldable pub rescheduled : List K.Edit → List K.Edit → ℕ → View K.Entry → View K.Entry
  rescheduled opened new c view = forward c (drop c new) (back c (drop c opened) view)

-- how many pages two rows of names have in common at their beginning
unfoldable pub common_beginning : List ℕ → List ℕ → ℕ
common_beginning [] new = 0
common_beginning (x ∷ old) [] = 0
common_beginning (x ∷ old) (y ∷ new) = cond (eqb x y) (suc (common_beginning old new)) 0

-- Where the two rows have one name at one page, they have one edit there.
unfoldable pub Agree : {A : Type 0} → (A → ℕ) → List A → List A → Type 0
Agree {A} name old new = (q : ℕ) (d : A) → q < length old → q < length new → name (get_or old q d) ≡ name (get_or new q d) → get_or old q d ≡ get_or new q d
