-- The loops over pages: a turn of each, as code writes it. For any number of places and rows and any kind of entry.
use mathlib.Core.Path.{◌≡◌, sym, ap, ◌∙◌}
use mathlib.Core.List.{List}
use Prim.Native.Nat.{ℕ, ◌+◌, ◌-◌, ◌<◌, ◌≤◌, min}
use native.Mathlib.Omega.{arith}
use lib.ListN.{length, get_or, set, drop, length-set}
use lib.Seq.{slice}
use Rattle.lists.proofs.Arrays.{get_or-any, take-least}
use Rattle.pages.specs.Pages.{Shelf, View, touched, run_edit}
use Rattle.pages.specs.Steps.{step_forward, step_back, forward, back}
use Rattle.pages.proofs.Turns.{forward-more, back_more, forward-end, back_end}

-- what is left to run: the view comes to the same as the view at the start
pub record LeftToRun (K : Shelf) (edits : List K.Edit) (from to : ℕ) (start : View K.Entry) (page : ℕ) (view : View K.Entry) : Type 0 where
  pub rest : forward K from (slice from to edits) start ≡ forward K page (slice page to edits) view

-- what is left to undo, with a row for each page
pub record Undoing (K : Shelf) (rows : ℕ) (edits : List K.Edit) (to from : ℕ) (start : View K.Entry) (page : ℕ) (view : View K.Entry) : Type 0 where
  pub size : length view.journal ≡ rows
  pub within : page ≤ rows
  pub rest : back K to (slice to from edits) start ≡ back K to (slice to page edits) view

module _ (K : Shelf) (rows : ℕ) (edits : List K.Edit) (d : K.Edit) (start view : View K.Entry) (from to page : ℕ) (made : List K.Entry) (entry : K.Entry) where
  pub run-more : LeftToRun K edits from to start page view → page < to → to ≤ length edits
      → made ≡ run_edit K view.catalogue (get_or edits page d) → entry ≡ touched K view.catalogue (get_or edits page d)
      → LeftToRun K edits from to start (page + 1) (record { catalogue = made; journal = set view.journal page entry })
  unfolding step_forward
  run-more run test room m t =
      record { rest = run.rest ∙ forward-more K edits d view _ page to test room (λ i. record { catalogue = m i; journal = set view.journal page (t i) }) }

  pub undo-more : (place : ℕ) (e : K.Entry) → Undoing K rows edits to from start page view → to < page → page ≤ length edits
      → place ≡ K.place (get_or edits (page - 1) d) → made ≡ set view.catalogue place (get_or view.journal (page - 1) e) → entry ≡ K.absent
      → Undoing K rows edits to from start (page - 1) (record { catalogue = made; journal = set view.journal (page - 1) entry })
  unfolding step_back
  undo-more place e undo test room at m b = record {
    size = simp length-set undo.size;
    within = omega (arith, undo.within);
    rest = undo.rest ∙ back_more K edits d view _ to page test room (λ i. record { catalogue = entries i; journal = set view.journal (page - 1) (b i) });
  }
    where
      entries : made ≡ set view.catalogue (K.place (get_or edits (page - 1) d)) (get_or view.journal (page - 1) K.absent)
      entries = m ∙ (λ i. set view.catalogue (at i) (get_or-any view.journal (page - 1) e K.absent (omega (arith, undo.size, undo.within)) i))

-- after the loop, with the end or the start cut off at the last row
module _ (K : Shelf) (rows : ℕ) (edits : List K.Edit) (room : length edits ≡ rows) (start view : View K.Entry) (from to page cut : ℕ) where
  pub pages-run-end : LeftToRun K edits from cut start page view → cut ≤ page → cut ≡ min to rows → view ≡ forward K from (slice from to edits) start
  pages-run-end run h e =
      sym (forward-end K edits view page cut h) ∙ sym run.rest
      ∙ ap (λ l. forward K from (drop from l) start) (rw e (take-least to rows edits room))

  pub undo-end : Undoing K rows edits to cut start page view → page ≤ to → cut ≡ min from rows → view ≡ back K to (slice to from edits) start
  undo-end undo h e =
      sym (back_end K edits view to page h) ∙ sym undo.rest
      ∙ ap (λ l. back K to (drop to l) start) (rw e (take-least from rows edits room))
