-- Turns and changes of a stored view, by the laws of pages. For any shelf.
use mathlib.Core.Path.{◌≡◌, refl, ap, ◌∙◌}
use mathlib.Core.Bool.{cond}
use mathlib.Core.List.{List, []}
use Prim.Native.Nat.{ℕ, ◌<◌, ◌≤◌}
use native.Mathlib.Omega.{arith}
use lib.ListN.{length, take, length-take}
use lib.Dec.{leb}
use lib.Seq.{slice}
use borrow.Author.Tests.{le-leb, lt-leb}
use Rattle.record.specs.declared.Edit.{Edit}
use Rattle.record.specs.declared.Field.{Field}
use Rattle.record.specs.declared.Schedule.{Schedule}
use Rattle.record.specs.Stored.{padded, filler_edit}
use Rattle.record.proofs.Padded.{slice-padded}
use Rattle.pages.specs.Pages as pages
use Rattle.pages.specs.Steps as steps
use Rattle.pages.proofs.Turns.{pages-turn, pages-change}
use Rattle.catalogue.specs.declared.Entry.{Entry}
use Rattle.catalogue.specs.declared.View.{View}
use Rattle.catalogue.specs.Shelves.{shelf, rows, stored_view, content_of, empty_view, shelf_view, schedule_of}
use Rattle.catalogue.specs.Changes.{ViewTurns, ViewChanges}
use Rattle.catalogue.proofs.Common.{opened-stored, pages-stored}

module _ (n places : ℕ) (place : Edit → ℕ) (cell : Field → ℕ) where
  abbrev K : pages.Shelf
  K = shelf n place cell

  -- the empty view is that of no edit
  pub view-empty : empty_view n places ≡ shelf_view n places place cell []
  unfolding pages.view_of pages.run pages.kept pages.empty_catalogue padded
  view-empty = refl

  -- a turn as the code makes it
  module _ (edits : List Edit) (opened page : ℕ) (view r : View n places) where
    pub turned_on : opened ≤ page → r ≡ stored_view (steps.forward K opened (slice opened page edits) (content_of view))
        → r ≡ stored_view (steps.turned_view K edits opened page (content_of view))
    unfolding steps.turned_view
    turned_on h e = rw (le-leb _ _ h) e

    pub turned-back : page < opened → r ≡ stored_view (steps.back K page (slice page opened edits) (content_of view))
        → r ≡ stored_view (steps.turned_view K edits opened page (content_of view))
    unfolding steps.turned_view
    turned-back h e = rw (lt-leb _ _ h) e

  -- the rows past a schedule's pages are not run
  turn-stored : (edits : List Edit) (opened page : ℕ) (view : pages.View (Entry n)) → opened ≤ length edits → page ≤ length edits
      → steps.turned_view K (padded rows filler_edit edits) opened page view ≡ steps.turned_view K edits opened page view
  unfolding steps.turned_view
  turn-stored edits opened page view h k =
      let a = slice-padded rows filler_edit opened page edits k in
      let b = slice-padded rows filler_edit page opened edits h in
      λ i. cond (leb opened page) (steps.forward K opened (a i) view) (steps.back K page (b i) view)

  pub view-turn-opens : (schedule : Schedule) (opened page : ℕ) (view r : View n places)
      → r ≡ stored_view (steps.turned_view K schedule.edits opened page (content_of view)) → ViewTurns n places place cell schedule opened page view r
  unfolding ViewTurns schedule_of
  view-turn-opens schedule opened page view r e edits room s h k v =
      e ∙ (λ i. stored_view (steps.turned_view K (s i).edits opened page (content_of (v i))))
      ∙ ap stored_view (turn-stored edits opened page (pages.view_of K places rows (take opened edits)) h k ∙ pages-turn K places rows edits opened page room h k)

  -- a change as the code makes it
  pub change-moves : (view w x : View n places) (old : Schedule) (opened : ℕ) (new : Schedule) (c : ℕ)
      → w ≡ stored_view (steps.back K c (slice c opened old.edits) (content_of view))
      → x ≡ stored_view (steps.forward K c (slice c new.count new.edits) (content_of w))
      → x ≡ stored_view (steps.rescheduled K (take opened old.edits) (take new.count new.edits) c (content_of view))
  unfolding steps.rescheduled
  change-moves view w x old opened new c hw hx = rw (hx, hw)

  pub change-opens : (view r : View n places) (old : Schedule) (opened : ℕ) (new : Schedule) (c : ℕ)
      → r ≡ stored_view (steps.rescheduled K (take opened old.edits) (take new.count new.edits) c (content_of view))
      → ViewChanges n places place cell old opened new c view r
  unfolding ViewChanges schedule_of
  change-opens view r old opened new c e edits news room size o s h same v =
      let before = opened-stored old edits opened o h in
      let after = pages-stored new news s in
      let fits : length (take opened edits) ≤ rows = omega (arith, length-take opened edits) in
      e ∙ (λ i. stored_view (steps.rescheduled K (before i) (after i) c (content_of (v i))))
      ∙ ap stored_view (pages-change K places rows (take opened edits) news c fits size same)
