-- The entry that an edit touches, as code finds it: at the edit's place where the shelf has it, and else absent, with nothing changed. For any number
-- of places and any kind of entry.
use mathlib.Core.Path.{◌≡◌}
use mathlib.Core.List.{List}
use Prim.Native.Nat.{ℕ, ◌<◌, ◌≤◌}
use lib.ListN.{length, get_or, set, get_or-eq_default}
use lib.Seq.{set_out}
use Rattle.lists.proofs.Arrays.{get_or-any}
use Rattle.pages.specs.Pages.{Shelf, touched, run_edit}

module _ (K : Shelf) (entries : List K.Entry) (edit : K.Edit) (place : ℕ) (at : place ≡ K.place edit) where
  pub touched-within : (d : K.Entry) → place < length entries → get_or entries place d ≡ touched K entries edit
  unfolding touched
  touched-within d h = rw (get_or-any entries place d K.absent h, at)

  pub touched-past : length entries ≤ place → K.absent ≡ touched K entries edit
  unfolding touched
  touched-past h = rw (← at, get_or-eq_default entries K.absent h)

  pub ran-within : (d made : K.Entry) → place < length entries → made ≡ K.action edit (get_or entries place d)
      → set entries place made ≡ run_edit K entries edit
  unfolding run_edit
  ran-within d made h e = rw (e, touched-within d h, at)

  pub ran-past : length entries ≤ place → entries ≡ run_edit K entries edit
  unfolding run_edit
  ran-past h = rw (← at, set_out entries place (K.action edit (touched K entries edit)) h)
