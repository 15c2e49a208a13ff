-- Document 01, "Entries and pages": what the open pages make, for any number of places and any kind of entry. Assumes nothing.
use Rattle.std.specs.Prelude.{List, [], ◌∷◌, ℕ, get_or, set, replicate}
use Rattle.record.specs.Stored.{padded}

-- A kind of entry: its edits, the absent entry, the place that an edit touches and what the edit makes of the entry there. An edit that
-- touches none of the places has a place past the last.
pub record Shelf : Type 1 where
  pub Edit : Type 0
  pub Entry : Type 0
  pub absent : Entry
  pub place : Edit → ℕ
  pub action : Edit → Entry → Entry

pub record View (Entry : Type 0) : Type 0 where
  pub catalogue : List Entry
  pub journal : List Entry

module _ (K : Shelf) where
  unfoldable pub touched : List K.Entry → K.Edit → K.Entry
  touched catalogue edit = get_or catalogue (K.place edit) K.absent

  unfoldable pub run_edit : List K.Entry → K.Edit → List K.Entry
  run_edit catalogue edit = set catalogue (K.place edit) (K.action edit (touched catalogue edit))

  -- the edits run one after the other
  unfoldable pub run : List K.Entry → List K.Edit → List K.Entry
  run catalogue [] = catalogue
  run catalogue (edit ∷ edits) = run (run_edit catalogue edit) edits

  -- the touched entries, each as it was before its edit ran
  unfoldable pub kept : List K.Entry → List K.Edit → List K.Entry
  kept catalogue [] = []
  kept catalogue (edit ∷ edits) = touched catalogue edit ∷ kept (run_edit catalogue edit) edits

  unfoldable pub empty_catalogue : ℕ → List K.Entry
  empty_catalogue places = replicate places K.absent

  -- THE VIEW that open edits make: running them gives the catalogue; of the journal's rows, row q holds the touched entry as it was before
  -- the q-th edit ran, and later rows hold an absent entry.
  unfoldable pub view_of : ℕ → ℕ → List K.Edit → View K.Entry
  view_of places rows edits = record {
    catalogue = run (empty_catalogue places) edits;
    journal = padded rows K.absent (kept (empty_catalogue places) edits);
  }
