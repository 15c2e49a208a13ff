-- Absent entries have blank cells, whatever edits ran. For any shelf.
use mathlib.Core.Path.{◌≡◌, refl, sym, ◌∙◌}
use mathlib.Core.Bool.{Bool, true, false, cond}
use mathlib.Core.List.{List, [], ◌∷◌}
use Prim.Native.Nat.{ℕ, ◌<◌, ◌≤◌}
use native.Mathlib.Omega.{arith}
use lib.Dec.{eqb, leb}
use lib.ListN.{length, get_or, set}
use lib.Seq.{get_or-set_same, get_or-set_other, set_out}
use borrow.Author.Tests.{eqb-true, eqb-false, leb-true, leb-false}
use Rattle.record.specs.declared.Body.{Body}
use Rattle.record.specs.declared.Body.TheVariants.{Insert, Set, Remove}
use Rattle.record.specs.declared.Edit.{Edit}
use Rattle.record.specs.declared.Field.{Field}
use Rattle.lists.proofs.Lists.{by}
use Rattle.lists.proofs.Arrays.{get_or-filled}
use Rattle.pages.specs.Pages as pages
use Rattle.pages.specs.Pages.{touched, run_edit, run, empty_catalogue}
use Rattle.catalogue.specs.declared.Entry.{Entry}
use Rattle.catalogue.specs.Entries.{absent_entry, run_body}
use Rattle.catalogue.specs.Shelves.{shelf}

module _ (n : ℕ) where
  abbrev Blank : Entry n → Type 0
  Blank entry = entry.present ≡ false → entry ≡ absent_entry n

  present-blank : (entry : Entry n) → entry.present ≡ true → Blank entry
  present-blank entry p q = let z : ◌≡◌ {A = Bool} true false = sym p ∙ q in let e : ◌≡◌ {A = ℕ} 0 1 = cc in absurd (omega arith)

  either : (t : Bool) (a b : Entry n) → (t ≡ true → Blank a) → (t ≡ false → Blank b) → Blank (cond t a b)
  either true a b f g = f refl
  either false a b f g = g refl

  blank-run : (cell : Field → ℕ) (body : Body) (entry : Entry n) → Blank entry → Blank (run_body n cell body entry)
  blank-run cell (Insert place) entry b = either entry.present _ _ (λ e. b) (λ e. present-blank _ refl)
  blank-run cell (Set place field value) entry b = either entry.present _ _ (λ e. present-blank _ refl) (λ e. b)
  blank-run cell (Remove place) entry b = λ e. refl

  -- at each place
  abbrev Blanks : List (Entry n) → Type 0
  Blanks entries = (place : ℕ) → Blank (get_or entries place (absent_entry n))

  blanks-set : (entries : List (Entry n)) (i : ℕ) (entry : Entry n) → Blanks entries → Blank entry → Blanks (set entries i entry)
  blanks-set entries i entry b e place =
      by (leb (length entries) i)
      (λ h. let k : length entries ≤ i = leb-true _ _ h in rw (set_out entries i entry k) (b place))
      (λ h. let k : i < length entries = leb-false _ _ h in
      by (eqb place i)
      (λ q. rw (eqb-true place i q, get_or-set_same entries i entry (absent_entry n) k) e)
      (λ q. rw (get_or-set_other entries i place entry (absent_entry n) (eqb-false place i q)) (b place)))

  module _ (at : Edit → ℕ) (cell : Field → ℕ) where
    abbrev K : pages.Shelf
    K = shelf n at cell

    blanks-run : (entries : List (Entry n)) (edits : List Edit) → Blanks entries → Blanks (run K entries edits)
    unfolding run run_edit touched
    blanks-run entries [] b = b
    blanks-run entries (edit ∷ edits) b =
        blanks-run (run_edit K entries edit) edits
        (blanks-set entries (at edit) _ b (blank-run cell edit.body (get_or entries (at edit) (absent_entry n)) (b (at edit))))

    pub absent-blank : (places place : ℕ) (edits : List Edit) → (get_or (run K (empty_catalogue K places) edits) place (absent_entry n)).present ≡ false
        → get_or (run K (empty_catalogue K places) edits) place (absent_entry n) ≡ absent_entry n
    unfolding empty_catalogue
    absent-blank places place edits = blanks-run (empty_catalogue K places) edits (λ p e. get_or-filled (absent_entry n) places p) place
