-- What holds of each element of a list, and that edits whose numbers fit 32 bits make entries whose values do. Assumes nothing.
use mathlib.Core.Path.{◌≡◌, refl, ◌∙◌}
use mathlib.Core.Bool.{Bool, true, false, cond}
use mathlib.Core.Logic.{inl, inr}
use mathlib.Core.List.{List, [], ◌∷◌, ◌++◌}
use Prim.Native.Nat.{ℕ, zero, suc, ◌-◌, ◌≤◌, ◌<◌}
use native.Mathlib.Omega.{arith}
use lib.ListN.{length, get_or, take, set, replicate, length-set, length-replicate}
use Rattle.lists.specs.Lists.{Has}
use Rattle.lists.proofs.Logic.{has-append-by}
use Rattle.record.specs.declared.Body.{Body}
use Rattle.record.specs.declared.Body.TheVariants.{Insert, Set, Remove}
use Rattle.record.specs.declared.Edit.{Edit}
use Rattle.record.specs.Stored.{padded}
use Rattle.record_rows.specs.row.Row.{field_number, body_cells, edit_row}
use Rattle.pages.specs.Pages.{touched, run_edit, run, kept, empty_catalogue, view_of}
use Rattle.std.specs.Prelude.{Option, Some, None}
use Rattle.catalogue.specs.declared.Entry.{Entry}
use Rattle.catalogue.specs.Entries.{place_of, absent_entry, run_body}
use Rattle.catalogue.specs.Shelves.{rows}
use Rattle.catalogue.specs.Chips.{cells, places, chips, chips_view}
use Rattle.log_bounds.proofs.Sizes.{ValueFits, SmallEdit, SmallEntry}

module _ {A : Type 0} (P : A → Type 0) where
  abbrev pub EachMember : List A → Type 0
  EachMember l = (x : A) → Has x l → P x

  pub each_take : (n : ℕ) (l : List A) → EachMember l → EachMember (take n l)
  each_take zero l f x m = absurd m
  each_take (suc n) [] f x m = absurd m
  each_take (suc n) (y ∷ l) f x (inl e) = f x (inl e)
  each_take (suc n) (y ∷ l) f x (inr m) = each_take n l (λ z w. f z (inr w)) x m

  pub each-filled : (n : ℕ) (d : A) → P d → EachMember (replicate n d)
  each-filled zero d p x m = absurd m
  each-filled (suc n) d p x (inl e) = rw e p
  each-filled (suc n) d p x (inr m) = each-filled n d p x m

  pub each_both : (s t : List A) → EachMember s → EachMember t → EachMember (s ++ t)
  each_both s t f g x m = has-append-by x s t m (f x) (g x)

  pub each_at : (l : List A) (i : ℕ) (d : A) → EachMember l → P d → P (get_or l i d)
  each_at [] i d f p = p
  each_at (y ∷ l) zero d f p = f y (inl refl)
  each_at (y ∷ l) (suc i) d f p = each_at l i d (λ z w. f z (inr w)) p

  each_set : (l : List A) (i : ℕ) (v : A) → EachMember l → P v → EachMember (set l i v)
  each_set [] i v f p x m = absurd m
  each_set (y ∷ l) zero v f p x (inl e) = rw e p
  each_set (y ∷ l) zero v f p x (inr m) = f x (inr m)
  each_set (y ∷ l) (suc i) v f p x (inl e) = f x (inl e)
  each_set (y ∷ l) (suc i) v f p x (inr m) = each_set l i v (λ z w. f z (inr w)) p x m

blank-small : (entry : Entry cells) → entry.cells ≡ replicate cells None → SmallEntry entry
blank-small entry e = record {
  few = rw e (omega (arith, length-replicate {A = Option ℕ} cells None));
  values = rw e (each-filled ValueFits cells None tt);
}

absent-small : SmallEntry (absent_entry cells)
absent-small = blank-small (absent_entry cells) refl

either-small : (t : Bool) (a b : Entry cells) → SmallEntry a → SmallEntry b → SmallEntry (cond t a b)
either-small true a b p q = p
either-small false a b p q = q

-- one edit
body_run : (body : Body) → get_or (body_cells body) 3 0 < 4294967296 → (entry : Entry cells) → SmallEntry entry → SmallEntry (run_body cells field_number body entry)
body_run (Insert place) v entry s = either-small entry.present _ _ s (blank-small _ refl)
body_run (Set place field value) v entry s =
    either-small entry.present _ _
    (record {
      few = rw (length-set entry.cells (field_number field) (Some value)) s.few;
      values = each_set ValueFits entry.cells (field_number field) (Some value) s.values v;
    })
    s
body_run (Remove place) v entry s = absent-small

touched-small : (entries : List (Entry cells)) (e : Edit) → EachMember SmallEntry entries → SmallEntry (touched chips entries e)
unfolding touched
touched-small entries e g = each_at SmallEntry entries (place_of e.body) (absent_entry cells) g absent-small

edit-run : (entries : List (Entry cells)) (e : Edit) → SmallEdit e → EachMember SmallEntry entries → EachMember SmallEntry (run_edit chips entries e)
unfolding run_edit edit_row
edit-run entries e s g =
    each_set SmallEntry entries (place_of e.body) (run_body cells field_number e.body (touched chips entries e)) g (body_run e.body s.value (touched chips entries e) (touched-small entries e g))

-- and more
all-run : (entries : List (Entry cells)) (edits : List Edit) → EachMember SmallEdit edits → EachMember SmallEntry entries → EachMember SmallEntry (run chips entries edits)
unfolding run
all-run entries [] f g = g
all-run entries (e ∷ edits) f g = all-run (run_edit chips entries e) edits (λ x m. f x (inr m)) (edit-run entries e (f e (inl refl)) g)

all-kept : (entries : List (Entry cells)) (edits : List Edit) → EachMember SmallEdit edits → EachMember SmallEntry entries → EachMember SmallEntry (kept chips entries edits)
unfolding kept
all-kept entries [] f g x m = absurd m
all-kept entries (e ∷ edits) f g x (inl q) = rw q (touched-small entries e g)
all-kept entries (e ∷ edits) f g x (inr m) = all-kept (run_edit chips entries e) edits (λ y w. f y (inr w)) (edit-run entries e (f e (inl refl)) g) x m

length_run : (entries : List (Entry cells)) (edits : List Edit) → length (run chips entries edits) ≡ length entries
unfolding run run_edit
length_run entries [] = refl
length_run entries (e ∷ edits) = length_run (run_edit chips entries e) edits ∙ length-set entries (place_of e.body) (run_body cells field_number e.body (touched chips entries e))

-- what open edits make
module _ (edits : List Edit) (small : EachMember SmallEdit edits) where
  empty-small : EachMember SmallEntry (empty_catalogue chips places)
  unfolding empty_catalogue
  empty-small = each-filled SmallEntry places (absent_entry cells) absent-small

  pub entries-small : EachMember SmallEntry (chips_view edits).catalogue.entries
  unfolding chips_view view_of
  entries-small = all-run (empty_catalogue chips places) edits small empty-small

  pub entries-few : length (chips_view edits).catalogue.entries ≤ 64
  unfolding chips_view view_of empty_catalogue
  entries-few = omega (arith, length_run (replicate places (absent_entry cells)) edits, length-replicate places (absent_entry cells))

  pub journal-small : (i : ℕ) → SmallEntry (get_or (chips_view edits).journal.rows i (absent_entry cells))
  unfolding chips_view view_of padded
  journal-small i =
      let k = kept chips (empty_catalogue chips places) edits in
      each_at SmallEntry (padded rows (absent_entry cells) k) i (absent_entry cells)
      (each_both SmallEntry k (replicate (rows - length k) (absent_entry cells)) (all-kept (empty_catalogue chips places) edits small empty-small) (each-filled SmallEntry (rows - length k) (absent_entry cells) absent-small)) absent-small
