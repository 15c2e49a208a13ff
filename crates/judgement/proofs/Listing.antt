-- A row of indexes as the edits of a stored schedule. Assumes nothing.
use mathlib.Core.Path.{◌≡◌, refl, sym, ap, ◌∙◌}
use mathlib.Core.Bool.{true, not}
use mathlib.Core.List.{List, [], ◌∷◌, ◌++◌, map, map-append}
use Prim.Native.Nat.{ℕ, zero, suc, ◌+◌, ◌-◌, ◌≤◌, ◌<◌}
use native.Mathlib.Omega.{arith}
use lib.ListN.{length, get_or, take, drop, set, replicate, length-drop, length-map}
use lib.Seq.{take-suc, take_all, get_or-drop, length-take-le}
use borrow.Author.Tests.{eq-eqb, ne_eqb, not-true}
use Rattle.record.specs.declared.Edit.{Edit}
use Rattle.record.specs.declared.Record as declared
use Rattle.record.specs.declared.Schedule.{Schedule}
use Rattle.lists.specs.Lists.{mem, ◌among◌, distinct}
use Rattle.record.specs.Record.{Record, name_of, names, written}
use Rattle.record.specs.Stored.{padded, filler_edit, stored, edit_named}
use Rattle.record.specs.Schedule.{scheduled, schedule}
use Rattle.lists.proofs.Lists.{clash, and_l, and_r, get_or-mapped}
use Rattle.record.proofs.Padded.{padded-more}
use Rattle.record.proofs.Order.{order-placed, order-starts}
use Rattle.record.proofs.Judged.{init-must}
use Rattle.record.proofs.Scheduled.{musts-scheduled}
use Rattle.graph.specs.links.Marks.{name_at}
use Rattle.graph.proofs.links.Marks.{name-zero}
use Rattle.graph.proofs.links.Names.{get_or-among, place_same, ascending-distinct}
use Rattle.judgement_marks.specs.declared.row.Row.{Row}
use Rattle.judgement_marks.specs.schedules.Rows.{RowIs}
use Rattle.judgement_marks.proofs.schedules.Paging.{list_length, list_at}
use Rattle.graph.specs.indexes.Fit.{Fit}
use Rattle.graph.proofs.indexes.Tables.{length-names, names-few, edit-at, name-at}
use Rattle.judgement.specs.Judged.{scheduled_edits, stored_schedule}

pub edit-named : (l : List Edit) (i : ℕ) (d : Edit) → distinct (map name_of l) ≡ true → i < length l → edit_named l (get_or l i d).name ≡ get_or l i d
unfolding edit_named distinct
edit-named [] i d a h = absurd (omega arith)
edit-named (e ∷ l) zero d a h = rw (eq-eqb e.name e.name refl)
edit-named (e ∷ l) (suc i) d a h =
    let k : (get_or l i d).name among map name_of l =
    rw (get_or-mapped name_of l i d 0 (omega arith)) at (get_or-among (map name_of l) i (omega (arith, length-map l name_of))) in
    rw (ne_eqb (get_or l i d).name e.name (λ q. clash (rw q at k) (not-true _ (and_l _ _ a))))
    (edit-named l i d (and_r (not (mem e.name (map name_of l))) _ a) (omega arith))

written-distinct : (R : Record) → Fit R → distinct (map name_of R.edits) ≡ true
unfolding distinct names written
written-distinct R f = and_r (not (mem 0 (map name_of R.edits))) _ (ascending-distinct (names R) f.ascends)

-- a schedule has INIT first and no repeats, sound record or not
record Starts (list : List ℕ) : Type 0 where
  pub init-first : get_or list 0 0 ≡ 0
  pub apart : distinct list ≡ true

schedule-starts : (R : Record) → Fit R → (hidden : List ℕ) → Starts (schedule R hidden)
unfolding schedule
schedule-starts R f hidden =
    let s = order-starts R f.formed (scheduled R hidden) (musts-scheduled R hidden 0 (init-must R)) in
    record { init-first = ap (λ l. get_or l 0 0) s.1; apart = (order-placed R (scheduled R hidden)).apart }

-- what the loop keeps: the edits of the first q names of the list, without INIT
abbrev pub Listing : Record → List ℕ → List Edit → ℕ → Type 0
Listing R list edits q = edits ≡ padded 127 filler_edit (map (edit_named R.edits) (take (q - 1) (drop 1 list)))

pub listing_start : (R : Record) (list : List ℕ) → Listing R list (replicate 127 filler_edit) 1
unfolding padded
listing_start R list = refl

module _ (R : Record) (f : Fit R) (r : declared.Record) (e : r ≡ stored R) (row : Row) (size : length row.indexes ≡ 128) (hidden : List ℕ)
    (g : RowIs R row (schedule R hidden)) where
  count-is : length (schedule R hidden) ≡ row.count
  count-is = list_length R (ascending-distinct (names R) f.ascends) (names-few R f) row (schedule R hidden) (omega (arith, size, row.few)) g

  name-is : (q : ℕ) → q < row.count → get_or (schedule R hidden) q 0 ≡ name_at R (get_or row.indexes q 0)
  name-is = list_at R (ascending-distinct (names R) f.ascends) (names-few R f) row (schedule R hidden) (omega (arith, size, row.few)) g

  -- INIT does not come again
  pub listing-init {ℓ} : {P : Type ℓ} (q : ℕ) → 1 ≤ q → q < row.count → get_or row.indexes q 0 ≡ 0 → P
  listing-init q a b z =
      let s = schedule-starts R f hidden in
      let x : get_or (schedule R hidden) q 0 ≡ get_or (schedule R hidden) 0 0 = name-is q b ∙ ap (name_at R) z ∙ name-zero R ∙ sym s.init-first in
      absurd (let y = place_same (schedule R hidden) q 0 s.apart (omega (arith, count-is)) (omega (arith, count-is)) x in omega arith)

  -- the edit of the name at q
  edit-is : (q : ℕ) (d : Edit) → q < row.count → 0 < get_or row.indexes q 0
      → edit_named R.edits (get_or (schedule R hidden) q 0) ≡ get_or r.edits (get_or row.indexes q 0 - 1) d
  edit-is q d b z =
      let i = get_or row.indexes q 0 in
      let l : get_or row.indexes q 0 - 1 < length R.edits = omega (arith, g.known q b, length-names R) in
      let m : get_or row.indexes q 0 - 1 + 1 ≡ get_or row.indexes q 0 = omega arith in
      ap (edit_named R.edits) (name-is q b ∙ ap (name_at R) (sym m) ∙ sym (name-at r R e (i - 1) d l) ∙ ap name_of (edit-at r R e (i - 1) d l))
      ∙ edit-named R.edits (i - 1) d (written-distinct R f) l ∙ sym (edit-at r R e (i - 1) d l)

  taken-length : (q : ℕ) → 1 ≤ q → q ≤ row.count → length (map (edit_named R.edits) (take (q - 1) (drop 1 (schedule R hidden)))) ≡ q - 1
  taken-length q a b =
      length-map (take (q - 1) (drop 1 (schedule R hidden))) (edit_named R.edits)
      ∙ length-take-le (q - 1) (drop 1 (schedule R hidden)) (omega (arith, length-drop 1 (schedule R hidden), count-is))

  pub listing_step : (edits : List Edit) (q : ℕ) (d : Edit) → 1 ≤ q → q < row.count → 0 < get_or row.indexes q 0 → Listing R (schedule R hidden) edits q
      → Listing R (schedule R hidden) (set edits (q - 1) (get_or r.edits (get_or row.indexes q 0 - 1) d)) (q + 1)
  listing_step edits q d a b z k =
      let list = drop 1 (schedule R hidden) in
      let x = get_or r.edits (get_or row.indexes q 0 - 1) d in
      let done = map (edit_named R.edits) (take (q - 1) (drop 1 (schedule R hidden))) in
      let n : q + 1 - 1 ≡ suc (q - 1) = omega arith in
      let m : 1 + (q - 1) ≡ q = omega arith in
      let h : q - 1 < length (drop 1 (schedule R hidden)) = omega (arith, length-drop 1 (schedule R hidden), count-is) in
      let last : edit_named R.edits (get_or (drop 1 (schedule R hidden)) (q - 1) 0) ≡ get_or r.edits (get_or row.indexes q 0 - 1) d =
      ap (edit_named R.edits) (get_or-drop 1 (schedule R hidden) (q - 1) 0 ∙ ap (λ i. get_or (schedule R hidden) i 0) m) ∙ edit-is q d b z in
      let more : map (edit_named R.edits) (take (q + 1 - 1) (drop 1 (schedule R hidden))) ≡ map (edit_named R.edits) (take (q - 1) (drop 1 (schedule R hidden))) ++ (get_or r.edits (get_or row.indexes q 0 - 1) d ∷ []) =
      ap (λ c. map (edit_named R.edits) (take c list)) n ∙ ap (map (edit_named R.edits)) (take-suc list (q - 1) 0 h)
      ∙ map-append (edit_named R.edits) (take (q - 1) list) (get_or list (q - 1) 0 ∷ []) ∙ ap (λ y. done ++ (y ∷ [])) last in
      rw (k, more) (ap (λ c. set (padded 127 filler_edit done) c x) (sym (taken-length q a (omega arith))) ∙ padded-more 127 filler_edit done x (omega (arith, taken-length q a (omega arith))))

  pub listing-end : (edits : List Edit) (q : ℕ) → q - 1 ≡ row.count - 1 → Listing R (schedule R hidden) edits q
      → ◌≡◌ {A = Schedule} (record { edits = edits; count = row.count - 1 }) (stored_schedule R hidden)
  unfolding stored_schedule scheduled_edits
  listing-end edits q c k =
      let l : length (drop 1 (schedule R hidden)) ≤ q - 1 = omega (arith, length-drop 1 (schedule R hidden), count-is) in
      let p : edits ≡ padded 127 filler_edit (map (edit_named R.edits) (drop 1 (schedule R hidden))) =
      k ∙ ap (λ m. padded 127 filler_edit (map (edit_named R.edits) m)) (take_all (q - 1) (drop 1 (schedule R hidden)) l) in
      let n : row.count - 1 ≡ length (map (edit_named R.edits) (drop 1 (schedule R hidden))) =
      omega (arith, length-map (drop 1 (schedule R hidden)) (edit_named R.edits), length-drop 1 (schedule R hidden), count-is) in
      λ i. record { edits = p i; count = n i }
