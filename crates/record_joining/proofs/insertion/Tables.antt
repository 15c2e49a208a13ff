-- A table that a row joins, as it is held. Assumes nothing.
use mathlib.Core.Path.{◌≡◌, ap, sym, ◌∙◌}
use mathlib.Core.Bool.{Bool, true, false, not, ◌&&◌}
use mathlib.Core.List.{List, ◌∷◌, ◌++◌, append_assoc}
use Rattle.std.specs.Prelude.{Result, Ok, Err}
use Rattle.refusals.specs.declared.Refusal.{Refusal}
use Rattle.refusals.specs.declared.Refusal.TheVariants.{NoPlace}
use Prim.Native.Nat.{ℕ, suc, min, ◌+◌, ◌-◌, ◌≤◌, ◌<◌}
use native.Mathlib.Omega.{arith}
use borrow.Author.Tests.{ltb-true, ltb-false, lt-ltb, le-ltb, not-true, not-false}
use lib.Dec.{ltb}
use lib.ListN.{length, take, drop, get_or, replicate, length-append, length-drop, take-append-drop}
use lib.Seq.{take-append-le, take-append_seam, drop-append-le, drop-append-add, length-take-le, get_or-drop}
use Rattle.lists.proofs.Lists.{by, and_l, and_r}
use Rattle.record.specs.declared.Constraint.{Constraint}
use Rattle.record.specs.declared.Record as declared
use Rattle.record.specs.Record.{Record}
use Rattle.record.specs.Stored.{padded, stored, filler_constraint}
use Rattle.lists.specs.Keyed.{precedes, inserted, united}
use Rattle.lists.proofs.Union.{length-grown}
use Rattle.record_tables.specs.Table.{constraint_key}
use Rattle.record_joining.specs.declared.insertion.Constraints.{Constraints}
use Rattle.record_joining.specs.insertion.Insertion.{table_of, Place, put_at}
use Rattle.record_joining.proofs.insertion.Places.{inserted-behind, inserted-there, inserted-here}

-- the table of a list that has places
abbrev held : List Constraint → Constraints
held l = record { rows = padded 512 filler_constraint l; count = length l }

pub table-held : (l : List Constraint) → length l ≤ 512 → table_of l ≡ Ok (held l)
unfolding table_of
table-held l h = rw (le-ltb 512 (length l) h)

pub table-full : (l : List Constraint) → 512 < length l → table_of l ≡ Err NoPlace
unfolding table_of
table-full l h = rw (lt-ltb 512 (length l) h)

abbrev has-table : Result Constraints Refusal → ℕ
has-table (Err r) = 0
has-table (Ok t) = 1

abbrev table-or : Result Constraints Refusal → Constraints → Constraints
table-or (Err r) d = d
table-or (Ok t) d = t

-- a list without places is too long
pub too-long : (l : List Constraint) {r : Refusal} → Err r ≡ table_of l → 512 < length l
too-long l e =
    by (ltb 512 (length l)) (λ f. ltb-true 512 (length l) f)
    (λ f. let n : ◌≡◌ {A = ℕ} 0 1 = ap has-table (e ∙ table-held l (ltb-false 512 (length l) f)) in absurd (omega (arith, n)))

-- and stays without them, whatever joins it
pub stays-full : (l more : List Constraint) {r : Refusal} → Err r ≡ table_of l → Err r ≡ table_of (united constraint_key l more)
stays-full l more e =
    let h = too-long l e in
    e ∙ table-full l h ∙ sym (table-full (united constraint_key l more) (omega (arith, h, length-grown constraint_key l more)))

module _ (table : Constraints) (l : List Constraint) (e : Ok table ≡ table_of l) where
  pub few : length l ≤ 512
  few =
      by (ltb 512 (length l))
      (λ f. let n : ◌≡◌ {A = ℕ} 1 0 = ap has-table (e ∙ table-full l (ltb-true 512 (length l) f)) in absurd (omega (arith, n)))
      (λ f. ltb-false 512 (length l) f)

  pub is_held : table ≡ held l
  is_held = ap (λ (o : Result Constraints Refusal). table-or o table) (e ∙ table-held l few)

  count_is : table.count ≡ length l
  count_is = ap (λ (t : Constraints). t.count) is_held

  module _ (n : ℕ) (min-is : n ≡ min table.count 512) where
    pub held-count-is : n ≡ length l
    held-count-is = omega (arith, min-is, count_is, few)

    rows_are : table.rows ≡ padded 512 filler_constraint l
    rows_are = ap (λ (t : Constraints). t.rows) is_held

    pub held-rows : take n table.rows ≡ l
    unfolding padded
    held-rows = rw (held-count-is, rows_are) (take-append_seam l (replicate (512 - length l) filler_constraint))

    module _ (c : Constraint) (p : ℕ) (q : Place constraint_key c l p) where
      at_place : Place constraint_key c l p
      at_place = q

      behind : inserted constraint_key c l ≡ take p l ++ inserted constraint_key c (drop p l)
      behind = inserted-behind constraint_key c l p at_place.below

      -- the row at the place
      row_is : get_or l p filler_constraint ≡ get_or (drop p l) 0 filler_constraint
      row_is = sym (get_or-drop p l 0 filler_constraint ∙ ap (λ (i : ℕ). get_or l i filler_constraint) (omega arith))

      module _ {found : Bool} (g : found ≡ (ltb p (length l) && not (precedes (constraint_key c) (constraint_key (get_or l p filler_constraint))))) where
        -- a row that stands stays as it is
        pub known_is : found ≡ true → Ok table ≡ table_of (inserted constraint_key c l)
        known_is t =
            let b = sym g ∙ t in
            let h : p < length l = ltb-true p (length l) (and_l (ltb p (length l)) _ b) in
            let u : precedes (constraint_key c) (constraint_key (get_or (drop p l) 0 filler_constraint)) ≡ false =
            rw row_is at (not-true (precedes (constraint_key c) (constraint_key (get_or l p filler_constraint))) (and_r (ltb p (length l)) _ b)) in
            let w : 0 < length (drop p l) = let i = length-drop p l in omega arith in
            let z : inserted constraint_key c l ≡ l = behind ∙ ap (λ (t : List Constraint). take p l ++ t) (inserted-there constraint_key c (drop p l) w at_place.above filler_constraint u) ∙ take-append-drop p l in
            e ∙ ap table_of (sym z)

        module _ (t : found ≡ false) where
          new_row : 0 < length (drop p l) → precedes (constraint_key c) (constraint_key (get_or (drop p l) 0 filler_constraint)) ≡ true
          new_row w =
              let h : p < length l = let i = length-drop p l in omega arith in
              let i : ltb p (length l) ≡ true = lt-ltb p (length l) h in
              let b : not (precedes (constraint_key c) (constraint_key (get_or l p filler_constraint))) ≡ false = rw i at (sym g ∙ t) in
              rw row_is at (not-false (precedes (constraint_key c) (constraint_key (get_or l p filler_constraint))) b)

          made : inserted constraint_key c l ≡ take p l ++ (c ∷ drop p l)
          made = behind ∙ ap (λ (t : List Constraint). take p l ++ t) (inserted-here constraint_key c (drop p l) filler_constraint new_row)

          more : length (inserted constraint_key c l) ≡ length l + 1
          more =
              let a : length (take p l) ≡ p = length-take-le p l at_place.near in
              let n : p ≤ length l = at_place.near in
              ap length made ∙ length-append (take p l) (c ∷ drop p l) ∙ (let b = length-drop p l in omega arith)

          -- a new row without a place
          pub overflows : 512 ≤ n → Err NoPlace ≡ table_of (inserted constraint_key c l)
          overflows h = sym (table-full (inserted constraint_key c l) (let a = more in let b = held-count-is in omega arith))

          -- a new row in its place
          put : n < 512 → put_at n p c table.rows ≡ padded 512 filler_constraint (take p l ++ (c ∷ drop p l))
          unfolding put_at padded
          put h =
              let m : length l < 512 = let b = held-count-is in omega arith in
              let z = filler_constraint in
              let rest = replicate (512 - length l) z in
              let near : p ≤ length l = at_place.near in
              let u : take p (l ++ rest) ≡ take p l = take-append-le p l rest near in
              let v : drop p (l ++ rest) ≡ drop p l ++ rest = drop-append-le p l rest near in
              let k : length (drop p l) ≡ length l - p = length-drop p l in
              let w : take (length l - p) (drop p l ++ rest) ≡ drop p l = rw (← k) (take-append_seam (drop p l) rest) in
              let s : 512 - length l ≡ suc (511 - length l) = omega arith in
              let x : drop (length l + 1) (l ++ rest) ≡ replicate (511 - length l) z = drop-append-add l rest 1 ∙ rw s in
              let y : 512 - length (take p l ++ (c ∷ drop p l)) ≡ 511 - length l =
              let a = ap length made in let b = more in omega arith in
              rw (held-count-is, rows_are, u, v, w, x, y, append_assoc)

          pub joins : n < 512 → {out : List Constraint} → out ≡ put_at n p c table.rows
              → Ok (record { rows = out; count = n + 1 }) ≡ table_of (inserted constraint_key c l)
          joins h z =
              let a : length (inserted constraint_key c l) ≤ 512 = let i = more in let b = held-count-is in omega arith in
              let r = z ∙ put h ∙ ap (padded 512 filler_constraint) (sym made) in
              let b : n + 1 ≡ length (inserted constraint_key c l) = let i = more in let b = held-count-is in omega arith in
              let w : Ok (record { rows = _; count = n + 1 }) ≡ Ok (held (inserted constraint_key c l)) = λ i. Ok (record { rows = r i; count = b i }) in
              w ∙ sym (table-held (inserted constraint_key c l) a)

-- the table of a record
pub of-record : (r : declared.Record) (R : Record) → r ≡ stored R → length R.constraints ≤ 512 → Ok (record { rows = r.constraints; count = r.constraint_count }) ≡ table_of R.constraints
of-record r R e h = rw e (sym (table-held R.constraints h))

-- a record with the constraints of a table
pub with-table-is : (r : declared.Record) (R : Record) (table : Constraints) (l : List Constraint) → r ≡ stored R → Ok table ≡ table_of l
    → record { edits = r.edits; edit_count = r.edit_count; constraints = table.rows; constraint_count = table.count } ≡ stored (record { edits = R.edits; constraints = l })
with-table-is r R table l e f = rw (e, is_held table l f)
