-- The common beginning of two schedules, counted by the names of their edits, and a schedule as it is stored.
use mathlib.Core.Path.{◌≡◌, refl, ap, ◌∙◌}
use mathlib.Core.Bool.{Bool, cond}
use mathlib.Core.List.{List, [], ◌∷◌, map}
use Prim.Native.Nat.{ℕ, suc, ◌+◌, ◌≤◌}
use native.Mathlib.Omega.{arith}
use lib.Dec.{eqb}
use lib.ListN.{length, take, length-map, length-take}
use lib.Seq.{take-length}
use Rattle.std.specs.List.{prefix_len, zip}
use Rattle.record.specs.declared.Edit.{Edit}
use Rattle.record.specs.declared.Schedule.{Schedule}
use Rattle.record.specs.Record.{name_of}
use Rattle.record.specs.Stored.{filler_edit}
use Rattle.record.proofs.Padded.{take-padded}
use Rattle.pages.specs.Steps.{Agree, common_beginning}
use Rattle.pages.proofs.Common.{common-left, common-right, common-take}
use Rattle.catalogue.specs.Shelves.{rows, schedule_of}
use Rattle.catalogue.specs.Changes.{common}

-- whether two edits have one name, and how many do at the beginning of two rows
abbrev pub same_name : Edit × Edit → Bool
same_name (a, b) = eqb a.name b.name

pub common-counted : (old new : List Edit) → prefix_len same_name (zip old new) ≡ common old new
unfolding common common_beginning
common-counted [] new = refl
common-counted (x ∷ old) [] = refl
common-counted (x ∷ old) (y ∷ new) =
    let more : 1 + prefix_len same_name (zip old new) ≡ suc (common_beginning (map name_of old) (map name_of new)) = omega (arith, common-counted old new) in
    ap (λ (n : ℕ). cond (eqb x.name y.name) n 0) more

-- It is within both.
pub common-le : (old new : List Edit) (n m c : ℕ) → c ≡ common (take n old) (take m new) → (c ≤ n) × (c ≤ m)
unfolding common
common-le old new n m c e =
    let s = take n old in
    let t = take m new in
    let a = common-left (map name_of s) (map name_of t) in
    let b = common-right (map name_of s) (map name_of t) in
    (omega (arith, a, length-map s name_of, length-take n old), omega (arith, b, length-map t name_of, length-take m new))

-- Rows that agree have its edits in common.
pub same-edits : (old new : List Edit) → Agree name_of old new → take (common old new) old ≡ take (common old new) new
unfolding common
same-edits old new agree = common-take name_of old new agree

-- the first rows of a stored schedule, and those up to its count
pub opened-stored : (schedule : Schedule) (edits : List Edit) (opened : ℕ) → schedule ≡ schedule_of edits → opened ≤ length edits
    → take opened schedule.edits ≡ take opened edits
unfolding schedule_of
opened-stored schedule edits opened s h = (λ i. take opened (s i).edits) ∙ take-padded rows filler_edit opened edits h

pub pages-stored : (schedule : Schedule) (edits : List Edit) → schedule ≡ schedule_of edits → take schedule.count schedule.edits ≡ edits
unfolding schedule_of
pages-stored schedule edits s = (λ i. take (s i).count (s i).edits) ∙ take-padded rows filler_edit (length edits) edits (omega arith) ∙ take-length edits
