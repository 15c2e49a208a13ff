-- Hidden edits by marks, and the judgement as one value. Assumes nothing.
use mathlib.Core.Path.{◌≡◌, sym, ap}
use mathlib.Core.Bool.{Bool, not}
use mathlib.Core.List.{List, []}
use Prim.Native.Nat.{ℕ, ◌≤◌}
use lib.Dec.{eqb}
use lib.ListN.{length, get_or, replicate, get_or-eq_default}
use Rattle.lists.specs.Lists.{mem, index_of}
use Rattle.record.specs.Record.{Record, names}
use Rattle.record.specs.Schedule.{musts, ring, schedule}
use Rattle.record.specs.Judgement.{sound, must, never, settled}
use Rattle.lists.proofs.Lists.{same_by, filter-mem, mem-filter}
use Rattle.graph.specs.links.Marks.{name_at, values_of, marks_of, place_in}
use Rattle.graph.proofs.links.Names.{get_or-among, place-get_or, ascending-distinct}
use Rattle.judgement_marks.specs.schedules.Rows.{Hides}
use Rattle.graph.specs.indexes.Fit.{Fit}
use Rattle.judgement.specs.Judged.{marked_edits, judged_of}
use Rattle.judgement.specs.declared.Judged.{Judged}
use Rattle.lists.proofs.Arrays.{get_or-zeros}

pub sound-ring : (R : Record) (b : Bool) → b ≡ ring R (musts R) → not b ≡ sound R
unfolding sound
sound-ring R b e = ap not e

pub marked-hides : (R : Record) → Fit R → (marks : List ℕ) → Hides R marks (marked_edits R marks)
unfolding marked_edits
marked-hides R f marks y l =
    let p = place-get_or (names R) y (ascending-distinct (names R) f.ascends) l in
    let test : ℕ → Bool = λ x. eqb (get_or marks (index_of x (names R)) 0) 1 in
    same_by _ _
    (λ h. mem-filter test (names R) (name_at R y) (get_or-among (names R) y l) (rw p h))
    (λ h. rw p at (filter-mem test (names R) (name_at R y) h).1)

pub none-hides : (R : Record) → Hides R (replicate 128 0) []
unfolding mem
none-hides R y l = rw (get_or-zeros 128 y)

-- past the edits stands INIT
pub name-past : (R : Record) (i : ℕ) → length (names R) ≤ i → name_at R 0 ≡ name_at R i
unfolding names
name-past R i h = sym (get_or-eq_default (names R) 0 h)

pub judged-is : (R : Record) {a b c d : List ℕ} → a ≡ marks_of R (must R) → b ≡ marks_of R (never R) → c ≡ marks_of R (settled R) → d ≡ values_of R (place_in (schedule R []))
    → ◌≡◌ {A = Judged} (record { must = a; never = b; settled = c; place = d }) (judged_of R)
unfolding judged_of
judged-is R p q r s = λ i. record { must = p i; never = q i; settled = r i; place = s i }
