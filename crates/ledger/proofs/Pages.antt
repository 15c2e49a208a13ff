-- The pages of a schedule as rows with bodies: they bear the schedule's names, there are no more than the journal has rows, and rows of two records
-- of which one keeps the other's edits agree. Assumes nothing.
use mathlib.Core.Path.{◌≡◌, refl, sym, ap, ◌∙◌}
use mathlib.Core.List.{List, [], ◌∷◌, map}
use Prim.Native.Nat.{ℕ, zero, suc, ◌-◌, ◌≤◌}
use native.Mathlib.Omega.{arith}
use lib.Dec.{eqb}
use lib.ListN.{length, take, drop, replicate, length-map, length-drop}
use lib.Seq.{take-append_seam}
use borrow.Author.Tests.{eqb-true}
use Rattle.record.specs.declared.Edit.{Edit}
use Rattle.lists.specs.Lists.{mem, ◌among◌, ◌within◌}
use Rattle.record.specs.Record.{Record, name_of, written}
use Rattle.record.specs.Stored.{padded, edit_named, filler_edit}
use Rattle.record.specs.Sound.{Sound}
use Rattle.lists.proofs.Lists.{by, clash, mem-head, mem-tail, or-by}
use Rattle.record.proofs.Scheduled.{sound-length, sound-pages}
use Rattle.record_tables.specs.Checked.{Checked}
use Rattle.pages.specs.Steps.{Agree}
use Rattle.catalogue.specs.Shelves.{rows, schedule_of}
use Rattle.ledger.specs.Ledger.{Ledger, pages, last}
use Rattle.ledger.specs.Bench.{page_edits}
use Rattle.ledger.proofs.Valid.{Valid}

-- the edit of a known name bears it
pub named-name : (l : List Edit) (x : ℕ) → x among map name_of l → (edit_named l x).name ≡ x
unfolding edit_named mem
named-name [] x h = clash h refl
named-name (e ∷ l) x h = by (eqb x e.name) (λ q. rw q (sym (eqb-true x e.name q))) (λ q. rw q (named-name l x (rw q at h)))

pub names-named : (l : List Edit) (s : List ℕ) → s within map name_of l → map name_of (map (edit_named l) s) ≡ s
names-named l [] w = refl
names-named l (x ∷ s) w =
    let a = named-name l x (w x (mem-head x s)) in
    let b = names-named l s (λ y i. w y (mem-tail y x s i)) in
    λ i. a i ∷ b i

pub named-agree : (l m : List Edit) (s t : List ℕ) → ((x : ℕ) → x among map name_of l → edit_named m x ≡ edit_named l x) → s within map name_of l
    → t within map name_of m → Agree name_of (map (edit_named l) s) (map (edit_named m) t)
unfolding Agree
named-agree l m [] t f v w q d a b e = absurd (omega arith)
named-agree l m (x ∷ s) [] f v w q d a b e = absurd (omega arith)
named-agree l m (x ∷ s) (y ∷ t) f v w zero d a b e =
    let k = v x (mem-head x s) in
    let p : x ≡ y = sym (named-name l x k) ∙ (e ∙ named-name m y (w y (mem-head y t))) in
    sym (f x k) ∙ ap (edit_named m) p
named-agree l m (x ∷ s) (y ∷ t) f v w (suc q) d a b e =
    named-agree l m s t f (λ z i. v z (mem-tail z x s i)) (λ z i. w z (mem-tail z y t i)) q d (omega arith) (omega arith) e

take_within : (n : ℕ) (l : List ℕ) → take n l within l
unfolding mem
take_within zero l x h = clash h refl
take_within (suc n) [] x h = h
take_within (suc n) (y ∷ l) x h = or-by (eqb x y) (mem x (take n l)) h (λ q. rw q) (λ q. mem-tail x y l (take_within n l x q))

-- a sound row has no more pages than the journal has rows
pub pages-room : (R : Record) → Checked R → (row : List ℕ) → Sound R row → length (drop 1 row) ≤ rows
unfolding written
pages-room R k row s =
    let a = sound-length R row s in
    let b = length-map R.edits name_of in
    let c = length-drop 1 row in
    omega (arith, k.editplaces)

-- the pages of a ledger
module _ (L : Ledger) (v : Valid L) where
  pub ledger-written : pages L within written L.multilog
  unfolding pages
  ledger-written = sound-pages L.multilog L.schedule v.sound-schedule

  pub open-written : take L.opened (pages L) within written L.multilog
  open-written x i = ledger-written x (take_within L.opened (pages L) x i)

  pub last-room : last L ≤ rows
  unfolding last pages
  last-room = pages-room L.multilog v.checked L.schedule v.sound-schedule

  -- The schedule is read off the stored pages: INIT stands before them, and each bears its name.
  pub schedule-read : 0 ∷ map name_of (take (schedule_of (page_edits L)).count (schedule_of (page_edits L)).edits) ≡ L.schedule
  unfolding schedule_of padded page_edits pages written
  schedule-read =
      let s = v.sound-schedule.starts in
      let es = page_edits L in
      ap (λ (l : List Edit). 0 ∷ map name_of l) (take-append_seam es (replicate (rows - length es) filler_edit))
      ∙ (ap (λ (l : List ℕ). 0 ∷ l) (names-named L.multilog.edits (pages L) ledger-written) ∙ (ap (λ (l : List ℕ). 0 ∷ drop 1 l) s.1 ∙ sym s.1))
