-- A name looked for in lent tables of edits. Assumes nothing.
use mathlib.Core.Path.{◌≡◌, refl, sym, ap, ◌∙◌}
use mathlib.Core.Bool.{Bool, true, false}
use mathlib.Core.List.{List, [], ◌∷◌, map}
use Prim.Native.Nat.{ℕ, suc, ◌+◌, ◌-◌, ◌<◌}
use native.Mathlib.Omega.{arith}
use lib.Dec.{eqb}
use lib.ListN.{length, get_or}
use Rattle.std.specs.List.{list_any}
use Rattle.lists.specs.Lists.{any, all, mem}
use Rattle.record.specs.Record.{written, name_of}
use Rattle.record.specs.Stored.{filler_edit}
use Rattle.lists.proofs.Lists.{by, clash, and_l, and_r}
use Rattle.record_rows.proofs.row.Cells.{edit-in-range, edit-filler, name-not-zero}
use Rattle.record_rows.specs.row.Row.{Row, cell, edit_in_range, edit_of, edit_row}
use Rattle.record_rows.specs.grounds.Ground.{Rows}
use Rattle.record_tables.specs.Table.{names_of}
use Rattle.voting_count.specs.Count.{lent_proposals, Faultless}
use Rattle.voting_count.proofs.Benches.{rows-at, bench-at}
use Rattle.voting_count.proofs.Proposals.{held-checked, bench-faultless}
use Rattle.lists.proofs.Tests.{eqb-swapped}
use Rattle.voting_roll.specs.Election.{benches, held, proposal_fault}

-- a row with this name
abbrev pub count-named : ℕ → Row → Bool
count-named x row = eqb (cell row 0) x

module _ (x : ℕ) where
  pub any-named : (t : Rows) → list_any (count-named x) t ≡ mem x (names_of t)
  unfolding mem
  any-named [] = refl
  any-named (r ∷ t) = rw (eqb-swapped (cell r 0) x, any-named t)

-- the names of rows in range are those of their edits; what is not in range is the filler, whose row is not either
filler-out : edit_in_range (edit_row filler_edit) ≡ false
unfolding edit_row
filler-out = by (edit_in_range (edit_row filler_edit)) (λ e. absurd (name-not-zero 0 (edit-in-range (edit_row filler_edit) e).name refl)) (λ e. e)

row_named : (r : Row) → edit_in_range (edit_row (edit_of r)) ≡ true → cell r 0 ≡ (edit_of r).name
row_named r h =
    by (edit_in_range r) (λ e. sym (ap name_of (edit-in-range r e).decoded))
    (λ e. let f : filler_edit ≡ edit_of r = edit-filler r refl e in clash h (rw (← f) filler-out))

rows_named : (t : Rows) → all (λ e. edit_in_range (edit_row e)) (map edit_of t) ≡ true → names_of t ≡ map name_of (map edit_of t)
unfolding all
rows_named [] h = refl
rows_named (r ∷ t) h =
    let e = row_named r (and_l _ (all (λ e. edit_in_range (edit_row e)) (map edit_of t)) h) in
    let f = rows_named t (and_r (edit_in_range (edit_row (edit_of r))) _ h) in
    λ i. e i ∷ f i

-- the names of the rows of bench k + 1 are those of its proposal
pub held-named : {A : Type 0} (rows : A → Rows) (es : List A) (cs : List Rows) (k : ℕ) (a : A) → rows a ≡ [] → (x : ℕ) → proposal_fault (lent_proposals (map rows es) cs) (k + 1) ≡ 0
    → mem x (names_of (rows (get_or es k a))) ≡ mem x (written (held (lent_proposals (map rows es) cs) (k + 1)))
unfolding held written
held-named rows es cs k a q x h =
    let t = get_or (map rows es) (k + 1 - 1) [] in
    let e : t ≡ rows (get_or es k a) = rows-at rows es k a q in
    ap (mem x) (ap names_of (sym e) ∙ rows_named t (held-checked (lent_proposals (map rows es) cs) (k + 1) h).editrange)

-- a test of the eight lent records, and one of the benches
any-pointwise : {A : Type 0} (f : A → Bool) (g : ℕ → Bool) (s : List A) (t : List ℕ) (a : A) → length s ≡ length t
    → ((k : ℕ) → k < length s → f (get_or s k a) ≡ g (get_or t k 0)) → list_any f s ≡ any g t
unfolding any
any-pointwise f g [] [] a e h = refl
any-pointwise f g [] (y ∷ t) a e h = absurd (omega (arith, e))
any-pointwise f g (x ∷ s) [] a e h = absurd (omega (arith, e))
any-pointwise f g (x ∷ s) (y ∷ t) a e h = rw (h 0 (omega arith), any-pointwise f g s t a (omega (arith, e)) (λ k l. h (suc k) (omega arith)))

pub known-some : {A : Type 0} (rows : A → Rows) (es : List A) (cs : List Rows) (a : A) → rows a ≡ [] → (x : ℕ) → length es ≡ 8 → Faultless (lent_proposals (map rows es) cs)
    → list_any (λ r. mem x (names_of (rows r))) es ≡ any (λ k. mem x (written (held (lent_proposals (map rows es) cs) k))) benches
known-some rows es cs a q x l h =
    let P = lent_proposals (map rows es) cs in
    any-pointwise (λ r. mem x (names_of (rows r))) (λ k. mem x (written (held P k))) es benches a l
    (λ k m. let n : k < 8 = omega arith in rw (bench-at k n) (held-named rows es cs k a q x (bench-faultless P h k n)))
