-- A record's names as its stored rows have them, and the index of an edit. Assumes nothing.
use mathlib.Core.Path.{◌≡◌, sym, ap, ◌∙◌}
use Prim.Native.Nat.{ℕ, suc, ◌^◌, ◌≤◌, ◌<◌}
use native.Mathlib.Omega.{arith}
use lib.ListN.{length, get_or, length-map, get_or-map}
use Rattle.std.specs.Prelude.{Some, None, Result, Ok, Err}
use Rattle.std.specs.Result.{OkIff, result_ok}
use Rattle.record.specs.declared.Edit.{Edit}
use Rattle.lists.specs.Lists.{mem, index_of, ◌among◌}
use Rattle.lists.proofs.Arrays.{get_or-any}
use Rattle.record.specs.Record.{Record, name_of, written}
use Rattle.record.specs.Stored.{filler_edit}
use Rattle.lists.proofs.Lists.{by, mem_index}
use Rattle.lists.proofs.Logic.{all-has, has-get_or}
use Rattle.record_rows.specs.row.Row.{edit_in_range, edit_row}
use Rattle.graph.proofs.links.Names.{get_or-place}
use Rattle.record_tables.specs.Checked.{Checked, known_place}
use Rattle.record_tables.proofs.Marks.{edit-small}
use Rattle.bench.specs.hidden.Marks.{index_in}

-- a number that fits fewer bits, and one that doesn't
pub fitted : {E : Type 0} (r : Result ℕ E) (P : Type 0) (v x : ℕ) → OkIff r P v → Some x ≡ result_ok r → x ≡ v
fitted (Ok y) P v x h e = let q : x ≡ y = cc in q ∙ h.1
fitted (Err y) P v x h e = cc

pub unfitted : {E : Type 0} (r : Result ℕ E) (P : Type 0) (v : ℕ) → OkIff r P v → None ≡ result_ok r → P → ⊥
unfitted (Ok y) P v h e = λ p. cc
unfitted (Err y) P v h e = h

module _ (R : Record) (k : Checked R) where
  pub length-written : length (written R) ≡ length R.edits
  unfolding written
  length-written = length-map R.edits name_of

  pub held-few : length (written R) ≤ 127
  held-few = omega (arith, length-written, k.editplaces)

  pub name-is : (i : ℕ) (d : Edit) → i < length R.edits → (get_or R.edits i d).name ≡ get_or (written R) i 0
  unfolding written
  name-is i d l = ap name_of (get_or-any R.edits i d filler_edit l) ∙ sym (get_or-map name_of R.edits i filler_edit)

  name-small : (i : ℕ) → i < length R.edits → (get_or R.edits i filler_edit).name < 2304
  name-small i l = edit-small (get_or R.edits i filler_edit) (all-has (λ e. edit_in_range (edit_row e)) R.edits k.editrange _ (has-get_or R.edits i filler_edit l))

  -- a name past 16 bits is not written
  pub index-past : (name : ℕ) → 2 ^ 16 ≤ name → None ≡ index_in name (written R)
  index-past name l = by (mem name (written R)) (λ i. absurd (small i)) (λ i. rw i)
    where
      small : name among written R → ⊥
      small i =
          let w : index_of name (written R) < length R.edits = omega (arith, mem_index name (written R) i, length-written) in
          omega (arith, name-small (index_of name (written R)) w, name-is (index_of name (written R)) filler_edit w, get_or-place name (written R) i)

  pub index-missing : (name : ℕ) → None ≡ known_place name (written R) → None ≡ index_in name (written R)
  index-missing name e = by (mem name (written R)) (λ i. let z = rw i at e in cc) (λ i. rw i)

  pub index-found : (name place : ℕ) → Some place ≡ known_place name (written R) → (Some (suc place) ≡ index_in name (written R)) × (place < 127)
  index-found name place e =
      by (mem name (written R))
      (λ i. let q : place ≡ index_of name (written R) = let z = rw i at e in cc in (rw i (ap (λ (n : ℕ). Some (suc n)) q), omega (arith, mem_index name (written R) i, held-few)))
      (λ i. let z = rw i at e in cc)
