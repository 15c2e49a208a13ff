-- Names by index, and rows of them. Assumes nothing.
use mathlib.Core.Path.{◌≡◌, refl, sym, ap, ◌∙◌}
use mathlib.Core.List.{List, [], ◌∷◌, ◌++◌, map}
use Prim.Native.Nat.{ℕ, zero, suc, ◌+◌, ◌-◌, ◌≤◌, ◌<◌}
use native.Mathlib.Omega.{arith}
use lib.ListN.{length, get_or, take, length-map}
use Rattle.std.proofs.lemmas.List.{get_or_past, get_or-take, map-append}
use Rattle.lists.proofs.Front.{take_more}
use Rattle.lists.proofs.Lists.{get_or-mapped}
use Rattle.record.specs.declared.Edit.{Edit}
use Rattle.record.specs.Record.{Record, name_of, names, written}
use Rattle.graph.specs.links.Marks.{name_at}

-- an edit's name stands one index after its place
pub indexed-name : (edits : List Edit) (i : ℕ) (e : Edit) → (i ≡ 0 → ⊥) → i - 1 < length edits → e ≡ get_or edits (i - 1) e
    → e.name ≡ get_or (0 ∷ map name_of edits) i 0
indexed-name edits zero e n h q = absurd (n refl)
indexed-name edits (suc i) e n h q =
    let k : suc i - 1 ≡ i = omega arith in
    ap name_of (rw k at q) ∙ sym (get_or-mapped name_of edits i e 0 (omega arith))

pub indexed-past : (edits : List Edit) (i : ℕ) → (i ≡ 0 → ⊥) → length edits ≤ i - 1 → 0 ≡ get_or (0 ∷ map name_of edits) i 0
indexed-past edits zero n h = absurd (n refl)
indexed-past edits (suc i) n h = sym (get_or_past (map name_of edits) i 0 (omega (arith, length-map edits name_of)))

-- one name more
pub row-named : (R : Record) {edits : List Edit} (indexes : List ℕ) (count i : ℕ) {items : List ℕ} {place name : ℕ} → edits ≡ R.edits → i < count
    → i < length indexes → place ≡ get_or (take count indexes) i 0 → name ≡ get_or (0 ∷ map name_of edits) place 0
    → items ≡ map (name_at R) (take i indexes) → items ++ (name ∷ []) ≡ map (name_at R) (take (i + 1) indexes)
unfolding names written
row-named R indexes count i {place} e h k p q m =
    let x : place ≡ get_or indexes i 0 = p ∙ get_or-take count indexes i 0 h in
    rw (take_more indexes i 0 k, map-append, m, q, e, x) refl
