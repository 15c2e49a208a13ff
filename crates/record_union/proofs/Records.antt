-- Tables as a stored record, and the union of two stored records. Assumes nothing.
use mathlib.Core.Path.{◌≡◌, ap, ◌∙◌}
use mathlib.Core.List.{List}
use Prim.Native.Nat.{ℕ}
use Rattle.record.specs.declared.Edit.{Edit}
use Rattle.record.specs.declared.Constraint.{Constraint}
use Rattle.record.specs.declared.Record as declared
use Rattle.record.specs.Record.{Record}
use Rattle.record.specs.Stored.{record_of, stored, filler_edit, filler_constraint}
use Rattle.lists.specs.Keyed.{united}
use Rattle.record_tables.specs.Table.{edit_key, constraint_key, unite}
use Rattle.record_tables.proofs.Tables.{held-record}
use Rattle.record_union.specs.Union.{Unites, united_in}

-- the union of both tables, as each is handed and comes back
module _ (R S : Record) (u : Unites edit_key 127 R.edits S.edits) (v : Unites constraint_key 512 R.constraints S.constraints) (joined joining : declared.Record) (e : joined ≡ stored R) (f : joining ≡ stored S) where
  pub uniting : {a c : List Edit} {b d : List Constraint} → a ≡ (record_of joined).edits → c ≡ (record_of joining).edits → b ≡ (record_of joined).constraints → d ≡ (record_of joining).constraints
      → {es : List Edit × ℕ} {cs : List Constraint × ℕ} → (Unites edit_key 127 a c → es ≡ united_in 127 filler_edit (united edit_key a c))
      → (Unites constraint_key 512 b d → cs ≡ united_in 512 filler_constraint (united constraint_key b d))
      → record { edits = es.0; edit_count = es.1; constraints = cs.0; constraint_count = cs.1 } ≡ stored (unite R S)
  unfolding unite
  uniting {a} {c} {b} {d} k l m n g h =
      let p : a ≡ R.edits = k ∙ ap (λ (x : Record). x.edits) (held-record joined R e) in
      let q : c ≡ S.edits = l ∙ ap (λ (x : Record). x.edits) (held-record joining S f) in
      let r : b ≡ R.constraints = m ∙ ap (λ (x : Record). x.constraints) (held-record joined R e) in
      let s : d ≡ S.constraints = n ∙ ap (λ (x : Record). x.constraints) (held-record joining S f) in
      rw ((rw (p, q) at g) u, (rw (r, s) at h) v)
