-- Equal bundles, by the slices of their rows. Assumes nothing.
use mathlib.Core.Path.{◌≡◌, refl, ◌∙◌}
use mathlib.Core.Bool.{Bool, true, false, ◌&&◌}
use native.Mathlib.Omega.{arith}
use lib.ListN.{length, take}
use lib.Seq.{take-length}
use Rattle.std.specs.Cmp.Lexicographic.{pointwise}
use Rattle.record.specs.declared.Record as declared
use Rattle.record.specs.contracts.EditPartialEq.TheImpl as edits
use Rattle.record.specs.contracts.ConstraintPartialEq.TheImpl as constraints
use Rattle.record.specs.Record.{Record}
use Rattle.record.specs.Stored.{stored, filler_edit, filler_constraint}
use Rattle.record.proofs.Padded.{take-padded}
use Rattle.voting.specs.Tally.{same_bundle}
use Rattle.voting.proofs.Derived.{bundles-decided}

-- the slices of a stored record
module _ (a : declared.Record) (P : Record) (p : a ≡ stored P) where
  pub edits-kept : take a.edit_count a.edits ≡ P.edits
  edits-kept = rw (p, take-padded 127 filler_edit (length P.edits) P.edits (omega arith)) (take-length P.edits)

  pub constraints-kept : take a.constraint_count a.constraints ≡ P.constraints
  constraints-kept = rw (p, take-padded 512 filler_constraint (length P.constraints) P.constraints (omega arith)) (take-length P.constraints)

-- two stored bundles
module _ (a b : declared.Record) (P Q : Record) (p : a ≡ stored P) (q : b ≡ stored Q) (x : Bool)
    (e : x ≡ pointwise edits.eq-value.it (take a.edit_count a.edits) (take b.edit_count b.edits)) where
  both-decide : (y : Bool) → y ≡ pointwise constraints.eq-value.it (take a.constraint_count a.constraints) (take b.constraint_count b.constraints) → (x && y) ≡ same_bundle P Q
  both-decide y f =
      bundles-decided P Q x y (rw (edits-kept a P p, edits-kept b Q q) at e) (rw (constraints-kept a P p, constraints-kept b Q q) at f)

  pub edits-differ : x ≡ false → x ≡ same_bundle P Q
  edits-differ h = let r = both-decide _ refl in h ∙ (rw h at r)

  pub constraints-decide : x ≡ true → (y : Bool) → y ≡ pointwise constraints.eq-value.it (take a.constraint_count a.constraints) (take b.constraint_count b.constraints) → y ≡ same_bundle P Q
  constraints-decide h y f = let r = both-decide y f in rw h at r
