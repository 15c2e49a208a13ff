-- The index of an edit that a record knows: one more than its place among the edits, since indexes begin with INIT. Assumes nothing.
use mathlib.Core.Path.{◌≡◌}
use Prim.Native.Nat.{ℕ, ◌+◌, ◌<◌}
use native.Mathlib.Omega.{arith}
use native.Mathlib.Numerals.{add-one}
use lib.ListN.{length}
use Rattle.record.specs.Record.{Record, names}
use Rattle.graph.specs.links.Marks.{name_at}
use Rattle.graph.specs.indexes.Fit.{Fit}
use Rattle.graph.proofs.indexes.Tables.{names-few}
use Rattle.judgement.specs.lent_edit.Asked.{KnownIn}

module _ {R : Record} {edit name place : ℕ} (k : KnownIn R edit name place) where
  pub place-inside : place + 1 < length (names R)
  unfolding names
  place-inside = omega (arith, k.place-low)

  pub place-few : Fit R → place < 127
  place-few f = omega (arith, place-inside, names-few R f)

  pub name-there : name_at R (place + 1) ≡ edit
  unfolding names
  name-there = rw (add-one place) k.placed
