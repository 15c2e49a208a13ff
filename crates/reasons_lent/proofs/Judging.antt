-- What is judged of an edit, and its reason. Assumes nothing.
use mathlib.Core.Path.{◌≡◌, refl}
use mathlib.Core.Bool.{Bool, true, false}
use mathlib.Core.List.{[], ◌∷◌}
use Prim.Native.Nat.{ℕ}
use Rattle.std.specs.Prelude.{Option, Some, None, is_some}
use Rattle.lists.specs.Lists.{◌among◌, ◌within◌}
use Rattle.lists.proofs.Lists.{clash, cons-within, one-within}
use Rattle.record.specs.Record.{Record, names}
use Rattle.record.specs.Schedule.{needs, ring}
use Rattle.record.specs.Judgement.{sound, must, never}
use Rattle.record.proofs.Records.{init-known}
use Rattle.record.proofs.Order.{needs-known}
use Rattle.graph.specs.indexes.Fit.{Fit}
use Rattle.reasons.specs.Given.{reason_of}
use Rattle.reasons.proofs.Given.{reason-some}

no-some : {A : Type 0} (o : Option A) → is_some o ≡ false → None ≡ o
no-some (Some a) h = clash refl h
no-some None h = refl

module _ (R : Record) (f : Fit R) (e : ℕ) (i : e among names R) where
  -- what an edit needs is known, and holds a ring where it can never stand
  pub needs-members : needs R (0 ∷ e ∷ []) within names R
  needs-members = needs-known R f.formed (0 ∷ e ∷ []) (cons-within 0 (e ∷ []) (names R) (init-known R) (one-within e (names R) i))

  pub never-ring : {b : Bool} → b ≡ ring R (needs R (0 ∷ e ∷ [])) → b ≡ never R e
  unfolding never
  never-ring h = h

  -- neither
  pub no-reason : sound R ≡ true → must R e ≡ false → never R e ≡ false → None ≡ reason_of R e
  no-reason o m n = no-some (reason_of R e) (rw (m, n) at (reason-some R f.formed f.ascends o e i))
