-- A call that brings in rows is its judgement and its change. Assumes nothing.
use mathlib.Core.Path.{◌≡◌, refl, sym, ap, ◌∙◌}
use mathlib.Core.Bool.{true, false, not}
use mathlib.Core.List.{List, [], ◌∷◌}
use Prim.Native.Nat.{ℕ}
use lib.Dec.{eqb}
use borrow.Author.Tests.{eqb-true}
use Rattle.lists.specs.Lists.{◌within◌}
use Rattle.record.specs.Record.{Record, name_of, written}
use Rattle.record.specs.Stored.{stored}
use Rattle.record.specs.Judgement.{sound}
use Rattle.lists.proofs.Lists.{by, clash}
use Rattle.bench.proofs.Moves.{told-refused, accepted-is, bench-record}
use Rattle.record_rows.specs.row.Row.{Row}
use Rattle.record_rows.specs.grounds.Ground.{Rows, ◌given◌, ◌orelse◌}
use Rattle.record_tables.specs.Table.{decoded, lent_fault, add_edit_fault, add_constraint_fault, unite}
use Rattle.record_tables.specs.Checked.{Checked}
use Rattle.record_tables.proofs.Records.{joined-checked, added-edit-checked, added-constraint-checked, checked-unwritten}
use Rattle.std.specs.Prelude.{Result, Ok, Err}
use Rattle.refusals.specs.declared.Refusal.{Refusal}
use Rattle.refusals.specs.declared.Refusal.TheVariants.{Unsound}
use Rattle.refusals.specs.Numbers.{Gives}
use Rattle.refusals.proofs.Numbers.{number-positive}
use Rattle.record.specs.declared.Record as declared
use Rattle.record_rows.proofs.grounds.Grounds.{orelse-first, orelse-second}
use Rattle.voting.specs.Tally.{Election}
use Rattle.ledger.specs.declared.Bench.{Bench}
use Rattle.ledger.specs.Ledger.{Ledger, Call, add_edit, add_constraint, merge, start, judge, no_election, change, act, refusal, step, fed}
use Rattle.ledger.specs.Bench.{Outcome, bench_of, outcome, Answers}
use Rattle.ledger.proofs.Valid.{Valid, start-valid, fed-valid}
use Rattle.bench.specs.Changes.{KeepsEdits}
use Rattle.ledger.proofs.Pages.{named-name}
use Rattle.bench_edits.specs.Joins.{joined_reply, Joins}
use Rattle.bench_edits.proofs.United.{named-known, union-keeps, union-judged}

-- hidden edits are of the union
pub keeps-within : (L : Ledger) → Valid L → (U : Record) → KeepsEdits L.multilog U → L.hidden within written U
unfolding written
keeps-within L v U keeps x i =
    let w = v.hidden-written x i in
    named-known U.edits x (ap name_of (keeps x w) ∙ named-name L.multilog.edits x w) (λ z. clash (rw z at w) (checked-unwritten L.multilog v.checked))

-- a call that is judged by the number of its rows and then by their union, and that joins these
pub joined-step : (calls : List Call) (bench : Bench) → bench ≡ bench_of (fed start calls) → (joined : Result declared.Record Refusal) (E : Election) (r : Outcome)
    → Joins bench joined E r → (call : Call) (n : ℕ) (U : Record) → judge (fed start calls) call ≡ (n orelse 8 given not (sound U))
    → act (fed start calls) call ≡ change (fed start calls) U (fed start calls).hidden E → Gives n (stored U) joined
    → (n ≡ 0 → Checked U) → (n ≡ 0 → KeepsEdits (fed start calls).multilog U) → r ≡ outcome (step (fed start calls) call)
unfolding Joins joined_reply outcome refusal
joined-step calls bench e (Err refused) E r f call n U j a g k keeps =
    let z : n ≡ 0 → ⊥ = λ q. number-positive refused (g.0 ∙ q) in
    f ∙ told-refused (fed start calls) bench call refused e (g.0 ∙ sym (j ∙ orelse-first n (8 given not (sound U)) z))
joined-step calls bench e (Ok union) E r f call n U j a g k keeps =
    let L = fed start calls in
    let z : n ≡ 0 = sym g.0 in
    let t = f calls U e g.1 (k z) (keeps z) in
    let m : judge L call ≡ 8 given not (sound U) = j ∙ orelse-second n (8 given not (sound U)) z in
    by (sound U)
    (λ (s : sound U ≡ true). accepted-is L call r (m ∙ rw s) (rw s at t ∙ ap outcome (sym a)))
    (λ (s : sound U ≡ false). rw s at t ∙ told-refused L (bench_of L) call Unsound refl (sym (m ∙ rw s)))

-- the three calls
module _ (bench : Bench) (joined : Result declared.Record Refusal) (E : Election) (o : E ≡ no_election) (r : Outcome) (f : Joins bench joined E r) where
  -- a call whose rows have this number and are, without fault, those of S
  joins-call : (call : Call) (fault : Record → ℕ) (S : Record) → ((R : Record) → Checked R → fault R ≡ 0 → Checked (unite R S))
      → ((L : Ledger) → Checked L.multilog → judge L call ≡ (fault L.multilog orelse 8 given not (sound (unite L.multilog S))))
      → ((L : Ledger) → act L call ≡ change L (unite L.multilog S) L.hidden no_election)
      → ((R : Record) → bench.multilog ≡ stored R → Checked R → Gives (fault R) (stored (unite R S)) joined) → Answers bench call r
  unfolding Answers
  joins-call call fault S checked judges acts g calls e =
      let L = fed start calls in
      let k = (fed-valid start calls start-valid).checked in
      let R = L.multilog in
      let a : act L call ≡ change L (unite R S) L.hidden E = acts L ∙ ap (change L (unite R S) L.hidden) (sym o) in
      joined-step calls bench e joined E r f call (fault R) (unite R S) (judges L k) a (g R (bench-record L bench e) k) (checked R k)
      (λ z. union-keeps R S k (checked R k z))

  pub added-edit : (row : Row)
      → ((R : Record) → bench.multilog ≡ stored R → Checked R → Gives (add_edit_fault R row) (stored (unite R (decoded (row ∷ []) []))) joined)
      → Answers bench (add_edit row) r
  unfolding judge act
  added-edit row = joins-call (add_edit row) (λ R. add_edit_fault R row) (decoded (row ∷ []) []) (λ R. added-edit-checked R row) (λ L k. refl) (λ L. refl)

  pub added-constraint : (row : Row)
      → ((R : Record) → bench.multilog ≡ stored R → Checked R → Gives (add_constraint_fault R row) (stored (unite R (decoded [] (row ∷ [])))) joined)
      → Answers bench (add_constraint row) r
  unfolding judge act
  added-constraint row = joins-call (add_constraint row) (λ R. add_constraint_fault R row) (decoded [] (row ∷ [])) (λ R. added-constraint-checked R row) (λ L k. refl) (λ L. refl)

  pub merged : (es cs : Rows)
      → ((R : Record) → bench.multilog ≡ stored R → Checked R → Gives (lent_fault R es cs) (stored (unite R (decoded es cs))) joined)
      → Answers bench (merge es cs) r
  unfolding judge act
  merged es cs =
      joins-call (merge es cs) (λ R. lent_fault R es cs) (decoded es cs) (λ R. joined-checked R es cs)
      (λ L k. let n = lent_fault L.multilog es cs in
      by (eqb n 0) (λ (z : eqb n 0 ≡ true). rw (z, union-judged L.multilog es cs k (eqb-true n 0 z))) (λ (z : eqb n 0 ≡ false). rw z))
      (λ L. refl)
