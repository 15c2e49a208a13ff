-- An adoption as the code judges it is the ledger's step. Assumes nothing.
use mathlib.Core.Path.{◌≡◌, refl, sym, ap, ◌∙◌}
use mathlib.Core.Bool.{true, false}
use mathlib.Core.List.{List}
use mathlib.Core.Option.{Option, none, some}
use Prim.Native.Nat.{ℕ}
use lib.Dec.{eqb}
use borrow.Author.Tests.{eqb-true, eqb-false}
use Rattle.record.specs.declared.Record as declared
use Rattle.record.specs.Record.{Record}
use Rattle.record.specs.Stored.{stored}
use Rattle.lists.proofs.Lists.{by}
use Rattle.record_tables.specs.Table.{record_join_fault, unite}
use Rattle.record_tables.specs.Checked.{Checked}
use Rattle.record_tables.proofs.Records.{record-checked}
use Rattle.std.specs.Prelude.{Some, None, Result, Err, IfOk, not}
use Rattle.refusals.specs.declared.Refusal.{Refusal}
use Rattle.refusals.specs.Numbers.{number, Gives}
use Rattle.refusals.proofs.Numbers.{number-positive}
use Rattle.record.specs.Judgement.{sound}
use Rattle.record_rows.specs.grounds.Ground.{◌given◌, ◌orelse◌}
use Rattle.record_rows.proofs.grounds.Grounds.{orelse-first}
use Rattle.voting.specs.declared.RollRow.{RollRow}
use Rattle.voting.specs.Tally.{Election, winner}
use Rattle.voting_roll.specs.Election.{Proposals, election_fault, cast, counted, election_of}
use Rattle.voting_tally.specs.Groups.{held_bundle}
use Rattle.ledger.specs.declared.Bench.{Bench}
use Rattle.ledger.specs.Ledger.{Call, CallAnswer, adopt, accepted_answer, start, judge, adopted, act, change, step, fed}
use Rattle.voting_count.specs.declared.Counted.{Counted}
use Rattle.voting_count.specs.Count.{Count, count_told, count_of}
use Rattle.bench_adoption.specs.Adopts.{Adopts}
use Rattle.ledger.specs.Bench.{Outcome, Answers, bench_of, outcome, told_outcome}
use Rattle.ledger.proofs.Valid.{start-valid, fed-valid}
use Rattle.bench.proofs.Moves.{told-refused, accepted-is, bench-record}
use Rattle.bench_edits.specs.Joins.{Joins}
use Rattle.bench_edits.proofs.United.{union-keeps}
use Rattle.bench_edits.proofs.Rows.{joined-step}

-- the won bundle as the count gives it
held-none : (o : Option Record) → None ≡ held_bundle o → o ≡ none
held-none none e = refl
held-none (some B) e = cc

held-by {ℓ} : {T : Type ℓ} (o : Option Record) (bundle : declared.Record) → Some bundle ≡ held_bundle o → ((B : Record) → o ≡ some B → bundle ≡ stored B → T) → T
held-by none bundle e f = cc
held-by (some B) bundle e f = f B refl cc

module _ (e : ℕ) (P : Proposals) (roll : List RollRow) (E : Election) (h : E ≡ election_of e P roll) where
  -- an election that is refused gives its number
  refused-number : (E.number ≡ 0 → ⊥) → (E.number ≡ election_fault e P roll) × (election_fault e P roll ≡ 0 → ⊥)
  unfolding election_of
  refused-number z =
      by (eqb (election_fault e P roll) 0)
      (λ (q : eqb (election_fault e P roll) 0 ≡ true). absurd (z (ap (λ (x : Election). x.number) (rw q at h))))
      (λ (q : eqb (election_fault e P roll) 0 ≡ false). (ap (λ (x : Election). x.number) (rw q at h), eqb-false (election_fault e P roll) 0 q))

  accepted-count : E.number ≡ 0 → (election_fault e P roll ≡ 0) × (E ≡ counted (cast e P roll))
  unfolding election_of
  accepted-count z =
      by (eqb (election_fault e P roll) 0)
      (λ (q : eqb (election_fault e P roll) 0 ≡ true). (eqb-true (election_fault e P roll) 0 q, rw q at h))
      (λ (q : eqb (election_fault e P roll) 0 ≡ false). absurd (eqb-false (election_fault e P roll) 0 q (sym (ap (λ (x : Election). x.number) (rw q at h)) ∙ z)))

  module _ (calls : List Call) (bench : Bench) (b : bench ≡ bench_of (fed start calls)) where
    pub adopt-refused : (refusal : Refusal) → number refusal ≡ E.number → told_outcome (Err refusal) bench ≡ outcome (step (fed start calls) (adopt e P roll))
    unfolding judge
    adopt-refused refusal r =
        let k = refused-number (λ q. number-positive refusal (r ∙ q)) in
        told-refused (fed start calls) bench (adopt e P roll) refusal b (r ∙ k.0 ∙ sym (orelse-first (election_fault e P roll) _ k.1))

    pub adopt-open : E.number ≡ 0 → None ≡ held_bundle (winner (cast e P roll)) → (a : CallAnswer) → a ≡ accepted_answer 0 0 E
        → record { answer = a; bench = bench } ≡ outcome (step (fed start calls) (adopt e P roll))
    unfolding judge act outcome
    adopt-open z w a q =
        let k = accepted-count z in
        let o = held-none (winner (cast e P roll)) w in
        accepted-is (fed start calls) (adopt e P roll) _ (rw (k.0, o))
        ((λ i. record { answer = (q ∙ ap (accepted_answer 0 0) k.1) i; bench = b i }) ∙ ap (λ (x : Option Record). outcome (adopted (fed start calls) (counted (cast e P roll)) x)) (sym o))

    -- a won bundle that joins
    pub adopt-won : (bundle : declared.Record) (joined : Result declared.Record Refusal) (r : Outcome) → E.number ≡ 0 → Some bundle ≡ held_bundle (winner (cast e P roll))
        → ((R S : Record) → bench.multilog ≡ stored R → Checked R → bundle ≡ stored S → Gives (record_join_fault R S) (stored (unite R S)) joined)
        → Joins bench joined E r → r ≡ outcome (step (fed start calls) (adopt e P roll))
    unfolding judge act
    adopt-won bundle joined r z w g f =
        let L = fed start calls in
        let R = L.multilog in
        let v = fed-valid start calls start-valid in
        let k = accepted-count z in
        held-by (winner (cast e P roll)) bundle w (λ B q s.
        let c : record_join_fault R B ≡ 0 → Checked (unite R B) = record-checked R B v.checked in
        let j : judge L (adopt e P roll) ≡ (record_join_fault R B orelse 8 given not (sound (unite R B))) = rw (k.0, q) in
        let a : act L (adopt e P roll) ≡ change L (unite R B) L.hidden E = rw (q, ← k.1) in
        joined-step calls bench b joined E r f (adopt e P roll) (record_join_fault R B) (unite R B) j a (g R B (bench-record L bench b) v.checked s) c
        (λ x. union-keeps R B v.checked (c x)))

-- A count and what follows it make the ledger's step.
pub adopt-answers : (bench : Bench) (e : ℕ) (P : Proposals) (rows : List RollRow) (c : Result Counted Refusal) (r : Outcome) → count_told c ≡ count_of e P rows
    → IfOk c (λ x. x.bundle ≡ held_bundle (winner (cast e P rows))) → Adopts bench c r → Answers bench (adopt e P rows) r
unfolding Answers Adopts count_of
adopt-answers bench e P rows c r q h a calls b = a calls e P rows b (ap (λ (x : Count). x.election) q) h
