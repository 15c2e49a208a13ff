-- Laws of the answers that are measured. Assumes nothing.
use mathlib.Core.Path.{◌≡◌, refl, ap}
use mathlib.Core.Bool.{cond}
use mathlib.Core.List.{List, [], ◌∷◌}
use Prim.Native.Nat.{ℕ, ◌+◌}
use Rattle.record_rows.specs.grounds.Ground.{Rows}
use Rattle.ledger.specs.declared.Bench.{Bench}
use Rattle.ledger.specs.Ledger.{merge, start, fed}
use Rattle.ledger.specs.Bench.{Outcome, Answers, bench_of, outcome}
use Rattle.voting.specs.Tally.{Election, election_told}
use Rattle.voting_roll.specs.Election.{election_of}
use Rattle.voting_count.specs.Count.{lent_proposals}
use Rattle.benchmark_entry.specs.declared.Merged.{Merged}
use Rattle.benchmark_entry.specs.declared.Elected.{Elected}
use native.Mathlib.Omega.{arith}
use lib.ListN.{length}
use borrow.Author.Tests.{ne_eqb}
use Rattle.std.specs.Prelude.{Err}
use Rattle.refusals.specs.declared.Refusal.{Refusal}
use Rattle.refusals.specs.Numbers.{number}
use Rattle.refusals.proofs.Numbers.{number-positive}
use Rattle.record.specs.declared.Schedule.{Schedule}
use Rattle.record_tables.specs.Table.{decoded}
use Rattle.judgement.specs.declared.lent_record.Judgement.{Judgement}
use Rattle.judgement.specs.lent_record.Lent.{record_fault, judgement_is}
use Rattle.judgement.specs.Judged.{stored_schedule}
use Rattle.text_reasons.specs.ReasonLine.{explained, explained_fault}
use Rattle.benchmark_entry.specs.declared.Scheduled.{Scheduled}
use Rattle.benchmark_entry.specs.declared.Explained.{Explained}
use Rattle.benchmark_entry.specs.Measured.{judgement_numbers, refused_judgement, judged_numbers, scheduled_of, merged_of, equal_seats, halves, elected_of, explained_of}

-- two merges, the second on the bench that the first left
pub merged-twice : (bench : Bench) (first second : Outcome) (E C F D : Rows) → bench ≡ bench_of start → Answers bench (merge E C) first → Answers first.bench (merge F D) second
    → ◌≡◌ {A = Merged} (record { number = second.answer.number; undone = second.answer.undone; redone = second.answer.redone }) (merged_of E C F D)
unfolding merged_of Answers outcome fed
merged-twice bench first second E C F D e a b =
    let q = b (merge E C ∷ []) (ap (λ (r : Outcome). r.bench) (a [] e)) in
    λ i. record { number = (q i).answer.number; undone = (q i).answer.undone; redone = (q i).answer.redone }

pub measured-election : (x : ℕ) (E C F D : Rows) (a : Election) → a ≡ election_of x (lent_proposals (halves E F) (halves C D)) equal_seats → (won : ℕ) → won ≡ cond a.won 1 0
    → ◌≡◌ {A = Elected} (record { number = a.number; won = won; greatest = a.greatest; silent = a.silent; total = a.total }) (elected_of x E C F D)
unfolding elected_of
measured-election x E C F D a e won w = rw (w, e) refl

pub election-refused : (x : ℕ) (E C F D : Rows) (refusal : Refusal) → election_told (Err refusal) ≡ election_of x (lent_proposals (halves E F) (halves C D)) equal_seats → (n : ℕ) → n ≡ number refusal
    → ◌≡◌ {A = Elected} (record { number = n; won = 0; greatest = 0; silent = 0; total = 0 }) (elected_of x E C F D)
election-refused x E C F D refusal e n q = rw q (measured-election x E C F D (election_told (Err refusal)) e 0 refl)

-- the judgement of a lent record, its schedule, and the line of a reason, as the code answers them
module _ (E C : Rows) where
  pub judged-ok : (j : Judgement) → 0 ≡ record_fault E C → j ≡ judgement_is (decoded E C) → judgement_numbers j ≡ judged_numbers E C
  unfolding judged_numbers
  judged-ok j z q = rw (← z, q)

  pub judged-refused : {n : ℕ} (refusal : Refusal) → n ≡ number refusal → number refusal ≡ record_fault E C → refused_judgement n ≡ judged_numbers E C
  unfolding judged_numbers
  judged-refused refusal e h = rw (e, ← h, ne_eqb (number refusal) 0 (number-positive refusal))

  pub scheduled-ok : (s : Schedule) → 0 ≡ record_fault E C → s ≡ stored_schedule (decoded E C) [] → ◌≡◌ {A = Scheduled} (record { number = 0; count = s.count }) (scheduled_of E C)
  unfolding scheduled_of
  scheduled-ok s z q = rw (← z, q)

  pub scheduled-refused : {n : ℕ} (refusal : Refusal) → n ≡ number refusal → number refusal ≡ record_fault E C → ◌≡◌ {A = Scheduled} (record { number = n; count = 0 }) (scheduled_of E C)
  unfolding scheduled_of
  scheduled-refused refusal e h = rw (e, ← h, ne_eqb (number refusal) 0 (number-positive refusal))

  module _ (x : ℕ) (out : List ℕ) where
    pub explained-ok : {size : ℕ} → 0 ≡ explained_fault E C x 0 out → size ≡ 0 + length (explained E C x) → ◌≡◌ {A = Explained} (record { number = 0; size = size }) (explained_of x E C out)
    unfolding explained_of
    explained-ok z q = let l : 0 + length (explained E C x) ≡ length (explained E C x) = omega arith in rw (← z, q, l)

    pub explained-refused : {n : ℕ} (refusal : Refusal) → n ≡ number refusal → number refusal ≡ explained_fault E C x 0 out → ◌≡◌ {A = Explained} (record { number = n; size = 0 }) (explained_of x E C out)
    unfolding explained_of
    explained-refused refusal e h = rw (e, ← h, ne_eqb (number refusal) 0 (number-positive refusal))
