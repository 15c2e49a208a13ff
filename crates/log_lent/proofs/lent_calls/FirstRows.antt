-- Nine rows of a roll are enough: with them it is faulty already, and later rows change no answer. Assumes nothing.
use mathlib.Core.Path.{◌≡◌, refl, sym, ap, ◌∙◌}
use mathlib.Core.Bool.{true}
use mathlib.Core.List.{List, []}
use Prim.Native.Nat.{ℕ, ◌≤◌}
use native.Mathlib.Omega.{arith}
use lib.ListN.{length, take}
use lib.Seq.{take_all, length-take-le}
use Rattle.lists.proofs.Lists.{by, clash, le-by}
use Rattle.record_rows.proofs.grounds.Grounds.{orelse-first}
use Rattle.voting.specs.declared.RollRow.{RollRow}
use Rattle.voting.specs.Tally.{winner}
use Rattle.voting_roll.specs.Roll.{roll_faulty}
use Rattle.voting_roll.specs.Election.{Proposals, election_fault, cast}
use Rattle.voting_count.specs.Count.{refused_count, count_of}
use Rattle.voting_count.specs.Tallied.{tallied_of}
use Rattle.voting_count.proofs.Answers.{count-refused}
use Rattle.voting_count.proofs.Rolled.{rows_few}
use Rattle.voting_count.proofs.Tallied.{grounds-alike, accepted-roll, tallied-refused}
use Rattle.ledger.specs.declared.Bench.{Bench}
use Rattle.ledger.specs.Ledger.{Ledger, adopt, start, fed, bundle_fault, judge, call_detail, refusal, step}
use Rattle.ledger.specs.Bench.{Outcome, outcome, Answers}
use Rattle.ledger.proofs.Undone.{step-refused}
use Rattle.log_lent.specs.Lent.{roll_places}

faulty-by-length : (rows : List RollRow) → roll_places ≤ length rows → roll_faulty rows ≡ true
faulty-by-length rows h = by (roll_faulty rows) (λ e. e) (λ f. absurd (omega (arith, rows_few rows f)))

module _ (x : ℕ) (P : Proposals) where
  faulty-refused : (a : List RollRow) → roll_faulty a ≡ true → election_fault x P a ≡ 0 → ⊥
  faulty-refused a p z = clash p (accepted-roll x P a z)

  -- an adoption whose election is refused
  module _ (L : Ledger) (rows : List RollRow) (n : ℕ) (q : n ≡ election_fault x P rows) (h : n ≡ 0 → ⊥) where
    adoption-judged : judge L (adopt x P rows) ≡ n
    unfolding judge
    adoption-judged = orelse-first (election_fault x P rows) (bundle_fault L.multilog (winner (cast x P rows))) (λ z. h (q ∙ z)) ∙ sym q

    adoption-refused : refusal L n 0 ≡ step L (adopt x P rows)
    unfolding call_detail
    adoption-refused = sym (step-refused L (adopt x P rows) (λ z. h (sym adoption-judged ∙ z)) ∙ ap (λ k. refusal L k 0) adoption-judged)

  module _ (roll : List RollRow) where
    -- an answer that is its refusal's where the election is refused
    first-answered : {A : Type 0} (answer : List RollRow → A) (refused : ℕ → A)
        → ((rows : List RollRow) (n : ℕ) → n ≡ election_fault x P rows → (n ≡ 0 → ⊥) → refused n ≡ answer rows) → answer (take roll_places roll) ≡ answer roll
    first-answered answer refused f = le-by roll_places (length roll)
        (λ h. let rows = take roll_places roll in
        let p = faulty-by-length rows (let e = length-take-le roll_places roll h in omega arith) in
        let r = faulty-refused rows p in
        sym (f rows (election_fault x P rows) refl r) ∙ f roll (election_fault x P rows) (grounds-alike x P rows roll (p ∙ sym (faulty-by-length roll h))) r)
        (λ h. ap answer (take_all roll_places roll (omega arith)))

    pub first_counted : count_of x P (take roll_places roll) ≡ count_of x P roll
    first_counted = first-answered (count_of x P) refused_count (count-refused x P)

    pub first-tallied : tallied_of x P (take roll_places roll) ≡ tallied_of x P roll
    first-tallied = first-answered (tallied_of x P) (λ n. record { number = n; answers = [] }) (tallied-refused x P)

    first-stepped : (L : Ledger) → step L (adopt x P (take roll_places roll)) ≡ step L (adopt x P roll)
    first-stepped L = first-answered (λ rows. step L (adopt x P rows)) (λ n. refusal L n 0) (adoption-refused L)

    pub first-adopted : (bench : Bench) (r : Outcome) → Answers bench (adopt x P (take roll_places roll)) r → Answers bench (adopt x P roll) r
    unfolding Answers
    first-adopted bench r a = λ calls e. a calls e ∙ ap outcome (first-stepped (fed start calls))
