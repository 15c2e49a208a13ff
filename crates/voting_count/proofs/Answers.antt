-- The answer of a count by its grounds. Assumes nothing.
use mathlib.Core.Path.{◌≡◌, refl, sym, ap, ◌∙◌}
use mathlib.Core.Bool.{Bool, true, false, not, cond}
use Rattle.std.specs.Prelude.{Option as Given, unwrap_or, Ok, Err}
use mathlib.Core.List.{List}
use Prim.Native.Nat.{ℕ}
use lib.Dec.{eqb}
use borrow.Author.Tests.{ne_eqb}
use Rattle.record.specs.declared.Record as declared
use Rattle.lists.specs.Lists.{any, all, mem}
use Rattle.record.specs.Record.{written}
use Rattle.record.specs.Stored.{empty_record}
use Rattle.record_rows.specs.grounds.Ground.{◌given◌, ◌orelse◌}
use Rattle.record_rows.proofs.grounds.Grounds.{orelse-first, orelse-assoc}
use Rattle.record.specs.Judgement.{sound}
use Rattle.record_rows.specs.row.Row.{is_name}
use Rattle.record_rows.proofs.row.Cells.{name-taken, name-refused}
use Rattle.refusals.specs.declared.Refusal.{Refusal}
use Rattle.refusals.specs.declared.Refusal.TheVariants.{OutOfRange}
use Rattle.refusals.specs.Numbers.{number}
use Rattle.refusals.proofs.Numbers.{number-positive}
use Rattle.voting.specs.declared.RollRow.{RollRow}
use Rattle.voting.specs.Tally.{winner, election_told}
use Rattle.voting_roll.specs.Roll.{roll_faulty}
use Rattle.voting_tally.specs.declared.Tally.{Tally}
use Rattle.voting_tally.specs.Groups.{tally_of, winner_stored, held_bundle}
use Rattle.voting_tally.proofs.Winners.{winner-held}
use Rattle.voting_count.specs.Count.{Faultless, refused_count, count_told, count_of}
use Rattle.voting_count.specs.Counting.{known_name_fault, whole_fault}
use Rattle.voting_roll.specs.Election.{Proposals, held, proposal_fault, first_given, benches, election_fault, cast, refused_election, election_of}

-- the faults of the whole call, where no row of the proposals has one
module _ (e : ℕ) (P : Proposals) where
  pub name-no-name : {r : Refusal} → Err r ≡ cond (is_name e) (Ok e) (Err OutOfRange) → number r ≡ known_name_fault e P
  unfolding known_name_fault
  name-no-name q = let n = name-refused e q in rw (n.1, n.0)

  module _ (z : Faultless P) {x : ℕ} (q : Ok x ≡ cond (is_name e) (Ok e) (Err OutOfRange)) {known : Bool} (told : Faultless P → known ≡ any (λ k. mem x (written (held P k))) benches) where
    knows : {b : Bool} → known ≡ b → any (λ k. mem e (written (held P k))) benches ≡ b
    knows k = rw (name-taken e q).1 at (sym (told z) ∙ k)

    pub name-unknown : known ≡ false → 5 ≡ known_name_fault e P
    unfolding known_name_fault
    name-unknown k = rw ((name-taken e q).0, knows k)

    pub name-known : known ≡ true → (0 ≡ known_name_fault e P) × (x ≡ e)
    unfolding known_name_fault
    name-known k = (rw ((name-taken e q).0, knows k), (name-taken e q).1)

  pub whole-of-name : {n : ℕ} → n ≡ known_name_fault e P → (n ≡ 0 → ⊥) → n ≡ whole_fault e P
  unfolding whole_fault
  whole-of-name q h = q ∙ sym (orelse-first (known_name_fault e P) (8 given not (all (λ k. sound (held P k)) benches)) (λ z. h (q ∙ z)))

  pub whole-of-sound : {b : Bool} → 0 ≡ known_name_fault e P → b ≡ all (λ k. sound (held P k)) benches → 8 given not b ≡ whole_fault e P
  unfolding whole_fault
  whole-of-sound q s = rw (s, ← q) refl

module _ (e : ℕ) (P : Proposals) (rows : List RollRow) where
  pub count-rows-refused : (r : Refusal) → number r ≡ first_given (proposal_fault P) benches → number r ≡ election_fault e P rows
  unfolding election_fault
  count-rows-refused r q =
      let z : eqb (first_given (proposal_fault P) benches) 0 ≡ false = ne_eqb (first_given (proposal_fault P) benches) 0 (λ y. number-positive r (q ∙ y)) in rw z q

  -- the grounds, where no row of the proposals has one: the roll's, then those of the whole call
  pub grounds-left : {n : ℕ} → 0 ≡ first_given (proposal_fault P) benches → n ≡ whole_fault e P → 14 given roll_faulty rows orelse n ≡ election_fault e P rows
  unfolding election_fault whole_fault known_name_fault
  grounds-left z q = rw (q, ← z) (ap (λ m. 14 given roll_faulty rows orelse m) (sym (orelse-assoc (2 given not (is_name e)) _ _)))

  pub election-answered : 0 ≡ election_fault e P rows → (t : Tally) → t ≡ tally_of (cast e P rows) → election_told (Ok t.election) ≡ election_of e P rows
  unfolding election_of tally_of
  election-answered z t q = rw (sym z) (ap (λ (t : Tally). election_told (Ok t.election)) q)

  pub election-faulty : (n : ℕ) → n ≡ election_fault e P rows → (n ≡ 0 → ⊥) → refused_election n ≡ election_of e P rows
  unfolding election_of
  election-faulty n q h = let z : eqb (election_fault e P rows) 0 ≡ false = ne_eqb (election_fault e P rows) 0 (λ y. h (q ∙ y)) in rw (z, q)

  pub count-answered : 0 ≡ election_fault e P rows → (t : Tally) → t ≡ tally_of (cast e P rows) → (w : Given declared.Record) → w ≡ held_bundle (winner (cast e P rows))
      → count_told (Ok (record { election = t.election; bundle = w })) ≡ count_of e P rows
  unfolding count_of
  count-answered z t q w p =
      let x = election-answered z t q in
      let y : unwrap_or w empty_record ≡ winner_stored (winner (cast e P rows)) = rw p (winner-held (winner (cast e P rows))) in
      rw (sym z) (λ i. record { election = x i; bundle = y i })

  pub count-refused : (n : ℕ) → n ≡ election_fault e P rows → (n ≡ 0 → ⊥) → refused_count n ≡ count_of e P rows
  unfolding count_of
  count-refused n q h =
      let z : eqb (election_fault e P rows) 0 ≡ false = ne_eqb (election_fault e P rows) 0 (λ y. h (q ∙ y)) in
      let x = election-faulty n q h in
      rw z (λ i. record { election = x i; bundle = empty_record })
