-- The example of A8, computed, and a computed example against each promise with a premise missing. Assumes nothing.
use mathlib.Core.Path.{◌≡◌, refl, sym, ap, subst, ◌∙◌}
use mathlib.Core.Bool.{Bool, true, false, ◌&&◌, cond}
use mathlib.Core.Logic.{inl, inr}
use mathlib.Core.List.{List, [], ◌∷◌, ◌++◌}
use Prim.Native.Nat.{ℕ, ◌<◌}
use native.Mathlib.Omega.{arith}
use lib.Dec.{eqb}
use Rattle.record.specs.declared.Body.{Body}
use Rattle.record.specs.declared.Body.TheVariants.{Insert}
use Rattle.record.specs.declared.Edit.{Edit}
use Rattle.lists.specs.Lists.{any, all, filter, mem, find, grown, closure, Has}
use Rattle.record.specs.Record.{Record, names, written, is, has}
use Rattle.record.specs.Sound.{Must, Never}
use Rattle.record.specs.Schedule.{needs, musts, ready, order, ring}
use Rattle.record.specs.Judgement.{sound, must, never, ordered, serialised, settled, well_formed}
use Rattle.lists.proofs.Lists.{by, clash, and_l, and_r}
use Rattle.record.proofs.Records.{well-formed}
use Rattle.record.proofs.Judged.{sound-is, must-is, never-is}
use Rattle.lists.specs.Keyed.{precedes, inserted, united}
use Rattle.lists.proofs.Logic.{all-has}
use Rattle.record_rows.specs.row.Row.{same, edit_row, constraint_row}
use Rattle.record_tables.specs.Table.{empty_tables, unite}
use Rattle.voting.specs.declared.RollRow.{RollRow}
use Rattle.voting.specs.Bundle.{leads, members, between, bundle, eligible, vote}
use Rattle.voting.specs.Tally.{same_edit, same_constraint, same_list, same_bundle, ballots, total, weigh, greatest_of, greatest, silent, won, winner_of, winner}
use Rattle.voting.specs.Proposal.{keeps}
use Rattle.voting.proofs.Proposed.{keeps-is}
use Rattle.voting_mergeability.specs.Mergeability.{Voter, SoundTables, OneBody, EachSound, EachOneBody, Sending, HeldElection, Chosen, EachChosen, won_by, won_in, unite_all, Mergeable}
use Rattle.voting_mergeability.specs.Examples.{example_old, example_new, bad, example_roll, sent, holding, elections, Results, Example, WithoutKeeping, half_winner_of, half_won_bundle, WithHalf, WithTwoRolls, aborted, Rivals}
use Rattle.voting_mergeability.proofs.Mergeability.{tables-sound, mergeability}

-- those of the proposals that are sound, with one body to a name
abbrev samples : List Record
samples = example_old ∷ example_new ∷ bad ∷ aborted ∷ []

-- 257 inserts at place 5, 258 at place 6
abbrev sample_body : ℕ → Body
sample_body name = cond (eqb name 257) (Insert 5) (Insert 6)

abbrev on257 : (ℕ → Record) → HeldElection
on257 held = record { edit = 257; held = held }

-- each bench requires 257, and later aborts it
abbrev turned_sent : ℕ → List Record
turned_sent k = example_old ∷ aborted ∷ []

abbrev turned_elections : List HeldElection
turned_elections = on257 (λ k. example_old) ∷ on257 (λ k. aborted) ∷ []

-- bench 1 requires 257, any other aborts it
abbrev rival_sent : ℕ → List Record
rival_sent k = cond (eqb k 1) (example_old ∷ []) (aborted ∷ [])

abbrev rival_elections : List HeldElection
rival_elections = on257 (λ k. cond (eqb k 1) example_old aborted) ∷ []

-- the proposal of one bench has not come yet
abbrev half_elections : List HeldElection
half_elections = on257 (λ k. cond (eqb k 1) example_old empty_tables) ∷ on257 (λ k. cond (eqb k 1) empty_tables aborted) ∷ []

abbrev weights : ℕ → ℕ → List RollRow
weights one two = record { bench = 1; weight = one } ∷ record { bench = 2; weight = two } ∷ []

-- all that is computed
record Computed : Type 0 where
  results : Results
  sound-all : all (λ R. well_formed R && sound R) samples ≡ true
  kept_there : keeps example_old example_new ≡ true
  must-there : must example_old 257 ≡ true
  never-there : never aborted 257 ≡ true
  rivals-formed : well_formed (unite_all empty_tables (example_old ∷ aborted ∷ [])) ≡ true
  rivals-unsound : sound (unite_all empty_tables (example_old ∷ aborted ∷ [])) ≡ false
  -- the votes of one bench that turned; those of two with half each; those of two on two rolls
  turned-won : won_in (weights 1 0) turned_elections ≡ example_old ∷ aborted ∷ []
  half-won : won_by (half_won_bundle (weights 1 1)) half_elections ≡ example_old ∷ aborted ∷ []
  two-rolls-won : (won_in (weights 2 1) rival_elections ++ won_in (weights 1 2) rival_elections) ≡ example_old ∷ aborted ∷ []

computed : Computed
unfolding keeps sound must never settled serialised ordered well_formed ring order ready musts needs names written is has closure grown find any all filter mem ballots vote eligible bundle between members leads same_bundle same_list same_edit same_constraint edit_row constraint_row same won greatest greatest_of silent weigh total winner winner_of half_winner_of won_by unite_all unite united inserted precedes
computed = record {
  results = record { first = refl; second = refl; third = refl; won-bundles = refl; union-is = refl };
  sound-all = refl;
  kept_there = refl;
  must-there = refl;
  never-there = refl;
  rivals-formed = refl;
  rivals-unsound = refl;
  turned-won = refl;
  half-won = refl;
  two-rolls-won = refl;
}

old-sample : Has example_old samples
old-sample = inl refl

new-sample : Has example_new samples
new-sample = inr (inl refl)

bad-sample : Has bad samples
bad-sample = inr (inr (inl refl))

aborted-sample : Has aborted samples
aborted-sample = inr (inr (inr (inl refl)))

-- the proposal of a row of one, and of a row of two
one-sample : {R : Record} → Has R samples → (P : Record) → Has P (R ∷ []) → Has P samples
one-sample h P (inl q) = rw q h
one-sample h P (inr z) = absurd z

two-samples : {R S : Record} → Has R samples → Has S samples → (P : Record) → Has P (R ∷ S ∷ []) → Has P samples
two-samples h i P (inl q) = rw q h
two-samples h i P (inr m) = one-sample i P m

sample-sound : (R : Record) → Has R samples → SoundTables R
sample-sound R h =
    let t = all-has (λ R. well_formed R && sound R) samples computed.sound-all R h in
    let w = well-formed R (and_l _ _ t) in
    record { formed = w; has-schedule = (sound-is R w).0 (and_r (well_formed R) _ t) }

-- the edits of all of them
abbrev edits : List Edit
edits = example_new.edits

old-edit : (e : Edit) → Has e example_old.edits → Has e edits
old-edit e (inl q) = inl q
old-edit e (inr z) = absurd z

sample-edits : (R : Record) → Has R samples → (e : Edit) → Has e R.edits → Has e edits
sample-edits R (inl q) e m = old-edit e (rw q at m)
sample-edits R (inr (inl q)) e m = rw q at m
sample-edits R (inr (inr (inl q))) e m = rw q at m
sample-edits R (inr (inr (inr (inl q)))) e m = old-edit e (rw q at m)
sample-edits R (inr (inr (inr (inr z)))) e m = absurd z

body_is : (e : Edit) → Has e edits → e.body ≡ sample_body e.name
body_is e (inl q) = rw q refl
body_is e (inr (inl q)) = rw q refl
body_is e (inr (inr z)) = absurd z

sample-bodies : (P Q : Record) → Has P samples → Has Q samples → OneBody P Q
unfolding OneBody
sample-bodies P Q h i d e m n q = body_is d (sample-edits P h d m) ∙ (ap sample_body q ∙ sym (body_is e (sample-edits Q i e n)))

-- what is asked of the rows where every proposal is one of these
abbrev AllSamples : List RollRow → (ℕ → List Record) → Type 0
AllSamples example_roll sent = (k : ℕ) → Voter example_roll k → (P : Record) → Has P (sent k) → Has P samples

module _ (example_roll : List RollRow) (sent : ℕ → List Record) (f : AllSamples example_roll sent) where
  samples-sound : EachSound example_roll sent
  samples-sound k v P h = sample-sound P (f k v P h)

  samples-one-body : EachOneBody example_roll sent
  samples-one-body j k v w P Q h i = sample-bodies P Q (f j v P h) (f k w Q i)

-- the benches of the example that are voters
voters {ℓ} : {Z : Type ℓ} (k : ℕ) → Voter example_roll k → (k ≡ 1 → Z) → (k ≡ 2 → Z) → (k ≡ 3 → Z) → Z
voters {Z} k v f g h = go v.row v.listed v.own v.weighs
  where
    go : (r : RollRow) → Has r example_roll → r.bench ≡ k → 0 < r.weight → Z
    go r (inl q) o w = f (sym o ∙ ap (λ x. x.bench) q)
    go r (inr (inl q)) o w = g (sym o ∙ ap (λ x. x.bench) q)
    go r (inr (inr (inl q))) o w = h (sym o ∙ ap (λ x. x.bench) q)
    go r (inr (inr (inr (inl q)))) o w = absurd (let z = ap (λ x. x.weight) q in omega arith)
    go r (inr (inr (inr (inr z)))) o w = absurd z

sent-samples : AllSamples example_roll sent
sent-samples k v P h =
    voters k v (λ e. two-samples old-sample new-sample P (rw e at h)) (λ e. one-sample bad-sample P (rw e at h)) (λ e. one-sample new-sample P (rw e at h))

premises : Sending example_roll sent
premises = record {
  each-sound = samples-sound example_roll sent sent-samples;
  each-kept = λ k v. voters k v (λ e. rw e ((keeps-is example_old example_new).0 computed.kept_there, tt)) (λ e. rw e tt) (λ e. rw e tt);
  each-one-body = samples-one-body example_roll sent sent-samples;
}

held-chosen : (P : Record) → Has P (example_old ∷ example_new ∷ []) → Chosen example_roll sent (holding P)
unfolding Chosen
held-chosen P h k v =
    voters k v
    (λ e. subst (λ (i : ℕ). Has (holding P i) (empty_tables ∷ sent i)) (sym e) (inr h))
    (λ e. subst (λ (i : ℕ). Has (holding P i) (empty_tables ∷ sent i)) (sym e) (inr (inl refl)))
    (λ e. subst (λ (i : ℕ). Has (holding P i) (empty_tables ∷ sent i)) (sym e) (inr (inl refl)))

choices : EachChosen example_roll sent elections
choices x (inl q) = rw q (held-chosen example_old (inl refl))
choices x (inr (inl q)) = rw q (held-chosen example_old (inl refl))
choices x (inr (inr (inl q))) = rw q (held-chosen example_new (inr (inl refl)))
choices x (inr (inr (inr z))) = absurd z

-- The example.
pub example : Example
example = record {
  premises = premises;
  choices = choices;
  results = computed.results;
  mergeable = rw (← computed.results.won-bundles) (mergeability premises elections choices);
}

must-old : Must example_old 257
must-old = let s = sample-sound example_old old-sample in (must-is example_old s.formed (tables-sound s) 257).0 computed.must-there

never-aborted : Never aborted 257
never-aborted = (never-is aborted (sample-sound aborted aborted-sample).formed 257).0 computed.never-there

not-mergeable : Mergeable (example_old ∷ aborted ∷ []) → ⊥
unfolding written mem
not-mergeable m = m.no-rivals aborted example_old (inr (inl refl)) (inl refl) 257 refl never-aborted must-old

-- The two bundles against which each premise is needed.
pub rivals : Rivals
rivals = record {
  unsound = λ s. clash ((sound-is _ (well-formed _ computed.rivals-formed)).1 s) computed.rivals-unsound;
  must-old = must-old;
  never-aborted = never-aborted;
  not-mergeable = not-mergeable;
}

turned-samples : (example_roll : List RollRow) → AllSamples example_roll turned_sent
turned-samples example_roll k v = two-samples old-sample aborted-sample

pub keeping-needed : WithoutKeeping → ⊥
unfolding Chosen
keeping-needed f =
    not-mergeable (rw (← computed.turned-won)
    (f (weights 1 0) turned_sent turned_elections
    (samples-sound (weights 1 0) turned_sent (turned-samples _)) (samples-one-body (weights 1 0) turned_sent (turned-samples _)) chosen))
  where
    chosen : EachChosen (weights 1 0) turned_sent turned_elections
    chosen x (inl q) = rw q (λ k v. inr (inl refl))
    chosen x (inr (inl q)) = rw q (λ k v. inr (inr (inl refl)))
    chosen x (inr (inr z)) = absurd z

rival-samples : (example_roll : List RollRow) → AllSamples example_roll rival_sent
rival-samples example_roll k v P h = by (eqb k 1) (λ e. one-sample old-sample P (rw e at h)) (λ e. one-sample aborted-sample P (rw e at h))

rival-premises : (example_roll : List RollRow) → Sending example_roll rival_sent
rival-premises example_roll = record {
  each-sound = samples-sound example_roll rival_sent (rival-samples example_roll);
  each-kept = λ k v. by (eqb k 1) (λ e. rw e tt) (λ e. rw e tt);
  each-one-body = samples-one-body example_roll rival_sent (rival-samples example_roll);
}

-- what each of two benches holds is the empty proposal or what it sent
one-sent : (b : Bool) → Has (cond b example_old empty_tables) (empty_tables ∷ cond b (example_old ∷ []) (aborted ∷ []))
one-sent true = inr (inl refl)
one-sent false = inl refl

other-sent : (b : Bool) → Has (cond b empty_tables aborted) (empty_tables ∷ cond b (example_old ∷ []) (aborted ∷ []))
other-sent true = inl refl
other-sent false = inr (inl refl)

both-sent : (b : Bool) → Has (cond b example_old aborted) (empty_tables ∷ cond b (example_old ∷ []) (aborted ∷ []))
both-sent true = inr (inl refl)
both-sent false = inr (inl refl)

pub majority-needed : WithHalf → ⊥
unfolding Chosen
majority-needed f = not-mergeable (rw (← computed.half-won) (f (weights 1 1) rival_sent half_elections (rival-premises _) chosen))
  where
    chosen : EachChosen (weights 1 1) rival_sent half_elections
    chosen x (inl q) = subst (λ (y : HeldElection). Chosen (weights 1 1) rival_sent y.held) (sym q) (λ k v. one-sent (eqb k 1))
    chosen x (inr (inl q)) = subst (λ (y : HeldElection). Chosen (weights 1 1) rival_sent y.held) (sym q) (λ k v. other-sent (eqb k 1))
    chosen x (inr (inr z)) = absurd z

pub one-roll-needed : WithTwoRolls → ⊥
unfolding Chosen
one-roll-needed f =
    not-mergeable (rw (← computed.two-rolls-won)
    (f (weights 2 1) (weights 1 2) rival_sent rival_elections rival_elections (rival-premises _) (rival-premises _) (chosen _) (chosen _)))
  where
    chosen : (example_roll : List RollRow) → EachChosen example_roll rival_sent rival_elections
    chosen example_roll x (inl q) = subst (λ (y : HeldElection). Chosen example_roll rival_sent y.held) (sym q) (λ k v. both-sent (eqb k 1))
    chosen example_roll x (inr z) = absurd z
