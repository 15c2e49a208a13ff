-- What an election has won: a bundle of a checked proposal, which has the edit; and its text. Assumes nothing.
use mathlib.Core.Path.{◌≡◌, refl, sym, ap, ◌∙◌}
use mathlib.Core.Bool.{Bool, true, false, not, ◌&&◌, cond}
use mathlib.Core.Logic.{inl, inr}
use mathlib.Core.List.{List, [], ◌∷◌, ◌++◌, append-nil}
use Rattle.std.specs.Prelude.{Option as Given, Some, Ok, unwrap_or}
use mathlib.Core.Option.{Option, none, some}
use Prim.Native.Nat.{ℕ, ◌+◌, ◌*◌, ◌-◌, ◌≤◌, ◌<◌}
use native.Mathlib.Omega.{arith}
use lib.Dec.{eqb, ltb}
use lib.ListN.{get_or}
use borrow.Author.Tests.{eqb-true, not-false}
use Rattle.lists.specs.Lists.{Has, any, all, mem, index_of, ◌among◌}
use Rattle.lists.proofs.Lists.{by, clash, and_l, and_r, or-by, or-no-l, mem_index, all_in}
use Rattle.lists.proofs.Logic.{all-has, has-get_or}
use Rattle.record.specs.declared.Record as declared
use Rattle.record.specs.Record.{Record, names, written, WellFormed}
use Rattle.record.specs.Stored.{stored, record_of, empty_record}
use Rattle.record.specs.Judgement.{sound, must, never, serialised, settled}
use Rattle.record.proofs.Records.{written-names}
use Rattle.record.proofs.Judged.{sound-no-both}
use Rattle.record_rows.specs.row.Row.{is_name}
use Rattle.record_rows.specs.grounds.Ground.{◌given◌, ◌orelse◌}
use Rattle.record_rows.proofs.grounds.Grounds.{orelse-none, given-none}
use Rattle.record_tables.specs.Checked.{Checked}
use Rattle.record_tables.proofs.Tables.{stored_back}
use Rattle.graph.specs.links.Marks.{marks_of, place_in}
use Rattle.graph.specs.indexes.Fit.{Fit}
use Rattle.graph.proofs.links.Names.{place-known, get_or-place}
use Rattle.graph.proofs.links.Marks.{marks-at}
use Rattle.graph.proofs.indexes.Fit.{checked-fit}
use Rattle.voting.specs.declared.RollRow.{RollRow}
use Rattle.voting.specs.Bundle.{bundle, eligible, vote}
use Rattle.voting.specs.Tally.{Ballot, ballots, total, group, won, winner_of, winner}
use Rattle.voting.proofs.Bundles.{member-self, written-bundle, bundle-sound}
use Rattle.voting.proofs.Elections.{open_is}
use Rattle.voting_bundles.proofs.Judging.{bundle-fit}
use Rattle.voting_roll.specs.Roll.{is_bench, roll_faulty}
use Rattle.voting_roll.specs.Election.{Proposals, held, proposal_fault, first_given, benches, election_fault, cast, election_of}
use Rattle.voting_count.specs.declared.Counted.{Counted}
use Rattle.voting_count.specs.Count.{Faultless, Count, count_told, count_of}
use Rattle.voting_count.proofs.Benches.{bench-at}
use Rattle.voting_count.proofs.Proposals.{held-checked, bench-faultless, proposal-bench-low}
use Rattle.log_forms.specs.declared.Printer.{Printer}
use Rattle.log_forms.specs.Printed.{Texts, Printed}
use Rattle.log_forms.proofs.Printing.{printed-both}
use Rattle.log_answers.specs.Answers.{answer_line, stored_text, bit}
use Rattle.log_session.specs.declared.winners.Verdict.{Verdict}
use Rattle.log_session.specs.votes.Votes.{election_line, won_text, winner_text}
use Rattle.lists.proofs.Tests.{bit_is}

-- what holds of every vote holds of the winner
pub winner-holds : (Q : Record → Type 0) (l : List Ballot) (held : ℕ → Record) (e : ℕ) (rows : List RollRow)
    → ((row : RollRow) → Has row rows → (B : Record) → vote (held row.bench) e ≡ some B → Q B) → (B : Record) → winner_of l (ballots held e rows) ≡ some B → Q B
unfolding winner_of ballots
winner-holds Q l held e [] f B h = absurd (let z : ◌≡◌ {A = ℕ} 0 1 = cc in omega arith)
winner-holds Q l held e (row ∷ rows) f B h =
    let v = vote (held row.bench) e in
    by (ltb (total l) (2 * group l v))
    (λ (g : ltb (total l) (2 * group l v) ≡ true). f row (inl refl) B (rw g at h))
    (λ (g : ltb (total l) (2 * group l v) ≡ false). winner-holds Q l held e rows (λ r m. f r (inr m)) B (rw g at h))

some_same : {A B : Record} → some A ≡ some B → A ≡ B
some_same q = cc

-- a vote is the edit's bundle
pub vote-bundle : (R : Record) (e : ℕ) (B : Record) → vote R e ≡ some B → bundle R e ≡ B
unfolding vote
vote-bundle R e B h =
    by (mem e (written R) && eligible R e)
    (λ (k : (mem e (written R) && eligible R e) ≡ true). some_same (rw k at h))
    (λ (k : (mem e (written R) && eligible R e) ≡ false). absurd (let g : none ≡ some B = rw k at h in let z : ◌≡◌ {A = ℕ} 0 1 = cc in omega arith))

-- what is known of a vote: it is fit to be judged and has the edit, which is settled in it
pub record Judgeable (e : ℕ) (B : Record) : Type 0 where
  pub fit : Fit B
  pub known : e among names B
  pub decided : settled B e ≡ true
  pub sounds : sound B ≡ true

vote-judgeable : (R : Record) → Fit R → sound R ≡ true → (e : ℕ) (B : Record) → vote R e ≡ some B → Judgeable e B
unfolding vote eligible
vote-judgeable R f s e B h =
    by (mem e (written R) && eligible R e)
    (λ (k : (mem e (written R) && eligible R e) ≡ true).
    let i : e among written R = and_l (mem e (written R)) (eligible R e) k in
    let m : e among written (bundle R e) = written-bundle f.formed e e i (member-self R e) in
    let j : Judgeable e (bundle R e) =
    record {
      fit = bundle-fit R f e;
      known = written-names (bundle R e) e m;
      decided = all_in (settled (bundle R e)) (written (bundle R e)) (and_r (mem e (written R)) (eligible R e) k) e m;
      sounds = bundle-sound f.formed e s;
    } in
    rw (vote-bundle R e B h) at j)
    (λ (k : (mem e (written R) && eligible R e) ≡ false). absurd (let g : none ≡ some B = rw k at h in let z : ◌≡◌ {A = ℕ} 0 1 = cc in omega arith))

module _ (e : ℕ) (P : Proposals) (roll : List RollRow) (z : election_fault e P roll ≡ 0) where
  pub faultless : Faultless P × (all is_bench roll ≡ true) × (all (λ k. sound (held P k)) benches ≡ true) × (is_name e ≡ true)
  unfolding election_fault roll_faulty
  faultless =
      let sounds = all (λ k. sound (held P k)) benches in
      let known = any (λ k. mem e (written (held P k))) benches in
      let named = 5 given not known orelse 8 given not sounds in
      let seated = 2 given not (is_name e) orelse named in
      let p = orelse-none (first_given (proposal_fault P) benches) (14 given roll_faulty roll orelse seated) z in
      let q = orelse-none (14 given roll_faulty roll) seated p.1 in
      let r = orelse-none (2 given not (is_name e)) named q.1 in
      let s = orelse-none (5 given not known) (8 given not sounds) r.1 in (
        p.0,
        not-false (all is_bench roll) (or-no-l (not (all is_bench roll)) _ (given-none 13 (roll_faulty roll) q.0)),
        not-false sounds (given-none 7 (not sounds) s.1),
        not-false (is_name e) (given-none 1 (not (is_name e)) r.0),
      )

  -- the proposal of a bench of the roll
  module _ (row : RollRow) (i : is_bench row ≡ true) where
    bench-low : (1 ≤ row.bench) × (row.bench ≤ 8)
    bench-low = proposal-bench-low row i

    bench-again : (row.bench - 1) + 1 ≡ row.bench
    bench-again = omega (arith, bench-low.0)

    pub seat-checked : Checked (held P row.bench)
    seat-checked = held-checked P row.bench (rw bench-again at (bench-faultless P faultless.0 (row.bench - 1) (omega (arith, bench-low.0, bench-low.1))))

    held-fit : Fit (held P row.bench)
    held-fit = checked-fit (held P row.bench) seat-checked

    held-sound : sound (held P row.bench) ≡ true
    held-sound =
        let l : row.bench - 1 < 8 = omega (arith, bench-low.0, bench-low.1) in
        let q : get_or benches (row.bench - 1) 0 ≡ row.bench = bench-at (row.bench - 1) l ∙ bench-again in
        rw q at (all-has (λ k. sound (held P k)) benches faultless.2 (get_or benches (row.bench - 1) 0) (has-get_or benches (row.bench - 1) 0 l))

  winner-judgeable : (B : Record) → winner (cast e P roll) ≡ some B → Judgeable e B
  unfolding winner cast
  winner-judgeable =
      winner-holds (Judgeable e) (cast e P roll) (held P) e roll
      (λ row m B q. let i = all-has is_bench roll faultless.1 row m in vote-judgeable (held P row.bench) (held-fit row i) (held-sound row i) e B q)

-- the count of an election that is won, and what is known of its choice
pub record WonBundle (Q : Record → Type 0) (c : Count) : Type 0 where
  pub choice : Record
  pub holds : c.bundle ≡ stored choice
  pub known : Q choice

pub won-bundle : (Q : Record → Type 0) (e : ℕ) (P : Proposals) (roll : List RollRow) → (election_fault e P roll ≡ 0 → (B : Record) → winner (cast e P roll) ≡ some B → Q B)
    → (count_of e P roll).election.won ≡ true → WonBundle Q (count_of e P roll)
unfolding count_of election_of
won-bundle Q e P roll f h =
    by (eqb (election_fault e P roll) 0)
    (λ (z : eqb (election_fault e P roll) 0 ≡ true). go z (winner (cast e P roll)) refl (rw z at h))
    (λ (z : eqb (election_fault e P roll) 0 ≡ false). clash (rw z at h) refl)
  where
    go : eqb (election_fault e P roll) 0 ≡ true → (end : Option Record) → winner (cast e P roll) ≡ end → won (cast e P roll) ≡ true → WonBundle Q (count_of e P roll)
    go z none p w = clash w (open_is (cast e P roll) p)
    go z (some B) p w =
        rw (z, p) (record { choice = B; holds = refl; known = f (eqb-true (election_fault e P roll) 0 z) B p })

-- a settled edit of a sound record must stand or can never, and not both
decided-one : (R : Record) → WellFormed R → sound R ≡ true → (e : ℕ) → settled R e ≡ true → never R e ≡ not (must R e)
unfolding settled
decided-one R w s e h =
    by (must R e)
    (λ (m : must R e ≡ true). rw m (by (never R e) (λ n. absurd ((sound-no-both R w).0 s e m n)) (λ n. n)))
    (λ (m : must R e ≡ false). rw m (or-by (never R e) (must R e && serialised R e) h (λ n. n) (λ n. clash (and_l (must R e) (serialised R e) n) m)))

-- WHAT IS WON leaves no edit open: in the won bundle, read as a record of its own, the edit of the election must stand or can never, and not both.
pub won-decided : (e : ℕ) (P : Proposals) (roll : List RollRow) → (count_of e P roll).election.won ≡ true
    → never (record_of (count_of e P roll).bundle) e ≡ not (must (record_of (count_of e P roll).bundle) e)
won-decided e P roll h =
    let b = won-bundle (Judgeable e) e P roll (winner-judgeable e P roll) h in
    let j = b.known in
    let back : record_of (count_of e P roll).bundle ≡ b.choice = ap record_of b.holds ∙ stored_back b.choice in
    rw back (decided-one b.choice j.fit.formed j.sounds e j.decided)

-- the marks of an edit at its index
pub marked-at : (R : Record) (test : ℕ → Bool) (marks : List ℕ) (e index : ℕ) → marks ≡ marks_of R test → index ≡ place_in (names R) e → e among names R
    → get_or marks index 0 ≡ cond (test e) 1 0
marked-at R test marks e index q p i =
    let n : index ≡ index_of e (names R) = p ∙ place-known e (names R) i in
    rw (q, n) (marks-at R test (index_of e (names R)) (mem_index e (names R) i) ∙ ap (λ (y : ℕ). cond (test y) 1 0) (get_or-place e (names R) i))

pub verdict-is : (R : Record) (e : ℕ) → e among names R → {index : ℕ} → index ≡ place_in (names R) e → {ms ns : List ℕ} → ms ≡ marks_of R (must R) → ns ≡ marks_of R (never R)
    → ◌≡◌ {A = Verdict} (record { must = eqb (get_or ms index 0) 1; never = eqb (get_or ns index 0) 1 }) (record { must = must R e; never = never R e })
verdict-is R e i {index} p {ms} {ns} q r =
    let x = ap (λ (n : ℕ). eqb n 1) (marked-at R (must R) ms e index q p i) ∙ bit_is (must R e) in
    let y = ap (λ (n : ℕ). eqb n 1) (marked-at R (never R) ns e index r p i) ∙ bit_is (never R e) in
    λ k. record { must = x k; never = y k }

-- the bundle that is given of a counted election that is won
module _ (e : ℕ) (P : Proposals) (roll : List RollRow) (c : Counted) (q : count_told (Ok c) ≡ count_of e P roll) (w : c.election.won ≡ true) where
  won-given : WonBundle (Judgeable e) (count_told (Ok c))
  won-given =
      let h : (count_of e P roll).election.won ≡ true = ap (λ (n : Count). n.election.won) (sym q) ∙ w in
      rw q (won-bundle (Judgeable e) e P roll (winner-judgeable e P roll) h)

  pub given-won : {b : declared.Record} → c.bundle ≡ Some b → WonBundle (Judgeable e) (count_told (Ok (record { election = c.election; bundle = Some b })))
  given-won g =
      let k = won-given in
      record { choice = k.choice; holds = ap (λ (x : Given declared.Record). unwrap_or x empty_record) (sym g) ∙ k.holds; known = k.known }

-- what follows the election's answer, where there is anything
followed : (w : Bool) (head tail : Texts) → w ≡ true → head ++ cond w tail [] ≡ head ++ tail
followed w head tail e = rw e refl

alone : (w : Bool) (head tail : Texts) → w ≡ false → head ++ cond w tail [] ≡ head
alone w head tail e = rw e (append-nil head)

module _ (edit : ℕ) {before middle : Printer} where
  pub won-printed : (R : Record) (b : declared.Record) → b ≡ stored R → {v : Verdict} → v ≡ record { must = must R edit; never = never R edit }
      → Printed (answer_line "edit=@ must=? never=? edits=# rules=#\n" (edit ∷ bit v.must ∷ bit v.never ∷ b.edit_count ∷ b.constraint_count ∷ [])) before middle
      → {after : Printer} → Printed (stored_text b ∷ []) middle after → Printed (won_text edit b) before after
  unfolding won_text
  won-printed R b q {v} s p r =
      let back : record_of b ≡ R = ap record_of q ∙ stored_back R in
      rw back (printed-both (rw s at p) (rw back at r))

  module _ (c : Count) (p : Printed (election_line c.election) before middle) where
    pub open-printed : c.election.won ≡ false → Printed (winner_text edit c) before middle
    unfolding winner_text
    open-printed w = rw (alone c.election.won (election_line c.election) (won_text edit c.bundle) w) p

    pub winner-printed : c.election.won ≡ true → {b : declared.Record} → c.bundle ≡ b → {after : Printer} → Printed (won_text edit b) middle after
        → Printed (winner_text edit c) before after
    unfolding winner_text
    winner-printed w e r = rw (followed c.election.won (election_line c.election) (won_text edit c.bundle) w, e) (printed-both p r)
