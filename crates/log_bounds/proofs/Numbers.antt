-- The numbers of refusals, of elections and of answers are small. Assumes nothing.
use mathlib.Core.Path.{◌≡◌, refl, ap}
use mathlib.Core.Bool.{Bool, true, false, not, ◌&&◌, ◌||◌}
use mathlib.Core.Logic.{inl, inr}
use mathlib.Core.List.{List, [], ◌∷◌}
use mathlib.Core.Option.{Option, none, some}
use Prim.Native.Nat.{ℕ, ◌*◌, ◌-◌, ◌≤◌, ◌<◌}
use native.Mathlib.Omega.{arith}
use borrow.Author.Tests.{eqb-true, eqb-false, not-false}
use lib.Dec.{eqb, leb, ltb}
use lib.ListN.{length, get_or}
use Rattle.std.specs.Prelude as prelude
use Rattle.std.specs.Prelude.{Some, None, is_none}
use Rattle.lists.specs.Lists.{any, all, mem, Has, ◌among◌}
use Rattle.lists.proofs.Lists.{by}
use Rattle.lists.proofs.Logic.{has-mapped}
use Rattle.record.specs.Record.{Record, written}
use Rattle.record.specs.Judgement.{sound, must}
use Rattle.record_rows.specs.row.Row.{Row, is_name, edit_in_range}
use Rattle.record_rows.specs.grounds.Ground.{Rows, row_fault, first_fault, ◌given◌, ◌orelse◌}
use Rattle.record_rows.proofs.grounds.Grounds.{orelse-none, given-none}
use Rattle.record_rows.proofs.grounds.Small.{orelse-small, given-small, first_small, row-fault-small, first-fault-small}
use Rattle.record_tables.proofs.Further.{further-small}
use Rattle.record_tables.specs.Table.{edit_rows, constraint_rows, decoded, empty_tables, edit_kind, constraint_kind, names_of, lent_fault, join_fault, record_join_fault, unite}
use Rattle.record_tables.specs.Checked.{Checked}
use Rattle.record_tables.proofs.Records.{lent-checked}
use Rattle.pages_turner.specs.Turn.{turned, turn_fault}
use Rattle.voting.specs.declared.RollRow.{RollRow}
use Rattle.voting.specs.Tally.{Election, ballots, total, is_silent, greatest, silent, counted, winner}
use Rattle.voting.specs.Proposal.{started, proposed}
use Rattle.voting.proofs.Elections.{weigh-le, greatest-le}
use Rattle.voting_roll.specs.Roll.{roll_faulty}
use Rattle.voting_roll.specs.Election.{Proposals, benches, held, proposal_fault, first_given, election_fault, cast, election_of}
use Rattle.voting_count.specs.Tallied.{beginnings, Tallied, tallied_of}
use Rattle.voting_count.proofs.Beginnings.{beginnings-within}
use Rattle.voting_count.proofs.Rolled.{rows_few}
use Rattle.voting_count.proofs.Tallied.{accepted-roll, tallied-accepted, tallied-length, tallied-refused}
use Rattle.judgement.specs.lent_edit.Asked.{named_fault, lent_edit_fault}
use Rattle.voting_bundles.specs.Bundles.{bundle_answer}
use Rattle.voting_proposals.specs.Propose as proposal
use Rattle.voting_proposals.specs.Propose.{overfull, draft_fault, unkept, too_short, record_m, proposal_q, propose_fault}
use Rattle.judgement.specs.lent_record.Lent.{record_fault}
use Rattle.suggestions.specs.Suggest.{pair_fault}
use Rattle.ledger.specs.Ledger.{Ledger, Call, add_edit, add_constraint, merge, hide, show, turn, adopt, last, bundle_fault, judge}
use Rattle.log_commands.specs.declared.Lend.{Lend}
use Rattle.log_commands.specs.declared.Lend.TheVariants.{EditRow, ConstraintRow, NoRows, BenchRows, RollRow as SeatRow, NoRoll, RowName, NoRow}
use Rattle.log_lent.specs.Lent.{Lent, is_lent, edit_places, constraint_places, row_places, rows_fault, seat_number, name_number}
use Rattle.log_commands.specs.declared.Suggesting.{Suggesting}
use Rattle.log_lent.specs.lent_calls.Calls.{lent_row_fault as tested_fault, reason_in, why_fault, suggest_fault, suggestion_fault}
use Rattle.log_session.specs.Desk.{Desk}
use Rattle.log_session.specs.Lends.{lend_effect}

-- the numbers of refusals are at most 14, of reasons 15
join-small : (R : Record) (names : List ℕ) (adding : Bool) (edits constraints : Rows) → join_fault R names adding edits constraints ≤ 14
unfolding join_fault
join-small R names adding edits constraints =
    orelse-small 14 (first_fault (row_fault edit_kind (edit_rows R)) [] edits) (first_fault (row_fault (constraint_kind names adding) (constraint_rows R)) [] constraints)
    (first-fault-small 14 (row_fault edit_kind (edit_rows R)) (λ above row. row-fault-small 14 (omega arith) edit_kind (edit_rows R) above row (omega arith)) [] edits)
    (first-fault-small 14 (row_fault (constraint_kind names adding) (constraint_rows R)) (λ above row. row-fault-small 14 (omega arith) (constraint_kind names adding) (constraint_rows R) above row (further-small 14 (omega arith) names adding row)) [] constraints)

firsts-small : (f : ℕ → ℕ) → ((k : ℕ) → f k ≤ 14) → (l : List ℕ) → first_given f l ≤ 14
unfolding first_given
firsts-small f h [] = omega arith
firsts-small f h (k ∷ l) = orelse-small 14 (f k) (first_given f l) (h k) (firsts-small f h l)

proposal-fault-small : (P : Proposals) (k : ℕ) → proposal_fault P k ≤ 14
unfolding proposal_fault
proposal-fault-small P k = join-small empty_tables (names_of (get_or P.edits (k - 1) [])) false (get_or P.edits (k - 1) []) (get_or P.constraints (k - 1) [])

election-fault-small : (e : ℕ) (P : Proposals) (roll : List RollRow) → election_fault e P roll ≤ 14
unfolding election_fault
election-fault-small e P roll =
    orelse-small 14 (first_given (proposal_fault P) benches) _ (firsts-small (proposal_fault P) (proposal-fault-small P) benches)
    (first_small 14 14 (roll_faulty roll) _ (omega arith)
    (first_small 14 2 (not (is_name e)) _ (omega arith)
    (first_small 14 5 (not (any (λ k. mem e (written (held P k))) benches)) _ (omega arith) (given-small 14 8 (not (all (λ k. sound (held P k)) benches)) (omega arith)))))

bundle-small : (R : Record) (o : Option Record) → bundle_fault R o ≤ 14
bundle-small R none = omega arith
bundle-small R (some B) = orelse-small 14 (record_join_fault R B) _ (join-small R (names_of (edit_rows B)) false (edit_rows B) (constraint_rows B)) (given-small 14 8 (not (sound (unite R B))) (omega arith))

turn_small : (page : prelude.Option ℕ) → turn_fault page ≤ 14
turn_small (Some page) = omega arith
turn_small None = omega arith

pub judge-small : (L : Ledger) (call : Call) → judge L call ≤ 14
unfolding judge
judge-small L (add_edit row) = orelse-small 14 _ _ (join-small L.multilog (written L.multilog) true (row ∷ []) []) (given-small 14 8 (not (sound (unite L.multilog (decoded (row ∷ []) [])))) (omega arith))
judge-small L (add_constraint row) = orelse-small 14 _ _ (join-small L.multilog (written L.multilog) true [] (row ∷ [])) (given-small 14 8 (not (sound (unite L.multilog (decoded [] (row ∷ []))))) (omega arith))
judge-small L (merge edits constraints) =
    orelse-small 14 _ _ (join-small L.multilog (names_of edits) false edits constraints)
    (given-small 14 8 (not (sound (decoded edits constraints) && sound (unite L.multilog (decoded edits constraints)))) (omega arith))
judge-small L (hide x) =
    first_small 14 2 (not (is_name x)) _ (omega arith)
    (first_small 14 5 (not (mem x (written L.multilog))) _ (omega arith) (given-small 14 9 (must L.multilog x || mem x L.hidden) (omega arith)))
judge-small L (show x) =
    first_small 14 2 (not (is_name x)) _ (omega arith)
    (first_small 14 5 (not (mem x (written L.multilog))) _ (omega arith) (given-small 14 9 (not (mem x L.hidden)) (omega arith)))
judge-small L (turn n) = turn_small (turned L.opened (last L) n)
judge-small L (adopt e P roll) = orelse-small 14 (election_fault e P roll) _ (election-fault-small e P roll) (bundle-small L.multilog (winner (cast e P roll)))

draft-small : (M Q : Record) → draft_fault M Q ≤ 14
unfolding draft_fault
draft-small M Q =
    first_small 14 8 (not (sound Q)) _ (omega arith)
    (first_small 14 3 (overfull (started M Q)) _ (omega arith)
    (first_small 14 8 (not (sound (started M Q))) _ (omega arith) (given-small 14 3 (overfull (proposed M Q)) (omega arith))))

pub propose-small : (t : proposal.LentToPropose) → propose_fault t ≤ 14
unfolding propose_fault
propose-small t =
    orelse-small 14 _ _ (join-small empty_tables (names_of t.edits) false t.edits t.constraints)
    (orelse-small 14 _ _ (join-small (record_m t) (names_of t.old_edits) false t.old_edits t.old_constraints)
    (orelse-small 14 (draft_fault (record_m t) (proposal_q t)) _ (draft-small (record_m t) (proposal_q t))
    (first_small 14 11 (unkept (record_m t) (proposal_q t)) _ (omega arith)
    (given-small 14 12 (too_short (length t.new_edits) (length t.new_constraints) (proposed (record_m t) (proposal_q t))) (omega arith)))))

edit-fault-small : (edits constraints : Rows) (e : ℕ) → lent_edit_fault edits constraints e ≤ 14
unfolding lent_edit_fault named_fault
edit-fault-small edits constraints e =
    orelse-small 14 _ _ (join-small empty_tables (names_of edits) false edits constraints)
    (orelse-small 14 _ _
    (first_small 14 2 (not (is_name e)) _ (omega arith) (given-small 14 5 (not (mem e (written (decoded edits constraints)))) (omega arith)))
    (given-small 14 8 (not (sound (decoded edits constraints))) (omega arith)))

pub bundle-number-small : (edits constraints : Rows) (e : ℕ) → (bundle_answer edits constraints e).number ≤ 14
unfolding bundle_answer
bundle-number-small edits constraints e =
    let n = lent_edit_fault edits constraints e in
    by (eqb n 0) (λ (q : eqb n 0 ≡ true). rw q (omega arith)) (λ (q : eqb n 0 ≡ false). rw q (edit-fault-small edits constraints e))

pub why-number-small : (L : Lent) (k e : ℕ) → why_fault L k e ≤ 15
unfolding why_fault
why-number-small L k e =
    first_small 15 2 (not (is_lent k)) _ (omega arith)
    (orelse-small 15 (lent_edit_fault (L.edits k) (L.constraints k) e) _ (omega (arith, edit-fault-small (L.edits k) (L.constraints k) e)) (given-small 15 15 (is_none (reason_in L k e)) (omega arith)))

-- a record without fault, and an edit that it knows
pub record AskedOf (R : Record) (e : ℕ) : Type 0 where
  pub checked : Checked R
  pub sound-now : sound R ≡ true
  pub known : e among written R

pub why-asked : (L : Lent) (k e : ℕ) → why_fault L k e ≡ 0 → AskedOf (decoded (L.edits k) (L.constraints k)) e
unfolding why_fault lent_edit_fault named_fault
why-asked L k e z =
    let R = decoded (L.edits k) (L.constraints k) in
    let whole = 8 given not (sound R) in
    let unknown = 5 given not (mem e (written R)) in
    let f = orelse-none (lent_edit_fault (L.edits k) (L.constraints k) e) (15 given is_none (reason_in L k e)) (orelse-none (2 given not (is_lent k)) _ z).1 in
    let p = orelse-none (lent_fault empty_tables (L.edits k) (L.constraints k)) (named_fault R e orelse whole) f.0 in
    let q = orelse-none (named_fault R e) whole p.1 in
    let n = orelse-none (2 given not (is_name e)) unknown q.0 in
    record {
      checked = lent-checked (L.edits k) (L.constraints k) p.0;
      sound-now = not-false (sound R) (given-none 7 (not (sound R)) q.1);
      known = not-false (mem e (written R)) (given-none 4 (not (mem e (written R))) n.1);
    }

tested-small : (edits constraints : Rows) → record_fault edits constraints ≤ 14
unfolding record_fault
tested-small edits constraints = orelse-small 14 _ _ (join-small empty_tables (names_of edits) false edits constraints) (given-small 14 8 (not (sound (decoded edits constraints))) (omega arith))

pub test-number-small : (L : Lent) (k : ℕ) → tested_fault L k ≤ 14
unfolding tested_fault
test-number-small L k = by (is_lent k) (λ (e : ltb k 9 ≡ true). rw e (tested-small (L.edits k) (L.constraints k))) (λ (e : ltb k 9 ≡ false). rw e (omega arith))

suggest-small : (R : Record) (w : Suggesting) → suggest_fault R w ≤ 14
unfolding suggest_fault
suggest-small R w =
    first_small 14 2 (not (is_name w.first && (is_name w.second && ltb w.case 2))) _ (omega arith)
    (given-small 14 5 (not (mem w.first (written R) && mem w.second (written R))) (omega arith))

pair-small : (a b : Row) (kind : ℕ) → pair_fault a b kind ≤ 14
unfolding pair_fault
pair-small a b kind =
    by (edit_in_range a && (edit_in_range b && ltb kind 2))
    (λ (e : (edit_in_range a && (edit_in_range b && ltb kind 2)) ≡ true). rw e (omega arith))
    (λ (e : (edit_in_range a && (edit_in_range b && ltb kind 2)) ≡ false). rw e (omega arith))

pub suggest-number-small : (R : Record) (w : Suggesting) → suggestion_fault R w ≤ 14
unfolding suggestion_fault
suggest-number-small R w = orelse-small 14 _ _ (suggest-small R w) (pair-small _ _ w.case)

pub lend-number-small : (D : Desk) (lend : Lend) → (lend_effect D lend).number ≤ 14
unfolding lend_effect rows_fault seat_number name_number
lend-number-small D (EditRow k cells) = first_small 14 2 (not (is_lent k)) _ (omega arith) (given-small 14 3 (leb edit_places (length (D.lent.edits k))) (omega arith))
lend-number-small D (ConstraintRow k cells) = first_small 14 2 (not (is_lent k)) _ (omega arith) (given-small 14 3 (leb constraint_places (length (D.lent.constraints k))) (omega arith))
lend-number-small D (NoRows k) = given-small 14 2 (not (is_lent k)) (omega arith)
lend-number-small D (BenchRows k) = given-small 14 2 (not (is_lent k)) (omega arith)
lend-number-small D (SeatRow bench weight) = given-small 14 2 (not (ltb bench 256 && ltb weight 65536)) (omega arith)
lend-number-small D NoRoll = omega arith
lend-number-small D (RowName name) = given-small 14 3 (leb row_places (length D.lent.row)) (omega arith)
lend-number-small D NoRow = omega arith

-- an election whose weights have 16 bits
pub record SmallElection (E : Election) : Type 0 where
  pub number : E.number < 4294967296
  pub greatest : E.greatest < 4294967296
  pub silent : E.silent < 4294967296
  pub total : E.total < 4294967296

cast-total : (e : ℕ) (P : Proposals) (roll : List RollRow) → ((row : RollRow) → Has row roll → row.weight < 65536) → total (cast e P roll) ≤ 65535 * length roll
unfolding cast ballots total
cast-total e P [] f = omega arith
cast-total e P (row ∷ roll) f = omega (arith, f row (inl refl), cast-total e P roll (λ r m. f r (inr m)))

module _ (e : ℕ) (P : Proposals) (roll : List RollRow) (f : (row : RollRow) → Has row roll → row.weight < 65536) where
  pub counted-small : election_fault e P roll ≡ 0 → SmallElection (counted (cast e P roll))
  unfolding greatest silent
  counted-small z =
      let l = cast e P roll in
      let t : total l < 4294967296 = omega (arith, cast-total e P roll f, rows_few roll (accepted-roll e P roll z)) in
      record { number = omega arith; greatest = omega (arith, greatest-le l l); silent = omega (arith, weigh-le is_silent l); total = t }

  pub election-small : SmallElection (election_of e P roll)
  unfolding election_of
  election-small =
      let n = election_fault e P roll in
      by (eqb n 0)
      (λ (q : eqb n 0 ≡ true). rw q (counted-small (eqb-true n 0 q)))
      (λ (q : eqb n 0 ≡ false). rw q (record { number = omega (arith, election-fault-small e P roll); greatest = omega arith; silent = omega arith; total = omega arith }))

-- the answers of a tally: elections on beginnings of the roll, which has at most eight rows
pub record SmallTally (t : Tallied) : Type 0 where
  pub number : t.number ≤ 14
  pub few : length t.answers ≤ 9
  pub each : (E : Election) → Has E t.answers → SmallElection E

pub tally-small : (e : ℕ) (P : Proposals) (roll : List RollRow) → ((row : RollRow) → Has row roll → row.weight < 65536) → SmallTally (tallied_of e P roll)
tally-small e P roll f =
    let n = election_fault e P roll in
    by (eqb n 0)
    (λ (q : eqb n 0 ≡ true).
    let z = eqb-true n 0 q in
    let a = tallied-accepted e P roll z in
    record {
      number = omega (arith, ap (λ (t : Tallied). t.number) a);
      few = omega (arith, tallied-length e P roll z, rows_few roll (accepted-roll e P roll z));
      each = λ E m. has-mapped (election_of e P) E (beginnings roll) (rw a at m)
          (λ rows b r. rw r (election-small e P rows (λ row o. f row (beginnings-within roll rows b row o))));
    })
    (λ (q : eqb n 0 ≡ false).
    rw (← tallied-refused e P roll n refl (eqb-false n 0 q)) (record { number = election-fault-small e P roll; few = omega arith; each = λ E m. absurd m }))
