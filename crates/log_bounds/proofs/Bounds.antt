-- A line whose numbers fit leaves a desk whose numbers fit. Assumes nothing.
use mathlib.Core.Path.{◌≡◌, refl, ap}
use mathlib.Core.Bool.{true, false, not, ◌&&◌}
use mathlib.Core.Logic.{inl, inr, ⊎_elim}
use mathlib.Core.List.{List, [], ◌∷◌, ◌++◌, map}
use mathlib.Core.Option.{Option, none, some}
use Prim.Native.Nat.{ℕ, ◌*◌, ◌-◌, ◌<◌}
use native.Mathlib.Omega.{arith}
use borrow.Author.Tests.{eqb-true, ltb-true, not-false}
use lib.Dec.{eqb, ltb}
use lib.ListN.{get_or}
use Rattle.lists.specs.Lists.{mem}
use Rattle.lists.specs.Keyed.{united}
use Rattle.lists.proofs.Lists.{by, and_r}
use Rattle.lists.proofs.Logic.{has-mapped, filter-from}
use Rattle.lists.proofs.Union.{united-has}
use Rattle.record.specs.declared.Edit.{Edit}
use Rattle.record.specs.Record.{Record, written}
use Rattle.record_rows.specs.row.Row.{Row, value_cell, edit_in_range, edit_of, edit_row}
use Rattle.record_rows.specs.grounds.Ground.{Rows}
use Rattle.record_rows.proofs.grounds.Grounds.{given-none}
use Rattle.record_rows.proofs.row.Cells.{edit-filler, edit-back}
use Rattle.record_tables.specs.Table.{edit_rows, empty_tables, edit_key, unite}
use Rattle.voting.specs.declared.RollRow.{RollRow as Seat}
use Rattle.voting.specs.Bundle.{members, bundle, eligible, vote}
use Rattle.voting.specs.Tally.{Election, Ballot, ballots, total, group, winner_of, winner, counted}
use Rattle.voting.specs.Proposal.{joined_constraints, started, finished, proposed}
use Rattle.voting_roll.specs.Election.{Proposals, benches, held, cast}
use Rattle.voting_proposals.specs.Propose as proposal
use Rattle.voting_proposals.specs.Propose.{propose_fault, new_proposal, record_m, proposal_q}
use Rattle.ledger.specs.Ledger.{Ledger, Call, CallAnswer, add_edit, add_constraint, merge, adopt, start, change_to, change, adopted, act, refusal, judge, step, fed}
use Rattle.ledger.proofs.Undone.{fed-more}
use Rattle.log_forms.specs.Printed.{Texts}
use Rattle.log_bounds.proofs.Small.{EachMember, each_both, each_at}
use Rattle.log_commands.specs.declared.Lend.{Lend as Lends}
use Rattle.log_commands.specs.declared.Lend.TheVariants.{EditRow, ConstraintRow, NoRows, BenchRows, RollRow, NoRoll, RowName, NoRow}
use Rattle.log_commands.specs.declared.Call.{Call as Calls}
use Rattle.log_commands.specs.declared.Call.TheVariants.{AddEdit, Merge, Adopt}
use Rattle.log_commands.specs.declared.Proposing.{Proposing}
use Rattle.log_lent.specs.Lent.{Lent, nothing_lent, is_lent, edit_places, rows_fault, with, added, with_edit, with_constraint, with_record, seat_number, with_seat, without_roll, name_number, with_name, without_row}
use Rattle.log_lent.specs.lent_calls.Calls.{proposals_of}
use Rattle.log_lent.specs.lent_proposals.Made.{tables_of, lent_proposal_fault, proposal_made}
use Rattle.log_session.specs.Desk.{Desk, Request, outside, make, empty_desk, ledger_of, requested}
use Rattle.log_bounds.specs.Bounded.{Bounded}
use Rattle.log_session.specs.Lends.{lend_effect, edit_cells_row}
use Rattle.log_session.specs.Requests.{request_of}
use Rattle.log_session.specs.votes.Votes.{proposal_effect}
use Rattle.log_session.proofs.calls.Telling.{lend-calls}

-- edits, rows and seats whose numbers fit
abbrev pub EditFits : Edit → Type 0
EditFits e = value_cell (edit_row e) < 4294967296

abbrev pub RowFits : Row → Type 0
RowFits row = value_cell row < 4294967296

abbrev pub SeatFits : Seat → Type 0
SeatFits seat = seat.weight < 65536

each-one : {A : Type 0} (P : A → Type 0) (x : A) → P x → EachMember P (x ∷ [])
each-one P x p y (inl e) = rw e p
each-one P x p y (inr m) = absurd m

-- the edits that rows are, those of a union, and of a stored record
row-decoded : (row : Row) → RowFits row → EditFits (edit_of row)
unfolding edit_row
row-decoded row v =
    by (edit_in_range row)
    (λ (h : edit_in_range row ≡ true). let e = edit-back row h in omega (arith, ap value_cell e))
    (λ (h : edit_in_range row ≡ false). let e = edit-filler row refl h in omega (arith, ap (λ (d : Edit). value_cell (edit_row d)) e))

pub decoded-fits : (rows : Rows) → EachMember RowFits rows → EachMember EditFits (map edit_of rows)
decoded-fits rows f e m = has-mapped edit_of e rows m (λ row n q. rw q (row-decoded row (f row n)))

rows_fit : (R : Record) → EachMember EditFits R.edits → EachMember RowFits (edit_rows R)
rows_fit R f row m = has-mapped edit_row row R.edits m (λ e n q. rw q (f e n))

united-fits : (s t : List Edit) → EachMember EditFits s → EachMember EditFits t → EachMember EditFits (united edit_key s t)
united-fits s t f g e m = ⊎_elim (f e) (g e) (united-has edit_key e s t m)

-- bundles and votes
pub bundle-fits : (R : Record) (e : ℕ) → EachMember EditFits R.edits → EachMember EditFits (bundle R e).edits
unfolding bundle
bundle-fits R e f x m = f x (filter-from (λ x. mem x.name (members R e)) R.edits x m).0

abbrev VoteFits : Option Record → Type 0
VoteFits none = Unit
VoteFits (some B) = EachMember EditFits B.edits

vote-fits : (R : Record) (e : ℕ) → EachMember EditFits R.edits → VoteFits (vote R e)
unfolding vote
vote-fits R e f =
    by (mem e (written R) && eligible R e)
    (λ (q : (mem e (written R) && eligible R e) ≡ true). rw q (bundle-fits R e f))
    (λ (q : (mem e (written R) && eligible R e) ≡ false). rw q tt)

abbrev BallotFits : Ballot → Type 0
BallotFits b = VoteFits b.vote

winner-fits : (l m : List Ballot) → EachMember BallotFits m → VoteFits (winner_of l m)
unfolding winner_of
winner-fits l [] f = tt
winner-fits l (b ∷ m) f =
    by (ltb (total l) (2 * group l b.vote))
    (λ (e : ltb (total l) (2 * group l b.vote) ≡ true). rw e (f b (inl refl)))
    (λ (e : ltb (total l) (2 * group l b.vote) ≡ false). rw e (winner-fits l m (λ x w. f x (inr w))))

abbrev pub ProposalsFit : Proposals → Type 0
ProposalsFit P = (i : ℕ) → EachMember RowFits (get_or P.edits i [])

pub held_fits : (P : Proposals) → ProposalsFit P → (k : ℕ) → EachMember EditFits (held P k).edits
unfolding held
held_fits P f k = decoded-fits (get_or P.edits (k - 1) []) (f (k - 1))

won-fits : (e : ℕ) (P : Proposals) (roll : List Seat) → ProposalsFit P → VoteFits (winner (cast e P roll))
unfolding winner cast ballots
won-fits e P roll f =
    winner-fits (cast e P roll) (cast e P roll)
    (λ b m. has-mapped {P = BallotFits b} (λ row. record { weight = row.weight; vote = vote (held P row.bench) e }) b roll m (λ row n q. rw q (vote-fits (held P row.bench) e (held_fits P f row.bench))))

-- calls
abbrev pub CallFits : Call → Type 0
CallFits (add_edit row) = RowFits row
CallFits (merge edits constraints) = EachMember RowFits edits
CallFits (adopt e P roll) = ProposalsFit P × EachMember SeatFits roll
CallFits call = Unit

adopted-fits : (L : Ledger) (E : Election) (o : Option Record) → VoteFits o → EachMember EditFits L.multilog.edits → EachMember EditFits (adopted L E o).after.multilog.edits
unfolding change change_to unite
adopted-fits L E none v f = f
adopted-fits L E (some B) v f = united-fits L.multilog.edits B.edits f v

act-fits : (L : Ledger) (call : Call) → CallFits call → EachMember EditFits L.multilog.edits → EachMember EditFits (act L call).after.multilog.edits
unfolding act change change_to unite
act-fits L (add_edit row) c f = united-fits L.multilog.edits (map edit_of (row ∷ [])) f (decoded-fits (row ∷ []) (each-one RowFits row c))
act-fits L (add_constraint row) c f = united-fits L.multilog.edits [] f (λ x m. absurd m)
act-fits L (merge edits constraints) c f = united-fits L.multilog.edits (map edit_of edits) f (decoded-fits edits c)
act-fits L (adopt e P roll) c f = adopted-fits L (counted (cast e P roll)) (winner (cast e P roll)) (won-fits e P roll c.0) f
act-fits L call c f = f

step_fits : (L : Ledger) (call : Call) → CallFits call → EachMember EditFits L.multilog.edits → EachMember EditFits (step L call).after.multilog.edits
unfolding step refusal
step_fits L call c f =
    by (eqb (judge L call) 0)
    (λ (e : eqb (judge L call) 0 ≡ true). rw e (act-fits L call c f))
    (λ (e : eqb (judge L call) 0 ≡ false). rw e f)

abbrev pub RequestFits : Request → Type 0
RequestFits outside = Unit
RequestFits (make call) = CallFits call

requested-bounded : (D : Desk) → Bounded D → (text : CallAnswer → Ledger → Texts) (q : Request) → RequestFits q → Bounded (requested D text q).after
unfolding requested ledger_of
requested-bounded D B text outside r = B
requested-bounded D B text (make call) r =
    record { values = rw (fed-more start D.calls call) (step_fits (ledger_of D) call r B.values); lent = B.lent; weights = B.weights }

-- a line that makes a call
abbrev pub CallLineFits : Calls → Type 0
CallLineFits (AddEdit cells) = cells.value < 4294967296
CallLineFits call = Unit

pub proposals-fit : (D : Desk) → Bounded D → ProposalsFit (proposals_of D.lent)
proposals-fit D B i = each_at (EachMember RowFits) (map D.lent.edits benches) i [] (λ rows m. has-mapped D.lent.edits rows benches m (λ k n q. rw q (B.lent k))) (λ x m. absurd m)

pub request-fits : (D : Desk) → Bounded D → (call : Calls) → CallLineFits call → RequestFits (request_of D call)
unfolding request_of
request-fits D B (AddEdit cells) v = v
request-fits D B (Merge k) v = by (is_lent k) (λ (e : ltb k 9 ≡ true). rw e (B.lent k)) (λ (e : ltb k 9 ≡ false). rw e tt)
request-fits D B (Adopt edit) v = (proposals-fit D B, B.weights)
request-fits D B call v = tt

pub call-bounded : (D : Desk) → Bounded D → (text : CallAnswer → Ledger → Texts) (call : Calls) → CallLineFits call → Bounded (requested D text (request_of D call)).after
call-bounded D B text call v = requested-bounded D B text (request_of D call) (request-fits D B call v)

-- what is lent
record LentFits (L : Lent) : Type 0 where
  lent : (k : ℕ) → EachMember RowFits (L.edits k)
  weights : EachMember SeatFits L.roll

lent_fits : (D : Desk) → Bounded D → LentFits D.lent
lent_fits D B = record { lent = B.lent; weights = B.weights }

with-fits : (k : ℕ) (rows : Rows) (tables : ℕ → Rows) → EachMember RowFits rows → ((j : ℕ) → EachMember RowFits (tables j)) → (j : ℕ) → EachMember RowFits (with k rows tables j)
unfolding with
with-fits k rows tables f g j = by (eqb j k) (λ (e : eqb j k ≡ true). rw e f) (λ (e : eqb j k ≡ false). rw e (g j))

added-fits : (places : ℕ) (tables : ℕ → Rows) (k : ℕ) (row : Row) → RowFits row → ((j : ℕ) → EachMember RowFits (tables j)) → (j : ℕ) → EachMember RowFits (added places tables k row j)
unfolding added
added-fits places tables k row v g j =
    by (eqb (rows_fault places tables k) 0)
    (λ (e : eqb (rows_fault places tables k) 0 ≡ true). rw e (with-fits k (tables k ++ (row ∷ [])) tables (each_both RowFits (tables k) (row ∷ []) (g k) (each-one RowFits row v)) g j))
    (λ (e : eqb (rows_fault places tables k) 0 ≡ false). rw e (g j))

record-lent : (L : Lent) (k : ℕ) (R : Record) → LentFits L → EachMember EditFits R.edits → LentFits (with_record L k R)
unfolding with_record
record-lent L k R F f =
    by (is_lent k)
    (λ (e : ltb k 9 ≡ true). rw e (record { lent = with-fits k (edit_rows R) L.edits (rows_fit R f) F.lent; weights = F.weights }))
    (λ (e : ltb k 9 ≡ false). rw e F)

seat-fits : (bench weight : ℕ) → seat_number bench weight ≡ 0 → weight < 65536
unfolding seat_number
seat-fits bench weight h = ltb-true weight 65536 (and_r (ltb bench 256) (ltb weight 65536) (not-false _ (given-none 1 (not (ltb bench 256 && ltb weight 65536)) h)))

seat-lent : (L : Lent) (bench weight : ℕ) → LentFits L → LentFits (with_seat L bench weight)
unfolding with_seat
seat-lent L bench weight F =
    by (eqb (seat_number bench weight) 0)
    (λ (e : eqb (seat_number bench weight) 0 ≡ true).
    let seat : Seat = record { bench = bench; weight = weight } in
    rw e (record { lent = F.lent; weights = each_both SeatFits L.roll (seat ∷ []) F.weights (each-one SeatFits seat (seat-fits bench weight (eqb-true _ 0 e))) }))
    (λ (e : eqb (seat_number bench weight) 0 ≡ false). rw e F)

name-lent : (L : Lent) (name : ℕ) → LentFits L → LentFits (with_name L name)
unfolding with_name
name-lent L name F =
    by (eqb (name_number L) 0)
    (λ (e : eqb (name_number L) 0 ≡ true). rw e (record { lent = F.lent; weights = F.weights }))
    (λ (e : eqb (name_number L) 0 ≡ false). rw e F)

-- a line that lends
abbrev pub LendLineFits : Lends → Type 0
LendLineFits (EditRow k cells) = cells.value < 4294967296
LendLineFits lend = Unit

lends-fit : (D : Desk) → Bounded D → (lend : Lends) → LendLineFits lend → LentFits (lend_effect D lend).after.lent
unfolding lend_effect with_edit with_constraint without_roll without_row
lends-fit D B (EditRow k cells) v = record { lent = added-fits edit_places D.lent.edits k (edit_cells_row cells) v B.lent; weights = B.weights }
lends-fit D B (ConstraintRow k cells) v = record { lent = B.lent; weights = B.weights }
lends-fit D B (NoRows k) v = record-lent D.lent k empty_tables (lent_fits D B) (λ x m. absurd m)
lends-fit D B (BenchRows k) v = record-lent D.lent k (ledger_of D).multilog (lent_fits D B) B.values
lends-fit D B (RollRow seat weight) v = seat-lent D.lent seat weight (lent_fits D B)
lends-fit D B NoRoll v = record { lent = B.lent; weights = λ x m. absurd m }
lends-fit D B (RowName name) v = name-lent D.lent name (lent_fits D B)
lends-fit D B NoRow v = record { lent = B.lent; weights = B.weights }

-- the same calls, and other things lent
lent-bounded : (D E : Desk) → Bounded D → E.calls ≡ D.calls → LentFits E.lent → Bounded E
unfolding ledger_of
lent-bounded D E B e F = record { values = rw e B.values; lent = F.lent; weights = F.weights }

pub lend-bounded : (D : Desk) → Bounded D → (lend : Lends) → LendLineFits lend → Bounded (lend_effect D lend).after
lend-bounded D B lend v = lent-bounded D (lend_effect D lend).after B (lend-calls D lend) (lends-fit D B lend v)

-- a new proposal
pub new-proposal-fits : (t : proposal.LentToPropose) → EachMember RowFits t.edits → EachMember RowFits t.old_edits → EachMember EditFits (new_proposal t).edits
unfolding new_proposal proposed finished started joined_constraints unite
new-proposal-fits t f g =
    by (eqb (propose_fault t) 0)
    (λ (e : eqb (propose_fault t) 0 ≡ true). rw e (united-fits (record_m t).edits (proposal_q t).edits (decoded-fits t.edits f) (decoded-fits t.old_edits g)))
    (λ (e : eqb (propose_fault t) 0 ≡ false). rw e (λ x m. absurd m))

proposal-fits : (L : Lent) → LentFits L → (w : Proposing) → EachMember EditFits (proposal_made L w).edits
unfolding proposal_made
proposal-fits L F w =
    by (is_lent w.lent && is_lent w.old)
    (λ (e : (ltb w.lent 9 && ltb w.old 9) ≡ true). rw e (new-proposal-fits (tables_of L w) (F.lent w.lent) (F.lent w.old)))
    (λ (e : (ltb w.lent 9 && ltb w.old 9) ≡ false). rw e (λ x m. absurd m))

proposes-fit : (D : Desk) → Bounded D → (w : Proposing) → LentFits (proposal_effect D w).after.lent
unfolding proposal_effect
proposes-fit D B w =
    let n = lent_proposal_fault D.lent w in
    by (eqb n 0 && w.keep)
    (λ (e : (eqb n 0 && w.keep) ≡ true).
    rw e (record-lent D.lent w.old (proposal_made D.lent w) (lent_fits D B) (proposal-fits D.lent (lent_fits D B) w)))
    (λ (e : (eqb n 0 && w.keep) ≡ false). rw e (lent_fits D B))

pub proposal-bounded : (D : Desk) → Bounded D → (w : Proposing) → Bounded (proposal_effect D w).after
unfolding proposal_effect
proposal-bounded D B w = lent-bounded D (proposal_effect D w).after B refl (proposes-fit D B w)

-- at first
pub empty-bounded : Bounded empty_desk
unfolding empty_desk ledger_of fed start nothing_lent
empty-bounded = record { values = λ e m. absurd m; lent = λ k row m. absurd m; weights = λ row m. absurd m }
