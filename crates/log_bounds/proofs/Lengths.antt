-- The answer to a line whose numbers fit, on a desk whose numbers fit, is never longer than the limit: by the kind of line. Assumes nothing.
use mathlib.Core.Path.{◌≡◌, refl, sym, ap, ◌∙◌}
use mathlib.Core.Bool.{Bool, true, false, cond, ◌&&◌}
use mathlib.Core.Logic.{inl, inr}
use mathlib.Core.List.{List, [], ◌∷◌, ◌++◌}
use mathlib.Core.Option.{Option, none, some}
use Prim.Native.Nat.{ℕ, ◌-◌, ◌≤◌, ◌<◌, ◌^◌, min, max}
use native.Mathlib.Omega.{arith}
use borrow.Author.Tests.{eqb-true, eqb-false}
use lib.Dec.{eqb, ltb}
use lib.ListN.{length, take, replicate, length-map, length-take}
use lib.Seq.{take-length}
use Rattle.lists.specs.Lists.{mem}
use Rattle.lists.proofs.Lists.{by, and_l, and_r}
use Rattle.lists.proofs.Logic.{all-has, has-mapped, filter-from}
use Rattle.lists.proofs.Front.{filter-length}
use Rattle.record.specs.declared.Edit.{Edit}
use Rattle.record.specs.declared.Record as declared
use Rattle.std.specs.Prelude as prelude
use Rattle.std.specs.Prelude.{Some, None}
use Rattle.record.specs.Record.{Record}
use Rattle.record.proofs.Records.{written-names}
use Rattle.record.specs.Stored.{padded, filler_edit, record_of, stored, edit_named}
use Rattle.record.specs.Judgement.{must, never}
use Rattle.record.proofs.Padded.{take-padded}
use Rattle.record_rows.specs.row.Row.{Row, name_cell, edit_in_range, edit_of, edit_row}
use Rattle.record_rows.specs.grounds.Ground.{Rows}
use Rattle.record_rows.proofs.grounds.Grounds.{orelse-none}
use Rattle.record_rows.proofs.row.Cells.{name-small, edit-bounds}
use Rattle.record_tables.specs.Table.{decoded}
use Rattle.record_tables.proofs.Tables.{stored_back}
use Rattle.record_tables.proofs.Records.{lent-checked}
use Rattle.catalogue.specs.Shelves.{rows, schedule_of}
use Rattle.catalogue.specs.Chips.{chips_view}
use Rattle.text_forms.specs.Spelling.{bytes}
use Rattle.text_forms.specs.Form.{is_mark, fill}
use Rattle.text_forms.proofs.Forms.{room}
use Rattle.text_lines.specs.Line.{constraint_line}
use Rattle.text_report.specs.Report.{report_of}
use Rattle.text_report.proofs.Size.{report-size}
use Rattle.voting.specs.declared.RollRow.{RollRow}
use Rattle.voting.specs.Bundle.{members, between, bundle}
use Rattle.voting.specs.Tally.{Election, winner, counted}
use Rattle.voting_roll.specs.Roll.{is_bench}
use Rattle.voting_roll.specs.Election.{Proposals, held, election_fault, cast, election_of}
use Rattle.voting_count.specs.Count.{count_of}
use Rattle.voting_count.specs.Tallied.{Tallied, tallied_of}
use Rattle.judgement.specs.lent_edit.Asked.{lent_edit_fault}
use Rattle.reasons.specs.Reasons.{Reason}
use Rattle.reasons.specs.Given.{reason_of}
use Rattle.text_reasons.specs.ReasonLine.{reason_line, line_if_given}
use Rattle.text_reasons.proofs.Size.{given-line-size}
use Rattle.voting_bundles.specs.Bundles.{BundleAnswer, bundle_answer}
use Rattle.voting_proposals.specs.Propose.{propose_fault, new_proposal}
use Rattle.suggestions.specs.declared.Advice.{Advice}
use Rattle.suggestions.specs.declared.Advice.TheVariants.{Nothing, Notafter, NotafterEnables, Noncommuting}
use Rattle.suggestions.specs.Suggest.{rows_of, advised, given, pair_fault, suggested_rules}
use Rattle.ledger.specs.Ledger.{Ledger, Call, CallAnswer, add_edit, add_constraint, merge, hide, show, turn, adopt, pages, last, judge, call_detail, no_election, accepted_answer, refused_answer, change_to, change, adopted, act, refusal, step}
use Rattle.ledger.specs.Bench.{page_edits, open_edits, bench_of}
use Rattle.ledger.proofs.Valid.{Valid, step-valid}
use Rattle.ledger.proofs.Pages.{last-room}
use Rattle.log_forms.specs.Printed.{Texts}
use Rattle.log_answers.specs.Answers.{answered_text, bit, stored_text}
use Rattle.log_answers.specs.bench_answers.Asks.{hidden_text, schedule_text}
use Rattle.log_bounds.proofs.Sizes.{size_of, size_none, size-both, size-one, from-size, line-size, head-size, bit-small, answered-size, SmallEdit, rule-line-size, SmallRecord, checked-small, stored-text-size, stored-size, record-size, hidden-size, schedule-size, catalogue-size, journal-size, page-size}
use Rattle.log_bounds.proofs.Small.{EachMember, each_take, each-filled, each_both, entries-small, entries-few, journal-small}
use Rattle.log_commands.specs.declared.Ask.{Ask}
use Rattle.log_commands.specs.declared.Ask.TheVariants.{Text, Report, Hidden, Schedule, Catalogue, Journal, Page}
use Rattle.log_commands.specs.declared.Call.{Call as Calls}
use Rattle.log_commands.specs.declared.Call.TheVariants.{Adopt}
use Rattle.log_commands.specs.declared.Lend.{Lend as Lends}
use Rattle.log_commands.specs.declared.Proposing.{Proposing}
use Rattle.log_commands.specs.declared.Suggesting.{Suggesting}
use Rattle.log_commands.specs.declared.Vote.{Vote}
use Rattle.log_commands.specs.declared.Vote.TheVariants.{Elect, Bundle, Suggest, Test, Winner, Tally, Why}
use Rattle.log_lent.specs.Lent.{Lent, is_lent}
use Rattle.log_lent.specs.lent_calls.Calls.{proposals_of, bundle_in, lent_row_fault, row_sound, reason_in, why_fault, suggest_fault, suggestion_fault, suggested_rules_in}
use Rattle.log_lent.specs.lent_proposals.Made.{tables_of, lent_proposal_fault, proposal_made}
use Rattle.log_session.specs.Desk.{Desk, Request, outside, make, ledger_of, bench_in, requested, printed_of}
use Rattle.log_bounds.specs.Bounded.{answer_limit, Bounded}
use Rattle.log_session.specs.Lends.{lend_effect}
use Rattle.log_session.specs.Requests.{request_of}
use Rattle.log_session.specs.calls.Lines.{pages_text, adoption_text, call_text, call_effect}
use Rattle.log_session.specs.questions.Questions.{ask_text}
use Rattle.log_session.specs.votes.Votes.{election_line, bundle_text, suggestion_text, test_line, won_text, winner_text, tally_text, proposal_effect, vote_effect}
use Rattle.log_session.proofs.Cases.{ledger-valid}
use Rattle.log_session.proofs.calls.Telling.{lend-text}
use Rattle.log_bounds.proofs.Numbers.{judge-small, propose-small, bundle-number-small, test-number-small, why-number-small, why-asked, suggest-number-small, lend-number-small, SmallElection, counted-small, election-small, SmallTally, tally-small}
use Rattle.log_bounds.proofs.Bounds.{RowFits, SeatFits, decoded-fits, ProposalsFit, held_fits, CallFits, RequestFits, CallLineFits, proposals-fit, request-fits, new-proposal-fits}
use Rattle.log_session.proofs.votes.Making.{proposal-checked}
use Rattle.voting_bundles.proofs.Judging.{bundle-checked}
use Rattle.log_session.proofs.winners.Won.{winner-holds, vote-bundle, faultless, seat-checked, won-bundle}

-- the edits of a desk
filler-small : SmallEdit filler_edit
unfolding edit_row
filler-small = record { name = omega arith; place = omega arith; value = omega arith }

named_small : (l : List Edit) → EachMember SmallEdit l → (x : ℕ) → SmallEdit (edit_named l x)
unfolding edit_named
named_small [] f x = filler-small
named_small (e ∷ l) f x =
    by (eqb x e.name) (λ (q : eqb x e.name ≡ true). rw q (f e (inl refl))) (λ (q : eqb x e.name ≡ false). rw q (named_small l (λ y m. f y (inr m)) x))

hidden-in : (R : Record) → SmallRecord R → (marks : List ℕ) → size_of (hidden_text (record_of (stored R)).edits marks) ≤ 7680
hidden-in R k marks =
    let q : (record_of (stored R)).edits ≡ R.edits = ap (λ (S : Record). S.edits) (stored_back R) in
    rw q (hidden-size R.edits k.editplaces k.edits marks)

schedule-in : (l : List Edit) → length l ≤ 127 → EachMember SmallEdit l → size_of (schedule_text (take (length l) (padded 127 filler_edit l))) ≤ 7680
schedule-in l h f =
    let q : take (length l) (padded 127 filler_edit l) ≡ l = take-padded 127 filler_edit (length l) l (omega arith) ∙ take-length l in
    rw q (schedule-size l h f)

padded-small : (l : List Edit) → EachMember SmallEdit l → EachMember SmallEdit (padded 127 filler_edit l)
unfolding padded
padded-small l f = each_both SmallEdit l (replicate (127 - length l) filler_edit) f (each-filled SmallEdit (127 - length l) filler_edit filler-small)

module _ (D : Desk) (B : Bounded D) where
  ledger-small : SmallRecord (ledger_of D).multilog
  ledger-small = checked-small (ledger_of D).multilog (ledger-valid D).checked B.values

  pages-small : EachMember SmallEdit (page_edits (ledger_of D))
  unfolding page_edits
  pages-small e m = has-mapped (edit_named (ledger_of D).multilog.edits) e (pages (ledger_of D)) m (λ x n q. rw q (named_small (ledger_of D).multilog.edits ledger-small.edits x))

  opened-small : EachMember SmallEdit (open_edits (ledger_of D))
  unfolding open_edits
  opened-small = each_take SmallEdit (ledger_of D).opened (page_edits (ledger_of D)) pages-small

  pages-few : length (page_edits (ledger_of D)) ≤ 127
  unfolding page_edits last
  pages-few = omega (arith, length-map (pages (ledger_of D)) (edit_named (ledger_of D).multilog.edits), last-room (ledger_of D) (ledger-valid D))

  -- A QUESTION
  pub ask-size : (ask : Ask) → size_of (ask_text ask D) ≤ answer_limit
  unfolding ask_text bench_in bench_of schedule_of
  ask-size Text = omega (arith, record-size (ledger_of D).multilog ledger-small)
  ask-size Report =
      let R = (ledger_of D).multilog in
      omega (arith, size-one (report_of R), report-size R (ledger-valid D).checked (ledger-valid D).sound-now)
  ask-size Hidden = omega (arith, hidden-in (ledger_of D).multilog ledger-small (bench_in D).hidden)
  ask-size Schedule = omega (arith, schedule-in (page_edits (ledger_of D)) pages-few pages-small)
  ask-size Catalogue =
      let es = open_edits (ledger_of D) in
      omega (arith, catalogue-size (chips_view es).catalogue.entries (entries-few es opened-small) (entries-small es opened-small))
  ask-size Journal =
      let L = ledger_of D in
      let es = take L.opened (padded 127 filler_edit (page_edits L)) in
      let few : length es ≤ 127 = omega (arith, length-take L.opened (padded 127 filler_edit (page_edits L)), (ledger-valid D).opened-within, last-room L (ledger-valid D)) in
      omega (arith, journal-size es (chips_view (open_edits L)).journal.rows few (each_take SmallEdit L.opened (padded 127 filler_edit (page_edits L)) (padded-small (page_edits L) pages-small)) (journal-small (open_edits L) opened-small))
  ask-size Page =
      let L = ledger_of D in
      let h : last L < 4294967296 = omega (arith, last-room L (ledger-valid D)) in
      omega (arith, page-size L.opened (last L) (omega (arith, (ledger-valid D).opened-within)) h)

-- the numbers of an answer
record SmallAnswer (a : CallAnswer) : Type 0 where
  number : a.number < 4294967296
  undone : a.undone < 4294967296
  redone : a.redone < 4294967296
  greatest : a.greatest < 4294967296
  silent : a.silent < 4294967296
  total : a.total < 4294967296

refused-small : (n at : ℕ) → n ≤ 14 → SmallAnswer (refused_answer n at)
refused-small n at h = record { number = omega arith; undone = omega arith; redone = omega arith; greatest = omega arith; silent = omega arith; total = omega arith }

accepted-small : (undone redone : ℕ) (E : Election) → undone ≤ rows → redone ≤ rows → SmallElection E → SmallAnswer (accepted_answer undone redone E)
accepted-small undone redone E h k s =
    record { number = omega arith; undone = omega arith; redone = omega arith; greatest = s.greatest; silent = s.silent; total = s.total }

no-election : SmallElection no_election
no-election = record { number = omega arith; greatest = omega arith; silent = omega arith; total = omega arith }

change-small : (L : Ledger) → Valid L → (R : Record) (hidden : List ℕ) (E : Election) → SmallElection E → last (change L R hidden E).after ≤ rows → SmallAnswer (change L R hidden E).answer
unfolding change change_to last pages
change-small L v R hidden E s h =
    let o : L.opened ≤ rows = omega (arith, v.opened-within, last-room L v) in
    accepted-small _ _ E (omega arith) (omega arith) s

adopted-small : (L : Ledger) → Valid L → (E : Election) (o : Option Record) → SmallElection E → last (adopted L E o).after ≤ rows → SmallAnswer (adopted L E o).answer
adopted-small L v E none s h = accepted-small 0 0 E (omega arith) (omega arith) s
adopted-small L v E (some B) s h = change-small L v _ L.hidden E s h

act-small : (L : Ledger) → Valid L → (call : Call) → CallFits call → judge L call ≡ 0 → last (act L call).after ≤ rows → SmallAnswer (act L call).answer
unfolding act judge
act-small L v (add_edit row) c z h = change-small L v _ L.hidden no_election no-election h
act-small L v (add_constraint row) c z h = change-small L v _ L.hidden no_election no-election h
act-small L v (merge edits constraints) c z h = change-small L v _ L.hidden no_election no-election h
act-small L v (hide x) c z h = change-small L v _ (x ∷ L.hidden) no_election no-election h
act-small L v (show x) c z h = change-small L v _ _ no_election no-election h
act-small L v (turn n) c z h = accepted-small 0 0 no_election (omega arith) (omega arith) no-election
act-small L v (adopt e P roll) c z h =
    adopted-small L v (counted (cast e P roll)) (winner (cast e P roll)) (counted-small e P roll c.1 (orelse-none (election_fault e P roll) _ z).0) h

step_small : (L : Ledger) → Valid L → (call : Call) → CallFits call → SmallAnswer (step L call).answer
unfolding step refusal
step_small L v call c =
    let w = last-room (step L call).after (step-valid L call v) in
    by (eqb (judge L call) 0)
    (λ (e : eqb (judge L call) 0 ≡ true). rw e (act-small L v call c (eqb-true (judge L call) 0 e) (rw e at w)))
    (λ (e : eqb (judge L call) 0 ≡ false). rw e (refused-small (judge L call) (call_detail L call) (judge-small L call)))

pages-size : (a : CallAnswer) (opened last : ℕ) → SmallAnswer a → opened < 4294967296 → last < 4294967296 → size_of (pages_text a opened last) ≤ 200
unfolding pages_text room bytes is_mark
pages-size a opened last s h i = line-size (bytes "undone=# redone=# open=# last=#\n") (a.undone ∷ a.redone ∷ opened ∷ last ∷ []) 200 (s.undone, (s.redone, (h, (i, tt)))) refl

call-text-size : (call : Calls) (a : CallAnswer) (opened last : ℕ) → SmallAnswer a → opened < 4294967296 → last < 4294967296 → size_of (call_text call a opened last) ≤ 200
unfolding call_text adoption_text room bytes is_mark
call-text-size (Adopt edit) a opened last s h i =
    line-size (bytes "won=? greatest=# silent=# total=# undone=# redone=# open=# last=#\n") (bit a.won ∷ a.greatest ∷ a.silent ∷ a.total ∷ a.undone ∷ a.redone ∷ opened ∷ last ∷ []) 200
    (bit-small a.won, (s.greatest, (s.silent, (s.total, (s.undone, (s.redone, (h, (i, tt)))))))) refl
call-text-size call a opened last s h i = pages-size a opened last s h i

-- a refusal, or texts that are short
answer-size : (number line : ℕ) (texts : Texts) → number ≤ 14 → line < 2 ^ 64 → (number ≡ 0 → size_of texts ≤ answer_limit) → size_of (answered_text number texts line) ≤ answer_limit
answer-size number line texts h i f = answered-size number line answer_limit texts (omega arith) i (omega arith) f

-- a number of the line is outside its range
outside-size : (line : ℕ) → line < 2 ^ 64 → size_of (answered_text 2 [] line) ≤ answer_limit
outside-size line l = answer-size 2 line [] (omega arith) l (λ z. omega (arith, size_none))

module _ (D : Desk) (B : Bounded D) (line : ℕ) (l : line < 2 ^ 64) where
  requested-size : (call : Calls) (q : Request) → RequestFits q → size_of (printed_of (requested D (λ a L. call_text call a L.opened (last L)) q) line) ≤ answer_limit
  unfolding requested printed_of
  requested-size call outside c = outside-size line l
  requested-size call (make made) c =
      let r = step (ledger_of D) made in
      let s = step_small (ledger_of D) (ledger-valid D) made c in
      let v = step-valid (ledger_of D) made (ledger-valid D) in
      let h : last r.after < 4294967296 = omega (arith, last-room r.after v) in
      answered-size r.answer.number line answer_limit (call_text call r.answer r.after.opened (last r.after)) s.number l (omega arith)
      (λ z. omega (arith, call-text-size call r.answer r.after.opened (last r.after) s (omega (arith, v.opened-within)) h))

  -- A CALL
  pub call-size : (call : Calls) → CallLineFits call → size_of (printed_of (call_effect D call) line) ≤ answer_limit
  unfolding call_effect
  call-size call v = requested-size call (request_of D call) (request-fits D B call v)

  -- A PROPOSAL
  pub proposal-size : (w : Proposing) → size_of (printed_of (proposal_effect D w) line) ≤ answer_limit
  unfolding proposal_effect printed_of lent_proposal_fault proposal_made
  proposal-size w =
      by (is_lent w.lent && is_lent w.old)
      (λ (e : (ltb w.lent 9 && ltb w.old 9) ≡ true).
      let t = tables_of D.lent w in
      rw e (answer-size (propose_fault t) line _ (propose-small t) l
      (λ z. omega (arith, record-size (new_proposal t) (checked-small (new_proposal t) (proposal-checked t z) (new-proposal-fits t (B.lent w.lent) (B.lent w.old)))))))
      (λ (e : (ltb w.lent 9 && ltb w.old 9) ≡ false). rw e (outside-size line l))

-- the bundle of a record
bundle-small : (R : Record) (e : ℕ) → SmallRecord R → SmallRecord (bundle R e)
unfolding bundle
bundle-small R e k = record {
  editplaces = omega (arith, filter-length (λ x. mem x.name (members R e)) R.edits, k.editplaces);
  constraintplaces = omega (arith, filter-length (λ c. between (members R e) c.left c.right) R.constraints, k.constraintplaces);
  edits = λ x m. k.edits x (filter-from (λ x. mem x.name (members R e)) R.edits x m).0;
  sides = λ c m. k.sides c (filter-from (λ c. between (members R e) c.left c.right) R.constraints c m).0;
}

bundle-text-size : (b : BundleAnswer) (R : Record) → SmallRecord R → b.bundle ≡ stored R → size_of (bundle_text b) ≤ 34808
unfolding bundle_text room bytes is_mark
bundle-text-size b R k q =
    rw q (stored-size R k (bytes "eligible=? edits=# rules=#\n") (bit b.eligible ∷ length R.edits ∷ length R.constraints ∷ [])
    (bit-small b.eligible, (omega (arith, k.editplaces), (omega (arith, k.constraintplaces), tt))) refl)

-- suggested constraints
suggestion-size : (advice : Advice) (a b : ℕ) → a < 2304 → b < 2304 → size_of (suggestion_text (given (rows_of advice a b))) ≤ 162
unfolding suggestion_text room bytes is_mark
suggestion-size Nothing a b h i = head-size (bytes "rules=#\n") (0 ∷ []) 102 [] (omega arith, tt) refl (omega (arith, size_none))
suggestion-size Notafter a b h i =
    let row = a ∷ 0 ∷ b ∷ [] in
    head-size (bytes "rules=#\n") (1 ∷ []) 102 (constraint_line row ∷ []) (omega arith, tt) refl (omega (arith, size-one (constraint_line row), rule-line-size row (omega arith) (omega arith)))
suggestion-size NotafterEnables a b h i =
    let row = a ∷ 0 ∷ b ∷ [] in
    let next = a ∷ 1 ∷ b ∷ [] in
    head-size (bytes "rules=#\n") (2 ∷ []) 102 (constraint_line row ∷ constraint_line next ∷ []) (omega arith, tt) refl
    (omega (
      arith,
      size-both (constraint_line row ∷ []) (constraint_line next ∷ []),
      size-one (constraint_line row),
      size-one (constraint_line next),
      rule-line-size row (omega arith) (omega arith),
      rule-line-size next (omega arith) (omega arith),
    ))
suggestion-size Noncommuting a b h i =
    let row = min a b ∷ 2 ∷ max a b ∷ [] in
    head-size (bytes "rules=#\n") (1 ∷ []) 102 (constraint_line row ∷ []) (omega arith, tt) refl (omega (arith, size-one (constraint_line row), rule-line-size row (omega arith) (omega arith)))

pair-size : (a b : Row) (kind : ℕ) → pair_fault a b kind ≡ 0 → size_of (suggestion_text (suggested_rules a b kind)) ≤ 162
unfolding pair_fault suggested_rules
pair-size a b kind z =
    by (edit_in_range a && (edit_in_range b && ltb kind 2))
    (λ (e : (edit_in_range a && (edit_in_range b && ltb kind 2)) ≡ true).
    let p = edit-bounds a refl (and_l (edit_in_range a) (edit_in_range b && ltb kind 2) e) in
    let q = edit-bounds b refl (and_l (edit_in_range b) (ltb kind 2) (and_r (edit_in_range a) (edit_in_range b && ltb kind 2) e)) in
    suggestion-size (advised kind (edit_of a) (edit_of b)) (name_cell a) (name_cell b) p.0 q.0)
    (λ (e : (edit_in_range a && (edit_in_range b && ltb kind 2)) ≡ false). absurd (let y : ◌≡◌ {A = ℕ} 2 0 = rw e at z in omega arith))

suggested-size : (R : Record) (w : Suggesting) → suggestion_fault R w ≡ 0 → size_of (suggestion_text (suggested_rules_in R w)) ≤ 162
unfolding suggestion_fault suggested_rules_in
suggested-size R w z =
    pair-size (edit_row (edit_named R.edits w.first)) (edit_row (edit_named R.edits w.second)) w.case
    (orelse-none (suggest_fault R w) (pair_fault (edit_row (edit_named R.edits w.first)) (edit_row (edit_named R.edits w.second)) w.case) z).1

tested-size : (sound : Bool) → size_of (test_line sound) ≤ answer_limit
unfolding test_line room bytes is_mark
tested-size sound = line-size (bytes "sound=?\n") (bit sound ∷ []) answer_limit (bit-small sound, tt) refl

election-line-size : (E : Election) → SmallElection E → size_of (election_line E) ≤ 100
unfolding election_line room bytes is_mark
election-line-size E s =
    line-size (bytes "won=? greatest=# silent=# total=#\n") (bit E.won ∷ E.greatest ∷ E.silent ∷ E.total ∷ []) 100 (bit-small E.won, (s.greatest, (s.silent, (s.total, tt)))) refl

-- an election's answers on the rows so far
tally-text-size : (t : Tallied) → SmallTally t → size_of (tally_text t.answers) ≤ 900
unfolding tally_text
tally-text-size t s = omega (arith, s.few, from-size (λ i E. election_line E) 100 9 0 t.answers (omega (arith, s.few)) (λ i E h m. election-line-size E (s.each E m)))

-- the line of a reason, where one is given
why-text-size : (L : Lent) (k e : ℕ) → why_fault L k e ≡ 0 → size_of (line_if_given e (reason_in L k e) ∷ []) ≤ answer_limit
unfolding reason_in
why-text-size L k e z =
    let R = decoded (L.edits k) (L.constraints k) in
    let a = why-asked L k e z in
    omega (arith, size-one (line_if_given e (reason_of R e)), given-size (reason_of R e) (given-line-size R a.checked a.sound-now e (written-names R e a.known)))
  where
    given-size : (o : prelude.Option Reason) → ((r : Reason) → o ≡ Some r → length (reason_line e r) ≤ 671) → length (line_if_given e o) ≤ 671
    given-size (Some r) f = f r refl
    given-size None f = omega arith

-- what an election has won
winner-small : (e : ℕ) (P : Proposals) (roll : List RollRow) → ProposalsFit P → election_fault e P roll ≡ 0 → (B : Record) → winner (cast e P roll) ≡ some B → SmallRecord B
unfolding winner cast
winner-small e P roll f z =
    winner-holds SmallRecord (cast e P roll) (held P) e roll
    (λ row m B q.
    let i = all-has is_bench roll (faultless e P roll z).1 row m in
    let k = bundle-small (held P row.bench) e (checked-small (held P row.bench) (seat-checked e P roll z row i) (held_fits P f row.bench)) in
    rw (vote-bundle (held P row.bench) e B q) at k)

won-size : (edit : ℕ) (b : declared.Record) (R : Record) → SmallRecord R → b ≡ stored R → edit < 4294967296 → size_of (won_text edit b) ≤ 34848
unfolding won_text room bytes is_mark
won-size edit b R k q h =
    let ns = edit ∷ bit (must (record_of (stored R)) edit) ∷ bit (never (record_of (stored R)) edit) ∷ length R.edits ∷ length R.constraints ∷ [] in
    let head = fill (bytes "edit=@ must=? never=? edits=# rules=#\n") ns ∷ [] in
    let s = line-size (bytes "edit=@ must=? never=? edits=# rules=#\n") ns 100
    (h, (bit-small (must (record_of (stored R)) edit), (bit-small (never (record_of (stored R)) edit), (omega (arith, k.editplaces), (omega (arith, k.constraintplaces), tt))))) refl in
    let t = stored_text (stored R) ∷ [] in
    let n : size_of (head ++ t) ≤ 34848 = omega (arith, size-both head t, s, stored-text-size R k) in
    rw q n

won-rest-size : (edit : ℕ) (P : Proposals) (roll : List RollRow) → ProposalsFit P
    → size_of (cond (count_of edit P roll).election.won (won_text edit (count_of edit P roll).bundle) []) ≤ 34848
won-rest-size edit P roll f =
    let c = count_of edit P roll in
    by c.election.won
    (λ (e : c.election.won ≡ true).
    let W = won-bundle (λ B. SmallRecord B × (edit < 4294967296)) edit P roll
    (λ z B q. let n = name-small edit (faultless edit P roll z).3 in (winner-small edit P roll f z B q, omega arith)) e in
    rw e (won-size edit c.bundle W.choice W.known.0 W.holds W.known.1))
    (λ (e : c.election.won ≡ false). rw e (omega (arith, size_none)))

module _ (line : ℕ) (l : line < 2 ^ 64) where
  -- A REFUSAL
  pub refusal-size : (number : ℕ) → number ≤ 14 → size_of (answered_text number [] line) ≤ answer_limit
  refusal-size number h = answer-size number line [] h l (λ z. omega (arith, size_none))

  elect-size : (E : Election) → SmallElection E → size_of (answered_text E.number (election_line E) line) ≤ answer_limit
  elect-size E s = answered-size E.number line answer_limit (election_line E) s.number l (omega arith) (λ z. omega (arith, election-line-size E s))

  tally-size : (t : Tallied) → SmallTally t → size_of (answered_text t.number (tally_text t.answers) line) ≤ answer_limit
  tally-size t s = answer-size t.number line (tally_text t.answers) s.number l (λ z. omega (arith, tally-text-size t s))

  winner-size : (edit : ℕ) (P : Proposals) (roll : List RollRow) → ProposalsFit P → EachMember SeatFits roll
      → size_of (answered_text (count_of edit P roll).election.number (winner_text edit (count_of edit P roll)) line) ≤ answer_limit
  unfolding count_of winner_text
  winner-size edit P roll f w =
      let E = election_of edit P roll in
      let s = election-small edit P roll w in
      let rest = cond E.won (won_text edit (count_of edit P roll).bundle) [] in
      answered-size E.number line answer_limit (election_line E ++ rest) s.number l (omega arith)
      (λ z. omega (arith, size-both (election_line E) rest, election-line-size E s, won-rest-size edit P roll f))

  bundle-answer-size : (es cs : Rows) → EachMember RowFits es → (edit : ℕ) → size_of (answered_text (bundle_answer es cs edit).number (bundle_text (bundle_answer es cs edit)) line) ≤ answer_limit
  unfolding bundle_answer
  bundle-answer-size es cs f edit =
      let n = lent_edit_fault es cs edit in
      let R = decoded es cs in
      answer-size (bundle_answer es cs edit).number line (bundle_text (bundle_answer es cs edit)) (bundle-number-small es cs edit) l
      (by (eqb n 0)
      (λ (e : eqb n 0 ≡ true) z.
      let k = bundle-small R edit (checked-small R (lent-checked es cs (sym (bundle-checked es cs edit (sym (eqb-true n 0 e))))) (decoded-fits es f)) in
      omega (arith, bundle-text-size (bundle_answer es cs edit) (bundle R edit) k (rw e refl)))
      (λ (e : eqb n 0 ≡ false) z. absurd (eqb-false n 0 e (rw e at z))))

module _ (D : Desk) (B : Bounded D) (line : ℕ) (l : line < 2 ^ 64) where
  bundle-size : (k edit : ℕ) → size_of (answered_text (bundle_in D.lent k edit).number (bundle_text (bundle_in D.lent k edit)) line) ≤ answer_limit
  unfolding bundle_in
  bundle-size k edit =
      by (is_lent k)
      (λ (e : ltb k 9 ≡ true). rw e (bundle-answer-size line l (D.lent.edits k) (D.lent.constraints k) (B.lent k) edit))
      (λ (e : ltb k 9 ≡ false). rw e (outside-size line l))

  test-size : (k : ℕ) → size_of (answered_text (lent_row_fault D.lent k) (test_line (row_sound D.lent k)) line) ≤ answer_limit
  test-size k = answer-size (lent_row_fault D.lent k) line (test_line (row_sound D.lent k)) (test-number-small D.lent k) l (λ z. tested-size (row_sound D.lent k))

  why-size : (k edit : ℕ) → size_of (answered_text (why_fault D.lent k edit) (line_if_given edit (reason_in D.lent k edit) ∷ []) line) ≤ answer_limit
  why-size k edit =
      answered-size (why_fault D.lent k edit) line answer_limit (line_if_given edit (reason_in D.lent k edit) ∷ []) (omega (arith, why-number-small D.lent k edit)) l (omega arith)
      (why-text-size D.lent k edit)

  -- A LINE ABOUT VOTES
  pub vote-size : (vote : Vote) → size_of (printed_of (vote_effect D vote) line) ≤ answer_limit
  unfolding vote_effect printed_of
  vote-size (Elect edit) = elect-size line l (election_of edit (proposals_of D.lent) D.lent.roll) (election-small edit (proposals_of D.lent) D.lent.roll B.weights)
  vote-size (Bundle edit k) = bundle-size k edit
  vote-size (Suggest w) =
      let R = (ledger_of D).multilog in
      answer-size (suggestion_fault R w) line (suggestion_text (suggested_rules_in R w)) (suggest-number-small R w) l
      (λ z. omega (arith, suggested-size R w z))
  vote-size (Test k) = test-size k
  vote-size (Winner edit) = winner-size line l edit (proposals_of D.lent) D.lent.roll (proposals-fit D B) B.weights
  vote-size (Tally edit) = tally-size line l (tallied_of edit (proposals_of D.lent) D.lent.roll) (tally-small edit (proposals_of D.lent) D.lent.roll B.weights)
  vote-size (Why edit k) = why-size k edit

  -- A LINE THAT LENDS
  pub lend-size : (lend : Lends) → size_of (printed_of (lend_effect D lend) line) ≤ answer_limit
  unfolding printed_of
  lend-size lend = answer-size (lend_effect D lend).number line (lend_effect D lend).text (lend-number-small D lend) l (λ z. rw (lend-text D lend) (omega (arith, size_none)))
