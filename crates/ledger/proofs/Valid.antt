-- What holds of every ledger that calls lead to. Assumes nothing.
use mathlib.Core.Path.{◌≡◌, refl}
use mathlib.Core.Bool.{true, not}
use mathlib.Core.List.{List, [], ◌∷◌}
use mathlib.Core.Option.{Option, none, some}
use Prim.Native.Nat.{ℕ, ◌≤◌}
use native.Mathlib.Omega.{arith}
use lib.Dec.{eqb}
use lib.IntN.{ℤ}
use borrow.Author.Tests.{eqb-true, not-false}
use Rattle.lists.specs.Lists.{any, mem, ◌within◌, find, grown, closure}
use Rattle.record.specs.Record.{Record, names, written, has}
use Rattle.record.specs.Sound.{Sound}
use Rattle.record.specs.Schedule.{needs, musts, ready, order, admits, scheduled, schedule}
use Rattle.record.specs.Judgement.{sound}
use Rattle.lists.proofs.Lists.{by, and_r, nil-no, cons-within, filter-mem}
use Rattle.record.proofs.Scheduled.{schedule-sound}
use Rattle.record_rows.proofs.grounds.Grounds.{orelse-none, given-none}
use Rattle.record_rows.specs.row.Row.{is_name}
use Rattle.record_rows.specs.grounds.Ground.{◌given◌}
use Rattle.record_tables.specs.Table.{empty_tables, decoded, lent_fault, add_edit_fault, add_constraint_fault, record_join_fault, unite}
use Rattle.record_tables.specs.Checked.{Checked}
use Rattle.record_tables.proofs.Unions.{united-extends}
use Rattle.record_tables.proofs.Records.{empty-checked, empty-sound, joined-checked, added-edit-checked, added-constraint-checked, record-checked, checked-wellformed}
use Rattle.voting.specs.Tally.{Election, winner}
use Rattle.voting_roll.specs.Election.{election_fault, cast, counted}
use Rattle.std.specs.Prelude.{Option as Page, Some, None}
use Rattle.pages_turner.specs.Turn.{turned, open_after}
use Rattle.pages_turner.proofs.Landed.{turned-lands}
use Rattle.ledger.specs.Ledger.{Ledger, Call, add_edit, add_constraint, merge, hide, show, turn, adopt, start, pages, last, bundle_fault, judge, no_election, change_to, change, shown, adopted, act, refusal, step, fed}

-- the ledger's record is as every stored record is, and sound; hidden edits are written; the schedule is a sound row of the record; the open page is one
-- of it
pub record Valid (L : Ledger) : Type 0 where
  pub checked : Checked L.multilog
  pub sound-now : sound L.multilog ≡ true
  pub hidden-written : L.hidden within written L.multilog
  pub sound-schedule : Sound L.multilog L.schedule
  pub opened-within : L.opened ≤ last L

-- the schedule of the empty record is INIT alone
pub empty-schedule : schedule empty_tables [] ≡ 0 ∷ []
unfolding schedule scheduled admits musts order ready needs names written has closure grown find any mem
empty-schedule = refl

pub start-valid : Valid start
unfolding start last pages
start-valid = record {
  checked = empty-checked;
  sound-now = empty-sound;
  hidden-written = λ x i. nil-no x i;
  sound-schedule = rw empty-schedule at (schedule-sound empty_tables (checked-wellformed empty_tables empty-checked) empty-sound []);
  opened-within = omega arith;
}

-- a change to a sound row, and to the bench schedule
change-to-valid : (L : Ledger) (R : Record) (hidden row : List ℕ) (E : Election) → Checked R → sound R ≡ true → hidden within written R → Sound R row
    → Valid (change_to L R hidden row E).after
unfolding change_to last pages
change-to-valid L R hidden row E k h w s = record { checked = k; sound-now = h; hidden-written = w; sound-schedule = s; opened-within = omega arith }

change-valid : (L : Ledger) (R : Record) (hidden : List ℕ) (E : Election) → Checked R → sound R ≡ true → hidden within written R
    → Valid (change L R hidden E).after
unfolding change
change-valid L R hidden E k h w =
    change-to-valid L R hidden (schedule R hidden) E k h w (schedule-sound R (checked-wellformed R k) h hidden)

-- a union with a checked result, that is sound
union-valid : (L : Ledger) (S : Record) (E : Election) → Valid L → Checked (unite L.multilog S) → sound (unite L.multilog S) ≡ true
    → Valid (change L (unite L.multilog S) L.hidden E).after
union-valid L S E v k h =
    change-valid L (unite L.multilog S) L.hidden E k h (λ x i. (united-extends L.multilog S).edits x (v.hidden-written x i))

adopted-valid : (L : Ledger) (E : Election) (o : Option Record) → Valid L → bundle_fault L.multilog o ≡ 0 → Valid (adopted L E o).after
adopted-valid L E none v h = v
adopted-valid L E (some B) v h =
    union-valid L B E v (record-checked L.multilog B v.checked (orelse-none _ _ h).0) (not-false _ (given-none 7 _ (orelse-none (record_join_fault L.multilog B) _ h).1))

landing-within : (opened last : ℕ) (n : ℤ) (t : Page ℕ) → turned opened last n ≡ t → opened ≤ last → open_after opened t ≤ last
landing-within opened last n (Some page) e h = (turned-lands last page opened n e).within
landing-within opened last n None e h = h

pub shown-within : (x : ℕ) (hidden : List ℕ) → shown x hidden within hidden
unfolding shown
shown-within x hidden y i = (filter-mem (λ y. not (eqb y x)) hidden y i).0

act-valid : (L : Ledger) (call : Call) → Valid L → judge L call ≡ 0 → Valid (act L call).after
unfolding act judge last pages
act-valid L (add_edit row) v h =
    union-valid L _ no_election v (added-edit-checked L.multilog row v.checked (orelse-none _ _ h).0)
    (not-false _ (given-none 7 _ (orelse-none (add_edit_fault L.multilog row) _ h).1))
act-valid L (add_constraint row) v h =
    union-valid L _ no_election v (added-constraint-checked L.multilog row v.checked (orelse-none _ _ h).0)
    (not-false _ (given-none 7 _ (orelse-none (add_constraint_fault L.multilog row) _ h).1))
act-valid L (merge edits constraints) v h =
    union-valid L _ no_election v (joined-checked L.multilog edits constraints v.checked (orelse-none _ _ h).0)
    (and_r (sound (decoded edits constraints)) _ (not-false _ (given-none 7 _ (orelse-none (lent_fault L.multilog edits constraints) _ h).1)))
act-valid L (hide x) v h =
    let k = (orelse-none (2 given not (is_name x)) _ h).1 in
    change-valid L L.multilog (x ∷ L.hidden) no_election v.checked v.sound-now
    (cons-within x L.hidden (written L.multilog) (not-false _ (given-none 4 _ (orelse-none _ _ k).0)) v.hidden-written)
act-valid L (show x) v h =
    change-valid L L.multilog (shown x L.hidden) no_election v.checked v.sound-now (λ y i. v.hidden-written y (shown-within x L.hidden y i))
act-valid L (turn n) v h = record {
  checked = v.checked;
  sound-now = v.sound-now;
  hidden-written = v.hidden-written;
  sound-schedule = v.sound-schedule;
  opened-within = landing-within L.opened (last L) n (turned L.opened (last L) n) refl v.opened-within;
}
act-valid L (adopt e P roll) v h =
    adopted-valid L (counted (cast e P roll)) (winner (cast e P roll)) v (orelse-none (election_fault e P roll) _ h).1

pub step-valid : (L : Ledger) (call : Call) → Valid L → Valid (step L call).after
unfolding step refusal
step-valid L call v = by (eqb (judge L call) 0) (λ e. rw e (act-valid L call v (eqb-true _ 0 e))) (λ e. rw e v)

pub fed-valid : (L : Ledger) (calls : List Call) → Valid L → Valid (fed L calls)
unfolding fed
fed-valid L [] v = v
fed-valid L (call ∷ calls) v = fed-valid (step L call).after calls (step-valid L call v)
