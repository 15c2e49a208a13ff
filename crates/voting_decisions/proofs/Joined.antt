-- Decisions as a table in order, which joins another in one walk. Assumes nothing.
use mathlib.Core.Path.{◌≡◌, ap, ◌∙◌}
use mathlib.Core.Bool.{true}
use mathlib.Core.List.{List, [], ◌∷◌, map}
use Rattle.std.specs.Prelude.{Result}
use Rattle.refusals.specs.declared.Refusal.{Refusal}
use Prim.Native.Nat.{ℕ, ◌+◌, ◌≤◌}
use native.Mathlib.Omega.{arith}
use lib.Dec.{ltb}
use lib.ListN.{length, length-map}
use Rattle.record.specs.declared.Edit.{Edit}
use Rattle.record.specs.declared.Constraint.{Constraint}
use Rattle.record.specs.declared.Record as declared
use Rattle.lists.specs.Lists.{mem}
use Rattle.record.specs.Record.{Record, written, name_of}
use Rattle.record.specs.Stored.{padded, stored, empty_record, filler_constraint}
use Rattle.lists.proofs.Lists.{by, clash}
use Rattle.lists.specs.Keyed.{precedes, Below, Ascending, inserted, united}
use Rattle.lists.proofs.Union.{length_inserted}
use Rattle.record_tables.specs.Table.{edit_key, constraint_key, unite}
use Rattle.record_tables.specs.Checked.{Checked}
use Rattle.record_union.specs.Union.{Unites}
use Rattle.voting.specs.Proposal.{decisions, decision_on}
use Rattle.record_joining.specs.declared.insertion.Constraints.{Constraints}
use Rattle.record_joining.specs.insertion.Insertion.{table_of}
use Rattle.voting_drafts.proofs.ranking.Joins.{united-none}
use Rattle.voting_decisions.specs.Decisions.{only_constraints}

-- a union has at most the rows of both
module _ {A : Type 0} (key : A → List ℕ) where
  length-united : (t s : List A) → length (united key t s) ≤ length t + length s
  unfolding united
  length-united t [] = omega arith
  length-united t (x ∷ s) = omega (arith, length-united (inserted key x t) s, length_inserted key x t)

module _ (row : List ℕ) where
  -- the name decides
  decision-after : (x y : ℕ) → ltb x y ≡ true → precedes (constraint_key (decision_on row x)) (constraint_key (decision_on row y)) ≡ true
  unfolding precedes
  decision-after x y l =
      by (mem x row) (λ e. by (mem y row) (λ f. rw (e, f, l)) (λ f. rw (e, f, l))) (λ e. by (mem y row) (λ f. rw (e, f, l)) (λ f. rw (e, f, l)))

  name-after : (x y : ℕ) → precedes (x ∷ []) (y ∷ []) ≡ true → ltb x y ≡ true
  unfolding precedes
  name-after x y p = by (ltb x y) (λ e. e) (λ e. clash p (by (ltb y x) (λ f. rw (e, f)) (λ f. rw (e, f))))

  decisions-below : (e : Edit) (t : List Edit) → Below edit_key e t → Below constraint_key (decision_on row e.name) (map (decision_on row) (map name_of t))
  decisions-below e [] b = tt
  decisions-below e (y ∷ t) b = (decision-after e.name y.name (name-after e.name y.name b.0), decisions-below e t b.1)

  decisions-ascend : (t : List Edit) → Ascending edit_key t → Ascending constraint_key (map (decision_on row) (map name_of t))
  decisions-ascend [] a = tt
  decisions-ascend (e ∷ t) a = (decisions-below e t a.0, decisions-ascend t a.1)

  module _ (R : Record) (k : Checked R) where
    pub edits-unite : Unites edit_key 127 R.edits []
    edits-unite = record { own_order = k.editorder; joining_order = tt; places = rw (← united-none edit_key R.edits) k.editplaces }

    pub constraints-unite : length R.constraints ≤ 385 → Unites constraint_key 512 R.constraints (decisions row (written R))
    unfolding decisions written
    constraints-unite h = record {
      own_order = k.constraintorder;
      joining_order = decisions-ascend R.edits k.editorder;
      places = omega (arith, length-united constraint_key R.constraints (map (decision_on row) (map name_of R.edits)), length-map (map name_of R.edits) (decision_on row), length-map R.edits name_of, k.editplaces);
    }

    -- the table of the union
    pub table-united : length R.constraints ≤ 385 → {table : Result Constraints Refusal}
        → (length (unite R (only_constraints (decisions row (written R)))).constraints ≤ 512 → table ≡ table_of (unite R (only_constraints (decisions row (written R)))).constraints)
        → table ≡ table_of (united constraint_key R.constraints (decisions row (written R)))
    unfolding unite
    table-united h e = e (constraints-unite h).places

pub only-start : (r : declared.Record) → r ≡ empty_record → r.constraints ≡ padded 512 filler_constraint []
unfolding padded
only-start r e = ap (λ (x : declared.Record). x.constraints) e

pub only-stored : (r : declared.Record) (n : ℕ) (l : List Constraint) → r.constraints ≡ padded 512 filler_constraint l → n ≡ length l → r.edits ≡ empty_record.edits → r.edit_count ≡ empty_record.edit_count
    → record { edits = r.edits; edit_count = r.edit_count; constraints = r.constraints; constraint_count = n } ≡ stored (only_constraints l)
unfolding padded
only-stored r n l e f g h = λ j. record { edits = g j; edit_count = h j; constraints = e j; constraint_count = f j }

pub decisions-many : (row : List ℕ) (R : Record) → length (decisions row (written R)) ≡ length R.edits
unfolding decisions written
decisions-many row R = length-map (map name_of R.edits) (decision_on row) ∙ length-map R.edits name_of

pub written-few : (R : Record) (edits : List Edit) → edits ≡ R.edits → length edits ≤ 127 → length (written R) ≤ 512
unfolding written
written-few R edits q h = let z : length R.edits ≤ 127 = rw q at h in omega (arith, length-map R.edits name_of)
