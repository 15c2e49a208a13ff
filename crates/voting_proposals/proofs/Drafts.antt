-- The number of a draft, ground by ground, and the draft as it is stored. Assumes nothing.
use mathlib.Core.Path.{◌≡◌, refl, ap, sym, ◌∙◌}
use mathlib.Core.Bool.{Bool, true, false, not}
use mathlib.Core.List.{List}
use Prim.Native.Nat.{ℕ, ◌≤◌}
use borrow.Author.Tests.{not-false, ltb-false, lt-ltb, le-ltb}
use lib.Dec.{ltb}
use lib.ListN.{length}
use Rattle.record.specs.declared.Constraint.{Constraint}
use Rattle.record.specs.declared.Record as declared
use Rattle.record.specs.Record.{Record}
use Rattle.record.specs.Stored.{stored}
use Rattle.record.specs.Judgement.{sound}
use Rattle.lists.specs.Keyed.{united}
use Rattle.graph.specs.indexes.Fit.{Fit}
use Rattle.graph.proofs.indexes.Fit.{checked-fit}
use Rattle.record_rows.specs.grounds.Ground.{◌given◌, ◌orelse◌}
use Rattle.record_rows.proofs.grounds.Grounds.{orelse-none, given-none}
use Rattle.record_tables.specs.Table.{constraint_key, unite}
use Rattle.record_tables.specs.Checked.{Checked}
use Rattle.record_joining.specs.declared.insertion.Constraints.{Constraints}
use Rattle.record_joining.specs.insertion.Insertion.{table_of}
use Rattle.record_joining.proofs.insertion.Tables.{too-long, table-full, few}
use Rattle.std.specs.Prelude.{Ok, Err}
use Rattle.refusals.specs.declared.Refusal.{Refusal}
use Rattle.refusals.specs.Numbers.{number, number_of}
use Rattle.voting.specs.Proposal.{joined_constraints, unordered, firsts, started, finished, proposed}
use Rattle.voting_proposals.specs.Propose.{overfull, draft_fault}
use Rattle.voting_proposals.proofs.Added.{started-checked, finished-checked}

-- 3 is given of a list that is too long
no-place : (l : List Constraint) {r : Refusal} → Err r ≡ table_of l → (number r ≡ 3) × (ltb 512 (length l) ≡ true)
no-place l e = let h = too-long l e in (ap number_of (e ∙ table-full l h), lt-ltb 512 (length l) h)

module _ (M Q : Record) where
  -- the number by the outcomes of its tests
  abbrev number_by : Bool → Bool → Bool → Bool → ℕ
  number_by a b c d = 8 given not a orelse 3 given b orelse 8 given not c orelse 3 given d

  tested : draft_fault M Q ≡ number_by (sound Q) (overfull (started M Q)) (sound (started M Q)) (overfull (proposed M Q))
  unfolding draft_fault
  tested = refl

-- a record's soundness as the code tests it
abbrev Tests : declared.Record → Bool → Type 0
Tests multilog b = (R : Record) → multilog ≡ stored R → Fit R → b ≡ sound R

-- return by return
module _ (M Q : Record) {both old : declared.Record} (e : both ≡ stored (unite M Q)) (k : Checked (unite M Q)) (f : old ≡ stored Q) (j : Checked Q) where
  pub unsound-old : {b : Bool} → Tests old b → b ≡ false → 8 ≡ draft_fault M Q
  unsound-old told n = let q : sound Q ≡ false = sym (told Q f (checked-fit Q j)) ∙ n in sym (tested M Q ∙ rw q)

  module _ {b : Bool} (told : Tests old b) (s : b ≡ true) where
    p : sound Q ≡ true
    p = sym (told Q f (checked-fit Q j)) ∙ s

    pub no-place-before : {r : Refusal}
        → ((U V : Record) → both ≡ stored U → Checked U → old ≡ stored V → Checked V → Err r ≡ table_of (united constraint_key U.constraints (firsts V (unordered U))))
        → number r ≡ draft_fault M Q
    unfolding overfull started joined_constraints
    no-place-before t = let w = no-place _ (t (unite M Q) Q e k f j) in let q : overfull (started M Q) ≡ true = w.1 in w.0 ∙ sym (tested M Q ∙ rw (p, q))

    module _ {first : Constraints} {start : declared.Record}
        (t : (U V : Record) → both ≡ stored U → Checked U → old ≡ stored V → Checked V → Ok first ≡ table_of (united constraint_key U.constraints (firsts V (unordered U))))
        (m : (R : Record) (l : List Constraint) → both ≡ stored R → Ok first ≡ table_of l → start ≡ stored (record { edits = R.edits; constraints = l })) where
      placed : overfull (started M Q) ≡ false
      unfolding overfull started joined_constraints
      placed = le-ltb 512 _ (few first _ (t (unite M Q) Q e k f j))

      start-checked : Checked (started M Q)
      unfolding overfull
      start-checked = started-checked M Q k (ltb-false 512 (length (started M Q).constraints) placed)

      start_is : start ≡ stored (started M Q)
      unfolding started joined_constraints
      start_is = m (unite M Q) _ e (t (unite M Q) Q e k f j)

      start-sound : {b : Bool} → Tests start b → b ≡ sound (started M Q)
      start-sound test = test (started M Q) start_is (checked-fit (started M Q) start-checked)

      pub unsound-start : {b : Bool} → Tests start b → b ≡ false → 8 ≡ draft_fault M Q
      unsound-start test n = let y : sound (started M Q) ≡ false = sym (start-sound test) ∙ n in sym (tested M Q ∙ rw (p, placed, y))

      module _ {whole : Bool} (test : Tests start whole) (w : whole ≡ true) where
        q : sound (started M Q) ≡ true
        q = sym (start-sound test) ∙ w

        pub no-place-after : {r : Refusal} → ((R : Record) → start ≡ stored R → Checked R → sound R ≡ true → Err r ≡ table_of (finished R).constraints)
            → number r ≡ draft_fault M Q
        unfolding overfull proposed
        no-place-after u =
            let y = no-place _ (u (started M Q) start_is start-checked q) in
            let z : overfull (proposed M Q) ≡ true = y.1 in
            y.0 ∙ sym (tested M Q ∙ rw (p, placed, q, z))

        pub drafted_is : {last : Constraints} {new : declared.Record}
            → ((R : Record) → start ≡ stored R → Checked R → sound R ≡ true → Ok last ≡ table_of (finished R).constraints)
            → ((R : Record) (l : List Constraint) → start ≡ stored R → Ok last ≡ table_of l → new ≡ stored (record { edits = R.edits; constraints = l }))
            → (0 ≡ draft_fault M Q) × (new ≡ stored (proposed M Q))
        unfolding overfull proposed finished joined_constraints
        drafted_is {last} u v =
            let d = u (started M Q) start_is start-checked q in
            let z : overfull (proposed M Q) ≡ false = le-ltb 512 _ (few last _ d) in
            (sym (tested M Q ∙ rw (p, placed, q, z)), v (started M Q) _ start_is d)

-- of a draft without fault the start is checked and sound, and the rows have places
pub start-faultless : (M Q : Record) → Checked (unite M Q) → draft_fault M Q ≡ 0
    → Checked (started M Q) × (sound (started M Q) ≡ true) × (length (proposed M Q).constraints ≤ 512)
unfolding draft_fault overfull
start-faultless M Q k h =
    let a = orelse-none (8 given not (sound Q)) _ h in
    let b = orelse-none (3 given ltb 512 (length (started M Q).constraints)) _ a.1 in
    let c = orelse-none (8 given not (sound (started M Q))) _ b.1 in (
      started-checked M Q k (ltb-false 512 (length (started M Q).constraints) (given-none 2 (ltb 512 (length (started M Q).constraints)) b.0)),
      not-false (sound (started M Q)) (given-none 7 (not (sound (started M Q))) c.0),
      ltb-false 512 (length (proposed M Q).constraints) (given-none 2 (ltb 512 (length (proposed M Q).constraints)) c.1),
    )

-- and it is checked itself
pub drafted-checked : (M Q : Record) → Checked (unite M Q) → draft_fault M Q ≡ 0 → Checked (proposed M Q)
unfolding proposed
drafted-checked M Q k h = let s = start-faultless M Q k h in finished-checked (started M Q) s.0 s.2
