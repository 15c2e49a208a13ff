-- The new proposal from what is lent, return by return. Assumes nothing.
use mathlib.Core.Path.{◌≡◌, refl, sym, ap, ◌∙◌}
use mathlib.Core.Bool.{true, false, and-false}
use mathlib.Core.List.{List, []}
use Prim.Native.Nat.{ℕ, ◌≤◌, ◌<◌}
use native.Mathlib.Omega.{arith}
use lib.Dec.{eqb, ltb}
use lib.ListN.{length, length-replicate}
use borrow.Author.Tests.{lt-ltb, le-ltb, eq-eqb}
use Rattle.std.specs.Prelude.{Result, Ok, Err}
use Rattle.refusals.specs.declared.Refusal.{Refusal}
use Rattle.refusals.specs.Numbers.{number, Gives}
use Rattle.refusals.proofs.Numbers.{number-positive}
use Rattle.record.specs.declared.Record as declared
use Rattle.record.specs.Record.{Record}
use Rattle.record.specs.Stored.{stored}
use Rattle.record_rows.specs.grounds.Ground.{Rows, ◌given◌, ◌orelse◌}
use Rattle.record_rows.proofs.grounds.Grounds.{orelse-first, orelse-second, orelse-assoc}
use Rattle.record_tables.specs.Table.{empty_tables, decoded, lent_fault}
use Rattle.voting.specs.Proposal.{proposed}
use Rattle.voting_proposals.specs.Propose.{propose_fault, draft_fault, unkept, new_proposal, new_fault, too_short}
use Rattle.log_commands.specs.declared.Proposing.{Proposing}
use Rattle.log_lent.specs.Lent.{Lent}
use Rattle.log_lent.specs.lent_proposals.Made.{tables_with, lent_proposal_fault, proposal_made}

-- the first of five numbers is the first of four and the last
orelse-fifth : (a b c d e : ℕ) → (a orelse (b orelse (c orelse (d orelse e)))) ≡ ((a orelse (b orelse (c orelse d))) orelse e)
orelse-fifth a b c d e =
    let x = orelse-assoc c d e in
    let y = ap (λ (z : ℕ). b orelse z) x ∙ orelse-assoc b (c orelse d) e in
    ap (λ (z : ℕ). a orelse z) y ∙ orelse-assoc a (b orelse (c orelse d)) e

-- a new proposal and the places for it
module _ (P : Record) (n m : ℕ) {new : declared.Record} (q : new ≡ stored P) where
  edits-are : new.edit_count ≡ length P.edits
  edits-are = ap (λ (x : declared.Record). x.edit_count) q

  constraints-are : new.constraint_count ≡ length P.constraints
  constraints-are = ap (λ (x : declared.Record). x.constraint_count) q

  pub few-edit-places : n < new.edit_count → 12 ≡ (12 given too_short n m P)
  unfolding too_short
  few-edit-places h = let e : ltb n (length P.edits) ≡ true = lt-ltb n (length P.edits) (omega (arith, edits-are)) in rw e refl

  module _ (h : new.edit_count ≤ n) where
    enough-edits : ltb n (length P.edits) ≡ false
    enough-edits = le-ltb n (length P.edits) (omega (arith, edits-are))

    pub few-constraint-places : m < new.constraint_count → 12 ≡ (12 given too_short n m P)
    unfolding too_short
    few-constraint-places i = let e : ltb m (length P.constraints) ≡ true = lt-ltb m (length P.constraints) (omega (arith, constraints-are)) in rw (enough-edits, e) refl

    pub places-enough : new.constraint_count ≤ m → 0 ≡ (12 given too_short n m P)
    unfolding too_short
    places-enough i = let e : ltb m (length P.constraints) ≡ false = le-ltb m (length P.constraints) (omega (arith, constraints-are)) in rw (enough-edits, e) refl

module _ (E C D F : Rows) (n m : ℕ) where
  abbrev made : Record
  made = proposed (decoded E C) (decoded D F)

  fault-parts : propose_fault (tables_with E C D F n m) ≡ (new_fault E C D F orelse (12 given too_short n m made))
  unfolding propose_fault
  fault-parts = rw (length-replicate {A = List ℕ} n [], length-replicate {A = List ℕ} m [])
      (orelse-fifth (lent_fault empty_tables E C) (lent_fault (decoded E C) D F) (draft_fault (decoded E C) (decoded D F)) (11 given unkept (decoded E C) (decoded D F))
      (12 given too_short n m made))

module _ (L : Lent) (asked : Proposing) where
  pub record-elsewhere : 9 ≤ asked.lent → 2 ≡ lent_proposal_fault L asked
  unfolding lent_proposal_fault
  record-elsewhere h = let e : ltb asked.lent 9 ≡ false = le-ltb asked.lent 9 h in rw e refl

  pub old-elsewhere : 9 ≤ asked.old → 2 ≡ lent_proposal_fault L asked
  unfolding lent_proposal_fault
  old-elsewhere h = let e : ltb asked.old 9 ≡ false = le-ltb asked.old 9 h in rw (e, and-false (ltb asked.lent 9)) refl

  module _ {i j : ℕ} (p : (i ≡ asked.lent) × (asked.lent < 9)) (q : (j ≡ asked.old) × (asked.old < 9)) {E C D F : Rows}
      (s : i < 9 → (E ≡ L.edits i) × (C ≡ L.constraints i)) (t : j < 9 → (D ≡ L.edits j) × (F ≡ L.constraints j)) where
    lent-rows : (E ≡ L.edits asked.lent) × (C ≡ L.constraints asked.lent)
    lent-rows = rw p.0 at (s (omega (arith, p.0, p.1)))

    old-rows : (D ≡ L.edits asked.old) × (F ≡ L.constraints asked.old)
    old-rows = rw q.0 at (t (omega (arith, q.0, q.1)))

    inside : lent_proposal_fault L asked ≡ propose_fault (tables_with E C D F asked.edits asked.rules)
    unfolding lent_proposal_fault
    inside =
        let a : ltb asked.lent 9 ≡ true = lt-ltb asked.lent 9 p.1 in
        let b : ltb asked.old 9 ≡ true = lt-ltb asked.old 9 q.1 in
        let (e, c) = lent-rows in
        let (d, f) = old-rows in
        rw (a, b, e, c, d, f) refl

    parts : lent_proposal_fault L asked ≡ (new_fault E C D F orelse (12 given too_short asked.edits asked.rules (made E C D F asked.edits asked.rules)))
    parts = inside ∙ fault-parts E C D F asked.edits asked.rules

    pub proposal-refused : (r : Refusal) → number r ≡ new_fault E C D F → number r ≡ lent_proposal_fault L asked
    proposal-refused r n = n ∙ sym (parts ∙ orelse-first (new_fault E C D F) (12 given too_short asked.edits asked.rules (made E C D F asked.edits asked.rules)) (λ z. number-positive r (n ∙ z)))

    module _ (z : 0 ≡ new_fault E C D F) where
      last-part : lent_proposal_fault L asked ≡ (12 given too_short asked.edits asked.rules (made E C D F asked.edits asked.rules))
      last-part = parts ∙ orelse-second (new_fault E C D F) (12 given too_short asked.edits asked.rules (made E C D F asked.edits asked.rules)) (sym z)

      made-is : lent_proposal_fault L asked ≡ 0 → proposal_made L asked ≡ made E C D F asked.edits asked.rules
      unfolding proposal_made new_proposal
      made-is w =
          let a : ltb asked.lent 9 ≡ true = lt-ltb asked.lent 9 p.1 in
          let b : ltb asked.old 9 ≡ true = lt-ltb asked.old 9 q.1 in
          let (e, c) = lent-rows in
          let (d, f) = old-rows in
          let y : eqb (propose_fault (tables_with E C D F asked.edits asked.rules)) 0 ≡ true = eq-eqb (propose_fault (tables_with E C D F asked.edits asked.rules)) 0 (sym inside ∙ w) in
          rw (a, b, ← e, ← c, ← d, ← f, y) refl

      pub proposal-given : (r : Result declared.Record Refusal) → Gives (12 given too_short asked.edits asked.rules (made E C D F asked.edits asked.rules)) (stored (made E C D F asked.edits asked.rules)) r
          → Gives (lent_proposal_fault L asked) (stored (proposal_made L asked)) r
      proposal-given (Ok y) g = let w = last-part ∙ sym g.0 in (sym w, g.1 ∙ ap stored (sym (made-is w)))
      proposal-given (Err r) g = (g.0 ∙ sym last-part, tt)
