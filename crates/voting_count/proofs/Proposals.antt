-- Proposals without fault: checked records, known edits and soundness bench by bench, and the ballot of a row. Assumes nothing.
use mathlib.Core.Path.{◌≡◌, refl, sym, ap, ◌∙◌}
use mathlib.Core.Bool.{Bool, true, false}
use mathlib.Core.List.{List, [], ◌∷◌, map}
use Prim.Native.Nat.{ℕ, zero, suc, ◌+◌, ◌-◌, ◌≤◌, ◌<◌}
use native.Mathlib.Omega.{arith}
use lib.Dec.{leb}
use lib.ListN.{length, get_or, set, length-map}
use lib.Seq.{get_or-set_same, get_or-set_other}
use borrow.Author.Tests.{leb-true}
use Rattle.record.specs.declared.Record as declared
use Rattle.lists.specs.Lists.{all}
use Rattle.record.specs.Stored.{stored, empty_record}
use Rattle.record.specs.Judgement.{sound}
use Rattle.graph.specs.indexes.Fit.{Fit}
use Rattle.graph.proofs.indexes.Fit.{checked-fit}
use Rattle.lists.proofs.Lists.{is-by, and_l, and_r, get_or-mapped}
use Rattle.std.proofs.lemmas.List.FromFn.{fill_by_all}
use Rattle.record_rows.specs.row.Row.{edit_of, constraint_of}
use Rattle.record_rows.specs.grounds.Ground.{Rows}
use Rattle.record_rows.proofs.grounds.Grounds.{orelse-none}
use Rattle.record_tables.specs.Table.{decoded}
use Rattle.record_tables.specs.Checked.{Checked}
use Rattle.record_tables.proofs.Records.{lent-checked}
use Rattle.voting.specs.declared.RollRow.{RollRow}
use Rattle.lists.proofs.Front.{all-broken}
use Rattle.voting_roll.specs.Roll.{is_bench}
use Rattle.voting_count.specs.Count.{lent_proposals, Faultless}
use Rattle.voting_count.specs.Counting.{decoded_proposals}
use Rattle.voting_count.proofs.Benches.{bench-at, held_at, fault-at}
use Rattle.voting_roll.specs.Election.{Proposals, benches, held, proposal_fault, first_given}

pub held-checked : (P : Proposals) (b : ℕ) → proposal_fault P b ≡ 0 → Checked (held P b)
unfolding held proposal_fault
held-checked P b h = lent-checked (get_or P.edits (b - 1) []) (get_or P.constraints (b - 1) []) h

given-all : (f : ℕ → ℕ) (l : List ℕ) → first_given f l ≡ 0 → (j : ℕ) → j < length l → f (get_or l j 0) ≡ 0
unfolding first_given
given-all f [] h j k = absurd (omega arith)
given-all f (x ∷ l) h zero k = (orelse-none (f x) (first_given f l) h).0
given-all f (x ∷ l) h (suc j) k = given-all f l (orelse-none (f x) (first_given f l) h).1 j (omega arith)

pub bench-faultless : (P : Proposals) → Faultless P → (k : ℕ) → k < 8 → proposal_fault P (k + 1) ≡ 0
bench-faultless P h k l = rw (← bench-at k l) (given-all (proposal_fault P) benches h k l)

-- the stored proposal
pub proposal-stored : {A B : Type 0} (rows : A → Rows) (cells : B → Rows) (es : List A) (cs : List B) (k : ℕ) (a : A) (b : B) → rows a ≡ [] → cells b ≡ [] → (r : declared.Record)
    → (length (rows (get_or es k a)) ≤ 127 → length (cells (get_or cs k b)) ≤ 512 → r ≡ stored (decoded (rows (get_or es k a)) (cells (get_or cs k b))))
    → proposal_fault (lent_proposals (map rows es) (map cells cs)) (k + 1) ≡ 0 → r ≡ stored (held (lent_proposals (map rows es) (map cells cs)) (k + 1))
proposal-stored rows cells es cs k a b ea eb r f h =
    let x = rows (get_or es k a) in
    let y = cells (get_or cs k b) in
    let c = lent-checked x y (sym (fault-at rows cells es cs k a b ea eb) ∙ h) in
    f (omega (arith, c.editplaces, length-map x edit_of)) (omega (arith, c.constraintplaces, length-map y constraint_of)) ∙ ap stored (sym (held_at rows cells es cs k a b ea eb))

-- the proposal of bench k + 1 among them
pub decoded-at : (P : Proposals) (l : List declared.Record) → l ≡ decoded_proposals P → (k : ℕ) (d : declared.Record) → k < 8 → get_or l k d ≡ stored (held P (k + 1))
unfolding decoded_proposals
decoded-at P l e k d h = rw e (get_or-mapped (λ b. stored (held P b)) benches k 0 d h ∙ ap (λ b. stored (held P b)) (bench-at k h))

every : (p : ℕ → Bool) (l : List ℕ) → ((k : ℕ) → k < length l → true ≡ p (get_or l k 0)) → true ≡ all p l
unfolding all
every p [] h = refl
every p (x ∷ l) h = rw (← h 0 (omega arith)) (every p l (λ k e. h (suc k) (omega arith)))

-- THE PROPOSALS ONE AFTER THE OTHER: below place k they are decoded, and sound
abbrev pub DecodedSound : Proposals → List declared.Record → ℕ → Type 0
DecodedSound P l k = (j : ℕ) → j < k → (get_or l j empty_record ≡ stored (held P (j + 1))) × (sound (held P (j + 1)) ≡ true)

module _ (P : Proposals) where
  pub proposal-fit : Faultless P → (k : ℕ) → k < 8 → Fit (held P (k + 1))
  proposal-fit h k i = checked-fit (held P (k + 1)) (held-checked P (k + 1) (bench-faultless P h k i))

  pub one-unsound : (k : ℕ) → k < 8 → sound (held P (k + 1)) ≡ false → false ≡ all (λ k. sound (held P k)) benches
  one-unsound k i e = sym (all-broken (λ k. sound (held P k)) benches 8 k 0 i (omega arith) (ap (λ b. sound (held P b)) (bench-at k i) ∙ e))

  pub one-more-sound : (l : List declared.Record) (k : ℕ) → k < length l → DecodedSound P l k → (r : declared.Record) → r ≡ stored (held P (k + 1)) → sound (held P (k + 1)) ≡ true
      → DecodedSound P (set l k r) (k + 1)
  one-more-sound l k n w r q s j m =
      is-by j k (λ e. rw (e, get_or-set_same l k r empty_record n) (q, s)) (λ e. rw (get_or-set_other l k j r empty_record e) (w j (omega (arith, e))))

  module _ (l : List declared.Record) (k : ℕ) (i : 8 ≤ k) (w : DecodedSound P l k) where
    pub all-sound : true ≡ all (λ k. sound (held P k)) benches
    all-sound = every (λ k. sound (held P k)) benches (λ j m. sym (ap (λ b. sound (held P b)) (bench-at j m) ∙ (w j (omega arith)).1))

    pub all-decoded : length l ≡ 8 → l ≡ decoded_proposals P
    unfolding decoded_proposals
    all-decoded e = fill_by_all (λ j. stored (held P (j + 1))) l 8 empty_record e (λ j m. (w j (omega arith)).0)

-- a bench of the roll
pub proposal-bench-low : (row : RollRow) → is_bench row ≡ true → (1 ≤ row.bench) × (row.bench ≤ 8)
proposal-bench-low row h = (leb-true 1 row.bench (and_l (leb 1 row.bench) (leb row.bench 8) h), leb-true row.bench 8 (and_r (leb 1 row.bench) (leb row.bench 8) h))
