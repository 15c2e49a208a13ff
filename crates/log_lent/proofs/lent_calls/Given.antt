-- Calls with what is lent, where it is kept. Assumes nothing.
use mathlib.Core.Path.{◌≡◌, refl, sym, ap, ◌∙◌}
use mathlib.Core.Bool.{Bool, true, false}
use mathlib.Core.List.{List, [], ◌∷◌, map}
use Prim.Native.Nat.{ℕ, ◌+◌, ◌≤◌, ◌<◌}
use native.Mathlib.Omega.{arith}
use lib.Dec.{eqb, ltb}
use lib.ListN.{length, get_or, take, length-map}
use borrow.Author.Tests.{lt-ltb, le-ltb, ne_eqb}
use Rattle.std.proofs.lemmas.List.{get_or-map}
use Rattle.std.proofs.lemmas.List.FromFn.{fill_by_all}
use Rattle.record_rows.specs.declared.row.LentRecord.{LentRecord}
use Rattle.record_rows.specs.grounds.Ground.{Rows}
use Rattle.voting.specs.declared.RollRow.{RollRow}
use Rattle.voting.specs.Tally.{Election}
use Rattle.voting_roll.specs.Election.{Proposals, election_of}
use Rattle.voting_count.specs.Count.{lent, Count, count_of}
use Rattle.voting_count.specs.Tallied.{Tallied, tallied_of}
use Rattle.voting_bundles.specs.declared.Bundled.{Bundled}
use Rattle.voting_bundles.specs.Bundles.{BundleAnswer, bundle_told, bundle_answer}
use Rattle.std.specs.Prelude.{Option, Some, None, option_map, ok_or, Result, Ok, Err, IfOk, IsErr, IsErrAnd}
use Rattle.std.proofs.lemmas.Result.{err_from_is_err_and}
use Rattle.lists.proofs.Lists.{clash}
use Rattle.refusals.specs.declared.Refusal.{Refusal}
use Rattle.refusals.specs.declared.Refusal.TheVariants.{OutOfRange, NoReason}
use Rattle.refusals.specs.Numbers.{number, number_of, Gives}
use Rattle.refusals.proofs.Numbers.{number-injective, number-positive}
use Rattle.record.specs.Judgement.{sound_row}
use Rattle.record_tables.specs.Table.{decoded}
use Rattle.judgement.specs.lent_record.Lent.{record_fault}
use Rattle.judgement.specs.lent_edit.Asked.{lent_edit_fault}
use Rattle.reasons.specs.Given.{reason_of}
use Rattle.reasons_lent.specs.declared.Reason.{Reason as Given}
use Rattle.reasons_lent.specs.Asked.{reason_told}
use Rattle.ledger.specs.declared.Bench.{Bench}
use Rattle.ledger.specs.declared.CallResult.{CallResult}
use Rattle.ledger.specs.Ledger.{merge, adopt}
use Rattle.ledger.specs.Bench.{Outcome, Answers, told_outcome}
use Rattle.log_lent.specs.Lent.{Lent, roll_places}
use Rattle.log_lent.specs.lent_calls.Calls.{proposals_of, bundle_in, lent_row_fault, row_sound, reason_in, why_fault}
use Rattle.log_lent.proofs.lent_calls.FirstRows.{first_counted, first-tallied, first-adopted}

-- an answer that is handed on as it was refused
pub told-given : {A : Type 0} (told : Result A Refusal) (x : A) (r : Refusal) {n : ℕ} → IsErr told × IsErrAnd told (λ s. s ≡ r) → number r ≡ n → Gives n x told
told-given told x r f q = let s = err_from_is_err_and told f.1 in rw (s.1, s.2) (q, tt)

pub merge-refused : (bench : Bench) (r : Result CallResult Refusal) → IsErr r → number_of r ≡ 2 → told_outcome r bench ≡ told_outcome (Err OutOfRange) bench
merge-refused bench (Ok y) e q = clash e refl
merge-refused bench (Err s) e q = ap (λ (refusal : Refusal). told_outcome (Err refusal) bench) (number-injective s OutOfRange q)

pub merge-given : (bench : Bench) {E C : Rows} (r : Outcome) → Answers bench (merge E C) r → {F D : Rows} → E ≡ F → C ≡ D → Answers bench (merge F D) r
merge-given bench r a e f = rw (e, f) at a

module _ (L : Lent) where
  -- the proposals, record by record
  pub proposals-lent : (l : List LentRecord) → length l ≡ 8
      → ((i : ℕ) (d : LentRecord) → i < 8 → ((get_or l i d).edits.now ≡ L.edits (i + 1)) × ((get_or l i d).constraints.now ≡ L.constraints (i + 1))) → lent l ≡ proposals_of L
  proposals-lent [] e h = absurd (omega arith)
  proposals-lent (d ∷ rest) e h =
      let l = d ∷ rest in
      let a = fill_by_all (λ i. L.edits (i + 1)) (map (λ (r : LentRecord). r.edits.now) l) 8 [] (length-map l (λ (r : LentRecord). r.edits.now) ∙ e)
      (λ k lt. get_or-map (λ (r : LentRecord). r.edits.now) l k d [] (omega (arith, e)) ∙ (h k d lt).0) in
      let b = fill_by_all (λ i. L.constraints (i + 1)) (map (λ (r : LentRecord). r.constraints.now) l) 8 [] (length-map l (λ (r : LentRecord). r.constraints.now) ∙ e)
      (λ k lt. get_or-map (λ (r : LentRecord). r.constraints.now) l k d [] (omega (arith, e)) ∙ (h k d lt).1) in
      λ i. record { edits = a i; constraints = b i }

  module _ (x : ℕ) {P : Proposals} {seats : List RollRow} (e : P ≡ proposals_of L) (g : seats ≡ take roll_places L.roll) where
    pub count-given : {r : Count} → r ≡ count_of x P seats → r ≡ count_of x (proposals_of L) L.roll
    count-given q = (rw (e, g) at q) ∙ first_counted x (proposals_of L) L.roll

    pub election-given : {r : Election} → r ≡ election_of x P seats → r ≡ election_of x (proposals_of L) L.roll
    unfolding count_of
    election-given q = (rw (e, g) at q) ∙ ap (λ (c : Count). c.election) (first_counted x (proposals_of L) L.roll)

    pub tallied-given : {r : Tallied} → r ≡ tallied_of x P seats → r ≡ tallied_of x (proposals_of L) L.roll
    tallied-given q = (rw (e, g) at q) ∙ first-tallied x (proposals_of L) L.roll

    pub adoption-given : (bench : Bench) (r : Outcome) → Answers bench (adopt x P seats) r → Answers bench (adopt x (proposals_of L) L.roll) r
    adoption-given bench r a = first-adopted x (proposals_of L) L.roll bench r (rw (e, g) at a)

  module _ (k : ℕ) where
    pub bundle-elsewhere : (x : ℕ) → 9 ≤ k → (r : Result Bundled Refusal) → IsErr r → number_of r ≡ 2 → bundle_told r ≡ bundle_in L k x
    unfolding bundle_in
    bundle-elsewhere x h (Ok y) e q = clash e refl
    bundle-elsewhere x h (Err s) e q = let d : ltb k 9 ≡ false = le-ltb k 9 h in rw (d, q) refl

    pub bundle-given : {r : BundleAnswer} {E C : Rows} (x : ℕ) → k < 9 → r ≡ bundle_answer E C x → E ≡ L.edits k → C ≡ L.constraints k → r ≡ bundle_in L k x
    unfolding bundle_in
    bundle-given x h q e f = let d : ltb k 9 ≡ true = lt-ltb k 9 h in rw d (rw (e, f) at q)

    pub row-elsewhere : 9 ≤ k → 2 ≡ lent_row_fault L k
    unfolding lent_row_fault
    row-elsewhere h = let e : ltb k 9 ≡ false = le-ltb k 9 h in rw e refl

    pub row-given : (r : Result Bool Refusal) {E C : Rows} {s : List ℕ} → k < 9 → Gives (record_fault E C) (sound_row (decoded E C) s) r → E ≡ L.edits k → C ≡ L.constraints k → s ≡ L.row
        → Gives (lent_row_fault L k) (row_sound L k) r
    unfolding lent_row_fault row_sound
    row-given r h q e f g = let d : ltb k 9 ≡ true = lt-ltb k 9 h in rw d (rw (e, f, g) at q)

    -- why an edit of record k must stand, or can never stand
    module _ (e : ℕ) where
      pub why-elsewhere : 9 ≤ k → 2 ≡ why_fault L k e
      unfolding why_fault
      why-elsewhere h = let d : ltb k 9 ≡ false = le-ltb k 9 h in rw d refl

      module _ {E C : Rows} (h : k < 9) (p : E ≡ L.edits k) (q : C ≡ L.constraints k) where
        here : ltb k 9 ≡ true
        here = lt-ltb k 9 h

        pub why-refused : (r : Refusal) → number r ≡ lent_edit_fault E C e → number r ≡ why_fault L k e
        unfolding why_fault
        why-refused r f =
            let g = rw (p, q) at f in
            let z : eqb (lent_edit_fault (L.edits k) (L.constraints k) e) 0 ≡ false = ne_eqb (lent_edit_fault (L.edits k) (L.constraints k) e) 0 (λ y. number-positive r (g ∙ y)) in
            rw (here, z) g

        pub why-given : (found : Option Given) (r : Result Given Refusal) → 0 ≡ lent_edit_fault E C e → option_map reason_told found ≡ reason_of (decoded E C) e → r ≡ ok_or found NoReason
            → (number_of r ≡ why_fault L k e) × IfOk r (λ x. Some (reason_told x) ≡ reason_in L k e)
        unfolding why_fault reason_in
        why-given None r f o g =
            let z = rw (p, q) at f in
            let n : reason_of (decoded (L.edits k) (L.constraints k)) e ≡ None = sym (rw (p, q) at o) in
            rw (g, here, sym z, n) (refl, tt)
        why-given (Some x) r f o g =
            let z = rw (p, q) at f in
            let n : reason_of (decoded (L.edits k) (L.constraints k)) e ≡ Some (reason_told x) = sym (rw (p, q) at o) in
            rw (g, here, sym z, n) (refl, refl)
