-- What the library answers, return by return. Assumes nothing.
use mathlib.Core.Path.{◌≡◌, refl, ap, ◌∙◌}
use mathlib.Core.Bool.{true, false, cond, and-false}
use mathlib.Core.List.{List, ◌++◌}
use Prim.Native.Nat.{ℕ, suc, ◌+◌, ◌≤◌, ◌<◌}
use native.Mathlib.Omega.{arith}
use lib.Dec.{leb}
use lib.ListN.{length, take, drop}
use lib.Seq.{take_at}
use borrow.Author.Tests.{le-leb, lt-leb}
use Rattle.std.specs.Prelude.{Ok, Err}
use Rattle.refusals.specs.declared.Refusal.TheVariants.{NoRoom}
use Rattle.lists.proofs.Lists.{le-by}
use Rattle.text.specs.Text.{joined_lines}
use Rattle.log_forms.specs.Printed.{Texts, Buffer, PrintedInto}
use Rattle.log_forms.proofs.Printing.{texts-size, printed-length, printed-whole, printed-short}
use Rattle.log_run.specs.Log.{log_run}
use Rattle.c_library.specs.Replies.{placed_reply, answers_after, texts_after, answered_reply, answered_out, worked}

-- answers at the start of the place for work, and the place after them; one past its end where they do not fit
pub record Worked (answers before after : List ℕ) (end : ℕ) : Type 0 where
  pub size : length after ≡ length before
  pub place : end ≡ cond (leb (length answers) (length before)) (length answers) (suc (length before))
  pub bytes : length answers ≤ length before → take (length answers) after ≡ answers

-- texts printed over what a kept log left there
work-printed : (texts : Texts) (before : List ℕ) {between after : List ℕ} {end : ℕ} → length between ≡ length before → PrintedInto texts between 0 after end → Worked (joined_lines texts) before after end
work-printed texts before {between} {after} {end} e p =
    let z : 0 + length (joined_lines texts) ≡ length (joined_lines texts) = omega arith in
    record {
      size = printed-length p ∙ e;
      place =
          le-by (length (joined_lines texts)) (length before)
          (λ h. (printed-whole p (omega arith)).0 ∙ (z ∙ rw (le-leb (length (joined_lines texts)) (length before) h) refl))
          (λ h. printed-short p (omega arith) (omega arith) ∙ (ap suc e ∙ rw (lt-leb (length (joined_lines texts)) (length before) h) refl));
      bytes = λ h. rw ((printed-whole p (omega arith)).1, z) (take_at (joined_lines texts) (drop (length (joined_lines texts)) between) (length (joined_lines texts)) refl);
    }

pub work-is : (kept log work : List ℕ) {after : List ℕ} {end : ℕ} → (after ≡ (worked kept log work).bytes) × (end ≡ (worked kept log work).place) → Worked (answers_after kept log) work after end
unfolding worked
work-is kept log work q =
    let first : Buffer = record { bytes = work; place = 0 } in
    work-printed (texts_after kept log) work (texts-size first (log_run kept).printed) (record { buffer = λ i. record { bytes = q.0 i; place = q.1 i } })

module _ (answers work out : List ℕ) {after : List ℕ} {size : ℕ} (p : Worked answers work after size) where
  short : length work < length answers → size ≡ suc (length work)
  short h = let e : leb (length answers) (length work) ≡ false = lt-leb (length answers) (length work) h in p.place ∙ rw e refl

  long : length answers ≤ length work → size ≡ length answers
  long h = let e : leb (length answers) (length work) ≡ true = le-leb (length answers) (length work) h in p.place ∙ rw e refl

  pub work-short : length after < size → (placed_reply (Err NoRoom) ≡ answered_reply answers work out) × (out ≡ answered_out answers work out)
  unfolding answered_reply answered_out
  work-short h =
      le-by (length answers) (length work)
      (λ l. absurd (let a = long l in let b = p.size in omega arith))
      (λ l. let e : leb (length answers) (length work) ≡ false = lt-leb (length answers) (length work) l in (rw e refl, rw e refl))

  module _ (h : size ≤ length after) where
    fits : length answers ≤ length work
    fits = le-by (length answers) (length work) (λ l. l) (λ l. absurd (let a = short l in let b = p.size in omega arith))

    pub out-short : length out < size → (placed_reply (Err NoRoom) ≡ answered_reply answers work out) × (out ≡ answered_out answers work out)
    unfolding answered_reply answered_out
    out-short l =
        let e : leb (length answers) (length out) ≡ false = lt-leb (length answers) (length out) (let a = long fits in omega arith) in
        (rw (e, and-false (leb (length answers) (length work))) refl, rw (e, and-false (leb (length answers) (length work))) refl)

    pub out-told : size ≤ length out → {last : List ℕ} → last ≡ take size after ++ drop size out
        → (placed_reply (Ok size) ≡ answered_reply answers work out) × (last ≡ answered_out answers work out)
    unfolding answered_reply answered_out
    out-told l {last} q =
        let s = long fits in
        let d : leb (length answers) (length work) ≡ true = le-leb (length answers) (length work) fits in
        let e : leb (length answers) (length out) ≡ true = le-leb (length answers) (length out) (omega arith) in
        let t : take size after ≡ answers = rw s (p.bytes fits) in
        (rw (d, e, s) refl, rw (d, e) (q ∙ rw (t, s) refl))
