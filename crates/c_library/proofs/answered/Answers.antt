-- `answered` meets its contract. Assumes nothing.
use mathlib.Core.Path.{ap}
use mathlib.Core.List.{List, ◌++◌}
use Prim.Native.Nat.{ℕ}
use lib.ListN.{drop}
use Rattle.c_library.proofs.Told.{work-is, work-short, out-short, out-told}
use Rattle.c_library.proofs.answered.Goals as goal
use Rattle.c_library.proofs.answered.Goals.{then-work-size-via-then-work-size, then-work-size-via-else-work-size+then-out-size}

pub returns-then-work-size : goal.returns-then-work-size
returns-then-work-size c = λ l.
    let w = c.log_size-size.ensures l in
    let p = work-is _ _ _ w in
    elim c.then-work-size.branch [
      | then-work-size-via-then-work-size v ↦ let q = work-short _ _ c.args.out.now p v.if-work-size.true in (q.0, q.1, w.0)
      | then-work-size-via-else-work-size+then-out-size v ↦ let q = out-short _ _ c.args.out.now p v.if-work-size.false v.if-out-size.true in (q.0, q.1, w.0)
    ]

pub returns : goal.returns
returns c = λ l.
    let w = c.log_size-size.ensures l in
    let e = ap (λ (s : List ℕ). s ++ drop c.log_size-size.result c.args.out.now) c.copy_from_slice.ensures.after in
    let q = out-told _ _ c.args.out.now (work-is _ _ _ w) c.if-work-size.false c.if-out-size.false e in
    (q.0, q.1, w.0)
