-- The buffers that are lent are enough: what is printed stands at the start of the output, and what was read is answered as the whole text. Assumes nothing.
use mathlib.Core.Path.{◌≡◌, ap, ◌∙◌}
use mathlib.Core.Bool.{true, false}
use mathlib.Core.List.{List, [], ◌++◌, append-nil}
use Prim.Native.Nat.{ℕ, ◌+◌, ◌≤◌, ◌<◌}
use native.Mathlib.Omega.{arith}
use lib.Dec.{leb}
use lib.ListN.{length, take, drop}
use lib.Seq.{take_at, length-take-le}
use Rattle.std.specs.Prelude.{Ok}
use Rattle.lists.proofs.Lists.{by, le-by}
use Rattle.text.specs.Text.{read_text}
use Rattle.text.proofs.Limit.{first-bytes-decide}
use Rattle.text_writer.specs.Placed.{placed, placing}

-- a text that was placed at the start
pub placed-there : (text out : List ℕ) (end : ℕ) {after : List ℕ} → Ok end ≡ placing text 0 out → after ≡ placed text 0 out → take end after ≡ text
unfolding placing placed
placed-there text out end {after} p q =
    by (leb (0 + length text) (length out))
    (λ (e : leb (0 + length text) (length out) ≡ true).
    let n : end ≡ 0 + length text = (let r = rw e at p in (cc)) in
    let r = rw e at q in
    rw (n, r) (take_at text (drop (0 + length text) out) (0 + length text) (omega arith)))
    (λ (e : leb (0 + length text) (length out) ≡ false). let r = rw e at p in let z : ⊥ = cc in absurd z)

-- a part that is read: the buffer is full, and its bytes decide, or nothing follows
pub first-decide : (buffer : List ℕ) (size : ℕ) → 64641 ≤ length buffer → size ≤ length buffer
    → (rest : List ℕ) → (size < length buffer → rest ≡ []) → read_text (take size buffer ++ rest) ≡ read_text (take size buffer)
first-decide buffer size h l rest none =
    le-by (length buffer) size
    (λ f. first-bytes-decide (take size buffer) rest (omega (arith, length-take-le size buffer l)))
    (λ f. ap (λ (r : List ℕ). read_text (take size buffer ++ r)) (none f) ∙ ap read_text (append-nil (take size buffer)))
