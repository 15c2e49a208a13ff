-- The last end as it is looked for from the end, and what waits, moved to the front. Assumes nothing.
use Prim.Native.Nat.{ℕ, zero, suc, ◌+◌, ◌-◌, ◌≤◌, ◌<◌, min}
use mathlib.Core.Path.{◌≡◌, refl, ap, sym, ◌∙◌}
use mathlib.Core.Logic.{◌≢◌}
use mathlib.Core.List.{List, [], ◌∷◌, ◌++◌}
use native.Mathlib.Omega.{arith}
use borrow.Author.Tests.{eq-eqb, ne_eqb}
use lib.ListN.{length, get_or, take, drop, length-take, length-drop}
use lib.Seq.{take_all, length-take-le, take-take}
use Rattle.std.specs.List.{copy_within}
use Rattle.std.proofs.lemmas.List.{drop-take, take_min}
use Rattle.lists.proofs.Lists.{le-by}
use Rattle.stream.specs.Pieces.{last_end, unended, kept_bytes, waiting}
use Rattle.stream.proofs.Pieces.{last_within}

-- no byte 10, and the last one
pub last_none : (s : List ℕ) → ((k : ℕ) → 0 ≤ k → k < length s → get_or s k 0 ≢ 10) → 0 ≡ last_end s
unfolding last_end
last_none [] h = refl
last_none (c ∷ s) h = rw (← last_none s (λ k z l. h (suc k) (omega arith) (omega arith)), ne_eqb c 10 (h 0 (omega arith) (omega arith)))

pub last_at : (s : List ℕ) (i : ℕ) → i < length s → get_or s i 0 ≡ 10 → ((k : ℕ) → i + 1 ≤ k → k < length s → get_or s k 0 ≢ 10) → i + 1 ≡ last_end s
unfolding last_end
last_at [] i l e h = absurd (omega arith)
last_at (c ∷ s) zero l e h = rw (← last_none s (λ k z l. h (suc k) (omega arith) (omega arith)), eq-eqb c 10 e)
last_at (c ∷ s) (suc i) l e h =
    let q : i + 1 ≡ last_end s = last_at s i (omega arith) e (λ k z l. h (suc k) (omega arith) (omega arith)) in
    rw (ne_eqb (last_end s) 0 (λ z. omega arith)) (omega arith)

-- what waits, as the code finds it
take-lesser : (m k : ℕ) (l : List ℕ) → take (min m k) l ≡ take k (take m l)
take-lesser m k l =
    le-by k m
    (λ h. let e : min m k ≡ k = omega arith in ap (λ (n : ℕ). take n l) e ∙ sym (take-take k m l h))
    (λ h. let e : min m k ≡ m = omega arith in ap (λ (n : ℕ). take n l) e ∙ sym (take_all k (take m l) (omega (arith, length-take m l))))

module _ (b : List ℕ) (filled : ℕ) {size : ℕ} (z : size ≡ min filled (length b)) {whole : ℕ} (w : whole ≡ last_end (take size b)) where
  pub whole-inside : whole ≤ size
  whole-inside = omega (arith, last_within (take size b), length-take size b)

  same-part : take size b ≡ take filled b
  same-part = ap (λ (n : ℕ). take n b) z ∙ take_min filled b

  module _ {rest : ℕ} (r : rest ≡ min (size - whole) kept_bytes) where
    pub rest-inside : whole + rest ≤ length b
    rest-inside = omega (arith, whole-inside)

    front-waits : take rest (drop whole b) ≡ waiting (take filled b)
    unfolding waiting unended
    front-waits =
        let split : size ≡ whole + (size - whole) = omega (arith, whole-inside) in
        ap (λ (n : ℕ). take n (drop whole b)) r ∙ take-lesser (size - whole) kept_bytes (drop whole b) ∙ ap (take kept_bytes) (sym (ap (λ (k : ℕ). drop whole (take k b)) split ∙ drop-take whole (size - whole) b))
        ∙ ap (λ (l : List ℕ). take kept_bytes (drop whole l)) same-part ∙ ap (λ (n : ℕ). take kept_bytes (drop n (take filled b))) (w ∙ ap last_end same-part)

    waits-size : rest ≡ length (waiting (take filled b))
    waits-size = sym (length-take-le rest (drop whole b) (omega (arith, rest-inside, length-drop whole b))) ∙ ap length front-waits

    moved-front : copy_within b whole (whole + rest) 0 ≡ take rest (drop whole b) ++ drop rest b
    moved-front = let e : whole + rest - whole ≡ rest = omega arith in let f : 0 + rest ≡ rest = omega arith in rw (e, f)

    pub waits_front : {after : List ℕ} → after ≡ copy_within b whole (whole + rest) 0
        → (rest ≡ length (waiting (take filled b))) × (after ≡ waiting (take filled b) ++ drop rest b)
    waits_front e = (waits-size, e ∙ moved-front ∙ ap (λ (l : List ℕ). l ++ drop rest b) front-waits)
