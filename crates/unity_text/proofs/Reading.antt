-- What the code reads of a line, and that numbers cut off at 2^32 change nothing. Assumes nothing.
use mathlib.Core.Path.{◌≡◌, refl, ap, sym, subst, ◌∙◌}
use mathlib.Core.Bool.{true, false}
use mathlib.Core.List.{List, [], ◌∷◌, ◌++◌, map}
use mathlib.Core.Option.{Option, none, some}
use Prim.Native.Nat.{ℕ, ◌+◌, ◌≤◌, ◌<◌}
use native.Mathlib.Omega.{arith}
use borrow.Author.Tests.{lt-ltb, le-ltb}
use lib.ListN.{length, get_or, take, replicate}
use Rattle.std.specs.Prelude.{Option as Answer, Some, None, Result, Ok, Err, ok_or}
use Rattle.text_lines.specs.Line.{line_limit}
use Rattle.lists.proofs.Lists.{by}
use Rattle.text_forms.specs.decimal.Decimal.{saturated}
use Rattle.text_forms.specs.Form.{taken, filled_of}
use Rattle.text_lines.proofs.Says.{kept-number}
use Rattle.unity_table.specs.declared.Weights.{Weights}
use Rattle.unity_table.specs.declared.Summed.{Summed}
use Rattle.unity_table.specs.declared.RowFault.{RowFault}
use Rattle.unity_table.specs.Unity.{weights_of, out_of_range, Fault}
use Rattle.unity_table.specs.Summed.{running, Open, SummedTo}
use Rattle.unity_table.proofs.Sums.{in-range, answer-range}
use Rattle.unity_text.specs.Text.{weights_form, numbers_in, is_some, weights_by}
use Rattle.unity_text.specs.Said.{cut, said_of}

-- what is kept of the numbers of a form
said-kept : (o : Option (List ℕ)) {numbers : List ℕ} → Some numbers ≡ filled_of o → Some (weights_of numbers) ≡ said_of o
said-kept none e = cc
said-kept (some ns) {numbers = numbers} e =
    let r : numbers ≡ take 8 (map saturated ns ++ replicate 8 0) = cc in
    let g : get_or numbers 0 0 ≡ saturated (get_or ns 0 0) = rw r (kept-number ns 0 (omega arith)) in
    let s : get_or numbers 1 0 ≡ saturated (get_or ns 1 0) = rw r (kept-number ns 1 (omega arith)) in
    let w : get_or numbers 2 0 ≡ saturated (get_or ns 2 0) = rw r (kept-number ns 2 (omega arith)) in
    λ i. Some (record { greatest = g i; silent = s i; total = w i })

said-other : (o : Option (List ℕ)) → None ≡ filled_of o → None ≡ said_of o
said-other none e = refl
said-other (some ns) e = cc

-- what is said, or the fault where nothing is
module _ (fault : RowFault) where
  pub answer-none : (o : Answer Weights) {f : RowFault} → ok_or o fault ≡ Err f → (None ≡ o) × (fault ≡ f)
  answer-none None e = (refl, cc)
  answer-none (Some a) e = cc

  pub answer-some : (o : Answer Weights) {a : Weights} → ok_or o fault ≡ Ok a → Some a ≡ o
  answer-some None e = cc
  answer-some (Some b) e = cc

module _ (line : List ℕ) where
  pub said-long : line_limit < length line → None ≡ said_of (numbers_in line)
  unfolding numbers_in
  said-long h = rw (lt-ltb line_limit (length line) h)

  module _ (few : length line ≤ line_limit) where
    numbers-are : taken weights_form line ≡ numbers_in line
    unfolding numbers_in
    numbers-are = rw (le-ltb line_limit (length line) few)

    pub said-unformed : None ≡ filled_of (taken weights_form line) → None ≡ said_of (numbers_in line)
    said-unformed e = said-other (taken weights_form line) e ∙ ap said_of numbers-are

    pub said-answer : {numbers : List ℕ} → Some numbers ≡ filled_of (taken weights_form line) → Some (weights_of numbers) ≡ said_of (numbers_in line)
    said-answer e = said-kept (taken weights_form line) e ∙ ap said_of numbers-are

-- what that says of the line
pub record SaysAnswer (o : Option (List ℕ)) (a : Weights) : Type 0 where
  pub formed : is_some o ≡ true
  pub is : a ≡ cut (weights_by o)

pub said-some : (o : Option (List ℕ)) {a : Weights} → Some a ≡ said_of o → SaysAnswer o a
said-some none e = cc
said-some (some ns) e = record { formed = refl; is = cc }

pub said-none : (o : Option (List ℕ)) → None ≡ said_of o → is_some o ≡ false
said-none none e = refl
said-none (some ns) e = cc

-- in range nothing is cut off
cut-none : (a : Weights) → a.greatest < 4294967296 → a.silent < 4294967296 → a.total < 4294967296 → cut a ≡ a
cut-none a g s w =
    let p : saturated a.greatest ≡ a.greatest = omega arith in
    let q : saturated a.silent ≡ a.silent = omega arith in
    let r : saturated a.total ≡ a.total = omega arith in
    λ i. record { greatest = p i; silent = q i; total = r i }

cut-in-range : (a : Weights) → out_of_range a ≡ false → cut a ≡ a
cut-in-range a h =
    let k = in-range a h in
    let t = k.together in
    let m = k.limited in
    cut-none a (omega arith) (omega arith) (omega arith)

cut-back : (a : Weights) → out_of_range (cut a) ≡ false → cut a ≡ a
cut-back a h =
    let k = in-range (cut a) h in
    let t : saturated a.greatest + saturated a.silent ≤ saturated a.total = k.together in
    let m : saturated a.total ≤ 524280 = k.limited in
    cut-none a (omega arith) (omega arith) (omega arith)

both-faulty : (l m : List Weights) (row : ℕ) (r : Result Summed RowFault) → running l ≡ record { number = 2; row = row } → running m ≡ record { number = 2; row = row } → SummedTo l r → SummedTo m r
both-faulty l m row (Ok s) e f h = absurd (let n = h.none in let z : ◌≡◌ {A = ℕ} 2 0 = sym (ap (λ (x : Fault). x.number) e) ∙ n in omega arith)
both-faulty l m row (Err x) e f h = f ∙ sym e ∙ h

-- The numbers cut off, an answer leaves what it leaves with its own.
pub cut-same : (s : Summed) (l : List Weights) (a : Weights) → Open s l → (r : Result Summed RowFault) → SummedTo (l ++ (cut a ∷ [])) r → SummedTo (l ++ (a ∷ [])) r
cut-same s l a o r h =
    by (out_of_range a)
    (λ (e : out_of_range a ≡ true).
    by (out_of_range (cut a))
    (λ (k : out_of_range (cut a) ≡ true). both-faulty (l ++ (cut a ∷ [])) (l ++ (a ∷ [])) (s.rows + 1) r (answer-range s l (cut a) o k) (answer-range s l a o e) h)
    (λ (k : out_of_range (cut a) ≡ false). subst (λ (x : Weights). SummedTo (l ++ (x ∷ [])) r) (cut-back a k) h))
    (λ (e : out_of_range a ≡ false). subst (λ (x : Weights). SummedTo (l ++ (x ∷ [])) r) (cut-in-range a e) h)
