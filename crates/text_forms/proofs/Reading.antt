-- The laws that the loop over a form cites that reads a text. Assumes nothing.
use Prim.Native.Nat.{ℕ, zero, suc, ◌+◌, ◌-◌, ◌≤◌, ◌<◌}
use mathlib.Core.Path.{◌≡◌, refl, ap, sym, ◌∙◌}
use mathlib.Core.Bool.{true, false}
use mathlib.Core.Logic.{◌≢◌}
use mathlib.Core.List.{List, [], ◌∷◌, ◌++◌, append_assoc, map}
use mathlib.Core.Option.{Option, none, some}
use native.Mathlib.Numerals.{add-one}
use native.Mathlib.Omega.{arith}
use borrow.Author.Tests.{eq-eqb, ne_eqb, eqb-true}
use lib.Dec.{eqb}
use Rattle.std.specs.Prelude.{Option as Answer, Some, None}
use lib.ListN.{length, get_or, take, drop, set, replicate, length-append, length-set, length-take, drop_of_length-le}
use lib.Seq.{drop-cons, set_out, set_at, take-set-lt, take-append-le, sets}
use Rattle.lists.proofs.Lists.{by, le-by}
use Rattle.text_forms.specs.decimal.Decimal.{saturated}
use Rattle.text_forms.specs.declared.decimal.Numeral.{Numeral}
use Rattle.text_forms.specs.Spelling.{Spelling, Notation, numeral_of}
use Rattle.text_forms.specs.Form.{is_mark, spelling_in, number_before, taken_in, filled_of}
use Rattle.text_forms.proofs.Forms.{mark-taken, mark-missing, byte-taken, byte-missing}
use Rattle.std.proofs.lemmas.List.{nil_from_length}

-- numbers stored one after the other; those past the end are lost
sets-out : (vs l : List ℕ) (i : ℕ) → length l ≤ i → sets l i vs ≡ l
sets-out [] l i h = refl
sets-out (v ∷ vs) l i h = rw (set_out l i v h) (sets-out vs l (suc i) (omega arith))

sets-kept : (m : ℕ) (vs pre zs : List ℕ) → m ≤ length pre + length zs → sets (take m (pre ++ zs)) (length pre) vs ≡ take m (pre ++ (vs ++ drop (length vs) zs))
sets-kept m [] pre zs h = refl
sets-kept m (v ∷ vs) pre [] h =
    sets-out (v ∷ vs) (take m (pre ++ [])) (length pre) (rw length-take (omega arith))
    ∙ rw (take-append-le m pre [] (omega arith), take-append-le m pre ((v ∷ vs) ++ []) (omega arith))
sets-kept m (v ∷ vs) pre (z ∷ zs) h =
    le-by m (length pre)
    (λ l. sets-out (v ∷ vs) (take m (pre ++ (z ∷ zs))) (length pre) (rw length-take (omega arith))
    ∙ rw (take-append-le m pre (z ∷ zs) l, take-append-le m pre (v ∷ (vs ++ drop (length vs) zs)) l))
    (λ l. let e : set (take m (pre ++ (z ∷ zs))) (length pre) v ≡ take m ((pre ++ (v ∷ [])) ++ zs) =
    sym (take-set-lt m (pre ++ (z ∷ zs)) (length pre) v l) ∙ rw (set_at pre z zs v (length pre) refl, append_assoc) in
    let n : length (pre ++ (v ∷ [])) ≡ suc (length pre) = length-append pre (v ∷ []) ∙ omega arith in
    rw (e, ← n) (sets-kept m vs (pre ++ (v ∷ [])) zs (omega arith) ∙ rw append_assoc))

-- the answer, where k numbers are stored already
abbrev pub told_from : ℕ → List ℕ → Option (List ℕ) → Answer (List ℕ)
told_from k xs none = None
told_from k xs (some ns) = Some (sets xs k (map saturated ns))

abbrev zeros : ℕ → List ℕ
zeros n = replicate n 0

zeros-taken : (m a : ℕ) → m ≤ a → take m (zeros a) ≡ zeros m
zeros-taken zero a h = refl
zeros-taken (suc m) zero h = absurd (omega arith)
zeros-taken (suc m) (suc a) h = ap (λ (l : List ℕ). 0 ∷ l) (zeros-taken m a (omega arith))

zeros-left : (j a : ℕ) → drop j (zeros a) ≡ zeros (a - j)
zeros-left zero a = let e : a ≡ a - 0 = omega arith in ap zeros e
zeros-left (suc j) zero = let e : 0 ≡ 0 - suc j = omega arith in ap zeros e
zeros-left (suc j) (suc a) = let e : a - j ≡ suc a - suc j = omega arith in zeros-left j a ∙ ap zeros e

zeros-behind : (m a b : ℕ) (vs : List ℕ) → m ≤ length vs + a → m ≤ length vs + b → take m (vs ++ zeros a) ≡ take m (vs ++ zeros b)
zeros-behind m a b [] h k = let p : m ≤ a = omega arith in let q : m ≤ b = omega arith in zeros-taken m a p ∙ sym (zeros-taken m b q)
zeros-behind zero a b (v ∷ vs) h k = refl
zeros-behind (suc m) a b (v ∷ vs) h k = ap (λ (l : List ℕ). v ∷ l) (zeros-behind m a b vs (omega arith) (omega arith))

told-start : (o : Option (List ℕ)) → filled_of o ≡ told_from 0 (zeros 8) o
told-start none = refl
told-start (some ns) =
    let vs = map saturated ns in
    let e : take 8 (vs ++ zeros 8) ≡ sets (zeros 8) 0 vs =
    zeros-behind 8 8 (8 - length vs) vs (omega arith) (omega arith)
    ∙ rw (← zeros-left (length vs) 8) (sym (sets-kept 8 vs [] (zeros 8) (omega arith))) in
    ap Some e

told_more : (k n : ℕ) (xs : List ℕ) (o : Option (List ℕ)) → told_from k xs (number_before n o) ≡ told_from (suc k) (set xs k (saturated n)) o
told_more k n xs none = refl
told_more k n xs (some ns) = refl

told_none : (k : ℕ) (xs : List ℕ) {o : Option (List ℕ)} → o ≡ none → told_from k xs o ≡ None
told_none k xs e = rw e

left-over : (N : Notation) (s : List ℕ) → (length s ≡ 0 → ⊥) → taken_in N [] s ≡ none
unfolding taken_in
left-over N [] h = absurd (h refl)
left-over N (x ∷ s) h = refl

-- a spelled number that is there, or is not
module _ (S : Spelling) (s : List ℕ) where
  numeral-missing : None ≡ numeral_of S s → S.size s ≡ 0
  numeral-missing h =
      by (eqb (S.size s) 0)
      (λ (e : eqb (S.size s) 0 ≡ true). eqb-true (S.size s) 0 e)
      (λ (e : eqb (S.size s) 0 ≡ false). let q = rw e at h in (cc))

  module _ {n : Numeral} (h : Some n ≡ numeral_of S s) where
    numeral-there : S.size s ≢ 0
    numeral-there z = let q = rw (eq-eqb (S.size s) 0 z) at h in (cc)

    numeral-same : n ≡ record { size = S.size s; value = saturated (S.value s) }
    numeral-same = let q = rw (ne_eqb (S.size s) 0 numeral-there) at h in (cc)

-- reading: what is left of the form is to be read from what is left of the text
pub record Reading (N : Notation) (form s numbers rest : List ℕ) (i k : ℕ) : Type 0 where
  pub all : filled_of (taken_in N form s) ≡ told_from k numbers (taken_in N (drop i form) rest)
  pub used : k ≤ i
  pub eight : length numbers ≡ 8

pub reading-start : (N : Notation) (form s : List ℕ) → Reading N form s (replicate 8 0) s 0 0
reading-start N form s = record { all = told-start (taken_in N form s); used = omega arith; eight = refl }

module _ (N : Notation) (form s numbers rest : List ℕ) (i k : ℕ) (w : Reading N form s numbers rest i k) where
  missing : taken_in N (drop i form) rest ≡ none → None ≡ filled_of (taken_in N form s)
  missing e = sym (w.all ∙ told_none k numbers e)

  module _ (h : i < length form) where
    first_of : drop i form ≡ get_or form i 0 ∷ drop (i + 1) form
    first_of = rw (add-one, drop-cons form i 0 h)

    module _ (m : is_mark (get_or form i 0) ≡ true) where
      pub reading-no-mark : None ≡ numeral_of (spelling_in N (get_or form i 0)) rest → None ≡ filled_of (taken_in N form s)
      reading-no-mark e = missing (rw first_of (mark-missing N (get_or form i 0) (drop (i + 1) form) m rest (numeral-missing (spelling_in N (get_or form i 0)) rest e)))

      module _ {n : Numeral} (e : Some n ≡ numeral_of (spelling_in N (get_or form i 0)) rest) where
        size_is : n.size ≡ (spelling_in N (get_or form i 0)).size rest
        size_is = ap (λ (x : Numeral). x.size) (numeral-same (spelling_in N (get_or form i 0)) rest e)

        value-is : n.value ≡ saturated ((spelling_in N (get_or form i 0)).value rest)
        value-is = ap (λ (x : Numeral). x.value) (numeral-same (spelling_in N (get_or form i 0)) rest e)

        pub reading-mark : {xs : List ℕ} → xs ≡ set numbers k n.value → Reading N form s xs (drop n.size rest) (i + 1) (k + 1)
        reading-mark q = record {
          all = w.all
              ∙ rw (first_of, mark-taken N (get_or form i 0) (drop (i + 1) form) m rest (numeral-there (spelling_in N (get_or form i 0)) rest e), told_more, ← size_is, ← value-is, q, add-one k);
          used = omega (arith, w.used);
          eight = ap length q ∙ length-set numbers k n.value ∙ w.eight;
        }

    module _ (m : is_mark (get_or form i 0) ≡ false) where
      pub reading-no-byte : length rest ≡ 0 → None ≡ filled_of (taken_in N form s)
      reading-no-byte l =
          missing (rw (first_of, nil_from_length rest l) (byte-missing N (get_or form i 0) (drop (i + 1) form) m [] refl))

      pub reading-other-byte : (x : ℕ) (xs : List ℕ) → rest ≡ x ∷ xs → x ≢ get_or form i 0 → None ≡ filled_of (taken_in N form s)
      reading-other-byte x xs l d =
          missing (rw (first_of, l) (byte-missing N (get_or form i 0) (drop (i + 1) form) m (x ∷ xs) (ne_eqb (get_or form i 0) x (λ y. d (sym y)))))

      pub reading-byte : (x : ℕ) (xs : List ℕ) → rest ≡ x ∷ xs → x ≡ get_or form i 0 → Reading N form s numbers xs (i + 1) k
      reading-byte x xs l d = record {
        all = w.all
            ∙ ap (told_from k numbers) (rw (first_of, l) (byte-taken N (get_or form i 0) (drop (i + 1) form) m (x ∷ xs) (eq-eqb (get_or form i 0) x (sym d))));
        used = omega (arith, w.used);
        eight = w.eight;
      }

  module _ (h : length form ≤ i) where
    pub reading-long : (length rest ≡ 0 → ⊥) → None ≡ filled_of (taken_in N form s)
    reading-long l = missing (rw (drop_of_length-le form {i = i} h) (left-over N rest l))

    pub reading-end : length rest ≡ 0 → Some numbers ≡ filled_of (taken_in N form s)
    unfolding taken_in
    reading-end l = sym (w.all ∙ rw (drop_of_length-le form {i = i} h, nil_from_length rest l))
