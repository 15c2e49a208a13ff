-- The laws of the loop over the lines of a text. Assumes nothing.
use mathlib.Core.Path.{◌≡◌, refl, ap, sym, subst, ◌∙◌}
use mathlib.Core.Bool.{true}
use mathlib.Core.List.{List, [], ◌∷◌, ◌++◌, map, map-append, append-nil, append_assoc}
use Prim.Native.Nat.{ℕ, suc, ◌+◌, ◌≤◌}
use native.Mathlib.Omega.{arith}
use lib.ListN.{length, length-map}
use Rattle.lists.specs.Lists.{all}
use Rattle.lists.proofs.Front.{all_append}
use Rattle.text_lines.specs.Lines.{lines}
use Rattle.std.specs.Prelude.{Some, None, Result, Ok, Err}
use Rattle.refusals.proofs.Numbers.{number-positive}
use Rattle.unity_table.specs.declared.Weights.{Weights}
use Rattle.unity_table.specs.declared.Summed.{Summed}
use Rattle.unity_table.specs.declared.Unity.{Unity}
use Rattle.unity_table.specs.declared.RowFault.{RowFault}
use Rattle.unity_table.specs.Unity.{election_limit, weights_of, Fault, deciding_fault, refused_unity, fault_of, answer_told}
use Rattle.unity_table.specs.Summed.{running, Open, Left, SummedTo, Adds, Ends}
use Rattle.unity_table.proofs.Sums.{weights-row-is, row-few}
use Rattle.unity_text.specs.Text.{numbers_in, in_form, weights_in, weights_line_fault, text_unity}
use Rattle.unity_text.specs.Said.{said_of}
use Rattle.unity_text.proofs.Reading.{SaysAnswer, said-some, said-none, cut-same}
use Rattle.unity_text.proofs.Faults.{stops-unformed, stops-faulty, unity-text-refused, text-formed}

-- the lines read so far: all are in form, and their answers leave this state
pub record SummedUpto (text : List ℕ) (s : Summed) (rest : List ℕ) : Type 0 where
  pub done : List (List ℕ)
  pub lines_are : lines text ≡ done ++ lines rest
  pub formed : all in_form done ≡ true
  pub after : Open s (map weights_in done)

nothing-formed : all in_form [] ≡ true
unfolding all
nothing-formed = refl

pub summed-start : (text : List ℕ) {s : Summed} → Open s [] → SummedUpto text s text
summed-start text o = record { done = []; lines_are = refl; formed = nothing-formed; after = o }

module _ (text : List ℕ) {s : Summed} {rest : List ℕ} (u : SummedUpto text s rest) where
  pub upto_left : Left s
  upto_left = record { answers = map weights_in u.done; after = u.after }

  pub upto-few : s.rows ≤ election_limit
  upto-few = row-few s (map weights_in u.done) (weights_of []) u.after

  pub summed-end : lines rest ≡ [] → (r : Result Unity RowFault) → Ends s r → answer_told r ≡ text_unity text
  summed-end h r f =
      f (map weights_in u.done) u.after ∙ sym (text-formed text u.done (u.lines_are ∙ rw h (append-nil u.done)) u.formed)

  -- the next line, and what is left after it
  module _ (line after : List ℕ) (h : lines rest ≡ line ∷ lines after) where
    next-lines : lines text ≡ u.done ++ (line ∷ lines after)
    next-lines = u.lines_are ∙ ap (λ (l : List (List ℕ)). u.done ++ l) h

    pub upto-unformed : None ≡ said_of (numbers_in line) → refused_unity (record { number = 1; row = s.rows + 1 }) ≡ text_unity text
    upto-unformed q =
        let f : deciding_fault weights_line_fault [] (lines text) ≡ record { number = 1; row = suc (length u.done) } =
        ap (deciding_fault weights_line_fault []) next-lines ∙ stops-unformed u.done line (lines after) u.formed u.after.none (said-none (numbers_in line) q) in
        let w : s.rows + 1 ≡ suc (length u.done) = let x = weights-row-is s (map weights_in u.done) (weights_of []) u.after ∙ length-map u.done weights_in in omega arith in
        ap (λ (k : ℕ). refused_unity (record { number = 1; row = k })) w ∙ sym (unity-text-refused text (record { number = 1; row = suc (length u.done) }) f (λ z. omega arith))

    module _ {a : Weights} (q : Some a ≡ said_of (numbers_in line)) where
      says : SaysAnswer (numbers_in line) a
      says = said-some (numbers_in line) q

      summed-to : (r : Result Summed RowFault) → Adds s a r → SummedTo (map weights_in u.done ++ (weights_in line ∷ [])) r
      summed-to r f =
          cut-same s (map weights_in u.done) (weights_in line) u.after r
          (subst (λ (x : Weights). SummedTo (map weights_in u.done ++ (x ∷ [])) r) says.is (f (map weights_in u.done) u.after))

      pub upto-faulty : (f : RowFault) → Adds s a (Err f) → answer_told (Err f) ≡ text_unity text
      upto-faulty f d =
          let g : running (map weights_in u.done ++ (weights_in line ∷ [])) ≡ fault_of f = summed-to (Err f) d in
          let n = number-positive f.refusal in
          let t : deciding_fault weights_line_fault [] (lines text) ≡ fault_of f =
          ap (deciding_fault weights_line_fault []) next-lines
          ∙ stops-faulty u.done line (lines after) u.formed u.after.none says.formed (λ z. n (sym (ap (λ (k : Fault). k.number) g) ∙ z))
          ∙ g in
          sym (unity-text-refused text (fault_of f) t n)

      pub summed-next : (later : Summed) → Adds s a (Ok later) → SummedUpto text later after
      unfolding all
      summed-next later d = record {
        done = u.done ++ (line ∷ []);
        lines_are = next-lines ∙ sym (append_assoc u.done (line ∷ []) (lines after));
        formed = rw (all_append in_form u.done (line ∷ []), u.formed, says.formed);
        after = rw (map-append weights_in u.done (line ∷ [])) (summed-to (Ok later) d);
      }
