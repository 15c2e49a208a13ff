-- Hide and show as the code judges them, by the mark at the edit's index. Assumes nothing.
use mathlib.Core.Path.{◌≡◌, refl, sym, ap, ◌∙◌}
use mathlib.Core.Bool.{Bool, true, false, not, ◌&&◌, ◌||◌, cond}
use mathlib.Core.List.{List, ◌∷◌}
use Prim.Native.Nat.{ℕ, suc, ◌<◌}
use native.Mathlib.Omega.{arith}
use lib.Dec.{eqb}
use lib.ListN.{length, get_or, set}
use borrow.Author.Tests.{eq-eqb, ne_eqb, not-true}
use Rattle.lists.specs.Lists.{filter, mem, index_of, ◌among◌, ◌within◌}
use Rattle.record.specs.Record.{Record, names, written}
use Rattle.record.specs.Stored.{stored}
use Rattle.record.specs.Judgement.{must}
use Rattle.lists.proofs.Lists.{by, clash, or_r, same_by, mem_index, mem-head, mem-other, cons-within, filter-mem, mem-filter}
use Rattle.record_tables.specs.Checked.{Checked}
use Rattle.record_rows.specs.row.Row.{is_name}
use Rattle.record_rows.specs.grounds.Ground.{◌given◌, ◌orelse◌}
use Rattle.record_rows.proofs.grounds.Grounds.{orelse-first, orelse-second, orelse-assoc}
use Rattle.graph.specs.links.Marks.{marks_of}
use Rattle.graph.specs.indexes.Fit.{Fit}
use Rattle.graph.proofs.indexes.Fit.{checked-fit}
use Rattle.graph.proofs.links.Names.{get_or-place}
use Rattle.graph.proofs.links.Marks.{marks-at}
use Rattle.voting.specs.Tally.{Election}
use Rattle.std.specs.Prelude.{Option, Some, None, Result, Err}
use Rattle.std.specs.Option.{ok_or}
use Rattle.refusals.specs.declared.Refusal.{Refusal}
use Rattle.refusals.specs.declared.Refusal.TheVariants.{OutOfRange, Unknown, NotHideable}
use Rattle.refusals.specs.Numbers.{number}
use Rattle.refusals.proofs.Numbers.{number-positive}
use Rattle.bench.specs.hidden.Marks.{index_in}
use Rattle.bench.proofs.hidden.Named.{mark_set}
use Rattle.ledger.specs.declared.Bench.{Bench}
use Rattle.ledger.specs.Ledger.{Ledger, Call, start, judge, no_election, change, shown, act, step, fed}
use Rattle.ledger.specs.Bench.{Outcome, bench_of, outcome, told_outcome}
use Rattle.ledger.proofs.Valid.{Valid, start-valid, fed-valid, shown-within}
use Rattle.bench.specs.Changes.{Changes}
use Rattle.bench.proofs.Moves.{told-refused, accepted-is, bench-record, bench-hidden}
use Rattle.lists.proofs.Tests.{bit-on}
use Rattle.bench_edits.specs.visibility.Named.{name_fault, mark_call}

-- the mark of an edit against the mark that a call gives it
same-mark : (hides b : Bool) → eqb (cond b 1 0) (cond hides 1 0) ≡ cond hides b (not b)
same-mark true true = refl
same-mark true false = refl
same-mark false true = refl
same-mark false false = refl

shown-same : (x : ℕ) (h : List ℕ) → mem x (shown x h) ≡ false
unfolding shown
shown-same x h =
    by (mem x (filter (λ y. not (eqb y x)) h)) (λ i. clash (eq-eqb x x refl) (not-true (eqb x x) (filter-mem (λ y. not (eqb y x)) h x i).1)) (λ i. i)

shown-other : (x y : ℕ) (h : List ℕ) → (y ≡ x → ⊥) → mem y (shown x h) ≡ mem y h
unfolding shown
shown-other x y h n =
    same_by (mem y (filter (λ z. not (eqb z x)) h)) (mem y h) (λ i. (filter-mem (λ z. not (eqb z x)) h y i).0) (λ i. mem-filter (λ z. not (eqb z x)) h y i (rw (ne_eqb y x n)))

-- 9 is given where an edit that must stand, or a hidden one, is hidden, and where a shown one is shown
abbrev barred : Bool → Bool → Bool → Bool
barred hides must hidden = cond hides (must || hidden) (not hidden)

bars-marked : (hides m h : Bool) → cond hides h (not h) ≡ true → barred hides m h ≡ true
bars-marked true m h e = or_r m h e
bars-marked false m h e = e

not-barred : (hides m h : Bool) → cond hides h (not h) ≡ false → (eqb (cond hides 1 0) 1 && m) ≡ false → barred hides m h ≡ false
not-barred true m h e q = rw (e, q)
not-barred false m h e q = e

-- the hidden edits after the call
abbrev hidden_after : Bool → ℕ → List ℕ → List ℕ
hidden_after true x h = x ∷ h
hidden_after false x h = shown x h

after-other : (hides : Bool) (x y : ℕ) (h : List ℕ) → (y ≡ x → ⊥) → mem y (hidden_after hides x h) ≡ mem y h
after-other true x y h n = mem-other x y h n
after-other false x y h n = shown-other x y h n

after_same : (hides : Bool) (x : ℕ) (h : List ℕ) → mem x (hidden_after hides x h) ≡ hides
after_same true x h = mem-head x h
after_same false x h = shown-same x h

after-within : (hides : Bool) (x : ℕ) (h l : List ℕ) → x among l → h within l → hidden_after hides x h within l
after-within true x h l i w = cons-within x h l i w
after-within false x h l i w = λ y j. w y (shown-within x h y j)

mark-act : (L : Ledger) (x : ℕ) (hides : Bool) → act L (mark_call hides x) ≡ change L L.multilog (hidden_after hides x L.hidden) no_election
unfolding act
mark-act L x true = refl
mark-act L x false = refl

-- the call judges the name, then gives 9
mark-judge : (L : Ledger) (x : ℕ) (hides : Bool)
    → judge L (mark_call hides x) ≡ (name_fault L.multilog x orelse 9 given barred hides (must L.multilog x) (mem x L.hidden))
unfolding judge
mark-judge L x true = orelse-assoc (2 given not (is_name x)) (5 given not (mem x (written L.multilog))) (9 given (must L.multilog x || mem x L.hidden))
mark-judge L x false = orelse-assoc (2 given not (is_name x)) (5 given not (mem x (written L.multilog))) (9 given not (mem x L.hidden))

-- the edit's index
found-is : (o : Option ℕ) (x i : ℕ) (l : List ℕ) → o ≡ index_in x l → o ≡ Some i → (mem x l ≡ true) × (i ≡ suc (index_of x l))
found-is o x i l f e =
    by (mem x l)
    (λ (m : mem x l ≡ true). let z : Some i ≡ Some (suc (index_of x l)) = sym e ∙ f ∙ rw m in (m, cc))
    (λ (m : mem x l ≡ false). let z : Some i ≡ None = sym e ∙ f ∙ rw m in cc)

unfound : (o : Option ℕ) (x : ℕ) (l : List ℕ) → o ≡ index_in x l → o ≡ None → mem x l ≡ false
unfound o x l f e =
    by (mem x l) (λ (m : mem x l ≡ true). let z : None ≡ Some (suc (index_of x l)) = sym e ∙ f ∙ rw m in cc) (λ (m : mem x l ≡ false). m)

which : (o : Option ℕ) (refusal : Refusal) → ◌≡◌ {A = Result ℕ Refusal} (Err refusal) (ok_or o Unknown) → o ≡ None → number refusal ≡ 5
which None refusal w z = let q : refusal ≡ Unknown = cc in ap number q
which (Some i) refusal w z = cc

-- refused by the edit's name alone
by-name : (L : Ledger) (x : ℕ) (hides : Bool) (bench : Bench) (r : Refusal) → bench ≡ bench_of L → number r ≡ name_fault L.multilog x
    → told_outcome (Err r) bench ≡ outcome (step L (mark_call hides x))
by-name L x hides bench r e f =
    told-refused L bench (mark_call hides x) r e (f ∙ sym (mark-judge L x hides ∙ orelse-first (name_fault L.multilog x) _ (λ q. number-positive r (f ∙ q))))

pub unnamed : (bench : Bench) (x : ℕ) (hides : Bool) → is_name x ≡ false → (calls : List Call) → bench ≡ bench_of (fed start calls)
    → told_outcome (Err OutOfRange) bench ≡ outcome (step (fed start calls) (mark_call hides x))
unnamed bench x hides n calls e = by-name (fed start calls) x hides bench OutOfRange e (rw n)

-- what the look-up of a name tells
module _ (bench : Bench) (x : ℕ) (hides : Bool) (n : is_name x ≡ true) (o : Option ℕ) (f : (R : Record) → bench.multilog ≡ stored R → Checked R → o ≡ index_in x (written R))
    (calls : List Call) (e : bench ≡ bench_of (fed start calls)) where
  abbrev L : Ledger
  L = fed start calls

  v : Valid L
  v = fed-valid start calls start-valid

  seen : o ≡ index_in x (written L.multilog)
  seen = f L.multilog (bench-record L bench e) v.checked

  pub unknown-refused : (r : Refusal) → Err r ≡ ok_or o Unknown → o ≡ None → told_outcome (Err r) bench ≡ outcome (step L (mark_call hides x))
  unknown-refused r w z = by-name L x hides bench r e (which o r w z ∙ rw (n, unfound o x (written L.multilog) seen z))

  module _ {i : ℕ} (s : o ≡ Some i) (m : ℕ) (c : m ≡ cond hides 1 0) where
    known : x among written L.multilog
    known = (found-is o x i (written L.multilog) seen s).0

    place : i ≡ suc (index_of x (written L.multilog))
    place = (found-is o x i (written L.multilog) seen s).1

    abbrev Bars : Bool
    Bars = barred hides (must L.multilog x) (mem x L.hidden)

    judged : judge L (mark_call hides x) ≡ 9 given Bars
    judged = let f : name_fault L.multilog x ≡ 0 = rw (n, known) in mark-judge L x hides ∙ orelse-second (name_fault L.multilog x) (9 given Bars) f

    -- the mark at the index
    mark-is : (marks : List ℕ) (test : ℕ → Bool) → marks ≡ marks_of L.multilog test → get_or marks i 0 ≡ cond (test x) 1 0
    unfolding names
    mark-is marks test h =
        let w : suc (index_of x (written L.multilog)) < length (names L.multilog) = omega (arith, mem_index x (written L.multilog) known) in
        rw (h, place) (marks-at L.multilog test (suc (index_of x (written L.multilog))) w ∙ ap (λ (y : ℕ). cond (test y) 1 0) (get_or-place x (written L.multilog) known))

    marked : eqb (get_or bench.hidden i 0) m ≡ cond hides (mem x L.hidden) (not (mem x L.hidden))
    marked = rw (mark-is bench.hidden (λ y. mem y L.hidden) (bench-hidden L bench e), c) (same-mark hides (mem x L.hidden))

    barred-refused : Bars ≡ true → told_outcome (Err NotHideable) bench ≡ outcome (step L (mark_call hides x))
    barred-refused b = told-refused L bench (mark_call hides x) NotHideable e (sym (judged ∙ rw b))

    pub marked-already : get_or bench.hidden i 0 ≡ m → told_outcome (Err NotHideable) bench ≡ outcome (step L (mark_call hides x))
    marked-already q = barred-refused (bars-marked hides (must L.multilog x) (mem x L.hidden) (sym marked ∙ eq-eqb _ _ q))

    module _ (musts : List ℕ) (h : (R : Record) → bench.multilog ≡ stored R → Fit R → musts ≡ marks_of R (must R)) where
      must-is : get_or musts i 0 ≡ cond (must L.multilog x) 1 0
      must-is = mark-is musts (must L.multilog) (h L.multilog (bench-record L bench e) (checked-fit L.multilog v.checked))

      pub must-stands : hides ≡ true → get_or musts i 0 ≡ 1 → told_outcome (Err NotHideable) bench ≡ outcome (step L (mark_call hides x))
      must-stands t q = let s : must L.multilog x ≡ true = bit-on (must L.multilog x) (sym must-is ∙ q) in barred-refused (rw (t, s))

      free : (get_or bench.hidden i 0 ≡ m → ⊥) → (hides ≡ true → get_or musts i 0 ≡ 1 → ⊥) → Bars ≡ false
      free q r = not-barred hides (must L.multilog x) (mem x L.hidden) (sym marked ∙ ne_eqb _ _ q) (off hides (must L.multilog x) r must-is)
        where
          off : (b w : Bool) → (b ≡ true → get_or musts i 0 ≡ 1 → ⊥) → get_or musts i 0 ≡ cond w 1 0 → (eqb (cond b 1 0) 1 && w) ≡ false
          off false w r z = refl
          off true true r z = absurd (r refl z)
          off true false r z = refl

      -- the change
      pub mark_made : (get_or bench.hidden i 0 ≡ m → ⊥) → (hides ≡ true → get_or musts i 0 ≡ 1 → ⊥)
          → (E : Election) → E ≡ no_election → (r : Outcome)
          → Changes bench bench.multilog (set bench.hidden i m) E r → r ≡ outcome (step L (mark_call hides x))
      unfolding Changes
      mark_made q p E y r k =
          let after = hidden_after hides x L.hidden in
          let w = after-within hides x L.hidden (written L.multilog) known v.hidden-written in
          let s : set bench.hidden i m ≡ marks_of L.multilog (λ y. mem y after) =
          (λ j. set (bench-hidden L bench e j) (place j) m)
          ∙ mark_set L.multilog (λ y. mem y L.hidden) (λ y. mem y after) x m v.checked known (λ y. after-other hides x y L.hidden) (c ∙ ap (λ (b : Bool). cond b 1 0) (sym (after_same hides x L.hidden))) in
          accepted-is L (mark_call hides x) r (judged ∙ rw (free q p))
          (k calls L.multilog after e (bench-record L bench e) w s v.checked v.sound-now (λ y j. refl)
          ∙ (ap (λ (E : Election). outcome (change L L.multilog after E)) y ∙ ap outcome (sym (mark-act L x hides))))
