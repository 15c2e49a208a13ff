-- Productions that a letter of the text rules out may be left out. Assumes nothing.
use mathlib.Core.Path.{◌≡◌, refl, ap, sym, ◌∙◌, fun_ext}
use mathlib.Core.Bool.{Bool, true, false, cond, not, ◌&&◌}
use mathlib.Core.Logic.{◌≢◌}
use mathlib.Core.List.{List, [], ◌∷◌, ◌++◌}
use mathlib.Core.Option.{Option, none, some}
use Prim.Native.Nat.{ℕ, zero, suc, ◌≤◌}
use native.Mathlib.Omega.{arith}
use borrow.Author.Tests.{leb-true}
use lib.Dec.{leb}
use lib.ListN.{length, get_or, take, replicate}
use Rattle.lists.specs.Lists.{all, filter}
use Rattle.lists.proofs.Lists.{by, clash}
use Rattle.text_forms.specs.Spelling.{decimal_notation}
use Rattle.text_forms.specs.Form.{taken}
use Rattle.text_forms.proofs.Lawful.{decimal-lawful}
use Rattle.text_forms.proofs.Forms.{slots, fill-taken}
use Rattle.text_lines.specs.Line.{fits_word}
use Rattle.text_lines.proofs.Says.{zero-kept}
use Rattle.text_lines.proofs.Signs.{letter_after, letter_other, letter_among, Others, other_none, among_none}
use Rattle.std.specs.Prelude.{Result, Ok, Err}
use Rattle.refusals.specs.declared.Refusal.{Refusal}
use Rattle.refusals.specs.declared.Refusal.TheVariants.{NotInForm, OutOfRange}
use Rattle.refusals.specs.Numbers.{number}
use Rattle.log_forms.specs.productions.Productions.{Production, meant, parse}
use Rattle.log_forms.specs.productions.Words.{word_at, words_kept, eight_of, words_of}

-- words in form are not refused as others
kept-in-form : (cells : List ℕ) → words_kept cells ≢ Err NotInForm
unfolding words_kept
kept-in-form cells =
    by (all fits_word cells)
    (λ (e : all fits_word cells ≡ true). rw e (λ n. let z : ⊥ = cc in z))
    (λ (e : all fits_word cells ≡ false). rw e (λ n. let q : number OutOfRange ≡ number NotInForm = refused-same n in absurd (omega arith)))
  where
    refused-same : {r t : Refusal} → ◌≡◌ {A = Result (List ℕ) Refusal} (Err r) (Err t) → number r ≡ number t
    refused-same {r} {t} n = let q : r ≡ t = cc in ap number q

-- of at most eight numbers none is lost
same_number : (n m : ℕ) (ns : List ℕ) (k : ℕ) → length ns ≤ n → n ≤ m → get_or (take n (ns ++ replicate m 0)) k 0 ≡ get_or ns k 0
same_number n m [] k h l = zero-kept n m k
same_number zero m (x ∷ ns) k h l = absurd (omega arith)
same_number (suc n) m (x ∷ ns) zero h l = refl
same_number (suc n) m (x ∷ ns) (suc k) h l = same_number n m ns k (omega arith) (omega arith)

none-large : (n m : ℕ) → all fits_word (take n (replicate m 0)) ≡ true
unfolding all
none-large zero m = refl
none-large (suc n) zero = refl
none-large (suc n) (suc m) = none-large n m

same-fit : (n m : ℕ) (ns : List ℕ) → length ns ≤ n → n ≤ m → all fits_word (take n (ns ++ replicate m 0)) ≡ all fits_word ns
unfolding all
same-fit n m [] h l = none-large n m
same-fit zero m (x ∷ ns) h l = absurd (omega arith)
same-fit (suc n) m (x ∷ ns) h l = ap (λ (b : Bool). fits_word x && b) (same-fit n m ns (omega arith) (omega arith))

module _ {A : Type 0} (refuse : Refusal → A) where
  -- what the code makes of the words of a form
  abbrev pub made : Result (List ℕ) Refusal → ((ℕ → ℕ) → A) → A
  made (Ok words) meaning = meaning (word_at words)
  made (Err refusal) meaning = refuse refusal

  made_kept : (meaning : (ℕ → ℕ) → A) (cells : List ℕ)
      → made (words_kept cells) meaning ≡ cond (all fits_word cells) (meaning (λ k. get_or cells k 0)) (refuse OutOfRange)
  unfolding words_kept
  made_kept meaning cells =
      by (all fits_word cells)
      (λ (e : all fits_word cells ≡ true). rw e)
      (λ (e : all fits_word cells ≡ false). rw e)

  made-meant : (meaning : (ℕ → ℕ) → A) (form s : List ℕ) → slots form ≤ 8 → made (words_of (taken form s)) meaning ≡ meant refuse meaning (taken form s) (refuse NotInForm)
  made-meant meaning form s l = go (taken form s) refl
    where
      go : (o : Option (List ℕ)) → taken form s ≡ o → made (words_of o) meaning ≡ meant refuse meaning o (refuse NotInForm)
      go none e = refl
      go (some ns) e =
          let h : length ns ≤ 8 = omega (arith, (fill-taken decimal-lawful form s ns e).0) in
          let n : 8 ≤ 8 = omega arith in
          made_kept meaning (eight_of ns)
          ∙ rw (same-fit 8 8 ns h n) (ap (λ (f : ℕ → ℕ). cond (all fits_word ns) (meaning f) (refuse OutOfRange)) (fun_ext (λ k. same_number 8 8 ns k h n)))

  -- The law, for any test of forms under which no form takes the text.
  module _ (s : List ℕ) (test : List ℕ → Bool) (k : (form : List ℕ) → test form ≡ true → taken form s ≡ none) where
    pub left_out : (productions : List (Production A)) → parse refuse productions s ≡ parse refuse (filter (λ p. not (test p.form)) productions) s
    unfolding parse filter
    left_out [] = refl
    left_out (production ∷ rest) =
        by (test production.form)
        (λ (e : test production.form ≡ true). rw (e, k production.form e) (left_out rest))
        (λ (e : test production.form ≡ false). rw e (ap (meant refuse production.meaning (taken production.form s)) (left_out rest)))

-- the productions that a letter leaves, and those that are left where it is none of these
abbrev pub letter_leaves : {A : Type 0} → List ℕ → ℕ → List (Production A) → List (Production A)
letter_leaves beginning letter productions = filter (λ p. not (letter_other decimal_notation beginning letter p.form)) productions

abbrev pub others_leave : {A : Type 0} → List ℕ → List ℕ → List (Production A) → List (Production A)
others_leave beginning keys productions = filter (λ p. not (letter_among keys beginning p.form)) productions

-- one production, with no more numbers than the code keeps
abbrev pub is_one : {A : Type 0} → List (Production A) → Bool
is_one [] = false
is_one (production ∷ []) = leb (slots production.form) 8
is_one (production ∷ other ∷ rest) = false

abbrev pub first_form : {A : Type 0} → List (Production A) → List ℕ
first_form [] = []
first_form (production ∷ rest) = production.form

module _ {A : Type 0} (refuse : Refusal → A) where
  abbrev pub first_meaning : List (Production A) → (ℕ → ℕ) → A
  first_meaning [] n = refuse NotInForm
  first_meaning (production ∷ rest) n = production.meaning n

  module _ (s : List ℕ) {r : A} where
    pub one-production : (productions : List (Production A)) → is_one productions ≡ true → {w : Result (List ℕ) Refusal} → w ≡ words_of (taken (first_form productions) s)
        → r ≡ made refuse w (first_meaning productions) → r ≡ parse refuse productions s
    unfolding parse
    one-production [] h e q = clash h refl
    one-production (production ∷ []) h e q =
        q ∙ ap (λ (w : Result (List ℕ) Refusal). made refuse w production.meaning) e ∙ made-meant refuse production.meaning production.form s (leb-true (slots production.form) 8 h)
    one-production (production ∷ other ∷ rest) h e q = clash h refl

  -- one is tried, and where it is not in form the rest
  module _ (s : List ℕ) (production : Production A) (rest : List (Production A)) (l : leb (slots production.form) 8 ≡ true) {w : Result (List ℕ) Refusal}
      (e : w ≡ words_of (taken production.form s)) {r : A} where
    pub first-production : w ≢ Err NotInForm → r ≡ made refuse w production.meaning → r ≡ parse refuse (production ∷ rest) s
    unfolding parse
    first-production h q =
        q ∙ ap (λ (w : Result (List ℕ) Refusal). made refuse w production.meaning) e ∙ made-meant refuse production.meaning production.form s (leb-true (slots production.form) 8 l)
        ∙ other-same (taken production.form s) (λ n. h (e ∙ n))
      where
        other-same : (o : Option (List ℕ)) → words_of o ≢ Err NotInForm → meant refuse production.meaning o (refuse NotInForm) ≡ meant refuse production.meaning o (parse refuse rest s)
        other-same none n = absurd (n refl)
        other-same (some ns) n = refl

    pub other-production : w ≡ Err NotInForm → r ≡ parse refuse rest s → r ≡ parse refuse (production ∷ rest) s
    unfolding parse
    other-production h q = q ∙ other-said (taken production.form s) (sym e ∙ h)
      where
        other-said : (o : Option (List ℕ)) → words_of o ≡ Err NotInForm → parse refuse rest s ≡ meant refuse production.meaning o (parse refuse rest s)
        other-said none n = refl
        other-said (some ns) n = absurd (kept-in-form (eight_of ns) n)

  module _ (beginning s : List ℕ) {x : ℕ} (e : x ≡ letter_after decimal_notation beginning s) (productions : List (Production A)) {r : A} where
    pub by-letter : (letter : ℕ) → x ≡ letter → r ≡ parse refuse (letter_leaves beginning letter productions) s → r ≡ parse refuse productions s
    by-letter letter l q = q ∙ sym (left_out refuse s (letter_other decimal_notation beginning letter) (λ form h. other_none decimal-lawful beginning form s letter (sym e ∙ l) h) productions)

    pub letter-keeps : (letter : ℕ) → x ≡ letter → r ≡ parse refuse productions s → r ≡ parse refuse (letter_leaves beginning letter productions) s
    letter-keeps letter l q = q ∙ left_out refuse s (letter_other decimal_notation beginning letter) (λ form h. other_none decimal-lawful beginning form s letter (sym e ∙ l) h) productions

    pub by-others : (keys : List ℕ) → Others keys x → r ≡ parse refuse (others_leave beginning keys productions) s → r ≡ parse refuse productions s
    by-others keys o q = q ∙ sym (left_out refuse s (λ form. letter_among keys beginning form) (λ form h. among_none decimal_notation keys beginning form s (rw e at o) h) productions)

    -- an arm that reads one form
    pub letter-arm : (letter : ℕ) → x ≡ letter → is_one (letter_leaves beginning letter productions) ≡ true → {w : Result (List ℕ) Refusal} → w ≡ words_of (taken (first_form (letter_leaves beginning letter productions)) s)
        → r ≡ made refuse w (first_meaning (letter_leaves beginning letter productions)) → r ≡ parse refuse productions s
    letter-arm letter l h p q = by-letter letter l (one-production s (letter_leaves beginning letter productions) h p q)

    pub others-arm : (keys : List ℕ) → Others keys x → is_one (others_leave beginning keys productions) ≡ true → {w : Result (List ℕ) Refusal} → w ≡ words_of (taken (first_form (others_leave beginning keys productions)) s)
        → r ≡ made refuse w (first_meaning (others_leave beginning keys productions)) → r ≡ parse refuse productions s
    others-arm keys o h p q = by-others keys o (one-production s (others_leave beginning keys productions) h p q)
