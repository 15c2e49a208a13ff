-- Productions whose forms differ pairwise: no text is taken by two of them, and each reads its own lines. Assumes nothing.
use mathlib.Core.Path.{◌≡◌, refl, ap, sym, ◌∙◌}
use mathlib.Core.Bool.{Bool, true, false, cond, ◌&&◌, ◌||◌}
use mathlib.Core.Logic.{inl, inr}
use mathlib.Core.List.{List, [], ◌∷◌, map}
use mathlib.Core.Option.{Option, none, some}
use Prim.Native.Nat.{ℕ, zero, suc, ◌<◌}
use native.Mathlib.Omega.{arith}
use borrow.Author.Tests.{eqb-true, eqb-false, not-true}
use lib.Dec.{eqb}
use lib.ListN.{length, get_or, drop}
use Rattle.lists.specs.Lists.{all, Has}
use Rattle.lists.proofs.Lists.{by, is-by, clash, and_l, and_r, none-some}
use Rattle.lists.proofs.Logic.{all-has}
use Rattle.text_forms.specs.decimal.Decimal.{numeral_size}
use Rattle.text_forms.specs.Spelling.{number_spelling, decimal_notation}
use Rattle.text_forms.specs.Form.{is_mark, spelling_in, spelling, number_before, begins_with, taken_in, taken}
use Rattle.text_forms.proofs.Lawful.{decimal-lawful, lawful}
use Rattle.text_forms.proofs.Forms.{words_apart, differ, unlike, marks-apart, mark-taken, mark-missing, byte-taken, byte-missing}
use Rattle.refusals.specs.declared.Refusal.{Refusal}
use Rattle.refusals.specs.declared.Refusal.TheVariants.{NotInForm}
use Rattle.log_forms.specs.productions.Productions.{Production, meant, parse, Unambiguous}

-- Names are spelled as numbers are, so a form takes the same texts with # for @.
abbrev as_number : ℕ → ℕ
as_number c = cond (eqb c 64) 35 c

name-taken : (f g s : List ℕ) → taken f (drop (numeral_size s) s) ≡ taken g (drop (numeral_size s) s) → taken (35 ∷ f) s ≡ taken (64 ∷ g) s
unfolding taken_in is_mark spelling_in decimal_notation number_spelling
name-taken f g s h = rw h

taken-as-number : (f s : List ℕ) → taken (map as_number f) s ≡ taken f s
unfolding taken_in
taken-as-number [] s = refl
taken-as-number (c ∷ f) s =
    by (eqb c 64)
    (λ (e : eqb c 64 ≡ true). let q : c ≡ 64 = eqb-true c 64 e in rw q (name-taken (map as_number f) f s (taken-as-number f (drop (numeral_size s) s))))
    (λ (e : eqb c 64 ≡ false). rw (e, taken-as-number f (drop ((spelling c).size s) s), taken-as-number f (drop 1 s)))

-- no two of the forms give a text in common
unfoldable pub tell_apart : List ℕ → List ℕ → Bool
tell_apart f g = differ decimal_notation (map as_number f) (map as_number g)

unfoldable pub apart : {A : Type 0} → List (Production A) → Bool
apart [] = true
apart (production ∷ rest) = all (λ other. tell_apart production.form other.form) rest && apart rest

-- whether a form takes a text
abbrev is_taken : Option (List ℕ) → Bool
is_taken none = false
is_taken (some ns) = true

taken_more : (n : ℕ) (o : Option (List ℕ)) → is_taken (number_before n o) ≡ is_taken o
taken_more n none = refl
taken_more n (some ns) = refl

none-no : {o : Option (List ℕ)} → o ≡ none → is_taken o ≡ false
none-no e = rw e

no_none : (o : Option (List ℕ)) → is_taken o ≡ false → o ≡ none
no_none none h = refl
no_none (some ns) h = clash refl h

nothing-taken : (c : ℕ) (f : List ℕ) → is_taken (taken (c ∷ f) []) ≡ false
nothing-taken c f = by (is_mark c) (λ m. none-no (mark-missing decimal_notation c f m [] (lawful decimal-lawful c).nothing)) (λ m. none-no (byte-missing decimal_notation c f m [] refl))

-- only a text that begins so is taken
begins-taken : (c : ℕ) (f s : List ℕ) → is_mark c ≡ false → is_taken (taken (c ∷ f) s) ≡ true → begins_with c s ≡ true
begins-taken c f s m h = by (begins_with c s) (λ e. e) (λ e. clash h (none-no (byte-missing decimal_notation c f m s e)))

mark-begun : (c d : ℕ) (f s : List ℕ) → is_mark c ≡ true → (spelling c).begins d ≡ false → begins_with d s ≡ true → taken (c ∷ f) s ≡ none
mark-begun c d f [] m b h = clash h refl
mark-begun c d f (x ∷ s) m b h = let e : d ≡ x = eqb-true d x h in mark-missing decimal_notation c f m (x ∷ s) ((lawful decimal-lawful c).other x s (rw (← e) b))

one-beginning : (c d : ℕ) (s : List ℕ) → begins_with c s ≡ true → begins_with d s ≡ true → c ≡ d
one-beginning c d [] p q = clash p refl
one-beginning c d (x ∷ s) p q = eqb-true c x p ∙ sym (eqb-true d x q)

-- of two marks that begin differently one does not begin a text that the other begins
both-marks : (c d : ℕ) (f g s : List ℕ) → is_mark c ≡ true → is_mark d ≡ true → (words_apart decimal_notation c d || words_apart decimal_notation d c) ≡ true → is_taken (taken (d ∷ g) s) ≡ true
    → is_taken (taken (c ∷ f) s) ≡ false
both-marks c d f g [] m p h t = nothing-taken c f
both-marks c d f g (x ∷ s) m p h t =
    by ((spelling d).begins x)
    (λ b. none-no (mark-missing decimal_notation c f m (x ∷ s) ((lawful decimal-lawful c).other x s (marks-apart decimal_notation c d x h b))))
    (λ b. clash t (none-no (mark-missing decimal_notation d g p (x ∷ s) ((lawful decimal-lawful d).other x s b))))

unlike-no : (c d : ℕ) (f g s : List ℕ) → eqb c d ≡ false → unlike decimal_notation c d ≡ true → is_taken (taken (d ∷ g) s) ≡ true → is_taken (taken (c ∷ f) s) ≡ false
unlike-no c d f g s e h t =
    by (is_mark c)
    (λ (m : is_mark c ≡ true).
    by (is_mark d)
    (λ (p : is_mark d ≡ true). both-marks c d f g s m p (rw (m, p) at h) t)
    (λ (p : is_mark d ≡ false). none-no (mark-begun c d f s m (not-true ((spelling c).begins d) (rw (m, p) at h)) (begins-taken d g s p t))))
    (λ (m : is_mark c ≡ false).
    by (begins_with c s)
    (λ (b : begins_with c s ≡ true).
    by (is_mark d)
    (λ (p : is_mark d ≡ true).
    let q : (spelling d).begins c ≡ false = not-true ((spelling d).begins c) (rw (m, p) at h) in
    clash t (none-no (mark-begun d c g s p q b)))
    (λ (p : is_mark d ≡ false). absurd (eqb-false c d e (one-beginning c d s b (begins-taken d g s p t)))))
    (λ (b : begins_with c s ≡ false). none-no (byte-missing decimal_notation c f m s b)))

-- two forms that differ take no text in common
differ-no : (f g s : List ℕ) → differ decimal_notation f g ≡ true → is_taken (taken g s) ≡ true → is_taken (taken f s) ≡ false
unfolding differ taken_in
differ-no [] [] s h t = clash h refl
differ-no [] (d ∷ g) [] h t = clash t (nothing-taken d g)
differ-no [] (d ∷ g) (x ∷ s) h t = refl
differ-no (c ∷ f) [] [] h t = nothing-taken c f
differ-no (c ∷ f) [] (x ∷ s) h t = clash t refl
differ-no (c ∷ f) (d ∷ g) s h t =
    by (eqb c d)
    (λ (e : eqb c d ≡ true).
    let q : c ≡ d = eqb-true c d e in
    let k : differ decimal_notation f g ≡ true = rw e at h in
    rw q
    (by (is_mark d)
    (λ (m : is_mark d ≡ true).
    is-by ((spelling d).size s) 0
    (λ z. none-no (mark-missing decimal_notation d f m s z))
    (λ z.
    let a : is_taken (taken (d ∷ f) s) ≡ is_taken (taken f (drop ((spelling d).size s) s)) = ap is_taken (mark-taken decimal_notation d f m s z) ∙ taken_more _ (taken f (drop ((spelling d).size s) s)) in
    let b : is_taken (taken (d ∷ g) s) ≡ is_taken (taken g (drop ((spelling d).size s) s)) = ap is_taken (mark-taken decimal_notation d g m s z) ∙ taken_more _ (taken g (drop ((spelling d).size s) s)) in
    a ∙ differ-no f g (drop ((spelling d).size s) s) k (sym b ∙ t)))
    (λ (m : is_mark d ≡ false).
    by (begins_with d s)
    (λ b. ap is_taken (byte-taken decimal_notation d f m s b) ∙ differ-no f g (drop 1 s) k (sym (ap is_taken (byte-taken decimal_notation d g m s b)) ∙ t))
    (λ b. none-no (byte-missing decimal_notation d f m s b)))))
    (λ (e : eqb c d ≡ false). unlike-no c d f g s e (rw e at h) t)

apart_none : (f g s : List ℕ) {ns : List ℕ} → tell_apart f g ≡ true → taken g s ≡ some ns → taken f s ≡ none
unfolding tell_apart
apart_none f g s h t =
    sym (taken-as-number f s)
    ∙ no_none (taken (map as_number f) s) (differ-no (map as_number f) (map as_number g) s h (ap is_taken (taken-as-number g s ∙ t)))

-- the form at a place, one of the forms
form-differs : {A : Type 0} (f : List ℕ) (productions : List (Production A)) (k : ℕ) → all (λ other. tell_apart f other.form) productions ≡ true
    → k < length productions → tell_apart f (get_or (map (λ p. p.form) productions) k []) ≡ true
unfolding all
form-differs f [] k h i = absurd (omega arith)
form-differs f (production ∷ rest) zero h i = and_l (tell_apart f production.form) (all (λ other. tell_apart f other.form) rest) h
form-differs f (production ∷ rest) (suc k) h i = form-differs f rest k (and_r (tell_apart f production.form) (all (λ other. tell_apart f other.form) rest) h) (omega arith)

pub apart-unambiguous : {A : Type 0} (productions : List (Production A)) → apart productions ≡ true → Unambiguous productions
unfolding Unambiguous apart
apart-unambiguous [] h i j l m s ms ns p q = absurd (omega arith)
apart-unambiguous (production ∷ rest) h zero zero l m s ms ns p q = refl
apart-unambiguous (production ∷ rest) h zero (suc j) l m s ms ns p q =
    none-some (apart_none production.form (get_or (map (λ p. p.form) rest) j []) s (form-differs production.form rest j (and_l _ (apart rest) h) (omega arith)) q) p
apart-unambiguous (production ∷ rest) h (suc i) zero l m s ms ns p q =
    none-some (apart_none production.form (get_or (map (λ p. p.form) rest) i []) s (form-differs production.form rest i (and_l _ (apart rest) h) (omega arith)) p) q
apart-unambiguous (production ∷ rest) h (suc i) (suc j) l m s ms ns p q =
    ap suc (apart-unambiguous rest (and_r (all (λ other. tell_apart production.form other.form) rest) (apart rest) h) i j (omega arith) (omega arith) s ms ns p q)

-- whatever comes before it
pub parse-has : {A : Type 0} (refuse : Refusal → A) (production : Production A) (productions : List (Production A)) (s ns : List ℕ)
    → apart productions ≡ true → Has production productions → taken production.form s ≡ some ns → parse refuse productions s ≡ meant refuse production.meaning (some ns) (refuse NotInForm)
unfolding apart parse
parse-has refuse production [] s ns h m e = absurd m
parse-has refuse production (other ∷ rest) s ns h (inl q) e = rw (← q, e)
parse-has refuse production (other ∷ rest) s ns h (inr m) e =
    let d : tell_apart other.form production.form ≡ true =
    all-has (λ o. tell_apart other.form o.form) rest (and_l (all (λ o. tell_apart other.form o.form) rest) (apart rest) h) production m in
    rw (apart_none other.form production.form s d e)
    (parse-has refuse production rest s ns (and_r (all (λ o. tell_apart other.form o.form) rest) (apart rest) h) m e)

-- no production takes a text, or it means what one of them has
pub parse-by : {A P : Type 0} (refuse : Refusal → A) (productions : List (Production A)) (s : List ℕ) → (parse refuse productions s ≡ refuse NotInForm → P)
    → ((production : Production A) (ns : List ℕ) → Has production productions → taken production.form s ≡ some ns
    → parse refuse productions s ≡ meant refuse production.meaning (some ns) (refuse NotInForm) → P)
    → P
unfolding parse
parse-by refuse [] s f g = f refl
parse-by {A} {P} refuse (production ∷ rest) s f g = go (taken production.form s) refl (parse-by refuse rest s)
  where
    go : (o : Option (List ℕ)) → taken production.form s ≡ o
        → ((parse refuse rest s ≡ refuse NotInForm → P)
        → ((p : Production A) (ns : List ℕ) → Has p rest → taken p.form s ≡ some ns → parse refuse rest s ≡ meant refuse p.meaning (some ns) (refuse NotInForm) → P)
        → P)
        → P
    go none e again = again (λ q. f (rw e q)) (λ p ns m t q. g p ns (inr m) t (rw e q))
    go (some ns) e again = g production ns (inl refl) e (rw e)
