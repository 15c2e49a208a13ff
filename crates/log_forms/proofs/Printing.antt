-- Texts printed one after the other, into a buffer and by a printer. Assumes nothing.
use mathlib.Core.Path.{◌≡◌, refl, ap, sym, ◌∙◌}
use mathlib.Core.Bool.{true, cond}
use mathlib.Core.List.{List, [], ◌∷◌, ◌++◌, append_assoc, append-nil}
use Prim.Native.Nat.{ℕ, suc, ◌+◌, ◌≤◌, ◌<◌}
use native.Mathlib.Numerals.{add-one}
use native.Mathlib.Nat.{add-zero}
use native.Mathlib.Omega.{arith}
use borrow.Author.Tests.{le-leb, lt-leb}
use lib.Dec.{leb}
use lib.ListN.{length, get_or, take, drop, length-append, length-drop, take-append-drop}
use lib.Seq.{take_all, take-suc, drop-drop, length-take-le}
use Rattle.std.specs.Prelude.{Result}
use Rattle.std.specs.Result.{result_unwrap_or}
use Rattle.lists.proofs.Lists.{by, le-by}
use Rattle.refusals.specs.declared.Refusal.{Refusal}
use Rattle.text_forms.proofs.Filling.{front_of, back-of}
use Rattle.text.specs.Text.{joined_lines}
use Rattle.text_writer.specs.Placed.{fits_at, placed, placing}
use Rattle.log_forms.specs.Printed.{Texts, after_text, Buffer, with_text, with_texts, PrintedInto, Printed, PrintedLines, SameBuffer, SameLine, texts_from}
use Rattle.log_forms.specs.declared.Printer.{Printer}

-- the buffer keeps its size
placed-size : (text : List ℕ) (at : ℕ) (out : List ℕ) → length (placed text at out) ≡ length out
unfolding placed
placed-size text at out =
    le-by (at + length text) (length out)
    (λ h.
    let t : length (take at out) ≡ at = length-take-le at out (omega arith) in
    rw (le-leb (at + length text) (length out) h, length-append, length-append, length-drop, t) (omega arith))
    (λ h. rw (lt-leb (at + length text) (length out) h) refl)

-- a text that was placed where it fits, and the place after it
pub text-printed : (text : List ℕ) (p : Printer) {w : Result ℕ Refusal} {bytes : List ℕ} → w ≡ placing text p.at p.out.now → bytes ≡ placed text p.at p.out.now
    → Printed (text ∷ []) p (after_text w (record p { out = record p.out { now = bytes } }))
unfolding with_texts with_text placing
text-printed text p {w} {bytes} e b =
    let size : length bytes ≡ length p.out.now = ap length b ∙ placed-size text p.at p.out.now in
    let q : result_unwrap_or w (suc (length bytes)) ≡ cond (fits_at text p.at p.out.now) (p.at + length text) (suc (length p.out.now)) =
    rw (e, size) (by (fits_at text p.at p.out.now) (λ h. rw h refl) (λ h. rw h refl)) in
    record { into = record { buffer = λ i. record { bytes = b i; place = q i } }; line = refl; same_reference = refl }

-- the texts of a printing may be said by equal ones
pub printed-as : {texts other : Texts} {before after : Printer} → texts ≡ other → Printed texts before after → Printed other before after
printed-as e p = rw (← e) p

pub printed-nothing : (p : Printer) → Printed [] p p
unfolding with_texts
printed-nothing p = record { into = record { buffer = refl }; line = refl; same_reference = refl }

-- some texts after others
texts-both : (b : Buffer) (s t : Texts) → with_texts b (s ++ t) ≡ with_texts (with_texts b s) t
unfolding with_texts
texts-both b [] t = refl
texts-both b (x ∷ s) t = texts-both (with_text b x) s t

pub into-both : {s t : Texts} {before : List ℕ} {at : ℕ} {middle after : List ℕ} {place end : ℕ}
    → PrintedInto s before at middle place → PrintedInto t middle place after end → PrintedInto (s ++ t) before at after end
into-both {s} {t} {before} {at} p q =
    record { buffer = q.buffer ∙ ap (λ (b : Buffer). with_texts b t) p.buffer ∙ sym (texts-both (record { bytes = before; place = at }) s t) }

pub printed-both : {s t : Texts} {before middle after : Printer} → Printed s before middle → Printed t middle after → Printed (s ++ t) before after
printed-both p q = record { into = into-both p.into q.into; line = q.line ∙ p.line; same_reference = q.same_reference ∙ p.same_reference }

-- the texts of one line after those of the lines before it
pub lines-first : (p : Printer) → PrintedLines [] p p
lines-first p = let q = printed-nothing p in record { into = q.into; same_reference = refl }

pub lines-next : {s t : Texts} {before middle after : Printer} {n : ℕ} → PrintedLines s before middle → Printed t (record middle { line = n }) after → PrintedLines (s ++ t) before after
lines-next p q = record { into = into-both p.into q.into; same_reference = q.same_reference ∙ p.same_reference }

-- the buffer keeps its size
pub texts-size : (b : Buffer) (texts : Texts) → length (with_texts b texts).bytes ≡ length b.bytes
unfolding with_texts with_text
texts-size b [] = refl
texts-size b (x ∷ texts) = texts-size (with_text b x) texts ∙ placed-size x b.place b.bytes

pub printed-length : {texts : Texts} {before : List ℕ} {at : ℕ} {after : List ℕ} {end : ℕ} → PrintedInto texts before at after end → length after ≡ length before
printed-length {texts} {before} {at} p = ap (λ (b : Buffer). length b.bytes) p.buffer ∙ texts-size (record { bytes = before; place = at }) texts

-- the same buffer, and the same line
pub buffer_here : (p : Printer) → SameBuffer p p
buffer_here p = record { same_reference = refl; room = refl }

pub buffer_both : {before middle after : Printer} → SameBuffer before middle → SameBuffer middle after → SameBuffer before after
buffer_both p q = record { same_reference = q.same_reference ∙ p.same_reference; room = q.room ∙ p.room }

-- a line more, after those before it
pub buffer_next : {before middle after : Printer} {n : ℕ} → SameBuffer before middle → SameBuffer (record middle { line = n }) after → SameBuffer before after
buffer_next p q = record { same_reference = q.same_reference ∙ p.same_reference; room = q.room ∙ p.room }

pub same_here : (p : Printer) → SameLine p p
same_here p = record { buffer = buffer_here p; line = refl }

pub same_printed : {texts : Texts} {before after : Printer} → Printed texts before after → SameLine before after
same_printed p = record { buffer = record { same_reference = p.same_reference; room = printed-length p.into }; line = p.line }

pub same_both : {before middle after : Printer} → SameLine before middle → SameLine middle after → SameLine before after
same_both p q = record { buffer = buffer_both p.buffer q.buffer; line = q.line ∙ p.line }

-- where all texts fit, they stand there as one
both_bytes : (s t before middle : List ℕ) (at : ℕ) → at + length s ≤ length before → middle ≡ take at before ++ (s ++ drop (at + length s) before)
    → take (at + length s) middle ++ (t ++ drop (at + length s + length t) middle) ≡ take at before ++ ((s ++ t) ++ drop (at + length (s ++ t)) before)
both_bytes s t before middle at h e =
    let l : length (take at before) ≡ at = length-take-le at before (omega arith) in
    let n : at + length (s ++ t) ≡ (at + length s) + length t = omega (arith, length-append s t) in
    let rest = drop (at + length s) before in
    let a : take (at + length s) middle ≡ take at before ++ s =
    ap (take (at + length s)) e ∙ front_of at (take at before) s rest l in
    let d : drop (at + length s) middle ≡ rest =
    ap (drop (at + length s)) e ∙ back-of at (take at before) s rest l in
    let b : drop ((at + length s) + length t) middle ≡ drop (at + length (s ++ t)) before =
    sym (drop-drop (length t) (at + length s) middle) ∙ ap (drop (length t)) d ∙ drop-drop (length t) (at + length s) before ∙ ap (λ (k : ℕ). drop k before) (sym n) in
    rw (a, b, append_assoc, append_assoc)

-- a text that fits
there : List ℕ → List ℕ → ℕ → Buffer
there text before at = record { bytes = take at before ++ (text ++ drop (at + length text) before); place = at + length text }

text-there : (text before : List ℕ) (at : ℕ) → at + length text ≤ length before → with_text (record { bytes = before; place = at }) text ≡ there text before at
unfolding with_text placed there
text-there text before at h = let q : leb (at + length text) (length before) ≡ true = le-leb (at + length text) (length before) h in rw q refl

texts-there : (texts : Texts) (before : List ℕ) (at : ℕ) → at + length (joined_lines texts) ≤ length before → with_texts (record { bytes = before; place = at }) texts ≡ there (joined_lines texts) before at
unfolding with_texts with_text joined_lines there
texts-there [] before at h =
    let e : at + 0 ≡ at = omega arith in
    λ i. record { bytes = (sym (take-append-drop at before) ∙ ap (λ (k : ℕ). take at before ++ drop k before) (sym e)) i; place = sym e i }
texts-there (x ∷ texts) before at h =
    let n : length (x ++ joined_lines texts) ≡ length x + length (joined_lines texts) = length-append x (joined_lines texts) in
    let f : at + length x ≤ length before = omega arith in
    let middle = take at before ++ (x ++ drop (at + length x) before) in
    let s : length middle ≡ length before = ap length (sym (ap (λ (b : Buffer). b.bytes) (text-there x before at f))) ∙ placed-size x at before in
    let q = texts-there texts middle (at + length x) (omega arith) in
    let m : at + length (x ++ joined_lines texts) ≡ at + length x + length (joined_lines texts) = omega arith in
    ap (λ (b : Buffer). with_texts b texts) (text-there x before at f) ∙ q
    ∙ (λ i. record { bytes = both_bytes x (joined_lines texts) before middle at f refl i; place = sym m i })

-- where they do not, the place is one past the end
texts-over : (b : Buffer) (texts : Texts) → b.place ≤ suc (length b.bytes) → length b.bytes < b.place + length (joined_lines texts) → (with_texts b texts).place ≡ suc (length b.bytes)
unfolding with_texts with_text joined_lines
texts-over b [] n h = omega arith
texts-over b (x ∷ texts) n h =
    let s = placed-size x b.place b.bytes in
    let l : length (x ++ joined_lines texts) ≡ length x + length (joined_lines texts) = length-append x (joined_lines texts) in
    le-by (b.place + length x) (length b.bytes)
    (λ f.
    let p : (with_text b x).place ≡ b.place + length x = rw (le-leb (b.place + length x) (length b.bytes) f) refl in
    texts-over (with_text b x) texts (omega arith) (omega arith) ∙ ap suc s)
    (λ f.
    let p : (with_text b x).place ≡ suc (length b.bytes) = rw (lt-leb (b.place + length x) (length b.bytes) f) refl in
    texts-over (with_text b x) texts (omega arith) (omega arith) ∙ ap suc s)

module _ {texts : Texts} {before : List ℕ} {at : ℕ} {after : List ℕ} {end : ℕ} (p : PrintedInto texts before at after end) where
  pub printed-whole : at + length (joined_lines texts) ≤ length before
      → (end ≡ at + length (joined_lines texts)) × (after ≡ take at before ++ (joined_lines texts ++ drop (at + length (joined_lines texts)) before))
  unfolding there
  printed-whole h =
      let e = p.buffer ∙ texts-there texts before at h in
      (ap (λ (b : Buffer). b.place) e, ap (λ (b : Buffer). b.bytes) e)

  pub printed-short : at ≤ suc (length before) → length before < at + length (joined_lines texts) → end ≡ suc (length before)
  printed-short n h = ap (λ (b : Buffer). b.place) p.buffer ∙ texts-over (record { bytes = before; place = at }) texts n h

-- a loop that prints the texts of each of the first n elements
module _ {A : Type 0} (text : ℕ → A → Texts) where
  texts-append : (k : ℕ) (s t : List A) → texts_from text k (s ++ t) ≡ texts_from text k s ++ texts_from text (k + length s) t
  unfolding texts_from
  texts-append k [] t = rw add-zero
  texts-append k (x ∷ s) t =
      let e : suc k + length s ≡ k + suc (length s) = omega arith in
      ap (λ (l : Texts). text k x ++ l) (texts-append (suc k) s t ∙ rw e) ∙ sym (append_assoc (text k x) (texts_from text (suc k) s) (texts_from text (k + suc (length s)) t))

  texts-next : (k : ℕ) (a : List A) (i : ℕ) (d : A) → i < length a
      → texts_from text k (take (i + 1) a) ≡ texts_from text k (take i a) ++ text (k + i) (get_or a i d)
  unfolding texts_from
  texts-next k a i d h =
      let l : length (take i a) ≡ i = length-take-le i a (omega arith) in
      rw (add-one, take-suc a i d h, texts-append k (take i a) (get_or a i d ∷ []), l, append-nil)

  module _ (k : ℕ) (a : List A) where
    -- the first i elements are printed
    abbrev pub PrintedTo : ℕ → Printer → Printer → Type 0
    PrintedTo i before after = Printed (texts_from text k (take i a)) before after

    pub printed-first : (p : Printer) → PrintedTo 0 p p
    unfolding texts_from
    printed-first p = printed-nothing p

    pub printed-next : {before middle after : Printer} {i : ℕ} (d : A) (j : ℕ) → j ≡ k + i → i < length a → PrintedTo i before middle
        → Printed (text j (get_or a i d)) middle after → PrintedTo (i + 1) before after
    printed-next {i = i} d j e h w p = rw (texts-next k a i d h, ← e) (printed-both w p)

    pub printed-last : {before after : Printer} (i : ℕ) → length a ≤ i → PrintedTo i before after → Printed (texts_from text k a) before after
    printed-last i h w = rw (take_all i a h) at w
