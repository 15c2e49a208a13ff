-- The call log: a grammar is a list of productions, each a form and what its numbers mean. Assumes nothing.
use Rattle.std.specs.Prelude.{ℕ, ◌<◌, ◌≡◌, cond, List, [], ◌∷◌, ◌++◌, map, length, get_or}
use Prim.Native.String.{String}
use Rattle.std.proofs.Math.Option.{Option, none, some}
use Rattle.lists.specs.Lists.{all}
use Rattle.text_forms.specs.Spelling.{bytes}
use Rattle.text_forms.specs.Form.{taken}
use Rattle.refusals.specs.declared.Refusal.{Refusal}
use Rattle.refusals.specs.declared.Refusal.TheVariants.{NotInForm, OutOfRange}
use Rattle.text_lines.specs.Line.{fits_word}

pub record Production (A : Type 0) : Type 0 where
  pub form : List ℕ
  -- it is told each number of the form by its place, from 0
  pub meaning : (ℕ → ℕ) → A

-- a quoted line without its end, and what it means
infix 68 ◌means◌
abbrev pub ◌means◌ : {A : Type 0} → String → ((ℕ → ℕ) → A) → Production A
text means meaning = record { form = bytes text ++ (10 ∷ []); meaning = meaning }

-- the meaning of the numbers with which a form takes a text; out of range where one does not fit 32 bits
abbrev pub meant : {A : Type 0} → (Refusal → A) → ((ℕ → ℕ) → A) → Option (List ℕ) → A → A
meant refuse meaning none other = other
meant refuse meaning (some ns) other = cond (all fits_word ns) (meaning (λ k. get_or ns k 0)) (refuse OutOfRange)

-- the first production whose form takes the text; not in form where none does
unfoldable pub parse : {A : Type 0} → (Refusal → A) → List (Production A) → List ℕ → A
parse refuse [] s = refuse NotInForm
parse refuse (production ∷ rest) s = meant refuse production.meaning (taken production.form s) (parse refuse rest s)

-- no text is taken by the forms of two productions
unfoldable pub Unambiguous : {A : Type 0} → List (Production A) → Type 0
Unambiguous productions =
    (i j : ℕ) → i < length productions → j < length productions → (s ms ns : List ℕ)
    → taken (get_or (map (λ p. p.form) productions) i []) s ≡ some ms → taken (get_or (map (λ p. p.form) productions) j []) s ≡ some ns → i ≡ j
