-- The laws that the writers of lines cite. Assumes nothing.
use Prim.Native.Nat.{ℕ, zero, suc, ◌+◌, ◌≤◌}
use mathlib.Core.Path.{◌≡◌}
use mathlib.Core.Logic.{◌≢◌}
use mathlib.Core.List.{List, [], ◌∷◌, ◌++◌, append_assoc}
use native.Mathlib.Omega.{arith}
use lib.ListN.{length, get_or, length-append}
use Rattle.text_forms.specs.decimal.Decimal.{decimal}
use Rattle.text_forms.specs.decimal.Written.{Written}
use Rattle.text_forms.specs.Spelling.{bytes, number_spelling, word_spelling, rule_words, Notation}
use Rattle.text_forms.specs.Form.{is_mark, words_in, spelling_in, fill_in}
use Rattle.text_lines.specs.Line.{edit_form, constraint_form, insert_kind, set_kind, remove_kind, edit_line_in, constraint_line_in}
use Rattle.text_lines.specs.Pieces.{rule_part, unset_pieces, set_pieces, rule_pieces}
use Rattle.text_lines.proofs.Says.{kind_rest}

-- what is said of one text, said of an equal one
module _ (v w : List ℕ) (e : v ≡ w) where
  pub line-length-as : {r : ℕ} → r ≡ length w → r ≡ length v
  line-length-as p = rw e p

  pub line-fits-as : (out : List ℕ) → length v ≤ length out → length w ≤ length out
  line-fits-as out h = rw e at h

  pub line-written-as : (out : List ℕ) {r : ℕ} {after : List ℕ} → Written w out r after → Written v out r after
  line-written-as out p = rw e p

module _ (N : Notation) where
  -- the line of a row in pieces, by its kind
  module _ (row : List ℕ) where
    pub insert-line : get_or row 1 0 ≡ insert_kind → edit_line_in N row ≡ unset_pieces N (bytes " do=insert chip=") (get_or row 0 0) (get_or row 2 0)
    unfolding edit_line_in fill_in edit_form is_mark spelling_in number_spelling bytes
    insert-line e = rw e

    pub set-line : get_or row 1 0 ≡ set_kind → edit_line_in N row ≡ set_pieces N (get_or row 0 0) (get_or row 2 0) (get_or row 3 0) (get_or row 4 0)
    unfolding edit_line_in fill_in edit_form is_mark spelling_in words_in word_spelling number_spelling bytes
    set-line e = rw e

    pub remove-line : get_or row 1 0 ≡ remove_kind → edit_line_in N row ≡ unset_pieces N (bytes " do=remove chip=") (get_or row 0 0) (get_or row 2 0)
    unfolding edit_line_in fill_in edit_form is_mark spelling_in number_spelling bytes
    remove-line e = rw e

    pub no-line : get_or row 1 0 ≢ insert_kind → get_or row 1 0 ≢ set_kind → get_or row 1 0 ≢ remove_kind → edit_line_in N row ≡ []
    unfolding edit_line_in fill_in
    no-line a b c = rw (kind_rest (get_or row 1 0) a b c)

    pub rule-line : constraint_line_in N row ≡ rule_pieces N (get_or row 0 0) (get_or row 1 0) (get_or row 2 0)
    unfolding constraint_line_in fill_in constraint_form is_mark spelling_in words_in word_spelling rule_part bytes
    rule-line =
        let word = get_or rule_words (get_or row 1 0) [] in
        let name = N.names.write (get_or row 2 0) in
        rw (append_assoc word (bytes " right=") name, append_assoc word (bytes " right=" ++ name) (10 ∷ []))

  -- how many bytes the lines take
  module _ (row : List ℕ) where
    pub insert-length : get_or row 1 0 ≡ insert_kind → 22 + length (N.names.write (get_or row 0 0)) + length (decimal (get_or row 2 0)) ≡ length (edit_line_in N row)
    unfolding bytes
    insert-length e = rw (insert-line row e, length-append, length-append, length-append, length-append) (omega arith)

    pub remove-length : get_or row 1 0 ≡ remove_kind → 22 + length (N.names.write (get_or row 0 0)) + length (decimal (get_or row 2 0)) ≡ length (edit_line_in N row)
    unfolding bytes
    remove-length e = rw (remove-line row e, length-append, length-append, length-append, length-append) (omega arith)

    pub set-length : get_or row 1 0 ≡ set_kind
        → 33 + length (N.names.write (get_or row 0 0)) + length (decimal (get_or row 2 0)) + length (get_or N.fields (get_or row 3 0) []) + length (decimal (get_or row 4 0)) ≡ length (edit_line_in N row)
    unfolding bytes
    set-length e = rw (set-line row e, length-append, length-append, length-append, length-append, length-append, length-append, length-append, length-append) (omega arith)

    pub rule-length : 6 + length (N.names.write (get_or row 0 0)) + length (rule_part (get_or row 1 0)) + length (N.names.write (get_or row 2 0)) ≡ length (constraint_line_in N row)
    unfolding bytes
    rule-length = rw (rule-line row, length-append, length-append, length-append, length-append) (omega arith)

-- the words between the names are short
pub rule_part-short : (rule : ℕ) → length (rule_part rule) ≤ 25
unfolding rule_part rule_words bytes
rule_part-short zero = omega arith
rule_part-short (suc zero) = omega arith
rule_part-short (suc (suc zero)) = omega arith
rule_part-short (suc (suc (suc n))) = omega arith
