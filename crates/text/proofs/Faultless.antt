-- Rows that were read without fault in a manner, and one row more. Assumes nothing.
use mathlib.Core.Path.{◌≡◌, refl, ◌∙◌}
use mathlib.Core.List.{[], ◌∷◌, ◌++◌, append_assoc, append-nil}
use Prim.Native.Nat.{ℕ}
use Rattle.record_rows.specs.row.Row.{Row}
use Rattle.record_rows.specs.grounds.Ground.{Rows, first_fault}
use Rattle.record_rows.proofs.grounds.Grounds.{Clean, clean, clean_is, orelse-none, orelse-second}
use Rattle.text.specs.Text.{Manner, rows_number}

-- one row more is no fault of a table that has none
clean-more : (f : Rows → Row → ℕ) (above t : Rows) (row : Row) → Clean f above t → f (above ++ t) row ≡ 0 → Clean f above (t ++ (row ∷ []))
clean-more f above [] row c h = (rw append-nil at h, tt)
clean-more f above (r ∷ t) row c h = (c.0, clean-more f (above ++ (r ∷ [])) t row c.1 (rw append_assoc h))

module _ (M : Manner) where
  abbrev pub EditsClean : Rows → Rows → Type 0
  EditsClean above t = Clean (λ above row. M.edit_number above [] row) above t

  abbrev pub ConstraintsClean : Rows → Rows → Rows → Type 0
  ConstraintsClean edits above t = Clean (λ above row. M.constraint_number edits above row) above t

  pub none-faulty : rows_number M [] [] ≡ 0
  unfolding rows_number first_fault
  none-faulty = refl

  module _ (edits constraints : Rows) where
    pub rows-clean : rows_number M edits constraints ≡ 0 → EditsClean [] edits × ConstraintsClean edits [] constraints
    unfolding rows_number
    rows-clean h =
        let p = orelse-none (first_fault (λ above row. M.edit_number above [] row) [] edits) (first_fault (λ above row. M.constraint_number edits above row) [] constraints) h in
        (clean (λ above row. M.edit_number above [] row) [] edits p.0, clean (λ above row. M.constraint_number edits above row) [] constraints p.1)

    pub clean-rows : EditsClean [] edits → ConstraintsClean edits [] constraints → rows_number M edits constraints ≡ 0
    unfolding rows_number
    clean-rows a b =
        orelse-second (first_fault (λ above row. M.edit_number above [] row) [] edits) (first_fault (λ above row. M.constraint_number edits above row) [] constraints) (clean_is (λ above row. M.edit_number above [] row) [] edits a)
        ∙ clean_is (λ above row. M.constraint_number edits above row) [] constraints b

  pub edit-more : (edits : Rows) (row : Row) → rows_number M edits [] ≡ 0 → M.edit_number edits [] row ≡ 0 → rows_number M (edits ++ (row ∷ [])) [] ≡ 0
  edit-more edits row h e =
      clean-rows (edits ++ (row ∷ [])) [] (clean-more (λ above row. M.edit_number above [] row) [] edits row (rows-clean edits [] h).0 e) tt

  pub constraint-more : (edits constraints : Rows) (row : Row) → rows_number M edits constraints ≡ 0 → M.constraint_number edits constraints row ≡ 0 → rows_number M edits (constraints ++ (row ∷ [])) ≡ 0
  constraint-more edits constraints row h e =
      let c = rows-clean edits constraints h in
      clean-rows edits (constraints ++ (row ∷ [])) c.0 (clean-more (λ above row. M.constraint_number edits above row) [] constraints row c.1 e)
