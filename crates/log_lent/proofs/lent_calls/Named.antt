-- What two edits of a record suggest, found by their names. Assumes nothing.
use mathlib.Core.Path.{◌≡◌, refl, sym, ap, ◌∙◌}
use mathlib.Core.Bool.{true, false, cond}
use mathlib.Core.List.{List, [], ◌∷◌, map}
use Prim.Native.Nat.{ℕ, ◌≤◌, ◌<◌}
use native.Mathlib.Omega.{arith}
use lib.Dec.{eqb, ltb}
use lib.ListN.{length, get_or, length-map}
use borrow.Author.Tests.{lt-ltb, le-ltb}
use Rattle.record.specs.declared.Edit.{Edit}
use Rattle.lists.specs.Lists.{mem, index_of, ◌among◌}
use Rattle.record.specs.Record.{Record, name_of, written}
use Rattle.record.specs.Stored.{filler_edit, edit_named}
use Rattle.lists.proofs.Lists.{by, clash, mem_index}
use Rattle.lists.proofs.Arrays.{get_or-any}
use Rattle.record_rows.specs.row.Row.{Row, is_name, edit_row}
use Rattle.record_rows.proofs.row.Cells.{name-taken, name-refused}
use Rattle.std.specs.Prelude.{Option, Some, None, is_some, unwrap_or, ok_or, Result, Ok, Err}
use Rattle.judgement.proofs.lent_edit.Asked.{missing-refused}
use Rattle.refusals.specs.declared.Refusal.{Refusal}
use Rattle.refusals.specs.declared.Refusal.TheVariants.{OutOfRange, Unknown}
use Rattle.refusals.specs.Numbers.{number, Gives}
use Rattle.record_tables.specs.Checked.{known_place}
use Rattle.suggestions.specs.declared.Suggested.{Suggested}
use Rattle.suggestions.specs.Suggest.{suggested}
use Rattle.suggestions.proofs.Advised.{suggested-gives}
use Rattle.log_commands.specs.declared.Suggesting.{Suggesting}
use Rattle.log_lent.specs.lent_calls.Calls.{suggest_fault, suggestion_fault, suggested_rules_in}
use Rattle.log_lent.specs.lent_calls.Named.{row_known}

pub at_named : (l : List Edit) (x : ℕ) → x among map name_of l → get_or l (index_of x (map name_of l)) filler_edit ≡ edit_named l x
unfolding index_of mem edit_named
at_named [] x m = absurd (let z : ◌≡◌ {A = ℕ} 0 1 = cc in omega arith)
at_named (e ∷ l) x m = by (eqb x e.name) (λ (q : eqb x e.name ≡ true). rw q refl) (λ (q : eqb x e.name ≡ false). rw q (at_named l x (rw q at m)))

-- the row of the edit of a name, by the place that the record has for it
module _ (R : Record) (x : ℕ) {o : Option ℕ} (e : o ≡ known_place x (written R)) where
  pub unknown-row : o ≡ None → {r : Option Row} → r ≡ None → r ≡ row_known R x
  unfolding row_known
  unknown-row n h = by (mem x (written R)) (λ (m : mem x (written R) ≡ true). clash (ap is_some (rw m at e)) (ap is_some n)) (λ (m : mem x (written R) ≡ false). rw m h)

  module _ {place : ℕ} (p : o ≡ Some place) {edits : List Edit} (held : edits ≡ R.edits) where
    known : mem x (written R) ≡ true
    known = by (mem x (written R)) (λ m. m) (λ (m : mem x (written R) ≡ false). clash (ap is_some p) (ap is_some (rw m at e)))

    place-is : place ≡ index_of x (written R)
    place-is = ap (λ (q : Option ℕ). unwrap_or q 0) (sym p ∙ (rw known at e))

    within : place < length R.edits
    unfolding written
    within = let a : index_of x (written R) < length (map name_of R.edits) = mem_index x (written R) known in let b : length (map name_of R.edits) ≡ length R.edits = length-map R.edits name_of in omega (arith, place-is)

    pub not-beyond {ℓ} : {P : Type ℓ} → false ≡ ltb place (length edits) → P
    not-beyond f = clash (lt-ltb place (length edits) (rw held within)) (sym f)

    pub known-row : {edit : Edit} {row : Row} → edit ≡ get_or edits place edit → row ≡ edit_row edit → Some row ≡ row_known R x
    unfolding row_known written
    known-row {edit} {row} g r =
        let a : edit ≡ get_or R.edits place edit = rw held at g in
        let b = get_or-any R.edits place edit filler_edit within in
        let c = ap (λ (i : ℕ). get_or R.edits i filler_edit) place-is in
        rw known (ap Some (r ∙ ap edit_row (a ∙ b ∙ c ∙ at_named R.edits x known)))

-- what the row of the edit of a name tells
module _ (R : Record) (x : ℕ) where
  none-known : row_known R x ≡ None → mem x (written R) ≡ false
  unfolding row_known
  none-known n = by (mem x (written R)) (λ (m : mem x (written R) ≡ true). clash refl (ap is_some (rw m at n))) (λ m. m)

  some-known : {row : Row} → row_known R x ≡ Some row → mem x (written R) ≡ true
  unfolding row_known
  some-known s = by (mem x (written R)) (λ m. m) (λ (m : mem x (written R) ≡ false). clash refl (sym (ap is_some (rw m at s))))

  named-row-is : {row : Row} → row_known R x ≡ Some row → row ≡ edit_row (edit_named R.edits x)
  unfolding row_known
  named-row-is {row} s = let m = some-known s in sym (ap (λ (q : Option Row). unwrap_or q []) (rw m at s))

-- of two names what the code tells: that they are names, and the rows that the record has for them
module _ (R : Record) (asked : Suggesting) where
  pub first-unnamed : {r : Refusal} → Err r ≡ cond (is_name asked.first) (Ok asked.first) (Err OutOfRange) → number r ≡ suggestion_fault R asked
  unfolding suggestion_fault suggest_fault
  first-unnamed p = let n = name-refused asked.first p in rw (n.1, n.0) refl

  module _ {x : ℕ} (p : Ok x ≡ cond (is_name asked.first) (Ok asked.first) (Err OutOfRange)) where
    a : (is_name asked.first ≡ true) × (x ≡ asked.first)
    a = name-taken asked.first p

    pub second-unnamed : {r : Refusal} → Err r ≡ cond (is_name asked.second) (Ok asked.second) (Err OutOfRange) → number r ≡ suggestion_fault R asked
    unfolding suggestion_fault suggest_fault
    second-unnamed q = let n = name-refused asked.second q in rw (n.1, a.0, n.0) refl

    module _ {y : ℕ} (q : Ok y ≡ cond (is_name asked.second) (Ok asked.second) (Err OutOfRange)) where
      b : (is_name asked.second ≡ true) × (y ≡ asked.second)
      b = name-taken asked.second q

      pub no-case : 1 < asked.case → 2 ≡ suggestion_fault R asked
      unfolding suggestion_fault suggest_fault
      no-case h = let e : ltb asked.case 2 ≡ false = le-ltb asked.case 2 (omega arith) in rw (a.0, b.0, e) refl

      module _ (h : asked.case ≤ 1) {o : Option Row} (e : o ≡ row_known R x) where
        fine : ltb asked.case 2 ≡ true
        fine = lt-ltb asked.case 2 (omega arith)

        pub first-unknown : {r : Refusal} → ◌≡◌ {A = Result Row Refusal} (Err r) (ok_or o Unknown) → number r ≡ suggestion_fault R asked
        unfolding suggestion_fault suggest_fault
        first-unknown {r} w =
            let u = missing-refused Unknown o r w in
            let m = rw a.1 at (none-known R x (sym e ∙ u.1)) in
            rw (a.0, b.0, fine, m) u.0

        module _ {row : Row} (s : o ≡ Some row) {other : Option Row} (f : other ≡ row_known R y) where
          c : mem asked.first (written R) ≡ true
          c = rw a.1 at (some-known R x (sym e ∙ s))

          pub second-unknown : {r : Refusal} → ◌≡◌ {A = Result Row Refusal} (Err r) (ok_or other Unknown) → number r ≡ suggestion_fault R asked
          unfolding suggestion_fault suggest_fault
          second-unknown {r} w =
              let u = missing-refused Unknown other r w in
              let m = rw b.1 at (none-known R y (sym f ∙ u.1)) in
              rw (a.0, b.0, fine, c, m) u.0

          pub both-named : {next : Row} → other ≡ Some next → (r : Result Suggested Refusal) → r ≡ suggested row next asked.case
              → Gives (suggestion_fault R asked) (suggested_rules_in R asked) r
          unfolding suggestion_fault suggest_fault suggested_rules_in
          both-named {next} t r g =
              let d : mem asked.second (written R) ≡ true = rw b.1 at (some-known R y (sym f ∙ t)) in
              let u = rw a.1 at (named-row-is R x (sym e ∙ s)) in
              let v = rw b.1 at (named-row-is R y (sym f ∙ t)) in
              rw (a.0, b.0, fine, c, d) (rw (u, v) at (suggested-gives row next asked.case g))
