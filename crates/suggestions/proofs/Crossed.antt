-- Document 02, A1: of document 01's table of concurrent edits just two pairs moved, remove and insert, and remove and set. Assumes nothing.
use mathlib.Core.Path.{◌≡◌, refl, ◌∙◌}
use mathlib.Core.Bool.{true, false, cond}
use mathlib.Core.Logic.{◌≢◌}
use Rattle.std.specs.Prelude.{Ok}
use borrow.Author.Tests.{eq-eqb, ne_eqb}
use Rattle.record.specs.declared.Body.{Body}
use Rattle.record.specs.declared.Body.TheVariants.{Insert, Set, Remove}
use Rattle.record.specs.Record.{place_of}
use Rattle.record_rows.specs.row.Row.{Row, name_cell, edit_in_range, edit_of}
use Rattle.suggestions.specs.Suggest.{concurrent_table, advice_of, advised, rows_of, given, suggested_rules, suggested}
use Rattle.suggestions.specs.Crossed.{former_table, removes, crossed}
use Rattle.suggestions.specs.declared.Advice.TheVariants.{Noncommuting}

-- A crossed pair was not noncommuting and is so now, whatever field is set; of any other pair the two tables say the same.
pub just-crossed-moved : (a b : Body) → (concurrent_table a b ≡ cond (crossed a b) true (former_table a b)) × (former_table a b ≡ cond (crossed a b) false (concurrent_table a b))
unfolding concurrent_table former_table crossed removes
just-crossed-moved (Insert p) (Insert q) = (refl, refl)
just-crossed-moved (Insert p) (Set q g w) = (refl, refl)
just-crossed-moved (Insert p) (Remove q) = (refl, refl)
just-crossed-moved (Set p f v) (Insert q) = (refl, refl)
just-crossed-moved (Set p f v) (Set q g w) = (refl, refl)
just-crossed-moved (Set p f v) (Remove q) = (refl, refl)
just-crossed-moved (Remove p) (Insert q) = (refl, refl)
just-crossed-moved (Remove p) (Set q g w) = (refl, refl)
just-crossed-moved (Remove p) (Remove q) = (refl, refl)

-- The request's sentence, of the answer: of two concurrent edits of one place, one of which removes, the one row is that they are noncommuting.
pub crossed-suggested : (a b : Row) → edit_in_range a ≡ true → edit_in_range b ≡ true → (edit_of a).name ≢ (edit_of b).name → place_of (edit_of a).body ≡ place_of (edit_of b).body → crossed (edit_of a).body (edit_of b).body ≡ true
    → suggested a b 1 ≡ Ok (given (rows_of Noncommuting (name_cell a) (name_cell b)))
unfolding suggested suggested_rules advised advice_of
crossed-suggested a b h k n e x =
    let moved : concurrent_table (edit_of a).body (edit_of b).body ≡ true = (just-crossed-moved (edit_of a).body (edit_of b).body).0 ∙ rw x in
    rw (h, k, ne_eqb (edit_of a).name (edit_of b).name n, eq-eqb (place_of (edit_of a).body) (place_of (edit_of b).body) e, moved)
