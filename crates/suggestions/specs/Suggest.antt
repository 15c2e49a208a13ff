-- Document 01, "Suggested constraints" (002, tables 2 and 3), as document 02, A1, changes it. Assumes nothing.
use Rattle.std.specs.Prelude.{ℕ, zero, suc, min, max, Bool, true, false, cond, not, ◌&&◌, List, [], ◌∷◌, ltb, eqb, Result, Ok, Err}
use Rattle.refusals.specs.declared.Refusal.{Refusal}
use Rattle.refusals.specs.declared.Refusal.TheVariants.{OutOfRange}
use Rattle.record.specs.declared.Field.{Field}
use Rattle.record.specs.declared.Body.{Body}
use Rattle.record.specs.declared.Body.TheVariants.{Insert, Set, Remove}
use Rattle.record.specs.declared.Edit.{Edit}
use Rattle.record.specs.Record.{place_of}
use Rattle.record_rows.specs.row.Row.{Row, name_cell, edit_in_range, edit_of, field_number}
use Rattle.suggestions.specs.declared.Advice.{Advice}
use Rattle.suggestions.specs.declared.Advice.TheVariants.{Nothing, Notafter, NotafterEnables, Noncommuting}
use Rattle.suggestions.specs.declared.Suggested.{Suggested}
use Rattle.suggestions.specs.declared.Suggested.TheVariants as suggests
use Rattle.suggestions.specs.declared.Suggested.TheVariants.{One, Two}

-- whether two fields are one
abbrev pub one_field : Field → Field → Bool
one_field f g = eqb (field_number f) (field_number g)

-- The rules as tables: what A does, and what B does.
-- B after A by one author
unfoldable pub after_table : Body → Body → Advice
after_table (Insert p) (Insert q) = Nothing
after_table (Insert p) (Set q g w) = NotafterEnables
after_table (Insert p) (Remove q) = NotafterEnables
after_table (Set p f v) (Insert q) = Nothing
after_table (Set p f v) (Set q g w) = cond (one_field f g) Notafter Nothing
after_table (Set p f v) (Remove q) = Nothing
after_table (Remove p) (Insert q) = Notafter
after_table (Remove p) (Set q g w) = Nothing
after_table (Remove p) (Remove q) = Nothing

-- concurrent: whether they are noncommuting; the rows of A1 are remove and insert, and remove and set of any field
unfoldable pub concurrent_table : Body → Body → Bool
concurrent_table (Insert p) (Insert q) = true
concurrent_table (Insert p) (Set q g w) = false
concurrent_table (Insert p) (Remove q) = true  -- A1
concurrent_table (Set p f v) (Insert q) = false
concurrent_table (Set p f v) (Set q g w) = one_field f g
concurrent_table (Set p f v) (Remove q) = true  -- A1
concurrent_table (Remove p) (Insert q) = true  -- A1
concurrent_table (Remove p) (Set q g w) = true  -- A1
concurrent_table (Remove p) (Remove q) = false

-- the rows for the names a and b, in table order; a noncommuting pair has the lower name on the left
abbrev pub rows_of : Advice → ℕ → ℕ → List Row
rows_of Nothing a b = []
rows_of Notafter a b = (a ∷ 0 ∷ b ∷ []) ∷ []
rows_of NotafterEnables a b = (a ∷ 0 ∷ b ∷ []) ∷ (a ∷ 1 ∷ b ∷ []) ∷ []
rows_of Noncommuting a b = (min a b ∷ 2 ∷ max a b ∷ []) ∷ []

-- case 0: B after A; 1: concurrent
unfoldable pub advice_of : ℕ → Body → Body → Advice
advice_of zero a b = after_table a b
advice_of (suc n) a b = cond (concurrent_table a b) Noncommuting Nothing

-- two edits of one place and different names
unfoldable pub advised : ℕ → Edit → Edit → Advice
advised kind a b = cond (not (eqb a.name b.name) && eqb (place_of a.body) (place_of b.body)) (advice_of kind a.body b.body) Nothing

-- rows as they are given, and given rows as a list
abbrev pub given : List Row → Suggested
given [] = suggests.Nothing
given (row ∷ []) = One row
given (row ∷ next ∷ rest) = Two row next

abbrev pub rules_of : Suggested → List Row
rules_of suggests.Nothing = []
rules_of (One row) = row ∷ []
rules_of (Two row next) = row ∷ next ∷ []

-- 2: a number outside its range
unfoldable pub pair_fault : Row → Row → ℕ → ℕ
pair_fault a b kind = cond (edit_in_range a && (edit_in_range b && ltb kind 2)) 0 2

-- the rows that are given where nothing is refused
unfoldable pub suggested_rules : Row → Row → ℕ → Suggested
suggested_rules a b kind = given (rows_of (advised kind (edit_of a) (edit_of b)) (name_cell a) (name_cell b))

-- the answer
unfoldable pub suggested : Row → Row → ℕ → Result Suggested Refusal
suggested a b kind = cond (edit_in_range a && (edit_in_range b && ltb kind 2)) (Ok (suggested_rules a b kind)) (Err OutOfRange)
