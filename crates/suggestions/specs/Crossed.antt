-- Document 02, A1: document 01's table of concurrent edits, and the pairs that moved. Assumes nothing.
use Rattle.std.specs.Prelude.{Bool, true, false, cond, not}
use Rattle.record.specs.declared.Body.{Body}
use Rattle.record.specs.declared.Body.TheVariants.{Insert, Set, Remove}
use Rattle.suggestions.specs.Suggest.{one_field}

-- document 01's table, as it stood before the request
unfoldable pub former_table : Body → Body → Bool
former_table (Insert p) (Insert q) = true
former_table (Insert p) (Set q g w) = false
former_table (Insert p) (Remove q) = false
former_table (Set p f v) (Insert q) = false
former_table (Set p f v) (Set q g w) = one_field f g
former_table (Set p f v) (Remove q) = false
former_table (Remove p) (Insert q) = false
former_table (Remove p) (Set q g w) = false
former_table (Remove p) (Remove q) = false

unfoldable pub removes : Body → Bool
removes (Insert p) = false
removes (Set p f v) = false
removes (Remove p) = true

-- the two pairs, whichever edit is named first: one of the edits removes and the other does not
unfoldable pub crossed : Body → Body → Bool
crossed a b = cond (removes a) (not (removes b)) (removes b)
