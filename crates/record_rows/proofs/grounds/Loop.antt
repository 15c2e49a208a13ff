-- The loop that finds the first faulty row of a table, for tables of any kind. Assumes nothing.
use mathlib.Core.Path.{◌≡◌, refl, ap, sym, ◌∙◌}
use mathlib.Core.Bool.{Bool, true, false, cond, not, ◌&&◌}
use mathlib.Core.List.{List, [], ◌∷◌, map}
use Prim.Native.Nat.{ℕ, zero, suc, ◌+◌, ◌≤◌, ◌<◌}
use native.Mathlib.Omega.{arith}
use lib.Dec.{leb}
use lib.ListN.{length, take, drop, get_or, length-map}
use lib.Seq.{length-take-le}
use Rattle.std.specs.Prelude.{Result, Ok}
use Rattle.std.specs.List.{prefix_len}
use Rattle.std.proofs.lemmas.List.{drop-map}
use Rattle.refusals.specs.declared.Refusal.{Refusal}
use Rattle.refusals.specs.Numbers.{number_of}
use Rattle.lists.specs.Lists.{any, Has}
use Rattle.lists.specs.Keyed.{precedes, Ascending, united}
use Rattle.lists.proofs.Logic.{has-mapped}
use Rattle.record_rows.specs.row.Row.{Row, same}
use Rattle.record_rows.specs.grounds.Ground.{Rows, TableKind, alike, known, no_place, other_body, misplaced, row_fault, first_fault, table_fault, ◌given◌, ◌orelse◌}
use Rattle.record_rows.specs.grounds.Walk.{row_joins, place_fault, PlaceOf}
use Rattle.record_rows.proofs.grounds.Grounds.{scan-here, scan-more, scan-end, orelse-first, orelse-second, orelse-assoc, before-none}
use Rattle.record_rows.proofs.grounds.Walks.{Walk, walk_start, walk-on, place-counted, place-on, row_placed, place-number, place-again}

-- before row i: from rows of the joined table are passed, count places are taken, and the first fault is that of the rest
abbrev pub State : {A : Type 0} → TableKind → (A → Row) → List A → Rows → ℕ → ℕ → ℕ → Type 0
State kind row_of own t from count i =
    Ascending (take kind.key) (map row_of own) → Walk kind.key (map row_of own) t from count i × (table_fault kind (map row_of own) t ≡ first_fault (row_fault kind (map row_of own)) (take i t) (drop i t))

-- a row of a table, whatever stands past its end
pub row-is : (t : Rows) (i : ℕ) {x : Row} → i < length t → x ≡ get_or t i x → x ≡ get_or t i []
row-is [] i h e = absurd (omega (arith, h))
row-is (r ∷ t) zero h e = e
row-is (r ∷ t) (suc i) h e = row-is t i (omega (arith, h)) e

-- a kind of table with the type of its elements, whose rows are all of one width
pub record Elements : Type 1 where
  pub A : Type 0
  pub kind : TableKind
  pub row_of : A → Row
  pub width : ℕ
  pub narrow : kind.key ≤ width
  pub wide : (x : A) → length (row_of x) ≡ width

module _ (K : Elements) where
  abbrev key : ℕ
  key = K.kind.key

  abbrev limit : ℕ
  limit = K.kind.limit

  pub key-wide : (row : Row) → length row ≡ K.width → length (take key row) ≡ key
  key-wide row h = let n : key ≤ K.width = K.narrow in length-take-le key row (omega arith)

  keys-wide : (l : List K.A) (r : Row) → Has r (map K.row_of l) → length (take key r) ≡ key
  keys-wide l r h = has-mapped K.row_of r l h (λ x m e. rw e (key-wide (K.row_of x) (K.wide x)))

  module _ (own : List K.A) where
    abbrev J : Rows
    J = map K.row_of own

    -- the elements that the row passes, from the first on
    abbrev before : Row → K.A → Bool
    before row x = precedes (take key (K.row_of x)) (take key row)

    -- the number of a row out of order
    module _ (row : Row) (long : length row ≡ K.width) (a : Ascending (take key) J) (above : Rows) (count : ℕ) where
      pub late-again : known key row above ≡ true → 0 ≡ place_fault key limit J count above row
      late-again o = sym (place-again key row J limit count above o)

      pub late-once : known key row above ≡ false → (p : ℕ) → p ≡ prefix_len (before row) own → {r : Result Bool Refusal} → r ≡ row_joins key (map K.row_of (drop p own)) row (leb limit count)
          → number_of r ≡ place_fault key limit J count above row
      late-once o p e s =
          let v : PlaceOf key J row p = rw e (place-counted key row K.row_of own) in
          rw (s, ← drop-map K.row_of p own)
          (place-number key row J limit count p above o (row_placed key row J key (keys-wide own) a (key-wide row long) p v (leb limit count)))

    module _ (t : Rows) where
      pub state-start : State K.kind K.row_of own t 0 (length own) 0
      state-start a = let e : length J ≡ length own = length-map own K.row_of in (rw e at (walk_start key J t), refl)

      module _ (from count i : ℕ) (s : State K.kind K.row_of own t from count i) (a : Ascending (take key) J) where
        pub state-end : i ≡ length t → 0 ≡ table_fault K.kind J t
        state-end p = sym ((s a).1 ∙ scan-end (row_fault K.kind J) t i p)

        module _ (h : i < length t) where
          abbrev row : Row
          row = get_or t i []

          abbrev above : Rows
          above = take i t

          stopped : (n : ℕ) → row_fault K.kind J above row ≡ n → (n ≡ 0 → ⊥) → n ≡ table_fault K.kind J t
          stopped n e z = sym ((s a).1 ∙ scan-here (row_fault K.kind J) t i h n e z)

          pub state-outside : K.kind.in_range row ≡ false → 2 ≡ table_fault K.kind J t
          unfolding row_fault
          state-outside e = stopped 2 (rw e) (λ z. omega (arith, z))

          -- a row in order, at its place
          module _ (ordered : misplaced key above row ≡ false) (long : length row ≡ K.width) (q : ℕ) (f : q ≡ prefix_len (before row) (drop from own)) where
            here : PlaceOf key J row (from + q)
            unfolding misplaced
            here =
                let v : PlaceOf key (drop from J) row q = rw (f, drop-map K.row_of from own) (place-counted key row K.row_of (drop from own)) in
                place-on key row J from q (s a).0.near ((s a).0.behind ordered) v

            pub state-place : {r : Result Bool Refusal} → r ≡ row_joins key (map K.row_of (drop (from + q) own)) row (leb limit count) → number_of r ≡ place_fault key limit J count above row
            unfolding misplaced
            state-place e =
                rw (e, ← drop-map K.row_of (from + q) own)
                (place-number key row J limit count (from + q) above (before-none key row above ordered).0 (row_placed key row J key (keys-wide own) a (key-wide row long) (from + q) here (leb limit count)))

          module _ (fitting : K.kind.in_range row ≡ true) (n : ℕ) (joins : n ≡ place_fault key limit J count above row) where
            fault_is : row_fault K.kind J above row ≡ n orelse K.kind.further row orelse 13 given misplaced key above row
            unfolding row_fault place_fault no_place other_body
            fault_is = let w : count ≡ length (united (take key) J above) = (s a).0.counted in
                rw (fitting, joins, ← w)
                (orelse-assoc (3 given (not (known key row J) && (not (known key row above) && leb limit count))) (4 given (not (known key row above) && any (λ r. alike key row r && not (same row r)) J))
                (K.kind.further row orelse 13 given misplaced key above row))

            pub state-joins : (n ≡ 0 → ⊥) → n ≡ table_fault K.kind J t
            state-joins z = stopped n (fault_is ∙ orelse-first n _ z) z

            pub state-further : n ≡ 0 → (m : ℕ) → m ≡ K.kind.further row → (m ≡ 0 → ⊥) → m ≡ table_fault K.kind J t
            state-further y m e z = stopped m (fault_is ∙ orelse-second n _ y ∙ rw (← e) (orelse-first m _ z)) z

            pub state-late : n ≡ 0 → K.kind.further row ≡ 0 → misplaced key above row ≡ true → 13 ≡ table_fault K.kind J t
            state-late y e m = stopped 13 (fault_is ∙ orelse-second n _ y ∙ orelse-second (K.kind.further row) _ e ∙ rw m) (λ z. omega (arith, z))

            pub state-on : n ≡ 0 → K.kind.further row ≡ 0 → (ordered : misplaced key above row ≡ false) (long : length row ≡ K.width) (q : ℕ) (f : q ≡ prefix_len (before row) (drop from own)) (new : Bool)
                → row_joins key (map K.row_of (drop (from + q) own)) row (leb limit count) ≡ Ok new
                → Walk key J t (from + q) (count + cond new 1 0) (i + 1) × (table_fault K.kind J t ≡ first_fault (row_fault K.kind J) (take (i + 1) t) (drop (i + 1) t))
            unfolding misplaced
            state-on y e ordered long q f new z = (
              walk-on key key J t (keys-wide own) a from count i (s a).0 h (key-wide row long) ordered (from + q) (here ordered long q f) (leb limit count) new (ap (λ (l : Rows). row_joins key l row (leb limit count)) (drop-map K.row_of (from + q) own) ∙ z),
              (s a).1 ∙ scan-more (row_fault K.kind J) t i h (fault_is ∙ orelse-second n _ y ∙ orelse-second (K.kind.further row) _ e ∙ rw ordered refl),
            )
