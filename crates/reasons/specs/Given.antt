-- The reason that is given, as a computing function: of rows of so many names the lowest, and of all the shortest. It is the least one (proofs/Given.antt). Assumes nothing.
use Rattle.std.specs.Prelude.{Bool, cond, ◌&&◌, List, [], ◌∷◌, ℕ, zero, suc, ◌+◌, eqb, length, Option, Some, None, option_map}
use Rattle.std.specs.Option.{option_or}
use Rattle.lists.specs.Lists.{mem}
use Rattle.record.specs.Record.{Record, names, notafter, enables}
use Rattle.record.specs.Schedule.{needs}
use Rattle.reasons.specs.Reasons.{Reason, must_by, never_by, enabled_by, lower}

-- the lower of two rows
abbrev pub lower_of : Option (List ℕ) → Option (List ℕ) → Option (List ℕ)
lower_of None b = b
lower_of (Some a) None = Some a
lower_of (Some a) (Some b) = Some (cond (lower b a) b a)

-- the row of the first of these that has one
unfoldable pub first_row : (ℕ → Option (List ℕ)) → List ℕ → Option (List ℕ)
first_row row [] = None
first_row row (x ∷ rest) = option_or (row x) (first_row row rest)

-- what x may be followed by, for each length of it: the lowest
abbrev pub Tails : Type 0
Tails = ℕ → ℕ → Option (List ℕ)

-- The lowest row of so many names from x: after x one of its tails, or what goes on from the first linked name that has a row.
unfoldable pub lowest_row : (ℕ → ℕ → Bool) → Tails → List ℕ → ℕ → ℕ → Option (List ℕ)
lowest_row link tail known zero x = None
lowest_row link tail known (suc n) x =
    option_map (λ rest. x ∷ rest) (lower_of (tail x n) (first_row (λ y. cond (link x y) (lowest_row link tail known n y) None) known))

-- nothing follows where the test holds
unfoldable pub ends_where : (ℕ → Bool) → Tails
ends_where test x zero = cond (test x) (Some []) None
ends_where test x (suc n) = None

-- notafter between members of the set t
unfoldable pub notafter_within : Record → List ℕ → ℕ → ℕ → Bool
notafter_within R t a b = notafter R a b && (mem a t && mem b t)

-- a ring of t from m
unfoldable pub ring_from : Record → List ℕ → Tails
ring_from R t m n = lowest_row (notafter_within R t) (ends_where (λ x. notafter_within R t x m)) (names R) n m

-- the lowest rows of so many names: of must, and of never, the chain and then the ring
unfoldable pub must_row : Record → ℕ → ℕ → Option (List ℕ)
must_row R e n = lowest_row (enables R) (ends_where (λ x. eqb x 0)) (names R) n e

unfoldable pub never_row : Record → ℕ → ℕ → Option (List ℕ)
never_row R e n =
    let row = lowest_row (enabled_by R) (ring_from R (needs R (0 ∷ e ∷ []))) (names R) n in lower_of (row 0) (row e)

-- the shortest of the rows of at most so many names
unfoldable pub shortest : (ℕ → Option (List ℕ)) → ℕ → Option (List ℕ)
shortest row zero = None
shortest row (suc n) = option_or (shortest row n) (row (suc n))

-- The name where a chain meets its ring stands twice side by side: the row up to it, and from there on.
unfoldable pub chain_in : List ℕ → List ℕ
chain_in [] = []
chain_in (x ∷ []) = x ∷ []
chain_in (x ∷ y ∷ row) = x ∷ cond (eqb x y) [] (chain_in (y ∷ row))

unfoldable pub ring_in : List ℕ → List ℕ
ring_in [] = []
ring_in (x ∷ []) = []
ring_in (x ∷ y ∷ row) = cond (eqb x y) (y ∷ row) (ring_in (y ∷ row))

-- no least reason has a name twice in its chain, or in its ring
unfoldable pub most_names : Record → ℕ
most_names R = length (names R) + length (names R)

-- the reason that is given, if there is one
unfoldable pub reason_of : Record → ℕ → Option Reason
reason_of R e =
    option_or
    (option_map must_by (shortest (must_row R e) (most_names R)))
    (option_map (λ row. never_by (chain_in row) (ring_in row)) (shortest (never_row R e) (most_names R)))
