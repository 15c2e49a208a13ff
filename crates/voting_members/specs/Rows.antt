-- Inner: document 01, "Proposals and votes": the rows by which the members of a bundle are found, by index. A row's key is the index that it leads to; `mark_limit`,
-- no edit's index, stands for no row. Assumes nothing.
use Rattle.std.specs.Prelude.{Bool, not, ◌&&◌, cond, ℕ, zero, suc, eqb}
use Rattle.record.specs.Record.{Record, notafter}
use Rattle.graph.specs.links.Marks.{mark_limit, name_at}
use Rattle.voting.specs.Bundle.{leads}

-- "a noncommuting b" leads from a to b without "b notafter a"
unfoldable pub rival_key : Record → ℕ → ℕ → ℕ
rival_key R a b = cond (notafter R (name_at R b) (name_at R a)) mark_limit b

-- "enables 0" leads nowhere: 0 is no member
unfoldable pub enabled_key : ℕ → ℕ
enabled_key b = cond (eqb b 0) mark_limit b

-- the row from a to b of the constraint with these ends and this rule
unfoldable pub forward_key : Record → ℕ → ℕ → ℕ → ℕ
forward_key R a zero b = b
forward_key R a (suc zero) b = enabled_key b
forward_key R a (suc (suc k)) b = rival_key R a b

-- and the row from b to a
unfoldable pub backward_key : Record → ℕ → ℕ → ℕ → ℕ
backward_key R a zero b = mark_limit
backward_key R a (suc zero) b = mark_limit
backward_key R a (suc (suc k)) b = rival_key R b a

-- what leads to a member; INIT is none
unfoldable pub leads_in : Record → ℕ → ℕ → Bool
leads_in R a b = leads R a b && not (eqb b 0)
