-- Document 01, "Proposals and votes": what a tally holds after each vote, what the election comes to and the groups of equal bundles so far. Assumes nothing.
use Rattle.std.specs.Prelude.{cond, List, [], ◌∷◌, ◌++◌, map, ℕ, suc, ◌*◌, ltb, length, Option as Given, Some, None}
use Rattle.std.proofs.Math.Option.{Option, none, some}
use Rattle.record.specs.declared.Record as declared
use Rattle.lists.specs.Lists.{any}
use Rattle.record.specs.Record.{Record}
use Rattle.record.specs.Stored.{padded, empty_record, stored}
use Rattle.voting.specs.declared.ElectionResult.{ElectionResult}
use Rattle.voting.specs.Tally.{Ballot, same_bundle, total, weigh, votes_for, greatest, silent, won}
use Rattle.voting_tally.specs.declared.Vote.TheVariants.{Silent, Bundle}
use Rattle.voting_tally.specs.declared.Cast.{Cast}
use Rattle.voting_tally.specs.declared.Group.{Group}
use Rattle.voting_tally.specs.declared.Tally.{Tally}

-- how a vote is handed in
abbrev pub cast_of : Option Record → Cast
cast_of none = record { vote = Silent; bundle = empty_record }
cast_of (some B) = record { vote = Bundle; bundle = stored B }

-- the bundles with a vote more: a bundle that is known stays in its place
abbrev pub with_vote : List Record → Option Record → List Record
with_vote bundles none = bundles
with_vote bundles (some B) = cond (any (same_bundle B) bundles) bundles (bundles ++ (B ∷ []))

-- the bundles of the ballots, each once, in the order of their first votes, after those that are known
unfoldable pub bundles_after : List Record → List Ballot → List Record
bundles_after bundles [] = bundles
bundles_after bundles (b ∷ l) = bundles_after (with_vote bundles b.vote) l

abbrev pub bundles : List Ballot → List Record
bundles l = bundles_after [] l

-- the group of a bundle among the ballots
abbrev pub group_in : List Ballot → Record → Group
group_in l B = record { bundle = stored B; weight = weigh (votes_for B) l }

abbrev pub filler_group : Group
filler_group = record { bundle = empty_record; weight = 0 }

-- what the election comes to on the ballots
abbrev pub result_of : List Ballot → ElectionResult
result_of l = record { won = won l; greatest = greatest l; silent = silent l; total = total l }

-- THE TALLY of the ballots: their groups, and what the election comes to on them
unfoldable pub tally_of : List Ballot → Tally
tally_of l = record { groups = padded 8 filler_group (map (group_in l) (bundles l)); count = length (bundles l); election = result_of l }

-- the place of a bundle among others, their number where it is none of them
unfoldable pub place : Record → List Record → ℕ
place B [] = 0
place B (C ∷ l) = cond (same_bundle B C) 0 (suc (place B l))

-- the won bundle as it is stored, the empty record of an open election
abbrev pub winner_stored : Option Record → declared.Record
winner_stored none = empty_record
winner_stored (some B) = stored B

-- the won bundle as it is given, none of an open election
abbrev pub held_bundle : Option Record → Given declared.Record
held_bundle none = None
held_bundle (some B) = Some (stored B)

-- the same from its three weights
abbrev pub result_by : ℕ → ℕ → ℕ → ElectionResult
result_by greatest silent total = record { won = ltb total (2 * greatest); greatest = greatest; silent = silent; total = total }
