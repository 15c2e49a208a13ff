-- The winner of an election is the bundle of the group that wins. Assumes nothing.
use mathlib.Core.Path.{◌≡◌, refl, sym, ap, subst}
use mathlib.Core.Bool.{Bool, true, false}
use mathlib.Core.List.{List, [], ◌∷◌}
use mathlib.Core.Option.{Option, none, some}
use Prim.Native.Nat.{ℕ, ◌*◌, ◌≤◌, ◌<◌}
use native.Mathlib.Omega.{arith}
use lib.Dec.{ltb}
use lib.ListN.{length, take, get_or, length-map, get_or-map}
use Rattle.std.specs.Prelude.{Option as Found, Some, None, MatchOption, option_map, unwrap_or}
use denote.Ref.{Bor}
use Rattle.std.specs.List.{AllWithin, HoldsAt}
use borrow.Author.Tests.{ltb-true, lt-ltb}
use Rattle.lists.specs.Lists.{any}
use Rattle.record.specs.Record.{Record}
use Rattle.record.specs.Stored.{empty_record}
use Rattle.lists.proofs.Lists.{by, clash}
use Rattle.voting.specs.Tally.{Ballot, same_bundle, total, weigh, votes_for, group, greatest_of, greatest, wins, won, winner}
use Rattle.voting.proofs.Elections.{same-is, one-winner, winner-wins, open_is}
use Rattle.voting_tally.specs.declared.Group.{Group}
use Rattle.voting_tally.specs.declared.Tally.{Tally}
use Rattle.voting_tally.specs.Groups.{bundles, group_in, tally_of, place, winner_stored, held_bundle}
use Rattle.voting_tally.proofs.Counts.{unknown-weightless}
use Rattle.voting_tally.proofs.Steps.{none_yet, place_found, place-stands, total-is, groups-taken}

-- a winner as it is stored, by how it is given
pub winner-held : (v : Option Record) → unwrap_or (held_bundle v) empty_record ≡ winner_stored v
winner-held none = refl
winner-held (some B) = refl

-- a group with weight is no heavier than the greatest
under-greatest {ℓ} : {P : Type ℓ} (B : Record) (k m : List Ballot) → (weigh (votes_for B) m ≡ 0 → P) → (weigh (votes_for B) k ≤ greatest_of k m → P) → P
unfolding weigh greatest_of
under-greatest B k [] f g = f refl
under-greatest B k (c ∷ m) f g =
    by (votes_for B c.vote)
    (λ e. g (omega (arith, voted c.vote e)))
    (λ e. under-greatest B k m (λ z. f (rw e (omega arith))) (λ z. g (omega arith)))
  where
    voted : (v : Option Record) → votes_for B v ≡ true → weigh (votes_for B) k ≤ group k v
    voted none h = clash h refl
    voted (some C) h = let q : B ≡ C = (same-is B C).0 h in rw q (omega arith)

wins-won : (l : List Ballot) (B : Record) → wins l B ≡ true → won l ≡ true
unfolding wins won greatest
wins-won l B h =
    let k = ltb-true (total l) (2 * weigh (votes_for B) l) h in
    under-greatest B l l (λ z. absurd (omega arith)) (λ z. lt-ltb (total l) (2 * greatest_of l l) (omega arith))

pub winner-is : (l : List Ballot) (B : Record) → wins l B ≡ true → winner l ≡ some B
winner-is l B h = go (winner l) refl
  where
    go : (v : Option Record) → winner l ≡ v → v ≡ some B
    go none e = clash (wins-won l B h) (open_is l e)
    go (some C) e = ap (λ x. some x) (one-winner l C B (winner-wins l C e).0 h)

-- a winner is one of the bundles
winner-known : (l : List Ballot) (B : Record) → wins l B ≡ true → any (same_bundle B) (bundles l) ≡ true
unfolding wins
winner-known l B h =
    by (any (same_bundle B) (bundles l)) (λ e. e)
    (λ e. absurd (omega (arith, unknown-weightless l B e, ltb-true (total l) (2 * weigh (votes_for B) l) h)))

-- what `is_won` says of a group
abbrev pub IsWon : ℕ → Bool → Group → Type 0
IsWon whole b group = b ≡ ltb whole (2 * group.weight)

module _ (tally : Tally) (l : List Ballot) (e : tally ≡ tally_of l) where
  wins-is : (B : Record) (b : Bool) → IsWon tally.election.total b (group_in l B) → b ≡ wins l B
  unfolding wins
  wins-is B b h = rw (total-is tally l 0 e) at h

  -- none of the groups has won
  no-winner : (groups : List Group) → groups ≡ take tally.count tally.groups → AllWithin (IsWon tally.election.total false) groups 0 (length groups) → None ≡ held_bundle (winner l)
  no-winner groups g h = go (winner l) refl
    where
      go : (v : Option Record) → winner l ≡ v → None ≡ held_bundle v
      go none p = refl
      go (some B) p =
          let s = bundles l in
          let a = (winner-wins l B p).0 in
          let k = winner-known l B a in
          let j = place B s in
          let q : j < length s = place_found B s k in
          let m = rw (g, groups-taken tally l 0 e) at h in
          let n : IsWon tally.election.total false (group_in l (get_or s j none_yet)) = rw (get_or-map (group_in l) s j none_yet) at (m j (group_in l none_yet) (omega arith) (omega (arith, length-map s (group_in l)))) in
          clash a (sym (wins-is B false (rw (place-stands B s k) at n)))

  -- a group that has won holds the winner
  the-winner : (groups : List Group) (x : Group) → groups ≡ take tally.count tally.groups → IsWon tally.election.total true x → (i : ℕ) → i < length groups → HoldsAt (λ y. y ≡ x) groups i
      → Some x.bundle ≡ held_bundle (winner l)
  the-winner groups x g w i h q =
      let s = bundles l in
      let B = get_or s i none_yet in
      let r : group_in l B ≡ x = rw (g, groups-taken tally l 0 e, get_or-map (group_in l) s i none_yet) at (q (group_in l none_yet)) in
      let a : wins l B ≡ true = sym (wins-is B true (subst (λ y. IsWon tally.election.total true y) (sym r) w)) in
      rw (winner-is l B a) (ap (λ y. Some y.bundle) (sym r))

  -- what `find` finds
  pub winner-found : (groups : List Group) (r : Found (Bor Group)) → groups ≡ take tally.count tally.groups
      → MatchOption r (AllWithin (IsWon tally.election.total false) groups 0 (length groups))
      (λ x. IsWon tally.election.total true x.now × (i : ℕ) × (i < length groups) × HoldsAt (λ y. y ≡ x.now) groups i × AllWithin (IsWon tally.election.total false) groups 0 i)
      → option_map (λ x. x.now.bundle) r ≡ held_bundle (winner l)
  winner-found groups None g h = no-winner groups g h
  winner-found groups (Some x) g h = the-winner groups x.now g h.0 h.1 h.2 h.3
