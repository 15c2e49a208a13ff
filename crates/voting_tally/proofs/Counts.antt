-- One ballot more: the bundles, the weights and the greatest group. Assumes nothing.
use mathlib.Core.Path.{◌≡◌, refl, sym, ap, ◌∙◌}
use mathlib.Core.Bool.{Bool, true, false, not, ◌&&◌, cond, or-true}
use mathlib.Core.List.{List, [], ◌∷◌, ◌++◌}
use mathlib.Core.Option.{Option, none, some}
use Prim.Native.Nat.{ℕ, suc, ◌+◌, ◌≤◌, max}
use native.Mathlib.Omega.{arith}
use lib.ListN.{length, length-append}
use borrow.Author.Tests.{not-true}
use Rattle.lists.specs.Lists.{any}
use Rattle.record.specs.Record.{Record}
use Rattle.lists.proofs.Lists.{by, clash, and_l, and_r, or-no-l, or-no-r}
use Rattle.lists.proofs.Logic.{any_append}
use Rattle.voting.specs.Tally.{Ballot, same_bundle, total, weigh, votes_for, group, greatest_of, greatest}
use Rattle.voting.proofs.Elections.{same-is}
use Rattle.voting_tally.specs.Groups.{with_vote, bundles_after, bundles}

abbrev pub more_ballots : List Ballot → ℕ → Option Record → List Ballot
more_ballots l w v = l ++ (record { weight = w; vote = v } ∷ [])

-- bundles
after-append : (s : List Record) (l m : List Ballot) → bundles_after s (l ++ m) ≡ bundles_after (bundles_after s l) m
unfolding bundles_after
after-append s [] m = refl
after-append s (b ∷ l) m = after-append (with_vote s b.vote) l m

pub bundles-more : (l : List Ballot) (w : ℕ) (v : Option Record) → bundles (more_ballots l w v) ≡ with_vote (bundles l) v
unfolding bundles_after
bundles-more l w v = after-append [] l (record { weight = w; vote = v } ∷ [])

with-vote-length : (s : List Record) (v : Option Record) → length (with_vote s v) ≤ suc (length s)
with-vote-length s none = omega arith
with-vote-length s (some B) = by (any (same_bundle B) s) (λ e. rw e (omega arith)) (λ e. rw e (omega (arith, length-append s (B ∷ []))))

after-length : (s : List Record) (l : List Ballot) → length (bundles_after s l) ≤ length s + length l
unfolding bundles_after
after-length s [] = omega arith
after-length s (b ∷ l) = omega (arith, after-length (with_vote s b.vote) l, with-vote-length s b.vote)

pub bundles-length : (l : List Ballot) → length (bundles l) ≤ length l
bundles-length l = omega (arith, after-length [] l)

-- each bundle once
unfoldable pub distinct_bundles : List Record → Bool
distinct_bundles [] = true
distinct_bundles (B ∷ s) = not (any (same_bundle B) s) && distinct_bundles s

pub same-turned : (B C : Record) → same_bundle B C ≡ false → same_bundle C B ≡ false
same-turned B C h = by (same_bundle C B) (λ e. clash ((same-is B C).1 (sym ((same-is C B).0 e))) h) (λ e. e)

apart_snoc : (s : List Record) (C : Record) → distinct_bundles s ≡ true → any (same_bundle C) s ≡ false → distinct_bundles (s ++ (C ∷ [])) ≡ true
unfolding distinct_bundles any
apart_snoc [] C h n = refl
apart_snoc (B ∷ s) C h n =
    let e : any (same_bundle B) s ≡ false = not-true (any (same_bundle B) s) (and_l (not (any (same_bundle B) s)) (distinct_bundles s) h) in
    rw (any_append (same_bundle B) s (C ∷ []), e, same-turned C B (or-no-l (same_bundle C B) (any (same_bundle C) s) n))
    (apart_snoc s C (and_r (not (any (same_bundle B) s)) (distinct_bundles s) h) (or-no-r (same_bundle C B) (any (same_bundle C) s) n))

with-vote-apart : (s : List Record) (v : Option Record) → distinct_bundles s ≡ true → distinct_bundles (with_vote s v) ≡ true
with-vote-apart s none h = h
with-vote-apart s (some B) h = by (any (same_bundle B) s) (λ e. rw e h) (λ e. rw e (apart_snoc s B h e))

after-apart : (s : List Record) (l : List Ballot) → distinct_bundles s ≡ true → distinct_bundles (bundles_after s l) ≡ true
unfolding bundles_after
after-apart s [] h = h
after-apart s (b ∷ l) h = after-apart (with_vote s b.vote) l (with-vote-apart s b.vote h)

pub bundles-apart : (l : List Ballot) → distinct_bundles (bundles l) ≡ true
unfolding distinct_bundles
bundles-apart l = after-apart [] l refl

-- weights
pub total-more : (l : List Ballot) (w : ℕ) (v : Option Record) → total (more_ballots l w v) ≡ total l + w
unfolding total
total-more [] w v = omega arith
total-more (b ∷ l) w v = omega (arith, total-more l w v)

pub weigh-more : (p : Option Record → Bool) (l : List Ballot) (w : ℕ) (v : Option Record) → weigh p (more_ballots l w v) ≡ weigh p l + cond (p v) w 0
unfolding weigh
weigh-more p [] w v = omega arith
weigh-more p (b ∷ l) w v = omega (arith, weigh-more p l w v)

-- a bundle that has weight is one of the bundles
with-vote-has : (s : List Record) (v : Option Record) (C : Record) → any (same_bundle C) s ≡ true → any (same_bundle C) (with_vote s v) ≡ true
with-vote-has s none C h = h
with-vote-has s (some B) C h = by (any (same_bundle B) s) (λ e. rw e h) (λ e. rw (e, any_append (same_bundle C) s (B ∷ []), h))

after-has : (s : List Record) (l : List Ballot) (C : Record) → any (same_bundle C) s ≡ true → any (same_bundle C) (bundles_after s l) ≡ true
unfolding bundles_after
after-has s [] C h = h
after-has s (b ∷ l) C h = after-has (with_vote s b.vote) l C (with-vote-has s b.vote C h)

voted-has : (s : List Record) (v : Option Record) (C : Record) → votes_for C v ≡ true → any (same_bundle C) (with_vote s v) ≡ true
unfolding any
voted-has s none C h = clash h refl
voted-has s (some B) C h =
    let q : C ≡ B = (same-is C B).0 h in
    by (any (same_bundle B) s) (λ e. rw e (rw q e))
    (λ e. rw (e, any_append (same_bundle C) s (B ∷ []), h) (or-true (any (same_bundle C) s)))

after_none : (s : List Record) (l : List Ballot) (C : Record) → any (same_bundle C) (bundles_after s l) ≡ false → weigh (votes_for C) l ≡ 0
unfolding bundles_after weigh
after_none s [] C h = refl
after_none s (b ∷ l) C h =
    by (votes_for C b.vote)
    (λ e. clash (after-has (with_vote s b.vote) l C (voted-has s b.vote C e)) h)
    (λ e. rw (e, after_none (with_vote s b.vote) l C h))

pub unknown-weightless : (l : List Ballot) (C : Record) → any (same_bundle C) (bundles l) ≡ false → weigh (votes_for C) l ≡ 0
unknown-weightless l C h = after_none [] l C h

-- the greatest group
greatest-append : (k l : List Ballot) (w : ℕ) (v : Option Record) → greatest_of k (more_ballots l w v) ≡ max (greatest_of k l) (group k v)
unfolding greatest_of
greatest-append k [] w v = omega arith
greatest-append k (b ∷ l) w v = omega (arith, greatest-append k l w v)

-- a group gains only where it is that of the new vote
group-more {ℓ} : {P : Type ℓ} (l : List Ballot) (w : ℕ) (v u : Option Record)
    → (group (more_ballots l w v) u ≡ group l u → P) → (group (more_ballots l w v) u ≡ group (more_ballots l w v) v → group l u ≤ group (more_ballots l w v) v → P) → P
group-more l w v none f g = f refl
group-more l w none (some B) f g = f (weigh-more (votes_for B) l w none ∙ omega arith)
group-more l w (some C) (some B) f g =
    by (same_bundle B C)
    (λ e. let q : B ≡ C = (same-is B C).0 e in
    let r = ap (λ (D : Record). weigh (votes_for D) (more_ballots l w (some C))) q in
    g r (omega (arith, weigh-more (votes_for B) l w (some C))))
    (λ e. f (weigh-more (votes_for B) l w (some C) ∙ rw e (omega arith)))

greatest-under : (l : List Ballot) (w : ℕ) (v : Option Record) (m : List Ballot)
    → max (greatest_of (more_ballots l w v) m) (group (more_ballots l w v) v) ≡ max (greatest_of l m) (group (more_ballots l w v) v)
unfolding greatest_of
greatest-under l w v [] = refl
greatest-under l w v (b ∷ m) =
    group-more l w v b.vote (λ e. omega (arith, greatest-under l w v m)) (λ e h. omega (arith, greatest-under l w v m))

pub greatest-more : (l : List Ballot) (w : ℕ) (v : Option Record) → greatest (more_ballots l w v) ≡ max (greatest l) (group (more_ballots l w v) v)
unfolding greatest
greatest-more l w v = greatest-append (more_ballots l w v) l w v ∙ greatest-under l w v l
