-- What one vote makes of a stored tally. Assumes nothing.
use mathlib.Core.Path.{◌≡◌, refl, sym, ap, ◌∙◌}
use mathlib.Core.Bool.{Bool, true, false, not}
use mathlib.Core.List.{List, [], ◌∷◌, ◌++◌, map, map-append}
use mathlib.Core.Option.{Option, none, some}
use Prim.Native.Nat.{ℕ, ◌+◌, ◌-◌, ◌≤◌, ◌<◌, max, min}
use native.Mathlib.Omega.{arith}
use lib.ListN.{length, take, get_or, set, replicate, length-append, length-map, get_or-map}
use lib.Seq.{set-append_left, take-length}
use Rattle.std.specs.Prelude.{Option as Found, Some, None, MatchOption, unwrap_or}
use Rattle.std.specs.List.{AllWithin, HoldsAt}
use Rattle.std.proofs.lemmas.Iterator.{index_from_first}
use borrow.Author.Tests.{not-true}
use Rattle.record.specs.declared.Record as declared
use Rattle.lists.specs.Lists.{any}
use Rattle.record.specs.Record.{Record}
use Rattle.record.specs.Stored.{padded, stored, empty_record}
use Rattle.lists.proofs.Lists.{by, clash, and_l, and_r, or-no-l, or-no-r, get_or-mapped}
use Rattle.lists.proofs.Arrays.{get_or-any}
use Rattle.record.proofs.Padded.{length-padded, take-padded, padded-more, get_or-padded, padded-past}
use Rattle.voting.specs.declared.ElectionResult.{ElectionResult}
use Rattle.voting.specs.Tally.{Ballot, same_bundle, total, weigh, is_silent, votes_for, greatest_of, greatest, silent, won}
use Rattle.voting.proofs.Elections.{same-bundle, same-is, weigh-le}
use Rattle.voting_tally.specs.declared.Vote.TheVariants.{Silent, Bundle}
use Rattle.voting_tally.specs.declared.Cast.{Cast}
use Rattle.voting_tally.specs.declared.Group.{Group}
use Rattle.voting_tally.specs.declared.Tally.{Tally}
use Rattle.voting_tally.specs.Groups.{bundles_after, bundles, group_in, filler_group, tally_of, place, result_of, result_by, cast_of}
use Rattle.voting_tally.proofs.Counts.{more_ballots, bundles-more, bundles-length, distinct_bundles, same-turned, bundles-apart, total-more, weigh-more, unknown-weightless, greatest-more}

place-unknown : (C : Record) (s : List Record) → any (same_bundle C) s ≡ false → place C s ≡ length s
unfolding any place
place-unknown C [] h = refl
place-unknown C (B ∷ s) h = rw (or-no-l (same_bundle C B) (any (same_bundle C) s) h, place-unknown C s (or-no-r (same_bundle C B) (any (same_bundle C) s) h))

pub place_found : (C : Record) (s : List Record) → any (same_bundle C) s ≡ true → place C s < length s
unfolding any place
place_found C [] h = clash h refl
place_found C (B ∷ s) h = by (same_bundle C B) (λ e. rw e (omega arith)) (λ e. rw e (omega (arith, place_found C s (rw e at h))))

-- at its place a known bundle stands
pub place-stands : (C : Record) (s : List Record) → any (same_bundle C) s ≡ true → get_or s (place C s) (record { edits = []; constraints = [] }) ≡ C
unfolding any place
place-stands C [] h = clash h refl
place-stands C (B ∷ s) h = by (same_bundle C B) (λ e. rw e (sym ((same-is C B).0 e))) (λ e. rw e (place-stands C s (rw e at h)))

group-kept : (l : List Ballot) (w : ℕ) (v : Option Record) (B : Record) → votes_for B v ≡ false → group_in (more_ballots l w v) B ≡ group_in l B
group-kept l w v B h =
    let e : weigh (votes_for B) (more_ballots l w v) ≡ weigh (votes_for B) l = weigh-more (votes_for B) l w v ∙ rw h (omega arith) in
    λ i. record { bundle = stored B; weight = e i }

groups-silent : (l : List Ballot) (w : ℕ) (s : List Record) → map (group_in (more_ballots l w none)) s ≡ map (group_in l) s
groups-silent l w [] = refl
groups-silent l w (B ∷ s) = rw (group-kept l w none B refl, groups-silent l w s)

module _ (l : List Ballot) (w : ℕ) (C : Record) where
  groups-kept : (s : List Record) → any (same_bundle C) s ≡ false → map (group_in (more_ballots l w (some C))) s ≡ map (group_in l) s
  unfolding any
  groups-kept [] h = refl
  groups-kept (B ∷ s) h =
      rw (group-kept l w (some C) B (same-turned C B (or-no-l (same_bundle C B) (any (same_bundle C) s) h)), groups-kept s (or-no-r (same_bundle C B) (any (same_bundle C) s) h))

  groups-raised : (s : List Record) → distinct_bundles s ≡ true → any (same_bundle C) s ≡ true
      → set (map (group_in l) s) (place C s) (group_in (more_ballots l w (some C)) C) ≡ map (group_in (more_ballots l w (some C))) s
  unfolding any place distinct_bundles
  groups-raised [] a h = clash h refl
  groups-raised (B ∷ s) a h =
      by (same_bundle C B)
      (λ e. let q : C ≡ B = (same-is C B).0 e in
      let n : any (same_bundle C) s ≡ false = rw q (not-true (any (same_bundle B) s) (and_l (not (any (same_bundle B) s)) (distinct_bundles s) a)) in
      rw e (ap (λ x. group_in (more_ballots l w (some C)) x ∷ map (group_in l) s) q ∙ ap (λ t. group_in (more_ballots l w (some C)) B ∷ t) (sym (groups-kept s n))))
      (λ e. rw (e, group-kept l w (some C) B (same-turned C B e)) (ap (λ t. group_in l B ∷ t) (groups-raised s (and_r (not (any (same_bundle B) s)) (distinct_bundles s) a) (rw e at h))))

  -- the groups with the bundle's raised or new one
  groups-more : length (bundles l) < 8
      → set (padded 8 filler_group (map (group_in l) (bundles l))) (place C (bundles l)) (group_in (more_ballots l w (some C)) C)
      ≡ padded 8 filler_group (map (group_in (more_ballots l w (some C))) (bundles (more_ballots l w (some C))))
  unfolding padded
  groups-more h =
      let s = bundles l in
      by (any (same_bundle C) s)
      (λ e.
      let b : bundles (more_ballots l w (some C)) ≡ s = bundles-more l w (some C) ∙ rw e in
      let p : place C s < length (map (group_in l) s) = omega (arith, place_found C s e, length-map s (group_in l)) in
      let m : length (map (group_in (more_ballots l w (some C))) s) ≡ length (map (group_in l) s) = length-map s (group_in (more_ballots l w (some C))) ∙ sym (length-map s (group_in l)) in
      rw (b, m, ← groups-raised s (bundles-apart l) e)
      (set-append_left (map (group_in l) s) (replicate (8 - length (map (group_in l) s)) filler_group) (place C s) (group_in (more_ballots l w (some C)) C) p))
      (λ e.
      let b : bundles (more_ballots l w (some C)) ≡ s ++ (C ∷ []) = bundles-more l w (some C) ∙ rw e in
      let p : place C s ≡ length (map (group_in l) s) = place-unknown C s e ∙ sym (length-map s (group_in l)) in
      let k : length (map (group_in l) s) < 8 = omega (arith, length-map s (group_in l)) in
      rw (b, p, map-append (group_in (more_ballots l w (some C))) s (C ∷ []), groups-kept s e)
      (padded-more 8 filler_group (map (group_in l) s) (group_in (more_ballots l w (some C)) C) k))

  count-more : max (length (bundles l)) (place C (bundles l) + 1) ≡ length (bundles (more_ballots l w (some C)))
  count-more =
      let s = bundles l in
      by (any (same_bundle C) s)
      (λ e. let b : bundles (more_ballots l w (some C)) ≡ s = bundles-more l w (some C) ∙ rw e in
      rw b (omega (arith, place_found C s e)))
      (λ e. let b : bundles (more_ballots l w (some C)) ≡ s ++ (C ∷ []) = bundles-more l w (some C) ∙ rw e in
      rw b (omega (arith, place-unknown C s e, length-append s (C ∷ []))))

abbrev pub none_yet : Record
none_yet = record { edits = []; constraints = [] }

-- what `same_bundle` says of a group
abbrev pub IsSameBundle : Bool → declared.Record → Group → Type 0
IsSameBundle b bundle group = (P Q : Record) → bundle ≡ stored P → group.bundle ≡ stored Q → b ≡ same_bundle P Q

first-mapped : {A B : Type 0} (f : A → B) (Yes No : B → Type 0) (s : List A) (r : Found ℕ)
    → MatchOption r (AllWithin No (map f s) 0 (length (map f s))) (λ i. (i < length (map f s)) × HoldsAt Yes (map f s) i × AllWithin No (map f s) 0 i)
    → MatchOption r (AllWithin (λ x. No (f x)) s 0 (length s)) (λ i. (i < length s) × HoldsAt (λ x. Yes (f x)) s i × AllWithin (λ x. No (f x)) s 0 i)
first-mapped f Yes No s None h = λ k d a b. rw (get_or-map f s k d) at (h k (f d) a (omega (arith, length-map s f)))
first-mapped f Yes No s (Some i) h = (
  omega (arith, h.0, length-map s f),
  λ d. rw (get_or-map f s i d) at (h.1 (f d)),
  λ k d a b. rw (get_or-map f s k d) at (h.2 k (f d) a b),
)

-- the first group that is the same stands at the bundle's place
pub bundle-place : (bundle : declared.Record) (groups : List Group) (r : Found ℕ) (l : List Ballot) (s : List Record) (C : Record) → groups ≡ map (group_in l) s → bundle ≡ stored C
    → MatchOption r (AllWithin (IsSameBundle false bundle) groups 0 (length groups)) (λ i. (i < length groups) × HoldsAt (IsSameBundle true bundle) groups i × AllWithin (IsSameBundle false bundle) groups 0 i)
    → unwrap_or r (length s) ≡ place C s
unfolding place
bundle-place bundle groups r l s C g p h =
    sym (index_from_first (place C) (λ B. IsSameBundle true bundle (group_in l B)) (λ B. IsSameBundle false bundle (group_in l B)) refl
    (λ B t y. let e = y C B p refl in rw (sym e)) (λ B t n. let e = n C B p refl in rw (sym e) (omega arith)) s r
    (first-mapped (group_in l) (IsSameBundle true bundle) (IsSameBundle false bundle) s r (rw g at h)))

-- THE TALLY with one vote more
module _ (tally : Tally) (l : List Ballot) (w : ℕ) (e : tally ≡ tally_of l) where
  election-is : tally.election ≡ result_of l
  unfolding tally_of
  election-is = ap (λ t. t.election) e

  groups-are : tally.groups ≡ padded 8 filler_group (map (group_in l) (bundles l))
  unfolding tally_of
  groups-are = ap (λ t. t.groups) e

  pub tally-count-is : tally.count ≡ length (bundles l)
  unfolding tally_of
  tally-count-is = ap (λ t. t.count) e

  pub total-is : tally.election.total ≡ total l
  total-is = ap (λ x. x.total) election-is

  pub silent-within : tally.election.silent ≤ total l
  unfolding silent
  silent-within = rw (ap (λ x. x.silent) election-is) (weigh-le is_silent l)

  pub groups-taken : take tally.count tally.groups ≡ map (group_in l) (bundles l)
  groups-taken =
      let m = map (group_in l) (bundles l) in
      rw (groups-are, tally-count-is, ← length-map (bundles l) (group_in l), take-padded 8 filler_group (length m) m (omega arith)) (take-length m)

  pub silent-step : (s t : ℕ) → s ≡ tally.election.silent + w → t ≡ tally.election.total + w
      → record { groups = tally.groups; count = tally.count; election = result_by tally.election.greatest s t } ≡ tally_of (more_ballots l w none)
  unfolding tally_of silent won
  silent-step s t ps pt =
      let es : s ≡ silent (more_ballots l w none) = ps ∙ (ap (λ x. x.silent + w) election-is ∙ sym (weigh-more is_silent l w none)) in
      let et : t ≡ total (more_ballots l w none) = pt ∙ (ap (λ x. x.total + w) election-is ∙ sym (total-more l w none)) in
      let eg : tally.election.greatest ≡ greatest (more_ballots l w none) = ap (λ x. x.greatest) election-is ∙ sym (greatest-more l w none ∙ omega arith) in
      let b : bundles (more_ballots l w none) ≡ bundles l = bundles-more l w none in
      let ec : tally.count ≡ length (bundles (more_ballots l w none)) = tally-count-is ∙ ap length (sym b) in
      let ep : tally.groups ≡ padded 8 filler_group (map (group_in (more_ballots l w none)) (bundles (more_ballots l w none))) =
      groups-are ∙ rw (b, groups-silent l w (bundles l)) in
      λ i. record { groups = ep i; count = ec i; election = result_by (eg i) (es i) (et i) }

  module _ (C : Record) (h : length l < 8) where
    pub tally-room : tally.count < 8
    tally-room = rw tally-count-is (omega (arith, bundles-length l))

    pub vote-placed : (r : Found ℕ) (i : ℕ) → ((k : List Ballot) (s : List Record) (D : Record) → take tally.count tally.groups ≡ map (group_in k) s → stored C ≡ stored D → unwrap_or r (length s) ≡ place D s)
        → i ≡ unwrap_or r tally.count → i ≡ place C (bundles l)
    vote-placed r i f e = rw tally-count-is at e ∙ f l (bundles l) C groups-taken refl

    weight-at : (d : Group) → (get_or tally.groups (place C (bundles l)) d).weight ≡ weigh (votes_for C) l
    weight-at d =
        let s = bundles l in
        let m = map (group_in l) s in
        let n : length m ≡ length s = length-map s (group_in l) in
        by (any (same_bundle C) s)
        (λ k.
        let p = place_found C s k in
        rw (groups-are, get_or-padded 8 filler_group m (place C s) d (omega arith), get_or-mapped (group_in l) s (place C s) none_yet d p, place-stands C s k))
        (λ k.
        let q : place C s < length (padded 8 filler_group m) = omega (arith, length-padded 8 filler_group m (omega (arith, bundles-length l)), bundles-length l, place-unknown C s k) in
        rw (groups-are, get_or-any (padded 8 filler_group m) (place C s) d filler_group q, padded-past 8 filler_group m (place C s) (omega (arith, place-unknown C s k)))
        (sym (unknown-weightless l C k)))

    pub weight-within : (d : Group) (i m : ℕ) → i ≡ place C (bundles l) → total l ≤ m → (get_or tally.groups i d).weight ≤ m
    weight-within d i m p k = rw (p, weight-at d) (omega (arith, weigh-le (votes_for C) l))

    pub weight-raised : (d : Group) (i m v : ℕ) → i ≡ place C (bundles l) → total l ≤ 524280 → w < 65536 → v ≡ w → m ≡ min ((get_or tally.groups i d).weight + v) 4294967295
        → m ≡ (get_or tally.groups i d).weight + w
    weight-raised d i m v p k f e q = omega (arith, weight-within d i 524280 p k)

    pub bundle-step : (d : Group) (x : declared.Record) (i m c g t : ℕ) → x ≡ stored C → i ≡ place C (bundles l) → m ≡ (get_or tally.groups i d).weight + w → c ≡ max tally.count (i + 1)
        → g ≡ max tally.election.greatest m → t ≡ tally.election.total + w
        → record { groups = set tally.groups i (record { bundle = x; weight = m }); count = c; election = result_by g tally.election.silent t } ≡ tally_of (more_ballots l w (some C))
    unfolding tally_of silent won
    bundle-step d x i m c g t px pi pm pc pg pt =
        let l' = more_ballots l w (some C) in
        let em : m ≡ weigh (votes_for C) l' = pm ∙ (rw (pi, weight-at d) (sym (weigh-more (votes_for C) l w (some C) ∙ rw (same-bundle C)))) in
        let es : tally.election.silent ≡ silent l' = ap (λ x. x.silent) election-is ∙ sym (weigh-more is_silent l w (some C) ∙ omega arith) in
        let et : t ≡ total l' = pt ∙ (ap (λ x. x.total + w) election-is ∙ sym (total-more l w (some C))) in
        let eg : g ≡ greatest l' = pg ∙ (rw (ap (λ x. x.greatest) election-is, em) (sym (greatest-more l w (some C)))) in
        let ec : c ≡ length (bundles l') = pc ∙ (rw (pi, tally-count-is) (count-more l w C)) in
        let x' : record { bundle = x; weight = m } ≡ group_in l' C = λ j. record { bundle = px j; weight = em j } in
        let ep : set tally.groups i (record { bundle = x; weight = m }) ≡ padded 8 filler_group (map (group_in l') (bundles l')) =
        rw (groups-are, pi, x') (groups-more l w C (omega (arith, bundles-length l))) in
        λ j. record { groups = ep j; count = ec j; election = result_by (eg j) (es j) (et j) }

-- before the first vote
pub no-votes-is : {r : declared.Record} {x : ElectionResult} → r ≡ empty_record → x ≡ result_by 0 0 0
    → record { groups = replicate 8 (record { bundle = r; weight = 0 }); count = 0; election = x } ≡ tally_of []
unfolding tally_of bundles_after padded won greatest greatest_of silent weigh total
no-votes-is p q = λ i. record { groups = replicate 8 (record { bundle = p i; weight = 0 }); count = 0; election = q i }

-- a vote taken apart
pub silent-by {ℓ} : (P : Option Record → Type ℓ) (cast : Cast) (v : Option Record) → cast ≡ cast_of v → cast.vote ≡ Silent → P none → P v
silent-by P cast none e h p = p
silent-by P cast (some B) e h p = absurd (let q : cast.vote ≡ Bundle = ap (λ x. x.vote) e in let z : ◌≡◌ {A = ℕ} 0 1 = cc in omega arith)

pub bundle-by {ℓ} : (P : Option Record → Type ℓ) (cast : Cast) (v : Option Record) → cast ≡ cast_of v → cast.vote ≡ Bundle → ((B : Record) → cast.bundle ≡ stored B → P (some B)) → P v
bundle-by P cast none e h f = absurd (let q : cast.vote ≡ Silent = ap (λ x. x.vote) e in let z : ◌≡◌ {A = ℕ} 0 1 = cc in omega arith)
bundle-by P cast (some B) e h f = f B (ap (λ x. x.bundle) e)
