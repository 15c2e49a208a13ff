-- The reason that the computing function gives is the least, and it gives none only where there is none. Assumes nothing.
use mathlib.Core.Path.{◌≡◌, refl, sym, ap, subst}
use mathlib.Core.Bool.{true, false, ◌||◌}
use mathlib.Core.Logic.{◌⊎◌, inl, inr, ⊎_elim}
use mathlib.Core.List.{List, [], ◌∷◌, ◌++◌}
use Prim.Native.Nat.{ℕ, ◌≤◌}
use native.Mathlib.Omega.{arith}
use lib.Dec.{eqb}
use lib.ListN.{length, length-append}
use borrow.Author.Tests.{eqb-true, eq-eqb}
use Rattle.std.specs.Option.{option_or}
use Rattle.std.specs.Prelude.{Option, Some, None, option_map, is_some}
use Rattle.lists.specs.Lists.{distinct, ascending, ◌among◌}
use Rattle.lists.proofs.Lists.{clash, and_l, or-by, or_l, or_r, same_by}
use Rattle.record.specs.Record.{Record, names, enables, WellFormed}
use Rattle.record.specs.Schedule.{needs}
use Rattle.record.specs.Judgement.{sound, must, never}
use Rattle.record.proofs.Records.{left-known, right-known}
use Rattle.record.proofs.Judged.{must-is, never-is}
use Rattle.reasons.specs.Reasons.{MustReason, enabled_by, NeverReason, Reason, must_by, never_by, IsReason, Least}
use Rattle.reasons.specs.Costs.{Route, Best}
use Rattle.reasons.specs.Aims.{Init, Closes, RingFrom}
use Rattle.reasons.specs.Given.{ends_where, notafter_within, ring_from, must_row, never_row, chain_in, ring_in, most_names, reason_of}
use Rattle.reasons.proofs.Reasons.{EachRow, never-path, least-apart, walk-links, names-links, must-true, never-true, must-exists, never-exists, must-least, never-least, never-parted, reason-one}
use Rattle.reasons.proofs.Costs.{route-split}
use Rattle.reasons.proofs.Aimed.{route-ends, ends-route, NeededRing, reason-route, route-reason}
use Rattle.reasons.proofs.Paths.{walk-path, path-few}
use Rattle.reasons.proofs.Searches.{IsLowest, lowest-same, lowest-of, OfLength, TailsAre, lowest-row, ends-where, IsShortest, shortest-best}

-- the row that is printed of a never reason
record NeverRow (R : Record) (e : ℕ) (row : List ℕ) : Type 0 where
  chain : List ℕ
  ring : List ℕ
  joined : row ≡ chain ++ ring
  reason : NeverReason R e chain ring

never-row : {R : Record} {e : ℕ} {c r : List ℕ} → NeverReason R e c r → NeverRow R e (c ++ r)
never-row {c} {r} n = record { chain = c; ring = r; joined = refl; reason = n }

module _ (R : Record) (w : WellFormed R) (e : ℕ) where
  -- links are between names of the record
  apart-few : (r : Reason) → IsReason R e r → EachRow (λ row. distinct row ≡ true) r → EachRow (λ row. length row ≤ length (names R)) r
  unfolding names
  apart-few (must_by c) m d = path-few (names R) (λ x y l. left-known w x 1 y l) (λ x y l. right-known w x 1 y l) m d (omega arith)
  apart-few (never_by c r) n d = (
    path-few (names R) (λ x y l. right-known w y 1 x l) (λ x y l. left-known w y 1 x l) n.chained d.0 (omega arith),
    path-few (names R) (λ x y l. left-known w x 0 y l) (λ x y l. right-known w x 0 y l) n.ringed d.1 (omega arith),
  )

  -- The chain of a least reason, and its ring, have at most as many names as the record.
  pub least-few : (r : Reason) → Least R e r → EachRow (λ row. length row ≤ length (names R)) r
  least-few r l = apart-few r l.given (least-apart R e r l)

  -- a reason gives one of paths, whose row has at most so many names
  none-longer : IsShortest (MustReason R e) (most_names R) None → IsShortest (NeverRow R e) (most_names R) None → (r : Reason) → IsReason R e r → ⊥
  unfolding most_names
  none-longer f g (must_by c) m = let p = walk-path m in omega (arith, f p.path p.walk, apart-few (must_by p.path) p.walk p.apart)
  none-longer f g (never_by c r) n =
      let p = walk-path n.chained in
      let q = walk-path n.ringed in
      let o = never-path n p q in
      let k = apart-few (never_by p.path q.path) o (p.apart, q.apart) in
      omega (arith, g (p.path ++ q.path) (never-row o), length-append p.path q.path, k.0, k.1)

  module _ (h : sound R ≡ true) where
    -- the best row is that of the least reason
    must-best : {c : List ℕ} → Best (MustReason R e) c → Least R e (must_by c)
    must-best b =
        must-least R w h e b.given
        (λ d m. omega (arith, b.fewest d m, walk-links m, walk-links b.given))
        (λ d m n. b.lowest d m (omega (arith, walk-links m, walk-links b.given)))

    never-best : {row : List ℕ} → Best (NeverRow R e) row → Least R e (never_by (chain_in row) (ring_in row))
    never-best b =
        let q = b.given in
        let n = names-links R e (never_by q.chain q.ring) q.reason in
        let l : Least R e (never_by q.chain q.ring) = never-least R w h e q.reason
        (λ d t m. omega (arith, b.fewest (d ++ t) (never-row m), names-links R e (never_by d t) m, n, ap length q.joined))
        (λ d t m k. rw (← q.joined) (b.lowest (d ++ t) (never-row m) (omega (arith, names-links R e (never_by d t) m, n, ap length q.joined)))) in
        let p = never-parted R e l in
        rw (q.joined, p.0, p.1) l

    -- a reason there is of an edit that must or can never stand, and of no other
    reason-judged : (r : Reason) → IsReason R e r → (must R e || never R e) ≡ true
    reason-judged (must_by c) m = or_l _ _ ((must-is R w h e).1 (must-true R e c m))
    reason-judged (never_by c r) n = or_r (must R e) _ ((never-is R w e).1 (never-true R e c r n))

    judged-reason : e among names R → (must R e || never R e) ≡ true → (r : Reason) × IsReason R e r
    judged-reason i k =
        or-by (must R e) (never R e) k
        (λ m. let c = must-exists R w h e ((must-is R w h e).0 m) in (must_by c.0, c.1))
        (λ n. let c = never-exists R w e i ((never-is R w e).0 n) in (never_by c.0 c.1.0, c.1.1))

  -- what is given: of a sound record the least reason; of any record nothing only where there is no reason
  abbrev IsGiven : Option Reason → Type 0
  IsGiven None = (r : Reason) → IsReason R e r → ⊥
  IsGiven (Some r) = sound R ≡ true → Least R e r

  given-else : (o p : Option (List ℕ)) → IsShortest (MustReason R e) (most_names R) o → IsShortest (NeverRow R e) (most_names R) p
      → IsGiven (option_or (option_map must_by o) (option_map (λ row. never_by (chain_in row) (ring_in row)) p))
  given-else (Some c) p f g = λ h. must-best h f
  given-else None (Some row) f g = λ h. never-best h g
  given-else None None f g = none-longer f g

  given-least : sound R ≡ true → (o : Option Reason) → IsGiven o → (r : Reason) → Least R e r → o ≡ Some r
  given-least h None g r l = absurd (g r l.given)
  given-least h (Some s) g r l = ap Some (reason-one R e s r (g h) l)

  given-judged : sound R ≡ true → e among names R → (o : Option Reason) → IsGiven o → is_some o ≡ (must R e || never R e)
  given-judged h i None g =
      same_by false (must R e || never R e) (λ k. clash k refl) (λ k. let r = judged-reason h i k in absurd (g r.0 r.1))
  given-judged h i (Some r) g = sym (reason-judged h r (g h).given)

module _ (R : Record) (w : WellFormed R) (a : ascending (names R) ≡ true) where
  -- the searches give the lowest rows of so many names
  init-tails : TailsAre (ends_where (λ x. eqb x 0)) Init
  init-tails x n =
      lowest-same (λ t q. ((eqb-true x 0 q.0.0, q.0.1), q.1)) (λ t q. ((eq-eqb x 0 q.0.0, q.0.1), q.1)) _ (ends-where (λ y. eqb y 0) x n)

  must-search : (e n : ℕ) → IsLowest (OfLength (MustReason R e) n) (must_row R e n)
  unfolding must_row
  must-search e n =
      lowest-same (λ row q. (route-ends q.0, q.1)) (λ row q. (ends-route q.0, q.1)) _
      (lowest-row (enables R) Init (names R) (λ x y l. right-known w x 1 y l) (ends_where (λ x. eqb x 0)) init-tails a e n)

  ring-search : (t : List ℕ) → TailsAre (ring_from R t) (RingFrom R t)
  unfolding ring_from notafter_within
  ring-search t m n =
      lowest-row (notafter_within R t) (Closes R t m) (names R) (λ x y l. right-known w x 0 y (and_l _ _ l))
      (ends_where (λ x. notafter_within R t x m)) (ends-where (λ x. notafter_within R t x m)) a m n

  module _ (e : ℕ) where
    abbrev ToRing : ℕ → List ℕ → Type 0
    ToRing = Route (enabled_by R) (NeededRing R e)

    route-never : {s n : ℕ} {row : List ℕ} → (s ≡ 0) ⊎ (s ≡ e) → OfLength (ToRing s) n row → OfLength (NeverRow R e) n row
    route-never f q =
        let p = route-split q.0 in
        (record { chain = p.chain; ring = p.tail; joined = p.joined; reason = route-reason R w e f p.walk p.ends }, q.1)

    never-route : (n : ℕ) {row : List ℕ} → OfLength (NeverRow R e) n row → OfLength (ToRing 0) n row ⊎ OfLength (ToRing e) n row
    never-route n {row} q =
        let k = q.0.reason in
        let p : ToRing k.start row = rw q.0.joined (reason-route R w e k) in
        ⊎_elim (λ (f : k.start ≡ 0). inl (rw f at p, q.1)) (λ (f : k.start ≡ e). inr (rw f at p, q.1)) k.from

    never-search : (n : ℕ) → IsLowest (OfLength (NeverRow R e) n) (never_row R e n)
    unfolding never_row
    never-search n =
        let t = needs R (0 ∷ e ∷ []) in
        let search : TailsAre _ ToRing =
        lowest-row (enabled_by R) (NeededRing R e) (names R) (λ x y l. left-known w y 1 x l) (ring_from R t) (ring-search t) a in
        lowest-same (λ row q. ⊎_elim (route-never (inl refl)) (route-never (inr refl)) q) (λ row q. never-route n q) _
        (lowest-of (OfLength (ToRing 0) n) _ _ _ (search 0 n) (search e n))

    reason-is-given : IsGiven R w e (reason_of R e)
    unfolding reason_of
    reason-is-given =
        given-else R w e _ _
        (shortest-best (MustReason R e) (must_row R e) (must-search e) (λ m. absurd (omega (arith, walk-links m))) (most_names R))
        (shortest-best (NeverRow R e) (never_row R e) never-search
        (λ q. absurd (omega (arith, ap length q.joined, length-append q.chain q.ring, walk-links q.reason.chained)))
        (most_names R))

    -- Where no reason is given there is none.
    pub reason-none : reason_of R e ≡ None → (r : Reason) → IsReason R e r → ⊥
    reason-none i = subst (IsGiven R w e) i reason-is-given

  module _ (h : sound R ≡ true) (e : ℕ) where
    -- The reason that is given is the least; the least is given; and one is given exactly of an edit that must or can never stand.
    pub reason-least : (r : Reason) → reason_of R e ≡ Some r → Least R e r
    reason-least r i = subst (IsGiven R w e) i (reason-is-given e) h

    pub reason-given : (r : Reason) → Least R e r → reason_of R e ≡ Some r
    reason-given = given-least R w e h (reason_of R e) (reason-is-given e)

    pub reason-some : e among names R → is_some (reason_of R e) ≡ (must R e || never R e)
    reason-some i = given-judged R w e h i (reason_of R e) (reason-is-given e)
