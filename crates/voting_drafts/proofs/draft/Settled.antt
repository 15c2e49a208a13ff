-- The rows "b notafter a", from what is read of the old proposal. Assumes nothing.
use mathlib.Core.Path.{◌≡◌, refl, ap, sym, ◌∙◌}
use mathlib.Core.Bool.{Bool, true, false, cond}
use mathlib.Core.List.{List, [], ◌∷◌}
use Prim.Native.Nat.{ℕ, ◌<◌}
use native.Mathlib.Omega.{arith}
use borrow.Author.Tests.{lt-ltb}
use lib.Dec.{eqb}
use lib.ListN.{length, get_or}
use Rattle.record.specs.declared.Constraint.{Constraint}
use Rattle.lists.specs.Lists.{index_of, ◌among◌}
use Rattle.record.specs.Record.{Record, names, written}
use Rattle.record.specs.Judgement.{settled}
use Rattle.lists.proofs.Lists.{mem_index, is-by}
use Rattle.record.proofs.Records.{written-names}
use Rattle.graph.specs.links.Marks.{name_at, place_in}
use Rattle.graph.proofs.links.Marks.{marks-at}
use Rattle.graph.proofs.links.Names.{get_or-place, place-known}
use Rattle.voting.specs.Proposal.{settled_in, settled_first, firsts}
use Rattle.voting_drafts.specs.draft.Draft.{Settles, settled_rank}
use Rattle.std.specs.Prelude.{flat_map}
use Rattle.voting_drafts.specs.ranking.Ranking.{rank_order, pair_order}
use Rattle.lists.proofs.Tests.{bit_is}
use Rattle.voting_drafts.proofs.draft.Places.{place_none, place-there}

module _ (Q : Record) (index marks : List ℕ) (s : Settles Q index marks) (x i : ℕ) (e : i ≡ get_or index x 0) where
  at_place : i ≡ place_in (0 ∷ written Q) x
  unfolding names
  at_place = e ∙ s.indexed x

  unknown-is : i ≡ 0 → false ≡ settled_in Q x
  unfolding settled_in
  unknown-is z = rw (place_none (written Q) x (λ q. rw q s.formed.unwritten) (sym at_place ∙ z))

  draft-known-is : (i ≡ 0 → ⊥) → eqb (get_or marks i 0) 1 ≡ settled_in Q x
  unfolding settled_in
  draft-known-is z =
      let m : x among written Q = place-there (written Q) x (λ q. z (at_place ∙ q)) in
      let k : x among names Q = written-names Q x m in
      let p : i ≡ index_of x (names Q) = e ∙ s.indexed x ∙ place-known x (names Q) k in
      let l : i < length (names Q) = let b = mem_index x (names Q) k in omega arith in
      let n : name_at Q i ≡ x = ap (name_at Q) p ∙ get_or-place x (names Q) k in
      let v : get_or marks i 0 ≡ cond (settled Q x) 1 0 = ap (λ (t : List ℕ). get_or t i 0) s.marked ∙ marks-at Q (settled Q) i l ∙ ap (λ (y : ℕ). cond (settled Q y) 1 0) n in
      rw (v, m) (bit_is (settled Q x))

  settled-rank : settled_rank marks i ≡ cond (settled_in Q x) 1 2
  settled-rank =
      is-by i 0
      (λ z. let u : settled_in Q x ≡ false = sym (unknown-is z) in rw (z, u))
      (λ z. let p : 0 < i = omega (arith, z) in rw (lt-ltb 0 i p) (ap (λ (b : Bool). cond b 1 2) (draft-known-is z)))

-- with the ranks of an old proposal the pairs are ordered by what was settled in it
module _ (Q : Record) (index marks : List ℕ) (s : Settles Q index marks) where
  first-by-rank : (l m : Bool) (a b : ℕ) → rank_order (cond l 1 2) (cond m 1 2) a b ≡ settled_first l m a b
  unfolding rank_order
  first-by-rank true true a b = refl
  first-by-rank true false a b = refl
  first-by-rank false true a b = refl
  first-by-rank false false a b = refl

  rank_is : (x : ℕ) → settled_rank marks (get_or index x 0) ≡ cond (settled_in Q x) 1 2
  rank_is x = settled-rank Q index marks s x (get_or index x 0) refl

  pub firsts-by-rank : (l : List Constraint) → flat_map (pair_order (λ x. settled_rank marks (get_or index x 0))) l ≡ firsts Q l
  unfolding firsts
  firsts-by-rank [] = refl
  firsts-by-rank (c ∷ l) = rw (rank_is c.left, rank_is c.right, first-by-rank (settled_in Q c.left) (settled_in Q c.right) c.left c.right, firsts-by-rank l)
