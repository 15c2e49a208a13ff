-- The eight proposals, bench by bench, and the vote of one. Assumes nothing.
use mathlib.Core.Path.{◌≡◌, refl, sym, ap, ◌∙◌}
use mathlib.Core.Bool.{true, false}
use mathlib.Core.List.{List, [], ◌∷◌, map}
use mathlib.Core.Option.{none}
use Prim.Native.Nat.{ℕ, zero, suc, ◌+◌, ◌-◌, ◌≤◌, ◌<◌}
use native.Mathlib.Omega.{arith}
use lib.ListN.{length, get_or, get_or-map}
use borrow.Author.Tests.{ne_eqb}
use Rattle.record.specs.declared.Record as declared
use Rattle.lists.specs.Lists.{mem}
use Rattle.record.specs.Record.{Record, written}
use Rattle.record.specs.Stored.{stored}
use Rattle.lists.proofs.Lists.{is-by}
use Rattle.record_rows.specs.grounds.Ground.{Rows}
use Rattle.record_tables.specs.Table.{empty_tables, decoded, lent_fault}
use Rattle.voting.specs.Bundle.{bundle, eligible, vote}
use Rattle.voting_tally.specs.declared.Vote.TheVariants.{Bundle}
use Rattle.voting_tally.specs.Groups.{cast_of}
use Rattle.voting_count.specs.Count.{lent_proposals}
use Rattle.voting_roll.specs.Election.{benches, held, proposal_fault, first_given}

-- a vote by its two tests
pub vote-unknown : (R : Record) (e : ℕ) → mem e (written R) ≡ false → cast_of none ≡ cast_of (vote R e)
unfolding vote
vote-unknown R e h = rw h

pub vote-open : (R : Record) (e : ℕ) → mem e (written R) ≡ true → eligible R e ≡ false → cast_of none ≡ cast_of (vote R e)
unfolding vote
vote-open R e h k = rw (h, k)

pub vote-eligible : (R : Record) (e : ℕ) (b : declared.Record) → b ≡ stored (bundle R e) → mem e (written R) ≡ true → eligible R e ≡ true → record { vote = Bundle; bundle = b } ≡ cast_of (vote R e)
unfolding vote
vote-eligible R e b q h k = rw (h, k) (λ i. record { vote = Bundle; bundle = q i })

-- bench k + 1 stands at place k
pub bench-at : (k : ℕ) → k < 8 → get_or benches k 0 ≡ k + 1
bench-at zero h = refl
bench-at (suc zero) h = refl
bench-at (suc (suc zero)) h = refl
bench-at (suc (suc (suc zero))) h = refl
bench-at (suc (suc (suc (suc zero)))) h = refl
bench-at (suc (suc (suc (suc (suc zero))))) h = refl
bench-at (suc (suc (suc (suc (suc (suc zero)))))) h = refl
bench-at (suc (suc (suc (suc (suc (suc (suc zero))))))) h = refl
bench-at (suc (suc (suc (suc (suc (suc (suc (suc k)))))))) h = absurd (omega arith)

-- the first number that is given
module _ (f : ℕ → ℕ) where
  pub given-hit : (l : List ℕ) (k : ℕ) → k < length l → ((j : ℕ) → j < k → f (get_or l j 0) ≡ 0) → (f (get_or l k 0) ≡ 0 → ⊥) → f (get_or l k 0) ≡ first_given f l
  unfolding first_given
  given-hit [] k h z n = absurd (omega arith)
  given-hit (x ∷ l) zero h z n = rw (ne_eqb (f x) 0 n)
  given-hit (x ∷ l) (suc k) h z n = rw (z 0 (omega arith)) (given-hit l k (omega arith) (λ j i. z (suc j) (omega arith)) n)

  pub benches-given-none : (l : List ℕ) → ((j : ℕ) → j < length l → f (get_or l j 0) ≡ 0) → 0 ≡ first_given f l
  unfolding first_given
  benches-given-none [] z = refl
  benches-given-none (x ∷ l) z = rw (z 0 (omega arith)) (benches-given-none l (λ j i. z (suc j) (omega arith)))

-- the proposal of the bench at place k, past the eighth an empty one
pub rows-at : {A : Type 0} (rows : A → Rows) (l : List A) (k : ℕ) (a : A) → rows a ≡ [] → get_or (map rows l) (k + 1 - 1) [] ≡ rows (get_or l k a)
rows-at rows l k a e = let z : k + 1 - 1 ≡ k = omega arith in rw (z, ← e) (get_or-map rows l k a)

module _ {A B : Type 0} (rows : A → Rows) (cells : B → Rows) (es : List A) (cs : List B) (k : ℕ) (a : A) (b : B) (ea : rows a ≡ []) (eb : cells b ≡ []) where
  pub held_at : held (lent_proposals (map rows es) (map cells cs)) (k + 1) ≡ decoded (rows (get_or es k a)) (cells (get_or cs k b))
  unfolding held
  held_at = rw (rows-at rows es k a ea, rows-at cells cs k b eb)

  pub fault-at : proposal_fault (lent_proposals (map rows es) (map cells cs)) (k + 1) ≡ lent_fault empty_tables (rows (get_or es k a)) (cells (get_or cs k b))
  unfolding proposal_fault
  fault-at = rw (rows-at rows es k a ea, rows-at cells cs k b eb)

-- the walk over the rows of the proposals: no fault below place k
module _ {A B : Type 0} (rows : A → Rows) (cells : B → Rows) (es : List A) (cs : List B) where
  abbrev pub FaultlessBelow : ℕ → Type 0
  FaultlessBelow k = (j : ℕ) → j < k → proposal_fault (lent_proposals (map rows es) (map cells cs)) (get_or benches j 0) ≡ 0

  module _ (k : ℕ) (h : k < 8) (a : A) (b : B) (ea : rows a ≡ []) (eb : cells b ≡ []) (n : ℕ) (e : n ≡ lent_fault empty_tables (rows (get_or es k a)) (cells (get_or cs k b))) (w : FaultlessBelow k) where
    fault-is : proposal_fault (lent_proposals (map rows es) (map cells cs)) (get_or benches k 0) ≡ n
    fault-is = ap (proposal_fault (lent_proposals (map rows es) (map cells cs))) (bench-at k h) ∙ (fault-at rows cells es cs k a b ea eb ∙ sym e)

    pub first-fault : (n ≡ 0 → ⊥) → n ≡ first_given (proposal_fault (lent_proposals (map rows es) (map cells cs))) benches
    first-fault z = sym fault-is ∙ given-hit (proposal_fault (lent_proposals (map rows es) (map cells cs))) benches k h w (λ q. z (sym fault-is ∙ q))

    pub count-no-fault : n ≡ 0 → FaultlessBelow (k + 1)
    count-no-fault z j l = is-by j k (λ q. rw q (fault-is ∙ z)) (λ q. w j (omega (arith, q)))

  pub all-faultless : (k : ℕ) → 8 ≤ k → FaultlessBelow k → 0 ≡ first_given (proposal_fault (lent_proposals (map rows es) (map cells cs))) benches
  all-faultless k h w = benches-given-none (proposal_fault (lent_proposals (map rows es) (map cells cs))) benches (λ j l. w j (omega arith))
