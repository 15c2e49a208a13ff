-- What is added to a checked record while a proposal is made leaves it checked, where it has places. Assumes nothing.
use mathlib.Core.Path.{◌≡◌, refl}
use mathlib.Core.Bool.{Bool, true, false, not, ◌&&◌, ◌||◌}
use mathlib.Core.Logic.{◌⊎◌, inl, inr, ⊎_elim}
use mathlib.Core.List.{List, [], ◌∷◌, ◌++◌}
use Prim.Native.Nat.{ℕ, ◌≤◌, ◌<◌}
use native.Mathlib.Omega.{arith}
use borrow.Author.Tests.{lt-ltb}
use lib.Dec.{eqb}
use lib.ListN.{length}
use Rattle.record.specs.declared.Constraint.{Constraint}
use Rattle.lists.specs.Lists.{mem, ◌among◌, Has}
use Rattle.record.specs.Record.{Record, names, written}
use Rattle.record.specs.Schedule.{schedule}
use Rattle.lists.proofs.Lists.{by}
use Rattle.record.proofs.Records.{written-names, init-known, right-written, not-init}
use Rattle.lists.specs.Keyed.{united}
use Rattle.lists.proofs.Logic.{all-has, all-by, has-append-by}
use Rattle.lists.proofs.Union.{ascending-united, united-has}
use Rattle.record_rows.specs.row.Row.{is_name, is_side, edit_in_range, constraint_in_range, edit_row, constraint_row}
use Rattle.record_rows.proofs.row.Cells.{edit-in-range}
use Rattle.record_tables.specs.Table.{pair_not_allowed, constraint_key, unite}
use Rattle.record_tables.specs.Checked.{Checked}
use Rattle.record_tables.proofs.Unions.{mem-by}
use Rattle.record_tables.proofs.Records.{checked-wellformed}
use Rattle.graph.proofs.indexes.Fit.{checked-fit}
use Rattle.voting.specs.Proposal.{joined_constraints, before, unordered, firsts, started, decisions, orders, finished}
use Rattle.voting.proofs.Joined.{in-has}
use Rattle.voting.proofs.Finished.{Decides, decisions-by, orders-by, unordered-from}
use Rattle.voting.proofs.Proposed.{firsts-by}

-- a row that is added: an order of two edits, or a decision
abbrev pub Added : Record → Constraint → Type 0
Added R c = ((c.left among written R) × (c.rule ≡ 0) × (c.right among written R)) ⊎ ((c.left among written R) × (c.rule ≡ 1) × (c.right ≡ 0))

module _ (R : Record) (k : Checked R) where
  side : (x : ℕ) → x among written R → is_side x ≡ true
  unfolding written is_side edit_row
  side x h = mem-by x R.edits h (λ e m q.
      let n : is_name e.name ≡ true = (edit-in-range (edit_row e) (all-has (λ e. edit_in_range (edit_row e)) R.edits k.editrange e m)).name in
      rw (q, n) (either (eqb e.name 0)))
    where
      either : (b : Bool) → (b || true) ≡ true
      either true = refl
      either false = refl

  known : (x : ℕ) → x among written R → mem x (names R) ≡ true
  known x h = written-names R x h

range-is : (a k b : ℕ) → is_side a ≡ true → k < 3 → is_side b ≡ true → constraint_in_range (a ∷ k ∷ b ∷ []) ≡ true
unfolding constraint_in_range
range-is a k b h l i = rw (h, lt-ltb k 3 l, i)

order-allowed : (a b : ℕ) → eqb a 0 ≡ false → eqb b 0 ≡ false → pair_not_allowed a 0 b ≡ false
unfolding pair_not_allowed
order-allowed a b p q = rw (p, q) (by (eqb a b) (λ e. rw e) (λ e. rw e))

required-allowed : (a : ℕ) → eqb a 0 ≡ false → pair_not_allowed a 1 0 ≡ false
unfolding pair_not_allowed
required-allowed a p = rw p

init-side : is_side 0 ≡ true
unfolding is_side
init-side = refl

-- what an added row has
module _ (R : Record) (k : Checked R) (c : Constraint) where
  added-range : Added R c → constraint_in_range (constraint_row c) ≡ true
  unfolding constraint_row
  added-range (inl a) = range-is c.left c.rule c.right (side R k c.left a.0) (let e = a.1 in omega arith) (side R k c.right a.2)
  added-range (inr a) = range-is c.left c.rule c.right (side R k c.left a.0) (let e = a.1 in omega arith) (rw a.2 init-side)

  added-sides : Added R c → (mem c.left (names R) ≡ true) × (mem c.right (names R) ≡ true)
  added-sides (inl a) = (known R k c.left a.0, known R k c.right a.2)
  added-sides (inr a) = (known R k c.left a.0, rw a.2 (init-known R))

  added-allowed : Added R c → pair_not_allowed c.left c.rule c.right ≡ false
  added-allowed (inl a) = rw a.1 (order-allowed c.left c.right (not-init (checked-wellformed R k) c.left a.0) (not-init (checked-wellformed R k) c.right a.2))
  added-allowed (inr a) = rw (a.1, a.2) (required-allowed c.left (not-init (checked-wellformed R k) c.left a.0))

module _ (R : Record) (k : Checked R) (l : List Constraint) (f : (c : Constraint) → Has c l → Added R c) where
  either {ℓ} : {P : Type ℓ} (c : Constraint) → Has c (united constraint_key R.constraints l) → (Has c R.constraints → P) → (Added R c → P) → P
  either {P = P} c m g h = ⊎_elim {C = P} g (λ (i : Has c l). h (f c i)) (united-has constraint_key c R.constraints l m)

  pub added-checked : length (united constraint_key R.constraints l) ≤ 512 → Checked (joined_constraints R l)
  unfolding joined_constraints names written
  added-checked w =
      record {
        editplaces = k.editplaces;
        constraintplaces = w;
        editorder = k.editorder;
        constraintorder = ascending-united constraint_key R.constraints l k.constraintorder;
        editrange = k.editrange;
        constraintrange = all-by (λ c. constraint_in_range (constraint_row c)) (united constraint_key R.constraints l)
            (λ c m. either c m (all-has (λ c. constraint_in_range (constraint_row c)) R.constraints k.constraintrange c) (added-range R k c));
        sides = all-by (λ c. mem c.left (names R) && mem c.right (names R)) (united constraint_key R.constraints l)
            (λ c m. either c m (all-has (λ c. mem c.left (names R) && mem c.right (names R)) R.constraints k.sides c) (λ a. let s = added-sides R k c a in rw (s.0, s.1)));
        pairs = all-by (λ c. not (pair_not_allowed c.left c.rule c.right)) (united constraint_key R.constraints l)
            (λ c m. either c m (all-has (λ c. not (pair_not_allowed c.left c.rule c.right)) R.constraints k.pairs c) (λ a. let s : pair_not_allowed c.left c.rule c.right ≡ false = added-allowed R k c a in rw s));
      }

-- the ends of a pair with no order
module _ (R : Record) (k : Checked R) (d : Constraint) (m : Has d (unordered R)) where
  pair_left : d.left among written R
  pair_left = (checked-wellformed R k).left d.left 2 d.right (unordered-from R d m).0

  pair-right : d.right among written R
  pair-right = right-written (checked-wellformed R k) d.left 2 d.right (unordered-from R d m).0 (λ z. omega arith)

-- the rows "b notafter a"
firsts-added : (U Q : Record) → Checked U → (c : Constraint) → Has c (firsts Q (unordered U)) → Added U c
firsts-added U Q k c h =
    firsts-by Q (unordered U) c h
    (λ d m o. ⊎_elim (λ (e : c ≡ before d.left d.right). inl (rw e (pair_left U k d m, refl, pair-right U k d m)))
    (λ (e : c ≡ before d.right d.left). inl (rw e (pair-right U k d m, refl, pair_left U k d m))) o)

pub started-checked : (M Q : Record) → Checked (unite M Q) → length (started M Q).constraints ≤ 512 → Checked (started M Q)
unfolding started joined_constraints
started-checked M Q k w = added-checked (unite M Q) k (firsts Q (unordered (unite M Q))) (firsts-added (unite M Q) Q k) w

-- decisions and orders
decided-added : (R : Record) (row : List ℕ) (c : Constraint) → (c.left among written R) × Decides row c.left c.rule c.right → Added R c
decided-added R row c (h, inl d) = inr (h, d.1, d.2)
decided-added R row c (h, inr d) = inl (h, d.1, rw d.2 h)

finished-added : (R : Record) → Checked R → (row : List ℕ) (c : Constraint) → Has c (decisions row (written R) ++ orders row (unordered R)) → Added R c
finished-added R k row c h =
    has-append-by c (decisions row (written R)) (orders row (unordered R)) h
    (λ m. decided-added R row c (decisions-by row (written R) c.left c.rule c.right (in-has c (decisions row (written R)) m)))
    (λ m. let e = orders-by (written R) row (unordered R)
    (λ d n. record { lower = (checked-fit R k).paired d.left d.right (unordered-from R d n).0; left = pair_left R k d n; right = pair-right R k d n })
    c.left c.rule c.right (in-has c (orders row (unordered R)) m) in
    inl (e.left-known, e.rule, e.right-known))

pub finished-checked : (R : Record) → Checked R → length (finished R).constraints ≤ 512 → Checked (finished R)
unfolding finished joined_constraints
finished-checked R k w = added-checked R k (decisions (schedule R []) (written R) ++ orders (schedule R []) (unordered R)) (finished-added R k (schedule R [])) w
