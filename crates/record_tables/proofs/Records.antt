-- Checked records: what joins a checked record without fault leaves one, its own rows meet no ground, and it is well formed. Assumes nothing.
use mathlib.Core.Path.{◌≡◌, refl, ap, sym, ◌∙◌}
use mathlib.Core.Bool.{Bool, true, false, not, ◌&&◌, ◌||◌}
use mathlib.Core.Logic.{inl, inr, ⊎_elim}
use mathlib.Core.List.{List, [], ◌∷◌, map}
use Prim.Native.Nat.{ℕ, zero, suc, ◌≤◌, ◌<◌}
use native.Mathlib.Omega.{arith}
use borrow.Author.Tests.{eqb-true, not-true, not-false, lt-ltb}
use lib.Dec.{ltb, eqb}
use lib.ListN.{length, length-map}
use Rattle.lists.proofs.Lists.{by, and_l, and_r, or-no-l, or-no-r}
use Rattle.record.specs.declared.Edit.{Edit}
use Rattle.record.specs.declared.Constraint.{Constraint}
use Rattle.lists.specs.Lists.{any, all, mem, ascending, find, grown, closure, Has}
use Rattle.record.specs.Record.{Record, written, names, name_of, is, has, WellFormed}
use Rattle.record.specs.Schedule.{needs, musts, ready, order, ring}
use Rattle.record.specs.Judgement.{sound}
use Rattle.lists.specs.Keyed.{Below, Ascending, united}
use Rattle.lists.proofs.Logic.{has-map, any-by, all-has, all-by}
use Rattle.lists.proofs.Order.{less_one}
use Rattle.lists.proofs.Union.{ascending-united, united-has, united-new, agree-self}
use Rattle.record_rows.specs.row.Row.{Row, cell, is_name, edit_in_range, constraint_in_range, edit_of, constraint_of, edit_row, constraint_row}
use Rattle.record_rows.proofs.row.Cells.{edit-in-range, name-not-zero}
use Rattle.record_rows.specs.grounds.Ground.{Rows, table_fault, ◌given◌, ◌orelse◌}
use Rattle.record_rows.proofs.grounds.Grounds.{orelse-none, orelse-second, given-none}
use Rattle.record_rows.proofs.grounds.Accepted.{accepted-range}
use Rattle.record_rows.proofs.grounds.Decoded.{decoded-again, elements-accepted, lent-range, lent-further, lent-ascending, lent-within, lent-agree, lent-places}
use Rattle.record_tables.specs.Table.{unknown, pair_not_allowed, decision, constraint_further, edit_kind, constraint_kind, edit_rows, constraint_rows, decoded, empty_tables, join_fault, names_of, lent_fault, add_edit_fault, add_constraint_fault, record_join_fault, edit_key, constraint_key, unite}
use Rattle.record_tables.specs.Checked.{Checked}
use Rattle.record_tables.proofs.Elements.{edit_elements, constraint_elements, edit_coding, constraint_coding}
use Rattle.record_tables.proofs.Unions.{mem-by, united-extends, joining-extends, united-empty}

pub empty-checked : Checked empty_tables
unfolding all
empty-checked =
    record {
      editplaces = omega arith;
      constraintplaces = omega arith;
      editorder = tt;
      constraintorder = tt;
      editrange = refl;
      constraintrange = refl;
      sides = refl;
      pairs = refl;
    }

pub empty-sound : sound empty_tables ≡ true
unfolding sound musts ring order ready needs names written has closure grown find any mem
empty-sound = refl

-- a constraint without 5 and 6
pub record Sides (known : List ℕ) (c : Constraint) : Type 0 where
  pub left : mem c.left (0 ∷ known) ≡ true
  pub right : mem c.right (0 ∷ known) ≡ true
  pub pair : pair_not_allowed c.left c.rule c.right ≡ false

further-none : (known : List ℕ) (adding : Bool) (c : Constraint) → constraint_further known adding (constraint_row c) ≡ 0 → Sides known c
unfolding constraint_further constraint_row unknown
further-none known adding c h =
    let l = mem c.left (0 ∷ known) in
    let r = mem c.right (0 ∷ known) in
    let p = pair_not_allowed c.left c.rule c.right in
    let d = adding && decision c.left c.rule c.right in
    let a = orelse-none (5 given not (l && r)) (6 given p orelse 7 given d) h in
    let b = orelse-none (6 given p) (7 given d) a.1 in
    let e : (l && r) ≡ true = not-false (l && r) (given-none 4 (not (l && r)) a.0) in
    record { left = and_l l r e; right = and_r l r e; pair = given-none 5 p b.0 }

further-is : (known : List ℕ) (c : Constraint) → Sides known c → constraint_further known false (constraint_row c) ≡ 0
unfolding constraint_further constraint_row unknown
further-is known c s = rw (s.left, s.right, s.pair)

-- what is known to a constraint is known to the record
pub checked-sides : (R : Record) → Checked R → (c : Constraint) → Has c R.constraints → Sides (written R) c
unfolding names
checked-sides R k c m =
    let s = all-has (λ c. mem c.left (names R) && mem c.right (names R)) R.constraints k.sides c m in
    record {
      left = and_l (mem c.left (names R)) (mem c.right (names R)) s;
      right = and_r (mem c.left (names R)) (mem c.right (names R)) s;
      pair = not-true (pair_not_allowed c.left c.rule c.right) (all-has (λ c. not (pair_not_allowed c.left c.rule c.right)) R.constraints k.pairs c m);
    }

more-names : (s t : List ℕ) → ((x : ℕ) → mem x s ≡ true → mem x t ≡ true) → (x : ℕ) → mem x (0 ∷ s) ≡ true → mem x (0 ∷ t) ≡ true
unfolding mem
more-names s t f x h = by (eqb x 0) (λ e. rw e) (λ e. rw e (f x (rw e at h)))

-- two tables without fault join a checked record, where their constraints know no edit that is not of the union
module _ (R : Record) (known : List ℕ) (adding : Bool) (es cs : Rows) (k : Checked R) (h : join_fault R known adding es cs ≡ 0) where
  pub both : (table_fault edit_kind (edit_rows R) es ≡ 0) × (table_fault (constraint_kind known adding) (constraint_rows R) cs ≡ 0)
  unfolding join_fault
  both = orelse-none (table_fault edit_kind (edit_rows R) es) (table_fault (constraint_kind known adding) (constraint_rows R) cs) h

  abbrev S : Record
  S = decoded es cs

  pub joining-edits : Ascending edit_key S.edits
  joining-edits = lent-ascending edit_elements edit_coding R.edits es both.0

  pub joining-constraints : Ascending constraint_key S.constraints
  joining-constraints = lent-ascending (constraint_elements known adding) (constraint_coding known adding) R.constraints cs both.1

  pub joined-editplaces : length (united edit_key R.edits S.edits) ≤ 127
  joined-editplaces = lent-within edit_elements edit_coding R.edits es both.0 k.editorder k.editplaces

  pub joined-constraintplaces : length (united constraint_key R.constraints S.constraints) ≤ 512
  joined-constraintplaces = lent-within (constraint_elements known adding) (constraint_coding known adding) R.constraints cs both.1 k.constraintorder k.constraintplaces

  -- an edit that joins keeps its body
  pub joining-kept : (e : Edit) → Has e S.edits → Has e (united edit_key R.edits S.edits)
  joining-kept e m =
      united-new edit_key e R.edits S.edits
      (lent-agree edit_elements edit_coding R.edits es both.0 (λ x n. all-has (λ e. edit_in_range (edit_row e)) R.edits k.editrange x n))
      (agree-self edit_key S.edits joining-edits) m

  module _ (f : (x : ℕ) → mem x known ≡ true → mem x (written (unite R S)) ≡ true) where
    edit-ranges : (e : Edit) → Has e (united edit_key R.edits S.edits) → edit_in_range (edit_row e) ≡ true
    edit-ranges e m =
        ⊎_elim (λ (n : Has e R.edits). all-has (λ e. edit_in_range (edit_row e)) R.edits k.editrange e n)
        (λ (n : Has e S.edits). lent-range edit_elements edit_coding R.edits es both.0 e n)
        (united-has edit_key e R.edits S.edits m)

    constraint-ranges : (c : Constraint) → Has c (united constraint_key R.constraints S.constraints) → constraint_in_range (constraint_row c) ≡ true
    constraint-ranges c m =
        ⊎_elim (λ (n : Has c R.constraints). all-has (λ c. constraint_in_range (constraint_row c)) R.constraints k.constraintrange c n)
        (λ (n : Has c S.constraints). lent-range (constraint_elements known adding) (constraint_coding known adding) R.constraints cs both.1 c n)
        (united-has constraint_key c R.constraints S.constraints m)

    side-more : (s : List ℕ) (c : Constraint) → ((x : ℕ) → mem x s ≡ true → mem x (written (unite R S)) ≡ true) → Sides s c → Sides (written (unite R S)) c
    side-more s c g z =
        record { left = more-names s (written (unite R S)) g c.left z.left; right = more-names s (written (unite R S)) g c.right z.right; pair = z.pair }

    joined-sides : (c : Constraint) → Has c (united constraint_key R.constraints S.constraints) → Sides (written (unite R S)) c
    joined-sides c m =
        ⊎_elim (λ (n : Has c R.constraints). side-more (written R) c (united-extends R S).edits (checked-sides R k c n))
        (λ (n : Has c S.constraints). side-more known c f (further-none known adding c (lent-further (constraint_elements known adding) (constraint_coding known adding) R.constraints cs both.1 c n)))
        (united-has constraint_key c R.constraints S.constraints m)

    pub union-checked : Checked (unite R S)
    unfolding unite names
    union-checked =
        record {
          editplaces = joined-editplaces;
          constraintplaces = joined-constraintplaces;
          editorder = ascending-united edit_key R.edits S.edits k.editorder;
          constraintorder = ascending-united constraint_key R.constraints S.constraints k.constraintorder;
          editrange = all-by (λ e. edit_in_range (edit_row e)) (united edit_key R.edits S.edits) edit-ranges;
          constraintrange = all-by (λ c. constraint_in_range (constraint_row c)) (united constraint_key R.constraints S.constraints) constraint-ranges;
          sides = all-by (λ c. mem c.left (names (unite R S)) && mem c.right (names (unite R S))) (united constraint_key R.constraints S.constraints) (λ c m. let z = joined-sides c m in rw (z.left, z.right));
          pairs = all-by (λ c. not (pair_not_allowed c.left c.rule c.right)) (united constraint_key R.constraints S.constraints) (λ c m. let z = joined-sides c m in rw z.pair);
        }

-- the names of a table of edits without fault are those of the edits that it is
row-names : (R : Record) (es : Rows) → table_fault edit_kind (edit_rows R) es ≡ 0 → names_of es ≡ map name_of (map edit_of es)
row-names R es h = go es (accepted-range edit_kind (edit_rows R) es h)
  where
    go : (t : Rows) → ((x : Row) → Has x t → edit_in_range x ≡ true) → names_of t ≡ map name_of (map edit_of t)
    go [] f = refl
    go (x ∷ t) f =
        let e : cell x 0 ≡ (edit_of x).name = sym (ap name_of (edit-in-range x (f x (inl refl))).decoded) in
        let g : names_of t ≡ map name_of (map edit_of t) = go t (λ y m. f y (inr m)) in
        cc

-- a lent record without fault joins a checked one
module _ (R : Record) (es cs : Rows) (k : Checked R) (h : lent_fault R es cs ≡ 0) where
  own-names : (x : ℕ) → mem x (names_of es) ≡ true → mem x (written (unite R (decoded es cs))) ≡ true
  unfolding written
  own-names x m = (joining-extends R (decoded es cs)).edits x (rw (row-names R es (both R (names_of es) false es cs k h).0) at m)

  pub joined-checked : Checked (unite R (decoded es cs))
  joined-checked = union-checked R (names_of es) false es cs k h own-names

  -- and is checked by itself
  pub joining-checked : Checked (decoded es cs)
  unfolding names written
  joining-checked =
      let f = both R (names_of es) false es cs k h in
      let known : names_of es ≡ written (decoded es cs) = row-names R es f.0 in
      let z : (c : Constraint) → Has c (map constraint_of cs) → Sides (written (decoded es cs)) c =
      λ c m. rw known at (further-none (names_of es) false c (lent-further (constraint_elements (names_of es) false) (constraint_coding (names_of es) false) R.constraints cs f.1 c m)) in
      record {
        editplaces = rw (length-map es edit_of) (lent-places edit_elements edit_coding R.edits es f.0 k.editorder (all-has (λ e. edit_in_range (edit_row e)) R.edits k.editrange) k.editplaces);
        constraintplaces = rw (length-map cs constraint_of) (lent-places (constraint_elements (names_of es) false) (constraint_coding (names_of es) false) R.constraints cs f.1 k.constraintorder (all-has (λ c. constraint_in_range (constraint_row c)) R.constraints k.constraintrange) k.constraintplaces);
        editorder = joining-edits R (names_of es) false es cs k h;
        constraintorder = joining-constraints R (names_of es) false es cs k h;
        editrange = all-by (λ e. edit_in_range (edit_row e)) (map edit_of es) (lent-range edit_elements edit_coding R.edits es f.0);
        constraintrange = all-by (λ c. constraint_in_range (constraint_row c)) (map constraint_of cs) (lent-range (constraint_elements (names_of es) false) (constraint_coding (names_of es) false) R.constraints cs f.1);
        sides = all-by (λ c. mem c.left (names (decoded es cs)) && mem c.right (names (decoded es cs))) (map constraint_of cs) (λ c m. rw ((z c m).left, (z c m).right));
        pairs = all-by (λ c. not (pair_not_allowed c.left c.rule c.right)) (map constraint_of cs) (λ c m. rw (z c m).pair);
      }

-- a lent record without fault by itself
pub lent-checked : (es cs : Rows) → lent_fault empty_tables es cs ≡ 0 → Checked (decoded es cs)
lent-checked es cs h =
    let a = joining-edits empty_tables (names_of es) false es cs empty-checked h in
    let b = joining-constraints empty_tables (names_of es) false es cs empty-checked h in
    rw (united-empty (decoded es cs) a b) at (joined-checked empty_tables es cs empty-checked h)

-- one edit, or one constraint, without fault is added to a checked record
pub added-edit-checked : (R : Record) (row : Row) → Checked R → add_edit_fault R row ≡ 0 → Checked (unite R (decoded (row ∷ []) []))
added-edit-checked R row k h = union-checked R (written R) true (row ∷ []) [] k h (united-extends R (decoded (row ∷ []) [])).edits

pub added-constraint-checked : (R : Record) (row : Row) → Checked R → add_constraint_fault R row ≡ 0 → Checked (unite R (decoded [] (row ∷ [])))
added-constraint-checked R row k h = union-checked R (written R) true [] (row ∷ []) k h (united-extends R (decoded [] (row ∷ []))).edits

-- the rows of a record, in range, are decoded to it
pub rows-decoded : (S : Record) → ((e : Edit) → Has e S.edits → edit_in_range (edit_row e) ≡ true) → ((c : Constraint) → Has c S.constraints → constraint_in_range (constraint_row c) ≡ true)
    → decoded (edit_rows S) (constraint_rows S) ≡ S
rows-decoded S f g =
    let p : map edit_of (edit_rows S) ≡ S.edits = decoded-again edit_elements edit_coding S.edits f in
    let q : map constraint_of (constraint_rows S) ≡ S.constraints = decoded-again (constraint_elements [] false) (constraint_coding [] false) S.constraints g in
    λ i. record { edits = p i; constraints = q i }

pub checked-decoded : (R : Record) → Checked R → decoded (edit_rows R) (constraint_rows R) ≡ R
checked-decoded R k =
    rows-decoded R (all-has (λ e. edit_in_range (edit_row e)) R.edits k.editrange) (all-has (λ c. constraint_in_range (constraint_row c)) R.constraints k.constraintrange)

-- a record whose rows join a checked one without fault
module _ (R S : Record) (k : Checked R) (h : record_join_fault R S ≡ 0) where
  pub record-decoded : decoded (edit_rows S) (constraint_rows S) ≡ S
  record-decoded =
      let p = both R (names_of (edit_rows S)) false (edit_rows S) (constraint_rows S) k h in
      rows-decoded S (λ e m. accepted-range edit_kind (edit_rows R) (edit_rows S) p.0 (edit_row e) (has-map edit_row e S.edits m))
      (λ c m. accepted-range (constraint_kind (names_of (edit_rows S)) false) (constraint_rows R) (constraint_rows S) p.1 (constraint_row c) (has-map constraint_row c S.constraints m))

  pub record-checked : Checked (unite R S)
  record-checked = rw record-decoded at (joined-checked R (edit_rows S) (constraint_rows S) k h)

-- a checked record's own rows, lent, meet no ground
pub checked-faultless : (R : Record) → Checked R → lent_fault empty_tables (edit_rows R) (constraint_rows R) ≡ 0
unfolding join_fault edit_row written
checked-faultless R k =
    let own = names_of (edit_rows R) in
    let same : own ≡ written R = own_is R.edits in
    let e = elements-accepted edit_elements edit_coding R.edits (all-has (λ e. edit_in_range (edit_row e)) R.edits k.editrange) (λ x m. refl) k.editorder k.editplaces in
    let c = elements-accepted (constraint_elements own false) (constraint_coding own false) R.constraints (all-has (λ c. constraint_in_range (constraint_row c)) R.constraints k.constraintrange)
    (λ x m. rw same (further-is (written R) x (checked-sides R k x m))) k.constraintorder k.constraintplaces in
    orelse-second (table_fault edit_kind [] (edit_rows R)) (table_fault (constraint_kind own false) [] (constraint_rows R)) e ∙ c
  where
    own_is : (l : List Edit) → names_of (map edit_row l) ≡ map name_of l
    own_is [] = refl
    own_is (e ∷ l) = ap (λ (t : List ℕ). e.name ∷ t) (own_is l)

-- a checked record is well formed
checked-name : (R : Record) → Checked R → (e : Edit) → Has e R.edits → is_name e.name ≡ true
unfolding edit_row
checked-name R k e m = (edit-in-range (edit_row e) (all-has (λ e. edit_in_range (edit_row e)) R.edits k.editrange e m)).name

pub checked-unwritten : (R : Record) → Checked R → mem 0 (written R) ≡ false
unfolding written
checked-unwritten R k =
    by (mem 0 (written R)) (λ h. mem-by 0 R.edits h (λ e m p. absurd (name-not-zero e.name (checked-name R k e m) (sym p)))) (λ h. h)

-- what an allowed pair has
pair_left : (left rule right : ℕ) → pair_not_allowed left rule right ≡ false → eqb left 0 ≡ false
unfolding pair_not_allowed
pair_left left rule right h = or-no-l (eqb left 0) ((eqb right 0 && not (eqb rule 1)) || ((eqb left right && not (eqb rule 0)) || (eqb rule 2 && ltb right left))) h

pair-right : (left rule right : ℕ) → pair_not_allowed left rule right ≡ false → eqb right 0 ≡ true → rule ≡ 1
unfolding pair_not_allowed
pair-right left rule right h e =
    let a = or-no-r (eqb left 0) ((eqb right 0 && not (eqb rule 1)) || ((eqb left right && not (eqb rule 0)) || (eqb rule 2 && ltb right left))) h in
    let b = or-no-l (eqb right 0 && not (eqb rule 1)) ((eqb left right && not (eqb rule 0)) || (eqb rule 2 && ltb right left)) a in
    eqb-true rule 1 (not-false (eqb rule 1) (rw e at b))

written-side : (x : ℕ) (l : List ℕ) → mem x (0 ∷ l) ≡ true → eqb x 0 ≡ false → mem x l ≡ true
unfolding mem
written-side x l h e = rw e at h

pub checked-wellformed : (R : Record) → Checked R → WellFormed R
unfolding has is
checked-wellformed R k =
    record {
      unwritten = checked-unwritten R k;
      left = λ a r b h. any-by (is a r b) R.constraints h
          (λ c m e.
          let s = checked-sides R k c m in
          let l : c.left ≡ a = eqb-true c.left a (and_l (eqb c.left a) (eqb c.rule r && eqb c.right b) e) in
          rw l at (written-side c.left (written R) s.left (pair_left c.left c.rule c.right s.pair)));
      right = λ a r b h. any-by (is a r b) R.constraints h
          (λ c m e.
          let s = checked-sides R k c m in
          let q = and_r (eqb c.left a) (eqb c.rule r && eqb c.right b) e in
          let t : c.rule ≡ r = eqb-true c.rule r (and_l (eqb c.rule r) (eqb c.right b) q) in
          let u : c.right ≡ b = eqb-true c.right b (and_r (eqb c.rule r) (eqb c.right b) q) in
          by (eqb c.right 0) (λ z. inr (sym t ∙ pair-right c.left c.rule c.right s.pair z, sym u ∙ eqb-true c.right 0 z))
          (λ z. inl (rw u at (written-side c.right (written R) s.right z))));
    }

-- and its names ascend
names-ascend : (x : ℕ) (l : List Edit) → ((e : Edit) → Has e l → ltb x e.name ≡ true) → Ascending edit_key l → ascending (x ∷ map name_of l) ≡ true
unfolding ascending
names-ascend x [] f a = refl
names-ascend x (e ∷ l) f a = rw (f e (inl refl)) (names-ascend e.name l (λ y m. below l a.0 y m) a.1)
  where
    below : (l : List Edit) → Below edit_key e l → (y : Edit) → Has y l → ltb e.name y.name ≡ true
    below [] b y m = absurd m
    below (z ∷ l) b y (inl q) = rw q (rw less_one at b.0)
    below (z ∷ l) b y (inr m) = below l b.1 y m

pub checked-ascending : (R : Record) → Checked R → ascending (names R) ≡ true
unfolding names written
checked-ascending R k =
    names-ascend 0 R.edits (λ e m. let n : e.name ≡ 0 → ⊥ = name-not-zero e.name (checked-name R k e m) in lt-ltb 0 e.name (positive e.name n)) k.editorder
  where
    positive : (n : ℕ) → (n ≡ 0 → ⊥) → 0 < n
    positive zero h = absurd (h refl)
    positive (suc n) h = omega arith

-- tables without fault have no more rows than there are places
module _ (R : Record) (known : List ℕ) (adding : Bool) (es cs : Rows) (k : Checked R) (h : join_fault R known adding es cs ≡ 0) where
  pub joining-editplaces : length es ≤ 127
  joining-editplaces =
      lent-places edit_elements edit_coding R.edits es (both R known adding es cs k h).0 k.editorder (all-has (λ e. edit_in_range (edit_row e)) R.edits k.editrange) k.editplaces

  pub joining-constraintplaces : length cs ≤ 512
  joining-constraintplaces =
      lent-places (constraint_elements known adding) (constraint_coding known adding) R.constraints cs (both R known adding es cs k h).1 k.constraintorder
      (all-has (λ c. constraint_in_range (constraint_row c)) R.constraints k.constraintrange) k.constraintplaces
