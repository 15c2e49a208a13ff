-- Theorems on elections. Assumes nothing.
use mathlib.Core.Path.{◌≡◌, refl, sym, ap, ◌∙◌}
use mathlib.Core.Bool.{Bool, true, false, cond}
use mathlib.Core.Logic.{◌↔◌}
use mathlib.Core.List.{List, [], ◌∷◌, map, Permᴰ}
use mathlib.Core.Option.{Option, none, some}
use Prim.Native.Nat.{ℕ, ◌+◌, ◌*◌, ◌≤◌, ◌<◌, max}
use native.Mathlib.Omega.{arith}
use lib.Dec.{ltb}
use borrow.Author.Tests.{ltb-true, ltb-false, lt-ltb}
use Rattle.std.proofs.lemmas.Option.{same_Some}
use Rattle.record.specs.declared.Field.{Field}
use Rattle.record.specs.declared.Body.{Body}
use Rattle.record.specs.declared.Body.TheVariants.{Insert, Set, Remove}
use Rattle.record.specs.declared.Edit.{Edit}
use Rattle.record.specs.declared.Constraint.{Constraint}
use Rattle.record.specs.Record.{Record}
use Rattle.lists.proofs.Lists.{by, clash, and_l, and_r, and_i}
use Rattle.record_rows.proofs.row.Cells.{field-again}
use Rattle.record_rows.specs.row.Row.{field_of, field_number, body_cells, edit_row, constraint_row}
use Rattle.record_rows.proofs.row.Compared.{same-eq, same_refl}
use Rattle.voting.specs.declared.RollRow.{RollRow}
use Rattle.voting.specs.Bundle.{vote}
use Rattle.voting.specs.Tally.{
  same_edit,
  same_constraint,
  same_list,
  same_bundle,
  Ballot,
  ballots,
  total,
  weigh,
  is_silent,
  votes_for,
  group,
  greatest_of,
  greatest,
  silent,
  wins,
  won,
  winner_of,
  winner,
}

-- Votes are equal just where the test says so.
field-number : (f g : Field) → field_number f ≡ field_number g → f ≡ g
field-number f g e = same_Some _ _ (sym (field-again f) ∙ (ap field_of e ∙ field-again g))

body-cells : (a b : Body) → body_cells a ≡ body_cells b → a ≡ b
body-cells (Insert p) (Insert q) e = let h : p ≡ q = cc in ap (λ x. Insert x) h
body-cells (Insert p) (Set q g w) e = let h : ◌≡◌ {A = ℕ} 0 1 = cc in absurd (omega arith)
body-cells (Insert p) (Remove q) e = let h : ◌≡◌ {A = ℕ} 0 2 = cc in absurd (omega arith)
body-cells (Set p f v) (Insert q) e = let h : ◌≡◌ {A = ℕ} 1 0 = cc in absurd (omega arith)
body-cells (Set p f v) (Set q g w) e =
    let h : p ≡ q = cc in
    let i : field_number f ≡ field_number g = cc in
    let j : v ≡ w = cc in
    rw (h, field-number f g i, j)
body-cells (Set p f v) (Remove q) e = let h : ◌≡◌ {A = ℕ} 1 2 = cc in absurd (omega arith)
body-cells (Remove p) (Insert q) e = let h : ◌≡◌ {A = ℕ} 2 0 = cc in absurd (omega arith)
body-cells (Remove p) (Set q g w) e = let h : ◌≡◌ {A = ℕ} 2 1 = cc in absurd (omega arith)
body-cells (Remove p) (Remove q) e = let h : p ≡ q = cc in ap (λ x. Remove x) h

edit-same : (d e : Edit) → same_edit d e ≡ true → d ≡ e
unfolding same_edit edit_row
edit-same d e h =
    let r = same-eq (edit_row d) (edit_row e) h in
    let n : d.name ≡ e.name = cc in
    let b = body-cells d.body e.body (cc) in
    λ i. record { name = n i; body = b i }

same-edit : (d : Edit) → same_edit d d ≡ true
unfolding same_edit
same-edit d = same_refl (edit_row d)

constraint-same : (c d : Constraint) → same_constraint c d ≡ true → c ≡ d
unfolding same_constraint constraint_row
constraint-same c d h =
    let e = same-eq (constraint_row c) (constraint_row d) h in
    let l : c.left ≡ d.left = cc in
    let r : c.rule ≡ d.rule = cc in
    let t : c.right ≡ d.right = cc in
    λ i. record { left = l i; rule = r i; right = t i }

same-constraint : (c : Constraint) → same_constraint c c ≡ true
unfolding same_constraint
same-constraint c = same_refl (constraint_row c)

module _ {A : Type 0} (same : A → A → Bool) where
  list_same : ((x y : A) → same x y ≡ true → x ≡ y) → (s t : List A) → same_list same s t ≡ true → s ≡ t
  unfolding same_list
  list_same f [] [] h = refl
  list_same f [] (y ∷ t) h = clash h refl
  list_same f (x ∷ s) [] h = clash h refl
  list_same f (x ∷ s) (y ∷ t) h = rw (f x y (and_l _ _ h), list_same f s t (and_r (same x y) _ h))

  same-list : ((x : A) → same x x ≡ true) → (s : List A) → same_list same s s ≡ true
  unfolding same_list
  same-list f [] = refl
  same-list f (x ∷ s) = and_i _ _ (f x) (same-list f s)

bundle-same : (P Q : Record) → same_bundle P Q ≡ true → P ≡ Q
unfolding same_bundle
bundle-same P Q h =
    let e = list_same same_edit edit-same P.edits Q.edits (and_l _ _ h) in
    let c = list_same same_constraint constraint-same P.constraints Q.constraints (and_r (same_list same_edit P.edits Q.edits) _ h) in
    λ i. record { edits = e i; constraints = c i }

pub same-bundle : (P : Record) → same_bundle P P ≡ true
unfolding same_bundle
same-bundle P = and_i _ _ (same-list same_edit same-edit P.edits) (same-list same_constraint same-constraint P.constraints)

pub same-is : (P Q : Record) → same_bundle P Q ≡ true ↔ (P ≡ Q)
same-is P Q = (bundle-same P Q, λ e. rw e (same-bundle Q))

-- weights
pub weigh-le : (p : Option Record → Bool) (l : List Ballot) → weigh p l ≤ total l
unfolding weigh total
weigh-le p [] = omega arith
weigh-le p (b ∷ l) = by (p b.vote) (λ e. rw e (omega (arith, weigh-le p l))) (λ e. rw e (omega (arith, weigh-le p l)))

-- two groups without a common vote have no more weight together than there is
weigh-two : (p q : Option Record → Bool) → ((v : Option Record) → p v ≡ true → q v ≡ false) → (l : List Ballot) → weigh p l + weigh q l ≤ total l
unfolding weigh total
weigh-two p q h [] = omega arith
weigh-two p q h (b ∷ l) =
    let r = weigh-two p q h l in
    by (p b.vote) (λ e. rw (e, h b.vote e) (omega arith))
    (λ e. by (q b.vote) (λ f. rw (e, f) (omega arith)) (λ f. rw (e, f) (omega arith)))

votes-apart : (B C : Record) → same_bundle B C ≡ false → (v : Option Record) → votes_for B v ≡ true → votes_for C v ≡ false
votes-apart B C n none h = clash h refl
votes-apart B C n (some D) h =
    by (same_bundle C D) (λ k. clash ((same-is B C).1 ((same-is B D).0 h ∙ sym ((same-is C D).0 k))) n) (λ k. k)

-- At most one group can win.
pub one-winner : (l : List Ballot) (B C : Record) → wins l B ≡ true → wins l C ≡ true → B ≡ C
unfolding wins
one-winner l B C p q =
    by (same_bundle B C) (same-is B C).0
    (λ n. absurd (omega (arith, weigh-two (votes_for B) (votes_for C) (votes-apart B C n) l, ltb-true)))

-- Half the weight or less never wins.
pub half-open : (l : List Ballot) (B : Record) → 2 * weigh (votes_for B) l ≤ total l → wins l B ≡ false
unfolding wins
half-open l B h = by (ltb (total l) (2 * weigh (votes_for B) l)) (λ e. absurd (omega (arith, ltb-true))) (λ e. e)

group-le : (l : List Ballot) (v : Option Record) → group l v ≤ total l
group-le l none = omega arith
group-le l (some B) = weigh-le (votes_for B) l

pub greatest-le : (l m : List Ballot) → greatest_of l m ≤ total l
unfolding greatest_of
greatest-le l [] = omega arith
greatest-le l (b ∷ m) = omega (arith, group-le l b.vote, greatest-le l m)

-- A zero total stays open.
pub zero-open : (l : List Ballot) → total l ≡ 0 → won l ≡ false
unfolding won greatest
zero-open l z = by (ltb (total l) (2 * greatest_of l l)) (λ e. absurd (omega (arith, ltb-true, greatest-le l l))) (λ e. e)

-- silent weight and any group fit into the total
pub silent-and-group : (l : List Ballot) (B : Record) → silent l + weigh (votes_for B) l ≤ total l
unfolding silent
silent-and-group l B = weigh-two is_silent (votes_for B) apart l
  where
    apart : (v : Option Record) → is_silent v ≡ true → votes_for B v ≡ false
    apart none h = refl
    apart (some C) h = clash refl (sym h)

-- the winner among some of the votes
winner-none : (l m : List Ballot) → winner_of l m ≡ none → 2 * greatest_of l m ≤ total l
unfolding winner_of greatest_of
winner-none l [] h = omega arith
winner-none l (b ∷ m) h =
    by (ltb (total l) (2 * group l b.vote))
    (λ e. absurd (voted b.vote e (rw e at h)))
    (λ e. omega (arith, winner-none l m (rw e at h), ltb-false))
  where
    voted : (v : Option Record) → ltb (total l) (2 * group l v) ≡ true → v ≡ none → ⊥
    voted none e h = omega (arith, ltb-true)
    voted (some B) e h = let z : ◌≡◌ {A = ℕ} 0 1 = cc in omega arith

winner-some : (l m : List Ballot) (B : Record) → winner_of l m ≡ some B → (wins l B ≡ true) × (total l < 2 * greatest_of l m)
unfolding winner_of greatest_of wins
winner-some l [] B h = absurd (let z : ◌≡◌ {A = ℕ} 0 1 = cc in omega arith)
winner-some l (b ∷ m) B h =
    by (ltb (total l) (2 * group l b.vote))
    (λ e. let v : b.vote ≡ some B = rw e at h in
    let k : ltb (total l) (2 * weigh (votes_for B) l) ≡ true = rw v at e in
    let g : group l b.vote ≡ weigh (votes_for B) l = rw v refl in
    (k, omega (arith, ltb-true)))
    (λ e. let r = winner-some l m B (rw e at h) in (r.0, omega (arith, r.1)))

-- The election is won just where there is a winner, and the winner's group wins.
pub winner-wins : (l : List Ballot) (B : Record) → winner l ≡ some B → (wins l B ≡ true) × (won l ≡ true)
unfolding winner won greatest
winner-wins l B h = let r = winner-some l l B h in (r.0, lt-ltb _ _ r.1)

pub open_is : (l : List Ballot) → winner l ≡ none → won l ≡ false
unfolding winner won greatest
open_is l h = by (ltb (total l) (2 * greatest_of l l)) (λ e. absurd (omega (arith, winner-none l l h, ltb-true))) (λ e. e)

-- Rows in another order.
pub total-reordered : {l m : List Ballot} → Permᴰ l m → total l ≡ total m
unfolding total
total-reordered Permᴰ.nil = refl
total-reordered (Permᴰ.cons {a} {b} e r) = rw e (ap (λ (n : ℕ). b.weight + n) (total-reordered r))
total-reordered (Permᴰ.swap {a} {b} {a'} {b'} {l} e g) = rw (e, g) (omega arith)
total-reordered (Permᴰ.trans r s) = total-reordered r ∙ total-reordered s

weigh-reordered : (p : Option Record → Bool) {l m : List Ballot} → Permᴰ l m → weigh p l ≡ weigh p m
unfolding weigh
weigh-reordered p Permᴰ.nil = refl
weigh-reordered p (Permᴰ.cons {a} {b} e r) = rw e (ap (λ (n : ℕ). cond (p b.vote) b.weight 0 + n) (weigh-reordered p r))
weigh-reordered p (Permᴰ.swap {a} {b} {a'} {b'} {l} e g) = rw (e, g) (omega arith)
weigh-reordered p (Permᴰ.trans r s) = weigh-reordered p r ∙ weigh-reordered p s

pub silent-reordered : {l m : List Ballot} → Permᴰ l m → silent l ≡ silent m
unfolding silent
silent-reordered r = weigh-reordered is_silent r

group-reordered : {l m : List Ballot} → Permᴰ l m → (v : Option Record) → group l v ≡ group m v
group-reordered r none = refl
group-reordered r (some B) = weigh-reordered (votes_for B) r

greatest-among : (k : List Ballot) {l m : List Ballot} → Permᴰ l m → greatest_of k l ≡ greatest_of k m
unfolding greatest_of
greatest-among k Permᴰ.nil = refl
greatest-among k (Permᴰ.cons {a} {b} e r) = rw e (ap (max (group k b.vote)) (greatest-among k r))
greatest-among k (Permᴰ.swap {a} {b} {a'} {b'} {l} e g) = rw (e, g) (omega arith)
greatest-among k (Permᴰ.trans r s) = greatest-among k r ∙ greatest-among k s

greatest-of : {k l : List Ballot} → Permᴰ k l → (m : List Ballot) → greatest_of k m ≡ greatest_of l m
unfolding greatest_of
greatest-of r [] = refl
greatest-of r (b ∷ m) = rw (group-reordered r b.vote, greatest-of r m)

pub greatest-reordered : {l m : List Ballot} → Permᴰ l m → greatest l ≡ greatest m
unfolding greatest
greatest-reordered {l} {m} r = greatest-among l r ∙ greatest-of r m

pub won-reordered : {l m : List Ballot} → Permᴰ l m → won l ≡ won m
unfolding won
won-reordered r = rw (total-reordered r, greatest-reordered r)

wins-reordered : {l m : List Ballot} → Permᴰ l m → (B : Record) → wins l B ≡ wins m B
unfolding wins
wins-reordered r B = rw (total-reordered r, weigh-reordered (votes_for B) r)

pub winner-reordered : {l m : List Ballot} → Permᴰ l m → winner l ≡ winner m
winner-reordered {l} {m} r = go (winner l) (winner m) refl refl
  where
    go : (v w : Option Record) → winner l ≡ v → winner m ≡ w → v ≡ w
    go none none p q = refl
    go none (some C) p q = clash (winner-wins m C q).1 (sym (won-reordered r) ∙ open_is l p)
    go (some B) none p q = clash (winner-wins l B p).1 (won-reordered r ∙ open_is m q)
    go (some B) (some C) p q =
        ap (λ x. some x) (one-winner m B C (sym (wins-reordered r B) ∙ (winner-wins l B p).0) (winner-wins m C q).0)

-- Benches numbered in another way cast the same ballots.
pub ballots-renumbered : (held : ℕ → Record) (renumber : ℕ → ℕ) (e : ℕ) (roll : List RollRow)
    → ballots (λ k. held (renumber k)) e roll ≡ ballots held e (map (λ row. record { bench = renumber row.bench; weight = row.weight }) roll)
unfolding ballots
ballots-renumbered held renumber e [] = refl
ballots-renumbered held renumber e (row ∷ l) = ap (λ t. record { weight = row.weight; vote = vote (held (renumber row.bench)) e } ∷ t) (ballots-renumbered held renumber e l)
