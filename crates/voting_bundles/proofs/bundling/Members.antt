-- A bundle's edits and constraints by the marks of its members. Assumes nothing.
use mathlib.Core.Path.{◌≡◌, ◌∙◌}
use mathlib.Core.Bool.{Bool}
use mathlib.Core.List.{List, [], ◌∷◌, ◌++◌, map}
use mathlib.Core.Logic.{inl, inr}
use Prim.Native.Nat.{ℕ}
use lib.Dec.{eqb}
use lib.ListN.{length, take, drop, get_or, replicate}
use Rattle.std.proofs.lemmas.List.{drop-replicate}
use Rattle.record.specs.declared.Edit.{Edit}
use Rattle.record.specs.declared.Constraint.{Constraint}
use Rattle.record.specs.declared.Record as declared
use Rattle.lists.specs.Lists.{mem, index_of, filter, ◌among◌, Has}
use Rattle.record.specs.Record.{Record, name_of, names, written}
use Rattle.record.specs.Stored.{padded, stored, edit_limit, constraint_limit, filler_edit, filler_constraint}
use Rattle.lists.proofs.Lists.{mem_index, mem-head, mem-tail}
use Rattle.graph.specs.links.Marks.{marks_of}
use Rattle.graph.proofs.links.Names.{get_or-place, place-known}
use Rattle.graph.proofs.links.Marks.{marks-at}
use Rattle.graph.specs.indexes.Fit.{Fit}
use Rattle.graph.specs.indexes.Indexed.{Indexed}
use Rattle.graph.proofs.indexes.Resolving.{left-known, right-known}
use Rattle.voting.specs.Bundle.{members, between, bundle}
use Rattle.voting_bundles.proofs.equality.Equal.{edits-kept, constraints-kept}
use Rattle.lists.proofs.Tests.{bit_is}
use Rattle.voting.proofs.Joined.{in-has}

-- the mark of an edit, at its index
pub mark_of : (R : Record) (m table marks : List ℕ) → Indexed R table → marks ≡ marks_of R (λ y. mem y m)
    → (x i : ℕ) → x among names R → i ≡ get_or table x 0 → eqb (get_or marks i 0) 1 ≡ mem x m
mark_of R m table marks t e x i k q =
    let p : i ≡ index_of x (names R) = q ∙ (t x ∙ place-known x (names R) k) in
    rw (p, e, marks-at R (λ y. mem y m) (index_of x (names R)) (mem_index x (names R) k), get_or-place x (names R) k) (bit_is (mem x m))

-- what `is_member` and `is_between` say of an edit and of a constraint
abbrev pub TellsMember : List ℕ → List ℕ → ℕ → Bool → Type 0
TellsMember table marks name b =
    (R : Record) (m : List ℕ) → Indexed R table → marks ≡ marks_of R (λ y. mem y m) → name among names R → b ≡ mem name m

abbrev pub TellsBetween : List ℕ → List ℕ → Constraint → Bool → Type 0
TellsBetween table marks c b =
    (R : Record) (m : List ℕ) → Indexed R table → marks ≡ marks_of R (λ y. mem y m)
    → c.left among names R → c.right among names R → b ≡ between m c.left c.right

-- what a record knows of its own rows
name-known : (d : Edit) (l : List Edit) → Has d l → d.name among map name_of l
name-known d [] h = absurd h
name-known d (x ∷ l) (inl e) = rw e (mem-head x.name (map name_of l))
name-known d (x ∷ l) (inr h) = mem-tail d.name x.name (map name_of l) (name-known d l h)

module _ (r : declared.Record) (R : Record) (q : r ≡ stored R) (f : Fit R) where
  pub edit-known : (d : Edit) → Has d (take r.edit_count r.edits) → d.name among names R
  unfolding names written
  edit-known d h = mem-tail d.name 0 (map name_of R.edits) (name-known d R.edits (rw (edits-kept r R q) at h))

  pub ends-known : (c : Constraint) → Has c (take r.constraint_count r.constraints) → (c.left among names R) × (c.right among names R)
  ends-known c h =
      let s = in-has c R.constraints (rw (constraints-kept r R q) at h) in
      (left-known f.formed c.left c.rule c.right s, right-known f.formed c.left c.rule c.right s)

-- what is selected over a table that holds the filler is stored
selected-stored : {A : Type 0} (n : ℕ) (filler : A) (l : List A) → l ++ drop (length l) (replicate n filler) ≡ padded n filler l
unfolding padded
selected-stored n filler l = rw (drop-replicate (length l) n filler)

-- THE BUNDLE, selected from a stored record
pub bundle-selected : (r : declared.Record) (R : Record) (x : ℕ) → r ≡ stored R → (a : List Edit) (n : ℕ) (b : List Constraint) (m : ℕ)
    → (n ≡ length (filter (λ d. mem d.name (members R x)) (take r.edit_count r.edits)))
    × (a ≡ filter (λ d. mem d.name (members R x)) (take r.edit_count r.edits) ++ drop (length (filter (λ d. mem d.name (members R x)) (take r.edit_count r.edits))) (replicate edit_limit filler_edit))
    → (m ≡ length (filter (λ c. between (members R x) c.left c.right) (take r.constraint_count r.constraints)))
    × (b ≡ filter (λ c. between (members R x) c.left c.right) (take r.constraint_count r.constraints) ++ drop (length (filter (λ c. between (members R x) c.left c.right) (take r.constraint_count r.constraints))) (replicate constraint_limit filler_constraint))
    → record { edits = a; edit_count = n; constraints = b; constraint_count = m } ≡ stored (bundle R x)
unfolding bundle
bundle-selected r R x q a n b m e c =
    let p = rw (edits-kept r R q, selected-stored edit_limit filler_edit) at e in
    let s = rw (constraints-kept r R q, selected-stored constraint_limit filler_constraint) at c in
    λ j. record { edits = p.1 j; edit_count = p.0 j; constraints = s.1 j; constraint_count = s.0 j }
