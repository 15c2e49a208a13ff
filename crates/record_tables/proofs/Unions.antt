-- The union of two records: it contains both, and of a record with a part of itself it is the record. Assumes nothing.
use mathlib.Core.Path.{◌≡◌, refl, ap, sym, ◌∙◌}
use mathlib.Core.Bool.{true}
use mathlib.Core.Logic.{inl, inr}
use mathlib.Core.List.{List, [], ◌∷◌, map}
use Prim.Native.Nat.{ℕ}
use borrow.Author.Tests.{eqb-true, eq-eqb}
use lib.Dec.{eqb}
use Rattle.lists.proofs.Lists.{by, clash}
use Rattle.record.specs.declared.Edit.{Edit}
use Rattle.record.specs.declared.Constraint.{Constraint}
use Rattle.lists.specs.Lists.{mem, Has}
use Rattle.record.specs.Record.{Record, written, name_of, is, has, Extends}
use Rattle.lists.specs.Keyed.{Ascending, united}
use Rattle.lists.proofs.Logic.{any-by, any-has}
use Rattle.lists.proofs.Union.{united-old, united-key, united-alone}
use Rattle.record_tables.specs.Table.{unite, edit_key, constraint_key, empty_tables}

-- a name in the table of edits is that of one of them
pub mem-by {ℓ} : {P : Type ℓ} (x : ℕ) (l : List Edit) → mem x (map name_of l) ≡ true → ((e : Edit) → Has e l → x ≡ e.name → P) → P
unfolding mem
mem-by x [] h f = clash h refl
mem-by x (e ∷ l) h f = by (eqb x e.name) (λ q. f e (inl refl) (eqb-true x e.name q)) (λ q. mem-by x l (rw q at h) (λ y m p. f y (inr m) p))

pub mem-has : (x : ℕ) (l : List Edit) (e : Edit) → Has e l → x ≡ e.name → mem x (map name_of l) ≡ true
unfolding mem
mem-has x [] e h p = absurd h
mem-has x (y ∷ l) e (inl q) p = let r : x ≡ y.name = p ∙ ap name_of q in rw (eq-eqb x y.name r)
mem-has x (y ∷ l) e (inr h) p = by (eqb x y.name) (λ q. rw q) (λ q. rw q (mem-has x l e h p))

same_key : (e f : Edit) → edit_key e ≡ edit_key f → e.name ≡ f.name
same_key e f p = cc

same-constraint : (c d : Constraint) → constraint_key c ≡ constraint_key d → c ≡ d
same-constraint c d p =
    let l : c.left ≡ d.left = cc in
    let k : c.rule ≡ d.rule = cc in
    let r : c.right ≡ d.right = cc in
    λ i. record { left = l i; rule = k i; right = r i }

module _ (R S : Record) where
  pub united-extends : Extends R (unite R S)
  unfolding unite written has
  united-extends =
      record {
        edits = λ x h. mem-by x R.edits h (λ e m p. mem-has x (united edit_key R.edits S.edits) e (united-old edit_key e R.edits S.edits m) p);
        constraints = λ a k b h. any-by (is a k b) R.constraints h (λ c m p. any-has (is a k b) (united constraint_key R.constraints S.constraints) c (united-old constraint_key c R.constraints S.constraints m) p);
      }

  pub joining-extends : Extends S (unite R S)
  unfolding unite written has
  joining-extends =
      record {
        edits = λ x h. mem-by x S.edits h
            (λ e m p. united-key edit_key (λ y z. refl) e R.edits S.edits m (λ y n q. mem-has x (united edit_key R.edits S.edits) y n (p ∙ sym (same_key y e q))));
        constraints = λ a k b h. any-by (is a k b) S.constraints h
            (λ c m p. united-key constraint_key (λ y z. refl) c R.constraints S.constraints m
            (λ y n q. let g : y ≡ c = same-constraint y c q in any-has (is a k b) (united constraint_key R.constraints S.constraints) y n (rw g p)));
      }

-- the empty record with a record
pub united-empty : (S : Record) → Ascending edit_key S.edits → Ascending constraint_key S.constraints → unite empty_tables S ≡ S
unfolding unite
united-empty S a b =
    let p : united edit_key [] S.edits ≡ S.edits = united-alone edit_key S.edits a in
    let q : united constraint_key [] S.constraints ≡ S.constraints = united-alone constraint_key S.constraints b in
    λ i. record { edits = p i; constraints = q i }
