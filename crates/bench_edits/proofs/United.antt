-- A union keeps the edits of the record that is joined, and where it is sound the lent record is. Assumes nothing.
use mathlib.Core.Path.{◌≡◌, sym, ap, ◌∙◌}
use mathlib.Core.Bool.{◌&&◌, and-false}
use mathlib.Core.Logic.{inl, inr}
use mathlib.Core.List.{List, [], ◌∷◌, map}
use Prim.Native.Nat.{ℕ}
use native.Mathlib.Omega.{arith}
use lib.Dec.{eqb}
use borrow.Author.Tests.{eq-eqb, ne_eqb, ltb-true}
use Rattle.record.specs.declared.Edit.{Edit}
use Rattle.lists.specs.Lists.{mem, ◌among◌, Has}
use Rattle.record.specs.Record.{Record, name_of, written}
use Rattle.record.specs.Judgement.{sound}
use Rattle.lists.proofs.Lists.{by}
use Rattle.record.proofs.Extended.{sound-extended}
use Rattle.lists.specs.Keyed.{Ascending, united}
use Rattle.lists.proofs.Order.{less_one}
use Rattle.lists.proofs.Union.{below-has, united-old}
use Rattle.record_rows.specs.grounds.Ground.{Rows}
use Rattle.record_tables.specs.Table.{decoded, edit_key, lent_fault, unite}
use Rattle.record_tables.specs.Checked.{Checked}
use Rattle.record_tables.proofs.Unions.{mem-by, joining-extends}
use Rattle.record_tables.proofs.Records.{joined-checked, joining-checked, checked-wellformed}
use Rattle.record.specs.Stored.{edit_named}
use Rattle.bench.specs.Changes.{KeepsEdits}

-- in an ascending table the edit of a name is found
named-has : (l : List Edit) (e : Edit) → Ascending edit_key l → Has e l → edit_named l e.name ≡ e
unfolding edit_named
named-has [] e a m = absurd m
named-has (y ∷ l) e a (inl q) = rw (eq-eqb e.name y.name (ap name_of q)) (sym q)
named-has (y ∷ l) e a (inr m) =
    let b = ltb-true y.name e.name (sym (less_one y.name e.name) ∙ below-has edit_key y e l a.0 m) in
    rw (ne_eqb e.name y.name (λ z. omega arith)) (named-has l e a.1 m)

-- a name that is not 0 and that its edit bears is known
pub named-known : (l : List Edit) (x : ℕ) → (edit_named l x).name ≡ x → (x ≡ 0 → ⊥) → x among map name_of l
unfolding edit_named mem
named-known [] x e n = absurd (n (sym e))
named-known (y ∷ l) x e n = by (eqb x y.name) (λ q. rw q) (λ q. rw q (named-known l x (rw q at e) n))

pub union-keeps : (R S : Record) → Checked R → Checked (unite R S) → KeepsEdits R (unite R S)
unfolding written unite
union-keeps R S k u x i =
    mem-by x R.edits i (λ e m p.
    ap (edit_named (united edit_key R.edits S.edits)) p
    ∙ (named-has (united edit_key R.edits S.edits) e u.editorder (united-old edit_key e R.edits S.edits m)
    ∙ sym (ap (edit_named R.edits) p ∙ named-has R.edits e k.editorder m)))

-- a lent record that isn't sound makes the union unsound: one test of the union is enough
pub union-judged : (R : Record) (es cs : Rows) → Checked R → lent_fault R es cs ≡ 0 → (sound (decoded es cs) && sound (unite R (decoded es cs))) ≡ sound (unite R (decoded es cs))
union-judged R es cs k h =
    by (sound (unite R (decoded es cs)))
    (λ s. let l = sound-extended (joining-extends R (decoded es cs)) (checked-wellformed (decoded es cs) (joining-checked R es cs k h)) (checked-wellformed (unite R (decoded es cs)) (joined-checked R es cs k h)) s in rw (l, s))
    (λ s. rw s (and-false (sound (decoded es cs))))
