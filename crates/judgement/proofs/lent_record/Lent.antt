-- Laws of a lent record that is taken: its fault, the record in memory, and that it fits the judgement's limits. Assumes nothing.
use Rattle.std.proofs.Common.{◌≡◌, ℕ, Bool, true, false, List, [], ◌∷◌, length, get_or, replicate, refl, sym, ap, ◌∙◌}
use lib.Dec.{eqb}
use borrow.Author.Tests.{ne_eqb}
use Rattle.lists.specs.Lists.{filter, index_of}
use Rattle.record.specs.Record.{Record, names}
use Rattle.record.specs.Stored.{stored}
use Rattle.record.specs.Judgement.{sound}
use Rattle.record.specs.declared.Record as declared
use Rattle.lists.proofs.Arrays.{get_or-zeros}
use Rattle.record_rows.specs.grounds.Ground.{Rows}
use Rattle.record_tables.specs.Table.{empty_tables, decoded, lent_fault}
use Rattle.record_tables.proofs.Records.{lent-checked}
use Rattle.graph.specs.indexes.Fit.{Fit}
use Rattle.graph.proofs.indexes.Fit.{checked-fit}
use Rattle.judgement.specs.declared.Judged.{Judged}
use Rattle.judgement.specs.declared.lent_record.Judgement.{Judgement}
use Rattle.judgement.specs.Judged.{judged_of, marked_edits}
use Rattle.judgement.specs.lent_record.Lent.{record_fault, Taking, judgement_is}

module _ (es cs : Rows) where
  pub lent-refused : (n : ℕ) → n ≡ lent_fault empty_tables es cs → (n ≡ 0 → ⊥) → n ≡ record_fault es cs
  unfolding record_fault
  lent-refused n q f =
      let z : eqb (lent_fault empty_tables es cs) 0 ≡ false = ne_eqb _ 0 (λ s. f (q ∙ s)) in q ∙ rw z

  -- where the rows have no fault, what is left is whether the record is sound
  module _ (none : lent_fault empty_tables es cs ≡ 0) (r : declared.Record) (is : r ≡ stored (decoded es cs)) (s : Bool) (f : (R : Record) → r ≡ stored R → Fit R → s ≡ sound R) where
    pub is-sound : s ≡ sound (decoded es cs)
    is-sound = f (decoded es cs) is (checked-fit (decoded es cs) (lent-checked es cs none))

    pub lent-taken : s ≡ true → Taking es cs r
    lent-taken t = record { is = is; checked = lent-checked es cs none; sound-now = sym is-sound ∙ t }

    pub lent-sound : s ≡ true → 0 ≡ record_fault es cs
    unfolding record_fault
    lent-sound t = let u : sound (decoded es cs) ≡ true = sym is-sound ∙ t in rw (none, u)

    pub lent-unsound : s ≡ false → 8 ≡ record_fault es cs
    unfolding record_fault
    lent-unsound t = let u : sound (decoded es cs) ≡ false = sym is-sound ∙ t in rw (none, u)

-- no mark is set
filter_none : (p : ℕ → Bool) (l : List ℕ) → ((x : ℕ) → p x ≡ false) → filter p l ≡ []
unfolding filter
filter_none p [] f = refl
filter_none p (x ∷ l) f = rw (f x) (filter_none p l f)

pub none-marked-edits : (R : Record) → marked_edits R (replicate 128 0) ≡ []
unfolding marked_edits
none-marked-edits R = filter_none (λ x. eqb (get_or (replicate 128 0) (index_of x (names R)) 0) 1) (names R) (λ x. rw (get_or-zeros 128 (index_of x (names R))))

pub judgement-told : (R : Record) (r : declared.Record) → r ≡ stored R → (d : Judged) → d ≡ judged_of R
    → ◌≡◌ {A = Judgement} (record { count = r.edit_count; must = d.must; never = d.never; settled = d.settled; place = d.place }) (judgement_is R)
judgement-told R r e d q =
    let c : r.edit_count ≡ length R.edits = ap (λ (x : declared.Record). x.edit_count) e in
    λ i. record { count = c i; must = (q i).must; never = (q i).never; settled = (q i).settled; place = (q i).place }
