-- The grounds of what is asked about an edit of a record, one by one, as the code tells them; and what is known without one. Assumes nothing.
use Rattle.std.specs.Prelude.{◌≡◌, Bool, true, false, cond, List, ℕ, Option, Some, None, ok_or, Result, Ok, Err, eqb}
use mathlib.Core.Path.{refl, sym, ap, ◌∙◌}
use borrow.Author.Tests.{ne_eqb}
use Rattle.lists.specs.Lists.{mem, index_of, ◌among◌}
use Rattle.lists.proofs.Lists.{by, mem_index}
use Rattle.record.specs.Record.{Record, written}
use Rattle.record.specs.Judgement.{sound}
use Rattle.record_rows.specs.row.Row.{is_name}
use Rattle.record_rows.proofs.row.Cells.{name-taken, name-refused}
use Rattle.record_rows.specs.grounds.Ground.{Rows}
use Rattle.refusals.specs.declared.Refusal.{Refusal}
use Rattle.refusals.specs.declared.Refusal.TheVariants.{OutOfRange}
use Rattle.refusals.specs.Numbers.{number, number_of}
use Rattle.refusals.proofs.Numbers.{number-positive}
use Rattle.record_tables.specs.Table.{empty_tables, decoded, lent_fault}
use Rattle.record_tables.specs.Checked.{known_place}
use Rattle.graph.proofs.links.Names.{get_or-place}
use Rattle.judgement.specs.lent_edit.Asked.{named_fault, lent_edit_fault, KnownIn}

-- a name that has a place is known, and stands there
known-there : (x place : ℕ) (l : List ℕ) → Some place ≡ known_place x l → (x among l) × (place ≡ index_of x l)
known-there x place l e = by (mem x l) (λ m. let q : Some place ≡ Some (index_of x l) = rw m at e in (m, cc)) (λ m. absurd (let q : Some place ≡ None = rw m at e in cc))

known-nowhere : (x : ℕ) (l : List ℕ) → None ≡ known_place x l → mem x l ≡ false
known-nowhere x l e = by (mem x l) (λ m. absurd (let q : None ≡ Some (index_of x l) = rw m at e in cc)) (λ m. m)

-- what is not there is refused on the ground that is given for it
pub missing-refused : {A : Type 0} (ground : Refusal) (o : Option A) (r : Refusal) → ◌≡◌ {A = Result A Refusal} (Err r) (ok_or o ground)
    → (number r ≡ number ground) × (o ≡ None)
missing-refused ground None r e = (ap number_of e, refl)
missing-refused ground (Some x) r e = absurd (number-positive r (ap number_of e))

module _ (R : Record) (e : ℕ) where
  pub no-name-refused : {r : Refusal} → Err r ≡ cond (is_name e) (Ok e) (Err OutOfRange) → number r ≡ named_fault R e
  unfolding named_fault
  no-name-refused q = let n = name-refused e q in rw (n.1, n.0) refl

  module _ {x : ℕ} (q : Ok x ≡ cond (is_name e) (Ok e) (Err OutOfRange)) {found : Option ℕ} (told : found ≡ known_place x (written R)) where
    found-place : found ≡ known_place e (written R)
    found-place = rw (name-taken e q).1 at told

    pub unwritten-refused : found ≡ None → 5 ≡ named_fault R e
    unfolding named_fault
    unwritten-refused k = let u = known-nowhere e (written R) (sym k ∙ found-place) in rw ((name-taken e q).0, u)

    module _ {place : ℕ} (k : found ≡ Some place) where
      there : (e among written R) × (place ≡ index_of e (written R))
      there = known-there e place (written R) (sym k ∙ found-place)

      pub name-accepted : 0 ≡ named_fault R e
      unfolding named_fault
      name-accepted = rw ((name-taken e q).0, there.0)

      pub edit-known-in : KnownIn R e x place
      edit-known-in = record {
        named = (name-taken e q).1;
        known = there.0;
        place-low = rw there.1 (mem_index e (written R) there.0);
        placed = rw there.1 (get_or-place e (written R) there.0);
      }

module _ (es cs : Rows) (e : ℕ) where
  pub lent-rows-refused : (r : Refusal) → number r ≡ lent_fault empty_tables es cs → number r ≡ lent_edit_fault es cs e
  unfolding lent_edit_fault
  lent-rows-refused r q = let z : eqb (lent_fault empty_tables es cs) 0 ≡ false = ne_eqb (lent_fault empty_tables es cs) 0 (λ y. number-positive r (q ∙ y)) in rw z q

  module _ (p : 0 ≡ lent_fault empty_tables es cs) where
    pub edit-refused : (r : Refusal) → number r ≡ named_fault (decoded es cs) e → number r ≡ lent_edit_fault es cs e
    unfolding lent_edit_fault
    edit-refused r q = let z : eqb (named_fault (decoded es cs) e) 0 ≡ false = ne_eqb (named_fault (decoded es cs) e) 0 (λ y. number-positive r (q ∙ y)) in rw (sym p, z) q

    module _ (q : 0 ≡ named_fault (decoded es cs) e) {whole : Bool} (test : whole ≡ sound (decoded es cs)) where
      pub unsound-refused : whole ≡ false → 8 ≡ lent_edit_fault es cs e
      unfolding lent_edit_fault
      unsound-refused s = let u : sound (decoded es cs) ≡ false = sym test ∙ s in rw (sym p, sym q, u)

      pub edit-accepted : whole ≡ true → 0 ≡ lent_edit_fault es cs e
      unfolding lent_edit_fault
      edit-accepted s = let u : sound (decoded es cs) ≡ true = sym test ∙ s in rw (sym p, sym q, u)
