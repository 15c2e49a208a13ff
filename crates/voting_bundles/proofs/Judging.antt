-- A bundle is fit to be judged; eligible by the marks of what is settled; the answer about a lent record. Assumes nothing.
use mathlib.Core.Path.{◌≡◌, refl, sym, ◌∙◌}
use mathlib.Core.Bool.{Bool, true, false, cond}
use mathlib.Core.List.{List, [], ◌∷◌, map}
use Prim.Native.Nat.{ℕ, ◌+◌, ◌<◌}
use native.Mathlib.Omega.{arith}
use lib.Dec.{eqb}
use lib.ListN.{length, take, drop, length-map}
use lib.Seq.{take_all, take-append-le}
use Rattle.std.specs.List.{list_all}
use borrow.Author.Tests.{ne_eqb, lt-ltb}
use Rattle.record.specs.declared.Record as declared
use Rattle.lists.specs.Lists.{all, filter, mem, ◌among◌, ascending}
use Rattle.record.specs.Record.{Record, name_of, names, written}
use Rattle.record.specs.Stored.{padded, stored}
use Rattle.record.specs.Judgement.{settled}
use Rattle.lists.proofs.Lists.{by, cons-by, ascending-tail, ascending-head, mem-head, mem-tail}
use Rattle.record.proofs.Records.{written-names}
use Rattle.record_rows.specs.grounds.Ground.{Rows}
use Rattle.record_tables.specs.Table.{empty_tables, decoded, lent_fault}
use Rattle.graph.specs.links.Marks.{marks_of, values_of}
use Rattle.voting.specs.Bundle.{members, between, bundle, eligible}
use Rattle.voting.proofs.Bundles.{bundle-extended, bundle-well-formed, filter-names}
use Rattle.lists.proofs.Front.{filter-length}
use Rattle.voting_bundles.specs.Bundles.{refused_bundle, bundle_answer}
use Rattle.judgement.specs.lent_edit.Asked.{lent_edit_fault}
use Rattle.record_rows.proofs.grounds.Grounds.{orelse-none}
use Rattle.graph.specs.indexes.Fit.{Fit}
use Rattle.lists.proofs.Tests.{bit_is}

-- what is filtered out of ascending names ascends
above : (x : ℕ) (l : List ℕ) → ((y : ℕ) → y among l → x < y) → ascending l ≡ true → ascending (x ∷ l) ≡ true
unfolding ascending
above x [] f h = refl
above x (y ∷ l) f h = rw (lt-ltb x y (f y (mem-head y l))) h

filter-ascending : (p : ℕ → Bool) (x : ℕ) (l : List ℕ) → ascending (x ∷ l) ≡ true → ascending (x ∷ filter p l) ≡ true
unfolding filter
filter-ascending p x [] h = h
filter-ascending p x (y ∷ l) h =
    let t = filter-ascending p y l (ascending-tail x (y ∷ l) h) in
    by (p y)
    (λ e. rw e (above x (y ∷ filter p l) (λ z k. cons-by z y (filter p l) k (λ q. rw q (ascending-head x (y ∷ l) h y (mem-head y l)))
    (λ q. let a = ascending-head x (y ∷ l) h y (mem-head y l) in let b = ascending-head y (filter p l) t z q in omega arith)) t))
    (λ e. rw e (filter-ascending p x l (above x l (λ z k. ascending-head x (y ∷ l) h z (mem-tail z y l k)) (ascending-tail y l (ascending-tail x (y ∷ l) h)))))

pub bundle-fit : (R : Record) → Fit R → (e : ℕ) → Fit (bundle R e)
unfolding names written bundle
bundle-fit R f e =
    let x = bundle-extended f.formed e in
    let n = filter-names (λ y. mem y (members R e)) R.edits in
    record {
      edits = omega (arith, filter-length (λ y. mem y.name (members R e)) R.edits, f.edits);
      constraints = omega (arith, filter-length (λ c. between (members R e) c.left c.right) R.constraints, f.constraints);
      formed = bundle-well-formed f.formed e;
      ascends = rw n (filter-ascending (λ y. mem y (members R e)) 0 (map name_of R.edits) f.ascends);
      low = λ y i. cons-by y 0 (map name_of (filter (λ z. mem z.name (members R e)) R.edits)) i (λ q. omega arith) (λ k. f.low y (written-names R y (x.edits y k)));
      rules = λ a k b h. f.rules a k b (x.constraints a k b h);
      paired = λ a b h. f.paired a b (x.constraints a 2 b h);
    }

-- the edits one by one: their marks stand after INIT's
each-marked : (test : ℕ → Bool) (l : List ℕ) → list_all (λ mark. eqb mark 1) (map (λ x. cond (test x) 1 0) l) ≡ all test l
unfolding all
each-marked test [] = refl
each-marked test (x ∷ l) = rw (bit_is (test x), each-marked test l)

pub all-marked : (R : Record) (test : ℕ → Bool) (marks : List ℕ) (n : ℕ) → n + 1 ≡ length (names R) → marks ≡ marks_of R test
    → list_all (λ mark. eqb mark 1) (take n (drop 1 marks)) ≡ all test (written R)
unfolding marks_of values_of padded names
all-marked R test marks n h e =
    let bits : List ℕ = map (λ x. cond (test x) 1 0) (written R) in
    let k : length bits ≡ n = omega (arith, length-map {B = ℕ} (written R) (λ x. cond (test x) 1 0)) in
    let t : take n (drop 1 (marks_of R test)) ≡ bits = take-append-le n bits _ (omega arith) ∙ take_all n bits (omega arith) in
    rw (e, t) (each-marked test (written R))

pub eligible-all : (R : Record) (e : ℕ) → all (settled (bundle R e)) (written (bundle R e)) ≡ eligible R e
unfolding eligible
eligible-all R e = refl

-- the answer about a lent record
module _ (es cs : Rows) (e : ℕ) where
  -- what is not refused has rows without fault
  pub bundle-checked : 0 ≡ lent_edit_fault es cs e → 0 ≡ lent_fault empty_tables es cs
  unfolding lent_edit_fault
  bundle-checked h = sym (orelse-none (lent_fault empty_tables es cs) _ (sym h)).0

  pub bundle-answered : 0 ≡ lent_edit_fault es cs e → (x : Bool) (b : declared.Record) → x ≡ eligible (decoded es cs) e → b ≡ stored (bundle (decoded es cs) e)
      → record { number = 0; eligible = x; bundle = b } ≡ bundle_answer es cs e
  unfolding bundle_answer
  bundle-answered z x b p q = rw (sym z) (λ i. record { number = 0; eligible = p i; bundle = q i })

  pub bundle-refused : (n : ℕ) → n ≡ lent_edit_fault es cs e → (n ≡ 0 → ⊥) → refused_bundle n ≡ bundle_answer es cs e
  unfolding bundle_answer
  bundle-refused n q h = let z : eqb (lent_edit_fault es cs e) 0 ≡ false = ne_eqb (lent_edit_fault es cs e) 0 (λ y. h (q ∙ y)) in rw (z, q)
