-- The product's own union, folded over records: what it has, for edits and constraints at once. Assumes nothing.
use mathlib.Core.Path.{◌≡◌, refl}
use mathlib.Core.Logic.{◌↔◌, ◌⊎◌, inl, inr, ⊎_elim}
use mathlib.Core.List.{List, [], ◌∷◌}
use Prim.Native.Nat.{ℕ}
use Rattle.record.specs.Record.{Record}
use Rattle.lists.specs.Keyed.{Ascending, united}
use Rattle.lists.specs.Lists.{Has}
use Rattle.lists.proofs.Order.{less-total}
use Rattle.lists.proofs.Union.{SameByKey, united-has, united-old, united-new, ascending-united}
use Rattle.record_tables.specs.Table.{edit_key, constraint_key, empty_tables, unite}
use Rattle.voting.proofs.Joined.{constraints-agree}
use Rattle.voting_mergeability.specs.Mergeability.{OneBody, UnionOf, unite_all}

-- one of the two tables of a record
module _ {A : Type 0} (key : A → List ℕ) (table : Record → List A) (joins : (R S : Record) → table (unite R S) ≡ united key (table R) (table S)) where
  -- no key stands in two of them with different elements
  EachAgree : Record → List Record → Type 0
  EachAgree R l = (P Q : Record) → Has P (R ∷ l) → Has Q (R ∷ l) → SameByKey key (table P) (table Q)

  all_old : (R : Record) (l : List Record) (x : A) → Has x (table R) → Has x (table (unite_all R l))
  unfolding unite_all
  all_old R [] x h = h
  all_old R (B ∷ l) x h = all_old (unite R B) l x (rw (joins R B) (united-old key x (table R) (table B) h))

  from-two : (R B : Record) (x : A) → Has x (table (unite R B)) → Has x (table R) ⊎ Has x (table B)
  from-two R B x h = united-has key x (table R) (table B) (rw (joins R B) at h)

  all_from : (R : Record) (l : List Record) (x : A) → Has x (table (unite_all R l)) → Has x (table R) ⊎ ((B : Record) × Has B l × Has x (table B))
  unfolding unite_all
  all_from R [] x h = inl h
  all_from R (B ∷ l) x h = elim (all_from (unite R B) l x h) [
    | inl i ↦ elim (from-two R B x i) [ inl j ↦ inl j | inr j ↦ inr (B, inl refl, j) ]
    | inr r ↦ inr (r.0, inr r.1, r.2)
  ]

  agree-next : (R B : Record) (l : List Record) → EachAgree R (B ∷ l) → EachAgree (unite R B) l
  unfolding EachAgree
  agree-next R B l f P Q i j x r h k p q = two P i x h (λ S m a. two Q j r k (λ T n b. f S T m n x r a b p q))
    where
      two : {Z : Type 0} (P : Record) → Has P (unite R B ∷ l) → (x : A) → Has x (table P) → ((S : Record) → Has S (R ∷ B ∷ l) → Has x (table S) → Z) → Z
      two P (inl e) x h g = ⊎_elim (λ (m : Has x (table R)). g R (inl refl) m) (λ (m : Has x (table B)). g B (inr (inl refl)) m) (from-two R B x (rw e at h))
      two P (inr i) x h g = g P (inr (inr i)) h

  all_new : (R : Record) (l : List Record) → EachAgree R l → (B : Record) → Has B l → (x : A) → Has x (table B) → Has x (table (unite_all R l))
  unfolding unite_all EachAgree
  all_new R [] f B i x h = absurd i
  all_new R (C ∷ l) f B (inl e) x h =
      let m : Has x (table C) = rw e at h in
      all_old (unite R C) l x
      (rw (joins R C) (united-new key x (table R) (table C) (f C R (inr (inl refl)) (inl refl)) (f C C (inr (inl refl)) (inr (inl refl))) m))
  all_new R (C ∷ l) f B (inr i) x h = all_new (unite R C) l (agree-next R C l f) B i x h

  all-ascending : (R : Record) (l : List Record) → Ascending key (table R) → Ascending key (table (unite_all R l))
  unfolding unite_all
  all-ascending R [] a = a
  all-ascending R (B ∷ l) a = all-ascending (unite R B) l (rw (joins R B) (ascending-united key (table R) (table B) a))

  -- from the empty record on it has just what they have
  all-is : ((x : A) → Has x (table empty_tables) → ⊥) → (l : List Record) → EachAgree empty_tables l → (x : A)
      → Has x (table (unite_all empty_tables l)) ↔ ((B : Record) × Has B l × Has x (table B))
  all-is none l f x = (
    λ h. elim (all_from empty_tables l x h) [ inl i ↦ absurd (none x i) | inr r ↦ r ],
    λ r. all_new empty_tables l f r.0 r.1 x r.2,
  )

edits-join : (R S : Record) → (unite R S).edits ≡ united edit_key R.edits S.edits
unfolding unite
edits-join R S = refl

constraints-join : (R S : Record) → (unite R S).constraints ≡ united constraint_key R.constraints S.constraints
unfolding unite
constraints-join R S = refl

-- an edit's key is its name
bodies-agree : (P Q : Record) → OneBody P Q → SameByKey edit_key P.edits Q.edits
unfolding OneBody
bodies-agree P Q f d e h i p q =
    let k = less-total (edit_key d) (edit_key e) refl p q in
    let n : d.name ≡ e.name = cc in
    let b = f d e h i n in
    λ j. record { name = n j; body = b j }

-- one body to a name in any two of some records
abbrev pub PairwiseOneBody : List Record → Type 0
PairwiseOneBody l = (A B : Record) → Has A l → Has B l → OneBody A B

edits-agree : (l : List Record) → PairwiseOneBody l → EachAgree edit_key (λ R. R.edits) edits-join empty_tables l
unfolding EachAgree
edits-agree l f P Q (inl e) j x r h k p q = absurd (let m : Has x empty_tables.edits = rw e at h in m)
edits-agree l f P Q (inr i) (inl e) x r h k p q = absurd (let m : Has r empty_tables.edits = rw e at k in m)
edits-agree l f P Q (inr i) (inr j) x r h k p q = bodies-agree P Q (f P Q i j) x r h k p q

all-agree : (l : List Record) → EachAgree constraint_key (λ R. R.constraints) constraints-join empty_tables l
unfolding EachAgree
all-agree l P Q i j = constraints-agree P.constraints Q.constraints

-- The product's own union of records with one body to a name is their union, and its tables ascend.
pub all-unites : (l : List Record) → PairwiseOneBody l → UnionOf l (unite_all empty_tables l)
all-unites l f = record {
  edits = all-is edit_key (λ R. R.edits) edits-join (λ x h. h) l (edits-agree l f);
  constraints = all-is constraint_key (λ R. R.constraints) constraints-join (λ x h. h) l (all-agree l);
}

pub edits-ascending : (l : List Record) → Ascending edit_key (unite_all empty_tables l).edits
edits-ascending l = all-ascending edit_key (λ R. R.edits) edits-join empty_tables l tt

pub constraints-ascending : (l : List Record) → Ascending constraint_key (unite_all empty_tables l).constraints
constraints-ascending l = all-ascending constraint_key (λ R. R.constraints) constraints-join empty_tables l tt
