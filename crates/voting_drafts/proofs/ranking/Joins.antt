-- A table that is joined by what each element of a list gives. Assumes nothing.
use mathlib.Core.Path.{◌≡◌, refl, ap, sym, ◌∙◌}
use mathlib.Core.Logic.{inl, inr}
use mathlib.Core.List.{List, [], ◌∷◌, ◌++◌, append-nil}
use Rattle.std.specs.Prelude.{Result, Err, flat_map}
use Rattle.refusals.specs.declared.Refusal.{Refusal}
use Prim.Native.Nat.{ℕ, ◌+◌, ◌≤◌, ◌<◌}
use lib.ListN.{length, take, drop, get_or, take-append-drop}
use lib.Seq.{take_all}
use Rattle.record.specs.declared.Constraint.{Constraint}
use Rattle.lists.specs.Lists.{Has}
use Rattle.lists.specs.Keyed.{inserted, united}
use Rattle.record_tables.specs.Table.{constraint_key}
use Rattle.record_joining.specs.declared.insertion.Constraints.{Constraints}
use Rattle.record_joining.specs.insertion.Insertion.{table_of}
use Rattle.std.proofs.lemmas.Grind.{flat_map-append}
use Rattle.std.proofs.lemmas.List.{take_more}
use Rattle.record_joining.proofs.insertion.Tables.{stays-full}

module _ {A B : Type 0} (f : A → List B) where
  -- one element more
  flat-next : (l : List A) (i : ℕ) (d : A) → i < length l → flat_map f (take (i + 1) l) ≡ flat_map f (take i l) ++ f (get_or l i d)
  flat-next l i d h =
      ap (flat_map f) (take_more l i d h) ∙ flat_map-append f (take i l) (get_or l i d ∷ []) ∙ ap (λ (r : List B). flat_map f (take i l) ++ r) (append-nil (f (get_or l i d)))

  -- two ways to give the same for each element give the same for all
  pub flat-same : (g : A → List B) (l : List A) → ((x : A) → Has x l → f x ≡ g x) → flat_map f l ≡ flat_map g l
  flat-same g [] h = refl
  flat-same g (x ∷ l) h = ap (λ (r : List B). r ++ flat_map f l) (h x (inl refl)) ∙ ap (λ (r : List B). g x ++ r) (flat-same g l (λ y m. h y (inr m)))

pub united-append : {A : Type 0} (key : A → List ℕ) (t r s : List A) → united key t (r ++ s) ≡ united key (united key t r) s
unfolding united
united-append key t [] s = refl
united-append key t (x ∷ r) s = united-append key (inserted key x t) r s

pub united-one : {A : Type 0} (key : A → List ℕ) (t : List A) (x : A) → inserted key x t ≡ united key t (x ∷ [])
unfolding united
united-one key t x = refl

pub united-none : {A : Type 0} (key : A → List ℕ) (t : List A) → t ≡ united key t []
unfolding united
united-none key t = refl

-- a table that is joined by no row, and by one
module _ (t : List Constraint) {rows : List Constraint} {table : Result Constraints Refusal} where
  pub joined-none : rows ≡ [] → table ≡ table_of t → table ≡ table_of (united constraint_key t rows)
  joined-none e q = q ∙ ap table_of (united-none constraint_key t ∙ ap (united constraint_key t) (sym e))

  pub joined-one : {row : Constraint} → rows ≡ row ∷ [] → {c : Constraint} → c ≡ row → table ≡ table_of (inserted constraint_key c t) → table ≡ table_of (united constraint_key t rows)
  joined-one e {c} r q = q ∙ ap table_of (united-one constraint_key t c ∙ ap (λ (x : Constraint). united constraint_key t (x ∷ [])) r ∙ ap (united constraint_key t) (sym e))

-- a table that is joined by what f gives for the first elements of a list
module _ {A : Type 0} (f : A → List Constraint) (t : List Constraint) where
  pub joins-start : (l : List A) {table : Result Constraints Refusal} → table ≡ table_of t → table ≡ table_of (united constraint_key t (flat_map f (take 0 l)))
  joins-start l = joined-none t refl

  pub joins-next : (l : List A) (i : ℕ) (d : A) {table : Result Constraints Refusal} → i < length l
      → table ≡ table_of (united constraint_key (united constraint_key t (flat_map f (take i l))) (f (get_or l i d))) → table ≡ table_of (united constraint_key t (flat_map f (take (i + 1) l)))
  joins-next l i d h e = e ∙ ap table_of (sym (ap (united constraint_key t) (flat-next f l i d h) ∙ united-append constraint_key t (flat_map f (take i l)) (f (get_or l i d))))

  pub joined-end : (l : List A) (i : ℕ) {table : Result Constraints Refusal} → length l ≤ i → table ≡ table_of (united constraint_key t (flat_map f (take i l))) → table ≡ table_of (united constraint_key t (flat_map f l))
  joined-end l i h e = e ∙ ap (λ (r : List A). table_of (united constraint_key t (flat_map f r))) (take_all i l h)

  -- what has no place for the rows of the first elements has none for those of all
  pub joined-full : (l : List A) (i : ℕ) {r : Refusal} → Err r ≡ table_of (united constraint_key t (flat_map f (take i l))) → Err r ≡ table_of (united constraint_key t (flat_map f l))
  joined-full l i e =
      let s : flat_map f (take i l) ++ flat_map f (drop i l) ≡ flat_map f l = sym (flat_map-append f (take i l) (drop i l)) ∙ ap (flat_map f) (take-append-drop i l) in
      stays-full (united constraint_key t (flat_map f (take i l))) (flat_map f (drop i l)) e
      ∙ ap table_of (sym (united-append constraint_key t (flat_map f (take i l)) (flat_map f (drop i l))) ∙ ap (united constraint_key t) s)
