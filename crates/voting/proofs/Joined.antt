-- Laws of records that are joined: what the union and the added constraints hold. Assumes nothing.
use mathlib.Core.Path.{◌≡◌, refl, sym, ◌∙◌}
use mathlib.Core.Bool.{true, ◌||◌}
use mathlib.Core.Logic.{◌⊎◌, inl, inr, ⊎_elim}
use mathlib.Core.List.{List, [], ◌∷◌, ◌++◌}
use Prim.Native.Nat.{ℕ}
use Rattle.record.specs.declared.Edit.{Edit}
use Rattle.record.specs.declared.Constraint.{Constraint}
use Rattle.lists.specs.Lists.{any, mem, ◌among◌, Has}
use Rattle.record.specs.Record.{Record, written, is, has, WellFormed, Extends}
use Rattle.lists.proofs.Lists.{by, clash, or-by, or_l, or_r, same_by}
use Rattle.record.proofs.Records.{constraint-by, has-head, has-tail}
use Rattle.lists.specs.Keyed.{Ascending, united}
use Rattle.lists.proofs.Order.{less-total}
use Rattle.lists.proofs.Union.{SameByKey, united-has, united-old, united-new, united-comm, united-part}
use Rattle.record_tables.specs.Table.{edit_key, constraint_key, unite}
use Rattle.record_tables.proofs.Unions.{mem-by, mem-has, united-extends, joining-extends}
use Rattle.voting.specs.Proposal.{joined_constraints, Joinable}

abbrev pub con : ℕ → ℕ → ℕ → Constraint
con a k b = record { left = a; rule = k; right = b }

-- "a k b" stands in a list just where the constraint does
pub has_in : (a k b : ℕ) (l : List Constraint) → has a k b l ≡ true → Has (con a k b) l
unfolding has any
has_in a k b [] h = clash h refl
has_in a k b (c ∷ l) h =
    or-by (is a k b c) (has a k b l) h
    (λ e. constraint-by a k b c e (λ x y z. inl (λ i. record { left = sym x i; rule = sym y i; right = sym z i })))
    (λ e. inr (has_in a k b l e))

pub in-has : (c : Constraint) (l : List Constraint) → Has c l → has c.left c.rule c.right l ≡ true
in-has c [] h = absurd h
in-has c (d ∷ l) (inl e) = rw e (has-head d l)
in-has c (d ∷ l) (inr h) = has-tail c.left c.rule c.right d l (in-has c l h)

pub has-append : (a k b : ℕ) (s t : List Constraint) → has a k b (s ++ t) ≡ (has a k b s || has a k b t)
unfolding has any
has-append a k b [] t = refl
has-append a k b (c ∷ s) t = by (is a k b c) (λ e. rw e) (λ e. rw e (has-append a k b s t))

-- a constraint is its key
pub constraints-agree : (s t : List Constraint) → SameByKey constraint_key s t
constraints-agree s t x r h k p q =
    let e = less-total (constraint_key x) (constraint_key r) refl p q in
    let l : x.left ≡ r.left = cc in
    let m : x.rule ≡ r.rule = cc in
    let n : x.right ≡ r.right = cc in
    λ i. record { left = l i; rule = m i; right = n i }

pub has-united : (a k b : ℕ) (s t : List Constraint) → has a k b (united constraint_key s t) ≡ (has a k b s || has a k b t)
has-united a k b s t =
    same_by _ _
    (λ h. ⊎_elim (λ (m : Has (con a k b) s). or_l _ _ (in-has (con a k b) s m)) (λ (m : Has (con a k b) t). or_r (has a k b s) _ (in-has (con a k b) t m))
    (united-has constraint_key (con a k b) s t (has_in a k b (united constraint_key s t) h)))
    (λ h. in-has (con a k b) _ (or-by (has a k b s) (has a k b t) h
    (λ m. united-old constraint_key (con a k b) s t (has_in a k b s m))
    (λ m. united-new constraint_key (con a k b) s t (constraints-agree t s) (constraints-agree t t) (has_in a k b t m))))

module _ {M Q : Record} (j : Joinable M Q) where
  pub unite-left : (e : Edit) → Has e M.edits → Has e (unite M Q).edits
  unfolding unite
  unite-left e h = united-old edit_key e M.edits Q.edits h

  pub unite-from : (e : Edit) → Has e (unite M Q).edits → Has e M.edits ⊎ Has e Q.edits
  unfolding unite
  unite-from e h = united-has edit_key e M.edits Q.edits h

  pub has-unite : (a k b : ℕ) → has a k b (unite M Q).constraints ≡ (has a k b M.constraints || has a k b Q.constraints)
  unfolding unite
  has-unite a k b = has-united a k b M.constraints Q.constraints

  -- a name of the union is of either
  written-by {ℓ} : {P : Type ℓ} (x : ℕ) → x among written (unite M Q) → (x among written M → P) → (x among written Q → P) → P
  unfolding written
  written-by x h f g =
      mem-by x (unite M Q).edits h
      (λ e m q. ⊎_elim (λ (i : Has e M.edits). f (mem-has x M.edits e i q)) (λ (i : Has e Q.edits). g (mem-has x Q.edits e i q)) (unite-from e m))

  pub unite-well-formed : WellFormed M → WellFormed Q → WellFormed (unite M Q)
  unite-well-formed v w = record {
    unwritten = by (mem 0 (written (unite M Q))) (λ h. written-by 0 h (λ i. clash i v.unwritten) (λ i. clash i w.unwritten)) (λ h. h);
    left = λ a k b h. or-by (has a k b M.constraints) (has a k b Q.constraints) (sym (has-unite a k b) ∙ h)
        (λ i. (united-extends M Q).edits a (v.left a k b i)) (λ i. (joining-extends M Q).edits a (w.left a k b i));
    right = λ a k b h. or-by (has a k b M.constraints) (has a k b Q.constraints) (sym (has-unite a k b) ∙ h)
        (λ i. ⊎_elim (λ (n : b among written M). inl ((united-extends M Q).edits b n)) (λ (z : (k ≡ 1) × (b ≡ 0)). inr z) (v.right a k b i))
        (λ i. ⊎_elim (λ (n : b among written Q). inl ((joining-extends M Q).edits b n)) (λ (z : (k ≡ 1) × (b ≡ 0)). inr z) (w.right a k b i));
  }

  -- what is contained in the other adds nothing
  pub unite-part : ((e : Edit) → Has e M.edits → Has e Q.edits) → ((c : Constraint) → Has c M.constraints → Has c Q.constraints) → unite M Q ≡ Q
  unfolding unite
  unite-part f g =
      let e = united-comm edit_key Q.edits M.edits j.right-edits j.left-edits j.bodies ∙ united-part edit_key Q.edits M.edits j.right-edits f in
      let c = united-comm constraint_key Q.constraints M.constraints j.right-constraints j.left-constraints (constraints-agree Q.constraints M.constraints)
      ∙ united-part constraint_key Q.constraints M.constraints j.right-constraints g in
      λ i. record { edits = e i; constraints = c i }

-- added constraints
module _ (R : Record) (l : List Constraint) where
  pub has-with : (a k b : ℕ) → has a k b (joined_constraints R l).constraints ≡ (has a k b R.constraints || has a k b l)
  unfolding joined_constraints
  has-with a k b = has-united a k b R.constraints l

  pub written-with : written (joined_constraints R l) ≡ written R
  unfolding joined_constraints written
  written-with = refl

  pub extends-with : Extends R (joined_constraints R l)
  extends-with = record { edits = λ x h. rw written-with h; constraints = λ a k b h. has-with a k b ∙ or_l _ _ h }

  pub with-well-formed : WellFormed R → ((a k b : ℕ) → has a k b l ≡ true → (a among written R) × ((b among written R) ⊎ ((k ≡ 1) × (b ≡ 0))))
      → WellFormed (joined_constraints R l)
  with-well-formed w f = record {
    unwritten = rw written-with w.unwritten;
    left = λ a k b h. rw written-with (or-by (has a k b R.constraints) (has a k b l) (sym (has-with a k b) ∙ h) (w.left a k b) (λ i. (f a k b i).0));
    right = λ a k b h. rw written-with (or-by (has a k b R.constraints) (has a k b l) (sym (has-with a k b) ∙ h) (w.right a k b) (λ i. (f a k b i).1));
  }

  pub with_part : Ascending constraint_key R.constraints → ((c : Constraint) → Has c l → Has c R.constraints) → joined_constraints R l ≡ R
  unfolding joined_constraints
  with_part a f = let c = united-part constraint_key R.constraints l a f in λ i. record { edits = R.edits; constraints = c i }
