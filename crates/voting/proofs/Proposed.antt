-- Theorems on proposals: an accepted one is sound, contains M and Q, settles every edit, and proposing again from it changes nothing; keeping is
-- transitive. Assumes nothing.
use mathlib.Core.Path.{◌≡◌, refl, sym, ap, ◌∙◌}
use mathlib.Core.Bool.{Bool, true, false, not, ◌&&◌, ◌||◌}
use mathlib.Core.Logic.{◌↔◌, ◌⊎◌, inl, inr, ⊎_elim}
use mathlib.Core.List.{List, [], ◌∷◌}
use Prim.Native.Nat.{ℕ}
use native.Mathlib.Omega.{arith}
use Rattle.record.specs.declared.Constraint.{Constraint}
use Rattle.lists.specs.Lists.{◌among◌, Has}
use Rattle.record.specs.Record.{Record, written, has, WellFormed, Extends}
use Rattle.record.specs.Judgement.{sound, settled}
use Rattle.lists.proofs.Lists.{by, and_l, and_r, and_i, or-by, all_in, in_all}
use Rattle.record.proofs.Records.{right-written}
use Rattle.lists.specs.Keyed.{Ascending, united}
use Rattle.lists.proofs.Union.{ascending-united, agree-self}
use Rattle.lists.proofs.Logic.{has-append-by}
use Rattle.voting.specs.Bundle.{bundle, eligible}
use Rattle.voting.specs.Tally.{same_bundle}
use Rattle.voting.proofs.Bundles.{bundle_written, written-bundle, member-self}
use Rattle.voting.proofs.Elections.{same-is}
use Rattle.record_tables.specs.Table.{edit_key, constraint_key, unite}
use Rattle.record_tables.proofs.Unions.{united-extends, joining-extends}
use Rattle.voting.specs.Proposal.{joined_constraints, before, unordered, settled_in, settled_first, firsts, started, finished, proposed, Paired, Joinable, Keeps, keeps}
use Rattle.voting.proofs.Joined.{con, has_in, in-has, has-with, extends-with, with-well-formed, unite-left, has-unite, unite-well-formed, unite-part}
use Rattle.voting.proofs.Finished.{unordered-from, finished-extends, finished-well-formed, finished-sound, finished-settled, finished-ascending, finished-again}

pub extends-trans : {P Q R : Record} → Extends P Q → Extends Q R → Extends P R
extends-trans x y = record { edits = λ e h. y.edits e (x.edits e h); constraints = λ a k b h. y.constraints a k b (x.constraints a k b h) }

-- the rows "b notafter a"
first_by_lem : (s t : Bool) (l r : ℕ) (c : Constraint) → Has c (settled_first s t l r) → (c ≡ before l r) ⊎ (c ≡ before r l)
first_by_lem true true l r c h = absurd h
first_by_lem true false l r c (inl e) = inl e
first_by_lem true false l r c (inr h) = absurd h
first_by_lem false true l r c (inl e) = inr e
first_by_lem false true l r c (inr h) = absurd h
first_by_lem false false l r c h = absurd h

pub firsts-by {ℓ} : {P : Type ℓ} (Q : Record) (l : List Constraint) (c : Constraint) → Has c (firsts Q l)
    → ((d : Constraint) → Has d l → (c ≡ before d.left d.right) ⊎ (c ≡ before d.right d.left) → P) → P
unfolding firsts
firsts-by Q [] c h f = absurd h
firsts-by Q (d ∷ l) c h f =
    has-append-by c (settled_first (settled_in Q d.left) (settled_in Q d.right) d.left d.right) (firsts Q l) h
    (λ m. f d (inl refl) (first_by_lem (settled_in Q d.left) (settled_in Q d.right) d.left d.right c m))
    (λ m. firsts-by Q l c m (λ e n. f e (inr n)))

firsts-none : (Q : Record) (l : List Constraint) → ((c : Constraint) → Has c l → (settled_in Q c.left ≡ true) × (settled_in Q c.right ≡ true)) → firsts Q l ≡ []
unfolding firsts
firsts-none Q [] f = refl
firsts-none Q (c ∷ l) f = let r = f c (inl refl) in rw (r.0, r.1) (firsts-none Q l (λ d m. f d (inr m)))

module _ {M Q : Record} (j : Joinable M Q) (v : WellFormed M) (w : WellFormed Q) (p : Paired M) (q : Paired Q) where
  unite-paired : Paired (unite M Q)
  unite-paired = record {
    lower = λ a b h. or-by (has a 2 b M.constraints) (has a 2 b Q.constraints) (sym (has-unite j a 2 b) ∙ h) (p.lower a b) (q.lower a b);
  }

  -- a row "b notafter a" joins two edits of the union
  first_ends : (c : Constraint) → Has c (firsts Q (unordered (unite M Q))) → (c.left among written (unite M Q)) × (c.rule ≡ 0) × (c.right among written (unite M Q))
  first_ends c h =
      firsts-by Q (unordered (unite M Q)) c h
      (λ d m o. let u = (unordered-from (unite M Q) d m).0 in
      let l = (unite-well-formed j v w).left d.left 2 d.right u in
      let r = right-written (unite-well-formed j v w) d.left 2 d.right u (λ z. omega arith) in
      ⊎_elim (λ (e : c ≡ before d.left d.right). rw e (l, refl, r)) (λ (e : c ≡ before d.right d.left). rw e (r, refl, l)) o)

  pub started-well-formed : WellFormed (started M Q)
  unfolding started
  started-well-formed = with-well-formed (unite M Q) _ (unite-well-formed j v w) (λ a k b h. let r = first_ends (con a k b) (has_in a k b _ h) in (r.0, inl r.2))

  pub started-paired : Paired (started M Q)
  unfolding started
  started-paired = record {
    lower = λ a b h. or-by (has a 2 b (unite M Q).constraints) _ (sym (has-with (unite M Q) _ a 2 b) ∙ h) (unite-paired.lower a b)
        (λ i. absurd (let r = (first_ends (con a 2 b) (has_in a 2 b _ i)).1 in omega arith));
  }

  pub started-extends : Extends (unite M Q) (started M Q)
  unfolding started
  started-extends = extends-with (unite M Q) _

  started-ascending : Ascending constraint_key (started M Q).constraints
  unfolding started joined_constraints unite
  started-ascending = ascending-united constraint_key _ _ (ascending-united constraint_key M.constraints Q.constraints j.left-constraints)

  module _ (h : sound (started M Q) ≡ true) where
    pub proposed-well-formed : WellFormed (proposed M Q)
    unfolding proposed
    proposed-well-formed = finished-well-formed started-well-formed started-paired h

    -- An accepted proposal is a sound record that contains M and Q.
    pub proposed-sound : sound (proposed M Q) ≡ true
    unfolding proposed
    proposed-sound = finished-sound started-well-formed started-paired h

    from-union : Extends (unite M Q) (proposed M Q)
    unfolding proposed
    from-union = extends-trans started-extends (finished-extends started-well-formed started-paired h)

    pub proposed-left : Extends M (proposed M Q)
    proposed-left = extends-trans (united-extends M Q) from-union

    pub proposed-right : Extends Q (proposed M Q)
    proposed-right = extends-trans (joining-extends M Q) from-union

    -- with the bodies of its edits
    pub proposed-edits : (proposed M Q).edits ≡ (unite M Q).edits
    unfolding proposed finished joined_constraints started
    proposed-edits = refl

    -- Every edit of it is settled in it.
    pub proposed-settled : (x : ℕ) → x among written (proposed M Q) → settled (proposed M Q) x ≡ true
    unfolding proposed
    proposed-settled = finished-settled started-well-formed started-paired h

    proposed-ascending : Ascending constraint_key (proposed M Q).constraints
    unfolding proposed
    proposed-ascending = finished-ascending started-well-formed started-paired h started-ascending

    proposed-edits-ascend : Ascending edit_key (proposed M Q).edits
    unfolding unite
    proposed-edits-ascend = rw proposed-edits (ascending-united edit_key M.edits Q.edits j.left-edits)

    again-joins : Joinable M (proposed M Q)
    again-joins = record {
      left-edits = j.left-edits;
      right-edits = proposed-edits-ascend;
      left-constraints = j.left-constraints;
      right-constraints = proposed-ascending;
      bodies = λ x r m n. agree-self edit_key (proposed M Q).edits proposed-edits-ascend x r m (rw proposed-edits (unite-left j r n));
    }

    again-united : unite M (proposed M Q) ≡ proposed M Q
    again-united = unite-part again-joins (λ e m. rw proposed-edits (unite-left j e m))
        (λ c m. has_in c.left c.rule c.right _ (proposed-left.constraints c.left c.rule c.right (in-has c M.constraints m)))

    settled-in : (x : ℕ) → x among written (proposed M Q) → settled_in (proposed M Q) x ≡ true
    unfolding settled_in
    settled-in x i = and_i _ _ i (proposed-settled x i)

    again-firsts : firsts (proposed M Q) (unordered (proposed M Q)) ≡ []
    again-firsts = firsts-none (proposed M Q) (unordered (proposed M Q)) (λ c m.
        let u = (unordered-from (proposed M Q) c m).0 in (
          settled-in c.left (proposed-well-formed.left c.left 2 c.right u),
          settled-in c.right (right-written proposed-well-formed c.left 2 c.right u (λ z. omega arith)),
        ))

    again-started : started M (proposed M Q) ≡ proposed M Q
    unfolding started joined_constraints united
    again-started = rw (again-united, again-firsts)

    again-finished : finished (proposed M Q) ≡ proposed M Q
    unfolding proposed
    again-finished = finished-again started-well-formed started-paired h started-ascending

    -- Proposing again from it changes nothing.
    pub proposed-again : proposed M (proposed M Q) ≡ proposed M Q
    unfolding proposed
    proposed-again = ap finished again-started ∙ again-finished

-- Keeping, as a test.
pub keeps-is : (Q P : Record) → keeps Q P ≡ true ↔ Keeps Q P
unfolding keeps Keeps
keeps-is Q P = (
  λ h e i k. let u = all_in (λ e. not (eligible Q e) || same_bundle (bundle P e) (bundle Q e) && eligible P e) (written Q) h e i in
      let z = rw k at u in ((same-is (bundle P e) (bundle Q e)).0 (and_l _ _ z), and_r (same_bundle (bundle P e) (bundle Q e)) _ z),
  λ f. in_all (λ e. not (eligible Q e) || same_bundle (bundle P e) (bundle Q e) && eligible P e) (written Q)
      (λ e i. by (eligible Q e) (λ k. let r = f e i k in rw k (and_i _ _ ((same-is (bundle P e) (bundle Q e)).1 r.0) r.1)) (λ k. rw k)),
)

-- Keeping is transitive.
pub keeps-trans : (P Q S : Record) → WellFormed P → WellFormed Q → Keeps P Q → Keeps Q S → Keeps P S
unfolding Keeps
keeps-trans P Q S v w f g e i k =
    let r = f e i k in
    let m : e among written (bundle Q e) = rw r.0 (written-bundle v e e i (member-self P e)) in
    let s = g e (bundle_written w e e m).0 r.1 in
    (s.0 ∙ r.0, s.1)
