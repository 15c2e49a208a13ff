-- Theorems on bundles: the closure computes the smallest set; the small record of a sound proposal is sound; eligible is its meaning. Assumes nothing.
use mathlib.Core.Path.{◌≡◌, refl, ap}
use mathlib.Core.Bool.{Bool, true, false, not, ◌&&◌, ◌||◌, or-true}
use mathlib.Core.Logic.{◌↔◌, inl, inr}
use mathlib.Core.List.{List, [], ◌∷◌, map}
use Prim.Native.Nat.{ℕ}
use lib.Dec.{eqb}
use borrow.Author.Tests.{not-true}
use Rattle.record.specs.declared.Edit.{Edit}
use Rattle.lists.specs.Lists.{filter, mem, ◌among◌, ◌within◌}
use Rattle.record.specs.Record.{Record, name_of, written, has, notafter, enables, noncommuting, WellFormed, Extends}
use Rattle.record.specs.Judgement.{sound, settled}
use Rattle.lists.proofs.Lists.{by, clash, and_l, and_r, or-by, mem-head, cons-by, nil-no, filter-mem, mem-filter, all_in, in_all, closure-holds, closure-least, closure-closed}
use Rattle.record.proofs.Records.{filter-has, has-filter, not-init, noncommuting-left}
use Rattle.record.proofs.Judged.{settled_is}
use Rattle.record.proofs.Extended.{sound-extended}
use Rattle.voting.specs.Bundle.{Member, member-itself, member-earlier, member-enabler, rival, leads, members, between, bundle, Eligible, eligible}

-- the names of filtered edits
pub filter-names : (p : ℕ → Bool) (l : List Edit) → map name_of (filter (λ x. p x.name) l) ≡ filter p (map name_of l)
unfolding filter
filter-names p [] = refl
filter-names p (x ∷ l) = by (p x.name) (λ e. rw e (ap (λ r. x.name ∷ r) (filter-names p l))) (λ e. rw e (filter-names p l))

only : (x e : ℕ) → x among e ∷ [] → x ≡ e
only x e i = cons-by x e [] i (λ q. q) (nil-no x)

pub member-self : (R : Record) (e : ℕ) → e among members R e
unfolding members
member-self R e = closure-holds (leads R) (written R) (e ∷ []) e (mem-head e [])

module _ {R : Record} (w : WellFormed R) where
  pub leads-notafter : (a b : ℕ) → notafter R a b ≡ true → leads R a b ≡ true
  unfolding leads
  leads-notafter a b e = rw (not-init w a (w.left a 0 b e), e)

  pub leads-enables : (a b : ℕ) → enables R a b ≡ true → leads R a b ≡ true
  unfolding leads
  leads-enables a b e = simp (not-init w a (w.left a 1 b e), e, or-true)

  pub leads-rival : (a b : ℕ) → noncommuting R a b ≡ true → notafter R b a ≡ false → leads R a b ≡ true
  unfolding leads
  leads-rival a b e f = simp (not-init w a (noncommuting-left w a b e), e, f, or-true)

  pub leads-by {ℓ} : {P : Type ℓ} (a b : ℕ) → leads R a b ≡ true
      → (eqb a 0 ≡ false → notafter R a b ≡ true → P) → (eqb a 0 ≡ false → enables R a b ≡ true → P)
      → (eqb a 0 ≡ false → noncommuting R a b ≡ true → notafter R b a ≡ false → P) → P
  unfolding leads
  leads-by a b h f g k =
      let z : eqb a 0 ≡ false = not-true _ (and_l _ _ h) in
      or-by (notafter R a b || enables R a b) (noncommuting R a b && not (notafter R b a)) (and_r (not (eqb a 0)) _ h)
      (λ u. or-by (notafter R a b) (enables R a b) u (f z) (g z))
      (λ u. k z (and_l _ _ u) (not-true _ (and_r (noncommuting R a b) _ u)))

  pub leads-known : (a b : ℕ) → leads R a b ≡ true → a among written R
  leads-known a b h = leads-by a b h (λ z e. w.left a 0 b e) (λ z e. w.left a 1 b e) (λ z e f. noncommuting-left w a b e)

  module _ (e : ℕ) where
    pub members-closed : (a b : ℕ) → leads R a b ≡ true → b among members R e → a among members R e
    unfolding members
    members-closed = closure-closed (leads R) (written R) (e ∷ []) leads-known

    member-into : {x : ℕ} → Member R e x → x among members R e
    member-into member-itself = member-self R e
    member-into (member-earlier {a} {b} m z h) = members-closed a b (leads-notafter a b h) (member-into m)
    member-into (member-enabler {a} {b} m z h) = members-closed a b (leads-enables a b h) (member-into m)
    member-into (rival {a} {b} m z h k) = members-closed a b (leads-rival a b h k) (member-into m)

    -- The bundle's computing closure is the smallest set.
    pub members-is : (x : ℕ) → Member R e x ↔ x among members R e
    unfolding members
    members-is x = (
      λ m. member-into m,
      closure-least (leads R) (written R) (e ∷ []) (Member R e)
          (λ a b h m. leads-by a b h (λ z i. member-earlier m z i) (λ z i. member-enabler m z i) (λ z i j. rival m z i j))
          (λ y i. rw (only y e i) member-itself)
          x,
    )

    pub members-known : e among written R → members R e within written R
    unfolding members
    members-known i =
        closure-least (leads R) (written R) (e ∷ []) (λ x. x among written R) (λ a b h m. leads-known a b h) (λ x h. rw (only x e h) i)

    -- the edits of the bundle are the members that are edits of the proposal
    pub bundle_written : (x : ℕ) → x among written (bundle R e) → (x among written R) × (x among members R e)
    unfolding written bundle
    bundle_written x h = filter-mem (λ y. mem y (members R e)) (written R) x (rw (filter-names (λ y. mem y (members R e)) R.edits) at h)

    pub written-bundle : (x : ℕ) → x among written R → x among members R e → x among written (bundle R e)
    unfolding written bundle
    written-bundle x i h = rw (filter-names (λ y. mem y (members R e)) R.edits) (mem-filter (λ y. mem y (members R e)) (written R) x i h)

    bundle-has : (a k b : ℕ) → has a k b (bundle R e).constraints ≡ true → (has a k b R.constraints ≡ true) × (between (members R e) a b ≡ true)
    unfolding bundle
    bundle-has a k b = filter-has (between (members R e)) R.constraints a k b

    has-bundle : (a k b : ℕ) → has a k b R.constraints ≡ true → between (members R e) a b ≡ true → has a k b (bundle R e).constraints ≡ true
    unfolding bundle
    has-bundle a k b = has-filter (between (members R e)) R.constraints a k b

    pub bundle-extended : Extends (bundle R e) R
    bundle-extended = record { edits = λ x h. (bundle_written x h).0; constraints = λ a k b h. (bundle-has a k b h).0 }

    pub bundle-well-formed : WellFormed (bundle R e)
    unfolding between
    bundle-well-formed = record {
      unwritten = by (mem 0 (written (bundle R e))) (λ h. clash (bundle_written 0 h).0 w.unwritten) (λ h. h);
      left = λ a k b h. let r = bundle-has a k b h in written-bundle a (w.left a k b r.0) (and_l _ _ r.1);
      right = λ a k b h. let r = bundle-has a k b h in
          elim (w.right a k b r.0) [
            | inl j ↦ inl (written-bundle b j (or-by (mem b (members R e)) (eqb b 0) (and_r (mem a (members R e)) _ r.1) (λ u. u) (λ u. clash u (not-init w b j))))
            | inr z ↦ inr z
          ];
    }

    -- The small record of a sound proposal is sound.
    pub bundle-sound : sound R ≡ true → sound (bundle R e) ≡ true
    bundle-sound = sound-extended bundle-extended bundle-well-formed w

    -- Eligible: each member is settled in the small record taken alone.
    pub eligible-is : sound R ≡ true → e among written R → eligible R e ≡ true ↔ Eligible R e
    unfolding eligible Eligible
    eligible-is s i =
        let j = settled_is (bundle R e) bundle-well-formed (bundle-sound s) in (
          λ h x m. let k = member-into m in (j x).0 (all_in (settled (bundle R e)) (written (bundle R e)) h x (written-bundle x (members-known i x k) k)),
          λ f. in_all (settled (bundle R e)) (written (bundle R e)) (λ x m. (j x).1 (f x ((members-is x).1 (bundle_written x m).1))),
        )

    -- what leads into a bundle is in it
    pub bundle-notafter : (a b : ℕ) → b among members R e → notafter R a b ≡ true → notafter (bundle R e) a b ≡ true
    unfolding between
    bundle-notafter a b j h = has-bundle a 0 b h (rw (members-closed a b (leads-notafter a b h) j, j))

    pub bundle-enables : (a b : ℕ) → b among members R e → enables R a b ≡ true → enables (bundle R e) a b ≡ true
    unfolding between
    bundle-enables a b j h = has-bundle a 1 b h (rw (members-closed a b (leads-enables a b h) j, j))
