-- Keeping, edit by edit. Assumes nothing.
use mathlib.Core.Path.{◌≡◌, refl, ap, sym, ◌∙◌}
use mathlib.Core.Bool.{Bool, true, false, not, ◌&&◌, ◌||◌}
use mathlib.Core.List.{List, [], ◌∷◌, map}
use Prim.Native.Nat.{ℕ, zero, suc, ◌<◌}
use native.Mathlib.Omega.{arith}
use lib.ListN.{length, get_or, length-map}
use Rattle.std.specs.Bool.{MatchBool}
use Rattle.std.specs.List.{AllWithin, HoldsAt}
use Rattle.record.specs.declared.Edit.{Edit}
use Rattle.lists.specs.Lists.{all, ◌among◌}
use Rattle.record.specs.Record.{Record, written, name_of}
use Rattle.record.specs.Judgement.{settled}
use Rattle.record.specs.declared.Record as declared
use Rattle.record.specs.Stored.{stored, filler_edit}
use Rattle.graph.specs.indexes.Fit.{Fit}
use Rattle.lists.proofs.Lists.{by, get_or-mapped}
use Rattle.graph.proofs.links.Names.{get_or-among}
use Rattle.voting.specs.Bundle.{bundle, eligible}
use Rattle.voting.specs.Tally.{same_bundle}
use Rattle.voting.proofs.Elections.{same-is}
use Rattle.voting.specs.Proposal.{keeps}

-- the test of an edit
abbrev pub is_kept : Record → Record → ℕ → Bool
is_kept Q P e = not (eligible Q e) || same_bundle (bundle P e) (bundle Q e) && eligible P e

module _ (Q P : Record) (e : ℕ) where
  -- an equal bundle is as eligible
  as-eligible : bundle P e ≡ bundle Q e → eligible P e ≡ eligible Q e
  unfolding eligible
  as-eligible h = ap (λ (B : Record). all (settled B) (written B)) h

  pub same_kept : {b : Bool} → b ≡ same_bundle (bundle P e) (bundle Q e) → b ≡ true → true ≡ is_kept Q P e
  same_kept f g =
      let s : same_bundle (bundle P e) (bundle Q e) ≡ true = sym f ∙ g in
      rw (s, as-eligible ((same-is (bundle P e) (bundle Q e)).0 s)) (by (eligible Q e) (λ q. rw q) (λ q. rw q))

  pub other-kept : {b : Bool} → b ≡ same_bundle (bundle P e) (bundle Q e) → b ≡ false → {d : Bool} → d ≡ eligible Q e → not d ≡ is_kept Q P e
  other-kept f g h =
      let s : same_bundle (bundle P e) (bundle Q e) ≡ false = sym f ∙ g in
      rw (s, h) (by (eligible Q e) (λ q. rw q) (λ q. rw q))

-- a test of all names of a table: passed by each, and failed by one
module _ (f : ℕ → Bool) where
  all-pass : (l : List Edit) → ((k : ℕ) (d : Edit) → k < length l → f (get_or l k d).name ≡ true) → all f (map name_of l) ≡ true
  unfolding all
  all-pass [] h = refl
  all-pass (e ∷ l) h = rw (h 0 e (omega arith)) (all-pass l (λ k d i. h (suc k) d (omega arith)))

  one-fails : (l : List Edit) (k : ℕ) (d : Edit) → k < length l → f (get_or l k d).name ≡ false → all f (map name_of l) ≡ false
  unfolding all
  one-fails [] k d h e = absurd (omega (arith, h))
  one-fails (x ∷ l) zero d h e = rw e
  one-fails (x ∷ l) (suc k) d h e = let i = one-fails l k d (omega arith) e in by (f x.name) (λ p. rw (p, i)) (λ p. rw p)

-- what the test tells of a name, and, of two records, of an edit that the old one has
abbrev pub TellsKept : declared.Record → declared.Record → ℕ → Bool → Type 0
TellsKept old new x b = (Q P : Record) → old ≡ stored Q → Fit Q → new ≡ stored P → Fit P → x among written Q → x among written P → b ≡ is_kept Q P x

abbrev pub KeptAs : Record → Record → Bool → Edit → Type 0
KeptAs Q P b e = e.name among written Q → b ≡ is_kept Q P e.name

module _ (Q P : Record) where
  known : (k : ℕ) (d : Edit) → k < length Q.edits → (get_or Q.edits k d).name among written Q
  unfolding written
  known k d h = rw (← get_or-mapped name_of Q.edits k d 0 h) (get_or-among (map name_of Q.edits) k (omega (arith, length-map Q.edits name_of)))

  -- the test of all edits
  pub kept-all : (b : Bool) → MatchBool b (AllWithin (KeptAs Q P true) Q.edits 0 (length Q.edits)) ((k : ℕ) × (k < length Q.edits) × HoldsAt (KeptAs Q P false) Q.edits k) → b ≡ keeps Q P
  unfolding keeps written
  kept-all true h = sym (all-pass (is_kept Q P) Q.edits (λ k d i. sym (h k d (omega arith) i (known k d i))))
  kept-all false h = let d = filler_edit in sym (one-fails (is_kept Q P) Q.edits h.0 d h.1 (sym (h.2 d (known h.0 d h.1))))
