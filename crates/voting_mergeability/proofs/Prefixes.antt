-- Prefixes of sound records, and the union of prefixes that are compatible two by two. No vote is known here. Assumes nothing.
use mathlib.Core.Path.{◌≡◌}
use mathlib.Core.Bool.{true, false}
use mathlib.Core.Logic.{◌⊎◌, inl, inr}
use mathlib.Core.List.{List, [], ◌∷◌}
use Prim.Native.Nat.{ℕ, ◌<◌}
use native.Mathlib.Omega.{arith}
use Rattle.lists.specs.Lists.{◌among◌}
use Rattle.record.specs.Record.{Record, written, has, notafter, enables, WellFormed}
use Rattle.record.specs.Sound.{Chain, link, chain, Ring}
use Rattle.record.specs.Schedule.{needs, musts, ring}
use Rattle.record.specs.Judgement.{sound, must, never, settled}
use Rattle.lists.proofs.Lists.{by, clash, and_l, or-by, cons-by, nil-no, closure-least}
use Rattle.record.proofs.Records.{written-names, none-before-init}
use Rattle.record.proofs.Order.{needs-closed, ring-is}
use Rattle.record.proofs.Judged.{init-must, sound-no-both}
use Rattle.record.proofs.Extended.{must-extended, never-extended, sound-extended}
use Rattle.record.proofs.Scheduled.{musts-known}
use Rattle.voting_mergeability.specs.Argument.{Compatible, Family}

module _ {S T : Record} (v : WellFormed S) (w : WellFormed T) (c : Compatible S T) where
  pub compatible-sound : sound S ≡ true
  compatible-sound = sound-extended c.first.contained v c.formed c.whole-sound

  -- No edit of the one can never stand there and must stand in the other.
  pub compatible-apart : (x : ℕ) → x among written S → never S x ≡ true → must T x ≡ true → ⊥
  compatible-apart x i n m =
      (sound-no-both c.whole c.formed).0 c.whole-sound x
      (must-extended c.second.contained w c.formed x m)
      (never-extended c.first.contained v c.formed x (written-names S x i) n)

-- an enabler of an edit that must stand must stand
must-next : {R : Record} → WellFormed R → (a b : ℕ) → enables R a b ≡ true → b among musts R → a among musts R
unfolding musts
must-next {R} w a b e h = needs-closed R w (0 ∷ []) a b e h

init-stands : (R : Record) (b : ℕ) → b ≡ 0 → b among musts R
init-stands R b z = rw z (init-must R)

none_before : {R : Record} → WellFormed R → (a b : ℕ) → b ≡ 0 → notafter R a b ≡ false
none_before w a b z = rw z (none-before-init w a)

chain-last : {R : Record} {t : List ℕ} {a b : ℕ} → Chain R t a b → (c : ℕ) × (b among t) × (notafter R c b ≡ true)
chain-last (link {a} {b} i j e) = (a, j, e)
chain-last (chain i e l) = chain-last l

module _ {I : Type 0} {S : I → Record} {U : Record} (F : Family I S U) where
  -- what leads in the union to an edit of a member leads to it there
  left-closed : (i : I) (a k b : ℕ) → k < 2 → b among written (S i) → has a k b U.constraints ≡ true → has a k b (S i).constraints ≡ true
  left-closed i a k b l m h =
      let p = F.from a k b h in
      let c = F.compatible i p.0 in
      c.first.closed a k b l m (c.second.contained.constraints a k b p.1)

  -- an edit that must stand in the union must stand in a member
  must-some : (x : ℕ) → x among musts U → (x ≡ 0) ⊎ ((i : I) × (x among written (S i)) × (x among musts (S i)))
  unfolding musts needs
  must-some =
      closure-least (enables U) _ (0 ∷ []) (λ x. (x ≡ 0) ⊎ ((i : I) × (x among written (S i)) × (x among musts (S i))))
      (λ a b e h. elim h [
        | inl z ↦ (let p = F.from a 1 b e in
            let w = F.formed p.0 in
            inr (p.0, w.left a 1 b p.1, must-next w a b p.1 (init-stands (S p.0) b z)))
        | inr q ↦ (let w = F.formed q.0 in
            let d = left-closed q.0 a 1 b (omega arith) q.1 e in
            inr (q.0, w.left a 1 b d, must-next w a b d q.2))
      ])
      (λ x i. cons-by x 0 [] i (λ e. inl e) (nil-no x))

  -- and then in each member that has it
  must-each : (x : ℕ) → x among musts U → (i : I) → x among written (S i) → x among musts (S i)
  unfolding settled must
  must-each x n i m = elim (must-some x n) [
    | inl z ↦ clash (rw z at m) (F.formed i).unwritten
    | inr q ↦ or-by (never (S i) x) _ (F.settles i x m)
        (λ h. absurd (compatible-apart (F.formed i) (F.formed q.0) (F.compatible i q.0) x m h q.2))
        (λ h. and_l _ _ h)
  ]

  -- a chain of notafter that ends in a member lies in it
  chain-within : (i : I) {a b : ℕ} → Chain U (musts U) a b → b among written (S i) → Chain (S i) (musts (S i)) a b × (a among written (S i))
  chain-within i (link {a} {b} p q e) m =
      let d = left-closed i a 0 b (omega arith) m e in
      let k = (F.formed i).left a 0 b d in
      (link (must-each a p i k) (must-each b q i m) d, k)
  chain-within i (chain {a} {b} {c} p e l) m =
      let r = chain-within i l m in
      let d = left-closed i a 0 b (omega arith) r.1 e in
      let k = (F.formed i).left a 0 b d in
      (chain (must-each a p i k) d r.0, k)

  no-chain : (x : ℕ) → Chain U (musts U) x x → ⊥
  unfolding Ring sound
  no-chain x c =
      let z = chain-last c in
      elim (must-some x z.1) [
        | inl e ↦ clash z.2 (none_before F.union-formed z.0 x e)
        | inr q ↦ (let i = q.0 in
            let w = F.formed i in
            let s = compatible-sound w w (F.compatible i i) in
            let r = (ring-is (S i) (musts (S i)) (musts-known (S i) w)).1 (x, (chain-within i c q.1).0) in
            clash s (rw r))
      ]

  -- The union is sound.
  pub family-sound : sound U ≡ true
  unfolding sound Ring
  family-sound =
      by (ring U (musts U))
      (λ h. let r = (ring-is U (musts U) (musts-known U F.union-formed)).0 h in absurd (no-chain r.0 r.1))
      (λ h. rw h)
