-- The keys of a constraint's rows by its rule. Assumes nothing.
use mathlib.Core.Path.{◌≡◌, refl}
use mathlib.Core.Bool.{true, false}
use Prim.Native.Nat.{ℕ, zero, suc, ◌≤◌, ◌<◌}
use native.Mathlib.Omega.{arith}
use borrow.Author.Tests.{ne_eqb}
use Rattle.record.specs.Record.{Record, notafter}
use Rattle.graph.specs.links.Marks.{name_at}
use Rattle.voting_members.specs.Rows.{rival_key, enabled_key, forward_key, backward_key}

module _ (R : Record) (a k b : ℕ) where
  pub forward-notafter : k ≡ 0 → b ≡ forward_key R a k b
  unfolding forward_key
  forward-notafter e = rw e

  pub forward-enables : k ≡ 1 → enabled_key b ≡ forward_key R a k b
  unfolding forward_key
  forward-enables e = rw e

pub forward-rival : (R : Record) (a k b : ℕ) → (k ≡ 0 → ⊥) → (k ≡ 1 → ⊥) → rival_key R a b ≡ forward_key R a k b
unfolding forward_key
forward-rival R a zero b f g = absurd (f refl)
forward-rival R a (suc zero) b f g = absurd (g refl)
forward-rival R a (suc (suc k)) b f g = refl

pub backward-none : (R : Record) (a k b : ℕ) → k < 2 → 128 ≡ backward_key R a k b
unfolding backward_key
backward-none R a zero b h = refl
backward-none R a (suc zero) b h = refl
backward-none R a (suc (suc k)) b h = absurd (omega arith)

pub backward-rival : (R : Record) (a k b : ℕ) → 2 ≤ k → rival_key R b a ≡ backward_key R a k b
unfolding backward_key
backward-rival R a zero b h = absurd (omega arith)
backward-rival R a (suc zero) b h = absurd (omega arith)
backward-rival R a (suc (suc k)) b h = refl

pub rival-ordered : (R : Record) (a b : ℕ) → true ≡ notafter R (name_at R b) (name_at R a) → 128 ≡ rival_key R a b
unfolding rival_key
rival-ordered R a b e = rw (← e)

pub rival-open : (R : Record) (a b : ℕ) → false ≡ notafter R (name_at R b) (name_at R a) → b ≡ rival_key R a b
unfolding rival_key
rival-open R a b e = rw (← e)

pub enabled-init : (b : ℕ) → b ≡ 0 → 128 ≡ enabled_key b
unfolding enabled_key
enabled-init b e = rw e

pub enabled-written : (b : ℕ) → (b ≡ 0 → ⊥) → b ≡ enabled_key b
unfolding enabled_key
enabled-written b e = rw (ne_eqb b 0 e)
