-- Document 02, A3: why an edit must stand, or can never stand, and which of several reasons is given: what the words mean. Given.antt has it as a computing function. Assumes nothing.
use Rattle.std.specs.Prelude.{◌≡◌, Bool, true, false, ◌&&◌, ◌||◌, ◌⊎◌, List, [], ◌∷◌, ◌++◌, ℕ, ◌+◌, ◌≤◌, eqb, ltb, length}
use Rattle.lists.specs.Lists.{◌among◌}
use Rattle.record.specs.Record.{Record, notafter, enables}
use Rattle.record.specs.Sound.{Needs}

-- A walk: a row of names from x to z, each linked to the next. A name may stand in it more than once.
pub data WalkAlong (link : ℕ → ℕ → Bool) : ℕ → ℕ → List ℕ → Type 0 where
  alone : {x : ℕ} → WalkAlong link x x (x ∷ [])
  onward : {x y z : ℕ} {row : List ℕ} → link x y ≡ true → WalkAlong link y z row → WalkAlong link x z (x ∷ row)

-- must: a chain of enables, each name enabling the next, that ends in 0
abbrev pub MustReason : Record → ℕ → List ℕ → Type 0
MustReason R e chain = WalkAlong (enables R) e 0 chain

-- enables read from its right side: a enables x
abbrev pub enabled_by : Record → ℕ → ℕ → Bool
enabled_by R x a = enables R a x

-- never: a chain from the edit, or from INIT, in which each next name enables the one before, and the ring that it leads to. The ring is written from the
-- member that the chain reaches, along its arrows; the last of it is notafter the first, and all of it is among the edit's needs.
pub record NeverReason (R : Record) (e : ℕ) (chain ring : List ℕ) : Type 0 where
  pub start : ℕ
  pub meet : ℕ
  pub last : ℕ
  pub from : (start ≡ 0) ⊎ (start ≡ e)
  pub chained : WalkAlong (enabled_by R) start meet chain
  pub ringed : WalkAlong (notafter R) meet last ring
  pub closed : notafter R last meet ≡ true
  pub needed : (x : ℕ) → x among ring → Needs R e x

pub data Reason : Type 0 where
  must_by : List ℕ → Reason
  never_by : List ℕ → List ℕ → Reason

abbrev pub IsReason : Record → ℕ → Reason → Type 0
IsReason R e (must_by chain) = MustReason R e chain
IsReason R e (never_by chain ring) = NeverReason R e chain ring

-- a chain has a link less than names, a ring as many
unfoldable pub chain_links : List ℕ → ℕ
chain_links [] = 0
chain_links (x ∷ row) = length row

abbrev pub links : Reason → ℕ
links (must_by chain) = chain_links chain
links (never_by chain ring) = chain_links chain + length ring

-- the row of names as it is printed
abbrev pub names_printed : Reason → List ℕ
names_printed (must_by chain) = chain
names_printed (never_by chain ring) = chain ++ ring

-- a is lower than b at the first difference, or is a beginning of it
unfoldable pub lower : List ℕ → List ℕ → Bool
lower a [] = false
lower [] (y ∷ b) = true
lower (x ∷ a) (y ∷ b) = ltb x y || eqb x y && lower a b

-- THE REASON THAT IS GIVEN: none has fewer links, and of as many none has a lower row.
pub record Least (R : Record) (e : ℕ) (r : Reason) : Type 0 where
  pub given : IsReason R e r
  pub fewest : (s : Reason) → IsReason R e s → links r ≤ links s
  pub lowest : (s : Reason) → IsReason R e s → links s ≡ links r → lower (names_printed s) (names_printed r) ≡ false
