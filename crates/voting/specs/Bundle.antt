-- Document 01, "Proposals and votes" (000 sections 3 and 5): bundles, over records without limits. Left out, as the document says: 000's
-- dropping of decided edits from a proposal. Assumes nothing.
use Rattle.std.specs.Prelude.{◌≡◌, Bool, true, false, not, ◌&&◌, ◌||◌, cond, List, [], ◌∷◌, ℕ, eqb}
use Rattle.std.proofs.Math.Option.{Option, none, some}
use Rattle.lists.specs.Lists.{all, filter, mem, closure}
use Rattle.record.specs.Record.{Record, written, notafter, enables, noncommuting}
use Rattle.record.specs.Sound.{Settled}
use Rattle.record.specs.Judgement.{settled}

-- The members of the bundle of e: the smallest set holding e, and for each member b every a other than 0 with: a notafter b; a enables b;
-- or a noncommuting b without "b notafter a". "enables 0" is not followed: 0 is no member.
pub data Member (R : Record) (e : ℕ) : ℕ → Type 0 where
  member-itself : Member R e e
  member-earlier : {a b : ℕ} → Member R e b → eqb a 0 ≡ false → notafter R a b ≡ true → Member R e a
  member-enabler : {a b : ℕ} → Member R e b → eqb a 0 ≡ false → enables R a b ≡ true → Member R e a
  rival : {a b : ℕ} → Member R e b → eqb a 0 ≡ false → noncommuting R a b ≡ true → notafter R b a ≡ false → Member R e a

-- as a test, and as a computing closure
unfoldable pub leads : Record → ℕ → ℕ → Bool
leads R a b = not (eqb a 0) && ((notafter R a b || enables R a b) || noncommuting R a b && not (notafter R b a))

unfoldable pub members : Record → ℕ → List ℕ
members R e = closure (leads R) (written R) (e ∷ [])

-- the ends are members, or a member and 0
unfoldable pub between : List ℕ → ℕ → ℕ → Bool
between m a b = mem a m && (mem b m || eqb b 0)

-- Bundle: 000's candidate, a well-formed prefix of the proposal. A small record: the members with their bodies, and the constraints between them.
unfoldable pub bundle : Record → ℕ → Record
bundle R e = record {
  edits = filter (λ x. mem x.name (members R e)) R.edits;
  constraints = filter (λ c. between (members R e) c.left c.right) R.constraints;
}

-- eligible: each member is settled in that small record taken alone
unfoldable pub Eligible : Record → ℕ → Type 0
Eligible R e = (x : ℕ) → Member R e x → Settled (bundle R e) x

unfoldable pub eligible : Record → ℕ → Bool
eligible R e = all (settled (bundle R e)) (written (bundle R e))

-- A vote is silent (none) or a bundle: the edit's eligible bundle in the proposal.
unfoldable pub vote : Record → ℕ → Option Record
vote R e = cond (mem e (written R) && eligible R e) (some (bundle R e)) none
