-- Votes of proposals that keep one another, and the voter that two won elections have in common. Assumes nothing.
use mathlib.Core.Path.{◌≡◌, refl, sym, ap, ◌∙◌}
use mathlib.Core.Bool.{Bool, true, ◌&&◌, cond}
use mathlib.Core.Logic.{◌⊎◌, inl, inr}
use mathlib.Core.List.{List, [], ◌∷◌}
use mathlib.Core.Option.{Option, none, some}
use Prim.Native.Nat.{ℕ, zero, suc, ◌+◌, ◌*◌, ◌<◌}
use native.Mathlib.Omega.{arith}
use lib.Dec.{ltb}
use borrow.Author.Tests.{ltb-true, ltb-false}
use Rattle.record.specs.declared.Edit.{Edit}
use Rattle.lists.specs.Lists.{mem, ◌among◌, Has}
use Rattle.record.specs.Record.{Record, written, has, WellFormed}
use Rattle.record.specs.Judgement.{settled}
use Rattle.lists.proofs.Lists.{by, clash, and_l, and_r, nil-no, all_in}
use Rattle.lists.proofs.Logic.{filter-from}
use Rattle.record_tables.specs.Table.{empty_tables}
use Rattle.voting.specs.declared.RollRow.{RollRow}
use Rattle.voting.specs.Bundle.{members, bundle, eligible, vote}
use Rattle.voting.specs.Tally.{ballots, total, weigh, votes_for, wins}
use Rattle.voting.proofs.Bundles.{member-self, bundle_written, written-bundle, bundle-extended, bundle-well-formed, bundle-notafter, bundle-enables}
use Rattle.voting.proofs.Elections.{same-is, winner-wins}
use Rattle.voting.specs.Proposal.{Keeps}
use Rattle.voting.proofs.Proposed.{keeps-trans}
use Rattle.voting_mergeability.specs.Mergeability.{KeptRow, HeldElection, won_bundle}
use Rattle.voting_mergeability.specs.Argument.{Prefix, IsVote, weighed, whole_weight, CommonRow, CommonVoter}

pub is-vote : (P : Record) (e : ℕ) (B : Record) → vote P e ≡ some B → IsVote P e B
unfolding vote
is-vote P e B h =
    by (mem e (written P) && eligible P e)
    (λ q. record { known = and_l _ _ q; eligible-there = and_r (mem e (written P)) _ q; is = (let r = rw q at h in cc) })
    (λ q. absurd (let r = rw q at h in let z : ◌≡◌ {A = ℕ} 0 1 = cc in omega arith))

module _ {P B : Record} {e : ℕ} (w : WellFormed P) (v : IsVote P e B) where
  pub vote-formed : WellFormed B
  vote-formed = rw (← v.is) (bundle-well-formed w e)

  pub vote-prefix : Prefix B P
  vote-prefix = rw (← v.is) (record { contained = bundle-extended w e; closed = closed })
    where
      closed : (a k b : ℕ) → k < 2 → b among written (bundle P e) → has a k b P.constraints ≡ true
          → has a k b (bundle P e).constraints ≡ true
      closed a zero b l m h = bundle-notafter w e a b (bundle_written w e b m).1 h
      closed a (suc zero) b l m h = bundle-enables w e a b (bundle_written w e b m).1 h
      closed a (suc (suc k)) b l m h = absurd (omega arith)

  pub vote-settled : (x : ℕ) → x among written B → settled B x ≡ true
  unfolding eligible
  vote-settled = rw (← v.is) (all_in (settled (bundle P e)) (written (bundle P e)) v.eligible-there)

-- an edit of the bundle is one of the proposal, body and all
bundle-edit : (P : Record) (e : ℕ) (d : Edit) → Has d (bundle P e).edits → Has d P.edits
unfolding bundle
bundle-edit P e d h = (filter-from (λ x. mem x.name (members P e)) P.edits d h).0

pub vote-edit : {P B : Record} {e : ℕ} → IsVote P e B → (d : Edit) → Has d B.edits → Has d P.edits
vote-edit {P} {B} {e} v d h = bundle-edit P e d (rw v.is h)

-- A vote stays in a proposal that keeps it.
pub kept-vote : {P Q B : Record} {e : ℕ} → WellFormed P → WellFormed Q → Keeps P Q → IsVote P e B → IsVote Q e B
unfolding Keeps
kept-vote {P} {Q} {B} {e} v w k h =
    let r = k e h.known h.eligible-there in
    let m : e among written (bundle Q e) = rw r.0 (written-bundle v e e h.known (member-self P e)) in
    record { known = (bundle_written w e e m).0; eligible-there = r.1; is = r.0 ∙ h.is }

-- every proposal of a row is well formed
abbrev pub EachFormed : List Record → Type 0
EachFormed l = (P : Record) → Has P l → WellFormed P

keeps_self : (P : Record) → Keeps P P
unfolding Keeps
keeps_self P e i k = (refl, k)

keeps_same : (P Q R : Record) → P ≡ R → Q ≡ R → Keeps P Q
keeps_same P Q R p q = rw (p, q) (keeps_self R)

-- the first of a row is kept by every later one
first-kept : (P : Record) (l : List Record) → EachFormed (P ∷ l) → KeptRow (P ∷ l) → (Q : Record) → Has Q l → Keeps P Q
first-kept P [] f k Q h = absurd h
first-kept P (C ∷ l) f k Q (inl q) = rw q k.0
first-kept P (C ∷ l) f k Q (inr h) =
    keeps-trans P C Q (f P (inl refl)) (f C (inr (inl refl))) k.0 (first-kept C l (λ R m. f R (inr m)) k.1 Q h)

each_tail : (P : Record) (l : List Record) → KeptRow (P ∷ l) → KeptRow l
each_tail P [] k = tt
each_tail P (Q ∷ l) k = k.1

-- Of two proposals of a row one keeps the other.
pub either-keeps : (l : List Record) → EachFormed l → KeptRow l → (P Q : Record) → Has P l → Has Q l → Keeps P Q ⊎ Keeps Q P
either-keeps [] f k P Q i j = absurd i
either-keeps (R ∷ l) f k P Q (inl p) (inl q) = inl (keeps_same P Q R p q)
either-keeps (R ∷ l) f k P Q (inl p) (inr j) = inl (rw p (first-kept R l f k Q j))
either-keeps (R ∷ l) f k P Q (inr i) (inl q) = inr (rw q (first-kept R l f k P i))
either-keeps (R ∷ l) f k P Q (inr i) (inr j) = either-keeps l (λ S m. f S (inr m)) (each_tail R l k) P Q i j

-- a row may as well begin with the empty proposal
pub empty-first : (l : List Record) → KeptRow l → KeptRow (empty_tables ∷ l)
unfolding Keeps written
empty-first [] k = tt
empty-first (P ∷ l) k = ((λ e i h. nil-no e i), k)

-- Two sets of rows that together weigh more than the roll have a row of positive weight in common.
quorum-intersection : (p q : RollRow → Bool) (roll : List RollRow) → whole_weight roll < weighed p roll + weighed q roll → CommonRow p q roll
unfolding weighed
quorum-intersection p q [] lt = absurd (omega arith)
quorum-intersection p q (row ∷ l) lt =
    by (p row)
    (λ a. by (q row)
    (λ b. by (ltb 0 row.weight)
    (λ w. (row, inl refl, ltb-true 0 row.weight w, a, b))
    (λ w. let z = rw (a, b) at lt in later (quorum-intersection p q l (omega (arith, ltb-false)))))
    (λ b. let z = rw (a, b) at lt in later (quorum-intersection p q l (omega arith))))
    (λ a. let z = rw a at lt in later (quorum-intersection p q l (by (q row) (λ b. let y = rw b at z in omega arith) (λ b. let y = rw b at z in omega arith))))
  where
    later : CommonRow p q l → CommonRow p q (row ∷ l)
    later c = (c.0, inr c.1, c.2, c.3, c.4)

total-rolled : (held : ℕ → Record) (e : ℕ) (roll : List RollRow) → total (ballots held e roll) ≡ whole_weight roll
unfolding total ballots weighed
total-rolled held e [] = refl
total-rolled held e (row ∷ l) = ap (λ n. row.weight + n) (total-rolled held e l)

weigh-rolled : (p : Option Record → Bool) (held : ℕ → Record) (e : ℕ) (roll : List RollRow)
    → weigh p (ballots held e roll) ≡ weighed (λ row. p (vote (held row.bench) e)) roll
unfolding weigh ballots weighed
weigh-rolled p held e [] = refl
weigh-rolled p held e (row ∷ l) = ap (λ n. cond (p (vote (held row.bench) e)) row.weight 0 + n) (weigh-rolled p held e l)

-- the row's vote in an election is for B
abbrev votes_in : HeldElection → Record → RollRow → Bool
votes_in x B row = votes_for B (vote (x.held row.bench) x.edit)

-- the rows whose votes win weigh more than half of the roll
wins-rolled : (roll : List RollRow) (x : HeldElection) (B : Record) → won_bundle roll x ≡ some B → whole_weight roll < 2 * weighed (votes_in x B) roll
unfolding wins
wins-rolled roll x B h =
    rw (← total-rolled x.held x.edit roll, ← weigh-rolled (votes_for B) x.held x.edit roll)
    (ltb-true _ _ (winner-wins (ballots x.held x.edit roll) B h).0)

votes-for : (B : Record) (v : Option Record) → votes_for B v ≡ true → v ≡ some B
votes-for B none h = clash h refl
votes-for B (some C) h = ap some (sym ((same-is B C).0 h))

-- Two elections that are won on one roll have such a voter.
pub common-voter : (roll : List RollRow) (x y : HeldElection) (A B : Record) → won_bundle roll x ≡ some A → won_bundle roll y ≡ some B → CommonVoter roll x y A B
common-voter roll x y A B p q =
    let c = quorum-intersection (votes_in x A) (votes_in y B) roll (omega (arith, wins-rolled roll x A p, wins-rolled roll y B q)) in
    record {
      bench = c.0.bench;
      voter = record { row = c.0; listed = c.1; own = refl; weighs = c.2 };
      first = votes-for A _ c.3;
      second = votes-for B _ c.4;
    }
