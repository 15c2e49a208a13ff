-- Document 02, A8: what is won over time unites to a sound record. Assumes nothing.
use mathlib.Core.Path.{◌≡◌, refl, sym, ap, ◌∙◌}
use mathlib.Core.Bool.{true}
use mathlib.Core.Logic.{inl, inr}
use mathlib.Core.List.{List, [], ◌∷◌}
use mathlib.Core.Option.{Option, none, some}
use Prim.Native.Nat.{ℕ}
use Rattle.lists.specs.Lists.{mem, ◌among◌, Has}
use Rattle.record.specs.Record.{Record, written, has, WellFormed}
use Rattle.record.specs.Judgement.{sound, settled}
use Rattle.lists.proofs.Lists.{by, clash}
use Rattle.record.proofs.Judged.{sound-is, must-is, never-is}
use Rattle.record_tables.specs.Table.{empty_tables}
use Rattle.record_tables.proofs.Records.{empty-checked, empty-sound, checked-wellformed}
use Rattle.record_tables.proofs.Unions.{mem-by, mem-has}
use Rattle.voting.specs.declared.RollRow.{RollRow}
use Rattle.voting.specs.Bundle.{bundle}
use Rattle.voting.proofs.Joined.{con, has_in, in-has}
use Rattle.voting_mergeability.specs.Mergeability.{Voter, SoundTables, OneBody, Sending, HeldElection, Chosen, EachChosen, won_bundle, Won, won_by, won_in, UnionOf, Mergeable, Merged}
use Rattle.voting_mergeability.specs.Argument.{Compatible, Family, CommonProposal}
use Rattle.voting_mergeability.proofs.Prefixes.{compatible-sound, compatible-apart, family-sound}
use Rattle.voting_mergeability.proofs.United.{all-unites, edits-ascending, constraints-ascending}
use Rattle.voting_mergeability.proofs.Votes.{is-vote, vote-formed, vote-prefix, vote-settled, vote-edit, kept-vote, either-keeps, empty-first, common-voter}

pub tables-sound : {R : Record} → SoundTables R → sound R ≡ true
tables-sound {R} s = (sound-is R s.formed).1 s.has-schedule

empty-tables : SoundTables empty_tables
empty-tables =
    let w = checked-wellformed empty_tables empty-checked in
    record { formed = w; has-schedule = (sound-is empty_tables w).0 empty-sound }

module _ {roll : List RollRow} {sent : ℕ → List Record} (T : Sending roll sent) where
  -- a proposal of a voter, the empty one among them
  proposal-sound : (k : ℕ) → Voter roll k → (P : Record) → Has P (empty_tables ∷ sent k) → SoundTables P
  proposal-sound k v P (inl e) = rw e empty-tables
  proposal-sound k v P (inr h) = T.each-sound k v P h

  proposal-body : (k : ℕ) → Voter roll k → (P : Record) → Has P (empty_tables ∷ sent k) → OneBody P P
  unfolding OneBody
  proposal-body k v P (inl e) = rw e (λ c d h i q. absurd h)
  proposal-body k v P (inr h) = T.each-one-body k k v v P P h h

  -- Two won bundles are votes of one proposal, the later of the two that a common voter's votes come from.
  common-proposal : {A B : Record} (v : Won roll sent A) (w : Won roll sent B) → CommonProposal v.election.edit w.election.edit A B
  unfolding Chosen
  common-proposal {A} {B} v w =
      let c = common-voter roll v.election w.election A B v.winning w.winning in
      let k = c.bench in
      let P = v.election.held k in
      let Q = w.election.held k in
      let i = v.choice k c.voter in
      let j = w.choice k c.voter in
      let p = is-vote P v.election.edit A c.first in
      let q = is-vote Q w.election.edit B c.second in
      let s = proposal-sound k c.voter in
      let f = (s P i).formed in
      let g = (s Q j).formed in
      elim (either-keeps (empty_tables ∷ sent k) (λ R h. (s R h).formed) (empty-first (sent k) (T.each-kept k c.voter)) P Q i j) [
        | inl h ↦ record { proposal = Q; sound-there = s Q j; one-body = proposal-body k c.voter Q j; first = kept-vote f g h p; second = q }
        | inr h ↦ record { proposal = P; sound-there = s P i; one-body = proposal-body k c.voter P i; first = p; second = kept-vote g f h q }
      ]

  -- Over all the time an edit wins with one bundle.
  pub one-bundle : {A B : Record} (v : Won roll sent A) (w : Won roll sent B) → v.election.edit ≡ w.election.edit → A ≡ B
  one-bundle v w e =
      let c = common-proposal v w in
      sym c.first.is ∙ ap (bundle c.proposal) e ∙ c.second.is

  won-compatible : {A B : Record} → Won roll sent A → Won roll sent B → Compatible A B
  won-compatible v w =
      let c = common-proposal v w in
      let s = c.sound-there in
      record { whole = c.proposal; formed = s.formed; whole-sound = tables-sound s; first = vote-prefix s.formed c.first; second = vote-prefix s.formed c.second }

  won-formed : {B : Record} → Won roll sent B → WellFormed B
  won-formed v = let c = common-proposal v v in vote-formed c.sound-there.formed c.first

  won-settled : {B : Record} → Won roll sent B → (x : ℕ) → x among written B → settled B x ≡ true
  won-settled v = let c = common-proposal v v in vote-settled c.sound-there.formed c.first

  -- one body to a name: both bundles have their edits from one proposal
  won-bodies : {A B : Record} → Won roll sent A → Won roll sent B → OneBody A B
  unfolding OneBody
  won-bodies v w d e h i q =
      let c = common-proposal v w in
      c.one-body d e (vote-edit c.first d h) (vote-edit c.second e i) q

  module _ (won : List Record) (all-won : (B : Record) → Has B won → Won roll sent B) where
    module _ {U : Record} (u : UnionOf won U) where
      -- a name of the union is one of a member, and back
      union-written : (x : ℕ) → x among written U → (B : Record) × Has B won × (x among written B)
      unfolding written
      union-written x h = mem-by x U.edits h (λ e m q. let r = (u.edits e).0 m in (r.0, r.1, mem-has x r.0.edits e r.2 q))

      written-union : (B : Record) → Has B won → (x : ℕ) → x among written B → x among written U
      unfolding written
      written-union B i x h = mem-by x B.edits h (λ e m q. mem-has x U.edits e ((u.edits e).1 (B, i, m)) q)

      union-has : (a k b : ℕ) → has a k b U.constraints ≡ true → (B : Record) × Has B won × (has a k b B.constraints ≡ true)
      union-has a k b h = let r = (u.constraints (con a k b)).0 (has_in a k b U.constraints h) in (r.0, r.1, in-has (con a k b) r.0.constraints r.2)

      formed : (B : Record) → Has B won → WellFormed B
      formed B i = won-formed (all-won B i)

      union-formed : WellFormed U
      union-formed = record {
        unwritten = by (mem 0 (written U)) (λ h. let r = union-written 0 h in clash r.2 (formed r.0 r.1).unwritten) (λ h. h);
        left = λ a k b h. let r = union-has a k b h in written-union r.0 r.1 a ((formed r.0 r.1).left a k b r.2);
        right = λ a k b h. let r = union-has a k b h in
            elim ((formed r.0 r.1).right a k b r.2) [ inl i ↦ inl (written-union r.0 r.1 b i) | inr z ↦ inr z ];
      }

      family : Family ((B : Record) × Has B won) (λ i. i.0) U
      family = record {
        formed = λ i. formed i.0 i.1;
        settles = λ i. won-settled (all-won i.0 i.1);
        compatible = λ i j. won-compatible (all-won i.0 i.1) (all-won j.0 j.1);
        union-formed = union-formed;
        from = λ a k b h. let r = union-has a k b h in ((r.0, r.1), r.2);
      }

      union-sound : SoundTables U
      union-sound = record { formed = union-formed; has-schedule = (sound-is U union-formed).0 (family-sound family) }

      union-body : OneBody U U
      unfolding OneBody
      union-body d e h i q =
          let r = (u.edits d).0 h in
          let s = (u.edits e).0 i in
          won-bodies (all-won r.0 r.1) (all-won s.0 s.1) d e r.2 s.2 q

    pub won-mergeable : Mergeable won
    won-mergeable = record {
      union = λ U u. (union-sound u, union-body u);
      no-rivals = λ A B i j x m n u.
          let v = all-won A i in
          let w = all-won B j in
          let f = won-formed v in
          let g = won-formed w in
          let s = compatible-sound g f (won-compatible w v) in
          compatible-apart f g (won-compatible v w) x m ((never-is A f x).1 n) ((must-is B g s x).1 u);
    }

    pub won-merged : Merged won
    won-merged =
        let u = all-unites won (λ A B i j. won-bodies (all-won A i) (all-won B j)) in
        record {
          unites = u;
          sound = union-sound u;
          one-body = union-body u;
          edits-ascend = edits-ascending won;
          constraints-ascend = constraints-ascending won;
        }

  -- what is won in a list of elections is won in one of them
  won-by : (l : List HeldElection) → EachChosen roll sent l → (B : Record) → Has B (won_in roll l) → Won roll sent B
  unfolding won_by
  won-by [] c B h = absurd h
  won-by (x ∷ l) c B h = go (won_bundle roll x) refl (won-by l (λ y m. c y (inr m)) B)
    where
      go : (end : Option Record) → won_bundle roll x ≡ end → (Has B (won_in roll l) → Won roll sent B) → Won roll sent B
      go none p later = later (rw (p, won_by) at h)
      go (some A) p later =
          let i : Has B (A ∷ won_in roll l) = rw (p, won_by) at h in
          elim i [
            | inl q ↦ record { election = x; choice = c x (inl refl); winning = p ∙ ap some (sym q) }
            | inr m ↦ later m
          ]

  -- A8. Whatever elections are held on this roll, over whatever choice of older and newer proposals, what is won is mergeable.
  pub mergeability : (l : List HeldElection) → EachChosen roll sent l → Mergeable (won_in roll l)
  mergeability l c = won-mergeable (won_in roll l) (won-by l c)

  -- And so is the product's own union of it.
  pub united-mergeability : (l : List HeldElection) → EachChosen roll sent l → Merged (won_in roll l)
  united-mergeability l c = won-merged (won_in roll l) (won-by l c)
