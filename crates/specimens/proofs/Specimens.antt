-- The specimens' test is computed once, over the whole table, and one law turns it into facts. Assumes nothing.
use mathlib.Core.Path.{◌≡◌, refl, sym}
use mathlib.Core.Bool.{Bool, true, false, not, ◌&&◌}
use mathlib.Core.Logic.{◌↔◌}
use mathlib.Core.List.{List, [], ◌∷◌}
use Prim.Native.Nat.{ℕ}
use lib.Dec.{eqb}
use borrow.Author.Tests.{eqb-true, not-true}
use Rattle.lists.specs.Lists.{any, all, filter, mem, index_of, ◌among◌, distinct, find, grown, closure, Has}
use Rattle.record.specs.Record.{Record, names, written, is, has, WellFormed}
use Rattle.record.specs.Sound.{Sound}
use Rattle.record.specs.Schedule.{needs, musts, ready, order, ring, bars, barred, admit, admits, scheduled, schedule}
use Rattle.record.specs.Judgement.{fits, sound_row, sound, must, never, ordered, serialised, settled, well_formed}
use Rattle.record_rows.specs.row.Row.{same, edit_row, constraint_row}
use Rattle.voting.specs.Bundle.{leads, members, between, bundle, eligible, vote}
use Rattle.voting.specs.Tally.{same_edit, same_constraint, same_list, same_bundle, ballots, total, weigh, greatest_of, greatest, silent, won}
use Rattle.pages_turner.specs.Turn.{landed, turned, turn_fault}
use Rattle.lists.proofs.Lists.{clash, and_l, and_r, mem-filter, filter-mem}
use Rattle.lists.proofs.Logic.{all-has}
use Rattle.record_rows.proofs.row.Compared.{same-eq}
use Rattle.record.proofs.Records.{well-formed}
use Rattle.record.proofs.Judged.{sound-is, must-is, never-is, settled_is, row_is}
use Rattle.record.proofs.Scheduled.{schedule-sound}
use Rattle.specimens.specs.Specimens.{Judged, Voted, Turned, Specimen, judgement_case, vote_case, turn_case, specimen_record, agrees, judged_holds, ballots_of, voted_holds, turn_holds, holds, JudgedFacts, Expected, VotedFacts, Facts, Each, table}

-- a test that is a meaning, filtered out of a list
filtered : {P : Type 0} (p : ℕ → Bool) (l t : List ℕ) → same (filter p l) t ≡ true → (e : ℕ) → e among l → (p e ≡ true ↔ P) → P ↔ e among t
filtered p l t h e i m = (
  λ k. rw (← same-eq (filter p l) t h) (mem-filter p l e i (m.1 k)),
  λ k. m.0 (filter-mem p l e (rw (same-eq (filter p l) t h) k)).1,
)

row-fails : (R : Record) (l : List (List ℕ)) → all (λ row. not (sound_row R row)) l ≡ true → (row : List ℕ) → Has row l → Sound R row → ⊥
row-fails R l h row i s = clash ((row_is R row).1 s) (not-true _ (all-has (λ r. not (sound_row R r)) l h row i))

module _ (s : Judged) where
  facts : WellFormed (specimen_record s)
      → (sound (specimen_record s) && (same (filter (never (specimen_record s)) (written (specimen_record s))) s.nevers && (same (filter (must (specimen_record s)) (written (specimen_record s))) s.musts
      && (same (filter (settled (specimen_record s)) (written (specimen_record s))) s.settleds && (same (schedule (specimen_record s) s.hidden) s.row
      && all (λ row. not (sound_row (specimen_record s) row)) s.unsound))))) ≡ true
      → JudgedFacts s
  facts w h =
      let R = specimen_record s in
      let so = and_l _ _ h in
      let h₁ = and_r (sound R) _ h in
      let h₂ = and_r (same (filter (never R) (written R)) s.nevers) _ h₁ in
      let h₃ = and_r (same (filter (must R) (written R)) s.musts) _ h₂ in
      let h₄ = and_r (same (filter (settled R) (written R)) s.settleds) _ h₃ in
      let row_same = same-eq _ _ (and_l _ _ h₄) in
      record {
        nevers = λ e i. filtered (never R) (written R) _ (and_l _ _ h₁) e i (never-is R w e);
        musts = λ e i. filtered (must R) (written R) _ (and_l _ _ h₂) e i (must-is R w so e);
        settleds = λ e i. filtered (settled R) (written R) _ (and_l _ _ h₃) e i (settled_is R w so e);
        scheduled = row_same;
        stands = rw (← row_same) (schedule-sound R w so s.hidden);
        fails = row-fails R s.unsound (and_r (same (schedule R s.hidden) s.row) _ h₄);
      }

  expected : (b : Bool) → s.sound ≡ b → judged_holds s ≡ true → Expected s b
  unfolding judged_holds
  expected true e h = facts (well-formed _ (and_l _ _ h)) (let u = and_r (well_formed (specimen_record s)) _ h in rw e at u)
  expected false e h =
      let w = well-formed _ (and_l _ _ h) in
      λ r. clash ((sound-is (specimen_record s) w).1 r) (not-true _ (let u = and_r (well_formed (specimen_record s)) _ h in rw e at u))

agrees-equal : (a b : Bool) → agrees a b ≡ true → a ≡ b
agrees-equal true b h = sym h
agrees-equal false true h = h
agrees-equal false false h = refl

voted-facts : (s : Voted) → voted_holds s ≡ true → VotedFacts s
unfolding voted_holds
voted-facts s h =
    let l = ballots_of s in
    let h₁ = and_r (agrees (won l) s.won) _ h in
    let h₂ = and_r (eqb (greatest l) s.greatest) _ h₁ in
    record {
      won-is = agrees-equal _ _ (and_l _ _ h);
      greatest-is = eqb-true _ _ (and_l _ _ h₁);
      silent-is = eqb-true _ _ (and_l _ _ h₂);
      total-is = eqb-true _ _ (and_r (eqb (silent l) s.silent) _ h₂);
    }

turn-fact : (s : Turned) → turn_holds s ≡ true → Facts (turn_case s)
unfolding turn_holds
turn-fact s h =
    let t = turned s.opened s.last s.by in
    (eqb-true _ _ (and_l _ _ h), eqb-true _ _ (and_r (eqb (turn_fault t) s.number) _ h))

fact : (s : Specimen) → holds s ≡ true → Facts s
fact (judgement_case s) h = expected s s.sound refl h
fact (vote_case s) h = voted-facts s h
fact (turn_case s) h = turn-fact s h

all-facts : (l : List Specimen) → all holds l ≡ true → Each l
unfolding all
all-facts [] h = tt
all-facts (s ∷ l) h = (fact s (and_l _ _ h), all-facts l (and_r (holds s) _ h))

computed : all holds table ≡ true
unfolding judged_holds voted_holds turn_holds table schedule scheduled admits admit bars barred sound must never settled serialised ordered sound_row fits well_formed ring order ready musts needs names written is has closure grown find any all filter mem index_of distinct ballots vote eligible bundle between members leads same_bundle same_list same_edit same_constraint edit_row constraint_row same won greatest greatest_of silent weigh total turned landed
computed = refl

pub specimens : Each table
unfolding table
specimens = all-facts table computed
