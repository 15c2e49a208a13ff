-- The answers of a tally, printed one after the other. Assumes nothing.
use mathlib.Core.List.{List, map}
use Prim.Native.Nat.{ℕ, ◌+◌, ◌≤◌, ◌<◌}
use native.Mathlib.Omega.{arith}
use lib.ListN.{length, get_or, length-map}
use Rattle.std.specs.Prelude.{Ok}
use Rattle.std.proofs.lemmas.List.{get_or-map}
use Rattle.voting.specs.declared.ElectionResult.{ElectionResult}
use Rattle.voting.specs.Tally.{Election, election_told}
use Rattle.log_forms.specs.declared.Printer.{Printer}
use Rattle.log_forms.specs.Printed.{Printed}
use Rattle.log_forms.proofs.Printing.{PrintedTo, printed-first, printed-next, printed-last}
use Rattle.log_session.specs.votes.Votes.{election_line, tally_text}

module _ (answers : List ElectionResult) where
  -- the first i answers are printed
  abbrev pub TallyPrinted : ℕ → Printer → Printer → Type 0
  TallyPrinted i before after = PrintedTo (λ i E. election_line E) 0 (map (λ r. election_told (Ok r)) answers) i before after

  pub tally-printed-first : (p : Printer) → TallyPrinted 0 p p
  tally-printed-first p = printed-first (λ i E. election_line E) 0 (map (λ r. election_told (Ok r)) answers) p

  pub tally-printed-next : {before middle after : Printer} {i : ℕ} (d : ElectionResult) → i < length answers → TallyPrinted i before middle
      → Printed (election_line (election_told (Ok (get_or answers i d)))) middle after → TallyPrinted (i + 1) before after
  tally-printed-next {i = i} d h w p =
      let told : ElectionResult → Election = λ r. election_told (Ok r) in
      let n = length-map answers told in
      printed-next (λ i E. election_line E) 0 (map told answers) (told d) i (omega arith) (omega arith) w (rw (get_or-map told answers i d (told d) h) p)

  pub tally-printed-last : {before after : Printer} (i : ℕ) → length answers ≤ i → TallyPrinted i before after → Printed (tally_text (map (λ r. election_told (Ok r)) answers)) before after
  unfolding tally_text
  tally-printed-last i h w =
      let told : ElectionResult → Election = λ r. election_told (Ok r) in
      let n = length-map answers told in
      printed-last (λ i E. election_line E) 0 (map told answers) i (omega arith) w
