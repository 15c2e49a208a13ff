-- Document 01, "Specimens": P1 to P10 and the three-edit text, as one table; proofs/Specimens.antt turns its test into facts. Assumes nothing.
use Rattle.std.specs.Prelude.{◌≡◌, Bool, true, false, not, ◌&&◌, cond, ◌↔◌, List, [], ◌∷◌, map, ℕ, eqb, ℤ, pos, negsuc}
use Rattle.record.specs.declared.Body.TheVariants.{Insert}
use Rattle.record.specs.declared.Constraint.{Constraint}
use Rattle.lists.specs.Lists.{all, filter, ◌among◌, Has}
use Rattle.record_rows.specs.row.Row.{same}
use Rattle.record.specs.Record.{Record, written}
use Rattle.record.specs.Sound.{Sound, SoundRecord, Must, Never, Settled}
use Rattle.record.specs.Schedule.{schedule}
use Rattle.record.specs.Judgement.{sound, must, never, settled, sound_row, well_formed}
use Rattle.voting.specs.declared.RollRow.{RollRow}
use Rattle.voting.specs.Tally.{Ballot, ballots, total, greatest, silent, won}
use Rattle.pages_turner.specs.Turn.{turned, turn_fault, open_after}

-- A record: its edits and constraints, what is hidden; what is expected: is it sound, those that can never stand, must stand and are settled,
-- the schedule, and rows that are not sound schedules.
pub record Judged : Type 0 where
  pub names : List ℕ
  pub constraints : List Constraint
  pub hidden : List ℕ
  pub sound : Bool
  pub nevers : List ℕ
  pub musts : List ℕ
  pub settleds : List ℕ
  pub row : List ℕ
  pub unsound : List (List ℕ)

-- An election on 257: each bench's weight, and the place of its proposal's one required edit; what is expected.
pub record Voted : Type 0 where
  pub roll : List RollRow
  pub chip : ℕ → ℕ
  pub won : Bool
  pub greatest : ℕ
  pub silent : ℕ
  pub total : ℕ

-- A turn: open and last page, the number of pages, and what is expected: the number and the page that is then open.
pub record Turned : Type 0 where
  pub opened : ℕ
  pub last : ℕ
  pub by : ℤ
  pub number : ℕ
  pub page : ℕ

pub data Specimen : Type 0 where
  judgement_case : Judged → Specimen
  vote_case : Voted → Specimen
  turn_case : Turned → Specimen

-- bodies play no part in the judgement
abbrev pub specimen_record : Judged → Record
specimen_record s = record { edits = map (λ n. record { name = n; body = Insert 5 }) s.names; constraints = s.constraints }

abbrev pub agrees : Bool → Bool → Bool
agrees true b = b
agrees false b = not b

unfoldable pub judged_holds : Judged → Bool
judged_holds s =
    let R = specimen_record s in
    well_formed R && cond s.sound
    (sound R && (same (filter (never R) (written R)) s.nevers && (same (filter (must R) (written R)) s.musts
    && (same (filter (settled R) (written R)) s.settleds && (same (schedule R s.hidden) s.row && all (λ row. not (sound_row R row)) s.unsound)))))
    (not (sound R))

-- bench k's proposal: 257 inserts at a chip place, and is required
abbrev pub specimen_proposal : Voted → ℕ → Record
specimen_proposal s k = record {
  edits = record { name = 257; body = Insert (s.chip k) } ∷ [];
  constraints = record { left = 257; rule = 1; right = 0 } ∷ [];
}

abbrev pub ballots_of : Voted → List Ballot
ballots_of s = ballots (specimen_proposal s) 257 s.roll

unfoldable pub voted_holds : Voted → Bool
voted_holds s =
    let l = ballots_of s in
    agrees (won l) s.won && (eqb (greatest l) s.greatest && (eqb (silent l) s.silent && eqb (total l) s.total))

unfoldable pub turn_holds : Turned → Bool
turn_holds s =
    let t = turned s.opened s.last s.by in
    eqb (turn_fault t) s.number && eqb (open_after s.opened t) s.page

-- the specimen's expectations, computed
abbrev pub holds : Specimen → Bool
holds (judgement_case s) = judged_holds s
holds (vote_case s) = voted_holds s
holds (turn_case s) = turn_holds s

-- the same as facts of the definitions, of the declarative ones where there are
pub record JudgedFacts (s : Judged) : Type 0 where
  pub nevers : (e : ℕ) → e among written (specimen_record s) → Never (specimen_record s) e ↔ e among s.nevers
  pub musts : (e : ℕ) → e among written (specimen_record s) → Must (specimen_record s) e ↔ e among s.musts
  pub settleds : (e : ℕ) → e among written (specimen_record s) → Settled (specimen_record s) e ↔ e among s.settleds
  pub scheduled : schedule (specimen_record s) s.hidden ≡ s.row
  pub stands : Sound (specimen_record s) s.row
  pub fails : (row : List ℕ) → Has row s.unsound → Sound (specimen_record s) row → ⊥

abbrev pub Expected : Judged → Bool → Type 0
Expected s true = JudgedFacts s
Expected s false = SoundRecord (specimen_record s) → ⊥

pub record VotedFacts (s : Voted) : Type 0 where
  pub won-is : won (ballots_of s) ≡ s.won
  pub greatest-is : greatest (ballots_of s) ≡ s.greatest
  pub silent-is : silent (ballots_of s) ≡ s.silent
  pub total-is : total (ballots_of s) ≡ s.total

abbrev pub Facts : Specimen → Type 0
Facts (judgement_case s) = Expected s s.sound
Facts (vote_case s) = VotedFacts s
Facts (turn_case s) = (turn_fault (turned s.opened s.last s.by) ≡ s.number) × (open_after s.opened (turned s.opened s.last s.by) ≡ s.page)

abbrev pub Each : List Specimen → Type 0
Each [] = Unit
Each (s ∷ l) = Facts s × Each l

abbrev con : ℕ → ℕ → ℕ → Constraint
con a k b = record { left = a; rule = k; right = b }

abbrev row : ℕ → ℕ → RollRow
row bench weight = record { bench = bench; weight = weight }

-- two edits, each notafter the other
abbrev pair : List Constraint
pair = con 257 0 258 ∷ con 258 0 257 ∷ []

-- every bench its own bundle; benches 1 and 3 the same one
abbrev each_alone : ℕ → ℕ
each_alone bench = bench

abbrev one_and_three : ℕ → ℕ
one_and_three bench = cond (eqb bench 3) 1 bench

unfoldable pub table : List Specimen
table =
    -- P1
    judgement_case (record { names = []; constraints = []; hidden = []; sound = true; nevers = []; musts = []; settleds = []; row = 0 ∷ []; unsound = [] ∷ (257 ∷ []) ∷ (0 ∷ 0 ∷ []) ∷ [] }) ∷
    -- P2
    judgement_case (record { names = 257 ∷ []; constraints = con 257 0 257 ∷ []; hidden = []; sound = true; nevers = 257 ∷ []; musts = []; settleds = 257 ∷ []; row = 0 ∷ []; unsound = (0 ∷ 257 ∷ []) ∷ [] }) ∷
    -- P3
    judgement_case (record { names = 257 ∷ 258 ∷ []; constraints = pair; hidden = []; sound = true; nevers = []; musts = []; settleds = []; row = 0 ∷ 257 ∷ []; unsound = (0 ∷ 257 ∷ 258 ∷ []) ∷ (257 ∷ 0 ∷ []) ∷ (0 ∷ 257 ∷ 257 ∷ []) ∷ (257 ∷ []) ∷ [] }) ∷
    -- P4
    judgement_case (record { names = 257 ∷ 258 ∷ []; constraints = con 257 0 258 ∷ con 258 0 257 ∷ con 258 1 0 ∷ []; hidden = []; sound = true; nevers = 257 ∷ []; musts = 258 ∷ []; settleds = 257 ∷ 258 ∷ []; row = 0 ∷ 258 ∷ []; unsound = (0 ∷ []) ∷ (0 ∷ 257 ∷ []) ∷ [] }) ∷
    -- P5
    judgement_case (record { names = 257 ∷ 258 ∷ []; constraints = con 257 0 258 ∷ con 257 1 0 ∷ con 258 0 257 ∷ con 258 1 0 ∷ []; hidden = []; sound = false; nevers = []; musts = []; settleds = []; row = []; unsound = [] }) ∷
    -- P6
    judgement_case (record { names = 257 ∷ 258 ∷ 259 ∷ []; constraints = con 257 0 258 ∷ con 257 1 259 ∷ con 258 0 257 ∷ con 258 1 259 ∷ []; hidden = []; sound = true; nevers = 259 ∷ []; musts = []; settleds = 259 ∷ []; row = 0 ∷ 257 ∷ []; unsound = (0 ∷ 259 ∷ []) ∷ [] }) ∷
    -- P7
    judgement_case (record { names = 257 ∷ 258 ∷ 259 ∷ []; constraints = con 257 0 258 ∷ con 258 0 259 ∷ con 259 0 257 ∷ []; hidden = []; sound = true; nevers = []; musts = []; settleds = []; row = 0 ∷ 257 ∷ 258 ∷ []; unsound = (0 ∷ 258 ∷ 257 ∷ []) ∷ [] }) ∷
    -- P8, hiding 258, then hiding 257
    judgement_case (record { names = 257 ∷ 258 ∷ []; constraints = con 257 1 258 ∷ []; hidden = 258 ∷ []; sound = true; nevers = []; musts = []; settleds = []; row = 0 ∷ 257 ∷ []; unsound = (0 ∷ 258 ∷ []) ∷ [] }) ∷
    judgement_case (record { names = 257 ∷ 258 ∷ []; constraints = con 257 1 258 ∷ []; hidden = 257 ∷ []; sound = true; nevers = []; musts = []; settleds = []; row = 0 ∷ []; unsound = [] }) ∷
    -- a hidden edit that must stand bars nothing
    judgement_case (record { names = 257 ∷ 258 ∷ []; constraints = con 257 1 0 ∷ con 257 1 258 ∷ []; hidden = 257 ∷ []; sound = true; nevers = []; musts = 257 ∷ []; settleds = 257 ∷ []; row = 0 ∷ 257 ∷ 258 ∷ []; unsound = (0 ∷ []) ∷ [] }) ∷
    -- the three-edit text
    judgement_case (record { names = 257 ∷ 258 ∷ 513 ∷ []; constraints = con 257 0 258 ∷ con 257 0 513 ∷ con 257 1 258 ∷ con 257 1 513 ∷ con 258 2 513 ∷ con 513 1 0 ∷ []; hidden = []; sound = true; nevers = []; musts = 257 ∷ 513 ∷ []; settleds = 257 ∷ []; row = 0 ∷ 257 ∷ 258 ∷ 513 ∷ []; unsound = (0 ∷ 257 ∷ 258 ∷ []) ∷ [] }) ∷
    -- P9: weights 3, 2, 1, each group alone: 3 is open; 3 and 1 together win; exactly half stays open, and so does a zero total
    vote_case (record { roll = row 1 3 ∷ row 2 2 ∷ row 3 1 ∷ []; chip = each_alone; won = false; greatest = 3; silent = 0; total = 6 }) ∷
    vote_case (record { roll = row 1 3 ∷ row 2 2 ∷ row 3 1 ∷ []; chip = one_and_three; won = true; greatest = 4; silent = 0; total = 6 }) ∷
    vote_case (record { roll = row 3 2 ∷ row 2 4 ∷ row 1 2 ∷ []; chip = one_and_three; won = false; greatest = 4; silent = 0; total = 8 }) ∷
    vote_case (record { roll = row 1 0 ∷ row 2 0 ∷ []; chip = each_alone; won = false; greatest = 0; silent = 0; total = 0 }) ∷
    vote_case (record { roll = []; chip = each_alone; won = false; greatest = 0; silent = 0; total = 0 }) ∷
    -- P10: three pages, open at 3: −3 goes to 0; −4 and +1 give 10
    turn_case (record { opened = 3; last = 3; by = negsuc 2; number = 0; page = 0 }) ∷
    turn_case (record { opened = 3; last = 3; by = negsuc 3; number = 10; page = 3 }) ∷
    turn_case (record { opened = 3; last = 3; by = pos 1; number = 10; page = 3 }) ∷
    turn_case (record { opened = 0; last = 3; by = negsuc 0; number = 10; page = 0 }) ∷
    []
