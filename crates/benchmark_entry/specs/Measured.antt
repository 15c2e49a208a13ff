-- What the benchmark is answered: parts of the answers to other operations, as numbers. Assumes nothing.
use Rattle.std.specs.Prelude.{cond, List, [], ◌∷◌, map, ℕ, eqb, replicate, length}
use Rattle.record_rows.specs.grounds.Ground.{Rows}
use Rattle.judgement.specs.declared.lent_record.Judgement.{Judgement}
use Rattle.judgement.specs.lent_record.Lent.{record_fault, judgement_is}
use Rattle.judgement.specs.Judged.{stored_schedule}
use Rattle.graph.specs.links.Marks.{mark_limit}
use Rattle.record_tables.specs.Table.{decoded}
use Rattle.ledger.specs.Ledger.{merge, start, step, fed}
use Rattle.voting.specs.declared.RollRow.{RollRow}
use Rattle.voting_roll.specs.Election.{benches, election_of}
use Rattle.voting_count.specs.Count.{lent_proposals}
use Rattle.text_reasons.specs.ReasonLine.{explained, explained_fault}
use Rattle.benchmark_entry.specs.declared.Judged.{Judged}
use Rattle.benchmark_entry.specs.declared.Scheduled.{Scheduled}
use Rattle.benchmark_entry.specs.declared.Merged.{Merged}
use Rattle.benchmark_entry.specs.declared.Elected.{Elected}
use Rattle.benchmark_entry.specs.declared.Explained.{Explained}

-- no mark, of an edit of a record that is refused
abbrev pub no_marks : List ℕ
no_marks = replicate mark_limit 0

abbrev pub refused_judgement : ℕ → Judged
refused_judgement number = record { number = number; must = no_marks; never = no_marks; settled = no_marks; place = no_marks }

abbrev pub judgement_numbers : Judgement → Judged
judgement_numbers j = record { number = 0; must = j.must; never = j.never; settled = j.settled; place = j.place }

-- the judgement of a lent record, or the number of its refusal
unfoldable pub judged_numbers : Rows → Rows → Judged
judged_numbers edits constraints =
    let n = record_fault edits constraints in cond (eqb n 0) (judgement_numbers (judgement_is (decoded edits constraints))) (refused_judgement n)

-- how many pages the schedule of a lent record has, or the number of its refusal
unfoldable pub scheduled_of : Rows → Rows → Scheduled
scheduled_of edits constraints =
    let n = record_fault edits constraints in
    cond (eqb n 0) (record { number = 0; count = (stored_schedule (decoded edits constraints) []).count }) (record { number = n; count = 0 })

-- the ledger's answer to a second merge, the first being the only call before it
unfoldable pub merged_of : Rows → Rows → Rows → Rows → Merged
merged_of edits constraints others other_constraints =
    let a = (step (fed start (merge edits constraints ∷ [])) (merge others other_constraints)).answer in
    record { number = a.number; undone = a.undone; redone = a.redone }

abbrev pub seat : ℕ → RollRow
seat bench = record { bench = bench; weight = 1 }

-- the roll: each bench of weight 1
unfoldable pub equal_seats : List RollRow
equal_seats = map seat benches

-- by bench: four times the one, four times the other
abbrev pub halves : Rows → Rows → List Rows
halves rows rivals = rows ∷ rows ∷ rows ∷ rows ∷ rivals ∷ rivals ∷ rivals ∷ rivals ∷ []

unfoldable pub elected_of : ℕ → Rows → Rows → Rows → Rows → Elected
elected_of edit edits constraints rivals rival_constraints =
    let a = election_of edit (lent_proposals (halves edits rivals) (halves constraints rival_constraints)) equal_seats in
    record { number = a.number; won = cond a.won 1 0; greatest = a.greatest; silent = a.silent; total = a.total }

-- how many bytes the line of a reason has, or the number of its refusal
unfoldable pub explained_of : ℕ → Rows → Rows → List ℕ → Explained
explained_of edit edits constraints out =
    let n = explained_fault edits constraints edit 0 out in
    cond (eqb n 0) (record { number = 0; size = length (explained edits constraints edit) }) (record { number = n; size = 0 })
