-- The schedule that is made from the marks of hidden edits is that of the hidden edits. Assumes nothing.
use mathlib.Core.Path.{◌≡◌, sym, ap, ◌∙◌}
use mathlib.Core.Bool.{Bool, cond}
use mathlib.Core.List.{List, map}
use Prim.Native.Nat.{ℕ}
use lib.Dec.{eqb}
use lib.ListN.{get_or, drop}
use Rattle.record.specs.declared.Record as declared
use Rattle.record.specs.declared.Schedule.{Schedule}
use Rattle.lists.specs.Lists.{filter, mem, index_of, ◌among◌, ◌within◌}
use Rattle.record.specs.Record.{Record, names, written}
use Rattle.record.specs.Stored.{stored, edit_named}
use Rattle.lists.proofs.Lists.{same_by, mem_index, filter-mem, mem-filter}
use Rattle.record.proofs.Records.{written-names}
use Rattle.record.specs.Schedule.{schedule}
use Rattle.record.proofs.Scheduled.{schedule-sound, schedule-same}
use Rattle.record_tables.proofs.Records.{checked-wellformed}
use Rattle.graph.specs.links.Marks.{marks_of}
use Rattle.graph.proofs.links.Names.{get_or-place}
use Rattle.graph.proofs.links.Marks.{marks-at}
use Rattle.judgement.specs.Judged as judge
use Rattle.judgement.specs.Judged.{marked_edits}
use Rattle.graph.specs.indexes.Fit.{Fit}
use Rattle.graph.proofs.indexes.Fit.{checked-fit}
use Rattle.catalogue.specs.Shelves.{schedule_of}
use Rattle.voting.specs.Tally.{Election}
use Rattle.ledger.specs.declared.Bench.{Bench}
use Rattle.ledger.specs.Ledger.{change}
use Rattle.ledger.specs.Bench.{Outcome}
use Rattle.lists.proofs.Tests.{bit_is}
use Rattle.bench.specs.Changes.{pages_of, Changes, Reschedules}

-- a mark is 1 just where the test holds
marked-is : (R : Record) (test : ℕ → Bool) (x : ℕ) → x among names R → eqb (get_or (marks_of R test) (index_of x (names R)) 0) 1 ≡ test x
marked-is R test x i =
    ap (λ (n : ℕ). eqb n 1) (marks-at R test (index_of x (names R)) (mem_index x (names R) i) ∙ ap (λ (y : ℕ). cond (test y) 1 0) (get_or-place x (names R) i))
    ∙ bit_is (test x)

marked-hidden : (R : Record) (h : List ℕ) → h within written R → (x : ℕ) → mem x (marked_edits R (marks_of R (λ y. mem y h))) ≡ mem x h
unfolding marked_edits
marked-hidden R h w x =
    let marks = marks_of R (λ y. mem y h) in
    let test : ℕ → Bool = λ x. eqb (get_or marks (index_of x (names R)) 0) 1 in
    same_by (mem x (filter test (names R))) (mem x h)
    (λ i. let p = filter-mem test (names R) x i in sym (marked-is R (λ y. mem y h) x p.0) ∙ p.1)
    (λ i. let k = written-names R x (w x i) in mem-filter test (names R) x k (marked-is R (λ y. mem y h) x k ∙ i))

pages-made : (R : Record) (h : List ℕ) → h within written R → judge.stored_schedule R (marked_edits R (marks_of R (λ x. mem x h))) ≡ pages_of R (schedule R h)
unfolding judge.stored_schedule judge.scheduled_edits pages_of schedule_of
pages-made R h w =
    let e = schedule-same R (marked_edits R (marks_of R (λ x. mem x h))) h (marked-hidden R h w) in
    ap (λ (row : List ℕ). schedule_of (map (edit_named R.edits) (drop 1 row))) e

pub change-made : (bench : Bench) (multilog : declared.Record) (hidden : List ℕ) (new : Schedule) (E : Election) (r : Outcome)
    → ((R : Record) → multilog ≡ stored R → Fit R → new ≡ judge.stored_schedule R (marked_edits R hidden))
    → Reschedules bench multilog hidden new E r → Changes bench multilog hidden E r
unfolding Changes Reschedules change
change-made bench multilog hidden new E r s f = λ calls R h e m w hh k snd keeps.
    f calls R h (schedule R h) e m hh (s R m (checked-fit R k) ∙ ap (λ (t : List ℕ). judge.stored_schedule R (marked_edits R t)) hh ∙ pages-made R h w) k
    (schedule-sound R (checked-wellformed R k) snd h) keeps
