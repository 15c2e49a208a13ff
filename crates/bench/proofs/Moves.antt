-- A refusal, a turn and a change as the code makes them are the ledger's. Assumes nothing.
use mathlib.Core.Path.{◌≡◌, refl, sym, ap, ◌∙◌}
use mathlib.Core.List.{List, map}
use Prim.Native.Nat.{ℕ, ◌-◌, ◌≤◌}
use native.Mathlib.Omega.{arith}
use lib.IntN.{ℤ}
use lib.ListN.{length, take, drop, length-map}
use lib.Seq.{take-length}
use Rattle.record.specs.declared.Edit.{Edit}
use Rattle.record.specs.declared.Record as declared
use Rattle.record.specs.declared.Schedule.{Schedule}
use Rattle.lists.specs.Lists.{mem}
use Rattle.record.specs.Record.{Record, name_of, written}
use Rattle.record.specs.Stored.{stored, edit_named, filler_edit}
use Rattle.record.specs.Sound.{Sound}
use Rattle.record.proofs.Scheduled.{sound-pages}
use Rattle.graph.specs.links.Marks.{marks_of}
use Rattle.record_rows.specs.row.Row.{field_number}
use Rattle.record_tables.specs.Checked.{Checked}
use Rattle.voting.specs.Tally.{Election}
use Rattle.std.specs.Prelude.{Option, Some, None, Err}
use Rattle.refusals.specs.declared.Refusal.{Refusal}
use Rattle.refusals.specs.declared.Refusal.TheVariants.{NoPage}
use Rattle.refusals.specs.Numbers.{number}
use Rattle.refusals.proofs.Numbers.{number-positive}
use Rattle.pages_turner.specs.declared.Turner.{Turner}
use Rattle.pages_turner.specs.Turn.{turned, turn_of, turn_fault, open_after}
use Rattle.pages_turner.specs.turning.Turning.{turner_fault, after_turn}
use Rattle.pages_turner.proofs.Signed.{turn_is}
use Rattle.pages_turner.proofs.Landed.{turned-lands}
use Rattle.pages.specs.Steps.{common_beginning, Agree}
use Rattle.record.proofs.Padded.{take-padded}
use Rattle.catalogue.specs.declared.View.{View}
use Rattle.catalogue.specs.Shelves.{rows, schedule_of}
use Rattle.catalogue.specs.Chips.{cells, places, chip_place, chips_view}
use Rattle.catalogue.specs.Changes as moves
use Rattle.catalogue.proofs.Common.{same-edits, opened-stored, pages-stored}
use Rattle.ledger.specs.declared.Bench.{Bench}
use Rattle.ledger.specs.Ledger.{Ledger, Call, CallAnswer, turn, accepted_answer, refused_answer, start, pages, last, at_page, judge, act, refusal, change_to, step, fed}
use Rattle.ledger.specs.Bench.{Outcome, page_edits, open_edits, bench_of, outcome, told_outcome, Answers}
use Rattle.ledger.proofs.Valid.{Valid, start-valid, fed-valid}
use Rattle.ledger.proofs.Undone.{from-valid, step-refused, step-accepted, detail-told}
use Rattle.bench.specs.Changes.{open_at, turn_answer, turn_reply, Opens, KeepsEdits, pages_of, Reschedules}
use Rattle.ledger.proofs.Pages.{names-named, named-agree, pages-room, open-written, last-room}
use Rattle.std.proofs.lemmas.List.{take-map}

-- a call that the ledger refuses with this number, as the code tells it
pub told-refused : (L : Ledger) (bench : Bench) (call : Call) (refused : Refusal) → bench ≡ bench_of L → number refused ≡ judge L call → told_outcome (Err refused) bench ≡ outcome (step L call)
unfolding outcome refusal
told-refused L bench call refused e j =
    (λ i. record { answer = refused_answer (j i) (detail-told L call refused j i); bench = e i })
    ∙ ap outcome (sym (step-refused L call (λ q. number-positive refused (j ∙ q))))

pub accepted-is : (L : Ledger) (call : Call) (r : Outcome) → judge L call ≡ 0 → r ≡ outcome (act L call) → r ≡ outcome (step L call)
accepted-is L call r j e = e ∙ ap outcome (sym (step-accepted L call j))

length-pages : (L : Ledger) → length (page_edits L) ≡ last L
unfolding page_edits last
length-pages L = length-map (pages L) (edit_named L.multilog.edits)

-- a bench's record and hidden edits
module _ (L : Ledger) (bench : Bench) (e : bench ≡ bench_of L) where
  pub bench-record : bench.multilog ≡ stored L.multilog
  unfolding bench_of
  bench-record = ap (λ (b : Bench). b.multilog) e

  pub bench-hidden : bench.hidden ≡ marks_of L.multilog (λ x. mem x L.hidden)
  unfolding bench_of
  bench-hidden = ap (λ (b : Bench). b.hidden) e

-- a page opened
module _ (L : Ledger) (bench : Bench) (e : bench ≡ bench_of L) (page : ℕ) (h : page ≤ last L) where
  opened-edits : take page bench.schedule.edits ≡ take page (page_edits L)
  unfolding bench_of schedule_of
  opened-edits = ap (λ (b : Bench). take page b.schedule.edits) e ∙ take-padded rows filler_edit page (page_edits L) (omega (arith, length-pages L))

  pub election-open-is : open_at bench page ≡ bench_of (at_page L page)
  unfolding open_at bench_of at_page open_edits page_edits last pages
  election-open-is = λ i. record {
    multilog = (e i).multilog;
    hidden = (e i).hidden;
    schedule = (e i).schedule;
    turner = record { opened = page; last = (e i).turner.last };
    view = chips_view (opened-edits i);
  }

last-is : (L : Ledger) (bench : Bench) → bench ≡ bench_of L → bench.turner.last ≡ last L
unfolding bench_of
last-is L bench e = ap (λ (b : Bench). b.turner.last) e

-- the page that is open
pub open-same : (L : Ledger) → Valid L → (bench : Bench) → bench ≡ bench_of L → open_at bench bench.turner.opened ≡ bench
unfolding bench_of at_page
open-same L v bench e =
    let o : bench.turner.opened ≡ L.opened = ap (λ (b : Bench). b.turner.opened) e in
    ap (open_at bench) o ∙ (election-open-is L bench e L.opened v.opened-within ∙ sym e)

-- as the code opens it
pub opens : (bench : Bench) (page : ℕ) (w : View cells places)
    → moves.ViewTurns cells places chip_place field_number bench.schedule bench.turner.opened page bench.view w
    → Opens bench page (record { multilog = bench.multilog; hidden = bench.hidden; schedule = bench.schedule; turner = record { opened = page; last = bench.turner.last }; view = w })
unfolding Opens open_at bench_of moves.ViewTurns open_edits chips_view
opens bench page w m = λ calls e h.
    let L = fed start calls in
    let v = fed-valid start calls start-valid in
    let o : bench.turner.opened ≡ L.opened = ap (λ (b : Bench). b.turner.opened) e in
    let n = length-pages L in
    let l = last-is L bench e in
    let x : w ≡ chips_view (take page (page_edits L)) =
    m (page_edits L) (omega (arith, last-room L v)) (ap (λ (b : Bench). b.schedule) e) (omega (arith, v.opened-within)) (omega arith)
    (ap (λ (b : Bench). b.view) e ∙ ap (λ (k : ℕ). chips_view (take k (page_edits L))) (sym o)) in
    let y = x ∙ ap chips_view (sym (opened-edits L bench e page (omega arith))) in
    λ i. record { multilog = bench.multilog; hidden = bench.hidden; schedule = bench.schedule; turner = record { opened = page; last = bench.turner.last }; view = y i }

-- a turn
module _ (L : Ledger) (v : Valid L) (bench : Bench) (e : bench ≡ bench_of L) (by : ℤ) where
  abbrev page : Option ℕ
  page = turn_of bench.turner.opened bench.turner.last by

  page-is : page ≡ turned L.opened (last L) by
  unfolding bench_of
  page-is = (λ i. turn_of (e i).turner.opened (e i).turner.last by) ∙ turn_is L.opened (last L) by (omega (arith, v.opened-within, last-room L v))

  opened-is : bench.turner.opened ≡ L.opened
  unfolding bench_of
  opened-is = ap (λ (b : Bench). b.turner.opened) e

  fault-is : judge L (turn by) ≡ turner_fault bench.turner by
  unfolding judge
  fault-is = ap turn_fault (sym page-is)

  pub turn-refused : (refusal : Refusal) → number refusal ≡ turner_fault bench.turner by → told_outcome (Err refusal) bench ≡ outcome (step L (turn by))
  turn-refused refusal h = told-refused L bench (turn by) refusal e (h ∙ sym fault-is)

  landed-within : (t : Option ℕ) → turned L.opened (last L) by ≡ t → open_after L.opened t ≤ last L
  landed-within (Some page) q = (turned-lands (last L) page L.opened by q).within
  landed-within None q = v.opened-within

  after-is : open_after bench.turner.opened page ≡ open_after L.opened (turned L.opened (last L) by)
  after-is = λ i. open_after (opened-is i) (page-is i)

  pub turned-within : (after_turn bench.turner by).opened ≤ last L
  turned-within = omega (arith, after-is, landed-within (turned L.opened (last L) by) refl)

  pub turn-accepted : turner_fault bench.turner by ≡ 0 → record { answer = turn_answer 0; bench = open_at bench (after_turn bench.turner by).opened } ≡ outcome (step L (turn by))
  unfolding outcome act at_page
  turn-accepted z =
      let n = open_after L.opened (turned L.opened (last L) by) in
      let x : open_at bench (after_turn bench.turner by).opened ≡ bench_of (at_page L n) =
      ap (open_at bench) after-is ∙ election-open-is L bench e n (landed-within (turned L.opened (last L) by) refl) in
      accepted-is L (turn by) _ (fault-is ∙ z) (ap (λ (b : Bench). record { answer = turn_answer 0; bench = b }) x)

  pub turn-told : turn_reply bench (turner_fault bench.turner by) (after_turn bench.turner by) ≡ outcome (step L (turn by))
  unfolding turn_reply
  turn-told = go page refl
    where
      go : (t : Option ℕ) → page ≡ t → turn_reply bench (turner_fault bench.turner by) (after_turn bench.turner by) ≡ outcome (step L (turn by))
      go (Some p) q =
          let z : turner_fault bench.turner by ≡ 0 = ap turn_fault q in
          ap (λ (n : ℕ). record { answer = turn_answer n; bench = open_at bench (after_turn bench.turner by).opened }) z ∙ turn-accepted z
      go None q =
          let x : open_at bench (after_turn bench.turner by).opened ≡ bench = ap (λ (u : Option ℕ). open_at bench (open_after bench.turner.opened u)) q ∙ open-same L v bench e in
          let f : turner_fault bench.turner by ≡ number NoPage = ap turn_fault q in
          (λ i. record { answer = turn_answer (f i); bench = x i }) ∙ told-refused L bench (turn by) NoPage e (sym f ∙ sym fault-is)

-- the same of every list of calls
pub turn-answers : (bench : Bench) (by : ℤ) → Answers bench (turn by) (turn_reply bench (turner_fault bench.turner by) (after_turn bench.turner by))
turn-answers bench by = from-valid bench (turn by) (turn_reply bench (turner_fault bench.turner by) (after_turn bench.turner by)) (λ L v e. turn-told L v bench e by)

pub turn-opens : (bench : Bench) (by : ℤ) (after : Turner) → turner_fault bench.turner by ≡ 0 → after ≡ after_turn bench.turner by
    → (b : Bench) → Opens bench after.opened b → (a : CallAnswer) → a ≡ turn_answer 0 → Answers bench (turn by) (record { answer = a; bench = b })
unfolding Answers Opens
turn-opens bench by after z h b o a q = λ calls e.
    let L = fed start calls in
    let v = fed-valid start calls start-valid in
    let w = ap (λ (t : Turner). t.opened) h in
    let x = o calls e (omega (arith, w, last-is L bench e, turned-within L v bench e by)) in
    (λ i. record { answer = q i; bench = x i })
    ∙ ap (λ (n : ℕ). record { answer = turn_answer 0; bench = open_at bench n }) w
    ∙ turn-accepted L v bench e by z

-- a change
module _ (L : Ledger) (v : Valid L) (bench : Bench) (e : bench ≡ bench_of L) (R : Record) (h row : List ℕ) (k : Checked R) (s : Sound R row)
    (keeps : KeepsEdits L.multilog R) where
  news : List Edit
  news = map (edit_named R.edits) (drop 1 row)

  open-named : take L.opened (page_edits L) ≡ map (edit_named L.multilog.edits) (take L.opened (pages L))
  unfolding page_edits
  open-named = take-map (edit_named L.multilog.edits) L.opened (pages L)

  agree : Agree name_of (take L.opened (page_edits L)) news
  unfolding written news
  agree =
      rw open-named
      (named-agree L.multilog.edits R.edits (take L.opened (pages L)) (drop 1 row) keeps (open-written L v) (sound-pages R row s))

  common-is : moves.common (take L.opened (page_edits L)) news ≡ common_beginning (take L.opened (pages L)) (drop 1 row)
  unfolding moves.common written news
  common-is =
      let a = ap (map name_of) open-named ∙ names-named L.multilog.edits (take L.opened (pages L)) (open-written L v) in
      let b = names-named R.edits (drop 1 row) (sound-pages R row s) in
      λ i. common_beginning (a i) (b i)

  length-news : length news ≡ length (drop 1 row)
  unfolding news
  length-news = length-map (drop 1 row) (edit_named R.edits)

  pub change-is : (E : Election) (multilog : declared.Record) (hidden : List ℕ) (new : Schedule) (c : ℕ) (w : View cells places)
      → (a : CallAnswer) → a ≡ accepted_answer (bench.turner.opened - c) (new.count - c) E
      → multilog ≡ stored R → hidden ≡ marks_of R (λ x. mem x h) → new ≡ pages_of R row
      → c ≡ moves.common (take bench.turner.opened bench.schedule.edits) (take new.count new.edits)
      → moves.ViewChanges cells places chip_place field_number bench.schedule bench.turner.opened new c bench.view w
      → record {
        answer = a;
        bench = record { multilog = multilog; hidden = hidden; schedule = new; turner = record { opened = new.count; last = new.count }; view = w };
      } ≡ outcome (change_to L R h row E)
  unfolding change_to outcome bench_of pages_of moves.ViewChanges page_edits open_edits pages last news schedule_of chips_view
  change-is E multilog hidden new c w a q hm hh hn hc m =
      let old = take L.opened (page_edits L) in
      let n = length-pages L in
      let o = ap (λ (b : Bench). b.turner.opened) e in
      let t = ap (λ (b : Bench). b.schedule) e in
      let f : bench.turner.opened ≤ length (page_edits L) = omega (arith, o, v.opened-within) in
      let start = opened-stored bench.schedule (page_edits L) bench.turner.opened t f ∙ ap (λ (q : ℕ). take q (page_edits L)) o in
      let shared : c ≡ moves.common old news = hc ∙ (λ i. moves.common (start i) (pages-stored new news hn i)) in
      let told : w ≡ chips_view news =
      m (page_edits L) news (omega (arith, last-room L v)) (omega (arith, pages-room R k row s, length-news)) t hn f (rw (o, shared) (same-edits old news agree))
      (ap (λ (b : Bench). b.view) e ∙ ap (λ (q : ℕ). chips_view (take q (page_edits L))) (sym o)) in
      let counted = shared ∙ common-is in
      let whole : news ≡ take (length (drop 1 row)) news = sym (ap (λ (q : ℕ). take q news) (sym length-news) ∙ take-length news) in
      (λ i. record {
        answer = (q ∙ (λ j. accepted_answer (o j - counted j) ((hn j).count - counted j) E)) i;
        bench = record { multilog = hm i; hidden = hh i; schedule = hn i; turner = record { opened = (hn i).count; last = (hn i).count }; view = told i };
      })
      ∙ (λ i. record {
        answer = accepted_answer (L.opened - common_beginning (take L.opened (pages L)) (drop 1 row)) (length-news i - common_beginning (take L.opened (pages L)) (drop 1 row)) E;
        bench = record { multilog = stored R; hidden = marks_of R (λ x. mem x h); schedule = schedule_of news; turner = record { opened = length-news i; last = length-news i }; view = chips_view (whole i) };
      })

-- the same of every list of calls
pub change-from : (bench : Bench) (multilog : declared.Record) (hidden : List ℕ) (new : Schedule) (E : Election) (c : ℕ) (w : View cells places)
    → (a : CallAnswer) → a ≡ accepted_answer (bench.turner.opened - c) (new.count - c) E → c ≡ moves.common (take bench.turner.opened bench.schedule.edits) (take new.count new.edits)
    → moves.ViewChanges cells places chip_place field_number bench.schedule bench.turner.opened new c bench.view w
    → Reschedules bench multilog hidden new E (record {
      answer = a;
      bench = record { multilog = multilog; hidden = hidden; schedule = new; turner = record { opened = new.count; last = new.count }; view = w };
    })
unfolding Reschedules
change-from bench multilog hidden new E c w a q hc m = λ calls R h row e hm hh hn k s keeps.
    change-is (fed start calls) (fed-valid start calls start-valid) bench e R h row k s keeps E multilog hidden new c w a q hm hh hn hc m
