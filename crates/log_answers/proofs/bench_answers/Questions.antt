-- What the questions print: a line that a test lets through, and a head with its lines. Assumes nothing.
use mathlib.Core.Path.{◌≡◌}
use mathlib.Core.Bool.{Bool, true, false, cond}
use mathlib.Core.Logic.{◌≢◌}
use mathlib.Core.List.{List, [], ◌∷◌}
use Prim.Native.Nat.{ℕ, ◌+◌, ◌-◌, ◌<◌}
use native.Mathlib.Omega.{arith}
use borrow.Author.Tests.{eq-eqb, ne_eqb}
use lib.ListN.{length, get_or, take, drop}
use Rattle.lists.specs.Lists.{filter}
use Rattle.lists.proofs.Arrays.{get_or-any}
use Rattle.record.specs.declared.Edit.{Edit}
use Rattle.catalogue.specs.declared.Entry.{Entry}
use Rattle.catalogue.specs.Entries.{place_of, absent_entry}
use Rattle.catalogue.specs.Chips.{cells}
use Rattle.log_forms.specs.Printed.{Texts, Printed, texts_from}
use Rattle.log_forms.specs.declared.Printer.{Printer}
use Rattle.log_forms.proofs.Printing.{printed-nothing, printed-both}
use Rattle.log_answers.specs.Answers.{answer_line}
use Rattle.log_answers.specs.declared.bench_answers.Owner.TheVariants.{Chip, Page}
use Rattle.log_answers.specs.bench_answers.Asks.{hides, hidden_line, hidden_text, page_line, schedule_text, cells_text, is_present, entry_text, catalogue_text, row_text, row_at, journal_text}

-- texts that a test lets through
module _ (test : Bool) (texts : Texts) {before : Printer} where
  pub printed-not : test ≡ false → Printed (cond test texts []) before before
  printed-not e = rw e (printed-nothing before)

  pub printed-so : {after : Printer} → test ≡ true → Printed texts before after → Printed (cond test texts []) before after
  printed-so e p = rw e p

pub not_hidden : (mark : ℕ) → mark ≢ 1 → hides mark ≡ false
not_hidden mark h = ne_eqb mark 1 h

pub is_hidden : (mark : ℕ) → mark ≡ 1 → hides mark ≡ true
is_hidden mark h = eq-eqb mark 1 h

-- a head, and a line for each edit
module _ (edits : List Edit) {before middle after : Printer} where
  pub hidden-printed : (marks : List ℕ) {k : ℕ} → k ≡ length (filter hides (take (length edits) (drop 1 marks))) → Printed (answer_line "hidden=#\n" (k ∷ [])) before middle
      → Printed (texts_from (hidden_line marks) 1 edits) middle after → Printed (hidden_text edits marks) before after
  unfolding hidden_text
  hidden-printed marks {k} c p q = rw (← c) (printed-both p q)

  pub schedule-printed : Printed (answer_line "last=#\n" (length edits ∷ [])) before middle → Printed (texts_from page_line 1 edits) middle after
      → Printed (schedule_text edits) before after
  unfolding schedule_text
  schedule-printed p q = printed-both p q

  pub journal-printed : (rows : List (Entry cells)) → Printed (answer_line "open=#\n" (length edits ∷ [])) before middle → Printed (texts_from (row_at rows) 1 edits) middle after
      → Printed (journal_text edits rows) before after
  unfolding journal_text
  journal-printed rows p q = printed-both p q

-- an entry, all entries, a row
module _ {before middle after : Printer} where
  pub entry-printed : (chip : ℕ) (entry : Entry cells) → entry.present ≡ true → Printed (answer_line "chip=#\n" (chip ∷ [])) before middle
      → Printed (cells_text Chip chip entry.cells) middle after → Printed (entry_text chip entry) before after
  unfolding entry_text
  entry-printed chip entry e p q = rw e (printed-both p q)

  pub catalogue-printed : (entries : List (Entry cells)) {k : ℕ} → k ≡ length (filter is_present entries) → Printed (answer_line "chips=#\n" (k ∷ [])) before middle
      → Printed (texts_from entry_text 0 entries) middle after → Printed (catalogue_text entries) before after
  unfolding catalogue_text
  catalogue-printed entries {k} c p q = rw (← c) (printed-both p q)

  pub row-printed : (page : ℕ) (e : Edit) (row : Entry cells) {chip present : ℕ} → chip ≡ place_of e.body → present ≡ cond row.present 1 0
      → Printed (answer_line "page=# chip=# present=?\n" (page ∷ chip ∷ present ∷ [])) before middle → Printed (cells_text Page page row.cells) middle after
      → Printed (row_text page e row) before after
  unfolding row_text
  row-printed page e row {chip} {present} c f p q = rw (← c, ← f) (printed-both p q)

pub entry_absent : (before : Printer) (chip : ℕ) (entry : Entry cells) → entry.present ≡ false → Printed (entry_text chip entry) before before
unfolding entry_text
entry_absent before chip entry e = rw e (printed-nothing before)

-- the row of a page
pub row_before : (rows : List (Entry cells)) (i : ℕ) (e : Edit) (d : Entry cells) → i < length rows → row_text (i + 1) e (get_or rows i d) ≡ row_at rows (i + 1) e
row_before rows i e d h =
    let q : i + 1 - 1 ≡ i = omega arith in
    rw (q, get_or-any rows i d (absent_entry cells) h)
