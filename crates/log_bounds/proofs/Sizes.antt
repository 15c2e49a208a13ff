-- How many bytes the answers take at most, where their numbers fit 32 bits. Assumes nothing.
use mathlib.Core.Path.{◌≡◌, refl, ap, ◌∙◌}
use mathlib.Core.Bool.{Bool, true, false}
use mathlib.Core.Logic.{inl, inr}
use mathlib.Core.List.{List, [], ◌∷◌, ◌++◌, map, append-nil}
use Prim.Native.Nat.{ℕ, zero, suc, ◌+◌, ◌-◌, ◌*◌, ◌≤◌, ◌<◌, ◌^◌}
use native.Mathlib.Omega.{arith}
use borrow.Author.Tests.{eqb-true, leb-true}
use lib.Dec.{eqb, leb}
use lib.ListN.{length, get_or, take, drop, length-append, length-map, length-take}
use Rattle.lists.specs.Lists.{filter, Has}
use Rattle.lists.proofs.Lists.{by}
use Rattle.lists.proofs.Logic.{has-mapped, all-has}
use Rattle.lists.proofs.Front.{filter-length}
use Rattle.record.specs.declared.Field.TheVariants.{Id, Size, Erase, Page as PageField}
use Rattle.record.specs.declared.Body.{Body}
use Rattle.record.specs.declared.Body.TheVariants.{Insert, Set, Remove}
use Rattle.record.specs.declared.Edit.{Edit}
use Rattle.record.specs.declared.Constraint.{Constraint}
use Rattle.record.specs.Record.{Record}
use Rattle.record.specs.Stored.{stored, record_of}
use Rattle.record_rows.specs.row.Row.{cell, edit_in_range, constraint_in_range, body_cells, edit_row, constraint_row}
use Rattle.record_rows.proofs.row.Cells.{edit-bounds, constraint-bounds}
use Rattle.record_tables.specs.Checked.{Checked}
use Rattle.record_tables.proofs.Tables.{stored_back}
use Rattle.std.specs.Prelude.{Option, Some, None}
use Rattle.catalogue.specs.declared.Entry.{Entry}
use Rattle.catalogue.specs.Entries.{place_of, absent_entry}
use Rattle.catalogue.specs.Chips.{cells}
use Rattle.text_forms.specs.Spelling.{bytes, decimal_notation}
use Rattle.text_forms.proofs.Lawful.{decimal-lawful}
use Rattle.text_forms.specs.Form.{is_mark, fill}
use Rattle.text_forms.proofs.Forms.{room, AllSmall, fill-room, fill-wide}
use Rattle.text_lines.specs.Line.{edit_form, edit_numbers, edit_line_in, edit_line, constraint_line}
use Rattle.text_lines.proofs.Puts.{rule-length, rule_part-short}
use Rattle.text.specs.Text.{joined_lines, rows_text, written_in, text_of}
use Rattle.text_report.specs.Report.{counts_form, refusal_form, refusal_line}
use Rattle.text_report.proofs.Size.{joined-size}
use Rattle.log_forms.specs.Printed.{Texts, texts_from}
use Rattle.log_answers.specs.Answers.{answered_text, bit, record_text}
use Rattle.log_answers.specs.declared.bench_answers.Owner.{Owner}
use Rattle.log_answers.specs.declared.bench_answers.Owner.TheVariants.{Chip, Page}
use Rattle.log_answers.specs.bench_answers.Asks.{hides, hidden_line, hidden_text, page_line, schedule_text, cell_form, cell_line, cells_text, is_present, entry_text, catalogue_text, row_text, row_at, journal_text, page_text}

-- the bytes that texts come to
abbrev pub size_of : Texts → ℕ
size_of texts = length (joined_lines texts)

pub size_none : size_of [] ≡ 0
unfolding joined_lines
size_none = refl

pub size-both : (s t : Texts) → size_of (s ++ t) ≡ size_of s + size_of t
unfolding joined_lines
size-both [] t = omega arith
size-both (x ∷ s) t = omega (arith, length-append x (joined_lines (s ++ t)), length-append x (joined_lines s), size-both s t)

pub size-one : (t : List ℕ) → size_of (t ∷ []) ≡ length t
unfolding joined_lines
size-one t = ap length (append-nil t)

-- a line, and a head of at most 60 bytes before other texts
pub line-size : (form ns : List ℕ) (bound : ℕ) → AllSmall ns → leb (room form) bound ≡ true → size_of (fill form ns ∷ []) ≤ bound
line-size form ns bound s h = omega (arith, size-one (fill form ns), fill-room decimal-lawful form ns s, leb-true (room form) bound h)

pub head-size : (form ns : List ℕ) (bound : ℕ) (rest : Texts) → AllSmall ns → leb (room form) 60 ≡ true → size_of rest ≤ bound → size_of ((fill form ns ∷ []) ++ rest) ≤ 60 + bound
head-size form ns bound rest s h k = omega (arith, size-both (fill form ns ∷ []) rest, line-size form ns 60 s h)

-- the texts of each element
pub from-size : {A : Type 0} (text : ℕ → A → Texts) (bound m k : ℕ) (l : List A) → k + length l ≤ m → ((i : ℕ) (x : A) → i < m → Has x l → size_of (text i x) ≤ bound)
    → size_of (texts_from text k l) ≤ bound * length l
unfolding texts_from joined_lines
from-size text bound m k [] h f = omega arith
from-size text bound m k (x ∷ l) h f =
    let a = size-both (text k x) (texts_from text (suc k) l) in
    let b = f k x (omega arith) (inl refl) in
    let c = from-size text bound m (suc k) l (omega arith) (λ i y q w. f i y q (inr w)) in
    omega arith

pub bit-small : (b : Bool) → bit b < 4294967296
bit-small true = omega arith
bit-small false = omega arith

-- a refusal: the number of a line has 64 bits
two-wide : (a b k : ℕ) → a < 2 ^ 64 → b < 2 ^ 64 → get_or (a ∷ b ∷ []) k 0 < 2 ^ 64
two-wide a b zero h i = h
two-wide a b (suc zero) h i = i
two-wide a b (suc (suc k)) h i = omega arith

refusal-length : length refusal_form ≡ 17
unfolding refusal_form bytes
refusal-length = refl

refused-size : (number line : ℕ) → number < 4294967296 → line < 2 ^ 64 → size_of (refusal_line number line ∷ []) ≤ 340
unfolding refusal_line
refused-size number line h i =
    let w = fill-wide decimal-lawful refusal_form (number ∷ line ∷ []) (λ k. two-wide number line k (omega arith) i) in
    omega (arith, size-one (fill refusal_form (number ∷ line ∷ [])), refusal-length)

pub answered-size : (number line bound : ℕ) (texts : Texts) → number < 4294967296 → line < 2 ^ 64 → 340 ≤ bound → (number ≡ 0 → size_of texts ≤ bound) → size_of (answered_text number texts line) ≤ bound
answered-size number line bound texts h i b f =
    by (eqb number 0) (λ (e : eqb number 0 ≡ true). rw e (f (eqb-true number 0 e))) (λ (e : eqb number 0 ≡ false). rw e (omega (arith, refused-size number line h i)))

-- an edit whose numbers fit
pub record SmallEdit (e : Edit) : Type 0 where
  pub name : e.name < 4294967296
  pub place : cell (edit_row e) 2 < 4294967296
  pub value : cell (edit_row e) 4 < 4294967296

pub in-range-small : (e : Edit) → edit_in_range (edit_row e) ≡ true → cell (edit_row e) 4 < 4294967296 → SmallEdit e
unfolding edit_row
in-range-small e h v = let b = edit-bounds (edit_row e) refl h in record { name = omega (arith, b.0); place = omega (arith, b.1); value = v }

place-cell : (b : Body) → get_or (body_cells b) 1 0 ≡ place_of b
place-cell (Insert place) = refl
place-cell (Set place field value) = refl
place-cell (Remove place) = refl

pub place-small : (e : Edit) → SmallEdit e → place_of e.body < 4294967296
unfolding edit_row
place-small e s = rw (← place-cell e.body) s.place

-- the lines of a record's text
edit-room : (kind : ℕ) → leb (room (edit_form kind)) 68 ≡ true
unfolding room edit_form bytes is_mark
edit-room zero = refl
edit-room (suc zero) = refl
edit-room (suc (suc zero)) = refl
edit-room (suc (suc (suc n))) = refl

field-small : (b : Body) → get_or (body_cells b) 2 0 < 4294967296
field-small (Insert place) = omega arith
field-small (Set place Id value) = omega arith
field-small (Set place Size value) = omega arith
field-small (Set place Erase value) = omega arith
field-small (Set place PageField value) = omega arith
field-small (Remove place) = omega arith

edit-line-size : (e : Edit) → SmallEdit e → length (edit_line (edit_row e)) ≤ 68
unfolding edit_line_in edit_row
edit-line-size e s =
    let form = edit_form (cell (edit_row e) 1) in
    let ns = edit_numbers (edit_row e) in
    omega (arith, size-one (fill form ns), line-size form ns 68 (s.name, (s.place, (field-small e.body, (s.value, tt)))) (edit-room (cell (edit_row e) 1)))

pub rule-line-size : (row : List ℕ) → cell row 0 < 4294967296 → cell row 2 < 4294967296 → length (constraint_line row) ≤ 51
rule-line-size row h i =
    omega (arith, rule-length decimal_notation row, decimal-lawful.names.narrow (cell row 0) h, decimal-lawful.names.narrow (cell row 2) i, rule_part-short (cell row 1))

constraint-size : (c : Constraint) → constraint_in_range (constraint_row c) ≡ true → length (constraint_line (constraint_row c)) ≤ 51
constraint-size c h =
    let b = constraint-bounds (constraint_row c) refl h in
    rule-line-size (constraint_row c) (omega (arith, b.0)) (omega (arith, b.2))

-- a record within its limits whose numbers fit
pub record SmallRecord (R : Record) : Type 0 where
  pub editplaces : length R.edits ≤ 127
  pub constraintplaces : length R.constraints ≤ 512
  pub edits : (e : Edit) → Has e R.edits → SmallEdit e
  pub sides : (c : Constraint) → Has c R.constraints → constraint_in_range (constraint_row c) ≡ true

pub checked-small : (R : Record) → Checked R → ((e : Edit) → Has e R.edits → cell (edit_row e) 4 < 4294967296) → SmallRecord R
checked-small R k v = record {
  editplaces = k.editplaces;
  constraintplaces = k.constraintplaces;
  edits = λ e m. in-range-small e (all-has (λ e. edit_in_range (edit_row e)) R.edits k.editrange e m) (v e m);
  sides = all-has (λ c. constraint_in_range (constraint_row c)) R.constraints k.constraintrange;
}

module _ (R : Record) (k : SmallRecord R) where
  text-size : length (text_of R) ≤ 34748
  unfolding written_in rows_text
  text-size =
      let es = map edit_line (map edit_row R.edits) in
      let cs = map constraint_line (map constraint_row R.constraints) in
      let a : length (joined_lines es) ≤ 68 * length es = joined-size 68 es
      (λ l m. has-mapped edit_line l (map edit_row R.edits) m (λ row n p. has-mapped edit_row row R.edits n (λ e o q. rw (p, q) (edit-line-size e (k.edits e o))))) in
      let b : length (joined_lines cs) ≤ 51 * length cs = joined-size 51 cs
      (λ l m. has-mapped constraint_line l (map constraint_row R.constraints) m (λ row n p. has-mapped constraint_row row R.constraints n (λ c o q. rw (p, q) (constraint-size c (k.sides c o))))) in
      let n : length es ≡ length R.edits = length-map (map edit_row R.edits) edit_line ∙ length-map R.edits edit_row in
      let m : length cs ≡ length R.constraints = length-map (map constraint_row R.constraints) constraint_line ∙ length-map R.constraints constraint_row in
      omega (arith, length-append (joined_lines es) (joined_lines cs), k.editplaces, k.constraintplaces)

  pub stored-text-size : size_of (text_of (record_of (stored R)) ∷ []) ≤ 34748
  stored-text-size =
      let t : size_of (text_of (record_of (stored R)) ∷ []) ≡ length (text_of R) = size-one (text_of (record_of (stored R))) ∙ ap (λ (S : Record). length (text_of S)) (stored_back R) in
      omega (arith, text-size)

  -- the text after a head
  pub stored-size : (form ns : List ℕ) → AllSmall ns → leb (room form) 60 ≡ true → size_of ((fill form ns ∷ []) ++ (text_of (record_of (stored R)) ∷ [])) ≤ 34808
  stored-size form ns s h = omega (arith, head-size form ns 34748 (text_of (record_of (stored R)) ∷ []) s h stored-text-size)

  pub record-size : size_of (record_text (stored R)) ≤ 34808
  unfolding record_text counts_form room bytes is_mark
  record-size = stored-size counts_form (length R.edits ∷ length R.constraints ∷ []) (omega (arith, k.editplaces), (omega (arith, k.constraintplaces), tt)) refl

-- hidden edits, and the schedule
module _ (edits : List Edit) (few : length edits ≤ 127) (small : (e : Edit) → Has e edits → SmallEdit e) where
  hidden-line : (marks : List ℕ) (i : ℕ) (e : Edit) → Has e edits → size_of (hidden_line marks i e) ≤ 60
  unfolding room bytes is_mark
  hidden-line marks i e m =
      by (hides (get_or marks i 0))
      (λ (h : hides (get_or marks i 0) ≡ true). rw h (line-size (bytes "edit=@\n") (e.name ∷ []) 60 ((small e m).name, tt) refl))
      (λ (h : hides (get_or marks i 0) ≡ false). rw h (omega (arith, size_none)))

  pub hidden-size : (marks : List ℕ) → size_of (hidden_text edits marks) ≤ 7680
  unfolding hidden_text room bytes is_mark
  hidden-size marks =
      let n = length (filter hides (take (length edits) (drop 1 marks))) in
      let s : n < 4294967296 = omega (arith, filter-length hides (take (length edits) (drop 1 marks)), length-take (length edits) (drop 1 marks)) in
      head-size (bytes "hidden=#\n") (n ∷ []) 7620 (texts_from (hidden_line marks) 1 edits) (s, tt) refl
      (omega (arith, from-size (hidden_line marks) 60 128 1 edits (omega arith) (λ i e h m. hidden-line marks i e m)))

  pub schedule-size : size_of (schedule_text edits) ≤ 7680
  unfolding schedule_text room bytes is_mark
  schedule-size =
      head-size (bytes "last=#\n") (length edits ∷ []) 7620 (texts_from page_line 1 edits) (omega arith, tt) refl
      (omega (arith, from-size page_line 60 128 1 edits (omega arith) (λ i e h m. line-size (bytes "page=# edit=@\n") (i ∷ e.name ∷ []) 60 (omega arith, ((small e m).name, tt)) refl)))

-- the value of a cell fits; a blank cell has none
abbrev pub ValueFits : Option ℕ → Type 0
ValueFits None = Unit
ValueFits (Some value) = value < 4294967296

-- an entry of at most four cells whose values fit
pub record SmallEntry (entry : Entry cells) : Type 0 where
  pub few : length entry.cells ≤ 4
  pub values : (c : Option ℕ) → Has c entry.cells → ValueFits c

cell_room : (owner : Owner) → leb (room (cell_form owner)) 45 ≡ true
unfolding room cell_form bytes is_mark
cell_room Chip = refl
cell_room Page = refl

cell-size : (owner : Owner) (label field : ℕ) (c : Option ℕ) → label < 4294967296 → field < 4 → ValueFits c → size_of (cell_line owner label field c) ≤ 45
cell-size owner label field None h f v = omega (arith, size_none)
cell-size owner label field (Some value) h f v = line-size (cell_form owner) (label ∷ field ∷ value ∷ []) 45 (h, (omega arith, (v, tt))) (cell_room owner)

cells-size : (owner : Owner) (label : ℕ) (entry : Entry cells) → label < 4294967296 → SmallEntry entry → size_of (cells_text owner label entry.cells) ≤ 180
cells-size owner label entry h s =
    omega (arith, s.few, from-size (cell_line owner label) 45 4 0 entry.cells (omega (arith, s.few)) (λ i c l m. cell-size owner label i c h l (s.values c m)))

entry-size : (chip : ℕ) (entry : Entry cells) → chip < 64 → SmallEntry entry → size_of (entry_text chip entry) ≤ 240
unfolding entry_text room bytes is_mark
entry-size chip entry h s =
    by (is_present entry)
    (λ (e : entry.present ≡ true). rw e (head-size (bytes "chip=#\n") (chip ∷ []) 180 (cells_text Chip chip entry.cells) (omega arith, tt) refl (cells-size Chip chip entry (omega arith) s)))
    (λ (e : entry.present ≡ false). rw e (omega (arith, size_none)))

pub catalogue-size : (entries : List (Entry cells)) → length entries ≤ 64 → ((x : Entry cells) → Has x entries → SmallEntry x) → size_of (catalogue_text entries) ≤ 15420
unfolding catalogue_text room bytes is_mark
catalogue-size entries few small =
    let n = length (filter is_present entries) in
    let s : n < 4294967296 = omega (arith, filter-length is_present entries) in
    head-size (bytes "chips=#\n") (n ∷ []) 15360 (texts_from entry_text 0 entries) (s, tt) refl
    (omega (arith, from-size entry_text 240 64 0 entries (omega arith) (λ i x h m. entry-size i x h (small x m))))

row-size : (page : ℕ) (e : Edit) (row : Entry cells) → page < 128 → SmallEdit e → SmallEntry row → size_of (row_text page e row) ≤ 240
unfolding row_text room bytes is_mark
row-size page e row h s t =
    head-size (bytes "page=# chip=# present=?\n") (page ∷ place_of e.body ∷ bit row.present ∷ []) 180 (cells_text Page page row.cells)
    (omega arith, (place-small e s, (bit-small row.present, tt))) refl (cells-size Page page row (omega arith) t)

pub journal-size : (edits : List Edit) (rows : List (Entry cells)) → length edits ≤ 127 → ((e : Edit) → Has e edits → SmallEdit e) → ((i : ℕ) → SmallEntry (get_or rows i (absent_entry cells))) → size_of (journal_text edits rows) ≤ 30540
unfolding journal_text room bytes is_mark
journal-size edits rows few small each =
    head-size (bytes "open=#\n") (length edits ∷ []) 30480 (texts_from (row_at rows) 1 edits) (omega arith, tt) refl
    (omega (arith, from-size (row_at rows) 240 128 1 edits (omega arith) (λ i e h m. row-size i e (get_or rows (i - 1) (absent_entry cells)) h (small e m) (each (i - 1)))))

pub page-size : (opened last : ℕ) → opened < 4294967296 → last < 4294967296 → size_of (page_text opened last) ≤ 60
unfolding room bytes is_mark
page-size opened last h i = line-size (bytes "open=# last=#\n") (opened ∷ last ∷ []) 60 (h, (i, tt)) refl
