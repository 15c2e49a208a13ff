-- Document 01, "Entries and pages": a turn moves by a signed number of pages; and number 10 of "What is turned away". Assumes nothing.
use Rattle.std.specs.Prelude.{cond, ℕ, ℤ, pos, negsuc, ◌+ℤ◌, leb, Option, Some, None}
use Rattle.record.specs.Stored.{edit_limit}

-- the page that is opened: none below 0 and past the last page
unfoldable pub landed : ℕ → ℤ → Option ℕ
landed last (pos page) = cond (leb page last) (Some page) None
landed last (negsuc below) = None

-- the signed number added to the open page
unfoldable pub turned : ℕ → ℕ → ℤ → Option ℕ
turned opened last by = landed last (pos opened +ℤ by)

-- the same for any two numbers: a page past the journal's rows is never open
unfoldable pub turn_of : ℕ → ℕ → ℤ → Option ℕ
turn_of opened last by = cond (leb opened edit_limit) (turned opened last by) None

-- the number: refused where no page is opened
abbrev pub turn_fault : Option ℕ → ℕ
turn_fault (Some page) = 0
turn_fault None = 10

-- the page that is then open: a refused turn leaves it
abbrev pub open_after : ℕ → Option ℕ → ℕ
open_after opened (Some page) = page
open_after opened None = opened
