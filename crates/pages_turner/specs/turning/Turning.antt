-- Document 01, "Entries and pages": the open page and the last page form the turner, one small state changed by each turn. Assumes nothing.
use Rattle.std.specs.Prelude.{ℕ, ℤ}
use Rattle.pages_turner.specs.declared.Turner.{Turner}
use Rattle.pages_turner.specs.Turn.{turn_of, turn_fault, open_after}

-- the number of a turn
abbrev pub turner_fault : Turner → ℤ → ℕ
turner_fault turner by = turn_fault (turn_of turner.opened turner.last by)

-- the turner after a turn: the last page stays
abbrev pub after_turn : Turner → ℤ → Turner
after_turn turner by = record { opened = open_after turner.opened (turn_of turner.opened turner.last by); last = turner.last }
