-- What is left of a room after so many bytes, where they fit it. Assumes nothing.
use Rattle.std.specs.Prelude.{ℕ, ◌-◌, cond, leb, Option, Some, None}

abbrev pub room_after : ℕ → ℕ → Option ℕ
room_after room size = cond (leb size room) (Some (room - size)) None
