-- What is left of a room after one text and another. Assumes nothing.
use Rattle.std.proofs.Common.{◌≡◌, sym, ap, ◌∙◌, ℕ, ◌+◌, ◌-◌, ◌≤◌, ◌<◌, Some, None, arith}
use borrow.Author.Tests.{le-leb, lt-leb}
use Rattle.lists.proofs.Lists.{le-by}
use Rattle.text_forms.specs.Fit.{room_after}

pub room-short : (room size : ℕ) → room < size → room_after room size ≡ None
room-short room size h = rw (lt-leb size room h)

pub room-enough : (room size : ℕ) → size ≤ room → room_after room size ≡ Some (room - size)
room-enough room size h = rw (le-leb size room h)

pub room-whole : (room : ℕ) → room_after room 0 ≡ Some room
room-whole room = let e : room - 0 ≡ room = omega arith in room-enough room 0 (omega arith) ∙ ap Some e

pub room-both : (room m n : ℕ) → m ≤ room → room_after room (m + n) ≡ room_after (room - m) n
room-both room m n h =
    le-by (m + n) room
    (λ l. let e : room - (m + n) ≡ room - m - n = omega arith in room-enough room (m + n) l ∙ ap Some e ∙ sym (room-enough (room - m) n (omega arith)))
    (λ l. room-short room (m + n) l ∙ sym (room-short (room - m) n (omega arith)))
