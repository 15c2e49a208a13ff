-- `decimal::read_number` meets its contract. Assumes nothing.
use Rattle.std.proofs.Common.{ap, sym, ◌∙◌, List, ℕ, min, arith}
use lib.ListN.{take}
use lib.Seq.{length-take-le}
use Rattle.text_forms.specs.decimal.Decimal.{value_from}
use Rattle.text_forms.proofs.decimal.Laws.{run-prefix, run-again, run_short, read-nothing, read-zero-first, read-digit, read-digits}
use Rattle.text_forms.proofs.decimal.read_number.Goals as goal
use Rattle.text_forms.proofs.decimal.read_number.Goals.{else-size-gt1-via-then-size-gt1+else-bytes-eq48, else-size-gt1-via-else-size-gt1}

pub returns-then-size-eq0 : goal.returns-then-size-eq0
returns-then-size-eq0 c = read-nothing c.args.bytes.now c.digit_count-size.ensures c.if-size-eq0.true

pub bounds-bytes-0 : goal.bounds-bytes-0
bounds-bytes-0 c = omega (arith, run_short c.args.bytes.now)

pub returns-then-bytes-eq48 : goal.returns-then-bytes-eq48
returns-then-bytes-eq48 c = read-zero-first c.args.bytes.now c.digit_count-size.ensures c.if-size-gt1.true c.if-bytes-eq48.true

pub slice_bounds-digits_value-end : goal.slice_bounds-digits_value-end
slice_bounds-digits_value-end c = let s = c.args.bytes.now in sym (length-take-le c.digit_count-size.result s (omega (arith, run_short s, c.digit_count-size.ensures)))

pub digits_value-requires : goal.digits_value-requires
digits_value-requires c = let s = c.args.bytes.now in rw (c.digit_count-size.ensures, run-prefix s) (run-again s)

pub returns : goal.returns
returns c =
    let s = c.args.bytes.now in
    let e = c.digit_count-size.ensures in
    let v = c.digits_value.ensures ∙ ap (λ (n : ℕ). min (value_from 0 (take n s)) 4294967296) e ∙ ap (λ (ds : List ℕ). min (value_from 0 ds) 4294967296) (run-prefix s) in
    elim c.else-size-gt1.branch [
      | else-size-gt1-via-then-size-gt1+else-bytes-eq48 w ↦ read-digits s e w.if-bytes-eq48.false w.if-size-gt1.true v
      | else-size-gt1-via-else-size-gt1 w ↦ read-digit s e c.if-size-eq0.false w.if-size-gt1.false v
    ]
