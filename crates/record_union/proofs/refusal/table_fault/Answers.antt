-- `refusal::table_fault` meets its contract. Assumes nothing.
use mathlib.Core.Path.{◌≡◌, refl, sym, ap, ◌∙◌}
use mathlib.Core.Bool.{not, cond}
use mathlib.Core.List.{map}
use lib.ListN.{drop, length-drop}
use Prim.Native.Nat.{◌+◌, ◌<◌}
use borrow.Author.Rules.{rules}
use native.Mathlib.Omega.{arith}
use Rattle.std.proofs.lemmas.List.{take_rest}
use Rattle.refusals.specs.Numbers.{number, number_of}
use Rattle.refusals.proofs.Numbers.{number-positive}
use Rattle.record_rows.proofs.grounds.Walks.{joins-room}
use Rattle.record_rows.proofs.grounds.Loop.{row-is, state-start, state-end, state-outside, state-joins, state-further, state-late, state-place, state-on}
use Rattle.record_union.proofs.refusal.TableKinds.{elements_of}
use Rattle.lists.proofs.Tests.{byte-bit}
use Rattle.record_union.proofs.refusal.table_fault.Goals as goal

pub loop-i-init : goal.loop-i-init
loop-i-init g c =
    let T = g.T.Element in
    let K = elements_of g.row.T.Denot T.row_of T.KEY T.PLACES g.row.CELLS T.fits (g.F.Further.number c.args.further.now) g.met.T.Element.narrow g.met.T.Element.wide in
    (omega arith, state-start K c.args.own.now c.args.t.now)

pub returns-then-not-in_range : goal.returns-then-not-in_range
returns-then-not-in_range g c = λ a.
    let T = g.T.Element in
    let K = elements_of g.row.T.Denot T.row_of T.KEY T.PLACES g.row.CELLS T.fits (g.F.Further.number c.args.further.now) g.met.T.Element.narrow g.met.T.Element.wide in
    let r = row-is c.args.t.now c.loop-i.i c.loop-i-test.true c.index-t-i.is in
    state-outside K c.args.own.now c.args.t.now c.loop-i.passed c.loop-i.count c.loop-i.i c.loop-i.invariant.1 a c.loop-i-test.true (rw r at (sym c.in_range.ensures ∙ c.if-not-in_range.true))

pub returns-in_err-late : goal.returns-in_err-late
returns-in_err-late g c = λ a.
    let T = g.T.Element in
    let K = elements_of g.row.T.Denot T.row_of T.KEY T.PLACES g.row.CELLS T.fits (g.F.Further.number c.args.further.now) g.met.T.Element.narrow g.met.T.Element.wide in
    let r = row-is c.args.t.now c.loop-i.i c.loop-i-test.true c.index-t-i.is in
    let e : number_of c.from_residual.result ≡ number c.in_err-late.field-0.0 = search rules in
    e ∙ state-joins K c.args.own.now c.args.t.now c.loop-i.passed c.loop-i.count c.loop-i.i c.loop-i.invariant.1 a c.loop-i-test.true (rw r at (sym c.in_range.ensures ∙ c.if-not-in_range.false)) _ (rw r at (c.in_err-late.ensures a)) (number-positive _)

pub returns-in_err-test : goal.returns-in_err-test
returns-in_err-test g c = λ a.
    let T = g.T.Element in
    let K = elements_of g.row.T.Denot T.row_of T.KEY T.PLACES g.row.CELLS T.fits (g.F.Further.number c.args.further.now) g.met.T.Element.narrow g.met.T.Element.wide in
    let r = row-is c.args.t.now c.loop-i.i c.loop-i-test.true c.index-t-i.is in
    let e : number_of c.from_residual-in_err-test.result ≡ number c.in_err-test.field-0.0 = search rules in
    e ∙ state-further K c.args.own.now c.args.t.now c.loop-i.passed c.loop-i.count c.loop-i.i c.loop-i.invariant.1 a c.loop-i-test.true (rw r at (sym c.in_range.ensures ∙ c.if-not-in_range.false)) _ (rw r at (c.in_ok-late.ensures a)) refl _ (rw r at c.in_err-test.ensures) (number-positive _)

pub returns-then-not-follows : goal.returns-then-not-follows
returns-then-not-follows g c = λ a.
    let T = g.T.Element in
    let K = elements_of g.row.T.Denot T.row_of T.KEY T.PLACES g.row.CELLS T.fits (g.F.Further.number c.args.further.now) g.met.T.Element.narrow g.met.T.Element.wide in
    let r = row-is c.args.t.now c.loop-i.i c.loop-i-test.true c.index-t-i.is in
    let late = sym (rw r at (c.follows.ensures (c.loop-i.invariant.1 a).0.order)) ∙ ap not c.if-not-follows.true in
    state-late K c.args.own.now c.args.t.now c.loop-i.passed c.loop-i.count c.loop-i.i c.loop-i.invariant.1 a c.loop-i-test.true (rw r at (sym c.in_range.ensures ∙ c.if-not-in_range.false)) _ (rw r at (c.in_ok-late.ensures a)) refl (sym (rw r at c.in_ok-test.ensures)) late

pub returns-in_err-new : goal.returns-in_err-new
returns-in_err-new g c = λ a.
    let T = g.T.Element in
    let K = elements_of g.row.T.Denot T.row_of T.KEY T.PLACES g.row.CELLS T.fits (g.F.Further.number c.args.further.now) g.met.T.Element.narrow g.met.T.Element.wide in
    let r = row-is c.args.t.now c.loop-i.i c.loop-i-test.true c.index-t-i.is in
    let late = sym (rw r at (c.follows.ensures (c.loop-i.invariant.1 a).0.order)) ∙ ap not c.if-not-follows.false in
    let e : number_of c.from_residual-in_err-new.result ≡ number c.in_err-new.field-0.0 = search rules in
    e ∙ state-joins K c.args.own.now c.args.t.now c.loop-i.passed c.loop-i.count c.loop-i.i c.loop-i.invariant.1 a c.loop-i-test.true (rw r at (sym c.in_range.ensures ∙ c.if-not-in_range.false)) _ (sym (ap number_of c.in_err-new.was) ∙ state-place K c.args.own.now c.args.t.now c.loop-i.passed c.loop-i.count c.loop-i.i c.loop-i.invariant.1 a c.loop-i-test.true late (rw r at c.passed-passed.ensures.wide) c.passed-passed.result (rw (take_rest c.args.own.now c.loop-i.passed, r) at c.passed-passed.ensures.counted) (rw (take_rest c.args.own.now (c.loop-i.passed + c.passed-passed.result), c.PLACES.ensures, r) at c.joins.ensures)) (number-positive _)

pub returns-in_err-test-2 : goal.returns-in_err-test-2
returns-in_err-test-2 g c = λ a.
    let T = g.T.Element in
    let K = elements_of g.row.T.Denot T.row_of T.KEY T.PLACES g.row.CELLS T.fits (g.F.Further.number c.args.further.now) g.met.T.Element.narrow g.met.T.Element.wide in
    let r = row-is c.args.t.now c.loop-i.i c.loop-i-test.true c.index-t-i.is in
    let late = sym (rw r at (c.follows.ensures (c.loop-i.invariant.1 a).0.order)) ∙ ap not c.if-not-follows.false in
    let e : number_of c.from_residual-in_err-test-2.result ≡ number c.in_err-test-2.field-0.0 = search rules in
    e ∙ state-further K c.args.own.now c.args.t.now c.loop-i.passed c.loop-i.count c.loop-i.i c.loop-i.invariant.1 a c.loop-i-test.true (rw r at (sym c.in_range.ensures ∙ c.if-not-in_range.false)) _ (sym (ap number_of c.in_ok-new.was) ∙ state-place K c.args.own.now c.args.t.now c.loop-i.passed c.loop-i.count c.loop-i.i c.loop-i.invariant.1 a c.loop-i-test.true late (rw r at c.passed-passed.ensures.wide) c.passed-passed.result (rw (take_rest c.args.own.now c.loop-i.passed, r) at c.passed-passed.ensures.counted) (rw (take_rest c.args.own.now (c.loop-i.passed + c.passed-passed.result), c.PLACES.ensures, r) at c.joins.ensures)) refl _ (rw r at c.in_err-test-2.ensures) (number-positive _)

pub overflow_add-count : goal.overflow_add-count
overflow_add-count g c =
    let T = g.T.Element in
    let n : c.from-count.result ≡ cond c.in_ok-new.new 1 0 = c.from-count.ensures ∙ byte-bit c.in_ok-new.new in
    let count : c.loop-i.count < 18446744073709551616 = search rules in
    let room =
    joins-room T.KEY c.index-t-i.result (map T.row_of (drop (c.loop-i.passed + c.passed-passed.result) c.args.own.now)) T.PLACES c.loop-i.count 18446744073709551616 c.in_ok-new.new
    (sym (rw (take_rest c.args.own.now (c.loop-i.passed + c.passed-passed.result), c.PLACES.ensures) at c.joins.ensures) ∙ c.in_ok-new.was) count (rw c.PLACES.ensures at c.PLACES.type_inv) in
    rw n (search rules)

pub loop-i-preserved : goal.loop-i-preserved
loop-i-preserved g c = (
  (let near = rw (take_rest c.args.own.now c.loop-i.passed) at c.passed-passed.ensures.near in omega (arith, near, length-drop c.loop-i.passed c.args.own.now)),
  λ a.
      let T = g.T.Element in
      let K = elements_of g.row.T.Denot T.row_of T.KEY T.PLACES g.row.CELLS T.fits (g.F.Further.number c.args.further.now) g.met.T.Element.narrow g.met.T.Element.wide in
      let r = row-is c.args.t.now c.loop-i.i c.loop-i-test.true c.index-t-i.is in
      let late = sym (rw r at (c.follows.ensures (c.loop-i.invariant.1 a).0.order)) ∙ ap not c.if-not-follows.false in
      let n : c.from-count.result ≡ cond c.in_ok-new.new 1 0 = c.from-count.ensures ∙ byte-bit c.in_ok-new.new in
      rw n
      (state-on K c.args.own.now c.args.t.now c.loop-i.passed c.loop-i.count c.loop-i.i c.loop-i.invariant.1 a c.loop-i-test.true (rw r at (sym c.in_range.ensures ∙ c.if-not-in_range.false)) _ (sym (ap number_of c.in_ok-new.was) ∙ state-place K c.args.own.now c.args.t.now c.loop-i.passed c.loop-i.count c.loop-i.i c.loop-i.invariant.1 a c.loop-i-test.true late (rw r at c.passed-passed.ensures.wide) c.passed-passed.result (rw (take_rest c.args.own.now c.loop-i.passed, r) at c.passed-passed.ensures.counted) (rw (take_rest c.args.own.now (c.loop-i.passed + c.passed-passed.result), c.PLACES.ensures, r) at c.joins.ensures)) refl (sym (rw r at c.in_ok-test-2.ensures)) late (rw r at c.passed-passed.ensures.wide) c.passed-passed.result (rw (take_rest c.args.own.now c.loop-i.passed, r) at c.passed-passed.ensures.counted) c.in_ok-new.new (sym (rw (take_rest c.args.own.now (c.loop-i.passed + c.passed-passed.result), c.PLACES.ensures, r) at c.joins.ensures) ∙ c.in_ok-new.was)),
)

pub returns : goal.returns
returns g c = λ a.
    let T = g.T.Element in
    let K = elements_of g.row.T.Denot T.row_of T.KEY T.PLACES g.row.CELLS T.fits (g.F.Further.number c.args.further.now) g.met.T.Element.narrow g.met.T.Element.wide in
    state-end K c.args.own.now c.args.t.now c.loop-i.passed c.loop-i.count c.loop-i.i c.loop-i.invariant.1 a (omega arith)
