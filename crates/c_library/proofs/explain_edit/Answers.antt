-- `explain_edit` meets its contract. Assumes nothing.
use mathlib.Core.Path.{◌∙◌}
use Rattle.std.specs.Prelude.{Ok, Err}
use Rattle.std.proofs.lemmas.Result.{err_from_is_err_and}
use Rattle.graph.proofs.indexes.Fit.{checked-fit}
use Rattle.c_library.proofs.Explaining.{why-unread, text-record, why-unnamed, place-below, why-told}
use Rattle.c_library.proofs.explain_edit.Goals as goal

pub returns-in_err-content : goal.returns-in_err-content
returns-in_err-content c =
    let p = err_from_is_err_and c.from_residual.result c.from_residual.ensures.1 in
    rw (p.1, p.2) (why-unread _ _ _ _ c.in_err-content.ensures.reads)

pub returns-in_err-known : goal.returns-in_err-known
returns-in_err-known c =
    let p = err_from_is_err_and c.from_residual-in_err-known.result c.from_residual-in_err-known.ensures.1 in
    let d = text-record c.in_ok-content.ensures.reads in
    rw (p.1, p.2) (why-unnamed d _ _ _ (c.in_err-known.ensures.fault _ d.is d.checked))

pub reason_known-given-requires : goal.reason_known-given-requires
reason_known-given-requires c = let d = text-record c.in_ok-content.ensures.reads in place-below d _ c.args.out.now (c.in_ok-known.ensures.known.1 _ d.is d.checked)

pub returns-in_err-size : goal.returns-in_err-size
returns-in_err-size c =
    let p = err_from_is_err_and c.from_residual-in_err-size.result c.from_residual-in_err-size.ensures.1 in
    let d = text-record c.in_ok-content.ensures.reads in
    let n = c.in_ok-known.ensures in
    let k = n.known.1 _ d.is d.checked in
    let g = c.reason_known-given.ensures _ _ (n.known.0 ∙ d.is) (checked-fit _ d.checked) d.sound-now k in
    rw (p.1, p.2) (why-told d _ _ (n.fault _ d.is d.checked) g (Err c.in_err-size.field-0.0) c.in_err-size.ensures.answer c.in_err-size.ensures.bytes)

pub returns : goal.returns
returns c =
    let d = text-record c.in_ok-content.ensures.reads in
    let n = c.in_ok-known.ensures in
    let k = n.known.1 _ d.is d.checked in
    let g = c.reason_known-given.ensures _ _ (n.known.0 ∙ d.is) (checked-fit _ d.checked) d.sound-now k in
    why-told d _ _ (n.fault _ d.is d.checked) g (Ok c.in_ok-size.size) c.in_ok-size.ensures.answer c.in_ok-size.ensures.bytes
