-- `decode_sound` meets its contract. Assumes nothing.
use mathlib.Core.Path.{refl, sym, ◌∙◌}
use native.Mathlib.Omega.{arith}
use borrow.Author.Rules.{rules}
use Rattle.voting_count.specs.Count.{lent}
use Rattle.voting_count.proofs.Proposals.{bench-faultless, proposal-stored, proposal-fit, one-unsound, one-more-sound, all-sound, all-decoded}
use Rattle.voting_count.proofs.decode_sound.Goals as goal

pub loop-k-init : goal.loop-k-init
loop-k-init c = (search rules, λ h j m. absurd (omega arith))

pub returns-then-not-sound-clause-judged : goal.returns-then-not-sound-clause-judged
returns-then-not-sound-clause-judged c = λ h.
    let t = c.args.proposals.now in
    let k = c.loop-k.k in
    let i = c.loop-k-test.true in
    let q = proposal-stored (λ x. x.edits.now) (λ x. x.constraints.now) t t k _ _ refl refl c.decode-record.result c.decode-record.ensures (bench-faultless (lent t) h k i) in
    one-unsound (lent t) k i (sym (c.sound.ensures _ q (proposal-fit (lent t) h k i)) ∙ c.if-not-sound.true)

pub loop-k-preserved : goal.loop-k-preserved
loop-k-preserved c =
    let t = c.args.proposals.now in
    let k = c.loop-k.k in
    let i = c.loop-k-test.true in
    let w = c.loop-k.invariant in (
      search (rules, w.0),
      λ h.
          let q = proposal-stored (λ x. x.edits.now) (λ x. x.constraints.now) t t k _ _ refl refl c.decode-record.result c.decode-record.ensures (bench-faultless (lent t) h k i) in
          let s = sym (c.sound.ensures _ q (proposal-fit (lent t) h k i)) ∙ c.if-not-sound.false in
          one-more-sound (lent t) c.loop-k.records k (omega (arith, w.0)) (w.1 h) c.decode-record.result q s,
    )

pub returns-clause-judged : goal.returns-clause-judged
returns-clause-judged c = λ h.
    let stop = c.loop-k-test.false in
    all-sound (lent c.args.proposals.now) c.loop-k.records c.loop-k.k (omega arith) (c.loop-k.invariant.1 h)

pub returns-clause-decoded : goal.returns-clause-decoded
returns-clause-decoded c = λ h e.
    let stop = c.loop-k-test.false in
    all-decoded (lent c.args.proposals.now) c.loop-k.records c.loop-k.k (omega arith) (c.loop-k.invariant.1 h) c.loop-k.invariant.0
