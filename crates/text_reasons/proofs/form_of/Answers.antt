-- `form_of` meets its contract. Assumes nothing.
use mathlib.Core.Path.{refl, ap, ◌∙◌}
use mathlib.Core.List.{List, [], ◌++◌}
use Prim.Native.Nat.{ℕ, ◌≤◌}
use native.Mathlib.Omega.{arith}
use lib.ListN.{length}
use Rattle.text_forms.specs.Spelling.{bytes}
use Rattle.text_reasons.specs.ReasonLine.{must_words, never_words, ring_words, reason_form}
use Rattle.text_reasons.specs.declared.ReasonForm.{ReasonForm}
use Rattle.text_reasons.proofs.ReasonForms.{row-after, form-few}
use Rattle.text_reasons.proofs.form_of.Goals.{in-Must, in-Never}
use Rattle.text_reasons.proofs.form_of.Goals as goal

pub push_names-requires-in-Never-2-clause-form : goal.push_names-requires-in-Never-2-clause-form
unfolding never_words bytes
push_names-requires-in-Never-2-clause-form c =
    let none : length c.new.result.items ≤ 0 = rw c.new.ensures (omega arith) in
    let chain = form-few _ never_words _ c.push_names-in-Never.ensures.form 0 23 none refl c.deref-in-Never.ensures.1 in
    omega (arith, chain, c.deref-in-Never-2.ensures.1)

pub push_word-requires : goal.push_word-requires
unfolding must_words never_words ring_words bytes
push_word-requires c =
    let none : length c.new.result.items ≤ 0 = rw c.new.ensures (omega arith) in
    elim c.match-reason.branch [
      | in-Must w ↦
          let chain = form-few _ must_words _ (ap (λ (l : ReasonForm). l.form.items) w.line-is ∙ w.push_names.ensures.form) 0 22 none refl w.deref.ensures.1 in
          omega (arith, chain)
      | in-Never w ↦
          let chain = form-few _ never_words _ w.push_names-in-Never.ensures.form 0 23 none refl w.deref-in-Never.ensures.1 in
          let ring = form-few _ ring_words _ (ap (λ (l : ReasonForm). l.form.items) w.line-is ∙ w.push_names-in-Never-2.ensures.form)
          279 6 chain refl w.deref-in-Never-2.ensures.1 in
          omega (arith, ring)
    ]

pub returns-clause-form : goal.returns-clause-form
unfolding reason_form must_words never_words ring_words bytes
returns-clause-form c =
    elim c.match-reason.branch [
      | in-Must w ↦
          let chain = row-after [] must_words _ c.new.ensures (ap (λ (l : ReasonForm). l.form.items) w.line-is ∙ w.push_names.ensures.form) in
          rw (w.in-Must.is, ← w.deref.ensures.0) (c.push_word.ensures.form ∙ ap (λ (l : List ℕ). l ++ bytes "\n") chain)
      | in-Never w ↦
          let chain = row-after [] never_words _ c.new.ensures w.push_names-in-Never.ensures.form in
          let ring = row-after _ ring_words _ chain (ap (λ (l : ReasonForm). l.form.items) w.line-is ∙ w.push_names-in-Never-2.ensures.form) in
          rw (w.in-Never.is, ← w.deref-in-Never.ensures.0, ← w.deref-in-Never-2.ensures.0) (c.push_word.ensures.form ∙ ap (λ (l : List ℕ). l ++ bytes "\n") ring)
    ]
