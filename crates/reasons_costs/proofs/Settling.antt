-- Costs are made less level by level: what costs less than the level is settled. Assumes nothing.
use mathlib.Core.Path.{◌≡◌}
use mathlib.Core.Logic.{◌⊎◌, inl, inr, ⊎_elim}
use mathlib.Core.List.{List}
use Prim.Native.Nat.{ℕ, suc, ◌+◌, ◌≤◌, ◌<◌}
use native.Mathlib.Omega.{arith}
use lib.ListN.{get_or}
use Rattle.lists.proofs.Lists.{is-by, le-by}
use Rattle.graph.specs.links.Marks.{mark_limit}
use Rattle.reasons_costs.specs.declared.Span.{Span}
use Rattle.reasons_costs.specs.declared.TheConstants.{EVERY_EDIT, NO_EDIT}
use Rattle.reasons_costs.specs.Searches.{unreached}
use Rattle.reasons_costs.specs.Levels.{Improves, unchanged, Relaxed, Within, Covers, Covering}
use Rattle.reasons_costs.proofs.Relaxing.{improves-join}

-- no link to what costs less than the level makes a cost less
pub record SettledBelow (Link : ℕ → ℕ → Type 0) (level : ℕ) (costs after : List ℕ) : Type 0 where
  pub steps : Improves Link costs after
  pub still : (x y : ℕ) → Link x y → get_or after y 0 < level → get_or after x 0 ≤ suc (get_or after y 0)

module _ {Link : ℕ → ℕ → Type 0} {costs : List ℕ} where
  pub settled-start : SettledBelow Link 0 costs costs
  settled-start = record { steps = unchanged; still = λ x y l h. absurd (omega arith) }

  pub settled-step : {level : ℕ} {m after : List ℕ} → SettledBelow Link level costs m → Relaxed Link level m after
      → SettledBelow Link (level + 1) costs after
  settled-step {level} {m} {after} s r = record {
    steps = improves-join s.steps r.steps;
    still = λ x y l h. let same : get_or after y 0 ≡ get_or m y 0 = ⊎_elim (λ e. e) (λ e. absurd (omega (arith, e.1))) (r.each y) in
        is-by (get_or m y 0) level
        (λ e. omega (arith, r.done x y l e))
        (λ n. let k : get_or m x 0 ≤ suc (get_or m y 0) = s.still x y l (omega (arith, n)) in
        ⊎_elim (λ e. omega (arith, k, e)) (λ e. omega (arith, k, e.0, e.1)) (r.each x));
  }

  -- where no cost lies from the level up to the top, all that lie below the top are settled
  pub settled-early : {level top : ℕ} {after : List ℕ} → ((x y : ℕ) → Link x y → get_or after y 0 < top → get_or after y 0 < level)
      → SettledBelow Link level costs after → SettledBelow Link top costs after
  settled-early f s = record { steps = s.steps; still = λ x y l h. s.still x y l (f x y l h) }

-- All that cost the level or more and are reached lie in the span; those above the level are goals, of at most the highest cost.
pub record Spanned (Link : ℕ → ℕ → Type 0) (level highest : ℕ) (goals costs : List ℕ) (span : Span) : Type 0 where
  pub settled : SettledBelow Link level goals costs
  pub covers : Covers level costs span
  pub reached : (x : ℕ) → get_or costs x 0 < unreached → (get_or costs x 0 ≤ level) ⊎ (get_or costs x 0 ≤ highest)

module _ {Link : ℕ → ℕ → Type 0} {highest : ℕ} {goals : List ℕ} where
  pub spanned-start : ((x : ℕ) → get_or goals x 0 < unreached → get_or goals x 0 ≤ highest) → Spanned Link 0 highest goals goals EVERY_EDIT
  spanned-start f = record { settled = settled-start; covers = λ x h k l. (omega arith, h); reached = λ x h. inr (f x h) }

  pub spanned-step : {level : ℕ} {m after : List ℕ} {span next new : Span} → Spanned Link level highest goals m span
      → (Covers level m span → Relaxed Link level m after) → Covering m NO_EDIT after next
      → (new ≡ EVERY_EDIT) ⊎ ((highest ≤ level) × (new ≡ next)) → Spanned Link (level + 1) highest goals after new
  spanned-step {level} {m} {after} {span} {next} s f covering n =
      let r = f s.covers in
      let none : highest ≤ level → Covers (level + 1) m NO_EDIT = λ d x h k l.
      absurd (⊎_elim (λ e. omega (arith, k, e)) (λ e. omega (arith, k, e, d)) (s.reached x l)) in
      record {
        settled = settled-step s.settled r;
        covers = ⊎_elim (λ e. rw e (λ x h k l. (omega arith, h))) (λ e. rw e.1 (covering (level + 1) (none e.0))) n;
        reached = λ x h.
            ⊎_elim
            (λ e. ⊎_elim (λ k. inl (omega (arith, e, k))) (λ k. inr (omega (arith, e, k))) (s.reached x (omega (arith, e, h))))
            (λ e. inl (omega (arith, e.1))) (r.each x);
      }

  -- where the span is empty, no cost lies from the level up to what is unreached
  pub spanned-end : {level : ℕ} {costs : List ℕ} {span : Span} → ((x : ℕ) → Within span x → ⊥) → Spanned Link level highest goals costs span
      → (x : ℕ) → x < mark_limit → get_or costs x 0 < unreached → get_or costs x 0 < level
  spanned-end {level} {costs} f s x h k = le-by level (get_or costs x 0) (λ l. absurd (f x (s.covers x h l k))) (λ l. l)
