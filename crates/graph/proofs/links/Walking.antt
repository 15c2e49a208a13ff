-- What `any` tells that is asked of the left ends of a key's rows. Assumes nothing.
use mathlib.Core.Path.{◌≡◌, sym, subst, ◌∙◌}
use mathlib.Core.Bool.{Bool, true, false}
use mathlib.Core.List.{List, [], ◌∷◌}
use Prim.Native.Nat.{ℕ}
use Rattle.std.specs.Prelude.{Option, Some, None, MatchOption}
use Rattle.std.specs.Fn.{Called, Mut}
use Rattle.std.specs.Iterator.{Yields, YieldsThen}
use Rattle.std.specs.List.{FoldsTo}
use Rattle.lists.proofs.Lists.{clash}
use Rattle.graph.specs.declared.links.Lefts.{Lefts}
use Rattle.graph.specs.links.Links.{left_at, Walks, NoRow, SomeRow}
use Rattle.graph.proofs.links.Links.{Looking, looking-step, some-row, no_row}

abbrev steps : Lefts → Option ℕ → Lefts → Type 0
steps s r t = Walks s.rows.now s.row r t.rows.now t.row

module _ (rows : List ℕ) (k : ℕ) (P : ℕ → Type 0) {F : Type 0} (g : Mut F (ℕ × Unit {0}) Bool) (f : F)
    (yes : (x : ℕ) (q : F) → Called g f (x, tt) true q → P x) (no : (x : ℕ) (q : F) → Called g f (x, tt) false q → (q ≡ f) × (P x → ⊥)) where
  -- the walk stands where P holds of no left end that is passed
  abbrev Unmet : Lefts → Type 0
  Unmet s = (s.rows.now ≡ rows) × Looking rows k (λ i. P (left_at rows i) → ⊥) s.row

  passed : (xs : List ℕ) (s t : Lefts) (j : F) → Unmet s → Yields steps s xs t → FoldsTo (λ p x q. Called g p (x, tt) false q) f xs j → Unmet t × (j ≡ f)
  passed [] s t j w y c = (subst Unmet y w, sym c)
  passed (x ∷ xs) s t j w y c =
      let m = no x c.0 c.1 in
      let a = rw w.0 at y.1.1 in
      passed xs y.0 t j
      (y.1.0 ∙ w.0, looking-step rows k (λ i. P (left_at rows i) → ⊥) (λ i. P (left_at rows i) → ⊥) s.row _ a.0 a.2 (λ i n. n) (rw a.1.0 at m.1) w.1)
      y.2 (subst (λ z. FoldsTo (λ p x q. Called g p (x, tt) false q) z xs j) m.0 c.2)

  stopped : (r : Bool) (o : Option ℕ) (t u : Lefts) (j : F) → Unmet t → j ≡ f → steps t o u → MatchOption o (r ≡ false) (λ x. (r ≡ true) × ((h : F) × Called g j (x, tt) true h))
      → (r ≡ true → SomeRow rows k P) × (r ≡ false → NoRow rows k P)
  stopped r None t u j w q y c = ((λ e. clash e c), λ e. no_row rows k P t.row y.1 w.1)
  stopped r (Some x) t u j w q y c =
      let a = rw w.0 at y.1 in
      ((λ e. some-row rows k P t.row a.0 (subst P a.1.0 (yes x c.1.0 (subst (λ z. Called g z (x, tt) true c.1.0) q c.1.1))) w.1), λ e. clash c.0 e)

  pub any-told : (s u : Lefts) (r : Bool) → Unmet s
      → (xs : List ℕ) × (o : Option ℕ) × (j : F) × YieldsThen steps s xs o u × FoldsTo (λ p x q. Called g p (x, tt) false q) f xs j × MatchOption o (r ≡ false) (λ x. (r ≡ true) × ((h : F) × Called g j (x, tt) true h))
      → (r ≡ true → SomeRow rows k P) × (r ≡ false → NoRow rows k P)
  any-told s u r w d =
      let a = passed d.0 s d.3.0 d.2 w d.3.1 d.4 in
      stopped r d.1 d.3.0 u d.2 a.0 a.1 d.3.2 d.5
