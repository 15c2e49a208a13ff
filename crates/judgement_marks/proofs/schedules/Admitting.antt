-- One edit of the bench schedule, and the loop over all, by marks. Assumes nothing.
use mathlib.Core.Path.{◌≡◌, refl, sym, ◌∙◌}
use mathlib.Core.Bool.{Bool, true, false, not, ◌&&◌, ◌||◌, or-true, and-false}
use mathlib.Core.List.{List, [], ◌∷◌}
use Prim.Native.Nat.{ℕ, ◌+◌, ◌≤◌, ◌<◌}
use native.Mathlib.Omega.{arith}
use native.Mathlib.Numerals.{add-one}
use lib.Dec.{eqb}
use lib.ListN.{length, get_or, drop, drop_of_length-le}
use lib.Seq.{drop-cons}
use borrow.Author.Tests.{eq-eqb, ne_eqb}
use Rattle.std.specs.Bool.{MatchBool}
use Rattle.std.specs.List.{range_with_len, AllWithin, HoldsAt}
use Rattle.std.proofs.lemmas.List.FromFn.{length-range_with_len, get_or-range_with_len}
use Rattle.lists.specs.Lists.{any, mem, index_of, ◌among◌, ◌within◌}
use Rattle.record.specs.Record.{Record, names, written, enables, WellFormed}
use Rattle.record.specs.Schedule.{needs, musts, order, ring, bars, barred, admit, admits, scheduled, schedule}
use Rattle.record.specs.Judgement.{must}
use Rattle.lists.proofs.Lists.{by, clash, is-by, and_l, and_r, and_i, or-by, or_l, or_r, or-no-r, same_by, mem-head, mem-tail, nil-no, cons-by, cons-within, one-within, any-among-by, any-in, no-any, any-among-no, mem_index, closure-least}
use Rattle.record.proofs.Order.{needs-holds, needs-closed, needs-known, needs-within, ring-grows}
use Rattle.record.proofs.Records.{written-names}
use Rattle.record.proofs.Judged.{init-must}
use Rattle.record.proofs.Scheduled.{musts-known, admit-within}
use Rattle.graph.specs.links.Marks.{name_at, marks_of}
use Rattle.graph.specs.links.Reach.{On, Off}
use Rattle.graph.proofs.links.Names.{get_or-among, get_or-place}
use Rattle.graph.proofs.links.Marks.{marks-same}
use Rattle.judgement_marks.proofs.Standing.{need-needs, part-ring, musts-closed, must-musts, marked-is}
use Rattle.judgement_marks.specs.schedules.Rows.{Hides, Clear, Missed}

-- barred, by marks
module _ (R : Record) (hiddens t marks hidden mustmarks : List ℕ) (x : ℕ) (l : x < length (names R)) (e : marks ≡ marks_of R (λ y. mem y t))
    (m : mustmarks ≡ marks_of R (must R)) (h : Hides R hidden hiddens) where
  pub bar-unmarked : Off marks x → false ≡ (mem (name_at R x) t && bars R hiddens (name_at R x))
  bar-unmarked f = rw (sym (marked-is R (λ y. mem y t) marks x e l) ∙ ne_eqb (get_or marks x 0) 1 f)

  pub bar-shown : Off hidden x → false ≡ (mem (name_at R x) t && bars R hiddens (name_at R x))
  unfolding bars
  bar-shown f = rw (sym (h x l) ∙ ne_eqb (get_or hidden x 0) 1 f) (sym (and-false (mem (name_at R x) t)))

  pub bar-must : On marks x → On hidden x → not (eqb (get_or mustmarks x 0) 1) ≡ (mem (name_at R x) t && bars R hiddens (name_at R x))
  unfolding bars must
  bar-must o u =
      rw (sym (marked-is R (λ y. mem y t) marks x e l) ∙ eq-eqb (get_or marks x 0) 1 o, sym (h x l) ∙ eq-eqb (get_or hidden x 0) 1 u, marked-is R (must R) mustmarks x m l)

-- what `is_barred` says of an edit
abbrev pub TellsBarred : List ℕ → List ℕ → List ℕ → ℕ → Bool → Type 0
TellsBarred marks hidden mustmarks x b =
    (R : Record) (hiddens t : List ℕ) → x < length (names R) → marks ≡ marks_of R (λ y. mem y t) → mustmarks ≡ marks_of R (must R) → Hides R hidden hiddens → b ≡ (mem (name_at R x) t && bars R hiddens (name_at R x))

module _ (R : Record) (hiddens t : List ℕ) (n : ℕ) (q : n ≡ length (names R)) where
  any-bars : (x : ℕ) → x < n → true ≡ (mem (name_at R x) t && bars R hiddens (name_at R x)) → true ≡ any (bars R hiddens) t
  any-bars x l e = sym (any-in (bars R hiddens) t (name_at R x) (and_l _ _ (sym e)) (and_r (mem (name_at R x) t) _ (sym e)))

  none-bars : t within names R → ((x : ℕ) → x < n → (mem (name_at R x) t && bars R hiddens (name_at R x)) ≡ false) → false ≡ any (bars R hiddens) t
  none-bars sub f =
      sym (no-any (bars R hiddens) t
      (λ y i. let z = f (index_of y (names R)) (omega (arith, mem_index y (names R) (sub y i))) in rw i at (rw (get_or-place y (names R) (sub y i)) at z)))

  -- what a walk over all indexes tells
  pub bars-told : t within names R → (r : Bool)
      → MatchBool r ((k : ℕ) × (k < length (range_with_len 0 n)) × HoldsAt (λ x. x < n → true ≡ (mem (name_at R x) t && bars R hiddens (name_at R x))) (range_with_len 0 n) k)
      (AllWithin (λ x. x < n → (mem (name_at R x) t && bars R hiddens (name_at R x)) ≡ false) (range_with_len 0 n) 0 (length (range_with_len 0 n)))
      → r ≡ any (bars R hiddens) t
  bars-told sub true w =
      let l : w.0 < n = omega (arith, w.1, length-range_with_len 0 n) in
      let i : get_or (range_with_len 0 n) w.0 0 ≡ w.0 = omega (arith, get_or-range_with_len 0 n w.0 0 l) in
      any-bars w.0 l (rw i at (w.2 0) l)
  bars-told sub false w =
      none-bars sub (λ x l.
      let i : get_or (range_with_len 0 n) x 0 ≡ x = omega (arith, get_or-range_with_len 0 n x 0 l) in
      rw i at (w x 0 (omega arith) (omega (arith, length-range_with_len 0 n))) l)

-- one step of the schedule
module _ (R : Record) (w : WellFormed R) (hiddens t : List ℕ) (g : Clear R hiddens t) (x : ℕ) where
  -- what is needed of x and the set is in the set or needed of x alone
  needs-split : (y : ℕ) → y among needs R (x ∷ t) → (mem y t || mem y (needs R (0 ∷ x ∷ []))) ≡ true
  unfolding needs
  needs-split =
      closure-least (enables R) (names R) (x ∷ t) (λ z. (mem z t || mem z (needs R (0 ∷ x ∷ []))) ≡ true)
      (λ a b e h. or-by (mem b t) _ h (λ i. rw (g.closed a b e i)) (λ i. rw (needs-closed R w (0 ∷ x ∷ []) a b e i) (or-true (mem a t))))
      (λ z i. cons-by z x t i
      (λ e. rw (e, needs-holds R (0 ∷ x ∷ []) x (mem-tail x 0 (x ∷ []) (mem-head x []))) (or-true (mem x t)))
      (λ e. rw e))

  needs-part : needs R (0 ∷ x ∷ []) within needs R (x ∷ t)
  needs-part =
      needs-within R w (0 ∷ x ∷ []) (x ∷ t)
      (cons-within 0 (x ∷ []) _ (needs-holds R (x ∷ t) 0 (mem-tail 0 x t g.init-in)) (one-within x _ (needs-holds R (x ∷ t) x (mem-head x t))))

  -- nothing of the set is barred, so that of both together just the needs of x can be
  bars-barred : any (bars R hiddens) (needs R (x ∷ t)) ≡ barred R hiddens x
  unfolding barred
  bars-barred =
      same_by _ _
      (λ h. any-among-by (bars R hiddens) (needs R (x ∷ t)) h
      (λ y i e. or-by (mem y t) _ (needs-split y i) (λ j. clash e (g.clear y j)) (λ j. any-in (bars R hiddens) (needs R (0 ∷ x ∷ [])) y j e)))
      (λ h. any-among-by (bars R hiddens) (needs R (0 ∷ x ∷ [])) h (λ y i e. any-in (bars R hiddens) (needs R (x ∷ t)) y (needs-part y i) e))

  -- where x enters alone, just x can be
  pub bars-alone : needs R (x ∷ t) within x ∷ t → (mem x (needs R (x ∷ t)) && bars R hiddens x) ≡ any (bars R hiddens) (needs R (x ∷ t))
  bars-alone only =
      same_by _ _
      (λ h. any-in (bars R hiddens) (needs R (x ∷ t)) x (needs-holds R (x ∷ t) x (mem-head x t)) (and_r (mem x (needs R (x ∷ t))) _ h))
      (λ h. any-among-by (bars R hiddens) (needs R (x ∷ t)) h
      (λ y i e. cons-by y x t (only y i) (λ q. and_i _ _ (rw q at i) (rw q at e)) (λ j. clash e (g.clear y j))))

  pub admit-had : x among t → admit R hiddens t x ≡ t
  unfolding admit
  admit-had h = rw h

  pub admit-barred : any (bars R hiddens) (needs R (x ∷ t)) ≡ true → admit R hiddens t x ≡ t
  unfolding admit
  admit-barred h = rw (sym bars-barred ∙ h, or-true (mem x t))

  pub admit-ring : ring R (needs R (x ∷ t)) ≡ true → admit R hiddens t x ≡ t
  unfolding admit
  admit-ring h = rw (h, or-true (mem x t || barred R hiddens x))

  pub admit-new : mem x t ≡ false → any (bars R hiddens) (needs R (x ∷ t)) ≡ false → ring R (needs R (x ∷ t)) ≡ false → admit R hiddens t x ≡ needs R (x ∷ t)
  unfolding admit
  admit-new a b c = rw (a, sym bars-barred ∙ b, c)

  clear-new : x among names R → any (bars R hiddens) (needs R (x ∷ t)) ≡ false → Clear R hiddens (needs R (x ∷ t))
  clear-new i b = record {
    closed = needs-closed R w (x ∷ t);
    init-in = needs-holds R (x ∷ t) 0 (mem-tail 0 x t g.init-in);
    known = needs-known R w (x ∷ t) (cons-within x t (names R) i g.known);
    clear = any-among-no (bars R hiddens) (needs R (x ∷ t)) b;
  }

  pub clear-admit : x among names R → Clear R hiddens (admit R hiddens t x)
  clear-admit i =
      by (mem x t) (λ h. rw (admit-had h) g)
      (λ h. by (any (bars R hiddens) (needs R (x ∷ t))) (λ b. rw (admit-barred b) g)
      (λ b. by (ring R (needs R (x ∷ t))) (λ r. rw (admit-ring r) g) (λ r. rw (admit-new h b r) (clear-new i b))))

  -- what does not enter is barred or closes a ring
  admit-missed : mem x (admit R hiddens t x) ≡ false → (barred R hiddens x || ring R (needs R (x ∷ admit R hiddens t x))) ≡ true
  unfolding admit
  admit-missed m =
      by (mem x t || barred R hiddens x || ring R (needs R (x ∷ t)))
      (λ e. let n : mem x t ≡ false = rw e at m in rw e (rw n at e))
      (λ e. clash (needs-holds R (x ∷ t) x (mem-head x t)) (rw e at m))

  -- what leaves out a need of x leaves out x
  pub admit-need : (a : ℕ) → x among names R → a among names R → a among needs R (0 ∷ x ∷ []) → (barred R hiddens a || ring R (needs R (a ∷ t))) ≡ true → admit R hiddens t x ≡ t
  unfolding admit barred
  admit-need a i j k h =
      or-by (barred R hiddens a) _ h
      (λ b. let z : barred R hiddens x ≡ true = any-among-by _ (needs R (0 ∷ a ∷ [])) b (λ y q e. any-in _ (needs R (0 ∷ x ∷ [])) y (need-needs w a x k y q) e) in
      rw (z, or-true (mem x t)))
      (λ r. admit-ring (ring-grows R R (needs R (a ∷ t)) (needs R (x ∷ t)) (λ b c e. e) (needs-known R w (a ∷ t) (cons-within a t (names R) j g.known))
      (needs-within R w (a ∷ t) (x ∷ t) (cons-within a t _ (needs-part a k) (λ y q. needs-holds R (x ∷ t) y (mem-tail y x t q)))) r))

  -- where nothing of its needs is barred or in a ring, x enters
  pub admit-takes : any (bars R hiddens) (needs R (x ∷ t)) ≡ false → ring R (needs R (x ∷ t)) ≡ false → (x ∷ t) within admit R hiddens t x
  admit-takes b r =
      by (mem x t) (λ h. rw (admit-had h) (cons-within x t t h (λ y i. i))) (λ h. rw (admit-new h b r) (needs-holds R (x ∷ t)))

  -- what enters closes no ring
  pub calm-admit : ring R t ≡ false → ring R (admit R hiddens t x) ≡ false
  unfolding admit
  calm-admit h = by (mem x t || barred R hiddens x || ring R (needs R (x ∷ t))) (λ e. rw e h) (λ e. rw e (or-no-r (mem x t || barred R hiddens x) _ e))

pub clear-musts : (R : Record) → WellFormed R → (hiddens : List ℕ) → Clear R hiddens (musts R)
unfolding bars
clear-musts R w hiddens = record {
  closed = musts-closed w;
  init-in = init-must R;
  known = musts-known R w;
  clear = λ y i. rw i (and-false (mem y hiddens));
}

-- a part of what holds nothing that is barred holds nothing that is
pub part-bars : (R : Record) (hiddens t : List ℕ) → any (bars R hiddens) (names R) ≡ false → t within names R → any (bars R hiddens) t ≡ false
part-bars R hiddens t h k = no-any (bars R hiddens) t (λ y i. any-among-no (bars R hiddens) (names R) h y (k y i))

pub needs-cons : (R : Record) → WellFormed R → (t : List ℕ) (x : ℕ) → x among names R → t within names R → needs R (x ∷ t) within names R
needs-cons R w t x i k = needs-known R w (x ∷ t) (cons-within x t (names R) i k)

-- what is left out stays so
missed-step : (R : Record) → WellFormed R → (hiddens t : List ℕ) → Clear R hiddens t → (x : ℕ) → x < length (names R) → Missed R hiddens t x
    → Missed R hiddens (admit R hiddens t (name_at R x)) (x + 1)
missed-step R w hiddens t g x l f y h m =
    let v = admit-within R hiddens t (name_at R x) in
    is-by y x (λ q. rw q (admit-missed R w hiddens t g (name_at R x) (rw q at m)))
    (λ q. let i = get_or-among (names R) y (omega arith) in
    let n : mem (name_at R y) t ≡ false = by (mem (name_at R y) t) (λ p. clash (v (name_at R y) p) m) (λ p. p) in
    or-by (barred R hiddens (name_at R y)) _ (f y (omega (arith, q)) n) (λ b. or_l _ _ b)
    (λ r. or_r (barred R hiddens (name_at R y)) _ (ring-grows R R (needs R (name_at R y ∷ t)) _ (λ a b e. e) (needs-cons R w t (name_at R y) i g.known)
    (needs-within R w (name_at R y ∷ t) _ (cons-within (name_at R y) t _ (needs-holds R _ (name_at R y) (mem-head (name_at R y) _)) (λ z p. needs-holds R _ z (mem-tail z (name_at R y) _ (v z p))))) r)))

missed-start : (R : Record) (hiddens : List ℕ) → Missed R hiddens (musts R) 1
unfolding names
missed-start R hiddens y h m = clash (init-must R) (let q : y ≡ 0 = omega arith in rw q at m)

-- what the loop over all edits keeps
pub record Admitting (R : Record) (hiddens marks : List ℕ) (x : ℕ) : Type 0 where
  pub set : List ℕ
  pub clear : Clear R hiddens set
  pub calm : ring R set ≡ false
  pub missed : Missed R hiddens set x
  pub marked : marks ≡ marks_of R (λ y. mem y set)
  pub rest : scheduled R hiddens ≡ admits R hiddens set (drop x (names R))

pub admitting-start : (R : Record) → WellFormed R → (hiddens marks : List ℕ) → ring R (musts R) ≡ false → marks ≡ marks_of R (must R) → Admitting R hiddens marks 1
unfolding scheduled names
admitting-start R w hiddens marks r e = record { set = musts R; clear = clear-musts R w hiddens; calm = r; missed = missed-start R hiddens; marked = e ∙ must-musts R; rest = refl }

pub admitting-step : (R : Record) → WellFormed R → (hiddens marks more : List ℕ) (x : ℕ) → x < length (names R)
    → ((t : List ℕ) → Clear R hiddens t → ring R t ≡ false → Missed R hiddens t x → marks ≡ marks_of R (λ y. mem y t) → more ≡ marks_of R (λ y. mem y (admit R hiddens t (name_at R x))))
    → Admitting R hiddens marks x → Admitting R hiddens more (x + 1)
unfolding admits
admitting-step R w hiddens marks more x l f g = record {
  set = admit R hiddens g.set (name_at R x);
  clear = clear-admit R w hiddens g.set g.clear (name_at R x) (get_or-among (names R) x l);
  calm = calm-admit R w hiddens g.set g.clear (name_at R x) g.calm;
  missed = missed-step R w hiddens g.set g.clear x l g.missed;
  marked = f g.set g.clear g.calm g.missed g.marked;
  rest = g.rest ∙ rw (drop-cons (names R) x 0 l, add-one x);
}

pub admitting-end : (R : Record) (hiddens marks : List ℕ) (x : ℕ) → length (names R) ≤ x → Admitting R hiddens marks x → marks ≡ marks_of R (λ y. mem y (scheduled R hiddens))
unfolding admits
admitting-end R hiddens marks x l g = rw (g.rest, drop_of_length-le (names R) l) g.marked

pub schedule-order : (R : Record) (hiddens : List ℕ) → order R (scheduled R hiddens) ≡ schedule R hiddens
unfolding schedule
schedule-order R hiddens = refl

admits-clear : (R : Record) → WellFormed R → (hiddens t l : List ℕ) → l within names R → Clear R hiddens t → Clear R hiddens (admits R hiddens t l)
unfolding admits
admits-clear R w hiddens t [] k g = g
admits-clear R w hiddens t (x ∷ l) k g =
    admits-clear R w hiddens (admit R hiddens t x) l (λ y i. k y (mem-tail y x l i)) (clear-admit R w hiddens t g x (k x (mem-head x l)))

-- the set of the schedule is known, sound record or not
pub scheduled-known : (R : Record) → WellFormed R → (hiddens : List ℕ) → scheduled R hiddens within names R
unfolding scheduled
scheduled-known R w hiddens = (admits-clear R w hiddens (musts R) (written R) (written-names R) (clear-musts R w hiddens)).known

-- where no edit is barred and all together hold no ring, each enters
admits-all : (R : Record) → WellFormed R → (hiddens t l : List ℕ) → any (bars R hiddens) (names R) ≡ false → ring R (names R) ≡ false → l within names R
    → Clear R hiddens t → (x : ℕ) → (mem x t || mem x l) ≡ true → x among admits R hiddens t l
unfolding admits
admits-all R w hiddens t [] b r k g x i = or-by (mem x t) _ i (λ j. j) (λ j. nil-no x j)
admits-all R w hiddens t (y ∷ l) b r k g x i =
    let u = needs-cons R w t y (k y (mem-head y l)) g.known in
    let v = admit-takes R w hiddens t g y (part-bars R hiddens _ b u) (part-ring R _ r u) in
    admits-all R w hiddens (admit R hiddens t y) l b r (λ z j. k z (mem-tail z y l j)) (clear-admit R w hiddens t g y (k y (mem-head y l))) x
    (or-by (mem x t) _ i (λ j. or_l _ _ (v x (mem-tail x y t j)))
    (λ j. cons-by x y l j (λ e. or_l _ _ (v x (rw e (mem-head y t)))) (λ q. or_r (mem x (admit R hiddens t y)) _ q)))

pub all-scheduled : (R : Record) → WellFormed R → (hiddens : List ℕ) → length (names R) ≤ 128 → any (bars R hiddens) (names R) ≡ false → ring R (names R) ≡ false
    → marks_of R (λ y. mem y (names R)) ≡ marks_of R (λ y. mem y (scheduled R hiddens))
unfolding scheduled names
all-scheduled R w hiddens few b r =
    marks-same R _ _ few
    (λ x i. i ∙ sym (admits-all R w hiddens (musts R) (written R) b r (written-names R) (clear-musts R w hiddens) x
    (cons-by x 0 (written R) i (λ e. or_l (mem x (musts R)) (mem x (written R)) (rw e (init-must R))) (λ j. or_r (mem x (musts R)) (mem x (written R)) j))))

-- where a set holds a ring nothing enters
admits-ring : (R : Record) → WellFormed R → (hiddens t l : List ℕ) → Clear R hiddens t → ring R t ≡ true → admits R hiddens t l ≡ t
unfolding admits
admits-ring R w hiddens t [] g r = refl
admits-ring R w hiddens t (x ∷ l) g r =
    rw (admit-ring R w hiddens t g x (ring-grows R R t (needs R (x ∷ t)) (λ a b e. e) g.known (λ y i. needs-holds R (x ∷ t) y (mem-tail y x t i)) r))
    (admits-ring R w hiddens t l g r)

pub none-scheduled : (R : Record) → WellFormed R → (hiddens : List ℕ) → ring R (musts R) ≡ true → marks_of R (must R) ≡ marks_of R (λ y. mem y (scheduled R hiddens))
unfolding scheduled
none-scheduled R w hiddens r = must-musts R ∙ rw (admits-ring R w hiddens (musts R) (written R) (clear-musts R w hiddens) r)
