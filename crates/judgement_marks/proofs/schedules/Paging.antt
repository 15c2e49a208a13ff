-- The page of each edit from its row: what the loop from the end keeps. Assumes nothing.
use mathlib.Core.Path.{◌≡◌, refl, sym, ap, ◌∙◌}
use mathlib.Core.Logic.{◌≢◌}
use mathlib.Core.Bool.{true, cond}
use mathlib.Core.List.{List, [], ◌∷◌}
use Prim.Native.Nat.{ℕ, suc, ◌+◌, ◌-◌, ◌≤◌, ◌<◌}
use native.Mathlib.Omega.{arith}
use native.Mathlib.Numerals.{add-one}
use lib.ListN.{length, get_or, take, drop, set, replicate, drop_of_length-le, length-map}
use lib.Seq.{get_or-set_same, get_or-set_other, drop-cons, get_or-take, length-take-le}
use borrow.Author.Tests.{eq-eqb, ne_eqb}
use Rattle.lists.specs.Lists.{mem, index_of, distinct}
use Rattle.record.specs.Record.{Record, names}
use Rattle.lists.proofs.Lists.{is-by, get_or-mapped}
use Rattle.graph.specs.links.Marks.{name_at, values_of, place_in}
use Rattle.graph.proofs.links.Names.{place_same}
use Rattle.graph.proofs.links.Marks.{values-are}
use Rattle.judgement_marks.specs.declared.row.Row.{Row}
use Rattle.judgement_marks.specs.schedules.Rows.{RowIs}
use Rattle.lists.proofs.Arrays.{get_or-zeros}

-- the page of x among the rows from k on
unfoldable pub page_from : List ℕ → ℕ → ℕ → ℕ
page_from list k x = cond (mem x (drop k list)) (k + index_of x (drop k list)) 0

pub record Paging (R : Record) (list pages : List ℕ) (k : ℕ) : Type 0 where
  pub done : (y : ℕ) → y < length (names R) → get_or pages y 0 ≡ page_from list k (name_at R y)
  pub past : (y : ℕ) → length (names R) ≤ y → get_or pages y 0 ≡ 0

module _ (R : Record) (d : distinct (names R) ≡ true) (few : length (names R) ≤ 128) (row : Row) (list : List ℕ) (low : row.count ≤ length row.indexes) (g : RowIs R row list) where
  pub list_length : length list ≡ row.count
  list_length = sym (ap length g.names-are) ∙ length-map (take row.count row.indexes) (name_at R) ∙ length-take-le row.count row.indexes low

  pub list_at : (q : ℕ) → q < row.count → get_or list q 0 ≡ name_at R (get_or row.indexes q 0)
  list_at q h =
      sym (ap (λ l. get_or l q 0) g.names-are) ∙ get_or-mapped (name_at R) (take row.count row.indexes) q 0 0 (omega (arith, length-take-le row.count row.indexes low))
      ∙ ap (name_at R) (get_or-take row.count row.indexes q 0 h)

  pub paging-start : Paging R list (replicate 128 0) row.count
  unfolding page_from mem
  paging-start =
      let l : length list ≤ row.count = omega (arith, list_length) in
      let e : drop row.count list ≡ [] = drop_of_length-le list l in
      record { done = λ y h. rw e (get_or-zeros 128 y); past = λ y h. get_or-zeros 128 y }

  pub paging-step : (pages : List ℕ) (k : ℕ) → length pages ≡ 128 → k < row.count → Paging R list pages (k + 1) → Paging R list (set pages (get_or row.indexes k 0) k) k
  unfolding page_from mem index_of
  paging-step pages k size h w =
      let i = get_or row.indexes k 0 in
      let l : get_or row.indexes k 0 < length (names R) = g.known k h in
      let u : get_or row.indexes k 0 < length pages = omega arith in
      let e : drop k list ≡ name_at R (get_or row.indexes k 0) ∷ drop (k + 1) list =
      drop-cons list k 0 (omega (arith, list_length)) ∙ ap (λ x. x ∷ drop (suc k) list) (list_at k h) ∙ ap (λ m. name_at R i ∷ drop m list) (sym (add-one k)) in record {
        done = λ y m. is-by y i
            (λ q. rw (q, get_or-set_same pages i k 0 u, e, eq-eqb (name_at R i) (name_at R i) refl) (omega arith))
            (λ q. rw (get_or-set_other pages i y k 0 q, e, ne_eqb (name_at R y) (name_at R i) (λ z. q (place_same (names R) y i d m l z)), w.done y m)
            (ap (λ v. cond (mem (name_at R y) (drop (k + 1) list)) v 0) (shift k (index_of (name_at R y) (drop (k + 1) list)))));
        past = λ y m. let n : y ≢ i = λ q. omega arith in rw (get_or-set_other pages i y k 0 n) (w.past y m);
      }
    where
      shift : (k v : ℕ) → k + 1 + v ≡ k + suc v
      shift k v = omega arith

  pub paging-end : (pages : List ℕ) → length pages ≡ 128 → Paging R list pages 0 → pages ≡ values_of R (place_in list)
  unfolding page_from place_in
  paging-end pages size w =
      values-are R (place_in list) pages few size (λ y h. w.done y h ∙ ap (λ v. cond (mem (name_at R y) list) v 0) (plain (index_of (name_at R y) list))) w.past
    where
      plain : (v : ℕ) → 0 + v ≡ v
      plain v = omega arith

pub one-back : (k : ℕ) → 0 < k → k - 1 + 1 ≡ k
one-back k h = omega arith

pub zero_left : (k : ℕ) → k ≤ 0 → k ≡ 0
zero_left k h = omega arith
