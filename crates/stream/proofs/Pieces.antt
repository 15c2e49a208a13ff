-- Wherever the input is cut, the lines are those of the whole input, each up to the bytes that are kept of it. Assumes nothing.
use Prim.Native.Nat.{ℕ, zero, suc, ◌+◌, ◌≤◌}
use mathlib.Core.Path.{◌≡◌, refl, ap, sym, ◌∙◌}
use mathlib.Core.Bool.{true, false, cond}
use mathlib.Core.Logic.{◌≢◌}
use mathlib.Core.List.{List, [], ◌∷◌, ◌++◌, map, map-append, append_assoc, append-nil}
use native.Mathlib.Omega.{arith}
use borrow.Author.Tests.{eqb-true, eqb-false, ne_eqb}
use lib.Dec.{eqb}
use lib.ListN.{length, take, drop, take-append-drop, length-map}
use lib.Seq.{take-append-le, drop-append-le, take-append-add, drop-append-add, length-take-le, take-take}
use Rattle.lists.proofs.Lists.{by}
use Rattle.text_lines.specs.Line.{line_limit}
use Rattle.text_lines.specs.Lines.{joined, lines}
use Rattle.stream.specs.Pieces.{last_end, ended, unended, kept_bytes, waiting, Stream, no_input, fed_piece, fed_pieces, stream_lines, input_of}

-- the last end of one input after another
pub last-append : (s t : List ℕ) → last_end (s ++ t) ≡ cond (eqb (last_end t) 0) (last_end s) (length s + last_end t)
unfolding last_end
last-append [] t =
    by (eqb (last_end t) 0)
    (λ (e : eqb (last_end t) 0 ≡ true). rw e (eqb-true (last_end t) 0 e))
    (λ (e : eqb (last_end t) 0 ≡ false). rw e (omega arith))
last-append (c ∷ s) t =
    by (eqb (last_end t) 0)
    (λ (e : eqb (last_end t) 0 ≡ true). let q : last_end (s ++ t) ≡ last_end s = rw e at (last-append s t) in rw (e, q))
    (λ (e : eqb (last_end t) 0 ≡ false).
    let q : last_end (s ++ t) ≡ length s + last_end t = rw e at (last-append s t) in
    let n : length s + last_end t ≢ 0 = λ z. eqb-false (last_end t) 0 e (omega arith) in
    rw (e, q, ne_eqb (length s + last_end t) 0 n) (omega arith))

pub last_within : (s : List ℕ) → last_end s ≤ length s
unfolding last_end
last_within [] = omega arith
last_within (c ∷ s) =
    by (eqb (last_end s) 0)
    (λ (e : eqb (last_end s) 0 ≡ true). rw e (by (eqb c 10) (λ (f : eqb c 10 ≡ true). rw f (omega arith)) (λ (f : eqb c 10 ≡ false). rw f (omega arith))))
    (λ (e : eqb (last_end s) 0 ≡ false). rw e (omega (arith, last_within s)))

-- the whole lines end with their last end, and what follows them has none
ended-whole : (s : List ℕ) → last_end (ended s) ≡ last_end s
unfolding last_end ended
ended-whole [] = refl
ended-whole (c ∷ s) =
    by (eqb (last_end s) 0)
    (λ (e : eqb (last_end s) 0 ≡ true). rw e (by (eqb c 10) (λ (f : eqb c 10 ≡ true). rw f (rw f)) (λ (f : eqb c 10 ≡ false). rw f)))
    (λ (e : eqb (last_end s) 0 ≡ false). rw e (rw (ended-whole s, e)))

unended-none : (s : List ℕ) → last_end (unended s) ≡ 0
unfolding last_end unended
unended-none [] = refl
unended-none (c ∷ s) =
    by (eqb (last_end s) 0)
    (λ (e : eqb (last_end s) 0 ≡ true).
    rw e
    (by (eqb c 10)
    (λ (f : eqb c 10 ≡ true). rw f (eqb-true (last_end s) 0 e))
    (λ (f : eqb c 10 ≡ false). rw f (rw (e, f)))))
    (λ (e : eqb (last_end s) 0 ≡ false). rw e (unended-none s))

pub both-parts : (s : List ℕ) → ended s ++ unended s ≡ s
unfolding ended unended
both-parts s = take-append-drop (last_end s) s

cut-none : (k : ℕ) (s : List ℕ) → last_end s ≡ 0 → last_end (take k s) ≡ 0
cut-none k s h =
    let a : last_end s ≡ cond (eqb (last_end (drop k s)) 0) (last_end (take k s)) (length (take k s) + last_end (drop k s)) = ap last_end (sym (take-append-drop k s)) ∙ last-append (take k s) (drop k s) in
    by (eqb (last_end (drop k s)) 0)
    (λ (e : eqb (last_end (drop k s)) 0 ≡ true). let q : last_end s ≡ last_end (take k s) = rw e at a in sym q ∙ h)
    (λ (e : eqb (last_end (drop k s)) 0 ≡ false).
    let q : last_end s ≡ length (take k s) + last_end (drop k s) = rw e at a in
    absurd (eqb-false (last_end (drop k s)) 0 e (omega arith)))

-- a piece without an end, and a piece with one
module _ (s p : List ℕ) where
  none-ended : eqb (last_end p) 0 ≡ true → (ended (s ++ p) ≡ ended s) × (unended (s ++ p) ≡ unended s ++ p)
  unfolding ended unended
  none-ended e =
      let q : last_end (s ++ p) ≡ last_end s = rw e at (last-append s p) in
      (rw q (take-append-le (last_end s) s p (last_within s)), rw q (drop-append-le (last_end s) s p (last_within s)))

  some-ended : eqb (last_end p) 0 ≡ false → (ended (s ++ p) ≡ s ++ ended p) × (unended (s ++ p) ≡ unended p)
  unfolding ended unended
  some-ended e =
      let q : last_end (s ++ p) ≡ length s + last_end p = rw e at (last-append s p) in
      (rw q (take-append-add s p (last_end p)), rw q (drop-append-add s p (last_end p)))

-- the lines of whole lines before anything
joined-some : (c : ℕ) (ls : List (List ℕ)) → joined c ls ≢ []
joined-some c [] e = let z : ◌≡◌ {A = ℕ} 0 1 = cc in absurd (omega arith)
joined-some c (l ∷ ls) e = let z : ◌≡◌ {A = ℕ} 0 1 = cc in absurd (omega arith)

lines-some : (c : ℕ) (s : List ℕ) → lines (c ∷ s) ≢ []
unfolding lines
lines-some c s =
    by (eqb c 10)
    (λ (e : eqb c 10 ≡ true). rw e (λ q. let z : ◌≡◌ {A = ℕ} 0 1 = cc in absurd (omega arith)))
    (λ (e : eqb c 10 ≡ false). rw e (joined-some c (lines s)))

joined-append : (c : ℕ) (ls ms : List (List ℕ)) → ls ≢ [] → joined c (ls ++ ms) ≡ joined c ls ++ ms
joined-append c [] ms h = absurd (h refl)
joined-append c (l ∷ ls) ms h = refl

tail-whole : (c : ℕ) (t : List ℕ) → 1 ≤ length t → last_end (c ∷ t) ≡ suc (length t) → last_end t ≡ length t
unfolding last_end
tail-whole c t l h =
    by (eqb (last_end t) 0)
    (λ (e : eqb (last_end t) 0 ≡ true).
    by (eqb c 10)
    (λ (f : eqb c 10 ≡ true). let q : 1 ≡ suc (length t) = rw (e, f) at h in absurd (omega arith))
    (λ (f : eqb c 10 ≡ false). let q : 0 ≡ suc (length t) = rw (e, f) at h in absurd (omega arith)))
    (λ (e : eqb (last_end t) 0 ≡ false). let q : suc (last_end t) ≡ suc (length t) = rw e at h in omega arith)

one-whole : (c : ℕ) → last_end (c ∷ []) ≡ 1 → eqb c 10 ≡ true
unfolding last_end
one-whole c h =
    by (eqb c 10)
    (λ (e : eqb c 10 ≡ true). e)
    (λ (e : eqb c 10 ≡ false). let q : ◌≡◌ {A = ℕ} 0 1 = rw e at h in absurd (omega arith))

one_more : (c : ℕ) (s t : List ℕ) → lines s ≢ [] → lines (s ++ t) ≡ lines s ++ lines t → lines (c ∷ s ++ t) ≡ lines (c ∷ s) ++ lines t
unfolding lines
one_more c s t n h =
    by (eqb c 10)
    (λ (e : eqb c 10 ≡ true). rw e (ap (λ (l : List (List ℕ)). (c ∷ []) ∷ l) h))
    (λ (e : eqb c 10 ≡ false). rw e (ap (joined c) h ∙ joined-append c (lines s) (lines t) n))

pub lines-append : (s t : List ℕ) → last_end s ≡ length s → lines (s ++ t) ≡ lines s ++ lines t
unfolding lines
lines-append [] t h = refl
lines-append (c ∷ []) t h = rw (one-whole c h)
lines-append (c ∷ d ∷ s) t h = one_more c (d ∷ s) t (lines-some d s) (lines-append (d ∷ s) t (tail-whole c (d ∷ s) (omega arith) h))

pub lines-parts : (s t : List ℕ) → lines (ended s ++ t) ≡ lines (ended s) ++ lines t
unfolding ended
lines-parts s t = lines-append (ended s) t (ended-whole s ∙ sym (length-take-le (last_end s) s (last_within s)))

-- no more lines than bytes
joined-few : (c : ℕ) (ls : List (List ℕ)) → length (joined c ls) ≤ suc (length ls)
joined-few c [] = omega arith
joined-few c (l ∷ ls) = omega arith

pub lines-few : (s : List ℕ) → length (lines s) ≤ length s
unfolding lines
lines-few [] = omega arith
lines-few (c ∷ s) =
    let h = lines-few s in
    let j = joined-few c (lines s) in
    by (eqb c 10)
    (λ (e : eqb c 10 ≡ true). rw e (omega arith))
    (λ (e : eqb c 10 ≡ false). rw e (omega arith))

-- bytes without an end go before the first line of what follows
prepended : List ℕ → List (List ℕ) → List (List ℕ)
prepended u [] = u ∷ []
prepended u (l ∷ ls) = (u ++ l) ∷ ls

joined-one : (c : ℕ) (ls : List (List ℕ)) → joined c ls ≡ prepended (c ∷ []) ls
unfolding prepended
joined-one c [] = refl
joined-one c (l ∷ ls) = refl

joined-more : (c : ℕ) (u : List ℕ) (ls : List (List ℕ)) → joined c (prepended u ls) ≡ prepended (c ∷ u) ls
unfolding prepended
joined-more c u [] = refl
joined-more c u (l ∷ ls) = refl

none_first : (c : ℕ) (u : List ℕ) → last_end (c ∷ u) ≡ 0 → (eqb c 10 ≡ false) × (last_end u ≡ 0)
unfolding last_end
none_first c u h =
    by (eqb (last_end u) 0)
    (λ (e : eqb (last_end u) 0 ≡ true).
    by (eqb c 10)
    (λ (f : eqb c 10 ≡ true). let q : ◌≡◌ {A = ℕ} 1 0 = rw (e, f) at h in absurd (omega arith))
    (λ (f : eqb c 10 ≡ false). (f, eqb-true (last_end u) 0 e)))
    (λ (e : eqb (last_end u) 0 ≡ false). let q : suc (last_end u) ≡ 0 = rw e at h in absurd (omega arith))

before-joined : (c : ℕ) (s : List ℕ) → eqb c 10 ≡ false → lines (c ∷ s) ≡ joined c (lines s)
unfolding lines
before-joined c s e = rw e

before-lines : (c : ℕ) (u q : List ℕ) → last_end (c ∷ u) ≡ 0 → lines (c ∷ u ++ q) ≡ prepended (c ∷ u) (lines q)
before-lines c [] q h = before-joined c q (none_first c [] h).0 ∙ joined-one c (lines q)
before-lines c (d ∷ u) q h =
    let n = none_first c (d ∷ u) h in
    before-joined c (d ∷ u ++ q) n.0 ∙ ap (joined c) (before-lines d u q n.1) ∙ joined-more c (d ∷ u) (lines q)

-- a cut line before anything is cut to the same
pub cut-append : {A : Type 0} (k : ℕ) (u m : List A) → take k (take k u ++ m) ≡ take k (u ++ m)
cut-append zero u m = refl
cut-append (suc k) [] m = refl
cut-append {A} (suc k) (c ∷ u) m = ap (λ (l : List A). c ∷ l) (cut-append k u m)

cut-prepended : (k : ℕ) (u : List ℕ) (ls : List (List ℕ)) → map (take k) (prepended (take k u) ls) ≡ map (take k) (prepended u ls)
unfolding prepended
cut-prepended k u [] = ap (λ (l : List ℕ). l ∷ []) (take-take k k u (omega arith))
cut-prepended k u (l ∷ ls) = ap (λ (m : List ℕ). m ∷ map (take k) ls) (cut-append k u l)

cut-lines : (k : ℕ) (u q : List ℕ) → last_end u ≡ 0 → map (take (suc k)) (lines (take (suc k) u ++ q)) ≡ map (take (suc k)) (lines (u ++ q))
cut-lines k [] q h = refl
cut-lines k (c ∷ u) q h =
    ap (map (take (suc k))) (before-lines c (take k u) q (cut-none (suc k) (c ∷ u) h)) ∙ cut-prepended (suc k) (c ∷ u) (lines q)
    ∙ sym (ap (map (take (suc k))) (before-lines c u q h))

none-parts : (u : List ℕ) → last_end u ≡ 0 → (ended u ≡ []) × (unended u ≡ u)
unfolding ended unended
none-parts u h = rw h (refl, refl)

map-decided : {A : Type 0} (read : List ℕ → A) → ((line : List ℕ) → read (take kept_bytes line) ≡ read line) → (ls : List (List ℕ)) → map read (map (take kept_bytes) ls) ≡ map read ls
map-decided read decided [] = refl
map-decided read decided (l ∷ ls) = rw (decided l, map-decided read decided ls)

-- what the pieces of an input came to: its lines that have ended, up to the cut, and what waits
pub record FollowsInput (F : Stream) (s : List ℕ) : Type 0 where
  pub lines-told : map (take kept_bytes) F.told ≡ map (take kept_bytes) (lines (ended s))
  pub line-waits : F.waits ≡ waiting s

abbrev cut : List (List ℕ) → List (List ℕ)
cut = map (take kept_bytes)

module _ (F : Stream) (s : List ℕ) (h : FollowsInput F s) where
  waits-none : last_end F.waits ≡ 0
  unfolding waiting
  waits-none = rw h.line-waits (cut-none kept_bytes (unended s) (unended-none s))

  -- what waits and then something, and the whole line that it is of
  waits-lines : (q : List ℕ) → cut (lines (F.waits ++ q)) ≡ cut (lines (unended s ++ q))
  unfolding waiting
  waits-lines q = ap (λ (w : List ℕ). cut (lines (w ++ q))) h.line-waits ∙ cut-lines line_limit (unended s) q (unended-none s)

  all_lines : (q : List ℕ) → cut (F.told ++ lines (F.waits ++ q)) ≡ cut (lines (s ++ q))
  all_lines q =
      map-append (take kept_bytes) F.told (lines (F.waits ++ q)) ∙ ap (λ (l : List (List ℕ)). l ++ cut (lines (F.waits ++ q))) h.lines-told
      ∙ ap (λ (l : List (List ℕ)). cut (lines (ended s)) ++ l) (waits-lines q) ∙ sym (map-append (take kept_bytes) (lines (ended s)) (lines (unended s ++ q)))
      ∙ ap cut (sym (lines-parts s (unended s ++ q)) ∙ ap lines (sym (append_assoc (ended s) (unended s) q) ∙ ap (λ (l : List ℕ). l ++ q) (both-parts s)))

  follows-some : (p : List ℕ) → eqb (last_end p) 0 ≡ false → FollowsInput (fed_piece F p) (s ++ p)
  unfolding fed_piece waiting
  follows-some p e =
      let a = some-ended F.waits p e in
      let b = some-ended s p e in
      record {
        lines-told = ap (λ (l : List ℕ). cut (F.told ++ lines l)) a.0 ∙ all_lines (ended p) ∙ ap (λ (l : List ℕ). cut (lines l)) (sym b.0);
        line-waits = ap (take kept_bytes) (a.1 ∙ sym b.1);
      }

  follows-none : (p : List ℕ) → eqb (last_end p) 0 ≡ true → FollowsInput (fed_piece F p) (s ++ p)
  unfolding fed_piece waiting lines
  follows-none p e =
      let a = none-ended F.waits p e in
      let b = none-ended s p e in
      let n = none-parts F.waits waits-none in
      record {
        lines-told =
            ap (λ (l : List ℕ). cut (F.told ++ lines l)) (a.0 ∙ n.0) ∙ ap cut (append-nil F.told) ∙ h.lines-told
            ∙ ap (λ (l : List ℕ). cut (lines l)) (sym b.0);
        line-waits =
            ap (take kept_bytes) a.1 ∙ ap (λ (l : List ℕ). take kept_bytes (l ++ p)) (n.1 ∙ h.line-waits) ∙ cut-append kept_bytes (unended s) p
            ∙ ap (take kept_bytes) (sym b.1);
      }

  follows-piece : (p : List ℕ) → FollowsInput (fed_piece F p) (s ++ p)
  follows-piece p = by (eqb (last_end p) 0) (follows-none p) (follows-some p)

follows-pieces : (F : Stream) (s : List ℕ) (pieces : List (List ℕ)) → FollowsInput F s → FollowsInput (fed_pieces F pieces) (s ++ input_of pieces)
unfolding fed_pieces input_of
follows-pieces F s [] h = rw append-nil h
follows-pieces F s (p ∷ pieces) h = rw (← append_assoc s p (input_of pieces)) (follows-pieces (fed_piece F p) (s ++ p) pieces (follows-piece F s h p))

follows_nothing : FollowsInput no_input []
unfolding no_input waiting unended ended last_end lines
follows_nothing = record { lines-told = refl; line-waits = refl }

-- WHEREVER THE INPUT IS CUT, its lines are those of the whole input, each up to the bytes that are kept
pub cut-anywhere : (pieces : List (List ℕ)) → map (take kept_bytes) (stream_lines (fed_pieces no_input pieces)) ≡ map (take kept_bytes) (lines (input_of pieces))
unfolding stream_lines
cut-anywhere pieces =
    let F = fed_pieces no_input pieces in
    let h = follows-pieces no_input [] pieces follows_nothing in
    ap (λ (l : List ℕ). cut (F.told ++ lines l)) (sym (append-nil F.waits)) ∙ all_lines F (input_of pieces) h [] ∙ ap (λ (l : List ℕ). cut (lines l)) (append-nil (input_of pieces))

-- so whoever reads a line by these bytes alone reads the same
pub read-anywhere : {A : Type 0} (read : List ℕ → A) → ((line : List ℕ) → read (take kept_bytes line) ≡ read line)
    → (pieces : List (List ℕ)) → map read (stream_lines (fed_pieces no_input pieces)) ≡ map read (lines (input_of pieces))
read-anywhere read decided pieces =
    let F = stream_lines (fed_pieces no_input pieces) in
    sym (map-decided read decided F) ∙ ap (map read) (cut-anywhere pieces) ∙ map-decided read decided (lines (input_of pieces))

-- and their count is the same
pub count-anywhere : (pieces : List (List ℕ)) → length (stream_lines (fed_pieces no_input pieces)) ≡ length (lines (input_of pieces))
count-anywhere pieces =
    sym (length-map (stream_lines (fed_pieces no_input pieces)) (take kept_bytes)) ∙ ap length (cut-anywhere pieces) ∙ length-map (lines (input_of pieces)) (take kept_bytes)

-- one piece more, at the end
pub one_piece : (F : Stream) (pieces : List (List ℕ)) (p : List ℕ) → fed_pieces F (pieces ++ (p ∷ [])) ≡ fed_piece (fed_pieces F pieces) p
unfolding fed_pieces
one_piece F [] p = refl
one_piece F (q ∷ pieces) p = one_piece (fed_piece F q) pieces p
