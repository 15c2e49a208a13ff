-- Tables in order of a key, insertion and union, for elements of any type. Assumes nothing.
use mathlib.Core.Path.{◌≡◌, refl, ap, sym, ◌∙◌}
use mathlib.Core.Bool.{Bool, true, false, not}
use mathlib.Core.Logic.{◌⊎◌, inl, inr, ⊎_elim}
use mathlib.Core.List.{List, [], ◌∷◌, ◌++◌, map}
use Prim.Native.Nat.{ℕ, suc, ◌≤◌}
use native.Mathlib.Omega.{arith}
use lib.ListN.{length}
use borrow.Author.Tests.{not-false}
use Rattle.lists.proofs.Lists.{by, clash, or-no-l, or-no-r}
use Rattle.lists.specs.Lists.{any, Has}
use Rattle.lists.specs.Keyed.{precedes, Below, Ascending, inserted, united}
use Rattle.lists.proofs.Logic.{any_append, any-no}
use Rattle.lists.proofs.Order.{less-irrefl, less-trans, less-total}

module _ {A : Type 0} (key : A → List ℕ) where
  pub below-trans : (x y : A) (t : List A) → precedes (key x) (key y) ≡ true → Below key y t → Below key x t
  below-trans x y [] h b = tt
  below-trans x y (r ∷ t) h b = (less-trans (key x) (key y) (key r) h b.0, below-trans x y t h b.1)

  pub below-has : (x a : A) (t : List A) → Below key x t → Has a t → precedes (key x) (key a) ≡ true
  below-has x a [] b h = absurd h
  below-has x a (r ∷ t) b (inl e) = rw e b.0
  below-has x a (r ∷ t) b (inr h) = below-has x a t b.1 h

  -- the three cases of an insertion
  inserting : (P : List A → Type 0) (x r : A) (t : List A) → (precedes (key x) (key r) ≡ true → P (x ∷ r ∷ t)) → (precedes (key r) (key x) ≡ true → P (r ∷ inserted key x t))
      → (precedes (key x) (key r) ≡ false → precedes (key r) (key x) ≡ false → P (r ∷ t)) → P (inserted key x (r ∷ t))
  unfolding inserted
  inserting P x r t f g h =
      by (precedes (key x) (key r)) (λ e. rw e (f e)) (λ e. by (precedes (key r) (key x)) (λ q. rw (e, q) (g q)) (λ q. rw (e, q) (h e q)))

  below-inserted : (p x : A) (t : List A) → precedes (key p) (key x) ≡ true → Below key p t → Below key p (inserted key x t)
  unfolding inserted
  below-inserted p x [] h b = (h, tt)
  below-inserted p x (r ∷ t) h b = inserting (Below key p) x r t (λ e. (h, b)) (λ e. (b.0, below-inserted p x t h b.1)) (λ e f. b)

  pub ascending-inserted : (x : A) (t : List A) → Ascending key t → Ascending key (inserted key x t)
  unfolding inserted
  ascending-inserted x [] a = (tt, tt)
  ascending-inserted x (r ∷ t) a =
      inserting (Ascending key) x r t (λ e. ((e, below-trans x r t e a.0), a)) (λ e. (below-inserted r x t e a.0, ascending-inserted x t a.1)) (λ e f. a)

  pub ascending-united : (t s : List A) → Ascending key t → Ascending key (united key t s)
  unfolding united
  ascending-united t [] a = a
  ascending-united t (x ∷ s) a = ascending-united (inserted key x t) s (ascending-inserted x t a)

  pub united-snoc : (t s : List A) (x : A) → united key t (s ++ (x ∷ [])) ≡ inserted key x (united key t s)
  unfolding united
  united-snoc t [] x = refl
  united-snoc t (y ∷ s) x = united-snoc (inserted key y t) s x

  -- the members after an insertion: those before, and the new one
  has-inserted : (a x : A) (t : List A) → Has a (inserted key x t) → (a ≡ x) ⊎ Has a t
  unfolding inserted
  has-inserted a x [] h = h
  has-inserted a x (r ∷ t) h =
      inserting (λ l. Has a l → (a ≡ x) ⊎ Has a (r ∷ t)) x r t (λ e m. m)
      (λ e m. ⊎_elim (λ (i : a ≡ r). inr (inl i)) (λ (i : Has a (inserted key x t)). ⊎_elim (λ (j : a ≡ x). inl j) (λ (j : Has a t). inr (inr j)) (has-inserted a x t i)) m) (λ e f m. inr m)
      h

  has-old : (a x : A) (t : List A) → Has a t → Has a (inserted key x t)
  has-old a x [] h = absurd h
  has-old a x (r ∷ t) h =
      inserting (Has a) x r t (λ e. inr h) (λ e. ⊎_elim (λ (i : a ≡ r). inl i) (λ (i : Has a t). inr (has-old a x t i)) h) (λ e f. h)

  -- the new one is there where no other element has its key
  has_new : (x : A) (t : List A) → ((r : A) → Has r t → precedes (key x) (key r) ≡ false → precedes (key r) (key x) ≡ false → x ≡ r) → Has x (inserted key x t)
  unfolding inserted
  has_new x [] s = inl refl
  has_new x (r ∷ t) s = inserting (Has x) x r t (λ e. inl refl) (λ e. inr (has_new x t (λ q h. s q (inr h)))) (λ e f. inl (s r (inl refl) e f))

  -- the united table has the elements of both and no others
  pub united-has : (a : A) (t s : List A) → Has a (united key t s) → Has a t ⊎ Has a s
  unfolding united
  united-has a t [] h = inl h
  united-has a t (x ∷ s) h =
      ⊎_elim
      (λ (k : Has a (inserted key x t)). ⊎_elim (λ (e : a ≡ x). inr (inl e)) (λ (m : Has a t). inl m) (has-inserted a x t k))
      (λ (k : Has a s). inr (inr k))
      (united-has a (inserted key x t) s h)

  pub united-old : (a : A) (t s : List A) → Has a t → Has a (united key t s)
  unfolding united
  united-old a t [] h = h
  united-old a t (x ∷ s) h = united-old a (inserted key x t) s (has-old a x t h)

  -- no key stands in both with different elements
  abbrev pub SameByKey : List A → List A → Type 0
  SameByKey s t = (x r : A) → Has x s → Has r t → precedes (key x) (key r) ≡ false → precedes (key r) (key x) ≡ false → x ≡ r

  pub agree-self : (s : List A) → Ascending key s → SameByKey s s
  agree-self [] a x r h k p q = absurd h
  agree-self (y ∷ s) a x r (inl e) (inl f) p q = e ∙ sym f
  agree-self (y ∷ s) a x r (inl e) (inr k) p q = clash (rw (sym e) at (below-has y r s a.0 k)) p
  agree-self (y ∷ s) a x r (inr h) (inl f) p q = clash (rw (sym f) at (below-has y x s a.0 h)) q
  agree-self (y ∷ s) a x r (inr h) (inr k) p q = agree-self s a.1 x r h k p q

  pub agree-sym : (s t : List A) → SameByKey s t → SameByKey t s
  agree-sym s t f x r h k p q = sym (f r x k h q p)

  pub united-new : (a : A) (t s : List A) → SameByKey s t → SameByKey s s → Has a s → Has a (united key t s)
  unfolding united
  united-new a t [] f g h = absurd h
  united-new a t (x ∷ s) f g (inl e) =
      rw e (united-old x (inserted key x t) s (has_new x t (λ r m p q. f x r (inl refl) m p q)))
  united-new a t (x ∷ s) f g (inr h) =
      united-new a (inserted key x t) s
      (λ y r m n p q. ⊎_elim (λ (e : r ≡ x). g y r (inr m) (inl e) p q) (λ (o : Has r t). f y r (inr m) o p q) (has-inserted r x t n))
      (λ y r m n p q. g y r (inr m) (inr n) p q)
      h

  -- an ascending table is settled by its members
  heads : (x y : A) (s t : List A) → Below key x s → Below key y t → Has x (y ∷ t) → Has y (x ∷ s) → x ≡ y
  heads x y s t p q (inl e) v = e
  heads x y s t p q (inr h) (inl e) = sym e
  heads x y s t p q (inr h) (inr k) = clash (less-trans (key x) (key y) (key x) (below-has x y s p k) (below-has y x t q h)) (less-irrefl (key x))

  rest : (x y : A) (s t : List A) → x ≡ y → Below key x s → ((a : A) → Has a (x ∷ s) → Has a (y ∷ t)) → (a : A) → Has a s → Has a t
  rest x y s t e p f a h =
      ⊎_elim
      (λ (i : a ≡ y). let j : x ≡ a = e ∙ sym i in clash (rw j at (below-has x a s p h)) (less-irrefl (key a)))
      (λ (k : Has a t). k)
      (f a (inr h))

  pub ascending-unique : (s t : List A) → Ascending key s → Ascending key t → ((a : A) → Has a s → Has a t) → ((a : A) → Has a t → Has a s) → s ≡ t
  ascending-unique [] [] p q f g = refl
  ascending-unique [] (y ∷ t) p q f g = absurd (g y (inl refl))
  ascending-unique (x ∷ s) [] p q f g = absurd (f x (inl refl))
  ascending-unique (x ∷ s) (y ∷ t) p q f g =
      let e : x ≡ y = heads x y s t p.0 q.0 (f x (inl refl)) (g y (inl refl)) in
      let r : s ≡ t = ascending-unique s t p.1 q.1 (rest x y s t e p.0 f) (rest y x t s (sym e) q.0 g) in
      cc

  -- joining in either order
  pub united-comm : (s t : List A) → Ascending key s → Ascending key t → SameByKey s t → united key t s ≡ united key s t
  united-comm s t a b f =
      ascending-unique (united key t s) (united key s t) (ascending-united t s b) (ascending-united s t a)
      (λ x h. ⊎_elim (λ (k : Has x t). united-new x s t (agree-sym s t f) (agree-self t b) k) (λ (k : Has x s). united-old x s t k) (united-has x t s h))
      (λ x h. ⊎_elim (λ (k : Has x s). united-new x t s f (agree-self s a) k) (λ (k : Has x t). united-old x t s k) (united-has x s t h))

  -- a key that is there stays as it is
  inserted-behind : (x y : A) (t : List A) → precedes (key y) (key x) ≡ true → inserted key x (y ∷ t) ≡ y ∷ inserted key x t
  inserted-behind x y t e =
      inserting (λ l. l ≡ y ∷ inserted key x t) x y t (λ f. clash (less-trans (key x) (key y) (key x) f e) (less-irrefl (key x))) (λ f. refl) (λ f g. clash e g)

  pub inserted-known : (x r : A) (t : List A) → Ascending key t → Has r t → key x ≡ key r → inserted key x t ≡ t
  unfolding inserted
  inserted-known x r [] a h e = absurd h
  inserted-known x r (y ∷ t) a (inl f) e = let g : key x ≡ key y = e ∙ ap key f in rw (g, less-irrefl (key y))
  inserted-known x r (y ∷ t) a (inr h) e =
      let b : precedes (key y) (key x) ≡ true = rw e (below-has y r t a.0 h) in
      inserted-behind x y t b ∙ ap (λ (l : List A). y ∷ l) (inserted-known x r t a.1 h e)

  -- joining a part of the table changes nothing
  pub united-part : (t s : List A) → Ascending key t → ((x : A) → Has x s → Has x t) → united key t s ≡ t
  unfolding united
  united-part t [] a f = refl
  united-part t (x ∷ s) a f =
      let e : inserted key x t ≡ t = inserted-known x x t a (f x (inl refl)) refl in
      rw e (united-part t s a (λ y h. f y (inr h)))

  -- one element more where its key is new, and at most one more
  pub length-new : (x : A) (t : List A) → ((r : A) → Has r t → precedes (key x) (key r) ≡ false → precedes (key r) (key x) ≡ true) → length (inserted key x t) ≡ suc (length t)
  unfolding inserted
  length-new x [] f = refl
  length-new x (r ∷ t) f =
      inserting (λ l. length l ≡ suc (suc (length t))) x r t (λ e. refl) (λ e. ap suc (length-new x t (λ q m. f q (inr m)))) (λ e g. clash (f r (inl refl) e) g)

  pub length_inserted : (x : A) (t : List A) → length (inserted key x t) ≤ suc (length t)
  unfolding inserted
  length_inserted x [] = omega arith
  length_inserted x (r ∷ t) =
      inserting (λ l. length l ≤ suc (suc (length t))) x r t (λ e. omega arith) (λ e. omega (arith, length_inserted x t)) (λ e f. omega arith)

  pub length-grown : (t s : List A) → length t ≤ length (united key t s)
  unfolding united
  length-grown t [] = omega arith
  length-grown t (x ∷ s) = omega (arith, grown x t, length-grown (inserted key x t) s)
    where
      grown : (x : A) (t : List A) → length t ≤ length (inserted key x t)
      grown x [] = omega arith
      grown x (r ∷ t) = inserting (λ l. suc (length t) ≤ length l) x r t (λ e. omega arith) (λ e. omega (arith, grown x t)) (λ e f. omega arith)

  -- the steps of a merge: y, which stands, is below all that joins
  pub united-first : (y : A) (t s : List A) → Below key y s → united key (y ∷ t) s ≡ y ∷ united key t s
  unfolding united
  united-first y t [] b = refl
  united-first y t (x ∷ s) b = rw (inserted-behind x y t b.0) (united-first y (inserted key x t) s b.1)

  inserted-front : (x : A) (t : List A) → Below key x t → inserted key x t ≡ x ∷ t
  unfolding inserted
  inserted-front x [] b = refl
  inserted-front x (r ∷ t) b = rw b.0

  -- x, which joins, is below all that stands
  pub united-joins : (x : A) (t s : List A) → Below key x t → Below key x s → united key t (x ∷ s) ≡ x ∷ united key t s
  unfolding united
  united-joins x t s b c = rw (inserted-front x t b) (united-first x t s c)

  -- one key in both
  pub united-both : (x y : A) (t s : List A) → key x ≡ key y → Below key y s → united key (y ∷ t) (x ∷ s) ≡ y ∷ united key t s
  unfolding united inserted
  united-both x y t s e b = rw (e, less-irrefl (key y)) (united-first y t s b)

  -- the key of each that joins is there afterwards
  module _ (even : (x y : A) → length (key x) ≡ length (key y)) where
    inserted-key : {P : Type 0} (x : A) (t : List A) → ((y : A) → Has y (inserted key x t) → key y ≡ key x → P) → P
    unfolding inserted
    inserted-key x [] f = f x (inl refl) refl
    inserted-key {P} x (r ∷ t) f =
        inserting (λ l. ((y : A) → Has y l → key y ≡ key x → P) → P) x r t (λ e g. g x (inl refl) refl) (λ e g. inserted-key x t (λ y m q. g y (inr m) q))
        (λ e q g. g r (inl refl) (less-total (key r) (key x) (even r x) q e)) f

    pub united-key : {P : Type 0} (x : A) (t s : List A) → Has x s → ((y : A) → Has y (united key t s) → key y ≡ key x → P) → P
    unfolding united
    united-key x t [] h f = absurd h
    united-key x t (z ∷ s) (inl e) f = inserted-key z t (λ y m q. f y (united-old y (inserted key z t) s m) (rw e q))
    united-key x t (z ∷ s) (inr h) f = united-key x (inserted key z t) s h f

  -- a table joins an empty one
  pub united-alone : (s : List A) → Ascending key s → united key [] s ≡ s
  unfolding united
  united-alone [] a = refl
  united-alone (x ∷ s) a = united-joins x [] s tt a.0 ∙ ap (λ (l : List A). x ∷ l) (united-alone s a.1)

  -- some element is not below the key q
  abbrev pub late : List A → List ℕ → Bool
  late s q = any (λ r. not (precedes (key r) q)) s

  late-head : (r : A) (s : List A) (q : List ℕ) → late (r ∷ s) q ≡ false → precedes (key r) q ≡ true
  unfolding any
  late-head r s q h = not-false (precedes (key r) q) (or-no-l (not (precedes (key r) q)) (late s q) h)

  late-tail : (r : A) (s : List A) (q : List ℕ) → late (r ∷ s) q ≡ false → late s q ≡ false
  unfolding any
  late-tail r s q h = or-no-r (not (precedes (key r) q)) (late s q) h

  late-cons : (r : A) (s : List A) (q : List ℕ) → precedes (key r) q ≡ true → late s q ≡ false → late (r ∷ s) q ≡ false
  unfolding any
  late-cons r s q e h = rw e h

  pub late-has : (s : List A) (q : List ℕ) → late s q ≡ false → (r : A) → Has r s → precedes (key r) q ≡ true
  late-has s q h r m = not-false (precedes (key r) q) (any-no (λ r. not (precedes (key r) q)) s h r m)

  pub late-snoc : (s : List A) (r : A) (q : List ℕ) → late s q ≡ false → precedes (key r) q ≡ true → late (s ++ (r ∷ [])) q ≡ false
  unfolding any
  late-snoc s r q h e = rw (any_append (λ r. not (precedes (key r) q)) s (r ∷ []), h, e)

  pub late-last : (s : List A) (r : A) (q : List ℕ) → late (s ++ (r ∷ [])) q ≡ false → precedes (key r) q ≡ true
  late-last s r q h = late-head r [] q (or-no-r (late s q) (late (r ∷ []) q) (sym (any_append (λ r. not (precedes (key r) q)) s (r ∷ [])) ∙ h))

  pub late-more : (s : List A) (x : A) (q : List ℕ) → late s (key x) ≡ false → precedes (key x) q ≡ true → late s q ≡ false
  unfolding any
  late-more [] x q h e = refl
  late-more (r ∷ s) x q h e =
      late-cons r s q (less-trans (key r) (key x) q (late-head r s (key x) h) e) (late-more s x q (late-tail r s (key x) h) e)

  below-snoc : (p : A) (s : List A) (r : A) → Below key p s → precedes (key p) (key r) ≡ true → Below key p (s ++ (r ∷ []))
  below-snoc p [] r b e = (e, tt)
  below-snoc p (x ∷ s) r b e = (b.0, below-snoc p s r b.1 e)

  below_last : (p : A) (s : List A) (r : A) → Below key p (s ++ (r ∷ [])) → precedes (key p) (key r) ≡ true
  below_last p [] r b = b.0
  below_last p (x ∷ s) r b = below_last p s r b.1

  pub ascending-snoc : (s : List A) (r : A) → Ascending key s → late s (key r) ≡ false → Ascending key (s ++ (r ∷ []))
  ascending-snoc [] r a h = (tt, tt)
  ascending-snoc (x ∷ s) r a h = (below-snoc x s r a.0 (late-head x s (key r) h), ascending-snoc s r a.1 (late-tail x s (key r) h))

  pub ascending-last : (s : List A) (r : A) → Ascending key (s ++ (r ∷ [])) → late s (key r) ≡ false
  unfolding any
  ascending-last [] r a = refl
  ascending-last (x ∷ s) r a = late-cons x s (key r) (below_last x s r a.0) (ascending-last s r a.1)

  -- in an ascending table the last element tells of all whether the next is in order
  pub late_is : (s : List A) (r : A) (q : List ℕ) → Ascending key (s ++ (r ∷ [])) → late (s ++ (r ∷ [])) q ≡ not (precedes (key r) q)
  late_is s r q a =
      by (precedes (key r) q)
      (λ (e : precedes (key r) q ≡ true). rw e (late-snoc s r q (late-more s r q (ascending-last s r a) e) e))
      (λ (e : precedes (key r) q ≡ false). rw e (by (late (s ++ (r ∷ [])) q) (λ h. h) (λ h. clash (late-last s r q h) e)))

-- the image of a table under a function that keeps the key
module _ {A B : Type 0} (key : A → List ℕ) (key' : B → List ℕ) (f : A → B) where
  pub below-map : (x : A) (t : List A) → key' (f x) ≡ key x → ((y : A) → Has y t → key' (f y) ≡ key y) → Below key x t → Below key' (f x) (map f t)
  below-map x [] e g b = tt
  below-map x (y ∷ t) e g b = (rw (e, g y (inl refl)) b.0, below-map x t e (λ z m. g z (inr m)) b.1)

  pub ascending-map : (t : List A) → ((y : A) → Has y t → key' (f y) ≡ key y) → Ascending key t → Ascending key' (map f t)
  ascending-map [] g a = tt
  ascending-map (x ∷ t) g a = (below-map x t (g x (inl refl)) (λ z m. g z (inr m)) a.0, ascending-map t (λ z m. g z (inr m)) a.1)

  module _ (g : (x : A) → key' (f x) ≡ key x) where
    map-inserted : (x : A) (t : List A) → map f (inserted key x t) ≡ inserted key' (f x) (map f t)
    unfolding inserted
    map-inserted x [] = refl
    map-inserted x (r ∷ t) =
        rw (g x, g r)
        (by (precedes (key x) (key r)) (λ e. rw e)
        (λ e. by (precedes (key r) (key x)) (λ q. rw (e, q) (ap (λ (l : List B). f r ∷ l) (map-inserted x t))) (λ q. rw (e, q))))

    pub map-united : (t s : List A) → map f (united key t s) ≡ united key' (map f t) (map f s)
    unfolding united
    map-united t [] = refl
    map-united t (x ∷ s) = map-united (inserted key x t) s ∙ ap (λ (l : List B). united key' l (map f s)) (map-inserted x t)
