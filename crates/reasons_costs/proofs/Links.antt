-- The links of a relation, and those of a search, are the linked rows between marked edits. Assumes nothing.
use mathlib.Core.Path.{◌≡◌, refl}
use mathlib.Core.Bool.{Bool, true, ◌&&◌}
use mathlib.Core.List.{List}
use Prim.Native.Nat.{ℕ, ◌<◌}
use lib.ListN.{length}
use Rattle.lists.specs.Lists.{mem, index_of, ◌among◌}
use Rattle.lists.proofs.Lists.{and_l, and_r, and_i, mem_index}
use Rattle.record.specs.Record.{Record, names, notafter}
use Rattle.graph.specs.links.Marks.{name_at}
use Rattle.graph.specs.links.Links.{LinkedByKey, Leads}
use Rattle.graph.specs.links.Reach.{On}
use Rattle.graph.specs.links.Resolved.{Resolved}
use Rattle.reasons.specs.Given.{notafter_within}
use Rattle.reasons.specs.Aims.{Aim, to_init, back_to, to_ring, link_of, scope_of}
use Rattle.reasons_costs.specs.declared.Relation.{Relation}
use Rattle.reasons_costs.specs.declared.Relation.TheVariants.{Notafter, Enables, EnabledBy}
use Rattle.reasons_costs.specs.Searches.{relation_of}
use Rattle.reasons_costs.specs.Levels.{linked_by, LinkTo, LinkFrom, LinkBelow}

-- a relation holds between the edits at two places, of which the first is marked
pub record HoldsBetween (relation : ℕ → ℕ → Bool) (R : Record) (marks : List ℕ) (i j : ℕ) : Type 0 where
  pub left-low : i < length (names R)
  pub right-low : j < length (names R)
  pub linked : relation (name_at R i) (name_at R j) ≡ true
  pub marked : On marks i

module _ {leads : ℕ → ℕ → Bool} {R : Record} {base : ℕ} {rows : List ℕ} (g : Leads leads R base rows) (marks : List ℕ) where
  to-there : (x y : ℕ) → leads x y ≡ true → On marks (index_of x (names R))
      → LinkTo base g.keys rows marks (index_of y (names R)) (index_of x (names R)) (index_of y (names R))
  to-there x y e o =
      let r = g.row_of x y e in record { row = record { row = r.row; low = r.low; key = r.key; holds = r.left }; to = refl; marked = o }

  from-there : (x y : ℕ) → leads y x ≡ true → On marks (index_of x (names R))
      → LinkFrom base g.keys rows marks (index_of x (names R)) (index_of x (names R)) (index_of y (names R))
  from-there x y e o =
      let r = g.row_of y x e in record { row = record { row = r.row; low = r.low; key = r.key; holds = r.left }; from = refl; marked = o }

  to-holds : {b i j : ℕ} → b < length (names R) → LinkTo base g.keys rows marks b i j → HoldsBetween leads R marks i j
  to-holds {b} {i} {j} h l =
      let r = l.row in record {
        left-low = rw r.holds at (g.known r.row b r.low h r.key);
        right-low = rw l.to h;
        linked = rw (l.to, ← r.holds) (g.holds r.row b r.low h r.key);
        marked = l.marked;
      }

  from-holds : {b i j : ℕ} → b < length (names R) → LinkFrom base g.keys rows marks b i j → HoldsBetween (λ x y. leads y x) R marks i j
  from-holds {b} {i} {j} h l =
      let r = l.row in record {
        left-low = rw l.from h;
        right-low = rw r.holds at (g.known r.row b r.low h r.key);
        linked = rw (l.from, ← r.holds) (g.holds r.row b r.low h r.key);
        marked = l.marked;
      }

module _ {R : Record} {rows : List ℕ} (g : Resolved R rows) where
  -- the keys of the rows that are the links of a relation
  pub relation_keys : Relation → List ℕ
  relation_keys Notafter = g.notafters.keys
  relation_keys Enables = g.enablers.keys
  relation_keys EnabledBy = g.enablers.keys

  pub relation-keys-linked : (relation : Relation) → LinkedByKey (relation_keys relation) rows
  unfolding relation_keys
  relation-keys-linked Notafter = g.notafters.linked
  relation-keys-linked Enables = g.enablers.linked
  relation-keys-linked EnabledBy = g.enablers.linked

  pub link-known : (relation : Relation) (x y : ℕ) → linked_by R relation x y ≡ true → (x among names R) × (y among names R)
  link-known Notafter x y e = let r = g.notafters.row_of x y e in (r.left-known, r.right-known)
  link-known Enables x y e = let r = g.enablers.row_of x y e in (r.left-known, r.right-known)
  link-known EnabledBy x y e = let r = g.enablers.row_of y x e in (r.right-known, r.left-known)

  pub link-there : (relation : Relation) (marks : List ℕ) (x y : ℕ) → linked_by R relation x y ≡ true → On marks (index_of x (names R))
      → LinkBelow relation (length (names R)) (relation_keys relation) rows marks (index_of x (names R)) (index_of y (names R))
  unfolding relation_keys
  link-there Notafter marks x y e o =
      record { right = index_of y (names R); low = mem_index y (names R) (link-known Notafter x y e).1; link = to-there g.notafters marks x y e o }
  link-there Enables marks x y e o =
      record { right = index_of y (names R); low = mem_index y (names R) (link-known Enables x y e).1; link = to-there g.enablers marks x y e o }
  link-there EnabledBy marks x y e o =
      record { right = index_of x (names R); low = mem_index x (names R) (link-known EnabledBy x y e).0; link = from-there g.enablers marks x y e o }

  pub link-holds : (relation : Relation) (marks : List ℕ) (i j : ℕ) → LinkBelow relation (length (names R)) (relation_keys relation) rows marks i j
      → HoldsBetween (linked_by R relation) R marks i j
  unfolding relation_keys
  link-holds Notafter marks i j l = to-holds g.notafters marks l.low l.link
  link-holds Enables marks i j l = to-holds g.enablers marks l.low l.link
  link-holds EnabledBy marks i j l = from-holds g.enablers marks l.low l.link

  -- a link of a search is one of its relation between edits of its scope
  pub aim-linked : (aim : Aim) (x y : ℕ) → link_of R aim x y ≡ true
      → (linked_by R (relation_of aim) x y ≡ true) × ((x among scope_of R aim) × (y among scope_of R aim))
  unfolding notafter_within
  aim-linked to_init x y e = (e, link-known Enables x y e)
  aim-linked (back_to t r) x y e =
      let k = and_r (notafter R x y) (mem x t && mem y t) e in (and_l (notafter R x y) _ e, (and_l (mem x t) (mem y t) k, and_r (mem x t) (mem y t) k))
  aim-linked (to_ring t) x y e = (e, link-known EnabledBy x y e)

  pub aim-links : (aim : Aim) (x y : ℕ) → linked_by R (relation_of aim) x y ≡ true → x among scope_of R aim → y among scope_of R aim
      → link_of R aim x y ≡ true
  unfolding notafter_within
  aim-links to_init x y e h k = e
  aim-links (back_to t r) x y e h k = and_i (notafter R x y) _ e (and_i (mem x t) (mem y t) h k)
  aim-links (to_ring t) x y e h k = e
