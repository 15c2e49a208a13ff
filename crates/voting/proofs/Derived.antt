-- The derived equality of edits and of constraints decides whether they are equal. Assumes nothing.
use mathlib.Core.Path.{◌≡◌, ap}
use borrow.Author.Rules.{rules}
use borrow.Author.Tests.{tests}
use mathlib.Core.Bool.{Bool, ◌&&◌}
use Rattle.std.specs.Bool.{Decides}
use Rattle.std.specs.Cmp.Lexicographic.{pointwise}
use Rattle.std.proofs.lemmas.Bool.Decides.{same_from_decides, Decides-eqb, Decides-and, Decides-like}
use Rattle.std.proofs.lemmas.Slice.Eq.{slice_eq-Decides}
use Rattle.record.specs.Record.{Record}
use Rattle.voting.specs.Tally.{same_bundle}
use Rattle.voting.proofs.Elections.{same-is}
use Rattle.record.specs.declared.Field.{Field}
use Rattle.record.specs.declared.Body.{Body}
use Rattle.record.specs.declared.Body.TheVariants.{Insert, Set, Remove}
use Rattle.record.specs.declared.Edit.{Edit}
use Rattle.record.specs.declared.Constraint.{Constraint}
use Rattle.record.specs.contracts.FieldPartialEq.TheImpl as fields
use Rattle.record.specs.contracts.BodyPartialEq.TheImpl as bodies
use Rattle.record.specs.contracts.EditPartialEq.TheImpl as edits
use Rattle.record.specs.contracts.ConstraintPartialEq.TheImpl as constraints

pub constraints-decided : (c d : Constraint) → Decides (constraints.eq-value.it c d) (c ≡ d)
constraints-decided c d = search (rules, tests)

fields-decided : (f g : Field) → Decides (fields.eq-value.it f g) (f ≡ g)
fields-decided f g = search (rules, tests)

bodies-decided : (a b : Body) → Decides (bodies.eq-value.it a b) (a ≡ b)
bodies-decided (Insert p) (Insert q) = search (rules, tests)
bodies-decided (Insert p) (Set q g w) = search (rules, tests)
bodies-decided (Insert p) (Remove q) = search (rules, tests)
bodies-decided (Set p f v) (Insert q) = search (rules, tests)
bodies-decided (Set p f v) (Set q g w) = let h = fields-decided f g in search (rules, tests)
bodies-decided (Set p f v) (Remove q) = search (rules, tests)
bodies-decided (Remove p) (Insert q) = search (rules, tests)
bodies-decided (Remove p) (Set q g w) = search (rules, tests)
bodies-decided (Remove p) (Remove q) = search (rules, tests)

pub edits-decided : (d e : Edit) → Decides (edits.eq-value.it d e) (d ≡ e)
edits-decided d e =
    Decides-like {P = (d.name ≡ e.name) × (d.body ≡ e.body)} _ (λ p i. record { name = p.0 i; body = p.1 i }) (λ q. (ap (λ x. x.name) q, ap (λ x. x.body) q))
    (Decides-and _ _ (Decides-eqb d.name e.name) (bodies-decided d.body e.body))

-- two slices of rows, and what `==` says of both
pub bundles-decided : (P Q : Record) (x y : Bool) → x ≡ pointwise edits.eq-value.it P.edits Q.edits → y ≡ pointwise constraints.eq-value.it P.constraints Q.constraints
    → (x && y) ≡ same_bundle P Q
bundles-decided P Q x y p q =
    same_from_decides _ (same_bundle P Q)
    (Decides-like {P = (P.edits ≡ Q.edits) × (P.constraints ≡ Q.constraints)} _ (λ e i. record { edits = e.0 i; constraints = e.1 i }) (λ e. (ap (λ r. r.edits) e, ap (λ r. r.constraints) e))
    (Decides-and x y (slice_eq-Decides edits-decided P.edits Q.edits x p) (slice_eq-Decides constraints-decided P.constraints Q.constraints y q)))
    (same-is P Q)
