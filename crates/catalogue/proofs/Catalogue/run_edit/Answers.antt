use Rattle.std.proofs.Common.{rules, ◌∙◌}
use Rattle.catalogue.specs.Shelves.{shelf}
use Rattle.pages.proofs.Entries.{touched-within, touched-past, ran-within, ran-past}
use Rattle.catalogue.proofs.Catalogue.run_edit.Goals as goal

pub returns-then-place-clause-kept : goal.returns-then-place-clause-kept
returns-then-place-clause-kept g c =
    touched-within (shelf g.row.CELLS g.L.Layout.place g.L.Layout.cell) c.args.self.now.entries c.args.edit _ c.place-place.ensures _ (search rules)

pub returns-then-place-clause-ran : goal.returns-then-place-clause-ran
returns-then-place-clause-ran g c =
    ran-within (shelf g.row.CELLS g.L.Layout.place g.L.Layout.cell) c.args.self.now.entries c.args.edit _ c.place-place.ensures _ _ (search rules) c.run.ensures

pub returns-else-place-clause-kept : goal.returns-else-place-clause-kept
returns-else-place-clause-kept g c =
    c.absent.ensures ∙ touched-past (shelf g.row.CELLS g.L.Layout.place g.L.Layout.cell) c.args.self.now.entries c.args.edit _ c.place-place.ensures (search rules)

pub returns-else-place-clause-ran : goal.returns-else-place-clause-ran
returns-else-place-clause-ran g c =
    ran-past (shelf g.row.CELLS g.L.Layout.place g.L.Layout.cell) c.args.self.now.entries c.args.edit _ c.place-place.ensures (search rules)
