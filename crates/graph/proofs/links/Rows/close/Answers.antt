-- `links::Rows::close` meets its contract. Assumes nothing.
use Rattle.graph.proofs.links.Closing.{closing}
use Rattle.graph.proofs.links.Rows.close.Goals as goal

pub returns : goal.returns
returns c leads R known t g kn cl h sub e =
    closing leads R known t c.args.base c.args.self.now _ _ c.args.x g kn cl h sub e c.mark.ensures
