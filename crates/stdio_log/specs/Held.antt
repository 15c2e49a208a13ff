-- A session whose answers fit. Assumes nothing.
use Rattle.log_session.specs.declared.Session.{Session}
use Rattle.log_session.specs.Desk.{Desk}
use Rattle.log_session.specs.calls.Lines.{Holds}
use Rattle.log_bounds.specs.Bounded.{Bounded}

-- what is in memory is that of some desk whose numbers fit
pub record Held (session : Session) : Type 0 where
  pub desk : Desk
  pub holds : Holds desk session
  pub bounded : Bounded desk
