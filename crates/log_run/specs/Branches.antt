-- Inner: what the turner alone tells of a line: a turn of pages, or a question for the open page. Assumes nothing.
use Rattle.std.specs.Prelude.{Option, Some, None, Result, Ok}
use Rattle.refusals.specs.declared.Refusal.{Refusal}
use Rattle.log_commands.specs.declared.Call.TheVariants.{Turn as TurnPages}
use Rattle.log_commands.specs.declared.Ask.TheVariants.{Page}
use Rattle.log_commands.specs.declared.Command.{Command}
use Rattle.log_commands.specs.declared.Command.TheVariants.{Call, Ask}
use Rattle.log_run.specs.declared.PageLine.{PageLine}
use Rattle.log_run.specs.declared.PageLine.TheVariants.{Turn, Question}

abbrev pub paging_of : Result Command Refusal → Option PageLine
paging_of (Ok (Call (TurnPages pages))) = Some (Turn pages)
paging_of (Ok (Ask Page)) = Some Question
paging_of read = None
