-- What a question prints, of the question that it is. Assumes nothing.
use mathlib.Core.Path.{◌≡◌}
use Rattle.log_commands.specs.declared.Ask.{Ask}
use Rattle.log_forms.specs.declared.Printer.{Printer}
use Rattle.log_forms.specs.Printed.{Texts, Printed}
use Rattle.log_session.specs.Desk.{Desk}
use Rattle.log_session.specs.questions.Questions.{ask_text}

pub asked : {before after : Printer} (D : Desk) {ask question : Ask} → ask ≡ question → {texts : Texts} → texts ≡ ask_text question D
    → Printed texts before after → Printed (ask_text ask D) before after
asked D e q p = rw e (rw q at p)
