-- The questions of a call log. Assumes nothing.
use Rattle.std.specs.Prelude.{[], ◌∷◌, take}
use Rattle.text_report.specs.Report.{report_of}
use Rattle.ledger.specs.declared.Bench.{Bench}
use Rattle.log_forms.specs.Printed.{Texts}
use Rattle.log_answers.specs.Answers.{record_text}
use Rattle.log_answers.specs.bench_answers.Asks.{hidden_text, schedule_text, catalogue_text, journal_text, page_text}
use Rattle.log_commands.specs.declared.Ask.{Ask}
use Rattle.log_commands.specs.declared.Ask.TheVariants.{Text, Report, Hidden, Schedule, Catalogue, Journal, Page}
use Rattle.log_session.specs.Desk.{Desk, Effect, ledger_of, bench_in, tells}

-- the counts of the record and its text
abbrev pub text_in : Bench → Texts
text_in b = record_text b.multilog

abbrev pub hidden_in : Bench → Texts
hidden_in b = hidden_text (take b.multilog.edit_count b.multilog.edits) b.hidden

abbrev pub schedule_in : Bench → Texts
schedule_in b = schedule_text (take b.schedule.count b.schedule.edits)

abbrev pub catalogue_in : Bench → Texts
catalogue_in b = catalogue_text b.view.catalogue.entries

abbrev pub journal_in : Bench → Texts
journal_in b = journal_text (take b.turner.opened b.schedule.edits) b.view.journal.rows

abbrev pub page_in : Bench → Texts
page_in b = page_text b.turner.opened b.turner.last

-- what a question prints
unfoldable pub ask_text : Ask → Desk → Texts
ask_text Text D = text_in (bench_in D)
ask_text Report D = report_of (ledger_of D).multilog ∷ []
ask_text Hidden D = hidden_in (bench_in D)
ask_text Schedule D = schedule_in (bench_in D)
ask_text Catalogue D = catalogue_in (bench_in D)
ask_text Journal D = journal_in (bench_in D)
ask_text Page D = page_in (bench_in D)

-- THE EFFECT of a question
unfoldable pub ask_effect : Desk → Ask → Effect
ask_effect D ask = tells D 0 (ask_text ask D)
