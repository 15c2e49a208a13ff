-- `questions::print_ask` meets its contract. Assumes nothing.
use mathlib.Core.Path.{refl, ap}
use Rattle.log_session.specs.Desk.{ledger_of}
use Rattle.log_session.specs.questions.Questions.{text_in, hidden_in, schedule_in, catalogue_in, journal_in, page_in, ask_text}
use Rattle.log_session.proofs.Cases.{ledger-valid, bench-stored}
use Rattle.log_session.proofs.questions.Answered.{asked}
use Rattle.log_session.proofs.questions.print_ask.Goals as goal

pub returns-in-Text-clause-told : goal.returns-in-Text-clause-told
unfolding ask_text
returns-in-Text-clause-told c = λ D e. asked D c.in-Text.is (ap text_in e) c.print_record.ensures

pub returns-in-Report-clause-told : goal.returns-in-Report-clause-told
unfolding ask_text
returns-in-Report-clause-told c = λ D e. asked D c.in-Report.is refl (c.print_report.ensures.told (ledger_of D).multilog (bench-stored D e) (ledger-valid D).checked)

pub returns-in-Hidden-clause-told : goal.returns-in-Hidden-clause-told
unfolding ask_text
returns-in-Hidden-clause-told c = λ D e. asked D c.in-Hidden.is (ap hidden_in e) c.print_hidden.ensures

pub returns-in-Schedule-clause-told : goal.returns-in-Schedule-clause-told
unfolding ask_text
returns-in-Schedule-clause-told c = λ D e. asked D c.in-Schedule.is (ap schedule_in e) c.print_schedule.ensures

pub returns-in-Catalogue-clause-told : goal.returns-in-Catalogue-clause-told
unfolding ask_text
returns-in-Catalogue-clause-told c = λ D e. asked D c.in-Catalogue.is (ap catalogue_in e) c.print_catalogue.ensures

pub returns-in-Journal-clause-told : goal.returns-in-Journal-clause-told
unfolding ask_text
returns-in-Journal-clause-told c = λ D e. asked D c.in-Journal.is (ap journal_in e) c.print_journal.ensures

pub returns-in-Page-clause-told : goal.returns-in-Page-clause-told
unfolding ask_text
returns-in-Page-clause-told c = λ D e. asked D c.in-Page.is (ap page_in e) c.print_page.ensures
