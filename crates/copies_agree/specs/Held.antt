-- Statements that lie above Type 0, which a contract can't hold, as types that can: that there is this proof of one.
use Rattle.copies.specs.Service.{Keeps}
use Rattle.copies.specs.Cells.{cells, cell_keeper}
use Rattle.copies.specs.Guarded.{ReplicatedAnswersWithin}
use Rattle.copies.specs.Promise.{Agreement, CaughtUp, StoredFirst, Replicated, BusyOnly, ReplicatedAnswers}
use Rattle.composed.specs.Held.{Shown}
use Rattle.replicated.proofs.Agreement.{agreement}
use Rattle.replicated.proofs.Answered.{answers}
use Rattle.replicated.proofs.AnsweredWithin.{answers_within}
use Rattle.replicated.proofs.Busy.{busy}
use Rattle.replicated.proofs.CaughtUp.{caught_up}
use Rattle.replicated.proofs.Cells.{cells_keeps}
use Rattle.replicated.proofs.Events.{as_one}
use Rattle.replicated.proofs.StoredFirst.{stored_first}
use Rattle.replicated.specs.Ties.{PostsRendered, CommandsRun, CounterStays}
use Rattle.replicated.proofs.Rendering.{posts_rendered}
use Rattle.replicated.proofs.Running.{commands_run}
use Rattle.replicated.proofs.Counter.{counter_stays}

abbrev pub AgreementHeld : Type 0
AgreementHeld = Shown {A = Agreement} agreement

abbrev pub CaughtUpHeld : Type 0
CaughtUpHeld = Shown {A = CaughtUp} caught_up

abbrev pub AsOneHeld : Type 0
AsOneHeld = Shown {A = Replicated} as_one

abbrev pub BusyHeld : Type 0
BusyHeld = Shown {A = BusyOnly} busy

abbrev pub StoredFirstHeld : Type 0
StoredFirstHeld = Shown {A = StoredFirst} stored_first

abbrev pub AnswersHeld : Type 0
AnswersHeld = Shown {A = ReplicatedAnswers} answers

abbrev pub AnswersWithinHeld : Type 0
AnswersWithinHeld = Shown {A = ReplicatedAnswersWithin} answers_within

-- the laws of a keeper can be met
abbrev pub CellsKept : Type 0
CellsKept = Shown {A = Keeps cells cell_keeper} cells_keeps

-- what code computes part by part
abbrev pub PostsHeld : Type 0
PostsHeld = Shown {A = PostsRendered} posts_rendered

abbrev pub CommandsHeld : Type 0
CommandsHeld = Shown {A = CommandsRun} commands_run

abbrev pub CounterHeld : Type 0
CounterHeld = Shown {A = CounterStays} counter_stays
