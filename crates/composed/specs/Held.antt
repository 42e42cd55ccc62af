-- Statements that lie above Type 0, which a contract can't hold, as types that can: that there is this proof of one.
use Rattle.disks.specs.Device.{LayersCompose, WithinOver}
use Rattle.disks.specs.Over.{HousesCompose}
use Rattle.compose.specs.Along.{LinearAlong}
use Rattle.compose.specs.Inside.{HousesWithin}
use Rattle.compose.specs.Many.{ManyAtOnce, AnyWaiting}
use Rattle.compose.specs.Past.{InsertedIntoThePast, OneInserted}
use Rattle.compose.specs.Sets.{TakenDone, TakenTold, TakenBusy, TakenMany}
use Rattle.compose.specs.Simulation.{Carries, CarriesWithin}
use Rattle.compose.specs.SimulationFor.{CarriesFor, CarriesWithinFor, CarriesAnswers, CarriesAnswersWithin}
use Rattle.compose.specs.Ways.{HousesBusy, HousesAnswer}
use Rattle.compose.proofs.Along.{linear_along}
use Rattle.compose.proofs.Compose.{layers_compose}
use Rattle.compose.proofs.Houses.{houses_compose}
use Rattle.compose.proofs.Inside.{within-over, houses_within}
use Rattle.compose.proofs.Many.{many_at_once, any_waiting}
use Rattle.compose.proofs.Past.{inserted_into_the_past, one_inserted}
use Rattle.compose.proofs.Sets.{taken_done, taken-told, taken-busy, taken_many}
use Rattle.compose.proofs.Transfer.{carries, carries-within}
use Rattle.compose.proofs.TransferFor.{carries_for, carries_within_for}
use Rattle.compose.proofs.TransferAnswers.{carries-answers, carries_answers_within}
use Rattle.compose.proofs.Ways.{houses-busy, houses-answer}

pub data Shown {A : Type 1} (proof : A) : Type 0 where
  is_shown : Shown proof

abbrev pub LayersHeld : Type 0
LayersHeld = Shown {A = LayersCompose} layers_compose

abbrev pub WithinHeld : Type 0
WithinHeld = Shown {A = WithinOver} within-over

abbrev pub HousesHeld : Type 0
HousesHeld = Shown {A = HousesCompose} houses_compose

abbrev pub HousesWithinHeld : Type 0
HousesWithinHeld = Shown {A = HousesWithin} houses_within

abbrev pub HousesBusyHeld : Type 0
HousesBusyHeld = Shown {A = HousesBusy} houses-busy

abbrev pub HousesAnswerHeld : Type 0
HousesAnswerHeld = Shown {A = HousesAnswer} houses-answer

abbrev pub AlongHeld : Type 0
AlongHeld = Shown {A = LinearAlong} linear_along

abbrev pub ManyHeld : Type 0
ManyHeld = Shown {A = ManyAtOnce} many_at_once

abbrev pub AnyHeld : Type 0
AnyHeld = Shown {A = AnyWaiting} any_waiting

abbrev pub TakenHeld : Type 0
TakenHeld = Shown {A = TakenDone} taken_done

abbrev pub TakenToldHeld : Type 0
TakenToldHeld = Shown {A = TakenTold} taken-told

abbrev pub TakenBusyHeld : Type 0
TakenBusyHeld = Shown {A = TakenBusy} taken-busy

abbrev pub TakenManyHeld : Type 0
TakenManyHeld = Shown {A = TakenMany} taken_many

abbrev pub PastHeld : Type 0
PastHeld = Shown {A = InsertedIntoThePast} inserted_into_the_past

abbrev pub OneInsertedHeld : Type 0
OneInsertedHeld = Shown {A = OneInserted} one_inserted

abbrev pub CarriesHeld : Type 0
CarriesHeld = Shown {A = Carries} carries

abbrev pub CarriesWithinHeld : Type 0
CarriesWithinHeld = Shown {A = CarriesWithin} carries-within

abbrev pub CarriesForHeld : Type 0
CarriesForHeld = Shown {A = CarriesFor} carries_for

abbrev pub CarriesWithinForHeld : Type 0
CarriesWithinForHeld = Shown {A = CarriesWithinFor} carries_within_for

abbrev pub CarriesAnswersHeld : Type 0
CarriesAnswersHeld = Shown {A = CarriesAnswers} carries-answers

abbrev pub CarriesAnswersWithinHeld : Type 0
CarriesAnswersWithinHeld = Shown {A = CarriesAnswersWithin} carries_answers_within
