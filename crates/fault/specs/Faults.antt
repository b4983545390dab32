-- The number and the layer of each cause, as docs/FAULTS.md lists them.
use Rattle.std.specs.Prelude.{ℕ}
use Rattle.fault.specs.declared.Cause.{Cause}
use Rattle.fault.specs.declared.Cause.TheVariants.{SmallCatalogue, BrokenLayout, TooManyRecords, NoToken, BrokenGrammar, OtherChipName, BadPin, UnknownPart, NoSuchPartPin, BadEnd, WidthsDiffer, FedTwice, LeftOpen, ChipsInRing, NoSuchTop, TooLarge, Loop, BlankBoard, WrongPhase, NoSuchPin, ValueTooWide, StaleBoard, NoTrialOpen, TrialOpen, TallyFull}
use Rattle.fault.specs.declared.Layer.{Layer}
use Rattle.fault.specs.declared.Layer.TheVariants.{Bundle, Reading, Joining, Nesting, Board}
use Rattle.fault.specs.declared.Fault.{Fault}

abbrev pub number_of : Cause → ℕ
number_of SmallCatalogue = 1
number_of BrokenLayout = 2
number_of TooManyRecords = 3
number_of NoToken = 4
number_of BrokenGrammar = 5
number_of OtherChipName = 6
number_of BadPin = 7
number_of UnknownPart = 8
number_of NoSuchPartPin = 9
number_of BadEnd = 10
number_of WidthsDiffer = 11
number_of FedTwice = 12
number_of LeftOpen = 13
number_of ChipsInRing = 14
number_of NoSuchTop = 15
number_of TooLarge = 16
number_of Loop = 17
number_of BlankBoard = 18
number_of WrongPhase = 19
number_of NoSuchPin = 20
number_of ValueTooWide = 21
number_of StaleBoard = 22
number_of NoTrialOpen = 23
number_of TrialOpen = 24
number_of TallyFull = 25

abbrev pub layer_of : Cause → Layer
layer_of SmallCatalogue = Bundle
layer_of BrokenLayout = Bundle
layer_of TooManyRecords = Reading
layer_of NoToken = Reading
layer_of BrokenGrammar = Reading
layer_of OtherChipName = Reading
layer_of BadPin = Reading
layer_of UnknownPart = Joining
layer_of NoSuchPartPin = Joining
layer_of BadEnd = Joining
layer_of WidthsDiffer = Joining
layer_of FedTwice = Joining
layer_of LeftOpen = Joining
layer_of ChipsInRing = Nesting
layer_of NoSuchTop = Nesting
layer_of TooLarge = Nesting
layer_of Loop = Nesting
layer_of BlankBoard = Board
layer_of WrongPhase = Board
layer_of NoSuchPin = Board
layer_of ValueTooWide = Board
layer_of StaleBoard = Board
layer_of NoTrialOpen = Board
layer_of TrialOpen = Board
layer_of TallyFull = Board

-- the fault of a cause that stands at no place in a text: entry 0, byte 0
abbrev pub nowhere : Cause → Fault
nowhere c = record { cause = c; place = record { entry = 0; byte = 0 } }
