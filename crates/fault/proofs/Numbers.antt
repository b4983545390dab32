-- Each number is that of one cause.
use Rattle.std.proofs.Common.{◌≡◌, ℕ, [], ◌∷◌, get_or, sym, refl, ap, ◌∙◌}
use Rattle.fault.specs.declared.Cause.{Cause}
use Rattle.fault.specs.declared.Cause.TheVariants.{SmallCatalogue, BrokenLayout, TooManyRecords, NoToken, BrokenGrammar, OtherChipName, BadPin, UnknownPart, NoSuchPartPin, BadEnd, WidthsDiffer, FedTwice, LeftOpen, ChipsInRing, NoSuchTop, TooLarge, Loop, BlankBoard, WrongPhase, NoSuchPin, ValueTooWide, StaleBoard, NoTrialOpen, TrialOpen, TallyFull}
use Rattle.fault.specs.Faults.{number_of}

-- the causes by their numbers, from 1 on
abbrev numbered : ℕ → Cause
numbered n = get_or (SmallCatalogue ∷ SmallCatalogue ∷ BrokenLayout ∷ TooManyRecords ∷ NoToken ∷ BrokenGrammar ∷ OtherChipName ∷ BadPin ∷ UnknownPart ∷ NoSuchPartPin ∷ BadEnd ∷ WidthsDiffer ∷ FedTwice ∷ LeftOpen ∷ ChipsInRing ∷ NoSuchTop ∷ TooLarge ∷ Loop ∷ BlankBoard ∷ WrongPhase ∷ NoSuchPin ∷ ValueTooWide ∷ StaleBoard ∷ NoTrialOpen ∷ TrialOpen ∷ TallyFull ∷ []) n SmallCatalogue

numbered_is : (k : Cause) → numbered (number_of k) ≡ k
numbered_is SmallCatalogue = refl
numbered_is BrokenLayout = refl
numbered_is TooManyRecords = refl
numbered_is NoToken = refl
numbered_is BrokenGrammar = refl
numbered_is OtherChipName = refl
numbered_is BadPin = refl
numbered_is UnknownPart = refl
numbered_is NoSuchPartPin = refl
numbered_is BadEnd = refl
numbered_is WidthsDiffer = refl
numbered_is FedTwice = refl
numbered_is LeftOpen = refl
numbered_is ChipsInRing = refl
numbered_is NoSuchTop = refl
numbered_is TooLarge = refl
numbered_is Loop = refl
numbered_is BlankBoard = refl
numbered_is WrongPhase = refl
numbered_is NoSuchPin = refl
numbered_is ValueTooWide = refl
numbered_is StaleBoard = refl
numbered_is NoTrialOpen = refl
numbered_is TrialOpen = refl
numbered_is TallyFull = refl

pub one_cause : (k l : Cause) → number_of k ≡ number_of l → k ≡ l
one_cause k l e = sym (numbered_is k) ∙ ap numbered e ∙ numbered_is l
