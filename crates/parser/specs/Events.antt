-- What a token says to the catalogue, by the state that a reader leaves and the one that it reaches.
use Rattle.std.specs.Prelude.{Bool, true, false, cond, Some, None, Option}
use Rattle.catalogue.specs.declared.records.Span.{Span}
use Rattle.catalogue.specs.declared.records.Subscript.{Subscript}
use Rattle.catalogue.specs.declared.records.Subscript.TheVariants as subscript
use Rattle.catalogue.specs.declared.records.FarEnd.TheVariants as far
use Rattle.progress.specs.declared.state.End.{End}
use Rattle.progress.specs.declared.state.End.TheVariants as end
use Rattle.progress.specs.declared.state.State.{State}
use Rattle.progress.specs.declared.state.State.TheVariants as state
use Rattle.parser.specs.declared.events.Event.{Event}
use Rattle.parser.specs.declared.events.Event.TheVariants as event

-- behind the bracket of a width or a subscript
abbrev pub opens : State → Bool
opens state.Start = false
opens state.Chip = false
opens state.Called = false
opens state.Opened = false
opens (state.Pin d) = false
opens (state.PinNamed d p) = false
opens (state.WidthOpen d p) = true
opens (state.WidthRead d p m) = false
opens (state.PinWide d p m) = false
opens state.InsRead = false
opens state.Headed = false
opens state.Parts = false
opens state.FirstLine = false
opens state.NextLine = false
opens (state.PartNamed p) = false
opens (state.Connection p) = false
opens (state.EndNamed p e) = false
opens (state.SubOpen p e) = true
opens (state.SubLow p e m) = false
opens (state.SubDots p e m) = false
opens (state.SubHigh p e m k) = false
opens (state.EndRead p e s) = false
opens (state.Equals p f) = false
opens (state.ConstantRead p f b) = false
opens state.Closed = false
opens state.Done = false

-- behind the parenthesis of a part line
abbrev pub closes : State → Bool
closes state.Start = false
closes state.Chip = false
closes state.Called = false
closes state.Opened = false
closes (state.Pin d) = false
closes (state.PinNamed d p) = false
closes (state.WidthOpen d p) = false
closes (state.WidthRead d p m) = false
closes (state.PinWide d p m) = false
closes state.InsRead = false
closes state.Headed = false
closes state.Parts = false
closes state.FirstLine = false
closes state.NextLine = false
closes (state.PartNamed p) = false
closes (state.Connection p) = false
closes (state.EndNamed p e) = false
closes (state.SubOpen p e) = false
closes (state.SubLow p e m) = false
closes (state.SubDots p e m) = false
closes (state.SubHigh p e m k) = false
closes (state.EndRead p e s) = false
closes (state.Equals p f) = false
closes (state.ConstantRead p f b) = false
closes state.Closed = true
closes state.Done = false

-- behind the last brace
abbrev pub is_done : State → Bool
is_done state.Start = false
is_done state.Chip = false
is_done state.Called = false
is_done state.Opened = false
is_done (state.Pin d) = false
is_done (state.PinNamed d p) = false
is_done (state.WidthOpen d p) = false
is_done (state.WidthRead d p m) = false
is_done (state.PinWide d p m) = false
is_done state.InsRead = false
is_done state.Headed = false
is_done state.Parts = false
is_done state.FirstLine = false
is_done state.NextLine = false
is_done (state.PartNamed p) = false
is_done (state.Connection p) = false
is_done (state.EndNamed p e) = false
is_done (state.SubOpen p e) = false
is_done (state.SubLow p e m) = false
is_done (state.SubDots p e m) = false
is_done (state.SubHigh p e m k) = false
is_done (state.EndRead p e s) = false
is_done (state.Equals p f) = false
is_done (state.ConstantRead p f b) = false
is_done state.Closed = false
is_done state.Done = true

-- the part's name, where its line is complete; n is the state that is reached
abbrev pub line_end : Span → State → Option Span
line_end p n = cond (closes n) (Some p) None

-- none where it says nothing. An end with its subscript, in the part line of p; n is the state behind it
abbrev pub end_event : Span → End → Subscript → State → Option Event
end_event p (end.Near m) s n = None
end_event p (end.Far f m) s n = Some (event.ConnectionEnded f (far.Pin m s) (line_end p n))

-- where n is the state that is reached
abbrev pub event_of : State → State → Option Event
event_of state.Start n = None
event_of state.Chip n = Some event.ChipNamed
event_of state.Called n = None
event_of state.Opened n = Some event.SideBegun
event_of (state.Pin d) n = Some event.PinBegun
event_of (state.PinNamed d p) n = cond (opens n) None (Some (event.PinEnded d p 1))
event_of (state.WidthOpen d p) n = None
event_of (state.WidthRead d p m) n = None
event_of (state.PinWide d p m) n = Some (event.PinEnded d p m)
event_of state.InsRead n = Some event.SideBegun
event_of state.Headed n = None
event_of state.Parts n = None
event_of state.FirstLine n = Some event.PartBegun
event_of state.NextLine n = cond (is_done n) None (Some event.PartBegun)
event_of (state.PartNamed p) n = None
event_of (state.Connection p) n = Some event.ConnectionBegun
event_of (state.EndNamed p e) n = cond (opens n) None (end_event p e subscript.All n)
event_of (state.SubOpen p e) n = None
event_of (state.SubLow p e m) n = None
event_of (state.SubDots p e m) n = None
event_of (state.SubHigh p e m k) n = None
event_of (state.EndRead p e s) n = end_event p e s n
event_of (state.Equals p f) n = None
event_of (state.ConstantRead p f b) n = Some (event.ConnectionEnded f (far.Constant b) (line_end p n))
event_of state.Closed n = None
event_of state.Done n = None
