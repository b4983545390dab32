-- What a name, a number and a mark make of a reader's state.
use Rattle.std.specs.Prelude.{◌≡◌, ℕ, true, false, Some, None, Option, ◌≢◌}
use Rattle.lexer.specs.declared.tokens.Kind.{Kind}
use Rattle.lexer.specs.declared.tokens.Kind.TheVariants as kind
use Rattle.catalogue.specs.declared.records.Span.{Span}
use Rattle.kit.specs.declared.shape.Side.{Side}
use Rattle.kit.specs.declared.shape.Side.TheVariants as side
use Rattle.catalogue.specs.declared.records.Subscript.{Subscript}
use Rattle.catalogue.specs.declared.records.Subscript.TheVariants as subscript
use Rattle.progress.specs.declared.state.End.{End}
use Rattle.progress.specs.declared.state.End.TheVariants as end
use Rattle.progress.specs.declared.state.State.{State}
use Rattle.progress.specs.declared.state.State.TheVariants as state

abbrev pub name_move : State → Span → Option State
name_move state.Start n = None
name_move state.Chip n = Some state.Called
name_move state.Called n = None
name_move state.Opened n = None
name_move (state.Pin d) n = Some (state.PinNamed d n)
name_move (state.PinNamed d p) n = None
name_move (state.WidthOpen d p) n = None
name_move (state.WidthRead d p m) n = None
name_move (state.PinWide d p m) n = None
name_move state.InsRead n = None
name_move state.Headed n = None
name_move state.Parts n = None
name_move state.FirstLine n = Some (state.PartNamed n)
name_move state.NextLine n = Some (state.PartNamed n)
name_move (state.PartNamed p) n = None
name_move (state.Connection p) n = Some (state.EndNamed p (end.Near n))
name_move (state.EndNamed p e) n = None
name_move (state.SubOpen p e) n = None
name_move (state.SubLow p e m) n = None
name_move (state.SubDots p e m) n = None
name_move (state.SubHigh p e m k) n = None
name_move (state.EndRead p e s) n = None
name_move (state.Equals p f) n = Some (state.EndNamed p (end.Far f n))
name_move (state.ConstantRead p f b) n = None
name_move state.Closed n = None
name_move state.Done n = None

abbrev pub number_move : State → ℕ → Option State
number_move state.Start n = None
number_move state.Chip n = None
number_move state.Called n = None
number_move state.Opened n = None
number_move (state.Pin d) n = None
number_move (state.PinNamed d p) n = None
number_move (state.WidthOpen d p) n = Some (state.WidthRead d p n)
number_move (state.WidthRead d p m) n = None
number_move (state.PinWide d p m) n = None
number_move state.InsRead n = None
number_move state.Headed n = None
number_move state.Parts n = None
number_move state.FirstLine n = None
number_move state.NextLine n = None
number_move (state.PartNamed p) n = None
number_move (state.Connection p) n = None
number_move (state.EndNamed p e) n = None
number_move (state.SubOpen p e) n = Some (state.SubLow p e n)
number_move (state.SubLow p e m) n = None
number_move (state.SubDots p e m) n = Some (state.SubHigh p e m n)
number_move (state.SubHigh p e m k) n = None
number_move (state.EndRead p e s) n = None
number_move (state.Equals p f) n = None
number_move (state.ConstantRead p f b) n = None
number_move state.Closed n = None
number_move state.Done n = None

-- nothing goes on
abbrev pub Stops : Option State → Type 0
Stops r = r ≡ None

-- the mark k goes on to this state if it is j, and else the answer is as the rest says
abbrev pub Turns : Kind → Kind → State → (Option State → Type 0) → Option State → Type 0
Turns k j to rest r = (k ≡ j → r ≡ Some to) × ((k ≢ j) → rest r)

abbrev pub pins_listed : Side → State
pins_listed side.In = state.InsRead
pins_listed side.Out = state.Headed

abbrev pub AfterPin : Side → Kind → Option State → Type 0
AfterPin d k = Turns k kind.Comma (state.Pin d) (Turns k kind.Semicolon (pins_listed d) Stops)

abbrev pub AfterConnection : Span → Kind → Option State → Type 0
AfterConnection p k = Turns k kind.Comma (state.Connection p) (Turns k kind.CloseParen state.Closed Stops)

abbrev pub AfterEnd : Span → End → Subscript → Kind → Option State → Type 0
AfterEnd p (end.Near n) s k = Turns k kind.Equals (state.Equals p (record { name = n; bits = s })) Stops
AfterEnd p (end.Far f n) s k = AfterConnection p k

abbrev pub MarkMove : State → Kind → Option State → Type 0
MarkMove state.Start k = Turns k kind.Chip state.Chip Stops
MarkMove state.Chip k = Stops
MarkMove state.Called k = Turns k kind.OpenBrace state.Opened Stops
MarkMove state.Opened k = Turns k kind.In (state.Pin side.In) (Turns k kind.Out (state.Pin side.Out) Stops)
MarkMove (state.Pin d) k = Stops
MarkMove (state.PinNamed d p) k = Turns k kind.OpenBracket (state.WidthOpen d p) (AfterPin d k)
MarkMove (state.WidthOpen d p) k = Stops
MarkMove (state.WidthRead d p m) k = Turns k kind.CloseBracket (state.PinWide d p m) Stops
MarkMove (state.PinWide d p m) k = AfterPin d k
MarkMove state.InsRead k = Turns k kind.Out (state.Pin side.Out) Stops
MarkMove state.Headed k = Turns k kind.Parts state.Parts Stops
MarkMove state.Parts k = Turns k kind.Colon state.FirstLine Stops
MarkMove state.FirstLine k = Stops
MarkMove state.NextLine k = Turns k kind.CloseBrace state.Done Stops
MarkMove (state.PartNamed p) k = Turns k kind.OpenParen (state.Connection p) Stops
MarkMove (state.Connection p) k = Stops
MarkMove (state.EndNamed p e) k = Turns k kind.OpenBracket (state.SubOpen p e) (AfterEnd p e subscript.All k)
MarkMove (state.SubOpen p e) k = Stops
MarkMove (state.SubLow p e m) k =
    Turns k kind.CloseBracket (state.EndRead p e (subscript.Bit m)) (Turns k kind.Dots (state.SubDots p e m) Stops)
MarkMove (state.SubDots p e m) k = Stops
MarkMove (state.SubHigh p e m n) k = Turns k kind.CloseBracket (state.EndRead p e (subscript.Range m n)) Stops
MarkMove (state.EndRead p e s) k = AfterEnd p e s k
MarkMove (state.Equals p f) k =
    Turns k kind.True (state.ConstantRead p f true) (Turns k kind.False (state.ConstantRead p f false) Stops)
MarkMove (state.ConstantRead p f b) k = AfterConnection p k
MarkMove state.Closed k = Turns k kind.Semicolon state.NextLine Stops
MarkMove state.Done k = Stops
