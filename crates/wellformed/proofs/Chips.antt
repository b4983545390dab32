-- The records of one text stand in the order of its lexemes.
use Rattle.std.proofs.Common.{◌≡◌, ℕ, suc, ◌+◌, ◌<◌, ◌≤◌, List, [], ◌∷◌, ◌++◌, length, Some, None, codes, Option, refl, ap, inr, arith, length-append}
use Rattle.std.specs.List.{AllByRecursion as All}
use Rattle.fault.specs.declared.Place.{Place}
use Rattle.lexer.specs.Lexemes.{Lexeme, fixed}
use Rattle.kit.specs.declared.shape.Side.{Side}
use Rattle.kit.specs.declared.shape.Side.TheVariants as variants
use Rattle.grammar.specs.Tree.{Name, Row, items, Pin, FarEnd, constant, pin, Connection, Part, Chip}
use Rattle.grammar.specs.Spelling.{mark, named, separated, pin_words, pins_words, subscript_words, far_words, connection_words, part_words, ins_words, header_words, parts_words, chip_words}
use Rattle.catalogue.specs.declared.records.Span.{Span}
use Rattle.catalogue.specs.declared.records.Subscript.{Subscript}
use Rattle.catalogue.specs.declared.records.FarEnd.TheVariants as far
use Rattle.catalogue.specs.declared.records.Piece.TheVariants as piece
use Rattle.catalogue.specs.declared.records.PartRecord.{PartRecord}
use Rattle.catalogue.specs.Records.{span, width_of, side_pins, in_pins, header_pins, far_of, connection_record, connection_records, part_records, lines_connections}
use Rattle.wellformed.specs.Places.{far_byte}
use Rattle.wellformed.proofs.Laid.{Laid, Rows, end, item, first, forward, split, front, rows}
use Rattle.wellformed.proofs.Runs as runs
use Rattle.wellformed.proofs.Runs.{Before, UpTo, Run, run_append, run_from}
use Rattle.wellformed.proofs.Lines as lines
use Rattle.wellformed.proofs.Lines.{pin_at, near_at, far_at, Own, Line, Lines, lines_from}

separated_rows : {X : Type 0} (f : X → List Lexeme) (r : Row X) {a b : ℕ} → Laid a (separated f r) b → Rows f a (items r) b
separated_rows f r h = rows f (λ x. f x ++ mark (codes ",")) (λ x p q k. front (f x) (mark (codes ",")) k) r.init r.last h

-- all in the text of the entry e
module _ (e : ℕ) where
  abbrev pub here : ℕ → Place
  here a = record { entry = e; byte = a }

  on : {a b : ℕ} → a ≤ b → UpTo (here a) (here b)
  on h = record { is = inr (refl, h) }

  before : {a b : ℕ} → a < b → Before (here a) (here b)
  before h = record { is = inr (refl, h) }

  pins : (d : Side) (at : ℕ) {a b : ℕ} {ps : List Pin} → Rows pin_words a ps b → Run pin_at pin_at (here a) (side_pins e d at ps) (here b)
  pins d at (end h) = runs.none (on h)
  pins d at (item {x = x} l r) =
      let f = first l in
      runs.next (on f.1.0) (on (forward l)) (before (omega (arith, f.1, forward f.2))) (pins d (at + width_of x) r)

  side : (d : Side) {a b : ℕ} (r : Row Pin) → Laid a (pins_words r) b → Run pin_at pin_at (here a) (side_pins e d 0 (items r)) (here b)
  side d r h = pins d 0 (separated_rows pin_words r (front (separated pin_words r) (mark (codes ";")) h))

  ins : {a b : ℕ} (o : Option (Row Pin)) → Laid a (ins_words o) b → Run pin_at pin_at (here a) (in_pins e o) (here b)
  ins None h = runs.none (on (forward h))
  ins (Some r) h = let f = first h in run_from (on f.1) (side variants.In r f.2)

  -- the far end of a connection
  far_within : (n : Name) (f : FarEnd) {a b : ℕ} → n.first < a → Laid a (far_words f) b → far_byte (span n) (far_of f) < b
  far_within n (constant v) l h = omega (arith, forward h)
  far_within n (pin m s) l h = let f = first h in omega (arith, f.1, forward f.2)

  far_behind : (n : Name) (f : FarEnd) {a b : ℕ} → n.first < a → Laid a (far_words f) b → (m : Span) (s : Subscript) → far_of f ≡ far.Pin m s → n.first < far_byte (span n) (far_of f)
  far_behind n (constant v) l h m s g = let z : ◌≡◌ {A = ℕ} 0 1 = cc in omega arith
  far_behind n (pin o t) l h m s g = omega (arith, (first h).1)

  -- the connections of the part of the number k
  module _ (k : ℕ) where
    record Stands (a : ℕ) (c : Connection) (b : ℕ) : Type 0 where
      pub from : a ≤ c.near.first
      pub until : far_byte (span c.near) (far_of c.far) < b
      pub own : Own k e (connection_record e k c)

    stands : (c : Connection) {a b : ℕ} → Laid a (connection_words c) b → Stands a c b
    stands c h =
        let f = first h in
        let s = split (subscript_words c.bits) (fixed (codes "=") ∷ far_words c.far) f.2 in
        let g = first s.2 in
        let l : c.near.first < g.0 = omega (arith, f.1, forward s.1, g.1) in
        record {
          from = f.1.0;
          until = far_within c.near c.far l g.2;
          own = record { number = refl; entry = refl; behind = λ m t d. inr (refl, far_behind c.near c.far l g.2 m t d) };
        }

    run : {a b : ℕ} {cs : List Connection} → Rows connection_words a cs b → Run near_at far_at (here a) (connection_records e k cs) (here b)
    run (end h) = runs.none (on h)
    run (item {x = x} l r) = let s = stands x l in runs.next (on s.from) (on (forward l)) (before s.until) (run r)

    own : {a b : ℕ} {cs : List Connection} → Rows connection_words a cs b → All (Own k e) (connection_records e k cs)
    own (end h) = tt
    own (item {x = x} l r) = ((stands x l).own, own r)

    as_many : (cs : List Connection) → length cs ≡ length (connection_records e k cs)
    as_many [] = refl
    as_many (c ∷ cs) = ap suc (as_many cs)

  -- the part lines
  abbrev part_record : ℕ → Part → PartRecord
  part_record at p =
      record { entry = e; name = span p.name; connections = at; count = length (items p.connections); piece = piece.Entry 0 }

  part_line : (k at : ℕ) (p : Part) {a b : ℕ} → Laid a (part_words p) b → Line k at (here a) (part_record at p) (connection_records e k (items p.connections)) (here b)
  part_line k at p h =
      let f = first h in
      let g = first f.2 in
      let r = separated_rows connection_words p.connections (front (separated connection_words p.connections) (fixed (codes ")") ∷ mark (codes ";")) g.2) in
      let n = as_many k (items p.connections) in
      record {
        opening = here g.0;
        starts = on f.1.0;
        opens = before (omega (arith, f.1, g.1));
        run = run k r;
        own = own k r;
        first = refl;
        counted = n;
        some = omega (arith, n, length-append p.connections.init (p.connections.last ∷ []));
      }

  part_lines : (k at : ℕ) {a b : ℕ} {ps : List Part} → Rows part_words a ps b → Lines k at (here a) (part_records e at ps) (lines_connections e k ps) (here b)
  part_lines k at (end h) = lines.none (on h)
  part_lines k at (item {x = x} l r) = lines.line (part_line k at x l) (part_lines (k + 1) (at + length (items x.connections)) r)

  -- the header's pins stand before the parts, whatever numbers these have
  pub record Chips (c : Chip) (q : ℕ) : Type 0 where
    pub middle : ℕ
    pub header : Run pin_at pin_at (here 0) (header_pins e c.header) (here middle)
    pub parts : (k at : ℕ) → Lines k at (here middle) (part_records e at (items c.parts)) (lines_connections e k (items c.parts)) (here q)

  pub chip : (c : Chip) (q : ℕ) → Laid 0 (chip_words c) q → Chips c q
  chip c q h =
      let d = c.header in
      let s = split (header_words d) (fixed (codes "PARTS") ∷ (fixed (codes ":") ∷ (parts_words c.parts ++ mark (codes "}")))) h in
      let t = split (fixed (codes "CHIP") ∷ (named d.name ++ mark (codes "{"))) (ins_words d.ins ++ (fixed (codes "OUT") ∷ pins_words d.outs)) s.1 in
      let i = split (ins_words d.ins) (fixed (codes "OUT") ∷ pins_words d.outs) t.2 in
      let o = first i.2 in
      let f = first s.2 in
      let g = first f.2 in
      let p = front (parts_words c.parts) (mark (codes "}")) g.2 in
      record {
        middle = s.0;
        header = run_append (run_from (on (forward t.1)) (ins d.ins i.1)) (run_from (on o.1) (side variants.Out d.outs o.2));
        parts = λ k at. lines_from (on (omega (arith, f.1, g.1))) (part_lines k at (rows part_words part_words (λ x a b l. l) c.parts.init c.parts.last p));
      }
