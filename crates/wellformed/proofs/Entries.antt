-- The records of the texts that are read stand one text behind another.
use Rattle.std.proofs.Common.{◌≡◌, ℕ, suc, List, [], ◌∷◌, ◌++◌, length, inl, inr, arith}
use Rattle.std.specs.List.{AllByRecursion as All}
use Rattle.std.proofs.ByRecursion.{All-weaker, All-append}
use Rattle.fault.specs.declared.Place.{Place}
use Rattle.bundle.specs.Layout.{name, text}
use Rattle.grammar.specs.Tree.{Chip, items}
use Rattle.catalogue.specs.declared.records.PinRecord.{PinRecord}
use Rattle.catalogue.specs.declared.records.PartRecord.{PartRecord}
use Rattle.catalogue.specs.Records.{Records, with_chip, header_pins, part_records, lines_connections}
use Rattle.parser.specs.Reading.{Reads}
use Rattle.reader.specs.Verdicts.{ReadUpto, none, more}
use Rattle.wellformed.specs.Places.{Sooner}
use Rattle.wellformed.proofs.Laid.{laid}
use Rattle.wellformed.proofs.Runs as runs
use Rattle.wellformed.proofs.Runs.{UpTo, before_upto, Run, run_append, run_until, run_forward, run_from, run_starts, run_ends}
use Rattle.wellformed.proofs.Lines as lines
use Rattle.wellformed.proofs.Lines.{pin_at, part_at, Lines, lines_parts, lines_append, lines_until, lines_from}
use Rattle.wellformed.proofs.Chips.{here, chip}

module _ {X Y : Type 0} (R : X → Y → Type 0) where
  -- each of these with each of those
  abbrev pub Cross : List X → List Y → Type 0
  Cross xs ys = All (λ x. All (R x) ys) xs

  cross : (P : X → Type 0) (Q : Y → Type 0) (xs : List X) (ys : List Y) → ((x : X) (y : Y) → P x → Q y → R x y) → All P xs → All Q ys → Cross xs ys
  cross P Q xs ys f h k = All-weaker P _ (λ x p. All-weaker Q (R x) (λ y q. f x y p q) ys k) xs h

  cross_append : (xs : List X) (ys zs : List Y) → Cross xs ys → Cross xs zs → Cross xs (ys ++ zs)
  cross_append [] ys zs h k = tt
  cross_append (x ∷ xs) ys zs h k = (All-append (R x) ys zs h.0 k.0, cross_append xs ys zs h.1 k.1)

-- a pin stands before the parts of its text
abbrev pub HeaderFirst : PinRecord → PartRecord → Type 0
HeaderFirst p q = p.entry ≡ q.entry → Sooner (pin_at p) (part_at q)

-- the records are those of the first k texts, in their order
pub record InOrder (k : ℕ) (r : Records) : Type 0 where
  pub pins : Run pin_at pin_at (here 0 0) r.pins (here k 0)
  pub lines : Lines 0 0 (here 0 0) r.parts r.connections (here k 0)
  pub headers : Cross HeaderFirst r.pins r.parts

-- old and new pins with old and new parts
headers_more : (k : ℕ) {a b c m : Place} (ps os : List PinRecord) (qs rs : List PartRecord) →
    Run pin_at pin_at a ps (here k 0) → Run part_at part_at b qs (here k 0) → Run pin_at pin_at (here k 0) os m → Run part_at part_at m rs c →
    Cross HeaderFirst ps qs → Cross HeaderFirst (ps ++ os) (qs ++ rs)
headers_more k ps os qs rs f g h l old =
    All-append _ ps os
    (cross_append HeaderFirst ps qs rs old (cross HeaderFirst _ _ ps rs (λ x y u v e. (before_upto u v).is) (run_ends f) (run_starts (run_from (run_forward h) l))))
    (cross_append HeaderFirst os qs rs
    (cross HeaderFirst _ _ os qs (λ x y u v e. absurd (omega (arith, u.is, v.is))) (run_starts h) (run_ends g))
    (cross HeaderFirst _ _ os rs (λ x y u v e. (before_upto u v).is) (run_ends h) (run_starts l)))

one_more : (s : List ℕ) (k : ℕ) (r : Records) (c : Chip) → InOrder k r → Reads (name s k) r (text s k) c → InOrder (suc k) (with_chip r k c)
one_more s k r c h t =
    let n = chip k c t.place (laid t.lexed) in
    let ps = header_pins k c.header in
    let qs = part_records k (length r.connections) (items c.parts) in
    let ds = lines_connections k (length r.parts) (items c.parts) in
    let l : Lines (length r.parts) (length r.connections) (here k n.middle) qs ds (here k t.place) = n.parts (length r.parts) (length r.connections) in
    let past : (a : ℕ) → UpTo (here k a) (here (suc k) 0) = λ a. record { is = inl (omega arith) } in
    record {
      pins = run_append h.pins (run_until (past _) n.header);
      lines = lines_append _ _ _ _ _ h.lines (omega arith) (omega arith) (lines_from (run_forward n.header) (lines_until (past _) l));
      headers = headers_more k r.pins ps r.parts qs h.pins (lines_parts h.lines) n.header (lines_parts l) h.headers;
    }

pub in_order : (s : List ℕ) (k : ℕ) (r : Records) → ReadUpto s k r → InOrder k r
in_order s k r none =
    let h : UpTo (here 0 0) (here 0 0) = record { is = inr (omega arith) } in
    record { pins = runs.none h; lines = lines.none h; headers = tt }
in_order s k r (more j q c h t) = one_more s j q c (in_order s j q h) t
