-- Parts with their connections, line by line.
use Rattle.std.proofs.Common.{◌≡◌, ℕ, zero, suc, ◌+◌, ◌-◌, ◌<◌, ◌≤◌, cond, ltb, List, [], ◌∷◌, ◌++◌, length, get_or, drop, sym, refl, ◌∙◌, ⊎_elim, append_assoc, arith, length-append}
use Prim.Native.Nat.compare
use Rattle.std.specs.List.{AllByRecursion as All}
use Rattle.std.proofs.lemmas.List.{get_or_append_left, get_or-append_right}
use Rattle.std.proofs.ByRecursion.{All-get_or, All-weaker, All-append}
use Rattle.std.proofs.lemmas.Bool.{cases_lt, cond_below}
use Rattle.fault.specs.declared.Place.{Place}
use Rattle.catalogue.specs.declared.records.Span.{Span}
use Rattle.catalogue.specs.declared.records.Subscript.{Subscript}
use Rattle.catalogue.specs.declared.records.FarEnd.TheVariants as far
use Rattle.catalogue.specs.declared.records.PinRecord.{PinRecord}
use Rattle.catalogue.specs.declared.records.PartRecord.{PartRecord}
use Rattle.catalogue.specs.declared.records.ConnectionRecord.{ConnectionRecord}
use Rattle.catalogue.specs.Records.{blank_part, blank_connection}
use Rattle.wellformed.specs.Places.{Sooner, far_byte}
use Rattle.wellformed.proofs.Runs as runs
use Rattle.wellformed.proofs.Runs.{Before, UpTo, upto, upto_upto, before_upto, Run, run_forward, run_from, run_append, run_starts, run_ends}

-- where records stand
abbrev pub pin_at : PinRecord → Place
pin_at p = record { entry = p.entry; byte = p.name.first }

abbrev pub part_at : PartRecord → Place
part_at q = record { entry = q.entry; byte = q.name.first }

abbrev pub near_at : ConnectionRecord → Place
near_at c = record { entry = c.entry; byte = c.name.first }

abbrev pub far_at : ConnectionRecord → Place
far_at c = record { entry = c.entry; byte = far_byte c.name c.far }

-- a pin at the far end stands behind the near end
abbrev pub Behind : ConnectionRecord → Type 0
Behind c = (n : Span) (b : Subscript) → c.far ≡ far.Pin n b → Sooner (near_at c) (far_at c)

-- a connection of the part of this number, in this entry
pub record Own (k e : ℕ) (c : ConnectionRecord) : Type 0 where
  pub number : c.part ≡ k
  pub entry : c.entry ≡ e
  pub behind : Behind c

-- the part q and its connections stand from a to b: its number is k, and that of its first connection at
pub record Line (k at : ℕ) (a : Place) (q : PartRecord) (cs : List ConnectionRecord) (b : Place) : Type 0 where
  pub opening : Place
  pub starts : UpTo a (part_at q)
  pub opens : Before (part_at q) opening
  pub run : Run near_at far_at opening cs b
  pub own : All (Own k q.entry) cs
  pub first : q.connections ≡ at
  pub counted : q.count ≡ length cs
  pub some : 1 ≤ length cs

-- line behind line, from a to b: the first part has the number k, and its first connection the number at
pub data Lines : ℕ → ℕ → Place → List PartRecord → List ConnectionRecord → Place → Type 0 where
  none : {k at : ℕ} {a b : Place} → UpTo a b → Lines k at a [] [] b
  line : {k at : ℕ} {a m b : Place} {q : PartRecord} {qs : List PartRecord} {cs ds : List ConnectionRecord} →
      Line k at a q cs m → Lines (k + 1) (at + q.count) m qs ds b → Lines k at a (q ∷ qs) (cs ++ ds) b

module _ {k at : ℕ} {a b : Place} {q : PartRecord} {cs : List ConnectionRecord} (l : Line k at a q cs b) where
  line_opening : UpTo a l.opening
  line_opening = upto_upto l.starts (upto l.opens)

  line_forward : UpTo a b
  line_forward = upto_upto line_opening (run_forward l.run)

-- the parts, and the connections, of lines stand one behind another
pub lines_parts : {k at : ℕ} {a b : Place} {qs : List PartRecord} {cs : List ConnectionRecord} → Lines k at a qs cs b → Run part_at part_at a qs b
lines_parts (none h) = runs.none h
lines_parts (line l r) = runs.next l.starts (line_forward l) (before_upto l.opens (run_forward l.run)) (lines_parts r)

pub lines_connections : {k at : ℕ} {a b : Place} {qs : List PartRecord} {cs : List ConnectionRecord} → Lines k at a qs cs b → Run near_at far_at a cs b
lines_connections (none h) = runs.none h
lines_connections (line l r) = run_append (run_from (line_opening l) l.run) (lines_connections r)

pub lines_behind : {k at : ℕ} {a b : Place} {qs : List PartRecord} {cs : List ConnectionRecord} → Lines k at a qs cs b → All Behind cs
lines_behind (none h) = tt
lines_behind (line {cs = cs} {ds = ds} l r) = All-append Behind cs ds (All-weaker _ Behind (λ c h. h.behind) cs l.own) (lines_behind r)

-- from an earlier place, and to a later one
pub lines_from : {k at : ℕ} {a b c : Place} {qs : List PartRecord} {cs : List ConnectionRecord} → UpTo a b → Lines k at b qs cs c → Lines k at a qs cs c
lines_from h (none k) = none (upto_upto h k)
lines_from h (line l r) =
    line (record { opening = l.opening; starts = upto_upto h l.starts; opens = l.opens; run = l.run; own = l.own; first = l.first; counted = l.counted; some = l.some }) r

pub lines_until : {k at : ℕ} {a b c : Place} {qs : List PartRecord} {cs : List ConnectionRecord} → UpTo b c → Lines k at a qs cs b → Lines k at a qs cs c
lines_until h (none k) = none (upto_upto k h)
lines_until h (line l r) = line l (lines_until h r)

-- lines behind these
pub lines_append : {k at : ℕ} {a b : Place} {ps : List PartRecord} {cs : List ConnectionRecord} (l m : ℕ) (c : Place) (qs : List PartRecord) (ds : List ConnectionRecord) →
    Lines k at a ps cs b → l ≡ k + length ps → m ≡ at + length cs → Lines l m b qs ds c → Lines k at a (ps ++ qs) (cs ++ ds) c
lines_append {k} {at} l m c qs ds (none h) e f r =
    let g : k ≡ l = omega arith in
    let i : at ≡ m = omega arith in
    lines_from h (rw (g, i) r)
lines_append l m c qs ds (line {cs = cs} {ds = es} n r) e f s =
    rw append_assoc (line n (lines_append l m c qs ds r (omega arith) (omega (arith, n.counted, length-append cs es)) s))

-- what a line tells of the connections cs, of which the first has the number at
pub record LineAt (k at : ℕ) (cs : List ConnectionRecord) (p : ℕ) (q : PartRecord) : Type 0 where
  pub from : at ≤ q.connections
  pub some : 1 ≤ q.count
  pub within : q.connections + q.count ≤ at + length cs
  pub own : (i : ℕ) → q.connections ≤ at + i → at + i < q.connections + q.count → (get_or cs i blank_connection).part ≡ k + p

pub line_at : {k at : ℕ} {a b : Place} {qs : List PartRecord} {cs : List ConnectionRecord} (p : ℕ) → Lines k at a qs cs b → p < length qs → LineAt k at cs p (get_or qs p blank_part)
line_at p (none h) l = absurd (omega arith)
line_at zero (line {cs = cs} {ds = ds} n r) l = record {
  from = omega (arith, n.first);
  some = omega (arith, n.counted, n.some);
  within = omega (arith, n.first, n.counted, length-append cs ds);
  own = λ i g h.
      let b : i < length cs = omega (arith, n.first, n.counted) in
      rw get_or_append_left (omega (arith, (All-get_or _ cs i blank_connection b n.own).number));
}
line_at (suc p) (line {cs = cs} {ds = ds} n r) l =
    let h = line_at p r (omega arith) in
    record {
      from = omega (arith, h.from);
      some = h.some;
      within = omega (arith, h.within, n.counted, length-append cs ds);
      own = λ i g u.
          let b : length cs ≤ i = omega (arith, h.from, n.counted) in
          rw (get_or-append_right cs ds (length cs) i blank_connection refl) (omega (arith, h.own (i - length cs) (omega (arith, n.counted)) (omega (arith, n.counted))));
    }

-- what a connection tells of the parts
pub record ConnectionAt (k at : ℕ) (qs : List PartRecord) (i : ℕ) (c : ConnectionRecord) : Type 0 where
  pub line : ℕ
  pub number : c.part ≡ k + line
  pub below : line < length qs
  pub same : c.entry ≡ (get_or qs line blank_part).entry
  pub from : (get_or qs line blank_part).connections ≤ at + i
  pub until : at + i < (get_or qs line blank_part).connections + (get_or qs line blank_part).count
  pub behind : Before (part_at (get_or qs line blank_part)) (near_at c)
  pub ahead : All (λ q. Before (far_at c) (part_at q)) (drop (suc line) qs)

pub connection_at : {k at : ℕ} {a b : Place} {qs : List PartRecord} {cs : List ConnectionRecord} (i : ℕ) → Lines k at a qs cs b → i < length cs → ConnectionAt k at qs i (get_or cs i blank_connection)
connection_at i (none h) l = absurd (omega arith)
connection_at i (line {qs = qs} {cs = cs} {ds = ds} n r) l =
    ⊎_elim
    (λ (h : i < length cs). rw get_or_append_left
    (let o = All-get_or _ cs i blank_connection h n.own in
    let s = All-get_or _ cs i blank_connection h (run_starts n.run) in
    let f = All-get_or _ cs i blank_connection h (run_ends n.run) in
    record {
      line = zero;
      number = omega (arith, o.number);
      below = omega arith;
      same = o.entry;
      from = omega (arith, n.first);
      until = omega (arith, n.first, n.counted);
      behind = before_upto n.opens s;
      ahead = All-weaker _ _ (λ x u. before_upto f u) qs (run_starts (lines_parts r));
    }))
    (λ (h : length cs ≤ i). rw (get_or-append_right cs ds (length cs) i blank_connection refl)
    (let c = connection_at (i - length cs) r (omega (arith, length-append cs ds)) in
    record {
      line = suc c.line;
      number = omega (arith, c.number);
      below = omega (arith, c.below);
      same = c.same;
      from = omega (arith, c.from, n.counted);
      until = omega (arith, c.until, n.counted);
      behind = c.behind;
      ahead = c.ahead;
    }))
    (cases_lt i (length cs))

-- where the connections of the p-th part begin, or the end of all where there are just p
abbrev start : List PartRecord → ℕ → ℕ → ℕ
start qs end p = cond (ltb p (length qs)) (get_or qs p blank_part).connections end

module _ (end : ℕ) where
  -- the first line begins where the lines do
  pub lines_start : {k at : ℕ} {a b : Place} {qs : List PartRecord} {cs : List ConnectionRecord} → Lines k at a qs cs b → end ≡ at + length cs → start qs end 0 ≡ at
  lines_start (none h) e = omega arith
  lines_start (line {q = q} {qs = qs} n r) e = sym (cond_below 0 (length (q ∷ qs)) q.connections end (omega arith)) ∙ n.first

  -- each line ends where the next begins
  pub lines_next : {k at : ℕ} {a b : Place} {qs : List PartRecord} {cs : List ConnectionRecord} (p : ℕ) → Lines k at a qs cs b → end ≡ at + length cs → p < length qs →
      start qs end (suc p) ≡ (get_or qs p blank_part).connections + (get_or qs p blank_part).count
  lines_next p (none h) e l = absurd (omega arith)
  lines_next zero (line {cs = cs} {ds = ds} n r) e l =
      rw compare.suc-suc (lines_start r (omega (arith, n.counted, length-append cs ds)) ∙ omega (arith, n.first))
  lines_next (suc p) (line {cs = cs} {ds = ds} n r) e l =
      rw compare.suc-suc (lines_next p r (omega (arith, n.counted, length-append cs ds)) (omega arith))
