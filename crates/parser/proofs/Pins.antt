-- Whether a pin of a text is declared among those that the catalogue has.
use Rattle.std.proofs.Common.{◌≡◌, ℕ, ◌+◌, ◌-◌, ◌<◌, min, List, length, take, drop, get_or, sym, ap, ◌∙◌, arith}
use Rattle.std.proofs.lemmas.List.{take_rest, get_or-drop, get_or-take, length-take, length-drop}
use Rattle.catalogue.specs.declared.records.Span.{Span}
use Rattle.catalogue.specs.declared.records.PinRecord.{PinRecord}
use Rattle.catalogue.specs.declared.room.Catalogue.{Catalogue}
use Rattle.catalogue.specs.Records.{blank_pin}
use Rattle.catalogue.specs.Cuts.{cut}
use Rattle.parser.specs.Keeping.{Among, Declared}

module _ (s : List ℕ) (c : Catalogue) (from m : ℕ) (ps : List PinRecord) (is : ps ≡ take c.pins.used c.pins.rows.now) (low : m ≡ min from (length ps)) where
  abbrev pub own : List PinRecord
  own = take (length ps - m) (drop m ps)

  used : length ps ≡ c.pins.used
  used = ap length is ∙ omega (arith, length-take c.pins.used c.pins.rows.now, c.pins.within)

  long : length own ≡ length ps - m
  long = ap length (take_rest ps m) ∙ length-drop m ps

  own_at : (i : ℕ) → m + i < c.pins.used → get_or own i blank_pin ≡ get_or c.pins.rows.now (m + i) blank_pin
  own_at i l =
      ap (λ l. get_or l i blank_pin) (take_rest ps m)
      ∙ get_or-drop m ps i blank_pin
      ∙ ap (λ l. get_or l (m + i) blank_pin) is
      ∙ get_or-take c.pins.used c.pins.rows.now (m + i) blank_pin l

  pub among_declared : (x : Span) (n : List ℕ) → n ≡ cut s x → Among s own n → Declared s from c x
  among_declared x n e a =
      record { at = m + a.at; after = omega (arith, a.below, long, low); below = omega (arith, a.below, long, used); same = ap (λ p. cut s p.name) (sym (own_at a.at (omega (arith, a.below, long, used)))) ∙ a.same ∙ e }

  pub declared_among : (x : Span) (n : List ℕ) → n ≡ cut s x → Declared s from c x → Among s own n
  declared_among x n e d =
      let i = d.at - m in
      let at : m + i ≡ d.at = omega (arith, d.after, d.below, used, low) in
      record { at = i; below = omega (arith, d.below, used, long, at, d.after, low); same = ap (λ p. cut s p.name) (own_at i (omega (arith, at, d.below)) ∙ ap (λ k. get_or c.pins.rows.now k blank_pin) at) ∙ d.same ∙ sym e }
