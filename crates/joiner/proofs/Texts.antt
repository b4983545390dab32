-- Where the connections of a text begin.
use Rattle.std.proofs.Common.{◌≡◌, ℕ, ◌+◌, ◌-◌, ◌<◌, ◌≤◌, List, length, get_or, sym, ap, ◌∙◌, subst, ⊎_elim, arith}
use Rattle.std.proofs.lemmas.Bool.{cases_lt, cases_eq}
use Rattle.bundle.specs.Layout.{count}
use Rattle.kit.specs.Models.{Model}
use Rattle.catalogue.specs.declared.records.PinRecord.{PinRecord}
use Rattle.catalogue.specs.declared.records.PartRecord.{PartRecord}
use Rattle.catalogue.specs.declared.records.ConnectionRecord.{ConnectionRecord}
use Rattle.catalogue.specs.Records.{Records, blank_part}
use Rattle.reader.specs.Verdicts.{ReadUpto}
use Rattle.reader.proofs.OneBundle.{one_reading}
use Rattle.wellformed.specs.Places.{part, connection, connection_place}
use Rattle.wellformed.specs.WellFormed.{WellFormed}
use Rattle.joiner.specs.Stages.{BeginsText, LineStage, Stage, TextFrom, TextStart}
use Rattle.joiner.proofs.Order.{entry_upto, never_sooner, sooner_on, connections_sooner, part_behind}
use Rattle.joiner.proofs.Stages.{formed}

module _ (s : List ℕ) (r : Records) (w : WellFormed s r) where
  -- what stands before a part's first connection is of the parts before
  part_before : (p j : ℕ) → p < length r.parts → j < (part r p).connections → (connection r j).part < p
  part_before p j l n =
      let a = (part r p).connections in
      let q = (connection r j).part in
      let line = w.lines p l in
      let u : j < length r.connections = omega (arith, line.within) in
      let v : a < length r.connections = omega (arith, line.within, line.some) in
      let own : (connection r a).part ≡ p = line.own a (omega arith) (omega (arith, line.some)) in
      ⊎_elim (λ x. x)
      (λ (x : p ≤ q). absurd (⊎_elim
      (λ (y : p < q).
      let back = sooner_on _ _ _ (part_behind s r w a q v (omega (arith, own)) (w.belongs j u).below) (w.ordered.in_line j u) in
      never_sooner (connection_place r j) (sooner_on _ _ _ (connections_sooner s r w j a n v) back))
      (λ (y : q ≤ p). let e : q ≡ p = omega arith in omega (arith, (w.belongs j u).from, ap (λ z. (part r z).connections) e))
      (cases_lt p q)))
      (cases_lt q p)

  entries_rise : (p q : ℕ) → p ≤ q → q < length r.parts → (part r p).entry ≤ (part r q).entry
  entries_rise p q l n = ⊎_elim
      (λ (a : p < q). entry_upto _ _ (w.ordered.parts_rise p q a n))
      (λ (a : q ≤ p). let e : p ≡ q = omega arith in omega (arith, ap (λ z. (part r z).entry) e))
      (cases_lt p q)

  -- before the first part of a text, all connections are of other texts
  other_before : (p : ℕ) → p < length r.parts → ((q : ℕ) → q + 1 ≡ p → (part r q).entry ≡ (part r p).entry → ⊥) → (j : ℕ) → j < (part r p).connections → (connection r j).entry ≡ (part r p).entry → ⊥
  other_before p l new j n e =
      let q = (connection r j).part in
      let b : q < p = part_before p j l n in
      let same = (w.belongs j (omega (arith, (w.lines p l).within))).same in
      new (p - 1) (omega arith) (omega (arith, same, e, entries_rise q (p - 1) (omega arith) (omega arith), entries_rise (p - 1) p (omega arith) l))

-- the part p, which is the next
module _ {m : Model} {s : List ℕ} {pins : List PinRecord} {parts : List PartRecord} {cs : List ConnectionRecord} {p : ℕ} (l : p < length parts) (g : LineStage m s pins parts cs p) where
  abbrev st : Stage m s pins parts cs p g.joined
  st = g.stage

  abbrev q : Records
  q = st.records

  -- of records that reading gives there are no others
  of_all : (P : Records → Type 0) → P q → (r : Records) → ReadUpto s (count s) r → P r
  of_all P h r u = subst P (one_reading s (count s) q r st.read u) h

  here_is : get_or parts p blank_part ≡ part q p
  here_is = st.parts_are.left p (omega arith)

  before_is : (z : ℕ) → z + 1 ≡ p → (get_or parts z blank_part).entry ≡ (part q z).entry
  before_is z e = ap (λ x. x.entry) (st.parts_are.done z (omega arith))

  -- it begins a text
  text_new : BeginsText parts p → TextFrom s (get_or parts p blank_part).connections p
  text_new new = of_all (λ r. (j : ℕ) → j < (get_or parts p blank_part).connections → (connection r j).entry ≡ (part r p).entry → ⊥)
      (λ j n. other_before s q (formed st) p (omega (arith, st.parts_are.length_is))
      (λ z e f. new z e (before_is z e ∙ f ∙ ap (λ x. x.entry) (sym here_is))) j (omega (arith, ap (λ x. x.connections) here_is)))

  -- or it goes on with that of the part before
  text_on : (n z : ℕ) → z + 1 ≡ p → (get_or parts z blank_part).entry ≡ (get_or parts p blank_part).entry → TextFrom s n z → TextFrom s n p
  text_on n z e same before = of_all (λ r. (j : ℕ) → j < n → (connection r j).entry ≡ (part r p).entry → ⊥)
      (λ j b f. before q st.read j b (f ∙ ap (λ x. x.entry) (sym here_is) ∙ sym same ∙ before_is z e))

  pub text_at : {n x : ℕ} → TextStart parts n p x → ((z : ℕ) → z + 1 ≡ p → TextFrom s n z) → TextFrom s x p
  text_at {n} {x} t before = ⊎_elim
      (λ (a : 0 < p). ⊎_elim
      (λ (b : (get_or parts (p - 1) blank_part).entry ≡ (get_or parts p blank_part).entry).
      let e : p - 1 + 1 ≡ p = omega arith in
      subst (λ (k : ℕ). TextFrom s k p) (sym (t.on (λ new. new (p - 1) e b))) (text_on n (p - 1) e b (before (p - 1) e)))
      (λ b. begins (λ z e f. b (ap (λ k. (get_or parts k blank_part).entry) (omega arith) ∙ f)))
      (cases_eq (get_or parts (p - 1) blank_part).entry (get_or parts p blank_part).entry))
      (λ (a : p ≤ 0). begins (λ z e f. omega arith))
      (cases_lt 0 p)
    where
      begins : BeginsText parts p → TextFrom s x p
      begins new = subst (λ (k : ℕ). TextFrom s k p) (sym (t.new new)) (text_new new)
