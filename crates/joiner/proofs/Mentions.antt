-- Internal pins, by their first mention.
use Rattle.std.proofs.Common.{◌≡◌, ℕ, ◌+◌, ◌-◌, ◌<◌, ◌≤◌, true, false, List, length, get_or, Some, None, Option, unwrap_or, sym, refl, ap, ◌∙◌, ⊎_elim, arith, MatchOption}
use Rattle.std.specs.Option.{option_map}
use Rattle.std.specs.List.{between, AllWithin, HoldsAt}
use Rattle.std.proofs.lemmas.List.Edits.{length-between, get_or-between}
use Rattle.std.proofs.lemmas.Bool.{cases_lt}
use Rattle.kit.specs.Models.{Model}
use Rattle.kit.specs.declared.shape.Pin.{Pin}
use Rattle.catalogue.specs.declared.records.Span.{Span}
use Rattle.catalogue.specs.declared.records.Subscript.{Subscript}
use Rattle.catalogue.specs.declared.records.FarEnd.TheVariants as far
use Rattle.catalogue.specs.declared.records.PinRecord.{PinRecord}
use Rattle.catalogue.specs.declared.records.ConnectionRecord.{ConnectionRecord}
use Rattle.catalogue.specs.Records.{Records, blank_connection}
use Rattle.wellformed.specs.Places.{connection}
use Rattle.joiner.specs.declared.ends.Far.{Far}
use Rattle.joiner.specs.Meaning.{word, declared, mentions, earlier_mention, first_mention, near, far_of, far_end, width_of, internal_far, internal, named_far}
use Rattle.joiner.specs.Joined.{joint_by}
use Rattle.joiner.specs.Scopes.{OtherTexts}
use Rattle.joiner.specs.Stages.{ConnectionsUpto}
use Rattle.joiner.proofs.Names.{other_text}
use Rattle.joiner.proofs.Search.{Found, first_none, first_some, first_same, first_found}

-- a joint has the bits of the near end
joint_width : (f : Pin → Option Far) (o : Option Pin) → (joint_by f o).width ≡ width_of o
joint_width f None = refl
joint_width f (Some p) = refl

-- the first mention is no later
pub mention_upto : (s : List ℕ) (cs : List ConnectionRecord) (e : ℕ) (n : List ℕ) (i : ℕ) → first_mention s cs e n i ≤ i
mention_upto s cs e n i = go (earlier_mention s cs e n i) (first_found (λ j. mentions s e n (get_or cs j blank_connection)) i)
  where
    go : (o : Option ℕ) → Found (λ j. mentions s e n (get_or cs j blank_connection)) i o → unwrap_or o i ≤ i
    go None h = omega arith
    go (Some j) h = omega (arith, h.0)

-- an earlier one is earlier
pub mention_below : (s : List ℕ) (cs : List ConnectionRecord) (e : ℕ) (n : List ℕ) (i h : ℕ) → earlier_mention s cs e n i ≡ Some h → h < i
mention_below s cs e n i h at = (rw at at (first_found (λ j. mentions s e n (get_or cs j blank_connection)) i)).0

-- the first of the text's connections that mentions the name, where all before them are of other texts
module _ (s : List ℕ) (cs : List ConnectionRecord) (n : List ℕ) (from i : ℕ) (l : i < length cs) (others : OtherTexts cs from (get_or cs i blank_connection).entry) where
  abbrev chip : ℕ
  chip = (get_or cs i blank_connection).entry

  abbrev ds : List ConnectionRecord
  ds = between from i cs

  begun : from ≤ i
  begun = ⊎_elim (λ (a : i < from). absurd (others i a refl)) (λ a. a) (cases_lt i from)

  long : length ds ≡ i - from
  long = length-between cs from i (omega arith)

  unmentioned : (until : ℕ) → until ≤ i → ((k : ℕ) → from + k < until → mentions s chip n (get_or ds k blank_connection) ≡ false) → (j : ℕ) → j < until → mentions s chip n (get_or cs j blank_connection) ≡ false
  unmentioned until u none j a = ⊎_elim
      (λ b. other_text s chip n (get_or cs j blank_connection) (others j b))
      (λ (b : from ≤ j).
      let at : from + (j - from) ≡ j = omega arith in
      ap (λ x. mentions s chip n (get_or cs x blank_connection)) (sym at)
      ∙ ap (mentions s chip n) (sym (get_or-between cs from i (j - from) blank_connection (omega arith)))
      ∙ none (j - from) (omega arith))
      (cases_lt j from)

  pub mention_found : (o : Option ℕ) →
      MatchOption o (AllWithin (λ x. mentions s chip n x ≡ false) ds 0 (length ds)) (λ k. (k < length ds) × HoldsAt (λ x. mentions s chip n x ≡ true) ds k × AllWithin (λ x. mentions s chip n x ≡ false) ds 0 k) →
      option_map (λ k. from + k) o ≡ earlier_mention s cs chip n i
  mention_found None h =
      sym (first_none (λ j. mentions s chip n (get_or cs j blank_connection)) i (unmentioned i (omega arith) (λ k a. h k blank_connection (omega arith) (omega (arith, long)))))
  mention_found (Some k) h =
      let m : from + k < i = omega (arith, h.0, long, begun) in
      sym (first_some (λ j. mentions s chip n (get_or cs j blank_connection)) i (from + k) m (ap (mentions s chip n) (sym (get_or-between cs from i k blank_connection m)) ∙ h.1 blank_connection)
      (unmentioned (from + k) (omega arith) (λ j a. h.2 j blank_connection (omega arith) (omega arith))))

module _ (m : Model) (s : List ℕ) (r : Records) (i : ℕ) (cs : List ConnectionRecord) (u : ConnectionsUpto m s r i cs) where
  -- joined connections mention what they did
  same_mention : (e : ℕ) (n : List ℕ) → first_mention s cs e n i ≡ first_mention s r.connections e n i
  same_mention e n =
      ap (λ o. unwrap_or o i) (first_same (λ j. mentions s e n (get_or cs j blank_connection)) (λ j. mentions s e n (connection r j)) i (λ j l. ap (mentions s e n) (u.done j l)))

  -- a name at the far end that the chip does not declare
  module _ (p : Pin) (x : Span) (b : Subscript) {e : ℕ} {n : List ℕ} {pins : List PinRecord} (same : r.pins ≡ pins) (chip : e ≡ (connection r i).entry) (name : n ≡ word s e x) (undeclared : None ≡ declared s pins e n) where
    named : internal m s r (first_mention s r.connections e n i) b ≡ far_of m s r i p (far.Pin x b)
    named =
        let said : n ≡ word s (connection r i).entry x = name ∙ ap (λ z. word s z x) chip in
        let none : None ≡ declared s r.pins (connection r i).entry (word s (connection r i).entry x) =
        undeclared ∙ ap (λ z. declared s z e n) (sym same) ∙ ap (λ z. declared s r.pins z n) chip ∙ ap (declared s r.pins (connection r i).entry) said in
        ap (λ z. internal m s r (first_mention s r.connections z n i) b) chip
        ∙ ap (λ z. named_far m s r i p.side z b None) said
        ∙ ap (named_far m s r i p.side (word s (connection r i).entry x) b) none

    -- and that an earlier connection mentions
    pub named_before : {h : ℕ} → earlier_mention s cs e n i ≡ Some h → internal_far h (get_or cs h blank_connection).joint.width b ≡ far_of m s r i p (far.Pin x b)
    named_before {h} at =
        let l : h < i = mention_below s cs e n i h at in
        ap (λ w. internal_far h w b) (ap (λ c. c.joint.width) (u.done h l) ∙ joint_width (far_end m s r h) (near m s r h))
        ∙ ap (λ j. internal m s r j b) (ap (λ o. unwrap_or o i) (sym at) ∙ same_mention e n)
        ∙ named

    -- or none
    pub named_here : near m s r i ≡ Some p → earlier_mention s cs e n i ≡ None → internal_far i p.width b ≡ far_of m s r i p (far.Pin x b)
    named_here k at =
        ap (λ o. internal_far i (width_of o) b) (sym k)
        ∙ ap (λ j. internal m s r j b) (ap (λ o. unwrap_or o i) (sym at) ∙ same_mention e n)
        ∙ named
