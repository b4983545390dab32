-- A bundle is read in one way at most, refused for one fault at most, and not both.
use Rattle.std.proofs.Common.{◌≡◌, ℕ, ◌<◌, List, sym, refl, ap, ◌∙◌, subst, ⊎_elim, arith}
use Rattle.std.proofs.lemmas.Bool.{cases_order}
use Rattle.fault.specs.declared.Cause.{Cause}
use Rattle.fault.specs.declared.Fault.{Fault}
use Rattle.bundle.specs.Layout.{count, name, text}
use Rattle.grammar.specs.Tree.{Chip}
use Rattle.catalogue.specs.Records.{Records, with_chip}
use Rattle.catalogue.specs.declared.room.Counts.{Counts}
use Rattle.catalogue.specs.Holding.{Slices}
use Rattle.parser.specs.Reading.{Reads, Faulty}
use Rattle.reader.specs.Verdicts.{ReadUpto, none, more, Unread, Accepted, Refusal, small, broken, unread}
use Rattle.reader.proofs.OneText.{one_chip, one_fault, not_both}

module _ (s : List ℕ) where
  pub one_reading : (k : ℕ) (q r : Records) → ReadUpto s k q → ReadUpto s k r → q ≡ r
  one_reading k q r none none = refl
  one_reading k q r (more l a c h m) (more n b d g o) =
      let e = one_reading l a b h g in
      let f = one_chip (name s l) b (text s l) c d (subst (λ x. Reads (name s l) x (text s l) c) e m) o in
      ap (λ x. with_chip x l c) e ∙ ap (with_chip b l) f

  -- the text of the entry k is read behind those before it
  record ReadAt (k : ℕ) : Type 0 where
    pub records : Records
    pub before : ReadUpto s k records
    pub chip : Chip
    pub reads : Reads (name s k) records (text s k) chip

  read_at : (k l : ℕ) (r : Records) → ReadUpto s l r → k < l → ReadAt k
  read_at k l r none h = absurd (omega arith)
  read_at k l r (more m q c before reads) h =
      ⊎_elim (λ e. subst ReadAt (sym e) (record { records = q; before = before; chip = c; reads = reads }))
      (⊎_elim (read_at k m q before) (λ g. absurd (omega arith)))
      (cases_order k m)

  -- and then it has no fault there
  no_fault : (k l : ℕ) (q r : Records) (x : Cause) (i : ℕ) → ReadUpto s l r → k < l → ReadUpto s k q → Faulty (name s k) q (text s k) x i → ⊥
  no_fault k l q r x i h b g f =
      let a = read_at k l r h b in
      not_both (name s k) q (text s k) a.chip x i (subst (λ z. Reads (name s k) z (text s k) a.chip) (one_reading k a.records q a.before g) a.reads) f

  -- two first faults of one entry are the same
  same_entry : (f g : Fault) (a : Unread s f) (b : Unread s g) → a.entry ≡ b.entry → f ≡ g
  same_entry f g a b e =
      let k = b.entry in
      let q : ReadUpto s k a.records = subst (λ x. ReadUpto s x a.records) e a.read in
      let h : Faulty (name s k) a.records (text s k) a.cause a.byte = subst (λ x. Faulty (name s x) a.records (text s x) a.cause a.byte) e a.faulty in
      let d = one_reading k a.records b.records q b.read in
      let m = one_fault (name s k) b.records (text s k) a.cause b.cause a.byte b.byte (subst (λ x. Faulty (name s k) x (text s k) a.cause a.byte) d h) b.faulty in
      a.is ∙ (λ i. record { cause = m.0 i; place = record { entry = e i; byte = m.1 i } }) ∙ sym b.is

  -- texts before the first that has a fault are read, so there is one such first text
  one_unread : (f g : Fault) → Unread s f → Unread s g → f ≡ g
  one_unread f g a b =
      ⊎_elim (same_entry f g a b)
      (⊎_elim (λ h. absurd (no_fault a.entry b.entry a.records b.records a.cause a.byte b.read h a.read a.faulty))
      (λ h. absurd (no_fault b.entry a.entry b.records a.records b.cause b.byte a.read h b.read b.faulty)))
      (cases_order a.entry b.entry)

  module _ (old : Slices) where
    pub one_refusal : (f g : Fault) → Refusal s old f → Refusal s old g → f ≡ g
    one_refusal f g (small n e) (small m d) = e ∙ sym d
    one_refusal f g (small n e) (broken h m d) = absurd (n h)
    one_refusal f g (small n e) (unread h l u) = absurd (n h)
    one_refusal f g (broken h n e) (small m d) = absurd (m h)
    one_refusal f g (broken h n e) (broken k m d) = e ∙ sym d
    one_refusal f g (broken h n e) (unread k l u) = absurd (n l)
    one_refusal f g (unread h l u) (small m d) = absurd (m h)
    one_refusal f g (unread h l u) (broken k m d) = absurd (m l)
    one_refusal f g (unread h l u) (unread k m v) = one_unread f g u v

    pub read_or_refused : (new : Slices) (n : Counts) (f : Fault) → Accepted s old new n → Refusal s old f → ⊥
    read_or_refused new n f a (small m e) = m a.enough
    read_or_refused new n f a (broken h m e) = m a.layout
    read_or_refused new n f a (unread h l u) =
        no_fault u.entry (count s) u.records a.records u.cause u.byte a.read u.below u.read u.faulty
