-- Whether a bit is fed can be found out.
use Rattle.std.proofs.Common.{◌≡◌, ℕ, zero, suc, ◌+◌, ◌<◌, ◌≤◌, ◌⊎◌, Some, None, Option, ap, subst, inl, inr, ⊎_elim, arith, MatchOption}
use Rattle.std.proofs.lemmas.Bool.{cases_lt, cases_eq}
use Rattle.catalogue.specs.declared.records.ConnectionRecord.{ConnectionRecord}
use Rattle.joiner.specs.declared.feeds.Sink.{Sink}
use Rattle.joiner.specs.declared.feeds.Sink.TheVariants.{PartInputs, ChipOutputs, Internal}
use Rattle.joiner.specs.declared.feeds.Feed.{Feed}
use Rattle.joiner.specs.Feeding.{Covers, Feeds, feed}

abbrev pub Decided : Type 0 → Type 0
Decided P = P ⊎ (P → ⊥)

sink_decided : (a b : Sink) → Decided (a ≡ b)
sink_decided (PartInputs p) (PartInputs q) = ⊎_elim (λ e. inl (ap PartInputs e)) (λ n. inr (λ e. n (let i : p ≡ q = cc in i))) (cases_eq p q)
sink_decided (PartInputs p) (ChipOutputs q) = inr (λ e. let z : ◌≡◌ {A = ℕ} 0 1 = cc in omega arith)
sink_decided (PartInputs p) (Internal q) = inr (λ e. let z : ◌≡◌ {A = ℕ} 0 1 = cc in omega arith)
sink_decided (ChipOutputs p) (PartInputs q) = inr (λ e. let z : ◌≡◌ {A = ℕ} 0 1 = cc in omega arith)
sink_decided (ChipOutputs p) (ChipOutputs q) = ⊎_elim (λ e. inl (ap ChipOutputs e)) (λ n. inr (λ e. n (let i : p ≡ q = cc in i))) (cases_eq p q)
sink_decided (ChipOutputs p) (Internal q) = inr (λ e. let z : ◌≡◌ {A = ℕ} 0 1 = cc in omega arith)
sink_decided (Internal p) (PartInputs q) = inr (λ e. let z : ◌≡◌ {A = ℕ} 0 1 = cc in omega arith)
sink_decided (Internal p) (ChipOutputs q) = inr (λ e. let z : ◌≡◌ {A = ℕ} 0 1 = cc in omega arith)
sink_decided (Internal p) (Internal q) = ⊎_elim (λ e. inl (ap Internal e)) (λ n. inr (λ e. n (let i : p ≡ q = cc in i))) (cases_eq p q)

pub feeds_decided : (c : ConnectionRecord) (k : Sink) (b : ℕ) → Decided (Feeds c k b)
feeds_decided c k b = go (feed c)
  where
    bits : (f : Feed) → f.sink ≡ k → Decided (Covers f k b)
    bits f e =
        ⊎_elim (λ (l : b < f.first). inr (λ h. omega (arith, h.1)))
        (λ l. ⊎_elim (λ (m : b < f.first + f.width). inl (e, l, m)) (λ m. inr (λ h. omega (arith, h.2))) (cases_lt b (f.first + f.width)))
        (cases_lt b f.first)

    go : (o : Option Feed) → Decided (MatchOption o ⊥ (λ f. Covers f k b))
    go None = inr (λ h. h)
    go (Some f) = ⊎_elim (λ e. bits f e) (λ n. inr (λ h. n h.0)) (sink_decided f.sink k)

-- one of n passes, or none
pub some_below : (P : ℕ → Type 0) → ((j : ℕ) → Decided (P j)) → (n : ℕ) → ((j : ℕ) × (j < n) × P j) ⊎ ((j : ℕ) → j < n → P j → ⊥)
some_below P d zero = inr (λ j l h. omega arith)
some_below P d (suc n) =
    ⊎_elim (λ s. inl (s.0, omega (arith, s.1), s.2))
    (λ none. ⊎_elim (λ h. inl (n, omega arith, h)) (λ not_n. inr (λ j l h.
    ⊎_elim (λ (m : j < n). none j m h) (λ (m : n ≤ j). let at : j ≡ n = omega arith in not_n (subst P at h)) (cases_lt j n))) (d n))
    (some_below P d n)
