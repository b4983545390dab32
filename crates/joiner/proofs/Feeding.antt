-- What connections feed.
use Rattle.std.proofs.Common.{◌≡◌, ℕ, ◌+◌, ◌-◌, ◌<◌, ◌≤◌, Bool, true, false, List, length, get_or, Some, Decides, MatchBool, Option, sym, refl, ap, ◌∙◌, subst, ⊎_elim, arith, MatchOption}
use Rattle.std.specs.List.{between, range_with_len, AllWithin, HoldsAt}
use Rattle.std.proofs.lemmas.List.FromFn.{length-range_with_len, get_or-range_with_len}
use Rattle.std.proofs.lemmas.List.Edits.{length-between, get_or-between}
use Rattle.std.proofs.lemmas.Bool.{cases_lt, false≢true}
use Rattle.catalogue.specs.declared.records.ConnectionRecord.{ConnectionRecord}
use Rattle.catalogue.specs.Records.{blank_connection}
use Rattle.joiner.specs.declared.feeds.Sink.{Sink}
use Rattle.joiner.specs.declared.feeds.Feed.{Feed}
use Rattle.joiner.specs.Feeding.{Covers, Feeds, FedIn, OpenIn, FedBefore, feed}

-- where one bit is meant, it is that bit that is fed
pub one_bit : (cs : List ConnectionRecord) (k : Sink) (b : ℕ) (f : FedIn cs (record { sink = k; first = b; width = 1 })) → Feeds (get_or cs f.by blank_connection) k b
one_bit cs k b f =
    let is : f.bit ≡ b = omega (arith, f.among.1, f.among.2) in
    subst (λ (x : ℕ). Feeds (get_or cs f.by blank_connection) k x) is f.feeds

-- whether one of the numbers of some bits has no feeder
pub some_unfed : (cs : List ConnectionRecord) (f : Feed) (r : Bool) →
    MatchBool r ((k : ℕ) × (k < length (range_with_len f.first f.width)) × HoldsAt (λ b. FedIn cs (record { sink = f.sink; first = b; width = 1 }) → ⊥) (range_with_len f.first f.width) k)
    (AllWithin (λ b. FedIn cs (record { sink = f.sink; first = b; width = 1 })) (range_with_len f.first f.width) 0 (length (range_with_len f.first f.width))) → Decides r (OpenIn cs f)
some_unfed cs f true h =
    let l : h.0 < f.width = omega (arith, h.1, length-range_with_len f.first f.width) in
    let at : get_or (range_with_len f.first f.width) h.0 0 ≡ f.first + h.0 = get_or-range_with_len f.first f.width h.0 0 l in (
      λ _. record {
        bit = f.first + h.0;
        among = (refl, omega arith, omega arith);
        unfed = λ j m u. h.2 0 (record { by = j; below = m; bit = f.first + h.0; feeds = u; among = (refl, omega (arith, at), omega (arith, at)) });
      },
      λ _. refl,
    )
some_unfed cs f false h = (
  λ e. absurd (false≢true e),
  λ o.
      let k : ℕ = o.bit - f.first in
      let l : k < f.width = omega (arith, o.among.1, o.among.2) in
      let at : get_or (range_with_len f.first f.width) k 0 ≡ o.bit = get_or-range_with_len f.first f.width k 0 l ∙ omega (arith, o.among.1) in
      let fed = h k 0 (omega arith) (omega (arith, length-range_with_len f.first f.width)) in
      absurd (o.unfed fed.by fed.below (subst (λ (x : ℕ). Feeds (get_or cs fed.by blank_connection) f.sink x) at (one_bit cs f.sink _ fed))),
)

-- earlier connections that feed some of the bits which this one feeds, where none before `from` does
module _ (cs : List ConnectionRecord) (from i : ℕ) (c : ConnectionRecord) (f : Feed) (l : i < length cs) (e : Some f ≡ feed c) (u : from ≤ i) where
  pub fed_before : FedIn (between from i cs) f → FedBefore cs i c
  fed_before h =
      let b : h.by < i - from = omega (arith, h.below, length-between cs from i (omega arith)) in
      record {
        by = from + h.by;
        below = omega arith;
        sink = f.sink;
        bit = h.bit;
        feeds = subst (λ (x : ConnectionRecord). Feeds x f.sink h.bit) (get_or-between cs from i h.by blank_connection (omega arith)) h.feeds;
        again = subst (λ (o : Option Feed). MatchOption o ⊥ (λ x. Covers x f.sink h.bit)) e h.among;
      }

  pub before_fed : ((j b : ℕ) → j < from → Feeds (get_or cs j blank_connection) f.sink b → ⊥) → FedBefore cs i c → FedIn (between from i cs) f
  before_fed none h =
      let covered : Covers f h.sink h.bit = subst (λ (o : Option Feed). MatchOption o ⊥ (λ x. Covers x h.sink h.bit)) (sym e) h.again in
      let fed : Feeds (get_or cs h.by blank_connection) f.sink h.bit = subst (λ (k : Sink). Feeds (get_or cs h.by blank_connection) k h.bit) (sym covered.0) h.feeds in
      let behind : from ≤ h.by = ⊎_elim (λ (a : h.by < from). absurd (none h.by h.bit a fed)) (λ a. a) (cases_lt h.by from) in
      let k : ℕ = h.by - from in
      let at : get_or cs h.by blank_connection ≡ get_or (between from i cs) k blank_connection =
      ap (λ n. get_or cs n blank_connection) (omega arith) ∙ sym (get_or-between cs from i k blank_connection (omega (arith, h.below))) in
      record {
        by = k;
        below = omega (arith, h.below, length-between cs from i (omega arith));
        bit = h.bit;
        feeds = subst (λ (x : ConnectionRecord). Feeds x f.sink h.bit) at fed;
        among = (refl, covered.1, covered.2);
      }
