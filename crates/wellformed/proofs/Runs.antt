-- Lists whose items stand one behind another.
use Rattle.std.proofs.Common.{◌≡◌, ℕ, zero, suc, ◌<◌, ◌≤◌, ◌⊎◌, List, [], ◌∷◌, ◌++◌, length, get_or, inl, inr, ⊎_elim, arith}
use Rattle.std.specs.List.{AllByRecursion as All}
use Rattle.std.proofs.ByRecursion.{All-get_or, All-weaker}
use Rattle.fault.specs.declared.Place.{Place}
use Rattle.wellformed.specs.Places.{Sooner}

pub record Before (a b : Place) : Type 0 where
  pub is : Sooner a b

-- b is no earlier than a
pub record UpTo (a b : Place) : Type 0 where
  pub is : (a.entry < b.entry) ⊎ ((a.entry ≡ b.entry) × (a.byte ≤ b.byte))

pub upto : {a b : Place} → Before a b → UpTo a b
upto h = record { is = ⊎_elim inl (λ e. inr (omega arith)) h.is }

module _ {a b c : Place} where
  pub upto_upto : UpTo a b → UpTo b c → UpTo a c
  upto_upto h k =
      record { is = ⊎_elim (λ l. inl (omega arith)) (λ e. ⊎_elim (λ l. inl (omega arith)) (λ d. inr (omega arith)) k.is) h.is }

  pub before_upto : Before a b → UpTo b c → Before a c
  before_upto h k =
      record { is = ⊎_elim (λ l. inl (omega arith)) (λ e. ⊎_elim (λ l. inl (omega arith)) (λ d. inr (omega arith)) k.is) h.is }

-- each item stands from its first place to its last, and the next one behind that
module _ {X : Type 0} (first last : X → Place) where
  pub data Run : Place → List X → Place → Type 0 where
    none : {a b : Place} → UpTo a b → Run a [] b
    next : {a m b : Place} {x : X} {xs : List X} → UpTo a (first x) → UpTo a m → Before (last x) m → Run m xs b → Run a (x ∷ xs) b

module _ {X : Type 0} {first last : X → Place} where
  pub run_forward : {a b : Place} {xs : List X} → Run first last a xs b → UpTo a b
  run_forward (none h) = h
  run_forward (next f h l r) = upto_upto h (run_forward r)

  pub run_from : {a b c : Place} {xs : List X} → UpTo a b → Run first last b xs c → Run first last a xs c
  run_from h (none k) = none (upto_upto h k)
  run_from h (next f k l r) = next (upto_upto h f) (upto_upto h k) l r

  pub run_until : {a b c : Place} {xs : List X} → UpTo b c → Run first last a xs b → Run first last a xs c
  run_until h (none k) = none (upto_upto k h)
  run_until h (next f k l r) = next f k l (run_until h r)

  pub run_append : {a b c : Place} {xs ys : List X} → Run first last a xs b → Run first last b ys c → Run first last a (xs ++ ys) c
  run_append (none h) k = run_from h k
  run_append (next f h l r) k = next f h l (run_append r k)

  pub run_starts : {a b : Place} {xs : List X} → Run first last a xs b → All (λ x. UpTo a (first x)) xs
  run_starts (none h) = tt
  run_starts (next f h l r) = (f, All-weaker _ _ (λ x k. upto_upto h k) _ (run_starts r))

  pub run_ends : {a b : Place} {xs : List X} → Run first last a xs b → All (λ x. Before (last x) b) xs
  run_ends (none h) = tt
  run_ends (next f h l r) = (before_upto l (run_forward r), run_ends r)

  pub run_rises : {a b : Place} {xs : List X} (d : X) (i j : ℕ) → Run first last a xs b → i < j → j < length xs → Sooner (last (get_or xs i d)) (first (get_or xs j d))
  run_rises d i j (none h) l k = absurd (omega arith)
  run_rises d i zero (next f h b r) l k = absurd (omega arith)
  run_rises d zero (suc j) (next {xs = xs} f h b r) l k =
      (before_upto b (All-get_or _ xs j d (omega arith) (run_starts r))).is
  run_rises d (suc i) (suc j) (next f h b r) l k = run_rises d i j r (omega arith) (omega arith)
