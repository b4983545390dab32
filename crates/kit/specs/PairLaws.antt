-- Two sound kits as one are a sound kit.
use Rattle.std.specs.Prelude.{◌≡◌, ℕ, ◌<◌, ◌≤◌, List, Some, None, Option, refl}
use Rattle.std.proofs.Common.{arith, rules}
use Rattle.std.proofs.lemmas.Bool.Decides.{nat_tests}
use Rattle.kit.specs.declared.pair.Seat.{Seat}
use Rattle.kit.specs.declared.pair.Seat.TheVariants.{First, Second}
use Rattle.kit.specs.Models.{Model, Unknown, Regular, Keeps, Sound}
use Rattle.kit.specs.Pairs.{both, seat, no_kit, kit_at, kind_at, pair}

no_kit_sound : Sound no_kit
no_kit_sound = record {
  regular = record {
    few = omega arith;
    found = λ name k e. absurd cc;
    unknown = λ k h. search rules;
    past = λ k b h. refl;
    next_word = λ k i s. omega arith;
    waits_word = λ k b. omega arith;
  };
  lawful = λ k h. absurd (omega arith);
}

module _ (f s : Model) (first : Sound f) (second : Sound s) where
  abbrev at : ℕ → Option Seat
  at k = seat f.count s.count k

  -- the kit of a seat is sound
  kit_sound : (t : Option Seat) → Sound (kit_at f s t)
  kit_sound (Some (First k)) = first
  kit_sound (Some (Second k)) = second
  kit_sound None = no_kit_sound

  -- a kind of the pair is a kind of the kit of its seat
  known : (k : ℕ) → k < both f.count s.count → kind_at (at k) < (kit_at f s (at k)).count
  known k h = grind (arith, nat_tests)

  -- and any other number is none of its kinds
  past_all : (k : ℕ) → both f.count s.count ≤ k → (kit_at f s (at k)).count ≤ kind_at (at k)
  past_all k h = grind (arith, nat_tests)

  found : (name : List ℕ) (k : ℕ) → (pair f s).find name ≡ Some k → k < both f.count s.count
  found name k e = grind (arith, nat_tests, first.regular.found name)

  regular : (k : ℕ) → Regular (kit_at f s (at k))
  regular k = (kit_sound (at k)).regular

  unknown : (k : ℕ) → both f.count s.count ≤ k → Unknown (pair f s) k
  unknown k h = let u = (regular k).unknown (kind_at (at k)) (past_all k h) in search rules

  keeps : (k : ℕ) → k < both f.count s.count → Keeps (pair f s) k
  keeps k h = let l = (kit_sound (at k)).lawful (kind_at (at k)) (known k h) in search rules

  pub pair_sound : Sound (pair f s)
  pair_sound = record {
    regular = record {
      few = omega arith;
      found = found;
      unknown = unknown;
      past = λ k. (regular k).past (kind_at (at k));
      next_word = λ k. (regular k).next_word (kind_at (at k));
      waits_word = λ k. (regular k).waits_word (kind_at (at k));
    };
    lawful = keeps;
  }
