-- The bundle of ordered sources is the bundle of the sources as they were given.
use Rattle.std.proofs.Common.{◌<◌, List, length, sym, ◌∙◌, arith}
use Rattle.std.specs.List.Sorted.{IsPermutation}
use Rattle.std.proofs.lemmas.List.Sorted.{length_permutation, IsPermutation-sym}
use Rattle.packer.specs.declared.source.Source.{Source}
use Rattle.packer.specs.Rules.{Sound}
use Rattle.packer.specs.Written.{written, Writable}
use Rattle.packer.specs.Packed.{Packed}
use Rattle.packer.proofs.Laid.{layout, counted, name_is, text_is}
use Rattle.packer.proofs.Arranged.{moved}

pub packed : (ss ts : List Source) → Sound ss → IsPermutation ss ts → Writable ts → Packed ss (written ts)
packed ss ts h sh w =
    let same = counted ts w in
    record {
      sound = h;
      layout = layout ts w;
      counted = same ∙ length_permutation ss ts sh;
      has = λ i l.
          let m = moved ss ts sh i l in
          (m.0, omega (arith, same, m.1), record { names = name_is ts w m.0 m.1 ∙ m.2; texts = text_is ts w m.0 m.1 ∙ m.3 });
      only = λ k l.
          let in_ts : k < length ts = omega (arith, same) in
          let m = moved ts ss (IsPermutation-sym ss ts sh) k in_ts in
          (m.0, m.1, record { names = name_is ts w k in_ts ∙ sym m.2; texts = text_is ts w k in_ts ∙ sym m.3 });
    }
