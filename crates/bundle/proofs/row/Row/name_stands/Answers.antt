use Rattle.std.proofs.Common.{◌≡◌, ◌+◌, ◌-◌, ◌≤◌, length, refl, ap, subst, arith}
use Rattle.text.specs.Names.{byte, Named}
use Rattle.bundle.specs.Layout.{name, row}
use Rattle.bundle.proofs.Reading.{zeros_from_part, part_from_zeros}
use Rattle.bundle.proofs.row.Row.name_stands.Goals as goal

pub returns-then-is_name : goal.returns-then-is_name
returns-then-is_name c =
    let s = c.args.self.now.bytes.now in
    let k = c.args.self.now.k in
    let n = c.name-name.result.now in
    let from = c.place-place.result in
    let here = c.place-place.ensures in
    let e = c.name-name.ensures in
    let same : length n ≡ length (name s k) = ap length e in
    let fits : from + 32 ≤ length s = omega (arith, here, c.args.self.now.whole) in (
      λ t. record {
        named = subst Named e (c.if-is_name.ensures.0 refl);
        padded = λ j a b. zeros_from_part s (from + length n) (from + 32) fits (c.is_zeros.ensures.0 t) (row k + j) (omega (arith, here, same, a)) (omega (arith, here));
      },
      λ h. c.is_zeros.ensures.1 (part_from_zeros s (from + length n) (from + 32) fits (λ j a b.
          let at : row k + (j - row k) ≡ j = omega (arith, here) in
          subst (λ i. byte s i ≡ 0) at (h.padded (j - row k) (omega (arith, here, same)) (omega (arith, here))))),
    )
