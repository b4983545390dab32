-- Every entry of an opened bundle lies within it.
use Rattle.std.proofs.Common.{ℕ, ◌<◌, arith}
use Rattle.bundle.specs.declared.opened.Bundle.{Bundle}
use Rattle.bundle.specs.Entries.{Opened, Lies}

-- what the type keeps
pub opened : (b : Bundle) → Opened b
opened b = record { layout = b.layout; counted = b.counted }

pub each_lies : (b : Bundle) → Opened b → (k : ℕ) → k < b.entries → Lies b k
each_lies b o k h =
    let stands = o.layout.stands k (omega (arith, o.counted)) in
    record { below = h; listed = omega (arith, o.counted, o.layout.listed.whole); within = stands.within }
