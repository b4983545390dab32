-- The bytes of a text at a span.
use Rattle.std.specs.Prelude.{ℕ, ◌+◌, List}
use Rattle.std.specs.List.{between}
use Rattle.catalogue.specs.declared.records.Span.{Span}

abbrev pub cut : List ℕ → Span → List ℕ
cut s n = between n.first (n.first + n.len) s
