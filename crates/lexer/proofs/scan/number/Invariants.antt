use Rattle.std.proofs.Common.{◌≡◌, ℕ, ◌<◌, ◌≤◌, true, take}
use Rattle.std.specs.Str.Parse.{digits_value}
use Rattle.std.specs.Char.{is_ascii_digit}
use Rattle.text.specs.Names.{byte}
use Rattle.lexer.proofs.scan.number.Given as goal

abbrev pub invariant-loop-b : goal.invariant-loop-b
invariant-loop-b l = (digits_value 10 (take l.b-index l.bytes) ≡ l.n) × (l.n ≤ 65535) × ((k : ℕ) → k < l.b-index → is_ascii_digit (byte l.bytes k) ≡ true)
