-- What an opened bundle tells of its entries.
use Rattle.std.specs.Prelude.{◌≡◌, ℕ, ◌+◌, ◌<◌, ◌≤◌, List, length, Option, MatchOption}
use Rattle.bundle.specs.declared.opened.Bundle.{Bundle}
use Rattle.bundle.specs.declared.opened.Entry.{Entry}
use Rattle.bundle.specs.declared.opened.Entries.{Entries}
use Rattle.bundle.specs.Layout.{Layout, count, row, name, start, size, text}

-- the bundle stands for bytes that keep the layout
pub record Opened (b : Bundle) : Type 0 where
  pub layout : Layout b.bytes.now
  pub counted : b.entries ≡ count b.bytes.now

-- the row and the text of the k-th entry lie within the bundle
pub record Lies (b : Bundle) (k : ℕ) : Type 0 where
  pub below : k < b.entries
  pub listed : row (k + 1) ≤ length b.bytes.now
  pub within : start b.bytes.now k + size b.bytes.now k ≤ length b.bytes.now

-- e is what the k-th row says
pub record EntryAt (b : Bundle) (k : ℕ) (e : Entry) : Type 0 where
  pub lies : Lies b k
  pub named : e.name.now ≡ name b.bytes.now k
  pub starts : e.start ≡ start b.bytes.now k
  pub holds : e.text.now ≡ text b.bytes.now k

-- the k-th entry goes by this name
pub record Goes (b : Bundle) (n : List ℕ) (k : ℕ) : Type 0 where
  pub lies : Lies b k
  pub named : name b.bytes.now k ≡ n

-- a call of `next` gave the next entry, or there was none left
abbrev pub NextEntry : Entries → Option Entry → Entries → Type 0
NextEntry s r t =
    (t.bundle ≡ s.bundle) × MatchOption r ((s.next ≡ s.bundle.entries) × (t.next ≡ s.next)) (λ e. EntryAt s.bundle s.next e × (t.next ≡ s.next + 1))
