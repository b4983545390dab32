-- One text more, and what is kept over a call that fills the catalogue.
use Rattle.std.proofs.Common.{◌≡◌, ℕ, suc, ◌<◌, ◌≤◌, List, sym, ◌∙◌, subst}
use Rattle.bundle.specs.declared.opened.Bundle.{Bundle}
use Rattle.bundle.specs.declared.opened.Entries.{Entries}
use Rattle.bundle.specs.declared.opened.Entry.{Entry}
use Rattle.bundle.specs.Entries.{EntryAt}
use Rattle.bundle.specs.Layout.{count, name, text}
use Rattle.catalogue.specs.declared.room.Catalogue.{Catalogue}
use Rattle.catalogue.specs.Records.{with_chip}
use Rattle.catalogue.specs.Holding.{Enough, Lent, Long, slices}
use Rattle.parser.specs.declared.read_fault.ReadFault.{ReadFault}
use Rattle.parser.specs.Faults.{fault_of}
use Rattle.parser.specs.Verdicts.{Accepted, Refused}
use Rattle.parser.specs.Reading.{Reads, Faulty}
use Rattle.reader.specs.Verdicts.{more, FilledUpto, Unread}

pub lent_on : (a b c : Catalogue) → Lent a b → Lent b c → Lent a c
lent_on a b c h k = (k.0 ∙ h.0, k.1 ∙ h.1, k.2 ∙ h.2)

pub long_on : (a b c : Catalogue) → Long a b → Long b c → Long a c
long_on a b c h k = (k.0 ∙ h.0, k.1 ∙ h.1, k.2 ∙ h.2)

pub enough_on : (a b : Catalogue) → Long a b → Enough (slices a) → Enough (slices b)
enough_on a b h e = record { pins = subst (λ n. 1024 ≤ n) (sym h.0) e.pins; parts = subst (λ n. 1024 ≤ n) (sym h.1) e.parts; connections = subst (λ n. 4096 ≤ n) (sym h.2) e.connections }

pub filled_more : (s : List ℕ) (k : ℕ) (a b : Catalogue) (n t : List ℕ) → n ≡ name s k → t ≡ text s k → (f : FilledUpto s k a) → Accepted n f.records t k b → FilledUpto s (suc k) b
filled_more s k a b n t p q f h =
    let one = subst (λ x. Reads x f.records t h.chip) p h.reads in
    record { records = with_chip f.records k h.chip; read = more k f.records h.chip f.read (subst (λ x. Reads (name s k) f.records x h.chip) q one); fills = h.fills }

pub unread_at : (s : List ℕ) (k : ℕ) (a : Catalogue) (n t : List ℕ) (x : ReadFault) → k < count s → n ≡ name s k → t ≡ text s k → (f : FilledUpto s k a) → Refused n f.records t k x → Unread s (fault_of x)
unread_at s k a n t x l p q f h =
    let one = subst (λ y. Faulty y f.records t h.cause h.byte) p h.faulty in
    record { entry = k; below = l; records = f.records; read = f.read; cause = h.cause; byte = h.byte; faulty = subst (λ y. Faulty (name s k) f.records y h.cause h.byte) q one; is = h.tells }

-- the entry that an iterator over the entries of b gives, which has come to c
pub entry_at : (b : Bundle) (i : Entries) (c k : ℕ) (e : Entry) → i.bundle ≡ b → i.next ≡ c → k ≡ c → EntryAt i.bundle i.next e → EntryAt b k e
entry_at b i c k e p q r h = subst (λ (x : Bundle). EntryAt x k e) p (subst (λ n. EntryAt i.bundle n e) (q ∙ sym r) h)
