-- What written entries come to: their values are encoded.
use Rattle.std.specs.Prelude.{ℕ, ◌≤◌, List, [], length, Option, Ok, Err}
use Rattle.planus_back.specs.Parts.{Written, Placed}
use Rattle.planus_read.specs.Bytes.{BytesStand}
use Rattle.planus_read.specs.Values.{Value}
use Rattle.planus_read.specs.Stands.{ReferenceStands}
use Rattle.planus_read.specs.SizePrefixed.{IsPrefixed}
use Rattle.planus_write.specs.Shared.{CacheSettings}
use Rattle.planus_write.specs.History.{History, Entry, PutsAll, ComesToTooLarge}
use Rattle.planus_write.specs.Kept.{IsKept, AllCachedKept}
use Rattle.planus_write.specs.State.{State, IsHistoryOf, Extends}
use Rattle.planus_write.specs.Preparing.{WritesEntries}
use Rattle.planus_write.specs.declared.errors.BuildError.TheVariants.{TooLarge}
use Rattle.planus_write.specs.Parts.{finish_part, identifier_bytes, IsWritten, entries_of, Named}
use Rattle.planus_write.specs.Parts.{named_by, sized_finish_part}

-- What is stored stays so, whatever is prepended.
abbrev pub KeptStays : Type 0
KeptStays = (before after : History) (value : Value) (named : Named) → Extends before after
    → IsKept before value named → IsKept after value named

-- Once a value's entries are written, it and all that was cached are stored, if that was stored
-- before and its references lead into earlier bytes.
abbrev pub ValuesAreKept : Type 0
ValuesAreKept =
    (settings : CacheSettings) (value : Value) (before : History) (got : List ℕ) (after : History)
    → IsWritten (length before.written.bytes) value → AllCachedKept before
    → PutsAll settings (entries_of value) [] before got after
    → IsKept after value (named_by value got) × AllCachedKept after × Extends before after

-- Entries that a builder wrote are written in every history it may have; where one was too large,
-- every history comes to that.
abbrev pub EntriesArePut : Type 0
EntriesArePut =
    (entries : List Entry) (got : List ℕ) (old : State) (all : List ℕ) (new : State)
    (history : History)
    → WritesEntries entries got old (Ok all) new → IsHistoryOf old history
    → (after : History) × PutsAll old.settings entries got history all after × IsHistoryOf new after

abbrev pub EntriesAreTooLarge : Type 0
EntriesAreTooLarge =
    (entries : List Entry) (got : List ℕ) (old : State) (new : State) (history : History)
    → WritesEntries entries got old (Err TooLarge) new → IsHistoryOf old history
    → ComesToTooLarge old.settings entries got history

-- The reference of a placed finish leads to the root, if that is in earlier bytes.
abbrev pub FinishesLead : Type 0
FinishesLead =
    (root : ℕ) (identifier : Option (List ℕ)) (before after : Written) → root ≤ length before.bytes
    → Placed (finish_part root identifier before.promises) before after
    → ReferenceStands after.bytes 0 root

-- The identifier follows the reference.
abbrev pub FinishesAreIdentified : Type 0
FinishesAreIdentified =
    (root : ℕ) (identifier : Option (List ℕ)) (before after : Written)
    → Placed (finish_part root identifier before.promises) before after
    → BytesStand after.bytes 4 (identifier_bytes identifier)

-- After a size-prefixed finish the size is the number of following bytes, the reference leads to
-- the root, if that is in earlier bytes, and the identifier follows.
pub record SizedFinishStands (root : ℕ) (identifier : Option (List ℕ)) (before after : Written)
    : Type 0 where
  pub size : IsPrefixed after.bytes
  pub leads : root ≤ length before.bytes → ReferenceStands after.bytes 4 root
  pub identified : BytesStand after.bytes 8 (identifier_bytes identifier)

abbrev pub SizedFinishesStand : Type 0
SizedFinishesStand =
    (root : ℕ) (identifier : Option (List ℕ)) (before after : Written)
    → Placed (sized_finish_part root identifier before.promises) before after
    → SizedFinishStands root identifier before after
