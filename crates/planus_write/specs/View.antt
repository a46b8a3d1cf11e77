use Rattle.std.specs.Prelude.{ℕ, ◌+◌, ◌≤◌, ◌^◌, List, length}
use Rattle.planus_back.specs.Padding.{greatest_place}
use Rattle.planus_write.specs.Shared.{CacheSettings}
use Rattle.planus_write.specs.inner.Backed.{Backed}
use Rattle.planus_write.specs.State.{State, Holdings, IsHistoryOf}
use Rattle.planus_write.specs.History.{History}
use Rattle.planus_write.specs.declared.backing.Backing.TheInside as backing
use Rattle.planus_write.specs.declared.builder.Builder.TheInside as builder
use Rattle.planus_write.specs.declared.caches.Caches.{Caches}
use Rattle.planus_write.specs.declared.table_writer.TableWriter.TheInside as table_writer
use Rattle.planus_write.specs.Tables.{Declared}
use Rattle.planus_write.specs.TableWriting.{Writer, WasTold}
use Rattle.planus_back.specs.Promises.{IsPowerOfTwo}

-- the cache settings
abbrev pub settings_of : Caches → CacheSettings
settings_of caches = record {
  texts_on = caches.texts;
  byte_lists_on = caches.bytes;
  vtables_on = caches.vtables;
}

abbrev pub backed_of : backing.Inside → Backed
backed_of a = record {
  bytes = a.inner.bytes;
  delayed = a.promises.delayed;
  mask = a.promises.mask;
  room = a.inner.room;
}

-- no builder has more bytes than a place may be
abbrev pub IsSmall : backing.Inside → Type 0
IsSmall a = length a.inner.bytes ≤ greatest_place

abbrev pub state_from : Backed → CacheSettings → Holdings → State
state_from backed settings holdings = record {
  bytes = backed.bytes;
  delayed = backed.delayed;
  mask = backed.mask;
  room = backed.room;
  settings = settings;
  holdings = holdings;
}

abbrev pub state_of : builder.Inside → State
state_of a =
    state_from a.backing
    (record {
      texts_on = a.texts.on;
      byte_lists_on = a.byte_lists.on;
      vtables_on = a.vtables.on;
    })
    (record {
      held_texts = a.texts.holding;
      held_byte_lists = a.byte_lists.holding;
      held_vtables = a.vtables.holding;
    })

-- A builder always has some history.
abbrev pub IsSound : builder.Inside → Type 0
IsSound a = (history : History) × IsHistoryOf (state_of a) history

-- a writer, by its fields
abbrev pub writer_of : {N : ℕ} → table_writer.Inside N → Writer
writer_of a = record {
  vtable = a.vtable;
  vtable_size = a.vtable_size;
  object_size = a.object_size;
  mask = a.mask;
}

-- Its sizes and alignment are possible. If both sizes have room, it was told some entries.
pub record IsWriter {N : ℕ} (a : table_writer.Inside N) : Type 0 where
  pub small : a.object_size ≤ 65535
  pub vtable_small : a.vtable_size ≤ 65534
  pub power : IsPowerOfTwo (a.mask + 1)
  pub bound : a.mask + 1 ≤ 2 ^ 30
  pub whole : 4 ≤ a.object_size
  pub sizes : 4 ≤ a.vtable_size
  pub inside : 4 ≤ N → a.vtable_size ≤ N
  pub told : 4 ≤ N → (declared : List Declared) × WasTold (writer_of a) declared
