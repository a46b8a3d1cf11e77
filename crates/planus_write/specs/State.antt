-- What a builder is to its callers.
use Rattle.std.specs.Prelude.{◌≡◌, ℕ, List, ◌++◌, length, Option, Some, ◌↔◌}
use Rattle.planus_back.specs.CacheKeys.{key_at, bytes_in, vtable_in}
use Rattle.planus_back.specs.Descriptions.{Describes}
use Rattle.planus_write.specs.Holding.{Holding, Holds, HoldingFits}
use Rattle.planus_write.specs.Shared.{ContentsKind, texts, byte_lists, vtables, CacheSettings}
use Rattle.planus_write.specs.Shared.{Cached}
use Rattle.planus_write.specs.Shared.{distance_cached}
use Rattle.planus_write.specs.History.{History}
use Rattle.planus_write.specs.Kept.{AllCachedKept}
use Rattle.planus_back.specs.Promises.{Promise}

-- what is remembered of each kind of contents
pub record Holdings : Type 0 where
  pub held_texts : Holding
  pub held_byte_lists : Holding
  pub held_vtables : Holding

abbrev pub holding_of : Holdings → ContentsKind → Holding
holding_of holdings texts = holdings.held_texts
holding_of holdings byte_lists = holdings.held_byte_lists
holding_of holdings vtables = holdings.held_vtables

-- how the contents of a kind are found at the front of some bytes
abbrev pub contents_in : ContentsKind → List ℕ → Option (List ℕ)
contents_in texts = bytes_in
contents_in byte_lists = bytes_in
contents_in vtables = vtable_in

-- The bytes, the remainder and mask of the constraints, how many bytes fit without memory, the
-- cache settings, and what is remembered of contents.
pub record State : Type 0 where
  pub bytes : List ℕ
  pub delayed : ℕ
  pub mask : ℕ
  pub room : ℕ
  pub settings : CacheSettings
  pub holdings : Holdings

-- What is remembered of a kind fits the bytes, and finds contents exactly where they were cached.
pub record FindsCached (state : State) (cached : List Cached) (kind : ContentsKind) : Type 0 where
  pub fits : HoldingFits (contents_in kind) (holding_of state.holdings kind) state.bytes
  pub finds : (bytes : List ℕ) (distance : ℕ)
      → (distance_cached cached (record { kind = kind; bytes = bytes }) ≡ Some distance)
      ↔ (Holds (holding_of state.holdings kind) distance
      × (key_at (contents_in kind) state.bytes distance ≡ Some bytes))

-- A possible history: the builder has its bytes, describes its constraints, and finds its cached
-- contents, all of which are stored.
pub record IsHistoryOf (state : State) (history : History) : Type 0 where
  pub bytes : history.written.bytes ≡ state.bytes
  pub described : Describes (length state.bytes) state.delayed state.mask history.written.promises
  pub cached : (kind : ContentsKind) → FindsCached state history.cached kind
  pub kept : AllCachedKept history

pub record Extends (before after : History) : Type 0 where
  pub bytes : (front : List ℕ) × (after.written.bytes ≡ front ++ before.written.bytes)
  pub promises : (more : List Promise) × (after.written.promises ≡ more ++ before.written.promises)
  pub cached : (more : List Cached) × (after.cached ≡ more ++ before.cached)

-- The old bytes are the end of the new ones, all of any history is still there, and the cache
-- settings are as they were.
pub record Grows (old new : State) : Type 0 where
  pub bytes : (front : List ℕ) × (new.bytes ≡ front ++ old.bytes)
  pub history : (history : History) → IsHistoryOf old history → (after : History)
      × IsHistoryOf new after
      × Extends history after
  pub settings : new.settings ≡ old.settings
