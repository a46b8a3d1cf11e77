-- Equal contents that are written once.
use Rattle.std.specs.Prelude.{◌≡◌, ℕ, List, Option, Some, None, true, false, slice_get}
use Rattle.std.specs.List.{AllByRecursion, list_any}
use Rattle.std.specs.Option.{option_and_then}
use Rattle.planus_write.specs.Shared.{Contents, CacheSettings, texts, byte_lists, is_on}
use Rattle.planus_write.specs.History.{Entry}
use Rattle.planus.specs.Steps.{Step, text, bytes}
use Rattle.planus.specs.Runs.{Finish, Listed, RunState, Writes, LeadsTo, Runs, value_at}
use Rattle.planus.specs.Replays.{is_clear}

-- a string or a byte vector, with its kind
abbrev pub contents_of : Step → Option Contents
contents_of (text content) = Some (record { kind = texts; bytes = content })
contents_of (bytes content) = Some (record { kind = byte_lists; bytes = content })
contents_of _ = None

abbrev pub contents_at : List Step → ℕ → Option Contents
contents_at steps number = option_and_then contents_of (slice_get steps number)

-- where their cache is on, steps of equal contents have one distance
abbrev pub AreOnce : CacheSettings → List Step → List Listed → Type 0
AreOnce settings steps listed =
    (contents : Contents) → is_on settings contents.kind ≡ true → (i j d e : ℕ)
    → contents_at steps i ≡ Some contents → contents_at steps j ≡ Some contents
    → value_at listed i ≡ Some d → value_at listed j ≡ Some e → d ≡ e

-- In every finish equal strings, or byte vectors, have one distance, if cached.
abbrev pub EqualContentsHaveOneDistance : Type 0
EqualContentsHaveOneDistance =
    (settings : CacheSettings) (steps : List Step) (finished : List Finish)
    → Runs settings steps finished
    → AllByRecursion (λ given. AreOnce settings steps given.places) finished

abbrev pub Gets : Contents → List Entry → List ℕ → ℕ → Type 0
Gets contents entries got distance = (n : ℕ) × (entry : Entry) × (slice_get entries n ≡ Some entry)
    × (entry.contents ≡ Some contents) × (slice_get got n ≡ Some distance)

-- In every run equal contents get one distance between clears, if cached.
abbrev pub EqualEntriesGetOneDistance : Type 0
EqualEntriesGetOneDistance =
    (settings : CacheSettings) (before between next after : RunState) (step later : Step)
    (steps : List Step)
    → (first : Writes settings before step between) → LeadsTo settings between steps next
    → list_any is_clear steps ≡ false → (second : Writes settings next later after)
    → (contents : Contents) → is_on settings contents.kind ≡ true → (d e : ℕ)
    → Gets contents first.entries first.got d → Gets contents second.entries second.got e → d ≡ e
