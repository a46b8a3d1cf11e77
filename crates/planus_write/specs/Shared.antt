-- Contents that may be written once, and where they were cached.
use Rattle.std.specs.Prelude.{ℕ, Bool, true, false, ◌&&◌, List, [], ◌∷◌, Option, Some, None}
use Rattle.std.specs.Prelude.{if◌then◌else◌}
use Rattle.std.specs.Str.{bytes_eq}

pub data ContentsKind : Type 0 where
  texts : ContentsKind
  byte_lists : ContentsKind
  vtables : ContentsKind

abbrev pub same_kind : ContentsKind → ContentsKind → Bool
same_kind texts texts = true
same_kind byte_lists byte_lists = true
same_kind vtables vtables = true
same_kind _ _ = false

pub record Contents : Type 0 where
  pub kind : ContentsKind
  pub bytes : List ℕ

abbrev pub same_contents : Contents → Contents → Bool
same_contents a b = same_kind a.kind b.kind && bytes_eq a.bytes b.bytes

-- for each kind, whether equal contents are written once
pub record CacheSettings : Type 0 where
  pub texts_on : Bool
  pub byte_lists_on : Bool
  pub vtables_on : Bool

-- equal contents of every kind are written once
abbrev pub all_on : CacheSettings
all_on = record { texts_on = true; byte_lists_on = true; vtables_on = true }

abbrev pub is_on : CacheSettings → ContentsKind → Bool
is_on settings texts = settings.texts_on
is_on settings byte_lists = settings.byte_lists_on
is_on settings vtables = settings.vtables_on

abbrev pub shared_as : CacheSettings → Option Contents → Option Contents
shared_as settings None = None
shared_as settings (Some contents) = if is_on settings contents.kind then Some contents else None

-- contents, and the distance at which they were written
pub record Cached : Type 0 where
  pub contents : Contents
  pub distance : ℕ

-- the distance of equal contents of the same kind, if they were written
abbrev pub distance_cached : List Cached → Contents → Option ℕ
distance_cached [] contents = None
distance_cached (one ∷ cached) contents =
    if same_contents one.contents contents then Some one.distance else distance_cached cached
    contents

abbrev pub earlier_distance : List Cached → Option Contents → Option ℕ
earlier_distance cached None = None
earlier_distance cached (Some contents) = distance_cached cached contents

abbrev pub and_cached : Option Contents → ℕ → List Cached → List Cached
and_cached None distance cached = cached
and_cached (Some contents) distance cached = record { contents = contents; distance = distance }
    ∷ cached
