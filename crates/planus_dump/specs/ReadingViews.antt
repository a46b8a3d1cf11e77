-- The values of a dump's readers, in terms of the definitions.
use Rattle.std.specs.Prelude.{◌≡◌, ◌≢◌, ℕ, ◌+◌, ◌*◌, ◌<◌, ◌≤◌, List, [], ◌∷◌, slice_index}
use Rattle.std.specs.Prelude.{length, drop}
use Rattle.std.specs.Prelude.{Option, Some, None, Result, Ok, Err}
use Rattle.planus_read.specs.declared.errors.ErrorKind.{ErrorKind}
use Rattle.planus_read.specs.declared.errors.ErrorKind.TheVariants.{InvalidOffset}
use Rattle.planus_read.specs.declared.slice_helpers.SliceWithStartOffset.{SliceWithStartOffset}
use Rattle.planus_read.specs.Slices.{slice_bytes}
use Rattle.planus_read.specs.declared.place.Place.{Place}
use Rattle.planus_read.specs.declared.place.TaggedPlace.{TaggedPlace}
use Rattle.planus_read.specs.declared.table_reader.Table.{Table}
use Rattle.planus_read.specs.Places.{place_bytes, place_offset, tagged_tag, tagged_place}
use Rattle.planus_read.specs.Tables.{Slot, table_object, table_slots}
use Rattle.planus_view.specs.UnionViews.{UnionView}
use Rattle.planus_view.specs.UnionVectorView.{view_of as union_view_of}
use Rattle.planus_dump.specs.declared.unions.Unions.{Unions}
use Rattle.planus_dump.specs.Lines.{value_text, value_line}
use Rattle.planus_dump.specs.Tests.{fault_text}
use Rattle.planus_dump.specs.Answers.{Seen, SeenItems, SeenUnion, SeenUnions}
use Rattle.planus_dump.specs.Events.{Event, line, TableEvents, fault_event, item_events}
use Rattle.planus_dump.specs.declared.schemas.Item.{Item}
use Rattle.planus_dump.specs.declared.line.Bits.{Bits}
use Rattle.planus_dump.specs.declared.readings.Position.{Position}
use Rattle.planus_dump.specs.declared.readings.Found.{Found}
use Rattle.planus_dump.specs.declared.readings.Found.TheVariants.{Value as FoundValue}
use Rattle.planus_dump.specs.declared.readings.Found.TheVariants.{Fault as FoundFault}
use Rattle.planus_dump.specs.declared.readings.Found.TheVariants.{Table as FoundTable}

-- a result, by its value
abbrev pub answer_seen : {A B : Type 0} → (A → B) → Result A ErrorKind → Result B (List ℕ)
answer_seen sees (Ok x) = Ok (sees x)
answer_seen sees (Err kind) = Err (fault_text kind)

abbrev pub table_seen : Table → Seen
table_seen table = record { object = table_object table; slots = table_slots table }

abbrev pub option_seen : {A B : Type 0} → (A → B) → Option A → Option B
option_seen sees None = None
option_seen sees (Some x) = Some (sees x)

pub record IsUnionIn (object : List ℕ) (union : SeenUnion) (tagged : TaggedPlace) : Type 0 where
  pub tag : tagged_tag tagged ≡ union.tag
  pub bytes : place_bytes (tagged_place tagged) ≡ object
  pub offset : place_offset (tagged_place tagged) ≡ union.offset

abbrev pub SeesUnion :
    List ℕ → Result (Option SeenUnion) (List ℕ) → Result (Option TaggedPlace) ErrorKind → Type 0
SeesUnion object seen (Ok None) = seen ≡ Ok None
SeesUnion object seen (Ok (Some tagged)) =
    (union : SeenUnion) × (seen ≡ Ok (Some union)) × IsUnionIn object union tagged
SeesUnion object seen (Err kind) = seen ≡ Err (fault_text kind)

-- none where the field is absent
abbrev pub SeesPlace : Seen → ℕ → Option Place → Type 0
SeesPlace table i None = Slot table.slots i ≡ 0
SeesPlace table i (Some place) =
    (Slot table.slots i ≢ 0) × (place_bytes place ≡ table.object)
    × (place_offset place ≡ Slot table.slots i)

-- the place to which the reference at f of S leads, by what a dump says of the reference's number
abbrev pub SeesLed :
    List ℕ → ℕ → Result ℕ (List ℕ) → Result Place ErrorKind → Type 0
SeesLed S f said (Ok place) =
    (n : ℕ) × (said ≡ Ok n) × (place_bytes place ≡ S) × (place_offset place ≡ f + n)
SeesLed S f said (Err kind) = said ≡ Err (fault_text kind)

abbrev pub unions_view : Unions → UnionView
unions_view unions = union_view_of unions.vector

abbrev pub unions_seen : Unions → SeenUnions
unions_seen unions =
    let view = unions_view unions in
    record { tags = view.tags; references = view.references; count = view.count }

-- none out of bounds
abbrev pub GetsUnion : UnionView → ℕ → Option TaggedPlace → Type 0
GetsUnion view i None = view.count ≤ i
GetsUnion view i (Some tagged) =
    (i < view.count)
    × IsUnionIn view.references (record { tag = slice_index view.tags i; offset = i * 4 }) tagged

abbrev pub IsPosition : List ℕ → ℕ → Result Position ErrorKind → Type 0
IsPosition S f (Ok position) = (slice_bytes position.slice ≡ S) × (position.offset ≡ f)
IsPosition S f (Err kind) = ⊥

-- the bytes from f on, at least this many, or an error
abbrev pub IsSliceFrom :
    List ℕ → ℕ → ℕ → Result SliceWithStartOffset ErrorKind → Type 0
IsSliceFrom S f size (Ok slice) = (f + size ≤ length S) × (slice_bytes slice ≡ drop f S)
IsSliceFrom S f size (Err kind) = (length S < f + size) × (kind ≡ InvalidOffset)

abbrev pub values_seen : SliceWithStartOffset × ℕ → SeenItems
values_seen values = record { bytes = slice_bytes values.0; count = values.1 }

abbrev pub IsFloat : (ℕ → Bits) → Result ℕ (List ℕ) → Result Bits ErrorKind → Type 0
IsFloat make said (Ok bits) = (n : ℕ) × (bits ≡ make n) × (said ≡ Ok n)
IsFloat make said (Err kind) = said ≡ Err (fault_text kind)

abbrev pub found_events : TableEvents → List ℕ → Found → List Event
found_events E path (FoundValue value) = line (value_line path (value_text value)) ∷ []
found_events E path (FoundFault kind) = fault_event path (fault_text kind) ∷ []
found_events E path (FoundTable index place) = E index (place_bytes place) (place_offset place) path

-- whatever the tables' events
abbrev pub IsFound : Item → List ℕ → ℕ → Found → Type 0
IsFound item S f found =
    (E : TableEvents) (path : List ℕ) → found_events E path found ≡ item_events E item S f path
