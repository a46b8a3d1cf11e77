-- Places whose reading is chosen later.
use Rattle.std.specs.Prelude.{◌≡◌, ℕ, ◌+◌, List, [], drop}
use Rattle.planus_read.specs.declared.place.Place.{Place}
use Rattle.planus_read.specs.declared.place.TaggedPlace.{TaggedPlace}
use Rattle.planus_read.specs.Clauses.{Reading}
use Rattle.planus_read.specs.Slices.{slice_bytes, slice_start}
use Rattle.planus_read.specs.Reading.{Leads}

-- the bytes of a place's slice
abbrev pub place_bytes : Place → List ℕ
place_bytes place = slice_bytes place.buffer

abbrev pub place_start : Place → ℕ
place_start place = slice_start place.buffer

abbrev pub place_offset : Place → ℕ
place_offset place = place.offset

-- a union's tag
abbrev pub tagged_tag : TaggedPlace → ℕ
tagged_tag tagged = tagged.tag

abbrev pub tagged_place : TaggedPlace → Place
tagged_place tagged = tagged.place

-- the place at f of the slice S
pub record IsPlace (S : List ℕ) (start f : ℕ) (place : Place) : Type 0 where
  pub bytes : place_bytes place ≡ S
  pub begin : place_start place ≡ start
  pub offset : place_offset place ≡ f

pub record IsTaggedPlace (S : List ℕ) (start tag f : ℕ) (tagged : TaggedPlace) : Type 0 where
  pub tag_is : tagged_tag tagged ≡ tag
  pub place_is : IsPlace S start f (tagged_place tagged)

-- a place has no clauses
abbrev pub place_reading : List ℕ → ℕ → ℕ → Reading Place
place_reading S start f = record { There = IsPlace S start f; clauses = [] }

abbrev pub tagged_place_reading : List ℕ → ℕ → ℕ → ℕ → Reading TaggedPlace
tagged_place_reading S start tag f = record { There = IsTaggedPlace S start tag f; clauses = [] }

pub record LeadsOn (B : List ℕ) (k : ℕ) (place : Place) : Type 0 where
  pub slice : place_bytes place ≡ drop (place_start place) B
  pub leads : Leads B (place_start place + place_offset place) k

pub record TaggedLeadsOn (B : List ℕ) (tag k : ℕ) (tagged : TaggedPlace) : Type 0 where
  pub tag_is : tagged_tag tagged ≡ tag
  pub leads_on : LeadsOn B k (tagged_place tagged)
