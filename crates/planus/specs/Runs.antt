-- Runs: the meaning of steps, by the definitions alone.
use Rattle.std.specs.Prelude.{◌≡◌, ℕ, zero, suc, ◌+◌, ◌==◌, ◌||◌, List, [], ◌∷◌, ◌++◌, take, drop}
use Rattle.std.specs.Prelude.{slice_get, Option, ◌/◌}
use Rattle.std.specs.Prelude.{Some}
use Rattle.std.specs.Prelude.{None, if◌then◌else◌, Bool, true, false, nat_lt, ◌^◌, map, length, ⊤}
use Rattle.std.specs.Prelude.{◌⊎◌, ◌%◌, ◌&&◌, not}
use Rattle.std.specs.Option.{option_map, option_and_then, is_none}
use Rattle.std.specs.List.{list_all}
use Rattle.std.specs.Int.{Width, w8, w16, w32, w64, w128, byte_len, to_le_bytes}
use Rattle.planus_read.specs.Values as value
use Rattle.planus_read.specs.Values.{Plain, Value, Field}
use Rattle.planus_write.specs.Shared.{CacheSettings}
use Rattle.planus_back.specs.Parts.{Part, Written}
use Rattle.planus_write.specs.Limits.{IsWithinLimit}
use Rattle.planus_write.specs.History.{History, Entry, no_history, Puts, PutsAll}
use Rattle.planus_write.specs.History.{part_after, found_before}
use Rattle.planus_write.specs.History.{ComesToTooLarge as ComesToTooLargeEntry}
use Rattle.planus_write.specs.Parts.{Named, named_by, entries_of, finish_entry}
use Rattle.planus_write.specs.Parts.{sized_finish_entry}
use Rattle.planus.specs.Steps.{Step, text, bytes, numbers, refs, unions, struct, plains, table}
use Rattle.planus.specs.Steps.{finish}
use Rattle.planus.specs.Steps.{clear, FieldStep, number_field, struct_field, ref_field, tags_field}
use Rattle.planus.specs.Steps.{values_field}
use Rattle.planus.specs.Steps.{Front, root_first, size_first}
use Rattle.planus.specs.Slots.{place_fault, size_fault, alignment_of, greatest_field}
use Rattle.planus.specs.declared.replaying.faults.Why.{Why}

-- a value's step and its distances
pub record Listed : Type 0 where
  pub step : ℕ
  pub named : Named

abbrev pub named_at : List Listed → ℕ → Option Named
named_at [] step = None
named_at (one ∷ rest) step = if one.step == step then Some one.named else named_at rest step

-- the distance of a value; a union vector has none
abbrev pub value_distance : Named → Option ℕ
value_distance named = if is_none named.tags then Some named.distance else None

-- the distances of a union vector's tags and references
abbrev pub tags_distance : Named → Option ℕ
tags_distance named = named.tags

abbrev pub references_distance : Named → Option ℕ
references_distance named = option_map (λ tags. named.distance) named.tags

abbrev pub distance_at : (Named → Option ℕ) → List Listed → ℕ → Option ℕ
distance_at which listed step = option_and_then which (named_at listed step)

abbrev pub value_at : List Listed → ℕ → Option ℕ
value_at listed step = distance_at value_distance listed step

-- the width of n bytes, for items of a vector
abbrev pub width_of : ℕ → Option Width
width_of size =
    if size == 2 then Some w16
    else if size == 4 then Some w32 else if size == 8 then Some w64 else None

-- the number fits the width
abbrev pub fits_width : Width → ℕ → Bool
fits_width width number = nat_lt number (256 ^ byte_len width)

-- a vector of numbers that fit a known width
-- The format: numbers are little-endian.
abbrev pub numbers_value : Option Width → List ℕ → Option Value
numbers_value None items = None
numbers_value (Some width) items =
    if list_all (fits_width width) items
    then Some (value.plain_list (byte_len width) (byte_len width) (map (to_le_bytes width) items))
    else None

abbrev pub with_one : {Y : Type 0} → Option Y → Option (List Y) → Option (List Y)
with_one None others = None
with_one (Some one) others = option_map (λ rest. one ∷ rest) others

-- all results, if each item has one
abbrev pub all_of : {X Y : Type 0} → (X → Option Y) → List X → Option (List Y)
all_of gives [] = Some []
all_of gives (x ∷ xs) = with_one (gives x) (all_of gives xs)

-- a union: its tag above 0, and its value's distance
abbrev pub union_of : List Listed → ℕ × ℕ → Option (ℕ × ℕ)
union_of listed item =
    if item.0 == 0 then None
    else option_map (λ distance. (item.0, distance)) (value_at listed item.1)

-- the width of n bytes, for a field
abbrev pub field_width : ℕ → Option Width
field_width size = if size == 1 then Some w8 else width_of size

-- a number that fits a known width
-- The format: a number of n bytes has alignment n.
abbrev pub plain_field : Option Width → ℕ → Option Field
plain_field None number = None
plain_field (Some width) number =
    if fits_width width number
    then Some (value.plain
    (record { bytes = to_le_bytes width number; alignment = byte_len width }))
    else None

-- the width of n bytes, to which a struct may be aligned
-- The format: a struct is aligned as its greatest field, or as its schema says.
abbrev pub struct_width : ℕ → Option Width
struct_width alignment = if alignment == 16 then Some w128 else field_width alignment

-- a positive multiple of the alignment
abbrev pub fits_size : ℕ → ℕ → Bool
fits_size alignment size = not (size == 0) && size % alignment == 0

-- some bytes, as many as a multiple of the alignment
abbrev pub fits_alignment : ℕ → List ℕ → Bool
fits_alignment alignment content = fits_size alignment (length content)

-- a struct of these bytes, aligned to a known width
abbrev pub struct_of : Option Width → List ℕ → Option Plain
struct_of None content = None
struct_of (Some width) content =
    if fits_alignment (byte_len width) content
    then Some (record { bytes = content; alignment = byte_len width })
    else None

abbrev pub field_of : List Listed → FieldStep → Option Field
field_of listed (number_field width number) = plain_field (field_width width) number
field_of listed (struct_field alignment content) =
    option_map value.plain (struct_of (struct_width alignment) content)
field_of listed (ref_field step) = option_map value.reference (value_at listed step)
field_of listed (tags_field step) =
    option_map value.tags (distance_at tags_distance listed step)
field_of listed (values_field step) =
    option_map value.values (distance_at references_distance listed step)

-- the first n items of this size in bytes, one after another
abbrev pub cut : (size n : ℕ) → List ℕ → List (List ℕ)
cut size zero content = []
cut size (suc n) content = take size content ∷ cut size n (drop size content)

-- all items of this size
abbrev pub items_of : ℕ → List ℕ → List (List ℕ)
items_of size content = cut size (length content / size) content

-- items of a positive multiple of the alignment, and nothing behind the last
abbrev pub fits_items : ℕ → ℕ → List ℕ → Bool
fits_items alignment size content = fits_size alignment size && length content % size == 0

-- a vector of items of this size, aligned to a known width
abbrev pub plains_value : Option Width → ℕ → List ℕ → Option Value
plains_value None size content = None
plains_value (Some width) size content =
    if fits_items (byte_len width) size content
    then Some (value.plain_list size (byte_len width) (items_of size content))
    else None

abbrev pub with_field : ℕ → Option Why → Option Field → Option (List (ℕ × Field))
    → Option (List (ℕ × Field))
with_field slot None (Some field) rest = option_map (λ fields. (slot, field) ∷ fields) rest
with_field slot None None rest = None
with_field slot (Some why) field rest = None

-- the fields after those of these slots, the last with this alignment, if all are right
abbrev pub fields_of : List Listed → List ℕ → ℕ → List (ℕ × FieldStep)
    → Option (List (ℕ × Field))
fields_of listed slots before [] = Some []
fields_of listed slots before (entry ∷ fields) =
    with_field entry.0 (place_fault slots before entry) (field_of listed entry.1)
    (fields_of listed (slots ++ entry.0 ∷ []) (alignment_of entry.1) fields)

abbrev pub fields_if : Option Why → Option (List (ℕ × Field)) → Option (List (ℕ × Field))
fields_if None fields = fields
fields_if (Some why) fields = None

-- the fields of a table, if all are right and not too large together
abbrev pub table_of : List Listed → List (ℕ × FieldStep) → Option (List (ℕ × Field))
table_of listed fields =
    fields_if (size_fault fields) (fields_of listed [] greatest_field fields)

-- the value that a step writes, by the values before it
abbrev pub value_of : List Listed → Step → Option Value
value_of listed (text content) = Some (value.text content)
value_of listed (bytes content) = Some (value.byte_list content)
value_of listed (numbers width items) = numbers_value (width_of width) items
value_of listed (refs steps) = option_map value.reference_list (all_of (value_at listed) steps)
value_of listed (unions items) = option_map value.union_vector (all_of (union_of listed) items)
value_of listed (struct alignment content) =
    option_map value.apart (struct_of (struct_width alignment) content)
value_of listed (plains alignment size content) =
    plains_value (struct_width alignment) size content
value_of listed (table fields) = option_map value.table (table_of listed fields)
value_of listed (finish front root identifier) = None
value_of listed clear = None

abbrev pub finish_of : Front → Option (List ℕ) → ℕ → List Entry
finish_of root_first identifier root = finish_entry root identifier ∷ []
finish_of size_first identifier root = sized_finish_entry root identifier ∷ []

-- the entries that a step writes: of its value, or of a finish
abbrev pub entries_put : List Listed → Step → Option (List Entry)
entries_put listed (finish front root identifier) =
    option_map (finish_of front identifier) (value_at listed root)
entries_put listed step = option_map entries_of (value_of listed step)

-- a finish's bytes, and each value since the last clear
pub record Finish : Type 0 where
  pub bytes : List ℕ
  pub places : List Listed

-- what was written since the last clear, and all finishes
pub record RunState : Type 0 where
  pub history : History
  pub listed : List Listed
  pub next : ℕ
  pub finished : List Finish

-- nothing is written before the step of this number
abbrev pub nothing_since : ℕ → List Finish → RunState
nothing_since next finished =
    record { history = no_history; listed = []; next = next; finished = finished }

-- the start of every run
abbrev pub nothing_written : RunState
nothing_written = nothing_since 0 []

abbrev pub values_added : Option Value → ℕ → List ℕ → List Listed
values_added None number got = []
values_added (Some value) number got = record { step = number; named = named_by value got } ∷ []

abbrev pub finishes_added : Step → RunState → History → List Finish
finishes_added (finish front root identifier) before after =
    record { bytes = after.written.bytes; places = before.listed } ∷ []
finishes_added _ before after = []

-- a step that writes its entries
pub record Writes (settings : CacheSettings) (before : RunState) (step : Step)
    (after : RunState) : Type 0 where
  pub entries : List Entry
  pub are : entries_put before.listed step ≡ Some entries
  pub got : List ℕ
  pub puts : PutsAll settings entries [] before.history got after.history
  pub listed : after.listed ≡ before.listed ++ values_added
      (value_of before.listed step) before.next got
  pub next : after.next ≡ before.next + 1
  pub finished : after.finished ≡ before.finished ++ finishes_added step before after.history

-- nothing before a clear can be named
abbrev pub cleared : RunState → RunState
cleared before = nothing_since (before.next + 1) before.finished

abbrev pub Advances : CacheSettings → RunState → Step → RunState → Type 0
Advances settings before clear after = after ≡ cleared before
Advances settings before step after = Writes settings before step after

abbrev pub LeadsTo : CacheSettings → RunState → List Step → RunState → Type 0
LeadsTo settings before [] after = after ≡ before
LeadsTo settings before (step ∷ steps) after =
    (between : RunState) × Advances settings before step between
    × LeadsTo settings between steps after

-- from nothing, the steps give these finishes
abbrev pub Runs : CacheSettings → List Step → List Finish → Type 0
Runs settings steps finished = (end : RunState) × LeadsTo settings nothing_written steps end
    × (finished ≡ end.finished)

-- one of the step's entries has a part that is too large
pub record StepTooLarge (settings : CacheSettings) (before : RunState) (step : Step) : Type 0 where
  pub entries : List Entry
  pub are : entries_put before.listed step ≡ Some entries
  pub too_large : ComesToTooLargeEntry settings entries [] before.history

-- the step of this number has a part that is too large
pub record ComesToTooLarge (settings : CacheSettings) (steps : List Step) (n : ℕ) : Type 0 where
  pub step : Step
  pub there : slice_get steps n ≡ Some step
  pub before : RunState
  pub run : LeadsTo settings nothing_written (take n steps) before
  pub too_large : StepTooLarge settings before step

-- with the least padding the part isn't too large
abbrev pub IsNotTooLarge : Part → Written → Type 0
IsNotTooLarge part written =
    IsWithinLimit (length written.bytes) part.size part.alignment written.promises

-- an entry takes memory unless it is found or too large
pub record AsksForMemory (settings : CacheSettings) (entry : Entry) (got : List ℕ)
    (before : History) : Type 0 where
  pub is_new : found_before settings entry before ≡ None
  pub fits : IsNotTooLarge (part_after entry got before) before.written

-- memory may run out for one of these entries, or after the last
abbrev pub ComesToRefusedEntry : CacheSettings → List Entry → List ℕ → History → Type 0
ComesToRefusedEntry settings [] got before = ⊤
ComesToRefusedEntry settings (entry ∷ entries) got before =
    AsksForMemory settings entry got before
    ⊎ ((distance : ℕ) × (between : History) × Puts settings entry got before distance between
    × ComesToRefusedEntry settings entries (got ++ distance ∷ []) between)

-- a step takes memory before it writes, to narrow numbers or find values
abbrev pub takes_list : Step → Bool
takes_list (numbers width items) = width == 2 || width == 4
takes_list (refs steps) = true
takes_list (unions items) = true
takes_list _ = false

-- memory may run out while the step's entries are written
pub record EntriesRefused (settings : CacheSettings) (before : RunState) (step : Step)
    : Type 0 where
  pub entries : List Entry
  pub are : entries_put before.listed step ≡ Some entries
  pub refused : ComesToRefusedEntry settings entries [] before.history

-- memory may run out in the step
abbrev pub StepRefused : CacheSettings → RunState → Step → Type 0
StepRefused settings before step =
    (takes_list step ≡ true) ⊎ EntriesRefused settings before step
