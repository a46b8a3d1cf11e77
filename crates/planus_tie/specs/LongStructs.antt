-- The text of a struct in parts, each a struct of consecutive fields.
use Rattle.std.specs.Prelude.{◌≡◌, ℕ, ◌-◌, Bool, true, false, not, is_none, List, [], ◌∷◌, ◌++◌, take, drop}
use Rattle.std.specs.Prelude.{codes, decimal, Option, None}
use Rattle.planus_tie.specs.Bare.{bare}
use Rattle.planus_tie.specs.FieldTexts.{fields_text, put_text}
use Rattle.planus_tie.specs.Holes.{filled, each}
use Rattle.planus_tie.specs.Plains.{layout_text}
use Rattle.planus_tie.specs.Reading.{after, after_in}
use Rattle.planus_tie.specs.declared.holes.Holes.{Holes}
use Rattle.planus_tie.specs.declared.long_structs.Part.{Part}
use Rattle.planus_tie.specs.declared.naming.Naming.{Naming}

-- where the first field begins
abbrev pub start_of : List Holes → ℕ
start_of [] = 0
start_of (h ∷ hs) = h.number.magnitude

-- in a part of this start and size, the offset of the first field, or else the size
abbrev pub next_in : ℕ → ℕ → List Holes → ℕ
next_in start size [] = size
next_in start size (h ∷ hs) = h.number.magnitude - start

-- of a field before this offset, in a part of this start
abbrev pub part_holes : ℕ → ℕ → Holes → Holes
part_holes start next h = record {
  index = h.index;
  place = h.place;
  base = h.base;
  number = record { negative = false; magnitude = h.number.magnitude - start };
  size = h.size;
  alignment = h.alignment;
  count = h.count;
  padding = next - (h.number.magnitude - start) - h.size;
}

-- of the fields of a part of this start and size
abbrev pub part_fields : ℕ → ℕ → List Holes → List Holes
part_fields start size [] = []
part_fields start size (h ∷ hs) =
    part_holes start (next_in start size hs) h ∷ part_fields start size hs

-- a part's size, and how it is written
unfoldable pub written_text : Naming → Holes → ℕ → List Holes → List ℕ
written_text n own size fields = codes "const SIZE: usize = " ++ (decimal size
    ++ (codes "; fn put(&self, bytes: &mut [u8]) {" ++ put_text n own fields))

-- how it is read, after its name
unfoldable pub part_text : Naming → Holes → List Holes → List ℕ
part_text n own fields = filled n own (codes "buffer, offset;")
    ++ (each n (codes "$w,") fields ++ filled n own (codes ") } }"))

-- what follows a part of these fields
unfoldable pub behind_part : Naming → Holes → ℕ → List Holes → Option (List ℕ) → Option (List ℕ)
behind_part n own size fields text = after_in (bare (part_text n own fields))
    (after_in (codes "read_fields!(") (after_in (bare (written_text n own size fields)) text))

-- what follows a part that has the first of these fields
abbrev pub behind_first : Naming → Holes → Part → List Holes → Option (List ℕ) → Option (List ℕ)
behind_first n own p fields text =
    behind_part n own p.size (part_fields (start_of fields) p.size (take p.count fields)) text

abbrev pub if_none_left : List Holes → Option (List ℕ) → Option (List ℕ)
if_none_left [] text = text
if_none_left (h ∷ hs) text = None

-- what follows parts that have all fields in turn
abbrev pub behind_parts : Naming → Holes → List Holes → List Part → Option (List ℕ)
    → Option (List ℕ)
behind_parts n own fields [] text = if_none_left fields text
behind_parts n own fields (p ∷ ps) text =
    behind_parts n own (drop p.count fields) ps (behind_first n own p fields text)

-- up to the body of `put`
unfoldable pub head_text : Naming → Holes → List Holes → List ℕ
head_text n own fields = fields_text n own fields ++ layout_text n own

abbrev pub are_in_parts : Naming → Holes → List Holes → List Part → List ℕ → Bool
are_in_parts n own fields parts text = not (is_none (behind_parts n own fields parts
    (after (bare (head_text n own fields)) text)))

-- Behind the head there are parts that have all fields in turn. Each writes its fields with their
-- sizes and paddings up to its own size, and reads them at their offsets from its start.
pub record AreInParts (n : Naming) (own : Holes) (fields : List Holes) (text : List ℕ) : Type 0
  where
    pub parts : List Part
    pub tied : are_in_parts n own fields parts text ≡ true
