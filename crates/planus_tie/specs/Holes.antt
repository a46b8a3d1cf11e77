-- Texts with holes: what their letters stand for in a declaration, or in one of its members.
use Rattle.std.specs.Prelude.{ℕ, ◌%◌, Bool, true, false, ◌==◌, not, is_none, List, [], ◌∷◌, ◌++◌}
use Rattle.std.specs.Prelude.{codes, decimal, map, Option, Some, None, if◌then◌else◌}
use Rattle.std.specs.Char.{to_ascii_lowercase, to_ascii_uppercase}
use Rattle.std.specs.List.{flat_map}
use Rattle.planus_schema.specs.Numbers.{fits}
use Rattle.planus_schema.specs.declared.schema.Base.{Base}
use Rattle.planus_schema.specs.declared.schema.Base.TheVariants as base
use Rattle.planus_tie.specs.Bare.{bare}
use Rattle.planus_tie.specs.Reading.{after}
use Rattle.planus_tie.specs.Wanted.{type_of, module_of, member_of, base_word, integer_text}
use Rattle.planus_tie.specs.declared.holes.Holes.{Holes}
use Rattle.planus_tie.specs.declared.naming.Naming.{Naming}

-- it holds -1
abbrev pub is_signed : Base → Bool
is_signed (base.Scalar s) = fits s (record { negative = true; magnitude = 1 })
is_signed b = false

-- the test of two numbers in clauses
abbrev pub equality_word : Base → List ℕ
equality_word b = if is_signed b then codes "int_eq" else codes "nat_eq"

-- `T` a declaration, `M` its module, `n` a member
abbrev pub name_hole : Naming → Holes → ℕ → List ℕ
name_hole n h letter =
    if letter == 84 then type_of n h.index
    else if letter == 77 then module_of n h.index
    else if letter == 110 then member_of n h.index h.place
    else []

-- `i` a member's number, `p` its place, `S` a size and `A` an alignment in bytes
abbrev pub number_hole : Naming → Holes → ℕ → List ℕ
number_hole n h letter =
    if letter == 105 then integer_text h.number
    else if letter == 112 then decimal h.place
    else if letter == 83 then decimal h.size
    else if letter == 65 then decimal h.alignment
    else name_hole n h letter

-- an offset to a union's member
abbrev pub offset_word : Base → List ℕ
offset_word (base.Table i) = codes "table"
offset_word (base.Struct i) = codes "value"
offset_word b = codes "text"

-- a union's member as it is read
abbrev pub view_type : Naming → Base → List ℕ
view_type n (base.Table i) = type_of n i ++ codes "Ref<'a>"
view_type n (base.Struct i) = codes "PlainRef<'a," ++ (type_of n i ++ codes ">")
view_type n b = codes "&'a str"

abbrev pub view_call : Base → List ℕ
view_call (base.Table i) = codes "read_view(buffer, offset)?"
view_call (base.Struct i) = codes "read_plain_ref(buffer, offset)?"
view_call b = codes "TableRead::from_buffer(buffer, offset)?"

-- `V` a member's name in small letters, `N` in capitals; of a union's member `G` an offset to it,
-- `R` its type as it is read, `E` the call that reads it
abbrev pub member_hole : Naming → Holes → ℕ → List ℕ
member_hole n h letter =
    if letter == 86 then map to_ascii_lowercase (member_of n h.index h.place)
    else if letter == 78 then map to_ascii_uppercase (member_of n h.index h.place)
    else if letter == 71 then offset_word h.base
    else if letter == 82 then view_type n h.base
    else if letter == 69 then view_call h.base
    else number_hole n h letter

-- in brackets if there is a count of items
abbrev pub bracketed : Option ℕ → List ℕ → List ℕ
bracketed None text = text
bracketed (Some count) text = codes "[" ++ (text ++ codes "]")

-- an array's type has how many items there are
abbrev pub array_type : List ℕ → Option ℕ → List ℕ
array_type item None = item
array_type item (Some count) = codes "[" ++ (item ++ (codes ";" ++ (decimal count ++ codes "]")))

abbrev pub padding_text : ℕ → List ℕ
padding_text bytes = if bytes == 0 then [] else codes "_:" ++ (decimal bytes ++ codes ",")

-- of a field at the start nothing but its name
abbrev pub place_text : Naming → Holes → List ℕ
place_text n h = if h.number.magnitude == 0 then bracketed h.count (member_of n h.index h.place)
    else member_of n h.index h.place ++ (codes ":" ++ bracketed h.count (integer_text h.number))

-- of a struct's field `t` its type, `z` its size, `x` the padding after it, `w` its name and its
-- offset
abbrev pub field_hole : Naming → Holes → ℕ → List ℕ
field_hole n h letter =
    if letter == 116 then array_type (base_word n h.base) h.count
    else if letter == 122 then bracketed h.count (decimal h.size)
    else if letter == 120 then padding_text h.padding
    else if letter == 119 then place_text n h
    else member_hole n h letter

-- `b` the type of numbers or of a member, `q` the test of two such numbers, `=` the sign ≡, `:` the
-- sign ∷, `,` a comma, but before the first member
unfoldable pub hole : Naming → Holes → ℕ → List ℕ
hole n h letter =
    if letter == 98 then base_word n h.base
    else if letter == 113 then equality_word h.base
    else if letter == 61 then 226 ∷ 137 ∷ 161 ∷ []
    else if letter == 58 then 226 ∷ 136 ∷ 183 ∷ []
    else if letter == 44 then (if h.place == 0 then [] else codes ",")
    else field_hole n h letter

-- after `$` or not
abbrev pub filled_from : Bool → Naming → Holes → List ℕ → List ℕ
filled_from marked n h [] = []
filled_from true n h (b ∷ bs) = hole n h b ++ filled_from false n h bs
filled_from false n h (b ∷ bs) = if b == 36 then filled_from true n h bs
    else b ∷ filled_from false n h bs

-- a text in which `$` and a letter stand for something
unfoldable pub filled : Naming → Holes → List ℕ → List ℕ
filled n h text = filled_from false n h text

-- the same text for each member
abbrev pub each : Naming → List ℕ → List Holes → List ℕ
each n text hs = flat_map (λ h. filled n h text) hs

-- before the arm of a member: every ten of them a function begins, and the one before goes on there
abbrev pub opening : Naming → List ℕ → List ℕ → Holes → List ℕ
opening n next head h =
    if h.place % 10 == 0
    then (if h.place == 0 then [] else filled n h next) ++ filled n h head else []

abbrev pub chained_arm : Naming → List ℕ → List ℕ → List ℕ → Holes → List ℕ
chained_arm n next head arm h = opening n next head h ++ filled n h arm

-- an arm for each member, ten in a function
abbrev pub chained : Naming → List ℕ → List ℕ → List ℕ → List Holes → List ℕ
chained n next head arm hs = flat_map (chained_arm n next head arm) hs

-- a text without layout has this one, whose layout doesn't count
abbrev pub has_text : List ℕ → List ℕ → Bool
has_text text wanted = not (is_none (after (bare wanted) text))
