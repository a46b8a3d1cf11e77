-- The bytes of the worked examples.
use Rattle.std.specs.Prelude.{ℕ, List, [], ◌∷◌}
use Rattle.planus_read.specs.Values.{Field, plain, reference}

-- the string `Axe`, finished
abbrev pub text_axe_bytes : List ℕ
text_axe_bytes = 4 ∷ 0 ∷ 0 ∷ 0 ∷ 3 ∷ 0 ∷ 0 ∷ 0 ∷ 65 ∷ 120 ∷ 101 ∷ 0 ∷ []

-- the string `Hi` and a vector of the 8-byte number 1, finished
abbrev pub u64_list_bytes : List ℕ
u64_list_bytes =
    4 ∷ 0 ∷ 0 ∷ 0 ∷ 1 ∷ 0 ∷ 0 ∷ 0 ∷ 1 ∷ 0 ∷ 0 ∷ 0 ∷ 0 ∷ 0 ∷ 0 ∷ 0 ∷ 2 ∷ 0 ∷ 0 ∷ 0 ∷ 72 ∷ 105 ∷ 0
    ∷ []

-- its items
abbrev pub one_u64 : List (List ℕ)
one_u64 = (1 ∷ 0 ∷ 0 ∷ 0 ∷ 0 ∷ 0 ∷ 0 ∷ 0 ∷ []) ∷ []

-- a table with the string `Axe` and the number 24 of 2 bytes, finished
abbrev pub weapon_bytes : List ℕ
weapon_bytes =
    4 ∷ 0 ∷ 0 ∷ 0 ∷ 244 ∷ 255 ∷ 255 ∷ 255 ∷ 16 ∷ 0 ∷ 0 ∷ 0 ∷ 24 ∷ 0 ∷ 0 ∷ 0 ∷ 8 ∷ 0 ∷ 10 ∷ 0 ∷ 4
    ∷ 0 ∷ 8 ∷ 0 ∷ 3 ∷ 0 ∷ 0 ∷ 0 ∷ 65 ∷ 120 ∷ 101 ∷ 0 ∷ []

abbrev pub twenty_four : Field
twenty_four = plain (record { bytes = 24 ∷ 0 ∷ []; alignment = 2 })

-- its fields by slot; the string is at distance 8
abbrev pub weapon_fields : List (ℕ × Field)
weapon_fields = (0, reference 8) ∷ (1, twenty_four) ∷ []

-- the strings `A` and `B` and their union vector, with tags 1 and 2
abbrev pub union_vector_bytes : List ℕ
union_vector_bytes =
    2 ∷ 0 ∷ 0 ∷ 0 ∷ 1 ∷ 2 ∷ 0 ∷ 0 ∷ 2 ∷ 0 ∷ 0 ∷ 0 ∷ 16 ∷ 0 ∷ 0 ∷ 0 ∷ 4 ∷ 0 ∷ 0 ∷ 0 ∷ 1 ∷ 0 ∷ 0 ∷ 0
    ∷ 66 ∷ 0 ∷ 0 ∷ 0 ∷ 1 ∷ 0 ∷ 0 ∷ 0 ∷ 65 ∷ 0 ∷ []

-- its tags, and the distances of the strings
abbrev pub two_texts : List (ℕ × ℕ)
two_texts = (1, 6) ∷ (2, 14) ∷ []

-- a table with the number 24 of 2 bytes, finished
abbrev pub u16_table_bytes : List ℕ
u16_table_bytes = 4 ∷ 0 ∷ 0 ∷ 0 ∷ 250 ∷ 255 ∷ 255 ∷ 255 ∷ 24 ∷ 0 ∷ 6 ∷ 0 ∷ 6 ∷ 0 ∷ 4 ∷ 0 ∷ []

-- its field
abbrev pub u16_table_fields : List (ℕ × Field)
u16_table_fields = (0, twenty_four) ∷ []
