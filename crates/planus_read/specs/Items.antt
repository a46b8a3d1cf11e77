-- The names in the errors of vector items.
use Rattle.std.specs.Prelude.{ℕ, List, codes}

abbrev pub item_method : List ℕ
item_method = codes "get"

-- of a string
abbrev pub texts_name : List ℕ
texts_name = codes "[str]"

-- of a fixed layout
abbrev pub plain_name : List ℕ
plain_name = codes "[plain]"

-- of a union whose reading is chosen later
abbrev pub unions_name : List ℕ
unions_name = codes "[union]"
