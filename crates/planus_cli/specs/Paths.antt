-- Which names and indices lead to a place in a JSON text.
use Rattle.std.specs.Prelude.{ℕ, zero, suc, ◌==◌, List, [], ◌∷◌, ◌++◌, codes, if◌then◌else◌}
use Rattle.std.specs.Prelude.{Option, Some, None, Result, Ok, Err}
use Rattle.std.specs.Fmt.{decimal}
use Rattle.std.specs.Global.{Vec}
use Rattle.std.specs.Option.{option_map, option_or}
use Rattle.planus_json_syntax.specs.Reading.{read}
use Rattle.planus_json_syntax.specs.Strings.{Fault}
use Rattle.planus_json_syntax.specs.Values.{JsonV, MemberV}
use Rattle.planus_pack.specs.Parts.{items_of, members_of}

-- the path to a place, where one leads there
abbrev pub Path : Type 0
Path = Option (List ℕ)

abbrev pub path_view : Option (Vec ℕ) → Path
path_view found = option_map (λ path. path.items) found

abbrev pub index_step : ℕ → List ℕ
index_step n = codes "[" ++ (decimal n ++ codes "]")

abbrev pub name_step : List ℕ → List ℕ
name_step key = codes "." ++ key

-- a path after what leads to it
abbrev pub after : List ℕ → Path → Path
after step path = option_map (λ more. step ++ more) path

module _ (inside : JsonV → Path) where
  -- in the items of a list, of which the first has this index
  abbrev pub in_items : ℕ → List JsonV → Path
  in_items n [] = None
  in_items n (j ∷ js) = option_or (after (index_step n) (inside j)) (in_items (suc n) js)

  -- a key itself may stand there
  abbrev pub in_member : ℕ → MemberV → Path
  in_member place m = if m.at == place then Some (name_step m.key)
      else after (name_step m.key) (inside m.value)

  abbrev pub in_members : ℕ → List MemberV → Path
  in_members place [] = None
  in_members place (m ∷ ms) = option_or (in_member place m) (in_members place ms)

  abbrev pub in_parts : ℕ → Option (List JsonV) → Option (List MemberV) → Path
  in_parts place (Some js) ms = in_items 0 js
  in_parts place None (Some ms) = in_members place ms
  in_parts place None None = None

  abbrev pub in_value : ℕ → JsonV → Path
  in_value place json = if json.at == place then Some []
      else in_parts place (items_of json.value) (members_of json.value)

-- from a value, through so many values
unfoldable pub path_to : ℕ → ℕ → JsonV → Path
path_to zero place json = None
path_to (suc depth) place json = in_value (path_to depth place) place json

-- the first path from one of these values; a value is in 256 lists and objects at most
abbrev pub path_from : ℕ → List JsonV → Path
path_from place [] = None
path_from place (j ∷ js) = option_or (path_to 257 place j) (path_from place js)

-- what stands before a message: the path without the point that it begins with
abbrev pub lead : Path → List ℕ
lead None = []
lead (Some []) = []
lead (Some (b ∷ bs)) = (if b == 46 then bs else b ∷ bs) ++ codes ": "

abbrev pub lead_in : ℕ → Result (List JsonV) Fault → List ℕ
lead_in place (Ok values) = lead (path_from place values)
lead_in place (Err fault) = []

-- of a place in a text
abbrev pub lead_of : List ℕ → ℕ → List ℕ
lead_of text place = lead_in place (read text)
