-- What a text says.
use Rattle.std.specs.Prelude.{ℕ, List, [], ◌∷◌}
use Rattle.std.specs.String.{string_bytes}
use Rattle.planus_json_syntax.specs.declared.json.Json.{Json, fold-Json}
use Rattle.planus_json_syntax.specs.declared.member.Member.{Member, fold-Member}
use Rattle.planus_json_syntax.specs.declared.value.Value.{Value, fold-Value}
use Rattle.planus_json_syntax.specs.declared.value.Value.TheOpen.{Value-F, Json-F, Member-F}

-- a word as it is written, what a string says, the items of a list and the members of an object
mutual
  pub data ValueV : Type 0 where
    word : List ℕ → ValueV
    text : List ℕ → ValueV
    list : Items → ValueV
    object : Members → ValueV

  -- each with its place
  pub data Items : Type 0 where
    no_items : Items
    item : ℕ → ValueV → Items → Items

  -- each with the place of its key, its key, the place of its value
  pub data Members : Type 0 where
    no_members : Members
    member : ℕ → List ℕ → ℕ → ValueV → Members → Members

-- a value, and the distance of its first byte from the text's first byte
pub record JsonV : Type 0 where
  pub at : ℕ
  pub value : ValueV

-- a member of an object; the place is that of its key
pub record MemberV : Type 0 where
  pub at : ℕ
  pub key : List ℕ
  pub value : JsonV

abbrev pub items_of : List JsonV → Items
items_of [] = no_items
items_of (j ∷ js) = item j.at j.value (items_of js)

abbrev pub members_of : List MemberV → Members
members_of [] = no_members
members_of (m ∷ ms) = member m.at m.key m.value.at m.value.value (members_of ms)

-- ---- values of the program

-- one level, with each value inside as what it says
abbrev pub value_step : Value-F ValueV JsonV MemberV → ValueV
value_step (Value-F.Word w) = word (string_bytes w)
value_step (Value-F.Text s) = text (string_bytes s)
value_step (Value-F.List v) = list (items_of v.items)
value_step (Value-F.Object v) = object (members_of v.items)

abbrev pub json_step : Json-F ValueV JsonV MemberV → JsonV
json_step j = record { at = j.at; value = j.value }

abbrev pub member_step : Member-F ValueV JsonV MemberV → MemberV
member_step m = record { at = m.at; key = string_bytes m.key; value = m.value }

abbrev pub value_view : Value → ValueV
value_view = fold-Value ValueV JsonV MemberV value_step json_step member_step

abbrev pub json_view : Json → JsonV
json_view = fold-Json ValueV JsonV MemberV value_step json_step member_step

abbrev pub member_view : Member → MemberV
member_view = fold-Member ValueV JsonV MemberV value_step json_step member_step
