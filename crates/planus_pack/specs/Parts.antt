-- The parts of a value of a text.
use Rattle.std.specs.Prelude.{ℕ, ◌==◌, Bool, false, ◌&&◌, not, if◌then◌else◌, List, [], ◌∷◌, codes, map}
use Rattle.std.specs.Prelude.{Option, Some, None}
use Rattle.std.specs.Str.{bytes_eq}
use Rattle.planus_json_syntax.specs.Values.{ValueV, word, text, list, object, Items, no_items}
use Rattle.planus_json_syntax.specs.Values.{item, Members, no_members, member, JsonV, MemberV}
use Rattle.planus_json_syntax.specs.Values.{member_view}
use Rattle.planus_pack.specs.declared.object.Object.{Object}

abbrev pub items_in : Items → List JsonV
items_in no_items = []
items_in (item at value js) = record { at = at; value = value } ∷ items_in js

abbrev pub members_in : Members → List MemberV
members_in no_members = []
members_in (member at key at' value ms) =
    record { at = at; key = key; value = record { at = at'; value = value } } ∷ members_in ms

-- a word, or what a string says
abbrev pub word_of : ValueV → Option (List ℕ)
word_of (word w) = Some w
word_of (text w) = Some w
word_of (list js) = None
word_of (object ms) = None

abbrev pub text_of : ValueV → Option (List ℕ)
text_of (word w) = None
text_of (text w) = Some w
text_of (list js) = None
text_of (object ms) = None

abbrev pub items_of : ValueV → Option (List JsonV)
items_of (word w) = None
items_of (text w) = None
items_of (list js) = Some (items_in js)
items_of (object ms) = None

abbrev pub members_of : ValueV → Option (List MemberV)
members_of (word w) = None
members_of (text w) = None
members_of (list js) = None
members_of (object ms) = Some (members_in ms)

-- the word, and no string that says it
abbrev pub is_null : ValueV → Bool
is_null (word w) = bytes_eq w (codes "null")
is_null (text w) = false
is_null (list js) = false
is_null (object ms) = false

-- The value of the first member with this key. A member that is `null` is as if absent.
abbrev pub given : List ℕ → List MemberV → Option JsonV
given key [] = None
given key (m ∷ ms) =
    if bytes_eq m.key key && not (is_null m.value.value) then Some m.value else given key ms

abbrev pub is_at : ℕ → Option JsonV → Bool
is_at at None = false
is_at at (Some json) = json.at == at

-- whether a member stands for what one before it gave
abbrev pub stands_again : MemberV → List MemberV → Bool
stands_again m ms = not (is_at m.value.at (given m.key ms))

-- an object of a text: the place of its first byte, and its members
pub record ObjectV : Type 0 where
  pub at : ℕ
  pub members : List MemberV

abbrev pub object_view : Object → ObjectV
object_view o = record { at = o.at; members = map member_view o.members.now }
