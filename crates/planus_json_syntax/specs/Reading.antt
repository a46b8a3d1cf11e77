-- The values of a text, or its first fault.
use Rattle.std.specs.Prelude.{◌≡◌, ℕ, zero, suc, ◌+◌, ◌-◌, ◌==◌, Bool, true, false, ◌&&◌, not}
use Rattle.std.specs.Prelude.{if◌then◌else◌, List, [], ◌∷◌, ◌++◌, length, map, take, drop}
use Rattle.std.specs.Prelude.{Option, Some, None, Result, Ok, Err, ⊤}
use Rattle.std.specs.Global.{Vec}
use Rattle.std.specs.Str.{bytes_eq}
use Rattle.std.specs.List.{list_all}
use Rattle.std.specs.Char.{is_ascii_digit}
use Rattle.planus_json_syntax.specs.declared.fault_kind.FaultKind.{FaultKind}
use Rattle.planus_json_syntax.specs.declared.fault_kind.FaultKind.TheVariants as fault
use Rattle.planus_json_syntax.specs.declared.json.Json.{Json}
use Rattle.planus_json_syntax.specs.declared.json_error.JsonError.{JsonError}
use Rattle.planus_json_syntax.specs.declared.json_error.JsonError.TheVariants as errors
use Rattle.planus_json_syntax.specs.Strings.{Fault}
use Rattle.planus_json_syntax.specs.Tokens.{◌>>=◌, Token, mark, word, text, Front}
use Rattle.planus_json_syntax.specs.Tokens.{is_name_byte, next}
use Rattle.planus_json_syntax.specs.Values as values
use Rattle.planus_json_syntax.specs.Values.{ValueV, list, object, JsonV, MemberV}
use Rattle.planus_json_syntax.specs.Values.{items_of, members_of, json_view}

-- a value, and the bytes after it
abbrev pub Reads : Type 0 → Type 0
Reads A = Result (A × List ℕ) Fault

abbrev pub is_mark_of : ℕ → Token → Bool
is_mark_of m (mark b) = b == m
is_mark_of m (word w) = false
is_mark_of m (text w) = false

-- ---- tokens that have to come

abbrev pub wanted : FaultKind → Option Front → Result Front Fault
wanted kind None = Err (kind, 0)
wanted kind (Some front) = Ok front

-- the first token; at the text's end that it is missing
abbrev pub front_or : FaultKind → List ℕ → Result Front Fault
front_or kind bytes = next bytes >>= wanted kind

-- what follows this mark
abbrev pub after_mark : ℕ → FaultKind → List ℕ → Result (List ℕ) Fault
after_mark m kind bytes = front_or kind bytes >>= λ front.
    if is_mark_of m front.token then Ok front.rest else Err (kind, front.left)

-- after an item: whether the list closes there, or else goes on after a comma
abbrev pub end_at : ℕ → FaultKind → List ℕ → Reads Bool
end_at close kind bytes = front_or kind bytes >>= λ front.
    if is_mark_of close front.token then Ok (true, front.rest)
    else if is_mark_of 44 front.token then Ok (false, front.rest)
    else Err (kind, front.left)

-- a name: letters, digits, `_`, and no digit first
abbrev pub is_name : List ℕ → Bool
is_name [] = false
is_name (b ∷ bs) = not (is_ascii_digit b) && list_all is_name_byte (b ∷ bs)

abbrev pub key_in : ℕ → Token → Result (List ℕ) Fault
key_in left (mark m) = Err (fault.Key, left)
key_in left (word w) = if is_name w then Ok w else Err (fault.Key, left)
key_in left (text w) = Ok w

abbrev pub key_of : Front → Result (List ℕ) Fault
key_of front = key_in front.left front.token

-- ---- lists and objects

-- an item that begins with this token
abbrev pub Item : Type 0 → Type 0
Item A = Front → Reads A

module _ {A : Type 0} (item : Item A) (close : ℕ) (missing kind : FaultKind) where
  -- after an item
  abbrev pub more_of : (List A → List ℕ → Reads (List A)) → List A → (Bool × List ℕ)
      → Reads (List A)
  more_of more found (true, rest) = Ok (found, rest)
  more_of more found (false, rest) = more found rest

  -- `more` goes on with what was found
  abbrev pub items_step : (List A → List ℕ → Reads (List A)) → List A → List ℕ → Reads (List A)
  items_step more found bytes = front_or missing bytes >>= λ front.
      if is_mark_of close front.token then Ok (found, front.rest)
      else item front >>= λ x. end_at close kind x.1 >>= more_of more (found ++ x.0 ∷ [])

  -- what was found, and the items up to the closing mark, in at most so many steps
  unfoldable pub items_from : ℕ → List A → List ℕ → Reads (List A)
  items_from zero found bytes = Err (missing, 0)
  items_from (suc n) found bytes = items_step (items_from n) found bytes

  abbrev pub items_at : List ℕ → Reads (List A)
  items_at bytes = items_from (suc (length bytes)) [] bytes

-- ---- values, in a text of this length

module _ (len : ℕ) where
  abbrev pub placed : ℕ → ValueV → JsonV
  placed left value = record { at = len - left; value = value }

  abbrev pub member_of : Item JsonV → Item MemberV
  member_of value front = key_of front >>= λ key. after_mark 58 fault.Colon front.rest
      >>= front_or fault.Value >>= value
      >>= λ x. Ok (record { at = len - front.left; key = key; value = x.0 }, x.1)

  -- a list and an object, by how their items are read
  abbrev pub list_at : (List ℕ → Reads (List JsonV)) → List ℕ → Reads ValueV
  list_at items rest = items rest >>= λ x. Ok (list (items_of x.0), x.1)

  abbrev pub object_at : (List ℕ → Reads (List MemberV)) → List ℕ → Reads ValueV
  object_at members rest = members rest >>= λ x. Ok (object (members_of x.0), x.1)

  -- what begins with this mark
  abbrev pub nested_in : (List ℕ → Reads ValueV) → (List ℕ → Reads ValueV) → ℕ → List ℕ → ℕ
      → Reads ValueV
  nested_in lists objects left rest m =
      if m == 91 then lists rest
      else if m == 123 then objects rest
      else Err (fault.Value, left)

  abbrev pub too_deep : ℕ → List ℕ → Reads ValueV
  too_deep left rest = Err (fault.TooDeep, left)

  abbrev pub value_in : (ℕ → Reads ValueV) → List ℕ → Token → Reads ValueV
  value_in nested rest (mark m) = nested m
  value_in nested rest (word w) = Ok (values.word w, rest)
  value_in nested rest (text w) = Ok (values.text w, rest)

  -- a value, by how lists and objects are read
  abbrev pub value_of : (ℕ → List ℕ → ℕ → Reads ValueV) → Item JsonV
  value_of nested front = value_in (nested front.left front.rest) front.rest front.token
      >>= λ x. Ok (placed front.left x.0, x.1)

  -- a list or an object in which others nest to this depth
  unfoldable pub nested_at : ℕ → ℕ → List ℕ → ℕ → Reads ValueV
  nested_at zero left rest m = nested_in (too_deep left) (too_deep left) left rest m
  nested_at (suc depth) left rest m = nested_in
      (list_at (items_at (value_of (nested_at depth)) 93 fault.Value fault.ListEnd))
      (object_at (items_at (member_of (value_of (nested_at depth))) 125 fault.Key fault.ObjectEnd))
      left rest m

  abbrev pub value_at : ℕ → Item JsonV
  value_at depth = value_of (nested_at depth)

  -- ---- whole texts

  abbrev pub Values : Type 0
  Values = Result (List JsonV) Fault

  abbrev pub values_step : (List JsonV → List ℕ → Values) → List JsonV → Option Front → Values
  values_step more found None = Ok found
  values_step more found (Some front) =
      value_at 256 front >>= λ x. more (found ++ x.0 ∷ []) x.1

  -- what was found, and the values up to the text's end, in at most so many steps
  unfoldable pub values_from : ℕ → List JsonV → List ℕ → Values
  values_from zero found bytes = Err (fault.Value, 0)
  values_from (suc n) found bytes = next bytes >>= values_step (values_from n) found

-- a text without the byte order mark that it may begin with
abbrev pub after_order_mark : List ℕ → List ℕ
after_order_mark bytes =
    if bytes_eq (take 3 bytes) (239 ∷ 187 ∷ 191 ∷ []) then drop 3 bytes else bytes

abbrev pub values_at : ℕ → List ℕ → Result (List JsonV) Fault
values_at len bytes = values_from len (suc (length bytes)) [] bytes

-- The values of a text one after another, or its first fault, with the bytes left there.
abbrev pub read : List ℕ → Result (List JsonV) Fault
read bytes = values_at (length bytes) (after_order_mark bytes)

-- ---- results

-- The values of the text, or its first fault and its distance from the text's first byte; memory
-- may be refused.
abbrev pub Answers : List ℕ → Result (Vec Json) JsonError → Type 0
Answers bytes (Ok values) = read bytes ≡ Ok (map json_view values.items)
Answers bytes (Err errors.OutOfMemory) = ⊤
Answers bytes (Err (errors.Fault at kind)) =
    (left : ℕ) × (read bytes ≡ Err (kind, left)) × (at + left ≡ length bytes)
