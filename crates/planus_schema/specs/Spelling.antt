-- How names of printed code follow from those of a schema.
use Rattle.std.specs.Prelude.{ℕ, ◌==◌, ◌&&◌, ◌||◌, not, Bool, false, List, [], ◌∷◌, ◌++◌, map}
use Rattle.std.specs.Prelude.{if◌then◌else◌}
use Rattle.std.specs.Char.{is_ascii_uppercase, is_ascii_lowercase, to_ascii_lowercase}
use Rattle.std.specs.Char.{to_ascii_uppercase}
use Rattle.std.specs.List.{list_any}
use Rattle.std.specs.Str.{str_eq_ignore_ascii_case}
use Rattle.std.specs.Global.{Vec}
use Rattle.planus_schema.specs.Distinct.{items_of}
use Rattle.planus_schema.specs.declared.schema.Body.{Body}
use Rattle.planus_schema.specs.declared.schema.Body.TheVariants as body
use Rattle.planus_schema.specs.declared.schema.Declared.{Declared}
use Rattle.planus_schema.specs.Names.{is_held, is_in, words_of_values}

abbrev pub after_dots : List ℕ → List ℕ → List ℕ
after_dots word [] = word
after_dots word (b ∷ bs) = if b == 46 then after_dots bs bs else after_dots word bs

-- what follows the last dot of a name
abbrev pub last_word : List ℕ → List ℕ
last_word name = after_dots name name

abbrev pub begins_small : List ℕ → Bool
begins_small [] = false
begins_small (b ∷ bs) = is_ascii_lowercase b

-- a word begins at a capital, not after `_`, and after a capital only if a small letter follows
abbrev pub begins_word : ℕ → ℕ → List ℕ → Bool
begins_word before b after = is_ascii_uppercase b && (not (before == 95)
    && (not (is_ascii_uppercase before) || begins_small after))

abbrev pub snake_after : ℕ → List ℕ → List ℕ
snake_after before [] = []
snake_after before (b ∷ bs) = if begins_word before b bs
    then 95 ∷ to_ascii_lowercase b ∷ snake_after b bs
    else to_ascii_lowercase b ∷ snake_after b bs

-- in small letters, with `_` where a word begins: `maxHP` is `max_hp`
abbrev pub snake : List ℕ → List ℕ
snake name = snake_after 95 name

-- the same in capitals
abbrev pub capitals : List ℕ → List ℕ
capitals name = map to_ascii_uppercase (snake name)

-- equal to one of these but for the case of letters
abbrev pub is_like : List (List ℕ) → List ℕ → Bool
is_like names name = list_any (λ m. str_eq_ignore_ascii_case m name) names

-- with one more `_` after it for as long as it is like one of these; so many are enough
abbrev pub set_apart : List (List ℕ) → List (List ℕ) → List ℕ → List ℕ
set_apart [] names name = name
set_apart (m ∷ ms) names name =
    if is_like names name then set_apart ms names (name ++ 95 ∷ []) else name

-- names of a scope, each set apart from those before it
abbrev pub scope_from : List (List ℕ) → List (List ℕ) → List (List ℕ)
scope_from names [] = names
scope_from names (w ∷ ws) = scope_from (names ++ set_apart names names w ∷ []) ws

-- with `_` after it where it is reserved
abbrev pub allowed : List ℕ → List ℕ
allowed name = if is_held name then name ++ 95 ∷ [] else name

-- with `_` after it where the methods of its enum have the word
abbrev pub value_spelled : List ℕ → List ℕ
value_spelled name = if is_in words_of_values name then name ++ 95 ∷ [] else name

-- the names of a declaration's members in the schema: fields, values, or what a union is of
abbrev pub said_in : Body → List (List ℕ)
said_in (body.Table one) = map (λ f. f.name.items) one.fields.items
said_in (body.Struct one) = map (λ f. f.name.items) one.fields.items
said_in (body.Enum one) = map (λ v. v.name.items) one.values.items
said_in (body.Union one) = map (λ m. m.name.items) one.members.items

-- fields are in small letters, the values of flags in capitals, others almost as they are
abbrev pub member_spelled : Body → List ℕ → List ℕ
member_spelled (body.Table one) name = snake name
member_spelled (body.Struct one) name = snake name
member_spelled (body.Enum one) name = if one.flags then capitals name else value_spelled name
member_spelled (body.Union one) name = name

abbrev pub member_word : Body → List ℕ → List ℕ
member_word b name = allowed (member_spelled b (last_word name))

-- the names of a declaration's members
abbrev pub member_names : Body → List (List ℕ)
member_names b = scope_from [] (map (member_word b) (said_in b))

abbrev pub names_in : Vec (Vec ℕ) → List (List ℕ)
names_in names = items_of names.items

abbrev pub all_member_names : List Declared → List (List (List ℕ))
all_member_names ds = map (λ d. member_names d.body) ds

-- its first letter a capital
abbrev pub capital : List ℕ → List ℕ
capital [] = []
capital (b ∷ bs) = to_ascii_uppercase b ∷ bs
