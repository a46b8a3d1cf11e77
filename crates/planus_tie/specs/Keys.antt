-- The implementations by which a table is looked up by its key.
use Rattle.std.specs.Prelude.{ℕ, Bool, false, not, List, [], ◌∷◌, ◌++◌, codes, Option, Some, None}
use Rattle.std.specs.Prelude.{if◌then◌else◌, is_none}
use Rattle.planus_schema.specs.declared.schema.TableField.{TableField}
use Rattle.planus_schema.specs.Plans.{LineV}
use Rattle.planus_tie.specs.Ranks.{is_judged}
use Rattle.planus_tie.specs.Reading.{after, after_in, if_begins}
use Rattle.planus_tie.specs.Wanted.{type_of, member_of}
use Rattle.planus_tie.specs.declared.naming.Naming.{Naming}

-- Of checked views `None`, and of verified ones what is known of the declarations: whether any bytes
-- are a value.
abbrev pub Views : Type 0
Views = Option (List Bool)

-- how the names of these views end
abbrev pub view_ending : Views → List ℕ
view_ending None = codes "Ref"
view_ending (Some totals) = codes "View"

-- the accessor of a verified view returns the key itself, if any bytes are one
abbrev pub is_wrapped : Views → TableField → Bool
is_wrapped None f = false
is_wrapped (Some totals) f = not (is_judged totals f)

-- how each such implementation begins
abbrev pub key_mark : List ℕ
key_mark = codes "planus_keys::KeyOf<"

-- of the table's views, for its kind
abbrev pub key_head : List ℕ → Views → List ℕ
key_head name views = name ++ (view_ending views ++ (codes "<'a>>for " ++ (name ++ codes "{")))

-- the key is what the field's accessor returns
abbrev pub key_call : List ℕ → Bool → List ℕ
key_call name wrapped = if wrapped then codes "Ok(view." ++ (name ++ codes "())}}")
    else codes "view." ++ (name ++ codes "()}}")

-- the body of the function that returns the key
abbrev pub key_body : Option (List ℕ) → Option (List ℕ)
key_body text = after_in (codes "{") (after_in (codes "fn key(&self,view:") text)

-- the next implementation is of this key, and what follows it
abbrev pub key_in : Naming → Views → LineV → List ℕ → Option (List ℕ)
key_in n views l text =
    if_begins (key_body (if_begins (after key_mark text) (key_head (type_of n l.table) views)))
    (key_call (member_of n l.table l.place) (is_wrapped views l.field))

abbrev pub key_after : Naming → Views → LineV → List ℕ → Option (List ℕ)
key_after n views l text = if l.field.key then key_in n views l text else Some text

-- each field that is a key has its implementation, one after the other, and there is no other
abbrev pub have_keys : Naming → Views → Option (List ℕ) → List LineV → Bool
have_keys n views None ls = false
have_keys n views (Some text) [] = is_none (after key_mark text)
have_keys n views (Some text) (l ∷ ls) = have_keys n views (key_after n views l text) ls
