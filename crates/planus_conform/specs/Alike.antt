-- Schemas whose code reads alike.
use Rattle.std.specs.Prelude.{◌≡◌, ◌⊎◌, ℕ, List, [], ◌∷◌, Bool, true, false, ◌&&◌, ◌||◌, ◌==◌, not}
use Rattle.std.specs.Prelude.{Option, Some, None, take, drop, Vec}
use Rattle.std.specs.Str.{bytes_eq}
use Rattle.std.specs.declared.alloc.Global.{Global}
use Rattle.planus_dump.specs.Answers.{Seen, SeenItems, SeenUnions}
use Rattle.planus_schema.specs.declared.schema.Declared.{Declared}
use Rattle.planus_schema.specs.declared.schema.Schema.{Schema}
use Rattle.planus_conform.specs.declared.breaks.Way.{Way}
use Rattle.planus_conform.specs.declared.breaks.Way.TheVariants as way
use Rattle.planus_conform.specs.Found.{Call, Found, unknown, withdrawn, unopened, absent, missing}
use Rattle.planus_conform.specs.Found.{default, shown, bits, known, stranger, fault, table, structure}
use Rattle.planus_conform.specs.Found.{member, items, unions}
use Rattle.planus_conform.specs.Reads.{called, answer, root, opened}
use Rattle.planus_conform.specs.Matching.{Matches}

-- ---- the same

abbrev pub IsTableSeen : Seen → Found → Type 0
IsTableSeen seen (table j other) = seen ≡ other
IsTableSeen seen found = ⊥

abbrev pub IsStructSeen : List ℕ → Found → Type 0
IsStructSeen bytes (structure j other) = bytes ≡ other
IsStructSeen bytes found = ⊥

abbrev pub AreItemsSeen : SeenItems → Found → Type 0
AreItemsSeen seen (items b other) = seen ≡ other
AreItemsSeen seen found = ⊥

abbrev pub AreUnionsSeen : SeenUnions → Found → Type 0
AreUnionsSeen seen (unions j other) = seen ≡ other
AreUnionsSeen seen found = ⊥

-- The same is returned: of a table the same bytes and slots, of a struct the same bytes, of a union
-- the same tag and value, of a vector or an array the same bytes and count. Nothing is said where the old
-- code has no such accessor.
abbrev pub Same : Found → Found → Type 0
Same unknown new = Unit {0}
Same withdrawn new = Unit {0}
Same unopened new = Unit {0}
Same absent new = absent ≡ new
Same missing new = missing ≡ new
Same (default v) new = default v ≡ new
Same (shown w) new = shown w ≡ new
Same (bits n) new = bits n ≡ new
Same (known n) new = known n ≡ new
Same (stranger n) new = stranger n ≡ new
Same (fault w) new = fault w ≡ new
Same (table i seen) new = IsTableSeen seen new
Same (structure i bytes) new = IsStructSeen bytes new
Same (member tag value) (member other more) = (tag ≡ other) × Same value more
Same (member tag value) new = ⊥
Same (items b seen) new = AreItemsSeen seen new
Same (unions i seen) new = AreUnionsSeen seen new

-- ---- what a way excuses

-- `None` or a default
abbrev pub is_left_out : Found → Bool
is_left_out absent = true
is_left_out (default v) = true
is_left_out found = false

abbrev pub is_missing : Found → Bool
is_missing missing = true
is_missing found = false

abbrev pub is_withdrawn : Found → Bool
is_withdrawn withdrawn = true
is_withdrawn found = false

abbrev pub is_unopened : Found → Bool
is_unopened unopened = true
is_unopened found = false

-- the number or tag n
abbrev pub is_number_read : ℕ → Found → Bool
is_number_read n (known m) = n == m
is_number_read n (member tag value) = n == tag
is_number_read n found = false

-- a number or a tag that only the second schema has
abbrev pub is_newer : Found → Found → Bool
is_newer (stranger n) found = is_number_read n found
is_newer a b = false

-- what old code no longer needs: a field that the new schema withdraws, other than one that old
-- code requires and misses, or a buffer that the new schema takes for bytes
abbrev pub is_given_up : Found → Found → Bool
is_given_up old new = (is_withdrawn new && not (is_missing old)) || is_unopened new

-- What needs not be the same: what the new schema gives up, and one way also where one schema's code
-- fails and so doesn't write such data: it requires a field that is absent, or doesn't know a number
-- or a tag.
abbrev pub is_excused : Way → Found → Found → Bool
is_excused way.Both old new = is_given_up old new
is_excused way.Backward old new =
    is_withdrawn new || is_unopened new || (is_missing old && is_left_out new) || is_newer old new
is_excused way.Forward old new =
    is_given_up old new || (is_left_out old && is_missing new) || is_newer new old

-- one of the answers on the way is excused
abbrev pub is_excused_within :
    Way → List Declared → List Declared → Found → Found → List Call → Bool
is_excused_within w old new f g [] = is_excused w f g
is_excused_within w old new f g (c ∷ cs) =
    is_excused w f g || is_excused_within w old new (called old f c) (called new g c) cs

-- The calls return the same, from these on, or an answer on the way is excused.
abbrev pub SameAnswers : Way → List Declared → List Declared → Found → Found → List Call → Type 0
SameAnswers w old new f g calls =
    (is_excused_within w old new f g calls ≡ true) ⊎ Same (answer old f calls) (answer new g calls)

-- Over all bytes S, from a table at any place, all calls of the old schema's code return what those
-- of the new one's return.
abbrev pub ReadAlike : Way → List (Option ℕ) → List Declared → List Declared → Type 0
ReadAlike w m old new =
    (i j : ℕ) → Matches m i j → (S : List ℕ) (f : ℕ) (calls : List Call)
    → SameAnswers w old new (root i S f) (root j S f) calls

-- So they do from the root of every buffer.
abbrev pub OpenAlike : Way → Schema → Schema → Type 0
OpenAlike w old new =
    (S : List ℕ) (calls : List Call)
    → SameAnswers w old.declarations.items new.declarations.items (opened old S) (opened new S) calls

-- ---- file identifiers

-- The format: the file identifier is the four bytes after the reference to the root.
abbrev pub is_identified : Option (Vec ℕ Global) → List ℕ → Bool
is_identified None S = true
is_identified (Some identifier) S = bytes_eq (take 4 (drop 4 S)) identifier.items

-- One way only what the writer's code passes has to pass.
abbrev pub PassAlike : Way → Bool → Bool → Type 0
PassAlike way.Both old new = old ≡ new
PassAlike way.Backward old new = old ≡ true → new ≡ true
PassAlike way.Forward old new = new ≡ true → old ≡ true

abbrev pub IdentifiedAlike : Way → Schema → Schema → Type 0
IdentifiedAlike w old new =
    (S : List ℕ)
    → PassAlike w (is_identified old.statements.identifier S)
    (is_identified new.statements.identifier S)
