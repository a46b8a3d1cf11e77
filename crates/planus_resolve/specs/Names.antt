-- Declarations, their full names, and the declaration that a name refers to.
use Rattle.std.specs.Prelude.{ℕ, zero, suc, ◌+◌, ◌==◌, Bool, true, false, if◌then◌else◌}
use Rattle.std.specs.Prelude.{List, [], ◌∷◌, ◌++◌, length, take, fold, position, Option}
use Rattle.std.specs.Prelude.{Some, None, codes, slice_get, nat_lt, not, ◌&&◌, ◌||◌}
use denote.Ref.{Bor}
use Rattle.std.specs.Str.{bytes_eq}
use Rattle.planus_syntax.specs.Values.{Name, PathV, KindV, single, vector, array}
use Rattle.planus_syntax.specs.Values.{AttributeV, ItemV, include, namespace, attribute, table}
use Rattle.planus_syntax.specs.Values.{native_include}
use Rattle.planus_syntax.specs.Values.{struct}
use Rattle.planus_syntax.specs.Values.{enumeration, union, service, root, identifier, extension}
use Rattle.planus_syntax.specs.Values.{DeclarationV, path_of, declaration_of}
use Rattle.planus_syntax.specs.Values.{label_name, label_of}
use Rattle.planus_syntax.specs.declared.value.Path.{Path}
use Rattle.planus_syntax.specs.declared.value.Attribute.{Attribute}
use Rattle.std.specs.Option.{option_map}
use Rattle.planus_resolve.specs.declared.awaited.Awaited.{Awaited}
use Rattle.planus_resolve.specs.declared.head.Head.{Head}
use Rattle.planus_resolve.specs.declared.lookup.Sought.{Sought}
use Rattle.planus_resolve.specs.declared.lookup.Sought.TheVariants as sought
use Rattle.planus_resolve.specs.declared.lookup.Wanted.{Wanted}
use Rattle.planus_resolve.specs.declared.lookup.Wanted.TheVariants as wanted
use Rattle.planus_schema.specs.declared.schema.Base.{Base}
use Rattle.planus_schema.specs.declared.schema.Base.TheVariants as base
use Rattle.planus_schema.specs.declared.schema.FieldType.{FieldType}
use Rattle.planus_schema.specs.Numbers.{scalar_named}

-- ---- full names

abbrev pub words_of : PathV → List Name
words_of p = p.first ∷ p.more

-- a word after a dot, or alone
abbrev pub with_word : List ℕ → Name → List ℕ
with_word [] w = w
with_word (b ∷ bs) w = (b ∷ bs) ++ 46 ∷ w

-- words with dots between them
abbrev pub dotted : List Name → List ℕ
dotted ws = fold with_word [] ws

-- `file`: the index of its file; `space`: the words of its namespace
pub record HeadV : Type 0 where
  pub file : ℕ
  pub space : List Name
  pub name : List ℕ
  pub declaration : DeclarationV

-- only tables, structs, enums and unions can be types
abbrev pub own_name : ItemV → Option Name
own_name (include w) = None
own_name (native_include w) = None
own_name (namespace p) = None
own_name (attribute l) = None
own_name (table r) = Some r.name
own_name (struct r) = Some r.name
own_name (enumeration e) = Some e.name
own_name (union u) = Some u.name
own_name (service s) = None
own_name (root p) = None
own_name (identifier w) = None
own_name (extension w) = None

abbrev pub words_in : Option PathV → List Name
words_in None = []
words_in (Some p) = words_of p

-- how many declarations have begun after one more item
abbrev pub begun_after : ℕ → ItemV → ℕ
begun_after n i = counted (own_name i)
  where
    counted : Option Name → ℕ
    counted None = n
    counted (Some w) = n + 1

abbrev pub begun_in : ℕ → List DeclarationV → ℕ
begun_in n [] = n
begun_in n (d ∷ ds) = begun_in (begun_after n d.item) ds

-- the namespace after a declaration
abbrev pub space_after : Option PathV → ItemV → Option PathV
space_after space (namespace p) = p
space_after space i = space

abbrev pub named_head : ℕ → List Name → DeclarationV → Option Name → List HeadV
named_head file space d None = []
named_head file space d (Some w) = record {
  file = file;
  space = space;
  name = dotted (space ++ w ∷ []);
  declaration = d;
} ∷ []

abbrev pub heads_at : ℕ → Option PathV → DeclarationV → List HeadV
heads_at file space d = named_head file (words_in space) d (own_name d.item)

-- a file begins outside all namespaces
abbrev pub heads_in : ℕ → Option PathV → List DeclarationV → List HeadV
heads_in file space [] = []
heads_in file space (d ∷ ds) =
    heads_at file space d ++ heads_in file (space_after space d.item) ds

abbrev pub heads_from : ℕ → List (List DeclarationV) → List HeadV
heads_from n [] = []
heads_from n (ds ∷ files) = heads_in n None ds ++ heads_from (n + 1) files

-- the declarations of the files, in order
abbrev pub heads_of : List (List DeclarationV) → List HeadV
heads_of files = heads_from 0 files

-- the words of a text with one space between them, after the beginning of the first
abbrev pub cut_words : List ℕ → List ℕ → List Name
cut_words word [] = word ∷ []
cut_words word (b ∷ bs) =
    if b == 32 then word ∷ cut_words [] bs else cut_words (word ++ b ∷ []) bs

abbrev pub is_set : {A : Type 0} → Option A → Bool
is_set None = false
is_set (Some x) = true

-- none or one
abbrev pub listed : {A : Type 0} → Option A → List A
listed None = []
listed (Some x) = x ∷ []

-- one more before these, if there is one and there are these
abbrev pub also_said : {A : Type 0} → Option A → Option (List A) → Option (List A)
also_said None o = None
also_said (Some x) o = option_map (λ xs. x ∷ xs) o

-- ---- look-up

abbrev pub has_name : List ℕ → HeadV → Bool
has_name name h = bytes_eq h.name name

abbrev pub index_of : List HeadV → List ℕ → Option ℕ
index_of hs name = position (has_name name) hs

abbrev pub or_else : Option ℕ → Option ℕ → Option ℕ
or_else None o = o
or_else (Some i) o = Some i

-- The place of a name: the words of its namespace, and how many declarations begin before it. The
-- files are read in order, each after those that it includes, so these are the declarations that are
-- known there; that in which the name stands is one of them.
pub record SpaceV : Type 0 where
  pub words : List Name
  pub begun : ℕ

abbrev pub space_at : List Name → ℕ → SpaceV
space_at words n = record { words = words; begun = n }

-- enums and unions; the other declarations with names are tables and structs
abbrev pub is_choice_item : ItemV → Bool
is_choice_item (include w) = false
is_choice_item (native_include w) = false
is_choice_item (namespace p) = false
is_choice_item (attribute l) = false
is_choice_item (table r) = false
is_choice_item (struct r) = false
is_choice_item (enumeration e) = true
is_choice_item (union u) = true
is_choice_item (service s) = false
is_choice_item (root p) = false
is_choice_item (identifier w) = false
is_choice_item (extension w) = false

abbrev pub item_at : List HeadV → ℕ → Option ItemV
item_at hs i = option_map (λ h. h.declaration.item) (slice_get hs i)

abbrev pub is_choice : List HeadV → ℕ → Bool
is_choice hs i = is_choice_of (item_at hs i)
  where
    is_choice_of : Option ItemV → Bool
    is_choice_of None = false
    is_choice_of (Some item) = is_choice_item item

abbrev pub at_index : List (Option Awaited) → Option ℕ → Option Awaited
at_index xs None = None
at_index xs (Some i) = flat (slice_get xs i)
  where
    flat : Option (Option Awaited) → Option Awaited
    flat None = None
    flat (Some a) = a

-- a table or struct that is declared, or that is awaited under its full name
abbrev pub is_known : List HeadV → ℕ → List (Option Awaited) → ℕ → Bool
is_known hs begun full i =
    (not (is_choice hs i) && nat_lt i begun) || is_set (at_index full (Some i))

-- Enums and unions, or tables and structs, that are declared where a name stands, or that follow;
-- tables and structs that are known there.
pub data Group : Type 0 where
  earlier_choice : Group
  earlier_record : Group
  later_record : Group
  later_choice : Group
  known_record : Group

-- whether a declaration is in this group for a name before which `begun` have begun
abbrev pub is_sought : List HeadV → ℕ → List (Option Awaited) → Group → ℕ → Bool
is_sought hs begun full earlier_choice i = is_choice hs i && nat_lt i begun
is_sought hs begun full earlier_record i = not (is_choice hs i) && nat_lt i begun
is_sought hs begun full later_record i = not (is_choice hs i) && not (nat_lt i begun)
is_sought hs begun full later_choice i = is_choice hs i && not (nat_lt i begun)
is_sought hs begun full known_record i = is_known hs begun full i

abbrev pub index_if : (ℕ → Bool) → Option ℕ → Option ℕ
index_if test None = None
index_if test (Some i) = if test i then Some i else None

-- the declaration of this full name, if it passes the test
abbrev pub named_if : List HeadV → (ℕ → Bool) → List Name → Option ℕ
named_if hs test words = index_if test (index_of hs (dotted words))

-- in the first k words of the namespace, and then outwards
abbrev pub found_from : List HeadV → (ℕ → Bool) → List Name → List Name → ℕ → Option ℕ
found_from hs test space words zero = named_if hs test words
found_from hs test space words (suc k) = or_else (named_if hs test (take (suc k) space ++ words))
    (found_from hs test space words k)

-- How a name is used: as the type of a field or of a method, or as a union's member after an alias;
-- as a union's member without one, or as a nested buffer; as a root.
pub data UsedAs : Type 0 where
  as_type : UsedAs
  as_record : UsedAs
  as_root : UsedAs

-- a root is named from outside all namespaces, or else from its own, and never from between
abbrev pub found_root : List HeadV → (ℕ → Bool) → List Name → List Name → Option ℕ
found_root hs test space words =
    or_else (named_if hs test words) (named_if hs test (take (length space) space ++ words))

-- the innermost declaration that passes the test and that these words refer to in this namespace
abbrev pub found_by : List HeadV → (ℕ → Bool) → UsedAs → List Name → List Name → Option ℕ
found_by hs test as_type space words = found_from hs test space words (length space)
found_by hs test as_record space words = found_from hs test space words (length space)
found_by hs test as_root space words = found_root hs test space words

-- A type is the innermost enum or union that is known at its place; else the innermost known table
-- or struct; else one that follows. A member of a union without an alias, a nested buffer and a root
-- are tables, whatever enums there are.
abbrev pub order_of : UsedAs → List Group
order_of as_type = earlier_choice ∷ earlier_record ∷ later_record
    ∷ later_choice ∷ []
order_of as_record = earlier_record ∷ later_record ∷ earlier_choice
    ∷ later_choice ∷ []
order_of as_root = earlier_record ∷ later_record ∷ earlier_choice
    ∷ later_choice ∷ []

-- the first that is found in this order
abbrev pub first_found : List HeadV → List Group → UsedAs → SpaceV → List Name → Option ℕ
first_found hs [] w space words = None
first_found hs (s ∷ more) w space words =
    or_else (found_by hs (is_sought hs space.begun [] s) w space.words words)
    (first_found hs more w space words)

-- the declaration that these words refer to at this place
unfoldable pub found : List HeadV → UsedAs → SpaceV → List Name → Option ℕ
found hs w space words = first_found hs (order_of w) w space words

-- ---- types

abbrev pub base_of_item : ItemV → ℕ → Option Base
base_of_item (include w) i = None
base_of_item (native_include w) i = None
base_of_item (namespace p) i = None
base_of_item (attribute l) i = None
base_of_item (table r) i = Some (base.Table i)
base_of_item (struct r) i = Some (base.Struct i)
base_of_item (enumeration e) i = Some (base.Enum i)
base_of_item (union u) i = Some (base.Union i)
base_of_item (service s) i = None
base_of_item (root p) i = None
base_of_item (identifier w) i = None
base_of_item (extension w) i = None

abbrev pub base_of_head : Option ItemV → ℕ → Option Base
base_of_head None i = None
base_of_head (Some item) i = base_of_item item i

abbrev pub base_found : List HeadV → Option ℕ → Option Base
base_found hs None = None
base_found hs (Some i) = base_of_head (item_at hs i) i

abbrev pub base_of_word : Name → Option Base
base_of_word w = if bytes_eq w (codes "string") then Some base.Text
    else option_map base.Scalar (scalar_named w)

abbrev pub plain_of : List Name → Name → Option Base
plain_of [] w = base_of_word w
plain_of (n ∷ ns) w = None

-- `string`, or a scalar type
abbrev pub plain_base : PathV → Option Base
plain_base p = plain_of p.more p.first

abbrev pub base_or : Option Base → Option Base → Option Base
base_or None o = o
base_or (Some b) o = Some b

-- the type that a name refers to at this place
abbrev pub base_as : List HeadV → UsedAs → SpaceV → PathV → Option Base
base_as hs w space p = base_or (plain_base p) (base_found hs (found hs w space (words_of p)))

abbrev pub base_named : List HeadV → SpaceV → PathV → Option Base
base_named hs space p = base_as hs as_type space p

abbrev pub table_in : Option Base → Option ℕ
table_in None = None
table_in (Some (base.Scalar s)) = None
table_in (Some base.Text) = None
table_in (Some (base.Enum i)) = None
table_in (Some (base.Struct i)) = None
table_in (Some (base.Table i)) = Some i
table_in (Some (base.Union i)) = None

-- for an array, the type of its items
abbrev pub type_named : List HeadV → SpaceV → KindV → Option FieldType
type_named hs space (single p) =
    option_map (λ b. record { vector = false; base = b }) (base_named hs space p)
type_named hs space (vector p) =
    option_map (λ b. record { vector = true; base = b }) (base_named hs space p)
type_named hs space (array p w) =
    option_map (λ b. record { vector = false; base = b }) (base_named hs space p)

abbrev pub is_array : KindV → Bool
is_array (single p) = false
is_array (vector p) = false
is_array (array p w) = true

-- ---- attributes

-- the first of this name
abbrev pub setting : Name → List AttributeV → Option AttributeV
setting w [] = None
setting w (a ∷ more) = if bytes_eq (label_name a.label) w then Some a else setting w more

-- the same, with its place
abbrev pub attribute_named : Name → List Attribute → Option Attribute
attribute_named w [] = None
attribute_named w (a ∷ more) =
    if bytes_eq (label_name (label_of a.label)) w then Some a else attribute_named w more

abbrev pub has : Name → List AttributeV → Bool
has w attributes = is_set (setting w attributes)

-- ---- the code's values

abbrev pub path_in : Option (Bor Path) → Option PathV
path_in space = option_map (λ p. path_of p.now) space

abbrev pub space_of : Option (Bor Path) → List Name
space_of space = words_in (path_in space)

abbrev pub head_of : Head → HeadV
head_of h = record {
  file = h.file;
  space = space_of h.space;
  name = h.name.items;
  declaration = declaration_of h.declaration.now;
}

abbrev pub used_as : Wanted → UsedAs
used_as wanted.AnyType = as_type
used_as wanted.Record = as_record
used_as wanted.Root = as_root

abbrev pub group_of : Sought → Group
group_of sought.EarlierChoice = earlier_choice
group_of sought.EarlierRecord = earlier_record
group_of sought.LaterRecord = later_record
group_of sought.LaterChoice = later_choice
group_of sought.Known = known_record
