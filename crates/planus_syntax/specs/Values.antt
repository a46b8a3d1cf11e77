-- A schema, and its tokens. `x_before v rest` is the tokens of v before those of rest.
use Rattle.std.specs.Prelude.{◌≡◌, ℕ, Bool, true, false, List, [], ◌∷◌, map, codes, Option, Some}
use Rattle.std.specs.Prelude.{None, not, if◌then◌else◌}
use Rattle.std.specs.List.{AllByRecursion}
use Rattle.std.specs.Option.{option_map}
use Rattle.std.specs.Global.{Vec}
use Rattle.planus_syntax.specs.declared.value.Path.{Path}
use Rattle.planus_syntax.specs.declared.value.Kind.{Kind}
use Rattle.planus_syntax.specs.declared.value.Kind.TheVariants as kind
use Rattle.planus_syntax.specs.declared.value.Literal.{Literal}
use Rattle.planus_syntax.specs.declared.value.Literal.TheVariants as literal
use Rattle.planus_syntax.specs.declared.value.Label.{Label}
use Rattle.planus_syntax.specs.declared.value.Attribute.{Attribute}
use Rattle.planus_syntax.specs.declared.value.Field.{Field}
use Rattle.planus_syntax.specs.declared.value.Record.{Record}
use Rattle.planus_syntax.specs.declared.value.Variant.{Variant}
use Rattle.planus_syntax.specs.declared.value.Enumeration.{Enumeration}
use Rattle.planus_syntax.specs.declared.value.Member.{Member}
use Rattle.planus_syntax.specs.declared.value.UnionBody.{UnionBody}
use Rattle.planus_syntax.specs.declared.value.Method.{Method}
use Rattle.planus_syntax.specs.declared.value.Service.{Service}
use Rattle.planus_syntax.specs.declared.value.Item.{Item}
use Rattle.planus_syntax.specs.declared.value.Item.TheVariants as item
use Rattle.planus_syntax.specs.declared.value.Declaration.{Declaration}
use Rattle.planus_syntax.specs.declared.value.Schema.{Schema}
use Rattle.planus_syntax.specs.Tokens.{Piece, word, number, text, doc, mark, is_lawful}
use Rattle.planus_syntax.specs.Layout.{printed}
use Rattle.planus_syntax.specs.Strings.{string_text}

-- ---- values

abbrev pub Name : Type 0
Name = List ℕ

-- one or more words with dots between them
pub record PathV : Type 0 where
  pub first : Name
  pub more : List Name

pub data KindV : Type 0 where
  single : PathV → KindV
  vector : PathV → KindV
  array : PathV → List ℕ → KindV

pub data LiteralV : Type 0 where
  numeral : List ℕ → LiteralV
  named : PathV → LiteralV
  quote : List ℕ → LiteralV
  nothing : LiteralV

-- a word, or a string with its quotes
pub record LabelV : Type 0 where
  pub quoted : Bool
  pub name : List ℕ

pub record AttributeV : Type 0 where
  pub label : LabelV
  pub value : Option LiteralV

pub record FieldV : Type 0 where
  pub docs : List (List ℕ)
  pub name : Name
  pub kind : KindV
  pub default : Option LiteralV
  pub attributes : List AttributeV

-- `trailing`: documentation before the closing brace, which is of nothing
pub record RecordV : Type 0 where
  pub name : Name
  pub attributes : List AttributeV
  pub fields : List FieldV
  pub trailing : List (List ℕ)

pub record VariantV : Type 0 where
  pub docs : List (List ℕ)
  pub name : Name
  pub value : Option (List ℕ)

-- `comma`: a comma follows the last variant
pub record EnumerationV : Type 0 where
  pub name : Name
  pub base : PathV
  pub attributes : List AttributeV
  pub variants : List VariantV
  pub comma : Bool
  pub trailing : List (List ℕ)

pub record MemberV : Type 0 where
  pub docs : List (List ℕ)
  pub path : PathV
  pub target : Option PathV
  pub value : Option (List ℕ)

pub record UnionV : Type 0 where
  pub name : Name
  pub attributes : List AttributeV
  pub members : List MemberV
  pub comma : Bool
  pub trailing : List (List ℕ)

pub record MethodV : Type 0 where
  pub docs : List (List ℕ)
  pub name : Name
  pub request : PathV
  pub response : PathV
  pub attributes : List AttributeV

pub record ServiceV : Type 0 where
  pub name : Name
  pub attributes : List AttributeV
  pub methods : List MethodV
  pub trailing : List (List ℕ)

pub data ItemV : Type 0 where
  include : List ℕ → ItemV
  native_include : List ℕ → ItemV
  namespace : Option PathV → ItemV
  attribute : LabelV → ItemV
  table : RecordV → ItemV
  struct : RecordV → ItemV
  enumeration : EnumerationV → ItemV
  union : UnionV → ItemV
  service : ServiceV → ItemV
  root : PathV → ItemV
  identifier : List ℕ → ItemV
  extension : List ℕ → ItemV

pub record DeclarationV : Type 0 where
  pub docs : List (List ℕ)
  pub item : ItemV

-- `trailing`: documentation after the last declaration, which is of nothing
pub record SchemaV : Type 0 where
  pub declarations : List DeclarationV
  pub trailing : List (List ℕ)

-- the name of an attribute: of a string, the text that it means
abbrev pub label_name : LabelV → Name
label_name l = if l.quoted then string_text l.name else l.name

-- ---- their tokens

abbrev pub Before : Type 0 → Type 0
Before A = A → List Piece → List Piece

abbrev pub each_before : {A : Type 0} → Before A → List A → List Piece → List Piece
each_before f [] rest = rest
each_before f (x ∷ xs) rest = f x (each_before f xs rest)

abbrev pub doc_before : Before (List ℕ)
doc_before w rest = doc w ∷ rest

abbrev pub docs_before : Before (List (List ℕ))
docs_before docs rest = each_before doc_before docs rest

-- the end of what is in braces
abbrev pub closing_before : Before (List (List ℕ))
closing_before docs rest = docs_before docs (mark 125 ∷ rest)

abbrev pub dotted_before : Before Name
dotted_before w rest = mark 46 ∷ word w ∷ rest

abbrev pub path_before : Before PathV
path_before p rest = word p.first ∷ each_before dotted_before p.more rest

abbrev pub kind_before : Before KindV
kind_before (single p) rest = path_before p rest
kind_before (vector p) rest = mark 91 ∷ path_before p (mark 93 ∷ rest)
kind_before (array p w) rest = mark 91 ∷ path_before p (mark 58 ∷ number w ∷ mark 93 ∷ rest)

abbrev pub literal_before : Before LiteralV
literal_before (numeral w) rest = number w ∷ rest
literal_before (named p) rest = path_before p rest
literal_before (quote w) rest = text w ∷ rest
literal_before nothing rest = mark 91 ∷ mark 93 ∷ rest

abbrev pub after_before : {A : Type 0} → ℕ → Before A → Before (Option A)
after_before m f None rest = rest
after_before m f (Some x) rest = mark m ∷ f x rest

abbrev pub number_before : Before (List ℕ)
number_before w rest = number w ∷ rest

abbrev pub label_piece : Bool → List ℕ → Piece
label_piece true w = text w
label_piece false w = word w

abbrev pub label_before : Before LabelV
label_before l rest = label_piece l.quoted l.name ∷ rest

abbrev pub attribute_before : Before AttributeV
attribute_before a rest = label_before a.label (after_before 58 literal_before a.value rest)

abbrev pub next_before : {A : Type 0} → Before A → Before A
next_before f x rest = mark 44 ∷ f x rest

abbrev pub attributes_before : Before (List AttributeV)
attributes_before [] rest = rest
attributes_before (a ∷ more) rest =
    mark 40 ∷ attribute_before a (each_before (next_before attribute_before) more (mark 41 ∷ rest))

abbrev pub field_before : Before FieldV
field_before f rest =
    docs_before f.docs (word f.name ∷ mark 58 ∷ kind_before f.kind
    (after_before 61 literal_before f.default (attributes_before f.attributes (mark 59 ∷ rest))))

abbrev pub record_before : Before RecordV
record_before r rest =
    word r.name ∷ attributes_before r.attributes
    (mark 123 ∷ each_before field_before r.fields (closing_before r.trailing rest))

abbrev pub variant_before : Before VariantV
variant_before v rest =
    docs_before v.docs (word v.name ∷ after_before 61 number_before v.value rest)

abbrev pub list_before : {A : Type 0} → Before A → Before (List A)
list_before f [] rest = rest
list_before f (x ∷ more) rest = f x (each_before (next_before f) more rest)

abbrev pub comma_before : Before Bool
comma_before true rest = mark 44 ∷ rest
comma_before false rest = rest

abbrev pub enumeration_before : Before EnumerationV
enumeration_before e rest =
    word e.name ∷ mark 58 ∷ path_before e.base (attributes_before e.attributes
    (mark 123 ∷ list_before variant_before e.variants
    (comma_before e.comma (closing_before e.trailing rest))))

abbrev pub member_before : Before MemberV
member_before m rest =
    docs_before m.docs (path_before m.path
    (after_before 58 path_before m.target (after_before 61 number_before m.value rest)))

abbrev pub union_before : Before UnionV
union_before u rest =
    word u.name ∷ attributes_before u.attributes
    (mark 123 ∷ list_before member_before u.members
    (comma_before u.comma (closing_before u.trailing rest)))

abbrev pub method_before : Before MethodV
method_before m rest =
    docs_before m.docs (word m.name ∷ mark 40 ∷ path_before m.request (mark 41 ∷ mark 58
    ∷ path_before m.response (attributes_before m.attributes (mark 59 ∷ rest))))

abbrev pub service_before : Before ServiceV
service_before s rest =
    word s.name ∷ attributes_before s.attributes
    (mark 123 ∷ each_before method_before s.methods (closing_before s.trailing rest))

abbrev pub quoted_before : Before (List ℕ)
quoted_before w rest = text w ∷ mark 59 ∷ rest

abbrev pub rooted_before : Before PathV
rooted_before p rest = path_before p (mark 59 ∷ rest)

abbrev pub namespace_before : Before (Option PathV)
namespace_before None rest = mark 59 ∷ rest
namespace_before (Some p) rest = rooted_before p rest

abbrev pub declared_before : Before LabelV
declared_before l rest = label_before l (mark 59 ∷ rest)

abbrev pub item_before : Before ItemV
item_before (include w) rest = word (codes "include") ∷ quoted_before w rest
item_before (native_include w) rest = word (codes "native_include") ∷ quoted_before w rest
item_before (namespace p) rest = word (codes "namespace") ∷ namespace_before p rest
item_before (attribute l) rest = word (codes "attribute") ∷ declared_before l rest
item_before (table r) rest = word (codes "table") ∷ record_before r rest
item_before (struct r) rest = word (codes "struct") ∷ record_before r rest
item_before (enumeration e) rest = word (codes "enum") ∷ enumeration_before e rest
item_before (union u) rest = word (codes "union") ∷ union_before u rest
item_before (service s) rest = word (codes "rpc_service") ∷ service_before s rest
item_before (root p) rest = word (codes "root_type") ∷ rooted_before p rest
item_before (identifier w) rest = word (codes "file_identifier") ∷ quoted_before w rest
item_before (extension w) rest = word (codes "file_extension") ∷ quoted_before w rest

abbrev pub declaration_before : Before DeclarationV
declaration_before d rest = docs_before d.docs (item_before d.item rest)

abbrev pub schema_before : Before SchemaV
schema_before s rest = each_before declaration_before s.declarations (docs_before s.trailing rest)

abbrev pub schema_pieces : SchemaV → List Piece
schema_pieces s = schema_before s []

-- no comma alone
abbrev pub is_comma_after : {A : Type 0} → List A → Bool → Bool
is_comma_after [] comma = not comma
is_comma_after (x ∷ xs) comma = true

-- in an enum and a union a last comma is after an item
abbrev pub is_whole_item : ItemV → Bool
is_whole_item (include w) = true
is_whole_item (native_include w) = true
is_whole_item (namespace p) = true
is_whole_item (attribute l) = true
is_whole_item (table r) = true
is_whole_item (struct r) = true
is_whole_item (enumeration e) = is_comma_after e.variants e.comma
is_whole_item (union u) = is_comma_after u.members u.comma
is_whole_item (service s) = true
is_whole_item (root p) = true
is_whole_item (identifier w) = true
is_whole_item (extension w) = true

abbrev pub is_whole : DeclarationV → Bool
is_whole d = is_whole_item d.item

abbrev pub AreWhole : List DeclarationV → Type 0
AreWhole ds = AllByRecursion (λ d. is_whole d ≡ true) ds

-- A schema that has a text: a last comma is after an item, and each token is lawful.
abbrev pub IsSchema : SchemaV → Type 0
IsSchema s = AreWhole s.declarations × AllByRecursion (λ p. is_lawful p ≡ true) (schema_pieces s)

-- the canonical text
abbrev pub text_of : SchemaV → List ℕ
text_of s = printed (schema_pieces s)

-- ---- the code's values

abbrev pub names_of : List (Vec ℕ) → List (List ℕ)
names_of ws = map (λ w. w.items) ws

abbrev pub path_of : Path → PathV
path_of p = record { first = p.first.items; more = names_of p.more.items }

abbrev pub kind_of : Kind → KindV
kind_of (kind.Single p) = single (path_of p)
kind_of (kind.Vector p) = vector (path_of p)
kind_of (kind.Array p w) = array (path_of p) w.items

abbrev pub literal_of : Literal → LiteralV
literal_of (literal.Number w) = numeral w.items
literal_of (literal.Name p) = named (path_of p)
literal_of (literal.Text w) = quote w.items
literal_of literal.EmptyVector = nothing

abbrev pub label_of : Label → LabelV
label_of l = record { quoted = l.quoted; name = l.name.items }

abbrev pub attribute_of : Attribute → AttributeV
attribute_of a = record { label = label_of a.label; value = option_map literal_of a.value }

abbrev pub field_of : Field → FieldV
field_of f = record {
  docs = names_of f.docs.items;
  name = f.name.items;
  kind = kind_of f.kind;
  default = option_map literal_of f.default;
  attributes = map attribute_of f.attributes.items;
}

abbrev pub record_of : Record → RecordV
record_of r = record {
  name = r.name.items;
  attributes = map attribute_of r.attributes.items;
  fields = map field_of r.fields.items;
  trailing = names_of r.trailing.items;
}

abbrev pub digits_of : Option (Vec ℕ) → Option (List ℕ)
digits_of o = option_map (λ w. w.items) o

abbrev pub variant_of : Variant → VariantV
variant_of v = record {
  docs = names_of v.docs.items;
  name = v.name.items;
  value = digits_of v.value;
}

abbrev pub enumeration_of : Enumeration → EnumerationV
enumeration_of e = record {
  name = e.name.items;
  base = path_of e.base;
  attributes = map attribute_of e.attributes.items;
  variants = map variant_of e.variants.items;
  comma = e.comma;
  trailing = names_of e.trailing.items;
}

abbrev pub member_of : Member → MemberV
member_of m = record {
  docs = names_of m.docs.items;
  path = path_of m.path;
  target = option_map path_of m.target;
  value = digits_of m.value;
}

abbrev pub union_of : UnionBody → UnionV
union_of u = record {
  name = u.name.items;
  attributes = map attribute_of u.attributes.items;
  members = map member_of u.members.items;
  comma = u.comma;
  trailing = names_of u.trailing.items;
}

abbrev pub method_of : Method → MethodV
method_of m = record {
  docs = names_of m.docs.items;
  name = m.name.items;
  request = path_of m.request;
  response = path_of m.response;
  attributes = map attribute_of m.attributes.items;
}

abbrev pub service_of : Service → ServiceV
service_of s = record {
  name = s.name.items;
  attributes = map attribute_of s.attributes.items;
  methods = map method_of s.methods.items;
  trailing = names_of s.trailing.items;
}

abbrev pub item_of : Item → ItemV
item_of (item.Include w) = include w.items
item_of (item.NativeInclude w) = native_include w.items
item_of (item.Namespace p) = namespace (option_map path_of p)
item_of (item.Attribute l) = attribute (label_of l)
item_of (item.Table r) = table (record_of r)
item_of (item.Struct r) = struct (record_of r)
item_of (item.Enum e) = enumeration (enumeration_of e)
item_of (item.Union u) = union (union_of u)
item_of (item.Service s) = service (service_of s)
item_of (item.RootType p) = root (path_of p)
item_of (item.FileIdentifier w) = identifier w.items
item_of (item.FileExtension w) = extension w.items

abbrev pub declaration_of : Declaration → DeclarationV
declaration_of d = record { docs = names_of d.docs.items; item = item_of d.item }

abbrev pub declarations_of : List Declaration → List DeclarationV
declarations_of ds = map declaration_of ds

abbrev pub schema_of : Schema → SchemaV
schema_of s = record {
  declarations = declarations_of s.declarations.items;
  trailing = names_of s.trailing.items;
}
