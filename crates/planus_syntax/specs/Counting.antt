-- The place of each word: how many tokens there are from it to the end, it included.
-- `XCounted x rest`: so is each `left` in `x`, if the tokens `rest` follow those of `x`.
use Rattle.std.specs.Prelude.{◌≡◌, ℕ, List, [], ◌∷◌, map, length, Option, Some, None, Result, Ok}
use Rattle.std.specs.Prelude.{Err}
use Rattle.std.specs.Option.{option_map}
use Rattle.planus_syntax.specs.declared.value.Path.{Path}
use Rattle.planus_syntax.specs.declared.value.Kind.{Kind}
use Rattle.planus_syntax.specs.declared.value.Kind.TheVariants as kind
use Rattle.planus_syntax.specs.declared.value.Literal.{Literal}
use Rattle.planus_syntax.specs.declared.value.Literal.TheVariants as literal
use Rattle.planus_syntax.specs.declared.value.Label.{Label}
use Rattle.planus_syntax.specs.declared.value.Attribute.{Attribute}
use Rattle.planus_syntax.specs.declared.value.Field.{Field}
use Rattle.planus_syntax.specs.declared.value.Record.{Record}
use Rattle.planus_syntax.specs.declared.value.Variant.{Variant}
use Rattle.planus_syntax.specs.declared.value.Enumeration.{Enumeration}
use Rattle.planus_syntax.specs.declared.value.Member.{Member}
use Rattle.planus_syntax.specs.declared.value.UnionBody.{UnionBody}
use Rattle.planus_syntax.specs.declared.value.Method.{Method}
use Rattle.planus_syntax.specs.declared.value.Service.{Service}
use Rattle.planus_syntax.specs.declared.value.Item.{Item}
use Rattle.planus_syntax.specs.declared.value.Item.TheVariants as item
use Rattle.planus_syntax.specs.declared.value.Declaration.{Declaration}
use Rattle.planus_syntax.specs.declared.value.Schema.{Schema}
use Rattle.planus_syntax.specs.declared.read_error.ReadError.{ReadError}
use Rattle.planus_syntax.specs.Tokens.{Piece, word, number, mark}
use Rattle.planus_syntax.specs.Values.{Before, each_before, path_before, kind_before, literal_before}
use Rattle.planus_syntax.specs.Values.{after_before, number_before, label_before, next_before}
use Rattle.planus_syntax.specs.Values.{attribute_before, attributes_before, field_before}
use Rattle.planus_syntax.specs.Values.{variant_before, member_before, list_before, comma_before}
use Rattle.planus_syntax.specs.Values.{method_before, item_before, declaration_before, docs_before}
use Rattle.planus_syntax.specs.Values.{path_of, kind_of, literal_of, label_of, attribute_of}
use Rattle.planus_syntax.specs.Values.{field_of, variant_of, digits_of, member_of, method_of}
use Rattle.planus_syntax.specs.Values.{item_of, declaration_of, names_of, closing_before}
use Rattle.planus_syntax.specs.Reading.{Fault, Fails}

-- at a name, its first word
abbrev pub PathCounted : Path → List Piece → Type 0
PathCounted p rest = p.left ≡ length (path_before (path_of p) rest)

abbrev pub KindCounted : Kind → List Piece → Type 0
KindCounted (kind.Single p) rest = PathCounted p rest
KindCounted (kind.Vector p) rest = PathCounted p (mark 93 ∷ rest)
KindCounted (kind.Array p w) rest = PathCounted p (mark 58 ∷ number w.items ∷ mark 93 ∷ rest)

abbrev pub LiteralCounted : Literal → List Piece → Type 0
LiteralCounted (literal.Number w) rest = Unit {0}
LiteralCounted (literal.Name p) rest = PathCounted p rest
LiteralCounted (literal.Text w) rest = Unit {0}
LiteralCounted literal.EmptyVector rest = Unit {0}

abbrev pub IfAny : {X : Type 0} → (X → List Piece → Type 0) → Option X → List Piece → Type 0
IfAny counted None rest = Unit {0}
IfAny counted (Some x) rest = counted x rest

-- each item, before the items after it; `view` gives the items' values, `before` their tokens
abbrev pub EachCounted : {X V : Type 0} → (X → List Piece → Type 0) → (X → V) → Before V → List X
    → List Piece → Type 0
EachCounted counted view before [] rest = Unit {0}
EachCounted counted view before (x ∷ xs) rest =
    counted x (each_before before (map view xs) rest) × EachCounted counted view before xs rest

abbrev pub LabelCounted : Label → List Piece → Type 0
LabelCounted l rest = l.left ≡ length (label_before (label_of l) rest)

abbrev pub AttributeCounted : Attribute → List Piece → Type 0
AttributeCounted a rest =
    LabelCounted a.label (after_before 58 literal_before (option_map literal_of a.value) rest)
    × IfAny LiteralCounted a.value rest

abbrev pub AttributesCounted : List Attribute → List Piece → Type 0
AttributesCounted xs rest =
    EachCounted AttributeCounted attribute_of (next_before attribute_before) xs (mark 41 ∷ rest)

-- the tokens after a field's default, and after its type
abbrev pub after_default : Field → List Piece → List Piece
after_default f rest = attributes_before (map attribute_of f.attributes.items) (mark 59 ∷ rest)

abbrev pub after_kind : Field → List Piece → List Piece
after_kind f rest =
    after_before 61 literal_before (option_map literal_of f.default) (after_default f rest)

-- at a field, its name
pub record FieldCounted (f : Field) (rest : List Piece) : Type 0 where
  pub name : f.left
      ≡ length (word f.name.items ∷ mark 58 ∷ kind_before (kind_of f.kind) (after_kind f rest))
  pub kind : KindCounted f.kind (after_kind f rest)
  pub default : IfAny LiteralCounted f.default (after_default f rest)
  pub attributes : AttributesCounted f.attributes.items (mark 59 ∷ rest)

abbrev pub record_end : Record → List Piece → List Piece
record_end r rest = closing_before (names_of r.trailing.items) rest

abbrev pub after_attributes : Record → List Piece → List Piece
after_attributes r rest =
    mark 123 ∷ each_before field_before (map field_of r.fields.items) (record_end r rest)

abbrev pub RecordCounted : Record → List Piece → Type 0
RecordCounted r rest = AttributesCounted r.attributes.items (after_attributes r rest)
    × EachCounted FieldCounted field_of field_before r.fields.items (record_end r rest)

-- at a variant, its name
abbrev pub VariantCounted : Variant → List Piece → Type 0
VariantCounted v rest = v.left
    ≡ length (word v.name.items ∷ after_before 61 number_before (digits_of v.value) rest)

abbrev pub enumeration_end : Enumeration → List Piece → List Piece
enumeration_end e rest = comma_before e.comma (closing_before (names_of e.trailing.items) rest)

abbrev pub enumeration_body : Enumeration → List Piece → List Piece
enumeration_body e rest =
    mark 123 ∷ list_before variant_before (map variant_of e.variants.items) (enumeration_end e rest)

pub record EnumerationCounted (e : Enumeration) (rest : List Piece) : Type 0 where
  pub base : PathCounted e.base
      (attributes_before (map attribute_of e.attributes.items) (enumeration_body e rest))
  pub attributes : AttributesCounted e.attributes.items (enumeration_body e rest)
  pub variants : EachCounted VariantCounted variant_of (next_before variant_before) e.variants.items
      (enumeration_end e rest)

abbrev pub after_target : Member → List Piece → List Piece
after_target m rest = after_before 61 number_before (digits_of m.value) rest

abbrev pub MemberCounted : Member → List Piece → Type 0
MemberCounted m rest =
    PathCounted m.path
    (after_before 58 path_before (option_map path_of m.target) (after_target m rest))
    × IfAny PathCounted m.target (after_target m rest)

abbrev pub union_end : UnionBody → List Piece → List Piece
union_end u rest = comma_before u.comma (closing_before (names_of u.trailing.items) rest)

abbrev pub union_body : UnionBody → List Piece → List Piece
union_body u rest =
    mark 123 ∷ list_before member_before (map member_of u.members.items) (union_end u rest)

abbrev pub UnionCounted : UnionBody → List Piece → Type 0
UnionCounted u rest = AttributesCounted u.attributes.items (union_body u rest)
    × EachCounted MemberCounted member_of (next_before member_before) u.members.items
    (union_end u rest)

abbrev pub after_response : Method → List Piece → List Piece
after_response m rest = attributes_before (map attribute_of m.attributes.items) (mark 59 ∷ rest)

abbrev pub after_request : Method → List Piece → List Piece
after_request m rest =
    mark 41 ∷ mark 58 ∷ path_before (path_of m.response) (after_response m rest)

-- at a method, its name
pub record MethodCounted (m : Method) (rest : List Piece) : Type 0 where
  pub name : m.left
      ≡ length (word m.name.items ∷ mark 40 ∷ path_before (path_of m.request)
      (after_request m rest))
  pub request : PathCounted m.request (after_request m rest)
  pub response : PathCounted m.response (after_response m rest)
  pub attributes : AttributesCounted m.attributes.items (mark 59 ∷ rest)

abbrev pub service_end : Service → List Piece → List Piece
service_end s rest = closing_before (names_of s.trailing.items) rest

abbrev pub service_body : Service → List Piece → List Piece
service_body s rest =
    mark 123 ∷ each_before method_before (map method_of s.methods.items) (service_end s rest)

abbrev pub ServiceCounted : Service → List Piece → Type 0
ServiceCounted s rest = AttributesCounted s.attributes.items (service_body s rest)
    × EachCounted MethodCounted method_of method_before s.methods.items (service_end s rest)

abbrev pub ItemCounted : Item → List Piece → Type 0
ItemCounted (item.Include w) rest = Unit {0}
ItemCounted (item.NativeInclude w) rest = Unit {0}
ItemCounted (item.Namespace p) rest = IfAny PathCounted p (mark 59 ∷ rest)
ItemCounted (item.Attribute l) rest = LabelCounted l (mark 59 ∷ rest)
ItemCounted (item.Table r) rest = RecordCounted r rest
ItemCounted (item.Struct r) rest = RecordCounted r rest
ItemCounted (item.Enum e) rest = EnumerationCounted e rest
ItemCounted (item.Union u) rest = UnionCounted u rest
ItemCounted (item.Service s) rest = ServiceCounted s rest
ItemCounted (item.RootType p) rest = PathCounted p (mark 59 ∷ rest)
ItemCounted (item.FileIdentifier w) rest = Unit {0}
ItemCounted (item.FileExtension w) rest = Unit {0}

-- at a declaration, its first word, as `table`
abbrev pub DeclarationCounted : Declaration → List Piece → Type 0
DeclarationCounted d rest =
    (d.left ≡ length (item_before (item_of d.item) rest)) × ItemCounted d.item rest

-- the declarations of a whole text, before the documentation that it ends with
abbrev pub AreCounted : List Declaration → List (List ℕ) → Type 0
AreCounted ds trailing =
    EachCounted DeclarationCounted declaration_of declaration_before ds (docs_before trailing [])

abbrev pub SchemaCounted : Schema → Type 0
SchemaCounted s = AreCounted s.declarations.items (names_of s.trailing.items)

-- The result equals what reading gives, with its places counted, or memory was refused.
abbrev pub GivesCounted : {X Y : Type 0} → (X → Type 0) → (X → Y) → Result X ReadError
    → Result Y Fault → Type 0
GivesCounted counted view (Ok x) read = (read ≡ Ok (view x)) × counted x
GivesCounted counted view (Err e) read = Fails e read
