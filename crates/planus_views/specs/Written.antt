-- Tables that were written as a schema says.
use Prim.Native.Nat.{zero, suc}
use Rattle.std.specs.Prelude.{◌≡◌, ℕ, ◌+◌, ◌≤◌, List, [], ◌∷◌, length, drop, Bool, false}
use Rattle.std.specs.Prelude.{Option, Some, None, ⊤, Err, ◌<◌, ◌⊎◌}
use Rattle.std.specs.Str.{IsUtf8}
use Rattle.planus_read.specs.Reading.{target, slots_of}
use Rattle.planus_read.specs.Stands.{ReferenceStands}
use Rattle.planus_read.specs.Values.{Plain, Value, text, byte_list, plain_list, reference_list}
use Rattle.planus_write.specs.Contents.{Content, item, value, values, written}
use Rattle.planus.specs.ReadBack.{ContentsStand, content_at}
use Rattle.planus.specs.Unions.{IsApart, IsTextIn}
use Rattle.planus_verify.specs.Schemas.{Shapes, fields_of, variant_in}
use Rattle.planus_verify.specs.Verified.{tables_in}
use Rattle.planus_verify.specs.Walks.{RootWalks}
use Rattle.planus_verify.specs.declared.fault.Fault.{Fault}
use Rattle.planus_verify.specs.declared.fault.Fault.TheVariants as fault
use Rattle.planus_verify.specs.declared.schema.FieldShape.{FieldShape}
use Rattle.planus_verify.specs.declared.schema.FieldKind.{FieldKind}
use Rattle.planus_verify.specs.declared.schema.FieldKind.TheVariants as kind
use Rattle.planus_verify.specs.declared.schema.Variant.{Variant}
use Rattle.planus_verify.specs.declared.schema.ValueKind.{ValueKind}
use Rattle.planus_verify.specs.declared.schema.ValueKind.TheVariants as kind_of
use Rattle.planus_verify.specs.declared.schema.VariantKind.{VariantKind}
use Rattle.planus_verify.specs.declared.schema.VariantKind.TheVariants as variant
use Rattle.planus_views.specs.Fields.{TableHolds}

-- of the table of an index, at a distance from the end
abbrev pub OfWritten : Type 1
OfWritten = ℕ → ℕ → Type 0

abbrev pub IsText : Value → Type 0
IsText (text bytes) = IsUtf8 bytes
IsText _ = ⊥

abbrev pub AreTexts : List Value → Type 0
AreTexts [] = ⊤
AreTexts (one ∷ others) = IsText one × AreTexts others

abbrev pub IsByteList : Value → Type 0
IsByteList (byte_list bytes) = ⊤
IsByteList _ = ⊥

-- items of this size
abbrev pub IsPlainList : ℕ → Value → Type 0
IsPlainList size (plain_list one alignment items) = size ≡ one
IsPlainList size _ = ⊥

abbrev pub AllAt : (ℕ → Type 0) → List ℕ → Type 0
AllAt P [] = ⊤
AllAt P (distance ∷ distances) = P distance × AllAt P distances

abbrev pub AreTables : (ℕ → Type 0) → Value → Type 0
AreTables P (reference_list distances) = AllAt P distances
AreTables P _ = ⊥

abbrev pub HoldsPlain : ℕ → Content → Type 0
HoldsPlain size (item plain) = (length plain.bytes ≡ size) × (1 ≤ size)
HoldsPlain size _ = ⊥

abbrev pub HoldsValue : (Value → Type 0) → Content → Type 0
HoldsValue P (value one) = P one
HoldsValue P _ = ⊥

abbrev pub HoldsValues : (List Value → Type 0) → Content → Type 0
HoldsValues P (values all) = P all
HoldsValues P _ = ⊥

abbrev pub HoldsWritten : (ℕ → Type 0) → Content → Type 0
HoldsWritten P (written distance) = P distance
HoldsWritten P _ = ⊥

-- What a field of one slot holds is of this kind. Of a buffer in a byte vector nothing is said.
abbrev pub FitsKind : OfWritten → ValueKind → Content → Type 0
FitsKind Written (kind_of.Plain size) = HoldsPlain size
FitsKind Written kind_of.Text = HoldsValue IsText
FitsKind Written kind_of.Bytes = HoldsValue IsByteList
FitsKind Written (kind_of.Plains size) = HoldsValue (IsPlainList size)
FitsKind Written kind_of.Texts = HoldsValues AreTexts
FitsKind Written (kind_of.Table t) = HoldsWritten (Written t)
FitsKind Written (kind_of.Tables t) = HoldsValue (AreTables (Written t))
FitsKind Written (kind_of.Nested t) = λ content. ⊥

-- The same, or nothing where the field isn't required.
abbrev pub FitsIf : OfWritten → Bool → ValueKind → Option Content → Type 0
FitsIf Written required kind None = required ≡ false
FitsIf Written required kind (Some content) = FitsKind Written kind content

-- a string, written before or with the table
abbrev pub HoldsText : List ℕ → Content → Type 0
HoldsText B content = (bytes : List ℕ) × IsUtf8 bytes × IsTextIn B content bytes

-- a struct of this size, written before or with the table
abbrev pub HoldsStruct : List ℕ → ℕ → Content → Type 0
HoldsStruct B size content = (bytes : List ℕ) × (length bytes ≡ size) × IsApart B content bytes

-- what a union's reference of this kind leads to in B; other tags may be of a later schema
abbrev pub FitsMember : OfWritten → List ℕ → Option VariantKind → Content → Type 0
FitsMember Written B None = HoldsWritten (λ distance. ⊤)
FitsMember Written B (Some (variant.Table t)) = HoldsWritten (Written t)
FitsMember Written B (Some variant.Text) = HoldsText B
FitsMember Written B (Some (variant.Struct size)) = HoldsStruct B size

abbrev pub FitsUnion : OfWritten → List ℕ → List Variant → ℕ → Plain → Content → Type 0
FitsUnion Written B variants u plain content =
    (tag : ℕ) × (plain.bytes ≡ tag ∷ []) × (1 ≤ tag)
    × FitsMember Written B (variant_in variants u tag) content

-- a union by the contents of its two slots, or nothing where the field isn't required
abbrev pub FitsUnionIf :
    OfWritten → List ℕ → List Variant → Bool → ℕ → Option Content → Option Content → Type 0
FitsUnionIf Written B variants required u None None = required ≡ false
FitsUnionIf Written B variants required u (Some (item plain)) (Some content) =
    FitsUnion Written B variants u plain content
FitsUnionIf Written B variants required u _ _ = ⊥

-- A field, by the contents of all slots. Of vectors of unions nothing is said.
abbrev pub FieldFits :
    OfWritten → List ℕ → List Variant → (ℕ → Option Content) → Bool → FieldKind → ℕ → Type 0
FieldFits Written B variants at required (kind.Value one) slot =
    FitsIf Written required one (at slot)
FieldFits Written B variants at required (kind.Union u) slot =
    FitsUnionIf Written B variants required u (at slot) (at (slot + 1))
FieldFits Written B variants at required (kind.Unions u) slot = ⊥

abbrev pub FieldsFit :
    OfWritten → List ℕ → List Variant → (ℕ → Option Content) → List FieldShape → Type 0
FieldsFit Written B variants at [] = ⊤
FieldsFit Written B variants at (field ∷ fields) =
    FieldFits Written B variants at field.required field.kind field.slot
    × FieldsFit Written B variants at fields

-- At the distance from the end of B stands a table with contents as the schema's table of index t has
-- them, and with tables of that kind below it, one in the other to a depth of n.
abbrev pub IsWritten : Shapes → List ℕ → ℕ → OfWritten
IsWritten schema B zero t distance = ⊥
IsWritten schema B (suc n) t distance =
    (contents : List (ℕ × Option Content)) × ContentsStand B contents distance
    × FieldsFit (IsWritten schema B n) B schema.variants (content_at contents) (fields_of schema t)

-- It is verified to that depth by each reference that leads to it.
abbrev pub WrittenIsVerified : Shapes → Type 0
WrittenIsVerified schema =
    (B : List ℕ) (n t distance : ℕ) → IsWritten schema B n t distance
    → (start f : ℕ) → ReferenceStands B (start + f) distance
    → TableHolds schema n t start (drop start B) f

-- As the root of a buffer it is refused by a limit alone, which is passed.
abbrev pub WrittenPasses : Shapes → Type 0
WrittenPasses schema =
    (B : List ℕ) (n t distance : ℕ) → IsWritten schema B n t distance → ReferenceStands B 0 distance
    → (depth tables : ℕ) (found : Fault) → RootWalks schema t depth tables B (Err found)
    → ((found ≡ fault.TooDeep) × (depth < n))
    ⊎ ((found ≡ fault.TooMany)
    × (tables < tables_in schema n t (drop (target B 0) B) (slots_of B (target B 0)) (target B 0)))
