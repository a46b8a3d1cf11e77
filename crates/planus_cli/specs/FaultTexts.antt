-- The messages of faults of meaning.
use Rattle.std.specs.Prelude.{ℕ, List, [], ◌++◌, codes, slice_get, Option, Some, None}
use Rattle.planus_resolve.specs.Names.{HeadV}
use Rattle.planus_resolve.specs.declared.fault.FaultKind.{FaultKind}
use Rattle.planus_resolve.specs.declared.fault.FaultKind.TheVariants as kind
use Rattle.planus_cli.specs.Near.{hint_of, nearest_type}

-- before the word at fault
abbrev pub before : FaultKind → List ℕ
before (kind.UnknownType e) = codes "unknown type "
before kind.UnknownAttribute = codes "unknown attribute "
before p = []

-- after the word at fault
abbrev pub after : FaultKind → List ℕ
after (kind.UnknownType e) = []
after kind.NameTaken = codes ": this name is declared before"
after kind.FieldNameTaken = codes ": a field before it has this name"
after kind.ValueNameTaken = codes ": a value before it has this name"
after kind.MemberNameTaken = codes ": a member before it has this name, or it is `NONE`"
after kind.ValueTaken = codes ": a value before it has the same number"
after kind.TagTaken = codes ": a member before it has the same number"
after kind.NoIntegerType = codes " is no integer type"
after kind.ValueOutOfRange = codes ": the type of the enum does not hold this number"
after kind.TagOutOfRange = codes ": the number of a member is from 1 to 255"
after kind.NoUnionMember =
    codes ": a member of a union is a table, a struct or, after a name of its own, `string`"
after kind.NoStructField =
    codes ": a field of a struct is a scalar, an enum, a struct or an array of these"
after kind.DeclaredLater =
    codes ": a struct holds only structs and enums that are declared before it"
after kind.ArrayCount = codes ": an array has from 1 to 65535 items"
after kind.ArrayInTable = codes ": a table can't hold an array; wrap it in a struct"
after kind.DefaultInStruct =
    codes ": a field of a struct can't have a default other than zero, and an array has none"
after kind.AttributeInStruct = codes ": a field of a struct can't be `required` or `deprecated`"
after kind.EmptyStruct = codes ": a struct needs a field"
after kind.StructTooLarge = codes ": the struct has more than 65535 bytes"
after kind.WrongAlignment =
    codes ": the alignment is a power of two, from that of the fields to 32"
after kind.WrongDefault = codes ": the default is no value of the field's type"
after kind.UnknownValue = codes ": its enum has no value 0, so it needs a default"
after kind.RequiredScalar = codes ": a scalar or an enum can't be `required`"
after kind.IdMissing = codes ": it has no `id`, and other fields of the table have one"
after kind.WrongId = codes ": an `id` is a number from 0 to 65535, and that of a union from 1 on"
after kind.IdsWithGap =
    codes ": its `id`s are not all the numbers from 0 on, each once; a union takes two"
after kind.TooManySlots = codes ": the table has more than 32765 slots"
after kind.WrongKey = codes ": a `key` is a scalar, an enum or a string"
after kind.SecondKey = codes ": a field before it is the `key`"
after kind.WrongNested = codes ": only a `[ubyte]` can be a `nested_flatbuffer`"
after kind.NestedIsNoTable = codes ": its value has to be a table's name in quotes"
after kind.UnknownAttribute = []
after kind.RootIsNoTable = codes " is no table"
after kind.WrongIdentifier = codes ": an identifier has exactly four bytes"
after kind.MethodNameTaken = codes ": a method before it has this name"
after kind.MethodIsNoTable = codes " is no table"
after (kind.TwoMeanings here elsewhere) = []
after kind.FlagsInUnion =
    codes " is for enums: flatc numbers the members of such a union by flags"

abbrev pub bare_message : FaultKind → List ℕ → List ℕ
bare_message p word = before p ++ (codes "`" ++ (word ++ (codes "`" ++ after p)))

abbrev pub name_at : Option HeadV → List ℕ
name_at None = []
name_at (Some head) = head.name

abbrev pub both_text : List ℕ → List ℕ → List ℕ → List ℕ
both_text word here elsewhere = codes "`" ++ word ++ codes "` means `" ++ here
    ++ codes "`, but flatc takes it for `" ++ elsewhere ++ codes "`; declare it before its use"

-- the message, with the nearest type that may stand there for an unknown one, and with both for a
-- name of two meanings
abbrev pub message_text : List HeadV → FaultKind → List ℕ → List ℕ
message_text hs (kind.UnknownType e) word =
    bare_message (kind.UnknownType e) word ++ hint_of (nearest_type e hs word)
message_text hs (kind.TwoMeanings here elsewhere) word =
    both_text word (name_at (slice_get hs here)) (name_at (slice_get hs elsewhere))
message_text hs p word = bare_message p word
