-- A replay checks the bytes of a struct, and of a vector of items of one size.
use Rattle.std.specs.Prelude.{◌≡◌, ℕ, List, Option, Some, None, Result, Ok, Err}
use Rattle.std.specs.Int.{Width, byte_len}
use Rattle.planus_read.specs.Values.{Plain, plain_list}
use Rattle.planus.specs.Runs.{struct_width, struct_of, items_of, plains_value}
use Rattle.planus.specs.TableChecks.{struct_fault}
use Rattle.planus.specs.Replays.{plains_fault}
use Rattle.planus.specs.declared.replaying.faults.Why.{Why}
use Rattle.planus.specs.declared.replaying.plain_items.PlainItems.{PlainItems}
use Rattle.planus.specs.declared.replaying.struct_bytes.StructBytes.{StructBytes}

-- the width of a struct's alignment, if it has one
abbrev pub KnowsAlignment : ℕ → Option ℕ → Type 0
KnowsAlignment alignment (Some known) =
    (width : Width) × (struct_width alignment ≡ Some width) × (known ≡ byte_len width)
KnowsAlignment alignment None = struct_width alignment ≡ None

abbrev pub plain_of : StructBytes → Plain
plain_of part = record { bytes = part.bytes.now; alignment = part.alignment }

-- the struct of these bytes, or its error
abbrev pub ChecksStruct : ℕ → List ℕ → Result StructBytes Why → Type 0
ChecksStruct alignment content (Ok part) =
    struct_of (struct_width alignment) content ≡ Some (plain_of part)
ChecksStruct alignment content (Err why) = struct_fault (struct_width alignment) content ≡ Some why

-- the items, cut from their bytes
abbrev pub items_in : PlainItems → List (List ℕ)
items_in items = items_of items.size items.bytes.now

-- the items of these bytes, or their error
abbrev pub ChecksPlains : ℕ → ℕ → List ℕ → Result PlainItems Why → Type 0
ChecksPlains alignment size content (Ok items) =
    plains_value (struct_width alignment) size content
    ≡ Some (plain_list items.size items.alignment (items_in items))
ChecksPlains alignment size content (Err why) =
    plains_fault (struct_width alignment) size content ≡ Some why
