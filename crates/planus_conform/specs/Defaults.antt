-- Absent fields with the same value.
use Rattle.std.specs.Prelude.{◌==◌, ◌&&◌, ◌||◌, Bool, true, false, if◌then◌else◌}
use Rattle.std.specs.Str.{bytes_eq}
use Rattle.planus_schema.specs.declared.number.Number.{Number}
use Rattle.planus_schema.specs.declared.schema.TableField.{TableField}
use Rattle.planus_resolve.specs.Defaults.{ValueV, absent as nothing, integer, float, text, empty}
use Rattle.planus_conform.specs.Floats.{DefaultV, written, float_of}
use Rattle.planus_conform.specs.Reads.{is_nothing, given, default_of}
use Rattle.planus_conform.specs.Types.{same_truth}

abbrev pub same_number : Number → Number → Bool
same_number a b = same_truth a.negative b.negative && a.magnitude == b.magnitude

abbrev pub same_value : ValueV → ValueV → Bool
same_value nothing nothing = true
same_value (integer a) (integer b) = same_number a b
same_value (float a) (float b) = bytes_eq a b
same_value (text a) (text b) = bytes_eq a b
same_value empty empty = true
same_value a b = false

-- floats by their bits, hexadecimal ones as they are written
abbrev pub same_given : DefaultV → DefaultV → Bool
same_given (written a) (written b) = same_value a b
same_given (float_of a) (float_of b) = a == b
same_given a b = false

abbrev pub same_default : TableField → TableField → Bool
same_default f g =
    if is_nothing f.kind (default_of f) || is_nothing g.kind (default_of g)
    then is_nothing f.kind (default_of f) && is_nothing g.kind (default_of g)
    else same_given (given f.kind.base (default_of f)) (given g.kind.base (default_of g))
