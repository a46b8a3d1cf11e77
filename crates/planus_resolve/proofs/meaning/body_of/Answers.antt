use Rattle.std.proofs.Common.{◌≡◌, length, map, refl, sym, ap, subst, ◌∙◌}
use Rattle.std.specs.Prelude.{None}
use Rattle.std.proofs.Math.ListN.{length-map}
use Rattle.planus_syntax.specs.Values.{enumeration_of}
use Rattle.planus_schema.specs.Layouts.{body_in}
use Rattle.planus_resolve.specs.Names.{head_of}
use Rattle.planus_resolve.specs.Enums.{SaysEnum}
use Rattle.planus_resolve.specs.Wrong.{Stops}
use Rattle.planus_resolve.specs.WrongEnums.{wrong_enum}
use Rattle.planus_resolve.specs.Faults.{scalar_measure}
use Rattle.planus_resolve.proofs.IntegerLemmas.{IsInteger, integer_found, is_integer}
use Rattle.planus_resolve.proofs.SchemaLemmas.{as_many}
use Rattle.planus_resolve.proofs.meaning.body_of.Goals as goal

pub returns-in-Err-clause-wrong : goal.returns-in-Err-clause-wrong
returns-in-Err-clause-wrong c =
    rw c.in-Table.is (rw c.saturating_sub-left.ensures at c.in-Err.ensures.wrong)

pub returns-in-Ok-clause-wrong : goal.returns-in-Ok-clause-wrong
returns-in-Ok-clause-wrong c = rw c.in-Table.is (rw c.saturating_sub-left.ensures at c.in-Ok.ensures.wrong)

pub returns-in-Err-struct_of-clause-wrong : goal.returns-in-Err-struct_of-clause-wrong
returns-in-Err-struct_of-clause-wrong c =
    rw c.in-Struct.is (rw c.saturating_sub-left.ensures at c.in-Err-struct_of.ensures.wrong)

pub returns-in-Ok-struct_of-clause-wrong : goal.returns-in-Ok-struct_of-clause-wrong
returns-in-Ok-struct_of-clause-wrong c = rw c.in-Struct.is (rw c.saturating_sub-left.ensures at c.in-Ok-struct_of.ensures.wrong)

pub enum_of-requires : goal.enum_of-requires
enum_of-requires c =
    let hs = map head_of c.args.heads.now in
    let n = length c.args.declared.now in
    let found = integer_found hs c.args.integers.now n n c.integer_at-integer.result c.requires refl c.integer_at-integer.ensures in
    subst IsInteger (sym found) (is_integer hs n)

pub returns-in-Err-enum_of-clause-wrong : goal.returns-in-Err-enum_of-clause-wrong
returns-in-Err-enum_of-clause-wrong c =
    let ds = c.args.declared.now in
    let found = integer_found (map head_of c.args.heads.now) c.args.integers.now (length ds) _ c.integer_at-integer.result c.requires (as_many ds) c.integer_at-integer.ensures in
    rw c.in-Enum.is (subst (λ o. Stops (wrong_enum o c.in-Enum.body) c.in-Err-enum_of.error) found c.in-Err-enum_of.ensures.wrong)

pub returns-in-Ok-enum_of-clause-wrong : goal.returns-in-Ok-enum_of-clause-wrong
returns-in-Ok-enum_of-clause-wrong c =
    let ds = c.args.declared.now in
    let found = integer_found (map head_of c.args.heads.now) c.args.integers.now (length ds) _ c.integer_at-integer.result c.requires (as_many ds) c.integer_at-integer.ensures in
    rw c.in-Enum.is (subst (λ o. wrong_enum o c.in-Enum.body ≡ None) found c.in-Ok-enum_of.ensures.wrong)

pub returns-in-Err-union_of-clause-wrong : goal.returns-in-Err-union_of-clause-wrong
returns-in-Err-union_of-clause-wrong c = rw c.in-Union.is c.in-Err-union_of.ensures.wrong

pub returns-in-Ok-union_of-clause-wrong : goal.returns-in-Ok-union_of-clause-wrong
returns-in-Ok-union_of-clause-wrong c = rw c.in-Union.is c.in-Ok-union_of.ensures.wrong

pub returns-in-Ok-clause-read : goal.returns-in-Ok-clause-read
returns-in-Ok-clause-read c = record {
  says = rw c.in-Table.is c.in-Ok.ensures.says;
  sound = c.in-Ok.ensures.sound;
  measure = rw c.in-Table.is refl;
}

pub returns-in-Ok-struct_of-clause-read : goal.returns-in-Ok-struct_of-clause-read
returns-in-Ok-struct_of-clause-read c = record {
  says = rw c.in-Struct.is c.in-Ok-struct_of.ensures.read.says;
  sound = c.in-Ok-struct_of.ensures.read.sound;
  measure = rw c.in-Struct.is (sym c.in-Ok-struct_of.ensures.read.measure);
}

pub returns-in-Ok-enum_of-clause-read : goal.returns-in-Ok-enum_of-clause-read
returns-in-Ok-enum_of-clause-read c =
    let ds = c.args.declared.now in
    let hs = map head_of c.args.heads.now in
    let e = c.in-Ok-enum_of.value in
    let says = c.in-Ok-enum_of.ensures.says in
    let among = integer_found hs c.args.integers.now (length ds) _ c.integer_at-integer.result c.requires (sym (length-map ds body_in)) c.integer_at-integer.ensures in
    let measured = integer_found hs c.args.integers.now (length ds) _ c.integer_at-integer.result c.requires (as_many ds) c.integer_at-integer.ensures in
    record {
      says = rw c.in-Enum.is (subst (λ o. SaysEnum o (enumeration_of c.in-Enum.body) e) among says);
      sound = c.in-Ok-enum_of.ensures.sound;
      measure = rw c.in-Enum.is (ap scalar_measure (sym says.scalar ∙ measured));
    }

pub returns-in-Ok-union_of-clause-read : goal.returns-in-Ok-union_of-clause-read
returns-in-Ok-union_of-clause-read c = record {
  says = rw c.in-Union.is c.in-Ok-union_of.ensures.says;
  sound = c.in-Ok-union_of.ensures.sound;
  measure = rw c.in-Union.is refl;
}
