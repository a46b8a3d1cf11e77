use Rattle.std.proofs.Common.{◌≡◌, ◌<◌, true, take}
use Rattle.std.specs.List.{list_all}
use Rattle.planus_schema.specs.Numbers.{is_digit, base, value_in}
use Rattle.planus_schema.proofs.number.read_digits.Given as goal

abbrev pub invariant-digits : goal.invariant-digits
invariant-digits l = record {
  digits : list_all (is_digit l.hexadecimal) (take l.b-index l.digits) ≡ true;
  value : l.total ≡ value_in (base l.hexadecimal) (take l.b-index l.digits);
  small : l.total < 18446744073709551616;
}
