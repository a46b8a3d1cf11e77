use Rattle.std.proofs.Common.{◌≡◌, true, take}
use Rattle.std.specs.List.{list_all}
use Rattle.planus_json_syntax.specs.Tokens.{is_word_byte}
use Rattle.planus_json_syntax.proofs.tokens.split_word.Given as goal

abbrev pub invariant-bytes : goal.invariant-bytes
invariant-bytes l = record {
  counted : l.length ≡ l.b-index;
  each : list_all is_word_byte (take l.b-index l.bytes) ≡ true;
}
