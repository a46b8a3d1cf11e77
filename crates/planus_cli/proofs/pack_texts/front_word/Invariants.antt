use Rattle.std.proofs.Common.{◌≡◌, ◌≤◌, ◌+◌, ◌-◌, drop, length}
use Rattle.std.specs.List.{position_or_len}
use Rattle.planus_cli.specs.PackTexts.{ends_word}
use Rattle.planus_cli.proofs.pack_texts.front_word.Given as goal

abbrev pub invariant-bytes : goal.invariant-bytes
invariant-bytes l = record {
  end : position_or_len (ends_word l.quoted) l.bytes
      ≡ l.n + position_or_len (ends_word l.quoted) (drop l.n l.bytes);
  within : l.n ≤ length l.bytes;
}

abbrev pub decreases-bytes : goal.decreases-bytes
decreases-bytes l = length l.bytes - l.n
