use Rattle.std.proofs.Common.{◌≡◌, ◌≤◌, ◌+◌, ◌-◌, drop, length}
use Rattle.std.specs.List.{position_or_len}
use Rattle.planus_cli.specs.Buffers.{is_table_named}
use Rattle.planus_cli.proofs.root.table_named.Given as goal

abbrev pub invariant-declared : goal.invariant-declared
invariant-declared l = record {
  end : position_or_len (is_table_named l.name) l.declared
      ≡ l.n + position_or_len (is_table_named l.name) (drop l.n l.declared);
  within : l.n ≤ length l.declared;
}

abbrev pub decreases-declared : goal.decreases-declared
decreases-declared l = length l.declared - l.n
