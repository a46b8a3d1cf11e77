use Rattle.std.proofs.Common.{◌≡◌, ◌++◌, [], true, false, take, drop, map}
use Rattle.std.specs.List.{list_all}
use Rattle.planus_syntax.specs.Values.{field_of}
use Rattle.planus_resolve.specs.inner.Index.{IsTaken}
use Rattle.planus_schema.specs.Distinct.{AreDistinct, Each2}
use Rattle.planus_resolve.specs.inner.Scopes.{scope_heads, scope_space}
use Rattle.planus_resolve.specs.Tables.{SaysField, is_lawful, all_names}
use Rattle.planus_schema.specs.Slots.{Follow}
use Rattle.planus_schema.specs.Slots.{slots_taken}
use Rattle.planus_resolve.specs.WrongTables.{slots_from, wrong_fields}
use Rattle.planus_resolve.proofs.tables.table_fields.Given as goal

abbrev pub invariant-fields : goal.invariant-fields
invariant-fields l = record {
  says : Each2 (SaysField (scope_heads l.scope) (scope_space l.scope) l.ids)
      (map field_of (take l.declaration-index l.declared)) l.fields.items;
  order : l.ids ≡ false → Follow 0 l.fields.items l.next;
  lawful : list_all is_lawful l.fields.items ≡ true;
  slots : slots_taken l.fields.items ++ slots_from (scope_heads l.scope) (scope_space l.scope) l.ids
      l.next (drop l.declaration-index l.declared)
      ≡ slots_from (scope_heads l.scope) (scope_space l.scope) l.ids 0 l.declared;
  wrong : wrong_fields (scope_heads l.scope) (scope_space l.scope) l.ids l.next l.key
      (all_names l.fields.items) (drop l.declaration-index l.declared)
      ≡ wrong_fields (scope_heads l.scope) (scope_space l.scope) l.ids 0 false [] l.declared;
  taken : IsTaken l.names (all_names l.fields.items);
  distinct : AreDistinct (all_names l.fields.items);
  index : l.index ≡ l.declaration-index;
}
