use Rattle.std.proofs.Common.{◌≡◌, ◌≤◌, [], take, drop, map}
use Rattle.planus_syntax.specs.Values.{field_of}
use Rattle.planus_resolve.specs.inner.Index.{IsTaken}
use Rattle.planus_schema.specs.Distinct.{AreDistinct, Each2}
use Rattle.planus_resolve.specs.inner.Scopes.{scope_heads, scope_space}
use Rattle.planus_resolve.specs.Structs.{SaysStructField}
use Rattle.planus_schema.specs.Layouts.{Laid, greatest_alignment, body_in}
use Rattle.planus_resolve.specs.WrongStructs.{measures_of, end_after, greatest_after, wrong_struct_fields}
use Rattle.planus_resolve.proofs.structs.struct_fields.Given as goal

abbrev pub invariant-fields : goal.invariant-fields
invariant-fields l = record {
  says : Each2 (SaysStructField (scope_heads l.scope) (scope_space l.scope) (map body_in l.bodies))
      (map field_of (take l.declaration-index l.declared)) l.fields.items;
  laid : Laid 0 l.fields.items l.end;
  within : l.end ≤ 65535;
  greatest : l.alignment ≡ greatest_alignment l.fields.items;
  ends : end_after (scope_heads l.scope) (scope_space l.scope) (measures_of l.bodies) l.end
      (drop l.declaration-index l.declared)
      ≡ end_after (scope_heads l.scope) (scope_space l.scope) (measures_of l.bodies) 0 l.declared;
  aligns : greatest_after (scope_heads l.scope) (scope_space l.scope) (measures_of l.bodies) l.alignment
      (drop l.declaration-index l.declared)
      ≡ greatest_after (scope_heads l.scope) (scope_space l.scope) (measures_of l.bodies) 1 l.declared;
  wrong : wrong_struct_fields (scope_heads l.scope) (scope_space l.scope) (measures_of l.bodies) l.end
      (map (λ f. f.name.items) l.fields.items) (drop l.declaration-index l.declared)
      ≡ wrong_struct_fields (scope_heads l.scope) (scope_space l.scope) (measures_of l.bodies) 0 [] l.declared;
  taken : IsTaken l.names (map (λ f. f.name.items) l.fields.items);
  distinct : AreDistinct (map (λ f. f.name.items) l.fields.items);
}
