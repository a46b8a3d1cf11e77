-- Structs in structs, and tables in tables.
use Rattle.std.proofs.Common.{◌≡◌, ℕ, zero, suc, ◌-◌, ◌<◌, List, refl, arith, Err}
use Rattle.planus.specs.Steps.{Step}
use Rattle.planus_schema.specs.declared.schema.Declared.{Declared}
use Rattle.planus_json_syntax.specs.Values.{JsonV}
use Rattle.planus_pack.specs.declared.pack_fault.PackFault.TheVariants as fault
use Rattle.planus_pack.specs.Plain.{with_struct, with_struct_at}
use Rattle.planus_pack.specs.Rules.{RulesV}
use Rattle.planus_pack.specs.Tables.{with_table, table_in}

module _ (declared : List Declared) (i : ℕ) (json : JsonV) where
  pub struct_too_deep : (depth : ℕ) (bytes : List ℕ) → depth ≡ 0
      → with_struct declared depth i bytes json ≡ Err (fault.TooDeep, json.at)
  unfolding with_struct
  struct_too_deep zero bytes h = refl
  struct_too_deep (suc depth) bytes h = absurd (omega (arith, h))

  pub struct_within : (depth : ℕ) (bytes : List ℕ) → 0 < depth
      → with_struct declared depth i bytes json
      ≡ with_struct_at declared (with_struct declared (depth - 1)) i bytes json
  unfolding with_struct
  struct_within zero bytes h = absurd (omega (arith, h))
  struct_within (suc depth) bytes h =
      let e : suc depth - 1 ≡ depth = omega arith in
      rw e refl

module _ (by : RulesV) (i : ℕ) (json : JsonV) where
  pub table_too_deep : (depth : ℕ) (steps : List Step) → depth ≡ 0
      → with_table by depth i steps json ≡ Err (fault.TooDeep, json.at)
  unfolding with_table
  table_too_deep zero steps h = refl
  table_too_deep (suc depth) steps h = absurd (omega (arith, h))

  pub table_within : (depth : ℕ) (steps : List Step) → 0 < depth
      → with_table by depth i steps json ≡ table_in by (with_table by (depth - 1)) i steps json
  unfolding with_table
  table_within zero steps h = absurd (omega (arith, h))
  table_within (suc depth) steps h =
      let e : suc depth - 1 ≡ depth = omega arith in
      rw e refl
