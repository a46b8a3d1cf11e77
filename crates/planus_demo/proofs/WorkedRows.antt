-- The worked rows fit.
use Rattle.std.proofs.Common.{◌≡◌, ℕ, suc, List, [], ◌∷◌, map, refl, sym, ap, ◌∙◌, subst, Option, Some, None, false, true, ◌==◌}
use Rattle.std.specs.Prelude.{slice_get, Vec}
use Rattle.std.specs.List.{AllByRecursion}
use Rattle.std.specs.declared.alloc.Global.{Global}
use Rattle.std.proofs.lemmas.Bool.{eq-eqb}
use Rattle.std.proofs.lemmas.Option.{slice_get-map}
use Rattle.planus.specs.Steps.{Step, FieldStep, table}
use Rattle.planus.proofs.Lists.{made_of, all_unmapped}
use Rattle.planus_dump.specs.Dumped.{greatest_depth}
use Rattle.planus_dump.specs.Describes.{HasKind, IsTableOf, Describes, Fits, IsMember, IsTagged, IsVariantOf}
use Rattle.planus_dump.specs.Events.{variant_of}
use Rattle.planus_dump.specs.declared.schemas.VariantKind.TheVariants as member
use Rattle.planus_dump.specs.Shapes.{FieldShape, field_shape, TableShape, table_shape, VariantShape, variant_shape, union_shape, HasShape}
use Rattle.planus_demo.specs.WorkedSchemas.{weapon_shape, monster_shape, equipment_shape, worked_tables, worked_unions, worked_steps, wide_steps, unnamed_steps, WorkedRowsFit}
use Rattle.planus_dump.specs.declared.schemas.Schema.{Schema}
use Rattle.planus_dump.specs.declared.schemas.TableSchema.{TableSchema}
use Rattle.planus_dump.specs.declared.schemas.VariantSchema.{VariantSchema}
use Rattle.planus_dump.specs.declared.schemas.Kind.TheVariants.{One}
use Rattle.planus_dump.specs.declared.schemas.Item.TheVariants.{Text, Number}
use Rattle.planus_dump.specs.declared.schemas.Number.TheVariants.{I16}

record TableIs (schema : Schema) (index : ℕ) (shape : TableShape) : Type 0 where
  table : TableSchema
  there : slice_get schema.tables.items index ≡ Some table
  fields : map field_shape table.fields.items ≡ shape.fields

table_is : (schema : Schema) (tables : List TableShape) (unions : List (List VariantShape)) (root index : ℕ) (shape : TableShape) → HasShape schema tables unions root → slice_get tables index ≡ Some shape
    → TableIs schema index shape
table_is schema tables unions root index shape has e =
    let made = made_of table_shape (slice_get schema.tables.items index) shape (sym (slice_get-map table_shape schema.tables.items index) ∙ ap (λ (all : List TableShape). slice_get all index) has.tables_are ∙ e) in
    record { table = made.0; there = made.1; fields = ap (λ (one : TableShape). one.fields) made.2 }

union_is : (schema : Schema) (root : ℕ) → HasShape schema worked_tables worked_unions root
    → (variants : Vec VariantSchema Global) × (slice_get schema.unions.items 0 ≡ Some variants) × (union_shape variants ≡ equipment_shape)
union_is schema root has =
    made_of union_shape (slice_get schema.unions.items 0) equipment_shape
    (sym (slice_get-map union_shape schema.unions.items 0) ∙ ap (λ (all : List (List VariantShape)). slice_get all 0) has.unions_are)

all_mapped : {X Y : Type 0} (P : Y → Type 0) (f : X → Y) (xs : List X) → AllByRecursion (λ x. P (f x)) xs → AllByRecursion P (map f xs)
all_mapped P f [] h = tt
all_mapped P f (x ∷ xs) h = (h.0, all_mapped P f xs h.1)

module _ (schema : Schema) (steps : List Step) (IsTable : ℕ → ℕ → Type 0) (index : ℕ) (shape : TableShape) (is : TableIs schema index shape) (fields : List (ℕ × FieldStep)) where
  abbrev Fields : Type 0
  Fields = AllByRecursion (λ (one : FieldShape). HasKind steps IsTable schema fields one.slot one.required one.kind) shape.fields

  by_shape : Fields → IsTableOf steps IsTable schema (slice_get schema.tables.items index) (Some (table fields))
  by_shape h =
      subst (λ (o : Option TableSchema). IsTableOf steps IsTable schema o (Some (table fields))) (sym is.there)
      (all_unmapped (λ (one : FieldShape). HasKind steps IsTable schema fields one.slot one.required one.kind) field_shape is.table.fields.items
      (subst (AllByRecursion (λ (one : FieldShape). HasKind steps IsTable schema fields one.slot one.required one.kind)) (sym is.fields) h))

  of_shape : IsTableOf steps IsTable schema (slice_get schema.tables.items index) (Some (table fields)) → Fields
  of_shape h =
      subst (AllByRecursion (λ (one : FieldShape). HasKind steps IsTable schema fields one.slot one.required one.kind)) is.fields
      (all_mapped (λ (one : FieldShape). HasKind steps IsTable schema fields one.slot one.required one.kind) field_shape is.table.fields.items
      (subst (λ (o : Option TableSchema). IsTableOf steps IsTable schema o (Some (table fields))) is.there h))

describes : (schema : Schema) (steps : List Step) (left index n : ℕ) → IsTableOf steps (Describes schema steps left) schema (slice_get schema.tables.items index) (slice_get steps n)
    → Describes schema steps (suc left) index n
unfolding Describes
describes schema steps left index n h = h

described : (schema : Schema) (steps : List Step) (left index n : ℕ) → Describes schema steps (suc left) index n
    → IsTableOf steps (Describes schema steps left) schema (slice_get schema.tables.items index) (slice_get steps n)
unfolding Describes
described schema steps left index n h = h

weapon_fits : (schema : Schema) (root left : ℕ) → HasShape schema worked_tables worked_unions root → Describes schema worked_steps (suc left) 0 1
weapon_fits schema root left has =
    describes schema worked_steps left 0 1
    (by_shape schema worked_steps (Describes schema worked_steps left) 0 weapon_shape (table_is schema worked_tables worked_unions root 0 weapon_shape has refl) _ (tt, (refl, tt)))

weapon_tagged : (D : ℕ → ℕ → Type 0) (variants : List VariantSchema) → map variant_shape variants ≡ equipment_shape → D 0 1 → IsVariantOf worked_steps D (variant_of variants 1) 1
weapon_tagged D [] e axe = cc
weapon_tagged D (variant ∷ variants) e axe =
    let one : variant_shape variant ≡ record { tag = 1; name = []; kind = member.Table 0 } = cc in
    let tag : variant.tag ≡ 1 = ap (λ (shape : VariantShape). shape.tag) one in
    let kind_is : variant.kind ≡ member.Table 0 = ap (λ (shape : VariantShape). shape.kind) one in
    let test : (variant.tag == 1) ≡ true = eq-eqb variant.tag 1 tag in
    rw test (subst (λ kind. IsMember worked_steps D kind 1) (sym kind_is) axe)

monster_fits : (schema : Schema) (root left : ℕ) → HasShape schema worked_tables worked_unions root → Describes schema worked_steps (suc (suc left)) 1 6
monster_fits schema root left has =
    let D = Describes schema worked_steps (suc left) in
    let axe : D 0 1 = weapon_fits schema root left has in
    let union = union_is schema root has in
    let tagged : IsTagged worked_steps D (slice_get schema.unions.items 0) 1 1 =
    subst (λ (o : Option (Vec VariantSchema Global)). IsTagged worked_steps D o 1 1) (sym union.1) (weapon_tagged D union.0.items union.2 axe) in
    describes schema worked_steps (suc left) 1 6
    (by_shape schema worked_steps D 1 monster_shape (table_is schema worked_tables worked_unions root 1 monster_shape has refl) _
    (refl, (tt, (tt, ((refl, (axe, tt)), ((refl, tagged), ((refl, (tagged, tt)), tt)))))))

weapon_fields : (schema : Schema) (steps : List Step) (n : ℕ) (fields : List (ℕ × FieldStep)) → HasShape schema worked_tables worked_unions 0 → Fits schema steps n → slice_get steps n ≡ Some (table fields)
    → HasKind steps (Describes schema steps 63) schema fields 0 false (One Text) × HasKind steps (Describes schema steps 63) schema fields 1 false (One (Number I16)) × Unit {0}
weapon_fields schema steps n fields has fits e =
    let root : Describes schema steps greatest_depth 0 n = subst (λ root. Describes schema steps greatest_depth root n) has.root_is fits in
    let here = subst (IsTableOf steps (Describes schema steps 63) schema (slice_get schema.tables.items 0)) e (described schema steps 63 0 n root) in
    let all = of_shape schema steps (Describes schema steps 63) 0 weapon_shape (table_is schema worked_tables worked_unions 0 0 weapon_shape has refl) fields here in
    (all.0, all.1.0, tt)

pub worked_rows_fit : (schema : Schema) → WorkedRowsFit schema
worked_rows_fit schema = record {
  weapon = λ has. subst (λ root. Describes schema worked_steps greatest_depth root 1) (sym has.root_is) (weapon_fits schema 0 63 has);
  monster = λ has. subst (λ root. Describes schema worked_steps greatest_depth root 6) (sym has.root_is) (monster_fits schema 1 62 has);
  wide = λ has fits. let wrong : Some 2 ≡ Some 4 = (weapon_fields schema wide_steps 1 _ has fits refl).1 in cc;
  unnamed = λ has fits. (weapon_fields schema unnamed_steps 1 _ has fits refl).0;
  other = λ has fits. let wrong : None ≡ Some 2 = (weapon_fields schema worked_steps 6 _ has fits refl).0 in cc;
}
