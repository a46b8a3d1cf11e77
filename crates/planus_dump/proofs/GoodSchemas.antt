-- What a good schema is, part by part.
use Rattle.std.proofs.Common.{◌≡◌, ℕ, zero, suc, ◌==◌, List, [], ◌∷◌, ◌++◌, refl, subst, Bool, true, false, if◌then◌else◌}
use Rattle.std.specs.Prelude.{nat_lt, not, ◌&&◌, length, slice_get, Some, None, Vec}
use Rattle.std.specs.declared.alloc.Global.{Global}
use Rattle.std.specs.List.{AllByRecursion, list_all}
use Rattle.planus_dump.specs.Events.{variant_of}
use Rattle.planus_dump.specs.Schemas.{is_good, table_fits, union_fits, variant_fits, variants_fit, table_count, union_count, fixed_values_fit}
use Rattle.planus_dump.specs.declared.schemas.Schema.{Schema}
use Rattle.planus_dump.specs.declared.schemas.VariantSchema.{VariantSchema}

pub all_append : {X : Type 0} (P : X → Type 0) (xs ys : List X) → AllByRecursion P xs → AllByRecursion P ys → AllByRecursion P (xs ++ ys)
all_append P [] ys h k = k
all_append P (x ∷ xs) ys h k = (h.0, all_append P xs ys h.1 k)

pub all_at : {X : Type 0} (P : X → Type 0) (xs : List X) (i : ℕ) (x : X) → AllByRecursion P xs → slice_get xs i ≡ Some x → P x
all_at P [] i x h e = cc
all_at P (y ∷ xs) zero x h e = let same : y ≡ x = cc in subst P same h.0
all_at P (y ∷ xs) (suc i) x h e = all_at P xs i x h.1 e

pub both_true : (a b : Bool) → (a && b) ≡ true → (a ≡ true) × (b ≡ true)
both_true true true e = (refl, refl)
both_true true false e = cc
both_true false b e = cc

all_true : {X : Type 0} (test : X → Bool) (P : X → Type 0) → ((x : X) → test x ≡ true → P x) → (xs : List X) → list_all test xs ≡ true → AllByRecursion P xs
all_true test P holds [] e = tt
all_true test P holds (x ∷ xs) e =
    let both : (test x ≡ true) × (list_all test xs ≡ true) = both_true (test x) (list_all test xs) e in (holds x both.0, all_true test P holds xs both.1)

pub record GoodParts (schema : Schema) : Type 0 where
  pub root : nat_lt schema.root (table_count schema) ≡ true
  pub tables : list_all (table_fits (table_count schema) (union_count schema)) schema.tables.items ≡ true
  pub unions : list_all (union_fits (table_count schema) (length schema.structs.items)) schema.unions.items ≡ true
  pub fixed : fixed_values_fit (length schema.enums.items) (length schema.structs.items) schema ≡ true

pub good_parts : (schema : Schema) → is_good schema ≡ true → GoodParts schema
good_parts schema e =
    let root = nat_lt schema.root (table_count schema) in
    let tables = list_all (table_fits (table_count schema) (union_count schema)) schema.tables.items in
    let unions = list_all (union_fits (table_count schema) (length schema.structs.items)) schema.unions.items in
    let all = both_true (root && tables && unions) (fixed_values_fit (length schema.enums.items) (length schema.structs.items) schema) e in
    let most = both_true (root && tables) unions all.0 in
    let first = both_true root tables most.0 in
    record { root = first.0; tables = first.1; unions = most.1; fixed = all.1 }

-- no union's variant has tag 0
abbrev pub HasTags : Vec VariantSchema Global → Type 0
HasTags variants = variant_of variants.items 0 ≡ None

zero_tag : (tables structs : ℕ) (variants : List VariantSchema) → variants_fit tables structs variants ≡ true → variant_of variants 0 ≡ None
zero_tag tables structs [] e = refl
zero_tag tables structs (variant ∷ rest) e =
    let all = both_true (variant_fits tables structs variant rest) (variants_fit tables structs rest) e in
    by_test (variant.tag == 0) (first (not (variant.tag == 0)) _ _ _ all.0) (zero_tag tables structs rest all.1)
  where
    first : (a b c d : Bool) → (a && b && c && d) ≡ true → a ≡ true
    first true b c d e = refl
    first false b c d e = e

    by_test : (zero_is : Bool) → not zero_is ≡ true → variant_of rest 0 ≡ None → (if zero_is then Some variant else variant_of rest 0) ≡ None
    by_test true some later = cc
    by_test false some later = later

pub good_tags : (schema : Schema) → is_good schema ≡ true → AllByRecursion HasTags schema.unions.items
good_tags schema e =
    all_true (union_fits (table_count schema) (length schema.structs.items)) HasTags (λ variants. zero_tag (table_count schema) (length schema.structs.items) variants.items) schema.unions.items (good_parts schema e).unions
