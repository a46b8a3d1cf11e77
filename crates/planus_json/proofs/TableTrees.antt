-- The tokens of what has parts, one after another.
use Rattle.std.proofs.Common.{Ok, Option, ◌≡◌, ◌≢◌, ℕ, zero, suc, ◌+◌, ◌-◌, ◌*◌, ◌<◌, ◌≤◌, List, [], ◌∷◌, ◌++◌, length, drop, get_or, slice_get, refl, sym, ap, ◌∙◌, arith}
use Rattle.std.specs.Prelude.{Vec, slice_index}
use Rattle.std.specs.String.{string_bytes}
use Rattle.std.specs.declared.alloc.Global.{Global}
use Rattle.std.proofs.lemmas.List.{append_assoc, append-nil, drop_more}
use Rattle.planus_read.specs.Places.{place_bytes, place_offset, tagged_tag, tagged_place}
use Rattle.planus_read.specs.declared.place.TaggedPlace.{TaggedPlace}
use Rattle.planus_dump.specs.Answers.{Seen, SeenItems, SeenUnions, vector_at}
use Rattle.planus_dump.specs.Lines.{item_path, field_path}
use Rattle.planus_dump.specs.Events.{stride_of, field_label}
use Rattle.planus_dump.specs.ReadingViews.{IsUnionIn}
use Rattle.planus_dump.specs.declared.schemas.Schema.{Schema}
use Rattle.planus_dump.specs.declared.schemas.FieldSchema.{FieldSchema}
use Rattle.planus_dump.specs.declared.schemas.VariantSchema.{VariantSchema}
use Rattle.planus_dump.specs.declared.schemas.Item.{Item}
use Rattle.planus_json.specs.Json.{begins, plain, label, tokens, items_tokens, members_tokens}
use Rattle.planus_json.specs.Trees.{Tree, Trees, Members, empty, member, join, TableTree, tree, shape_tree, byte_trees, item_tree, items_trees, list_tree, list, kind_members, fields_members, type_tree, types_trees, union_tree, unions_trees}

pub trees-more : (schema : Schema) (left index : ℕ) (S : List ℕ) (f : ℕ) (path : List ℕ) → left ≢ 0
    → tree schema left index S f path ≡ shape_tree (tree schema (left - 1)) schema (slice_get schema.tables.items index) S f path
unfolding tree
trees-more schema zero index S f path h = absurd (h refl)
trees-more schema (suc left) index S f path h = let e : suc left - 1 ≡ left = omega arith in ap (λ k. shape_tree (tree schema k) schema (slice_get schema.tables.items index) S f path) (sym e)

pub trees-none : (schema : Schema) (left index : ℕ) (S : List ℕ) (f : ℕ) (path : List ℕ) → left ≡ 0 → tree schema left index S f path ≡ Tree.deep
unfolding tree
trees-none schema zero index S f path h = refl
trees-none schema (suc left) index S f path h = absurd (omega (arith, h))

pub bytes-split : (line content : List ℕ) (i : ℕ) → i < length content
    → items_tokens line (byte_trees (drop i content)) ≡ items_tokens line (byte_trees (get_or content i 0 ∷ [])) ++ items_tokens line (byte_trees (drop (i + 1) content))
bytes-split line content i h = ap (λ xs. items_tokens line (byte_trees xs)) (drop_more content i 0 h)

pub bytes-none : (line content : List ℕ) (i : ℕ) → length content ≤ i → items_tokens line (byte_trees (drop i content)) ≡ []
bytes-none line [] zero h = refl
bytes-none line [] (suc i) h = refl
bytes-none line (byte ∷ content) zero h = absurd (omega (arith, h))
bytes-none line (byte ∷ content) (suc i) h = bytes-none line content i (omega (arith, h))

join-tokens : (line : List ℕ) (ms ns : Members) → members_tokens line (join ms ns) ≡ members_tokens line ms ++ members_tokens line ns
join-tokens line empty ns = refl
join-tokens line (member name t ms) ns =
    ap (λ xs. begins line ∷ plain (label line name) ∷ (tokens line t ++ xs)) (join-tokens line ms ns)
    ∙ ap (λ xs. begins line ∷ plain (label line name) ∷ xs) (sym (append_assoc (tokens line t) (members_tokens line ms) (members_tokens line ns)))

pub fields-split : (E : TableTree) (schema : Schema) (line : List ℕ) (table : Seen) (path : List ℕ) (fields : List FieldSchema) (i : ℕ) (field : FieldSchema) → i < length fields → field ≡ get_or fields i field
    → members_tokens line (fields_members E schema table path (drop i fields))
    ≡ members_tokens line (kind_members E schema field.required field.kind field.slot table (string_bytes field.name) (field_path path (field_label field))) ++ members_tokens line (fields_members E schema table path (drop (i + 1) fields))
fields-split E schema line table path fields i field h is =
    ap (λ xs. members_tokens line (fields_members E schema table path xs)) (drop_more fields i field h)
    ∙ join-tokens line _ _
    ∙ ap (λ (x : FieldSchema). members_tokens line (kind_members E schema x.required x.kind x.slot table (string_bytes x.name) (field_path path (field_label x))) ++ members_tokens line (fields_members E schema table path (drop (i + 1) fields))) (sym is)

pub fields-none : (E : TableTree) (schema : Schema) (line : List ℕ) (table : Seen) (path : List ℕ) (fields : List FieldSchema) (i : ℕ) → length fields ≤ i → members_tokens line (fields_members E schema table path (drop i fields)) ≡ []
fields-none E schema line table path [] zero h = refl
fields-none E schema line table path [] (suc i) h = refl
fields-none E schema line table path (field ∷ fields) zero h = absurd (omega (arith, h))
fields-none E schema line table path (field ∷ fields) (suc i) h = fields-none E schema line table path fields i (omega (arith, h))

pub one-member : (line name : List ℕ) (t : Tree) → members_tokens line (member name t empty) ≡ (begins line ∷ plain (label line name) ∷ []) ++ tokens line t
one-member line name t = ap (λ xs. begins line ∷ plain (label line name) ∷ xs) (append-nil (tokens line t))

module _ (line : List ℕ) (t : ℕ → Tree) (ts : ℕ → ℕ → Trees) (none : (i : ℕ) → ts zero i ≡ Trees.none) (more : (n i : ℕ) → ts (suc n) i ≡ Trees.item (t i) (ts n (i + 1))) where
  pub items-split : (n i : ℕ) → i < n → items_tokens line (ts (n - i) i) ≡ (begins line ∷ tokens line (t i)) ++ items_tokens line (ts (n - (i + 1)) (i + 1))
  items-split n i h = let e : n - i ≡ suc (n - (i + 1)) = omega (arith, h) in ap (λ k. items_tokens line (ts k i)) e ∙ ap (items_tokens line) (more (n - (i + 1)) i)

  pub items-none : (n i : ℕ) → n ≡ 0 → items_tokens line (ts n i) ≡ []
  items-none n i h = ap (λ k. items_tokens line (ts k i)) h ∙ ap (items_tokens line) (none i)

module _ (schema : Schema) where
  pub types-split : (line : List ℕ) (index : ℕ) (seen : SeenUnions) (n i : ℕ) → i < n
      → items_tokens line (types_trees schema index seen (n - i) i)
      ≡ (begins line ∷ tokens line (type_tree (slice_get schema.unions.items index) (slice_index seen.tags i))) ++ items_tokens line (types_trees schema index seen (n - (i + 1)) (i + 1))
  types-split line index seen = items-split line (λ i. type_tree (slice_get schema.unions.items index) (slice_index seen.tags i)) (types_trees schema index seen) (λ i. refl) (λ n i. refl)

  pub types-none : (line : List ℕ) (index : ℕ) (seen : SeenUnions) (n i : ℕ) → n ≡ 0 → items_tokens line (types_trees schema index seen n i) ≡ []
  types-none line index seen = items-none line (λ i. type_tree (slice_get schema.unions.items index) (slice_index seen.tags i)) (types_trees schema index seen) (λ i. refl) (λ n i. refl)

module _ (E : TableTree) (schema : Schema) where
  pub list-split : (line : List ℕ) (one : Item) (S path : List ℕ) (n i : ℕ) → i < n
      → items_tokens line (items_trees E one S path (n - i) i)
      ≡ (begins line ∷ tokens line (item_tree E one S (i * stride_of one) (item_path path i))) ++ items_tokens line (items_trees E one S path (n - (i + 1)) (i + 1))
  list-split line one S path = items-split line (λ i. item_tree E one S (i * stride_of one) (item_path path i)) (items_trees E one S path) (λ i. refl) (λ n i. refl)

  pub list-none : (line : List ℕ) (one : Item) (S path : List ℕ) (n i : ℕ) → n ≡ 0 → items_tokens line (items_trees E one S path n i) ≡ []
  list-none line one S path = items-none line (λ i. item_tree E one S (i * stride_of one) (item_path path i)) (items_trees E one S path) (λ i. refl) (λ n i. refl)

  pub unions-split : (line : List ℕ) (index : ℕ) (seen : SeenUnions) (path : List ℕ) (n i : ℕ) → i < n
      → items_tokens line (unions_trees E schema index seen path (n - i) i)
      ≡ (begins line ∷ tokens line (union_tree E schema (slice_get schema.unions.items index) (slice_index seen.tags i) seen.references (i * 4) (item_path path i))) ++ items_tokens line (unions_trees E schema index seen path (n - (i + 1)) (i + 1))
  unions-split line index seen path =
      items-split line (λ i. union_tree E schema (slice_get schema.unions.items index) (slice_index seen.tags i) seen.references (i * 4) (item_path path i)) (unions_trees E schema index seen path) (λ i. refl) (λ n i. refl)

  pub unions-none : (line : List ℕ) (index : ℕ) (seen : SeenUnions) (path : List ℕ) (n i : ℕ) → n ≡ 0 → items_tokens line (unions_trees E schema index seen path n i) ≡ []
  unions-none line index seen path =
      items-none line (λ i. union_tree E schema (slice_get schema.unions.items index) (slice_index seen.tags i) seen.references (i * 4) (item_path path i)) (unions_trees E schema index seen path) (λ i. refl) (λ n i. refl)

  pub tagged-at : (o : Option (Vec VariantSchema Global)) (seen : SeenUnions) (i : ℕ) (path : List ℕ) (tagged : TaggedPlace) → IsUnionIn seen.references (record { tag = slice_index seen.tags i; offset = i * 4 }) tagged
      → union_tree E schema o (slice_index seen.tags i) seen.references (i * 4) path ≡ union_tree E schema o (tagged_tag tagged) (place_bytes (tagged_place tagged)) (place_offset (tagged_place tagged)) path
  tagged-at o seen i path tagged is =
      sym (ap (λ k. union_tree E schema o k (place_bytes (tagged_place tagged)) (place_offset (tagged_place tagged)) path) is.tag
      ∙ ap (λ xs. union_tree E schema o (slice_index seen.tags i) xs (place_offset (tagged_place tagged)) path) is.bytes
      ∙ ap (λ k. union_tree E schema o (slice_index seen.tags i) seen.references k path) is.offset)

  pub list-read : (one : Item) (S : List ℕ) (f stride : ℕ) (path : List ℕ) (seen : SeenItems) → Ok seen ≡ vector_at stride S f → stride ≡ stride_of one
      → list_tree E one path (vector_at (stride_of one) S f) ≡ list (items_trees E one seen.bytes path seen.count 0)
  list-read one S f stride path seen read is = ap (list_tree E one path) (sym (read ∙ ap (λ n. vector_at n S f) is))

  pub placed-item : (line : List ℕ) (one : Item) (S xs path : List ℕ) (i stride n : ℕ) → xs ≡ S → n ≡ i * stride → stride ≡ stride_of one
      → begins line ∷ tokens line (item_tree E one S (i * stride_of one) path) ≡ begins line ∷ tokens line (item_tree E one xs n path)
  placed-item line one S xs path i stride n same at is =
      sym (ap (λ bytes. begins line ∷ tokens line (item_tree E one bytes n path)) same ∙ ap (λ k. begins line ∷ tokens line (item_tree E one S k path)) (at ∙ ap (λ k. i * k) is))
