-- The distances of what is named, by its kind.
use Rattle.std.proofs.Common.{◌≡◌, ℕ, ◌≤◌, List, refl, sym, ap, ◌∙◌, subst, map, Option, Some, None}
use Rattle.std.proofs.Common.{Bool, true, false}
use Rattle.std.specs.Prelude.{if◌then◌else◌}
use Rattle.std.specs.Int.{Width, byte_len, to_le_bytes}
use Rattle.std.specs.List.{list_all}
use Rattle.std.specs.Option.{is_none, option_map, option_and_then}
use Rattle.planus_read.specs.Values as value
use Rattle.planus_read.specs.Values.{Value}
use Rattle.planus_write.specs.Parts.{Named, named_by}
use Rattle.planus_write.specs.Kept.{TagsReached}
use Rattle.planus.specs.Steps.{Step, text, bytes, numbers, refs, unions, struct, plains, table, finish, clear}
use Rattle.planus.specs.Kinds.{StepKind, a_value, a_union_vector, kind_of, kind_by_tags, kind_named}
use Rattle.planus.specs.inner.Names.{IsReached}
use Rattle.planus.specs.Runs.{Listed, named_at, value_distance, tags_distance, references_distance}
use Rattle.planus.specs.Runs.{distance_at, value_at, union_of, all_of, width_of, fits_width}
use Rattle.planus.specs.Runs.{numbers_value, value_of}
use Rattle.planus.specs.Runs.{struct_width, struct_of, table_of}
use Rattle.planus.specs.declared.replaying.faults.Why.{Why}
use Rattle.planus.proofs.Structs.{plains_made}
use Rattle.planus.proofs.Lists.{made_after, made_of}

value_kind : (named : Named) (distance : ℕ) → value_distance named ≡ Some distance → kind_named named ≡ a_value
value_kind named distance e = by_tags named.tags e
  where
    by_tags : (tags : Option ℕ) → (if is_none tags then Some named.distance else None) ≡ Some distance → kind_by_tags tags ≡ a_value
    by_tags None e = refl
    by_tags (Some tags) e = (cc)

tags_kind : (named : Named) (distance : ℕ) → tags_distance named ≡ Some distance → kind_named named ≡ a_union_vector
tags_kind named distance e = by_tags named.tags e
  where
    by_tags : (tags : Option ℕ) → tags ≡ Some distance → kind_by_tags tags ≡ a_union_vector
    by_tags None e = (cc)
    by_tags (Some tags) e = refl

references_kind : (named : Named) (distance : ℕ) → references_distance named ≡ Some distance → kind_named named ≡ a_union_vector
references_kind named distance e = by_tags named.tags e
  where
    by_tags : (tags : Option ℕ) → option_map (λ tags. named.distance) tags ≡ Some distance → kind_by_tags tags ≡ a_union_vector
    by_tags None e = (cc)
    by_tags (Some tags) e = refl

kind_value : (named : Named) → kind_named named ≡ a_value → (distance : ℕ) × (value_distance named ≡ Some distance)
kind_value named e = by_tags named.tags e
  where
    by_tags : (tags : Option ℕ) → kind_by_tags tags ≡ a_value → (distance : ℕ) × ((if is_none tags then Some named.distance else None) ≡ Some distance)
    by_tags None e = (named.distance, refl)
    by_tags (Some tags) e = (cc)

kind_tags : (named : Named) → kind_named named ≡ a_union_vector → (distance : ℕ) × (tags_distance named ≡ Some distance)
kind_tags named e = by_tags named.tags e
  where
    by_tags : (tags : Option ℕ) → kind_by_tags tags ≡ a_union_vector → (distance : ℕ) × (tags ≡ Some distance)
    by_tags None e = (cc)
    by_tags (Some tags) e = (tags, refl)

kind_references : (named : Named) → kind_named named ≡ a_union_vector → (distance : ℕ) × (references_distance named ≡ Some distance)
kind_references named e = by_tags named.tags e
  where
    by_tags : (tags : Option ℕ) → kind_by_tags tags ≡ a_union_vector → (distance : ℕ) × (option_map (λ tags. named.distance) tags ≡ Some distance)
    by_tags None e = (cc)
    by_tags (Some tags) e = (named.distance, refl)

abbrev pub NamedAreGood : List Listed → (StepKind → ℕ → Option Why) → Type 0
NamedAreGood listed fault = (step : ℕ) (named : Named) → named_at listed step ≡ Some named → fault (kind_named named) step ≡ None

module _ (listed : List Listed) (fault : StepKind → ℕ → Option Why) (good : NamedAreGood listed fault) where
  good_as : (kind : StepKind) (which : Named → Option ℕ) → ((named : Named) (distance : ℕ) → which named ≡ Some distance → kind_named named ≡ kind)
      → (step distance : ℕ) → distance_at which listed step ≡ Some distance → fault kind step ≡ None
  good_as kind which is_kind step distance e =
      let made = made_after which (named_at listed step) distance e in
      subst (λ k. fault k step ≡ None) (is_kind made.0 distance made.2) (good step made.0 made.1)

  pub value_good : (step distance : ℕ) → value_at listed step ≡ Some distance → fault a_value step ≡ None
  value_good = good_as a_value value_distance value_kind

  pub tags_good : (step distance : ℕ) → distance_at tags_distance listed step ≡ Some distance → fault a_union_vector step ≡ None
  tags_good = good_as a_union_vector tags_distance tags_kind

  pub references_good : (step distance : ℕ) → distance_at references_distance listed step ≡ Some distance → fault a_union_vector step ≡ None
  references_good = good_as a_union_vector references_distance references_kind

abbrev pub GoodAreNamed : List Listed → (StepKind → ℕ → Option Why) → Type 0
GoodAreNamed listed fault = (kind : StepKind) (step : ℕ) → fault kind step ≡ None → (named : Named) × (named_at listed step ≡ Some named) × (kind_named named ≡ kind)

module _ (listed : List Listed) (fault : StepKind → ℕ → Option Why) (good : GoodAreNamed listed fault) where
  named_as : (kind : StepKind) (which : Named → Option ℕ) → ((named : Named) → kind_named named ≡ kind → (distance : ℕ) × (which named ≡ Some distance))
      → (step : ℕ) → fault kind step ≡ None → (distance : ℕ) × (distance_at which listed step ≡ Some distance)
  named_as kind which has step e =
      let of = good kind step e in
      let distance = has of.0 of.2 in
      (distance.0, ap (option_and_then which) of.1 ∙ distance.1)

  pub good_value : (step : ℕ) → fault a_value step ≡ None → (distance : ℕ) × (value_at listed step ≡ Some distance)
  good_value = named_as a_value value_distance kind_value

  pub good_tags : (step : ℕ) → fault a_union_vector step ≡ None → (distance : ℕ) × (distance_at tags_distance listed step ≡ Some distance)
  good_tags = named_as a_union_vector tags_distance kind_tags

  pub good_references : (step : ℕ) → fault a_union_vector step ≡ None → (distance : ℕ) × (distance_at references_distance listed step ≡ Some distance)
  good_references = named_as a_union_vector references_distance kind_references

pub value_reached : (n : ℕ) (named : Named) (distance : ℕ) → IsReached n named → value_distance named ≡ Some distance → distance ≤ n
value_reached n named distance reached e = by_tags named.tags e
  where
    by_tags : (tags : Option ℕ) → (if is_none tags then Some named.distance else None) ≡ Some distance → distance ≤ n
    by_tags None e = let same : named.distance ≡ distance = cc in subst (λ d. d ≤ n) same reached.distance
    by_tags (Some tags) e = (cc)

pub tags_reached : (n : ℕ) (named : Named) (distance : ℕ) → IsReached n named → tags_distance named ≡ Some distance → distance ≤ n
tags_reached n named distance reached e = by_tags named.tags reached.tags e
  where
    by_tags : (tags : Option ℕ) → TagsReached n tags → tags ≡ Some distance → distance ≤ n
    by_tags None le e = (cc)
    by_tags (Some tags) le e = let same : tags ≡ distance = cc in subst (λ d. d ≤ n) same le

pub references_reached : (n : ℕ) (named : Named) (distance : ℕ) → IsReached n named → references_distance named ≡ Some distance → distance ≤ n
references_reached n named distance reached e = by_tags named.tags e
  where
    by_tags : (tags : Option ℕ) → option_map (λ tags. named.distance) tags ≡ Some distance → distance ≤ n
    by_tags None e = (cc)
    by_tags (Some tags) e = let same : named.distance ≡ distance = cc in subst (λ d. d ≤ n) same reached.distance

numbers_kind : (width : Option Width) (items : List ℕ) (v : Value) (got : List ℕ) → numbers_value width items ≡ Some v → kind_named (named_by v got) ≡ a_value
numbers_kind None items v got e = (cc)
numbers_kind (Some width) items v got e = by_test (list_all (fits_width width) items) e
  where
    by_test : (fit : Bool) → (if fit then Some (value.plain_list (byte_len width) (byte_len width) (map (to_le_bytes width) items)) else None) ≡ Some v → kind_named (named_by v got) ≡ a_value
    by_test true e =
        let same : value.plain_list (byte_len width) (byte_len width) (map (to_le_bytes width) items) ≡ v = cc in
        subst (λ w. kind_named (named_by w got) ≡ a_value) same refl
    by_test false e = (cc)

pub kind_written : (listed : List Listed) (step : Step) (v : Value) (got : List ℕ) → value_of listed step ≡ Some v → kind_of step ≡ Some (kind_named (named_by v got))
kind_written listed (text content) v got e =
    let same : value.text content ≡ v = cc in
    subst (λ w. Some a_value ≡ Some (kind_named (named_by w got))) same refl
kind_written listed (bytes content) v got e =
    let same : value.byte_list content ≡ v = cc in
    subst (λ w. Some a_value ≡ Some (kind_named (named_by w got))) same refl
kind_written listed (numbers width items) v got e = ap (λ (k : StepKind). Some k) (sym (numbers_kind (width_of width) items v got e))
kind_written listed (refs steps) v got e =
    let made = made_of value.reference_list (all_of (value_at listed) steps) v e in
    subst (λ w. Some a_value ≡ Some (kind_named (named_by w got))) made.2 refl
kind_written listed (unions items) v got e =
    let made = made_of value.union_vector (all_of (union_of listed) items) v e in
    subst (λ w. Some a_union_vector ≡ Some (kind_named (named_by w got))) made.2 refl
kind_written listed (struct alignment content) v got e =
    let made = made_of value.apart (struct_of (struct_width alignment) content) v e in
    subst (λ w. Some a_value ≡ Some (kind_named (named_by w got))) made.2 refl
kind_written listed (plains alignment size content) v got e =
    let made = plains_made (struct_width alignment) size content v e in
    subst (λ w. Some a_value ≡ Some (kind_named (named_by w got))) made.same refl
kind_written listed (table fields) v got e =
    let made = made_of value.table (table_of listed fields) v e in
    subst (λ w. Some a_value ≡ Some (kind_named (named_by w got))) made.2 refl
kind_written listed (finish front root identifier) v got e = (cc)
kind_written listed clear v got e = (cc)
