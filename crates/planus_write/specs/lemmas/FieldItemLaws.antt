-- Which fields of the format are written in place.
use Rattle.std.specs.Prelude.{◌≡◌, ℕ, ◌<◌, List, length, replicate}
use Rattle.std.specs.Int.{◌∣◌}
use Rattle.std.proofs.lemmas.List.{length-replicate}
use Rattle.std.proofs.Common.{refl, subst, sym}
use Rattle.planus_read.specs.Values.{plain, reference, tags as tags_field}
use Rattle.planus_read.specs.Values.{values as values_field}
use Rattle.planus_write.specs.Items.{plain_item, reference_item}
use Rattle.planus_read.specs.Plain.{IsLayout}
use Rattle.planus_write.specs.FieldItems.{IsItem}

pub plain_is_item : (size alignment : ℕ) (bytes : List ℕ) → length bytes ≡ size
    → IsLayout size alignment
    → IsItem size alignment (plain_item bytes) 0
    (plain (record { bytes = bytes; alignment = alignment }))
plain_is_item size alignment bytes sized layout = record {
  size_is = sized;
  alignment_is = refl;
  encoding_is = refl;
  stands = λ before reached. (
    subst (λ n. 0 < n) (sym sized) layout.positive,
    subst (λ n. alignment ∣ n) (sym sized) layout.multiple,
    (layout.power.0, layout.power.2),
  );
}

pub zeros_are_item : (size alignment : ℕ) → IsLayout size alignment
    → IsItem size alignment (plain_item (replicate size 0)) 0
    (plain (record { bytes = replicate size 0; alignment = alignment }))
zeros_are_item size alignment layout =
    plain_is_item size alignment (replicate size 0) (length-replicate size 0) layout

pub reference_is_item : (distance : ℕ)
    → IsItem 4 4 (reference_item distance) distance (reference distance)
reference_is_item distance = record {
  size_is = refl;
  alignment_is = refl;
  encoding_is = refl;
  stands = λ before reached. reached;
}

pub tags_are_item : (distance : ℕ)
    → IsItem 4 4 (reference_item distance) distance (tags_field distance)
tags_are_item distance = record {
  size_is = refl;
  alignment_is = refl;
  encoding_is = refl;
  stands = λ before reached. reached;
}

pub values_are_item : (distance : ℕ)
    → IsItem 4 4 (reference_item distance) distance (values_field distance)
values_are_item distance = record {
  size_is = refl;
  alignment_is = refl;
  encoding_is = refl;
  stands = λ before reached. reached;
}
