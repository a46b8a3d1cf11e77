-- The laws of a struct, and of a vector, whose bytes a script gives.
use Rattle.std.specs.Prelude.{ℕ, List, length, ⊤}
use Rattle.planus_read.specs.Plain.{IsLayout}
use Rattle.planus_read.specs.Values.{Plain}
use Rattle.planus_write.specs.Parts.{apart_entry}
use Rattle.planus_write.specs.Items.{plain_item}
use Rattle.planus_write.specs.Preparing.{IsLawful, WritesApart, Answers, WritesList}
use Rattle.planus_write.specs.declared.offset.Offset.{Offset}
use Rattle.planus_write.specs.lemmas.Laws.{entry_is_lawful}
use Rattle.planus_write.specs.lemmas.ListLaws.{list_is_lawful, numbers_are_lawful}

pub struct_bytes_are_lawful : {X T : Type 0} (item_of : X → Plain)
    → IsLawful {A = Offset T} (λ x old. IsLayout (length (item_of x).bytes) (item_of x).alignment)
    (λ x old answer new. WritesApart (item_of x) old answer new) (λ offset. offset.distance)
struct_bytes_are_lawful {X} {T} item_of =
    let lawful = entry_is_lawful {X = X} {T = T} (λ x. apart_entry (item_of x)) in
    record {
      grows = λ x old answer new may. lawful.grows x old answer new tt;
      reaches = λ x old answer new may. lawful.reaches x old answer new tt;
      stays = λ x old new grows may. may;
    }

pub plain_items_are_lawful : {X T : Type 0} (size_of alignment_of : X → ℕ) (items_in : X → List (List ℕ))
    → IsLawful {A = Offset T} (λ (x : X) old. ⊤)
    (λ x old answer new. WritesList Answers plain_item (size_of x) (alignment_of x) (items_in x) old answer new)
    (λ offset. offset.distance)
plain_items_are_lawful {X} {T} size_of alignment_of items_in = record {
  grows = λ x old answer new may. (by_item x).grows x old answer new may;
  reaches = λ x old answer new may. (by_item x).reaches x old answer new may;
  stays = λ x old new grows may. may;
}
  where
    by_item : (of : X) → IsLawful {A = Offset T} (λ (x : X) old. ⊤)
        (λ x old answer new. WritesList Answers plain_item (size_of of) (alignment_of of) (items_in x) old answer new) (λ offset. offset.distance)
    by_item of = list_is_lawful (size_of of) (alignment_of of) items_in numbers_are_lawful
