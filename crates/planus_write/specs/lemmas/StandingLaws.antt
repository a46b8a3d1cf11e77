-- Stored values, and finishes.
use Rattle.std.proofs.Common.{◌≡◌, ℕ, List, ◌+◌, ◌-◌, ◌≤◌, ◌++◌, length, take, drop, replicate, sym}
use Rattle.std.proofs.Common.{ap, ◌∙◌, subst, arith, Some, append_assoc}
use Rattle.std.specs.Int.{w32, to_le_bytes}
use Rattle.std.proofs.Math.Seq.{take-append_seam}
use Rattle.planus_back.specs.Parts.{Part}
use Rattle.planus_read.specs.Bytes.{Num}
use Rattle.planus_read.specs.Values as value
use Rattle.planus_write.specs.Shared.{texts, byte_lists}
use Rattle.planus_write.specs.Parts.{text_part, byte_list_part, finish_part, identifier_bytes}
use Rattle.planus_write.specs.Parts.{sized_finish_part}
use Rattle.planus_write.specs.Items.{plain_item, reference_item}
use Rattle.planus_write.specs.Standing.{ValuesAreKept, FinishesLead, FinishesAreIdentified}
use Rattle.planus_write.specs.Standing.{SizedFinishesStand}
use Rattle.planus_write.specs.lemmas.PartBytes.{length_after, finish_size, sized_finish_size}
use Rattle.planus_write.specs.lemmas.PartBytes.{front_number, second_number}
use Rattle.planus_write.specs.lemmas.KeptContents.{contents_kept, new_texts, new_byte_lists}
use Rattle.planus_write.specs.lemmas.KeptContents.{apart_kept}
use Rattle.planus_write.specs.lemmas.KeptLists.{list_kept, plain_items, reference_items}
use Rattle.planus_write.specs.lemmas.KeptTables.{table_kept}
use Rattle.planus_write.specs.lemmas.KeptUnions.{union_vector_kept}

pub values_are_kept : ValuesAreKept
values_are_kept settings (value.text content) before got after written all puts =
    contents_kept texts text_part new_texts settings content before got after all puts
values_are_kept settings (value.byte_list content) before got after written all puts =
    contents_kept byte_lists byte_list_part new_byte_lists settings content before got after all
    puts
values_are_kept settings (value.plain_list size alignment items) before got after written all puts =
    list_kept plain_item size alignment items (value.plain_list size alignment items) settings
    before got after
    (plain_items size alignment (length before.written.bytes) items written) all puts
values_are_kept settings (value.reference_list distances) before got after written all puts =
    list_kept reference_item 4 4 distances (value.reference_list distances) settings before got
    after
    (reference_items (length before.written.bytes) distances written) all puts
values_are_kept settings (value.union_vector items) before got after written all puts =
    union_vector_kept settings items before got after written all puts
values_are_kept settings (value.table entries) before got after written all puts =
    table_kept entries settings before got after written all puts
values_are_kept settings (value.apart item) before got after written all puts =
    apart_kept item settings before got after all puts

pub finishes_lead : FinishesLead
finishes_lead root identifier before after inside placed =
    let part : Part = finish_part root identifier before.promises in
    let at_end : length after.bytes ≡ placed.place =
    length_after part before after placed (finish_size root identifier before placed.place) in
    let fits : placed.place ≤ 2147483647 = placed.fits in
    let is_place : placed.place
    ≡ length before.bytes + placed.padding + (length (identifier_bytes identifier) + 4) =
    placed.is_place in
    let word : Num after.bytes 0 w32 ≡ Some (placed.place - root)
    = subst (λ B. Num B 0 w32 ≡ Some (placed.place - root)) (sym placed.bytes)
    (front_number (placed.place - root)
    ((identifier_bytes identifier ++ replicate placed.padding 0) ++ before.bytes)
    (omega (arith, fits))) in
    (placed.place - root, word, omega (arith, at_end, is_place, inside))

pub finishes_are_identified : FinishesAreIdentified
finishes_are_identified root identifier before after placed =
    subst (λ B. take (length (identifier_bytes identifier)) (drop 4 B)
    ≡ identifier_bytes identifier) (sym placed.bytes)
    (ap (take (length (identifier_bytes identifier)))
    (append_assoc (identifier_bytes identifier) (replicate placed.padding 0) before.bytes)
    ∙ take-append_seam (identifier_bytes identifier) (replicate placed.padding 0 ++ before.bytes))

pub sized_finishes_stand : SizedFinishesStand
sized_finishes_stand root identifier before after placed =
    let part : Part = sized_finish_part root identifier before.promises in
    let x : ℕ = placed.place in
    let behind : List ℕ =
    (identifier_bytes identifier ++ replicate placed.padding 0) ++ before.bytes in
    let words : List ℕ = to_le_bytes w32 (x - 4 - root) ++ behind in
    let are : after.bytes ≡ to_le_bytes w32 (x - 4) ++ words = placed.bytes in
    let at_end : length after.bytes ≡ x =
    length_after part before after placed (sized_finish_size root identifier before x) in
    let fits : x ≤ 2147483647 = placed.fits in
    let is_place : x
    ≡ length before.bytes + placed.padding + (length (identifier_bytes identifier) + 8) =
    placed.is_place in
    record {
      size = subst (λ B. Num B 0 w32 ≡ Some (length (drop 4 B))) (sym are)
          (front_number (x - 4) words (omega (arith, fits))
          ∙ ap Some (let e : x - 4 ≡ length words =
          omega (arith, at_end, ap length are, is_place) in e));
      leads = λ inside. (
        x - 4 - root,
        subst (λ B. Num B 4 w32 ≡ Some (x - 4 - root)) (sym are)
            (second_number (x - 4) (x - 4 - root) behind (omega (arith, fits))),
        omega (arith, at_end, is_place, inside),
      );
      identified =
          subst (λ B. take (length (identifier_bytes identifier)) (drop 8 B)
          ≡ identifier_bytes identifier) (sym are)
          (ap (take (length (identifier_bytes identifier)))
          (append_assoc (identifier_bytes identifier) (replicate placed.padding 0) before.bytes)
          ∙ take-append_seam (identifier_bytes identifier)
          (replicate placed.padding 0 ++ before.bytes));
    }
