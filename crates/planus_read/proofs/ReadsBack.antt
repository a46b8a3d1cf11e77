-- An encoded value reads back.
use Rattle.std.proofs.Common.{◌≡◌, ℕ, ◌+◌, ◌-◌, ◌*◌, ◌≤◌, ◌-ℤ◌, ◌==◌, not, pos, List, [], ◌∷◌}
use Rattle.std.proofs.Common.{length, map, take, drop, refl, sym, ap, ◌∙◌, subst, arith, Some}
use Rattle.std.proofs.Common.{length-drop}
use Rattle.std.proofs.Common.{Result, Ok, Err}
use Rattle.std.proofs.lemmas.List.{drop-drop}
use Rattle.std.specs.Option.{option_map}
use Rattle.std.specs.Prelude.{IsOkAnd}
use Rattle.std.specs.Str.{IsUtf8}
use Rattle.std.specs.Int.{w8, w32, byte_len, from_le_bytes, cast_signed}
use Rattle.planus_read.specs.declared.errors.ErrorKind.{ErrorKind}
use Rattle.planus_read.specs.declared.place.Place.{Place}
use Rattle.planus_read.specs.declared.table_reader.Table.{Table}
use Rattle.planus_read.specs.Bytes.{Num, BytesStand, position_of}
use Rattle.planus_read.specs.Clauses.{Answer, shown}
use Rattle.planus_read.specs.Values.{Value, text, byte_list, plain_list, reference_list, union_vector}
use Rattle.planus_read.specs.Values.{table, Field, plain, reference, tags, values, field_at}
use Rattle.planus_read.specs.Values.{vtable_size, apart}
use Rattle.planus_read.specs.Stands.{at, at_both, Stands, ReferenceStands, TableStands, ApartStands}
use Rattle.planus_read.specs.Places.{IsPlace, LeadsOn, place_offset, tagged_place}
use Rattle.planus_read.specs.Reading.{Leads, Items, UnionItems, TableLayout, text_reading}
use Rattle.planus_read.specs.Reading.{byte_list_reading, table_reading}
use Rattle.planus_read.specs.ReadingLaws.{IsAnswered}
use Rattle.planus_read.specs.Tables.{Slot, ShowsTable}
use Rattle.planus_read.specs.TableReading.{SlotReads, HasFields}
use Rattle.planus_read.specs.ReadsBack.{PlainReads, ReferenceReads, FieldsReadBack, ListReads}
use Rattle.planus_read.specs.ReadsBack.{UnionVectorReads, TableReads, ApartReads, WhatStandsReadsBack}
use Rattle.planus_read.proofs.ReadingLaws.{lawful_number, lawful_signed, lawful_truth, lawful_text}
use Rattle.planus_read.proofs.ReadingLaws.{lawful_byte_list, lawful_vector, lawful_union_vector}
use Rattle.planus_read.proofs.ReadingLaws.{lawful_table, lawful_plain_ref}
use Rattle.planus_read.proofs.Reading.{num_inside, number_of_signed}
use Rattle.planus_read.proofs.SliceLaws.{references_lead, num_in_slice, leads_in_slices}
use Rattle.planus_read.proofs.SliceLaws.{bytes_in_slice, stands_in_slices}
use Rattle.planus_read.proofs.ListItems.{num_of_bytes, plain_lists_read, reference_lists_read}
use Rattle.planus_read.proofs.ListItems.{union_vectors_stand_read, plain_items_stand, reference_items_stand}
use Rattle.planus_read.proofs.ListItems.{union_items_stand}
use Rattle.planus_read.proofs.TableReading.{table_there, any_slot_reads, table_slot_bytes}
use Rattle.planus_read.proofs.TableReading.{slot_reads_whole}

plain_reads : (S : List ℕ) (f : ℕ) (bytes : List ℕ) → BytesStand S f bytes → PlainReads S f bytes
plain_reads S f bytes h =
    record {
      stands = h;
      number = λ width long. (lawful_number S f width).answered (from_le_bytes width bytes)
          (num_of_bytes S f width bytes long h);
      signed = λ width long. (lawful_signed S f width).answered
          (cast_signed width (from_le_bytes width bytes))
          (ap (option_map (cast_signed width)) (num_of_bytes S f width bytes long h));
      truth = λ byte e.
          let one : BytesStand S f (byte ∷ []) = subst (BytesStand S f) e h in
          (lawful_truth S f).answered (not (byte == 0))
          (ap (option_map (λ n. not (n == 0))) (num_of_bytes S f w8 (byte ∷ []) refl one));
    }

leads_on :
    (B : List ℕ) (start f distance : ℕ) → ReferenceStands B (start + f) distance → (place : Place)
    → IsPlace (drop start B) start f place → LeadsOn B (position_of B distance) place
leads_on B start f distance h place is =
    record {
      slice = is.bytes ∙ ap (λ s. drop s B) (sym is.begin);
      leads = subst (λ s. Leads B (s + place_offset place) (position_of B distance)) (sym is.begin)
          (subst (λ o. Leads B (start + o) (position_of B distance)) (sym is.offset)
          (references_lead B (start + f) distance h));
    }

reference_reads :
    (B : List ℕ) (start f distance : ℕ) → ReferenceStands B (start + f) distance
    → ReferenceReads B start f distance
reference_reads B start f distance h =
    record {
      leads = references_lead B (start + f) distance h;
      place = leads_on B start f distance h;
      tagged = λ tag tagged is. record {
        tag_is = is.tag_is;
        leads_on = leads_on B start f distance h (tagged_place tagged) is.place_is;
      };
    }

pub fields_read_back : FieldsReadBack
fields_read_back B start f (plain item) h = plain_reads (drop start B) f item.bytes
    (bytes_in_slice B start f item.bytes h)
fields_read_back B start f (reference distance) h = reference_reads B start f distance h
fields_read_back B start f (tags distance) h = reference_reads B start f distance h
fields_read_back B start f (values distance) h = reference_reads B start f distance h

record InSlice (B : List ℕ) (start f k : ℕ) : Type 0 where
  inside : start ≤ length B
  whole : k ≡ start + (k - start)
  leads : Leads (drop start B) f (k - start)

in_slice : (B : List ℕ) (start f k : ℕ) → Leads B (start + f) k → InSlice B start f k
in_slice B start f k h =
    let here : start + f + byte_len w32 ≤ length B = num_inside B (start + f) w32 h.0 h.1 in
    let to : k ≡ start + f + h.0 = h.2 in
    let whole : k ≡ start + (k - start) = omega arith in
    record {
      inside = omega arith;
      whole = whole;
      leads = leads_in_slices B start f (k - start) (subst (Leads B (start + f)) whole h);
    }

stands_here :
    (B : List ℕ) (start f k : ℕ) (v : Value) → InSlice B start f k → Stands B (at k) v
    → Stands (drop start B) (at (k - start)) v
stands_here B start f k v here h =
    stands_in_slices B start (at (k - start)) v here.inside
    (subst (λ n. Stands B (at n) v) here.whole h)

text_reads :
    (B : List ℕ) (k : ℕ) (bytes : List ℕ) → IsUtf8 bytes → Stands B (at k) (text bytes)
    → (start f : ℕ) → Leads B (start + f) k → IsAnswered (text_reading (drop start B) f) bytes
text_reads B k bytes utf8 h start f to =
    let here : InSlice B start f k = in_slice B start f k to in
    (lawful_text (drop start B) f).answered bytes
    (k - start, here.leads, stands_here B start f k (text bytes) here h, utf8)

byte_list_reads :
    (B : List ℕ) (k : ℕ) (bytes : List ℕ) → Stands B (at k) (byte_list bytes) → (start f : ℕ)
    → Leads B (start + f) k → IsAnswered (byte_list_reading (drop start B) f) bytes
byte_list_reads B k bytes h start f to =
    let here : InSlice B start f k = in_slice B start f k to in
    (lawful_byte_list (drop start B) f).answered bytes
    (k - start, here.leads, stands_here B start f k (byte_list bytes) here h)

plain_list_reads :
    (B : List ℕ) (k size alignment : ℕ) (items : List (List ℕ))
    → Stands B (at k) (plain_list size alignment items) → (start f : ℕ) → Leads B (start + f) k
    → ListReads (λ s f item. PlainReads (drop s B) f item) B k start f size items
plain_list_reads B k size alignment items h start f to =
    let here : InSlice B start f k = in_slice B start f k to in
    let vector : Items = record { position = k - start + 4; count = length items } in
    record {
      position = k - start + 4;
      first = omega (arith, here.whole);
      vector = (lawful_vector (drop start B) f size).answered vector
          (plain_lists_read (drop start B) f (k - start) size alignment items here.leads
          (stands_here B start f k (plain_list size alignment items) here h));
      each = λ i item e. plain_reads (drop (k + 4) B) (i * size) item
          (bytes_in_slice B (k + 4) (i * size) item
          (plain_items_stand B k size alignment items h i item e).1);
    }

reference_list_reads :
    (B : List ℕ) (k : ℕ) (distances : List ℕ) → Stands B (at k) (reference_list distances)
    → (start f : ℕ) → Leads B (start + f) k → ListReads (ReferenceReads B) B k start f 4 distances
reference_list_reads B k distances h start f to =
    let here : InSlice B start f k = in_slice B start f k to in
    let vector : Items = record { position = k - start + 4; count = length distances } in
    record {
      position = k - start + 4;
      first = omega (arith, here.whole);
      vector = (lawful_vector (drop start B) f 4).answered vector
          (reference_lists_read (drop start B) f (k - start) distances here.leads
          (stands_here B start f k (reference_list distances) here h));
      each = λ i distance e. reference_reads B (k + 4) (i * 4) distance
          (reference_items_stand B k distances h i distance e);
    }

union_vector_reads :
    (B : List ℕ) (kt kv : ℕ) (items : List (ℕ × ℕ)) → Stands B (at_both kt kv) (union_vector items)
    → (start f g : ℕ) → Leads B (start + f) kt → Leads B (start + g) kv
    → UnionVectorReads B kt kv start f g items
union_vector_reads B kt kv items h start f g to_tags to_references =
    let tags_here : InSlice B start f kt = in_slice B start f kt to_tags in
    let references_here : InSlice B start g kv = in_slice B start g kv to_references in
    let vector : UnionItems = record {
      tags = kt - start + 4;
      references = kv - start + 4;
      count = length items;
    } in
    let moved_there : Stands B (at_both (start + (kt - start)) (start + (kv - start)))
    (union_vector items) =
    subst (λ n. Stands B (at_both n (start + (kv - start))) (union_vector items)) tags_here.whole
    (subst (λ n. Stands B (at_both kt n) (union_vector items)) references_here.whole h) in
    let count_inside : kt + byte_len w32 ≤ length B =
    num_inside B kt w32 (length (map (λ item. item.0) items)) h.0.0 in
    record {
      tags_position = kt - start + 4;
      references_position = kv - start + 4;
      first_tag = omega (arith, tags_here.whole);
      first_reference = omega (arith, references_here.whole);
      vector = (lawful_union_vector (drop start B) f g).answered vector
          (union_vectors_stand_read (drop start B) f g (kt - start)
          (kv - start) items tags_here.leads references_here.leads
          (stands_in_slices B start (at_both (kt - start) (kv - start))
          (union_vector items) tags_here.inside moved_there));
      each_tag = λ i item e. (lawful_number (drop (kt + 4) B) i w8).answered item.0
          (sym (num_in_slice B (kt + 4) i w8 count_inside)
          ∙ (union_items_stand B kt kv items h i item e).0);
      each_reference = λ i item e. reference_reads B (kv + 4) (i * 4) item.1
          (union_items_stand B kt kv items h i item e).1;
    }

table_reads :
    (B : List ℕ) (k : ℕ) (entries : List (ℕ × Field)) → Stands B (at k) (table entries)
    → (start f : ℕ) → Leads B (start + f) k → TableReads B k start f entries
table_reads B k entries h start f to = record {
  layout = layout;
  answered = answered;
  fields = fields;
}
  where
    here : InSlice B start f k
    here = in_slice B start f k to

    stands : TableStands (drop start B) (k - start) entries
    stands = stands_here B start f k (table entries) here h

    layout : TableLayout
    layout = record { object = k - start; vtable = stands.vtable; size = vtable_size entries }

    answered : IsAnswered (table_reading (drop start B) f) layout
    answered = (lawful_table (drop start B) f).answered layout
        (table_there (drop start B) f (k - start) entries here.leads stands)

    inside : k + 4 ≤ length B
    inside =
        let word : (n : ℕ) × (Num B k w32 ≡ Some n) = number_of_signed (Num B k w32)
        (pos k -ℤ pos h.vtable) h.word in
        num_inside B k w32 word.0 word.1

    has_fields : (t : Table) → ShowsTable (drop start B) start layout t → HasFields B k entries t
    has_fields t shows =
        record {
          object = shows.object_bytes ∙ drop-drop (k - start) start B
              ∙ ap (λ n. drop n B) (sym here.whole);
          begin = shows.object_start ∙ sym here.whole;
          inside = inside;
          slot_bytes = ap length shows.slots
              ∙ table_slot_bytes (drop start B) (k - start) entries stands;
          slots = λ i.
              subst (λ V. SlotReads B k (Slot V i) (field_at entries i)) (sym shows.slots)
              (subst (λ n. SlotReads B n
              (Slot (drop 4 (take (vtable_size entries) (drop stands.vtable (drop start B)))) i)
              (field_at entries i)) (sym here.whole)
              (slot_reads_whole B start (k - start)
              (Slot (drop 4 (take (vtable_size entries) (drop stands.vtable (drop start B)))) i)
              (field_at entries i) here.inside
              (any_slot_reads (drop start B) (k - start) entries stands i)));
        }

    fields : (r : Result Table ErrorKind)
        → Answer (shown (ShowsTable (drop start B) start) (table_reading (drop start B) f)) r
        → IsOkAnd r (HasFields B k entries)
    fields (Ok t) it = has_fields t (subst (λ p. ShowsTable (drop start B) start p t)
        (answered.alone it.0 it.1) it.2)
    fields (Err e) it = absurd ((lawful_table (drop start B) f).nothing e it layout answered.there)

apart_reads :
    (B : List ℕ) (k : ℕ) (bytes : List ℕ) → ApartStands B k bytes → (start f : ℕ)
    → Leads B (start + f) k → ApartReads B k start f bytes
apart_reads B k bytes h start f to =
    let here : InSlice B start f k = in_slice B start f k to in
    record {
      position = k - start;
      first = sym here.whole;
      answered = (lawful_plain_ref (length bytes) (drop start B) f).answered (k - start)
          (here.leads, let inside = h.0 in omega (arith, inside, here.whole, here.inside, length-drop start B));
      reads = plain_reads (drop start B) (k - start) bytes
          (bytes_in_slice B start (k - start) bytes
          (subst (λ n. BytesStand B n bytes) here.whole h.1));
    }

pub what_stands_reads_back : WhatStandsReadsBack
what_stands_reads_back B (at k) (text bytes) well h = text_reads B k bytes well h
what_stands_reads_back B (at k) (byte_list bytes) well h = byte_list_reads B k bytes h
what_stands_reads_back B (at k) (plain_list size alignment items) well h = plain_list_reads B k size
    alignment items h
what_stands_reads_back B (at k) (reference_list distances) well h = reference_list_reads B k
    distances h
what_stands_reads_back B (at k) (table entries) well h = table_reads B k entries h
what_stands_reads_back B (at k) (apart item) well h = apart_reads B k item.bytes h
what_stands_reads_back B (at k) (union_vector items) well h = h
what_stands_reads_back B (at_both kt kv) (union_vector items) well h = union_vector_reads B kt kv items
    h
what_stands_reads_back B (at_both kt kv) (text bytes) well h = h
what_stands_reads_back B (at_both kt kv) (byte_list bytes) well h = h
what_stands_reads_back B (at_both kt kv) (plain_list size alignment items) well h = h
what_stands_reads_back B (at_both kt kv) (reference_list distances) well h = h
what_stands_reads_back B (at_both kt kv) (table entries) well h = h
what_stands_reads_back B (at_both kt kv) (apart item) well h = h
