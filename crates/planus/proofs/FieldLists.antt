-- Fields that are declared and written one after another.
use Rattle.std.proofs.Common.{◌≡◌, ℕ, suc, ◌+◌, ◌-◌, ◌≤◌, List, [], ◌∷◌, ◌++◌, length, take, drop, replicate}
use Rattle.std.proofs.Common.{Option, Some, None, refl, sym, ap, ◌∙◌, subst, arith, append_assoc}
use Rattle.std.proofs.Common.{inl, inr}
use Rattle.std.specs.Prelude.{◌⊎◌}
use Rattle.std.specs.Int.{w16, to_le_bytes}
use Rattle.std.proofs.lemmas.Bool.{cases_lt}
use Rattle.std.proofs.lemmas.List.{append-nil, length-take, length-drop, drop-replicate}
use Rattle.planus_read.specs.Bytes.{BytesStand}
use Rattle.planus_read.specs.Values.{Field}
use Rattle.planus_read.specs.Aligned.{field_alignment}
use Rattle.planus_write.specs.Items.{Item}
use Rattle.planus_write.specs.Tables.{Declared, total_size, declared_of, body_size, body_bytes, field_size, field_item}
use Rattle.planus_write.specs.TableWriting.{Writer, WasTold, slot_position, blank, with_entry}
use Rattle.planus_write.specs.ObjectWriting.{ObjectBody, wrote}
use Rattle.planus_write.proofs.ToldTables.{pair_elsewhere}
use Rattle.planus_write.proofs.WrittenBodies.{wrote_both}
use Rattle.planus.specs.lemmas.PreparingLaws.{entries_append}
use Rattle.planus.specs.TableFields.{field_in, size_if, item_if, IsUnused}
use Rattle.planus_write.specs.FieldItems.{IsItem}

pub total_append : (all others : List Declared)
    → total_size (all ++ others) ≡ total_size all + total_size others
total_append [] others = omega arith
total_append (one ∷ all) others = let e = total_append all others in omega (arith, e)

pub size_append : (fields others : List (ℕ × Field))
    → body_size (fields ++ others) ≡ body_size fields + body_size others
size_append fields others =
    ap total_size (entries_append fields others)
    ∙ total_append (declared_of fields) (declared_of others)

bytes_append : (fields others : List (ℕ × Field)) (place : ℕ)
    → body_bytes place (fields ++ others)
    ≡ body_bytes place fields ++ body_bytes (place - body_size fields) others
bytes_append [] others place =
    let same : place ≡ place - body_size [] = omega arith in
    ap (λ p. body_bytes p others) same
bytes_append (field ∷ fields) others place =
    let shift : place - field_size field.1 - body_size fields
    ≡ place - body_size (field ∷ fields) = omega arith in
    ap (λ rest. field_item field.1 place ++ rest) (bytes_append fields others (place - field_size field.1))
    ∙ sym (append_assoc (field_item field.1 place) (body_bytes (place - field_size field.1) fields)
    (body_bytes (place - field_size field.1 - body_size fields) others))
    ∙ ap (λ n. (field_item field.1 place ++ body_bytes (place - field_size field.1) fields) ++ body_bytes n others)
    shift

pub still_unused : (writer : Writer) (one : Declared) (other : ℕ) → (other ≡ one.slot → ⊥)
    → IsUnused writer one.slot → IsUnused writer other → IsUnused (with_entry one writer) other
still_unused writer one other apart unused also =
    pair_elsewhere writer.vtable (to_le_bytes w16 writer.object_size) (slot_position one.slot) refl
    inside (slot_position other) (0 ∷ 0 ∷ []) elsewhere also
  where
    inside : slot_position one.slot + 2 ≤ length writer.vtable
    inside =
        let two : length (take 2 (drop (slot_position one.slot) writer.vtable)) ≡ 2
        = ap length unused in
        let taken = length-take 2 (drop (slot_position one.slot) writer.vtable) in
        let dropped = length-drop (slot_position one.slot) writer.vtable in
        omega (arith, two, taken, dropped)

    elsewhere : (slot_position other + 2 ≤ slot_position one.slot)
        ⊎ (slot_position one.slot + 2 ≤ slot_position other)
    elsewhere = elim (cases_lt other one.slot) as (λ _. (slot_position other + 2 ≤ slot_position one.slot) ⊎ (slot_position one.slot + 2 ≤ slot_position other)) [
      | inl less ↦ inl (omega (arith, less))
      | inr more ↦ inr (omega (arith, more, apart))
    ]

zeros_stand : (n p : ℕ) → p + 2 ≤ n → BytesStand (replicate n 0) p (0 ∷ 0 ∷ [])
zeros_stand n p le =
    let left : n - p ≡ suc (suc (n - p - 2)) = omega (arith, le) in
    let zero_byte : ℕ = 0 in
    ap (take 2) (drop-replicate p n zero_byte) ∙ ap (λ m. take 2 (replicate m zero_byte)) left

pub blank_unused : (writer : Writer) (N slot : ℕ) → writer ≡ blank N → slot_position slot + 2 ≤ N
    → IsUnused writer slot
blank_unused writer N slot is_blank inside =
    subst (λ writer. IsUnused writer slot) (sym is_blank) (zeros_stand N (slot_position slot) inside)

pub told_item : {A : Type 0} (slot : ℕ) (field : A → Field) (size alignment reach : ℕ) (encoding : Item)
    (value : A) → IsItem size alignment encoding reach (field value)
    → (writer : Writer) (fields : List (ℕ × Field))
    → WasTold writer (declared_of fields ++ record { slot = slot; size = size; alignment = alignment } ∷ [])
    → WasTold writer (declared_of (fields ++ field_in slot field (Some value)))
told_item slot field size alignment reach encoding value item writer fields told =
    subst (WasTold writer) (sym (entries_append fields ((slot, field value) ∷ [])))
    (subst (λ (n : ℕ). WasTold writer (declared_of fields ++ record { slot = slot; size = n; alignment = field_alignment (field value) } ∷ []))
    (sym item.size_is)
    (subst (λ (n : ℕ). WasTold writer (declared_of fields ++ record { slot = slot; size = size; alignment = n } ∷ []))
    (sym item.alignment_is) told))

pub size_of_field : {A : Type 0} (slot : ℕ) (field : A → Field) (size : ℕ) (value : Option A)
    → ((a : A) → field_size (field a) ≡ size)
    → body_size (field_in slot field value) ≡ size_if size value
size_of_field slot field size None sizes = refl
size_of_field slot field size (Some a) sizes = let e = sizes a in omega (arith, e)

pub both_written : (fields others : List (ℕ × Field)) (old between new : ObjectBody)
    → between ≡ wrote (body_size fields) (λ place. body_bytes place fields) old
    → new ≡ wrote (body_size others) (λ place. body_bytes place others) between
    → new ≡ wrote (body_size (fields ++ others)) (λ place. body_bytes place (fields ++ others)) old
both_written fields others old between new first rest =
    rest ∙ ap (wrote (body_size others) (λ place. body_bytes place others)) first
    ∙ wrote_both (body_size fields) (body_size others) (λ place. body_bytes place fields)
    (λ place. body_bytes place others) (λ place. body_bytes place (fields ++ others)) old
    (bytes_append fields others old.place)
    ∙ ap (λ n. wrote n (λ place. body_bytes place (fields ++ others)) old) (sym (size_append fields others))

pub one_written : {A : Type 0} (slot : ℕ) (field : A → Field) (encoding : A → Item) (reach : A → ℕ)
    (size alignment : ℕ)
    → ((a : A) → IsItem size alignment (encoding a) (reach a) (field a)) → (value : Option A)
    → (body : ObjectBody)
    → wrote (size_if size value) (item_if encoding value) body
    ≡ wrote (body_size (field_in slot field value)) (λ place. body_bytes place (field_in slot field value)) body
one_written slot field encoding reach size alignment items None body = refl
one_written slot field encoding reach size alignment items (Some a) body =
    let item = items a in
    let sizes : size ≡ field_size (field a) + 0 = let e = item.size_is in omega (arith, e) in
    let bytes : encoding a body.place ≡ field_item (field a) body.place ++ []
    = sym (append-nil (field_item (field a) body.place) ∙ ap (λ (item : Item). item body.place) item.encoding_is) in
    rw (sizes, bytes) refl
