-- Stored tables.
use Rattle.std.proofs.Common.{◌≡◌, ℕ, ◌+◌, ◌-◌, ◌*◌, ◌<◌, ◌≤◌, ◌^◌, List, [], ◌∷◌, ◌++◌, length}
use Rattle.std.proofs.Common.{take, drop, replicate, refl, sym, ap, ◌∙◌, subst, arith, Some, None}
use Rattle.std.proofs.Common.{append_assoc, length-append}
use Rattle.std.specs.Prelude.{pos, ◌-ℤ◌, FitsSigned}
use Rattle.std.specs.Int.{w16, w32, to_le_bytes, cast_unsigned, cast_signed, ◌∣◌}
use Rattle.std.specs.Option.{option_map}
use Rattle.std.specs.List.{AllByRecursion}
use Rattle.std.proofs.lemmas.Int.{ints, to_z-of_z}
use Rattle.std.proofs.Math.Facts.{Fits-of_z}
use Rattle.std.proofs.lemmas.Nat.Gcd.{dvd_refl, dvd_trans}
use Rattle.std.proofs.Math.Nat.{dvd-sub}
use Rattle.std.proofs.Math.Seq.{take-append_seam}
use Rattle.planus_back.specs.Promises.{Keep, Keeps}
use Rattle.planus_back.specs.Padding.{promise_of}
use Rattle.planus_back.proofs.Lists.{power_divides}
use Rattle.planus_read.specs.Bytes.{Num, Int, BytesStand}
use Rattle.planus_read.specs.Values as value
use Rattle.planus_read.specs.Values.{Field, field_at, vtable_size}
use Rattle.planus_read.specs.Stands.{TableStands, SlotStands}
use Rattle.planus_read.specs.Aligned.{TableAligned, SlotAligned}
use Rattle.planus_read.proofs.Moves.{num_moves, int_moves}
use Rattle.planus_write.specs.Shared.{CacheSettings, vtables}
use Rattle.planus_write.specs.History.{History, Adds, PutsAll}
use Rattle.planus_write.specs.State.{Extends}
use Rattle.planus_write.specs.lemmas.Laws.{added_extends, extends_on}
use Rattle.planus_write.specs.Parts.{last_of}
use Rattle.planus_write.specs.Tables.{body_size, body_alignment, body_bytes, field_offset}
use Rattle.planus_write.specs.Tables.{vtable_bytes, vtable_part, body_part, word_part, IsTable}
use Rattle.planus_write.specs.Tables.{table_entries}
use Rattle.planus_write.specs.Kept.{IsKept, KindIsKept, CachedIsKept, AllCachedKept}
use Rattle.planus_write.specs.lemmas.PartBytes.{length_after, front_number, kept_at_front, unpadded}
use Rattle.planus_write.specs.lemmas.Staying.{cached_stays, kind_stays}
use Rattle.planus_write.specs.lemmas.KeptContents.{NewAreKept, ContentsKept, put_kept}
use Rattle.planus_write.specs.lemmas.TableBytes.{stand_inside, body_length, vtable_length}
use Rattle.planus_write.specs.lemmas.TableBytes.{fields_stand, fields_aligned, body_power}
use Rattle.planus_write.specs.lemmas.TableBytes.{size_there, offset_there, slot_stands}
use Rattle.planus_write.specs.lemmas.TableBytes.{slot_aligned}

pub new_vtables : NewAreKept vtables vtable_part
new_vtables content shared before distance after adds =
    let at_end : length after.written.bytes ≡ adds.placed.place =
    length_after (vtable_part content) before.written after.written adds.placed refl in
    let at : distance ≡ adds.placed.place = adds.at in
    let front : 0 ≡ length after.written.bytes - distance = omega (arith, at_end, at) in (
      omega (arith, at_end, at),
      subst (λ k. BytesStand after.written.bytes k content) front
          (subst (λ B. BytesStand B 0 content) (sym adds.placed.bytes)
          (ap (take (length content))
          (append_assoc content (replicate adds.placed.padding 0) before.written.bytes)
          ∙ take-append_seam content
          (replicate adds.placed.padding 0 ++ before.written.bytes))),
      λ L keep.
          let kept : Keeps L (promise_of adds.placed.place 2) =
          (subst (λ ps. Keep ps L) adds.placed.promises keep).0 in
          subst (λ d. 2 ∣ (L - d)) (sym at) kept.aligns,
    )

word_there : (v p : ℕ) (rest : List ℕ) → v ≤ p → p ≤ 2147483647
    → Int (to_le_bytes w32 (cast_unsigned w32 (pos v -ℤ pos p)) ++ rest) 0
    ≡ Some (pos 0 -ℤ pos (p - v))
word_there v p rest le small =
    let fits : FitsSigned w32 (pos v -ℤ pos p) = omega (arith, ints, le, small) in
    let same : pos v -ℤ pos p ≡ pos 0 -ℤ pos (p - v) = omega (arith, ints, le) in
    let bits : cast_unsigned w32 (pos v -ℤ pos p) < 2 ^ 32 = (Fits-of_z fits).fits in
    ap (option_map (cast_signed w32)) (front_number (cast_unsigned w32 (pos v -ℤ pos p)) rest bits)
    ∙ ap Some (to_z-of_z w32 (pos v -ℤ pos p) fits ∙ same)

word_further : (n t : ℕ) → pos 0 -ℤ pos t ≡ pos n -ℤ pos (n + t)
word_further n t = omega (arith, ints)

module _ (entries : List (ℕ × Field)) (before first second after : History) (v b x : ℕ)
    (vtable : ContentsKept vtables (vtable_bytes entries) before v first)
    (body : Adds (body_part entries) None first b second)
    (word : Adds (word_part v) None second x after)
    (good : IsTable (length before.written.bytes) entries) where
  abbrev place : ℕ
  place = body.placed.place

  abbrev B : List ℕ
  B = after.written.bytes

  place_is : place ≡ length first.written.bytes + body.placed.padding + body_size entries
  place_is = body.placed.is_place

  not_shorter : length before.written.bytes ≤ length first.written.bytes
  not_shorter =
      let front : List ℕ = vtable.2.bytes.0 in
      let e : length first.written.bytes ≡ length front + length before.written.bytes =
      ap length vtable.2.bytes.1 ∙ length-append front before.written.bytes in
      omega (arith, e)

  vtable_reached : v ≤ length first.written.bytes
  vtable_reached = vtable.0.0

  second_ends : length second.written.bytes ≡ place
  second_ends =
      length_after (body_part entries) first.written second.written body.placed
      (body_length entries place)

  after_ends : length B ≡ x
  after_ends =
      length_after (word_part v) second.written after.written word.placed refl ∙ sym word.at

  whole : B ≡ to_le_bytes w32 (cast_unsigned w32 (pos v -ℤ pos x)) ++ second.written.bytes
  whole =
      word.placed.bytes
      ∙ ap (λ n. ((word_part v).bytes_at word.placed.place ++ replicate n 0)
      ++ second.written.bytes)
      (unpadded 4 (word_part v).bytes_at second.written after.written word.placed)
      ∙ ap (λ n. to_le_bytes w32 (cast_unsigned w32 (pos v -ℤ pos n)) ++ second.written.bytes)
      (sym word.at)

  longer : length B ≡ 4 + place
  longer = ap length whole
      ∙ length-append (to_le_bytes w32 (cast_unsigned w32 (pos v -ℤ pos x))) second.written.bytes
      ∙ ap (λ n. 4 + n) second_ends

  extends_body : Extends first second
  extends_body = added_extends (body_part entries) None first b second body

  extends_word : Extends second after
  extends_word = added_extends (word_part v) None second x after word

  extends_all : Extends before after
  extends_all =
      extends_on before first after vtable.2
      (extends_on first second after extends_body extends_word)

  cached_kept : AllCachedKept after
  cached_kept =
      let between : AllCachedKept second =
      subst (AllByRecursion (CachedIsKept second)) (sym body.cached)
      (cached_stays first second extends_body first.cached vtable.1) in
      subst (AllByRecursion (CachedIsKept after)) (sym word.cached)
      (cached_stays second after extends_word second.cached between)

  vtable_kept : KindIsKept after vtables (vtable_bytes entries) v
  vtable_kept =
      kind_stays second after extends_word vtables (vtable_bytes entries) v
      (kind_stays first second extends_body vtables (vtable_bytes entries) v vtable.0)

  abbrev t : ℕ
  t = length B - v

  vtable_inside : t + vtable_size entries ≤ length B
  vtable_inside =
      let inside : t + length (vtable_bytes entries) ≤ length B =
      stand_inside B (vtable_bytes entries) t (omega arith) vtable_kept.1 in
      let e = vtable_length entries in
      omega (arith, inside, e)

  body_there : BytesStand B 4 (body_bytes place entries)
  body_there =
      let bytes : List ℕ = body_bytes place entries in
      subst (λ l. take (length bytes) (drop 4 l) ≡ bytes) (sym whole)
      (ap (take (length bytes))
      (body.placed.bytes
      ∙ append_assoc bytes (replicate body.placed.padding 0) first.written.bytes)
      ∙ take-append_seam bytes (replicate body.placed.padding 0 ++ first.written.bytes))

  word_leads : Int B 0 ≡ Some (pos 0 -ℤ pos t)
  word_leads =
      let fits : word.placed.place ≤ 2147483647 = word.placed.fits in
      let at : x ≡ word.placed.place = word.at in
      subst (λ l. Int l 0 ≡ Some (pos 0 -ℤ pos t)) (sym whole)
      (subst (λ n. Int
      (to_le_bytes w32 (cast_unsigned w32 (pos v -ℤ pos x)) ++ second.written.bytes) 0
      ≡ Some (pos 0 -ℤ pos (n - v))) (sym after_ends)
      (word_there v x second.written.bytes
      (omega (arith, vtable_reached, place_is, longer, after_ends)) (omega (arith, fits, at))))

  slot_number : (i : ℕ) → 2 * i + 6 ≤ vtable_size entries
      → Num B (t + 4 + 2 * i) w16 ≡ Some (field_offset 4 entries i)
  slot_number i within =
      offset_there B t entries vtable_kept.1 vtable_inside good.object_fits i within

  slot_kept : (i : ℕ) → 2 * i + 6 ≤ vtable_size entries
      → SlotStands B 0 (t + 4 + 2 * i) (field_at entries i)
  slot_kept i within =
      let fits : place ≤ 2147483647 = body.placed.fits in
      slot_stands B 0 (t + 4 + 2 * i) (field_offset 4 entries i) (field_at entries i)
      (slot_number i within)
      (fields_stand B (length before.written.bytes) 0 entries 4 place i good.fields
      (omega (arith, place_is, not_shorter)) fits (omega (arith, longer)) (omega arith)
      body_there)

  table_stands : TableStands B 0 entries
  table_stands = record {
    vtable = t;
    behind = omega (arith, vtable_reached, place_is, longer);
    word = word_leads;
    size = size_there B t entries vtable_kept.1 vtable_inside good.vtable_fits;
    inside = vtable_inside;
    slots = slot_kept;
  }

  promised : after.written.promises
      ≡ promise_of word.placed.place 1 ∷ promise_of place (body_alignment entries)
      ∷ first.written.promises
  promised = word.placed.promises
      ∙ ap (λ ps. promise_of word.placed.place 1 ∷ ps) body.placed.promises

  module _ (front : List ℕ) (keep : Keep after.written.promises (length (front ++ B))) where
    abbrev k : ℕ
    k = length front

    whole_length : length (front ++ B) ≡ k + length B
    whole_length = length-append front B

    body_aligned : body_alignment entries ∣ (k + 4)
    body_aligned =
        let kept : Keeps (length (front ++ B)) (promise_of place (body_alignment entries)) =
        (subst (λ ps. Keep ps (length (front ++ B))) promised keep).1.0 in
        let e : length (front ++ B) - place ≡ k + 4 = omega (arith, whole_length, longer) in
        subst (λ n. body_alignment entries ∣ n) e kept.aligns

    start_aligned : 4 ∣ k
    start_aligned =
        let power = body_power (length before.written.bytes) entries good.fields in
        let four : 4 ∣ (k + 4) =
        dvd_trans 4 (power_divides 4 (body_alignment entries) (2, refl) power.0 power.1)
        body_aligned in
        let back : k + 4 - 4 ≡ k = omega arith in
        subst (λ n. 4 ∣ n) back (dvd-sub 4 four (dvd_refl 4))

    slot_kept_aligned : (i : ℕ) → 2 * i + 6 ≤ vtable_size entries
        → SlotAligned (front ++ B) k (k + t + 4 + 2 * i) (field_at entries i)
    slot_kept_aligned i within =
        let power = body_power (length before.written.bytes) entries good.fields in
        let number : Num (front ++ B) (k + t + 4 + 2 * i) w16 ≡ Some (field_offset 4 entries i) =
        num_moves front B (t + 4 + 2 * i) (k + t + 4 + 2 * i) w16 (omega arith)
        ∙ slot_number i within in
        slot_aligned (front ++ B) k (k + t + 4 + 2 * i) (field_offset 4 entries i)
        (field_at entries i) number
        (fields_aligned (length before.written.bytes) k entries 4 i (body_alignment entries)
        good.fields good.falling power.0 body_aligned power.2)

    table_aligned : TableAligned (front ++ B) k entries
    table_aligned = record {
      table = start_aligned;
      vtable = k + t;
      word = int_moves front B 0 k (omega arith) ∙ word_leads ∙ ap Some (word_further k t);
      vtable_aligned =
          let even : 2 ∣ (length (front ++ B) - v) = vtable_kept.2 (length (front ++ B)) keep in
          let e : length (front ++ B) - v ≡ k + t =
          omega (arith, whole_length, longer, vtable_reached, place_is) in
          subst (λ n. 2 ∣ n) e even;
      slots = slot_kept_aligned;
    }

  added_kept : IsKept after (value.table entries) (record { distance = x; tags = None })
  added_kept = kept_at_front after (value.table entries) x after_ends table_stands table_aligned

pub table_kept : (entries : List (ℕ × Field)) (settings : CacheSettings) (before : History)
    (got : List ℕ)
    (after : History)
    → IsTable (length before.written.bytes) entries → AllCachedKept before
    → PutsAll settings (table_entries entries) [] before got after
    → IsKept after (value.table entries) (record { distance = last_of got; tags = None })
    × AllCachedKept after × Extends before after
table_kept entries settings before got after good all puts =
    let v : ℕ = puts.0 in
    let first : History = puts.1 in
    let vtable : ContentsKept vtables (vtable_bytes entries) before v first =
    put_kept vtables vtable_part new_vtables settings (vtable_bytes entries) [] before v first
    all puts.2 in
    let bodies = puts.3 in
    let words = bodies.3 in
    let kept = added_kept entries before first bodies.1 words.1 v bodies.0 words.0 vtable bodies.2
    words.2 good in
    let cached = cached_kept entries before first bodies.1 words.1 v bodies.0 words.0 vtable
    bodies.2
    words.2 good in
    let extends =
    extends_all entries before first bodies.1 words.1 v bodies.0 words.0 vtable bodies.2 words.2
    good in
    subst (λ history. IsKept history (value.table entries)
    (record { distance = last_of got; tags = None }) × AllCachedKept history
    × Extends before history)
    (sym words.3.1) (
      subst (λ n. IsKept words.1 (value.table entries) (record { distance = n; tags = None }))
          (sym (ap last_of words.3.0)) kept,
      cached,
      extends,
    )
