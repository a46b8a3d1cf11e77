-- Clauses hold exactly where a value is encoded.
use Rattle.std.proofs.Common.{◌≡◌, ℕ, ◌+◌, ◌*◌, ◌%◌, ◌≤◌, ◌<◌, ◌≤ℤ◌, ◌-ℤ◌, ℤ, pos, Bool, true}
use Rattle.std.proofs.Common.{false, List, [], ◌∷◌, ◌++◌, length, take, drop, refl, sym, ap, subst}
use Rattle.std.proofs.Common.{◌∙◌, arith, nat_le, Option, Some, None, Result, Ok, Err, inl, inr}
use Rattle.std.proofs.Common.{if◌then◌else◌, length-drop, IfOk, IfErr, get_or, le-leb, leb-true}
use Rattle.std.proofs.Common.{unsigned_abs}
use Rattle.std.proofs.Math.Seq.{drop-cons}
use Rattle.std.proofs.lemmas.List.{length-take, length-take-le, get_or-drop}
use Rattle.std.proofs.lemmas.Int.{ints}
use Rattle.std.specs.Int.{Width, w16, w32, byte_len, cast_signed}
use Rattle.std.specs.Option.{option_map}
use Rattle.std.specs.Str.{IsUtf8}
use denote.Ref.{Bor}
use Rattle.planus_read.specs.declared.errors.ErrorKind.{ErrorKind}
use Rattle.planus_read.specs.declared.errors.ErrorKind.TheVariants.{InvalidOffset}
use Rattle.planus_read.specs.declared.slice_helpers.SliceWithStartOffset.{SliceWithStartOffset}
use Rattle.planus_read.specs.Bytes.{Num, Int, BytesStand}
use Rattle.planus_read.specs.Utf8.{utf8_clause}
use Rattle.planus_read.specs.Clauses.{AllHold, FirstBroken, Answer, clause, shown}
use Rattle.planus_read.specs.Slices.{slice_bytes, ShowsBytes}
use Rattle.planus_read.specs.Heads.{ShowsItems, IsTextOf, text_of_clauses}
use Rattle.planus_read.specs.Reading.{number, Items, TableLayout, text_reading, table_reading}
use Rattle.planus_read.specs.Reading.{Leads, target, head_clauses, count_at, items_at, HeadThere}
use Rattle.planus_read.specs.Reading.{TextThere, ZeroByte, text_clauses, ByteListThere}
use Rattle.planus_read.specs.Reading.{byte_list_clauses, VectorThere, vector_clauses}
use Rattle.planus_read.specs.Reading.{UnionVectorThere, union_vector_clauses, TableThere}
use Rattle.planus_read.specs.Reading.{signed_number, vtable_at, vtable_size_at, object_clauses}
use Rattle.planus_read.specs.Reading.{table_clauses, slots_of}
use Rattle.planus_read.specs.Tables.{ShowsTable, table_object, table_start, table_slots}
use Rattle.planus_read.specs.declared.table_reader.Table.{Table}
use Rattle.planus_read.proofs.Bytes.{parts_stand, whole_stands}

chosen : (b : Bool) (x n : ℕ) → (if b then Some x else None) ≡ Some n → (b ≡ true) × (n ≡ x)
chosen true x n e = (refl, cc)
chosen false x n e = absurd (let f : None ≡ Some n = e in cc)

pub num_inside :
    (S : List ℕ) (k : ℕ) (w : Width) (n : ℕ) → Num S k w ≡ Some n → k + byte_len w ≤ length S
num_inside S k w n e = leb-true (k + byte_len w) (length S)
    (chosen (nat_le (k + byte_len w) (length S)) (number S k w) n e).0

pub num_value : (S : List ℕ) (k : ℕ) (w : Width) (n : ℕ) → Num S k w ≡ Some n → n ≡ number S k w
num_value S k w n e = (chosen (nat_le (k + byte_len w) (length S)) (number S k w) n e).1

pub num_there :
    (S : List ℕ) (k : ℕ) (w : Width) → k + byte_len w ≤ length S → Num S k w ≡ Some (number S k w)
num_there S k w h = rw (le-leb (k + byte_len w) (length S) h) refl

pub leads_there : (S : List ℕ) (f : ℕ) → f + byte_len w32 ≤ length S → Leads S f (target S f)
leads_there S f h = (number S f w32, num_there S f w32 h, refl)

pub leads_inside : (S : List ℕ) (f k : ℕ) → Leads S f k → f + byte_len w32 ≤ length S
leads_inside S f k h = num_inside S f w32 h.0 h.1

pub leads_to : (S : List ℕ) (f k : ℕ) → Leads S f k → k ≡ target S f
leads_to S f k h = h.2 ∙ ap (λ n. f + n) (num_value S f w32 h.0 h.1)

pub head_there :
    (S : List ℕ) (f : ℕ) → f + byte_len w32 ≤ length S → target S f + byte_len w32 ≤ length S
    → HeadThere S f (items_at S f) (count_at S f)
head_there S f reference word =
    record {
      begin = target S f;
      reference = leads_there S f reference;
      word = num_there S (target S f) w32 word;
      behind = refl;
    }

pub record HeadFacts (S : List ℕ) (f position count : ℕ) : Type 0 where
  pub reference : f + byte_len w32 ≤ length S
  pub inside : target S f ≤ length S
  pub word : target S f + byte_len w32 ≤ length S
  pub position_is : position ≡ items_at S f
  pub count_is : count ≡ count_at S f

pub head_facts :
    (S : List ℕ) (f position count : ℕ) → HeadThere S f position count
    → HeadFacts S f position count
head_facts S f position count h =
    let to : h.begin ≡ target S f = leads_to S f h.begin h.reference in
    let word : Num S (target S f) w32 ≡ Some count = ap (λ k. Num S k w32) (sym to) ∙ h.word in
    let here : target S f + byte_len w32 ≤ length S = num_inside S (target S f) w32 count word in
    record {
      reference = leads_inside S f h.begin h.reference;
      inside = omega arith;
      word = here;
      position_is = h.behind ∙ ap (λ k. k + 4) to;
      count_is = num_value S (target S f) w32 count word;
    }

abbrev pub Head : List ℕ → ℕ → ℕ → SliceWithStartOffset → ℕ → Type 0
Head S start f slice count =
    (items : Items) × HeadThere S f items.position items.count
    × ShowsItems S start items (slice, count)

record HeadRead (S : List ℕ) (f : ℕ) (items : SliceWithStartOffset) (count : ℕ) : Type 0 where
  holds : AllHold (head_clauses S f [])
  bytes : slice_bytes items ≡ drop (items_at S f) S
  counted : count ≡ count_at S f

head_read :
    (S : List ℕ) (start f : ℕ) (slice : SliceWithStartOffset) (count : ℕ)
    → Head S start f slice count → HeadRead S f slice count
head_read S start f slice count h =
    let facts : HeadFacts S f h.0.position h.0.count = head_facts S f h.0.position h.0.count h.1 in
    record {
      holds = (facts.reference, (facts.inside, (facts.word, tt)));
      bytes = h.2.bytes ∙ ap (λ k. drop k S) facts.position_is;
      counted = h.2.counted ∙ facts.count_is;
    }

zero_there : (S : List ℕ) (k : ℕ) → k < length S → get_or S k 0 ≡ 0 → BytesStand S k (0 ∷ [])
zero_there S k h z = rw (drop-cons S k 0 h) (ap (λ b. b ∷ []) z)

zero_stood : (l : List ℕ) → take 1 l ≡ 0 ∷ [] → (0 < length l) × (get_or l 0 0 ≡ 0)
zero_stood [] e = absurd (let f : [] ≡ 0 ∷ [] = e in cc)
zero_stood (x ∷ xs) e = (omega arith, let f : x ∷ [] ≡ 0 ∷ [] = e in cc)

zero_behind : (S : List ℕ) (k : ℕ) → BytesStand S k (0 ∷ []) → (k < length S) × (get_or S k 0 ≡ 0)
zero_behind S k h =
    let stood : (0 < length (drop k S)) × (get_or (drop k S) 0 0 ≡ 0) = zero_stood (drop k S) h in (
      let more : 0 < length (drop k S) = stood.0 in omega (arith, length-drop k S),
      ap (λ i. get_or S i 0) (let e : k ≡ k + 0 = omega arith in e) ∙ sym (get_or-drop k S 0 0)
          ∙ stood.1,
    )

pub text_there :
    (S : List ℕ) (f : ℕ) → AllHold (text_clauses S f)
    → TextThere S f (take (count_at S f) (drop (items_at S f) S))
text_there S f h =
    let content : List ℕ = take (count_at S f) (drop (items_at S f) S) in
    let zero : ZeroByte S (items_at S f) (count_at S f) = h.1.1.1.0 in
    let within : items_at S f + count_at S f < length S = zero.0 in
    let long : length content ≡ count_at S f =
    length-take-le (count_at S f) (drop (items_at S f) S)
    (omega (arith, length-drop (items_at S f) S)) in
    let whole : BytesStand S (items_at S f) (content ++ 0 ∷ []) =
    whole_stands S content (0 ∷ []) (items_at S f) (ap (λ n. take n (drop (items_at S f) S)) long)
    (rw long (zero_there S (items_at S f + count_at S f) within zero.1)) in (
      target S f,
      leads_there S f h.0,
      (
        num_there S (target S f) w32 h.1.1.0
            ∙ ap Some (sym long),
        whole,
      ),
      h.1.1.1.1.0,
    )

pub text_holds :
    (S : List ℕ) (f : ℕ) (content : List ℕ) → TextThere S f content
    → AllHold (text_clauses S f) × (content ≡ take (count_at S f) (drop (items_at S f) S))
text_holds S f content h =
    let facts : HeadFacts S f (h.0 + 4) (length content) =
    head_facts S f (h.0 + 4) (length content)
    (record { begin = h.0; reference = h.1; word = h.2.0; behind = refl }) in
    let parts : BytesStand S (h.0 + 4) content
    × BytesStand S (h.0 + 4 + length content) (0 ∷ []) =
    parts_stand S content (0 ∷ []) (h.0 + 4) h.2.1 in
    let zero : BytesStand S (items_at S f + count_at S f) (0 ∷ []) =
    rw (← facts.position_is, ← facts.count_is) parts.1 in
    let bytes : content ≡ take (count_at S f) (drop (items_at S f) S) =
    sym (ap (λ n. take n (drop (items_at S f) S)) (sym facts.count_is)
    ∙ ap (λ k. take (length content) (drop k S)) (sym facts.position_is) ∙ parts.0) in (
      (
        facts.reference,
        (
          facts.inside,
          (
            facts.word,
            (
              zero_behind S
                  (items_at S f + count_at S f) zero,
              (subst IsUtf8 bytes h.3, tt),
            ),
          ),
        ),
      ),
      bytes,
    )

text_of_head :
    (S : List ℕ) (f : ℕ) (count : ℕ) (content : List ℕ) → AllHold (head_clauses S f [])
    → count ≡ count_at S f → IsTextOf (drop (items_at S f) S) count content → TextThere S f content
text_of_head S f count content head counted h =
    let items : ℕ = items_at S f in
    let zero : (0 + count < length (drop items S))
    × (get_or (drop items S) (0 + count) 0 ≡ 0) = h.zero_byte in
    let within : items + count_at S f < length S = let w : 0 + count < length (drop items S) =
    zero.0 in omega (arith, length-drop items S, counted) in
    let here : get_or S (items + count_at S f) 0 ≡ 0 =
    ap (λ i. get_or S i 0) (let e : items + count_at S f ≡ items + (0 + count) = omega arith in e)
    ∙ sym (get_or-drop items S (0 + count) 0) ∙ zero.1 in
    let bytes : content ≡ take (count_at S f) (drop items S) = h.bytes
    ∙ ap (λ n. take n (drop items S)) counted in
    subst (TextThere S f) (sym bytes) (text_there S f (
      head.0,
      (head.1.0, (head.1.1.0, ((within, here), (subst IsUtf8 bytes h.is_utf8, tt)))),
    ))

zero_moves :
    (S : List ℕ) (k count n : ℕ) → k ≤ length S → count ≡ n → ZeroByte S k n
    → ZeroByte (drop k S) 0 count
zero_moves S k count n inside same h = (
  let w : k + n < length S = h.0 in omega (arith, length-drop k S),
  get_or-drop k S (0 + count) 0
      ∙ ap (λ i. get_or S i 0) (let e : k + (0 + count) ≡ k + n = omega arith in e) ∙ h.1,
)

zero_moves_back :
    (S : List ℕ) (k count n : ℕ) → k ≤ length S → count ≡ n → ZeroByte (drop k S) 0 count
    → ZeroByte S k n
zero_moves_back S k count n inside same h = (
  let w : 0 + count < length (drop k S) = h.0 in
      omega (arith, length-drop k S),
  ap (λ i. get_or S i 0)
      (let e : k + n ≡ k + (0 + count) = omega arith in e) ∙ sym (get_or-drop k S (0 + count) 0)
      ∙ h.1,
)

no_text_of_head :
    (S : List ℕ) (f count : ℕ) (e : ErrorKind) → AllHold (head_clauses S f [])
    → count ≡ count_at S f → FirstBroken (text_of_clauses (drop (items_at S f) S) count) e
    → FirstBroken (text_clauses S f) e
no_text_of_head S f count e head counted (inl b) =
    inr (
      head.0,
      inr (
        head.1.0,
        inr (
          head.1.1.0,
          inl (
            (λ z. b.0
                (zero_moves S (items_at S f) count (count_at S f) head.1.1.0 counted z)),
            b.1,
          ),
        ),
      ),
    )
no_text_of_head S f count e head counted (inr (z, inl b)) =
    inr (
      head.0,
      inr (
        head.1.0,
        inr (
          head.1.1.0,
          inr (
            zero_moves_back S (items_at S f) count (count_at S f) head.1.1.0 counted z,
            subst (λ n. FirstBroken (utf8_clause (take n (drop (items_at S f) S)) ∷ []) e) counted
                (inl b),
          ),
        ),
      ),
    )
no_text_of_head S f count e head counted (inr (z, inr (u, none))) = absurd none

pub text_answer :
    (S : List ℕ) (start f count : ℕ) (items : SliceWithStartOffset) (bytes : List ℕ)
    (r : Result (Bor (List ℕ)) ErrorKind)
    → Head S start f items count → bytes ≡ slice_bytes items
    → IfOk r (λ t. IsTextOf bytes count t.now)
    → IfErr r (λ e. FirstBroken (text_of_clauses bytes count) e)
    → Answer (shown ShowsBytes (text_reading S f)) r
text_answer S start f count items bytes (Ok t) head same ok err =
    let read : HeadRead S f items count = head_read S start f items count head in (
      t.now,
      text_of_head S f count t.now read.holds read.counted
          (subst (λ l. IsTextOf l count t.now) (same ∙ read.bytes) ok),
      refl,
    )
text_answer S start f count items bytes (Err e) head same ok err =
    let read : HeadRead S f items count = head_read S start f items count head in
    no_text_of_head S f count e read.holds read.counted
    (subst (λ l. FirstBroken (text_of_clauses l count) e) (same ∙ read.bytes) err)

pub byte_list_there :
    (S : List ℕ) (f : ℕ) → AllHold (byte_list_clauses S f)
    → ByteListThere S f (take (count_at S f) (drop (items_at S f) S))
byte_list_there S f h =
    let within : items_at S f + count_at S f ≤ length S = h.1.1.1.0 in
    let long : length (take (count_at S f) (drop (items_at S f) S)) ≡ count_at S f =
    length-take-le (count_at S f) (drop (items_at S f) S)
    (omega (arith, length-drop (items_at S f) S)) in (
      target S f,
      leads_there S f h.0,
      (
        num_there S (target S f) w32 h.1.1.0
            ∙ ap Some (sym long),
        ap (λ n. take n (drop (items_at S f) S)) long,
      ),
    )

pub stood_inside : (l bytes : List ℕ) → take (length bytes) l ≡ bytes → length bytes ≤ length l
stood_inside l bytes h = omega (arith, ap length h, length-take (length bytes) l)

pub byte_list_holds :
    (S : List ℕ) (f : ℕ) (content : List ℕ) → ByteListThere S f content
    → AllHold (byte_list_clauses S f) × (content ≡ take (count_at S f) (drop (items_at S f) S))
byte_list_holds S f content h =
    let facts : HeadFacts S f (h.0 + 4) (length content) =
    head_facts S f (h.0 + 4) (length content)
    (record { begin = h.0; reference = h.1; word = h.2.0; behind = refl }) in
    let stood : take (length content) (drop (items_at S f) S) ≡ content =
    ap (λ k. take (length content) (drop k S)) (sym facts.position_is) ∙ h.2.1 in
    let inside : length content ≤ length (drop (items_at S f) S) =
    stood_inside (drop (items_at S f) S) content stood in
    let word : items_at S f ≤ length S = facts.word in
    let counted : length content ≡ count_at S f = facts.count_is in (
      (
        facts.reference,
        (
          facts.inside,
          (
            facts.word,
            (
              omega (arith, length-drop (items_at S f) S),
              tt,
            ),
          ),
        ),
      ),
      sym stood ∙ ap (λ n. take n (drop (items_at S f) S)) counted,
    )

pub byte_list_answer :
    (S : List ℕ) (start f count : ℕ) (items : SliceWithStartOffset) (bytes : List ℕ)
    → Head S start f items count → bytes ≡ slice_bytes items → count ≤ length bytes
    → (content : List ℕ) × ByteListThere S f content × (take count bytes ≡ content)
byte_list_answer S start f count items bytes head same within =
    let read : HeadRead S f items count = head_read S start f items count head in
    let here : bytes ≡ drop (items_at S f) S = same ∙ read.bytes in
    let counted : count ≡ count_at S f = read.counted in
    let inside : items_at S f ≤ length S = read.holds.1.1.0 in
    let longer : count ≤ length (drop (items_at S f) S) =
    subst (λ l. count ≤ length l) here within in
    let fits : items_at S f + count_at S f ≤ length S =
    omega (arith, length-drop (items_at S f) S) in (
      take (count_at S f) (drop (items_at S f) S),
      byte_list_there S f (read.holds.0, (read.holds.1.0, (read.holds.1.1.0, (fits, tt)))),
      ap (take count) here ∙ ap (λ n. take n (drop (items_at S f) S)) counted,
    )

pub vector_there :
    (S : List ℕ) (f stride : ℕ) → AllHold (vector_clauses S f stride)
    → VectorThere S f stride (items_at S f) (count_at S f)
vector_there S f stride h = record { head = head_there S f h.0 h.1.1.0; inside = h.1.1.1.0 }

pub vector_holds :
    (S : List ℕ) (f stride position count : ℕ) → VectorThere S f stride position count
    → AllHold (vector_clauses S f stride) × (position ≡ items_at S f) × (count ≡ count_at S f)
vector_holds S f stride position count h =
    let facts : HeadFacts S f position count = head_facts S f position count h.head in
    let inside : items_at S f + count_at S f * stride ≤ length S =
    rw (← facts.position_is, ← facts.count_is) h.inside in (
      (facts.reference, (facts.inside, (facts.word, (inside, tt)))),
      facts.position_is,
      facts.count_is,
    )

pub union_vector_there :
    (S : List ℕ) (f g : ℕ) → AllHold (union_vector_clauses S f g)
    → UnionVectorThere S f g (items_at S f) (items_at S g) (count_at S f)
union_vector_there S f g h =
    let second : AllHold (head_clauses S g []) = (h.1.1.1.0, (h.1.1.1.1.0, (h.1.1.1.1.1.0, tt))) in
    let limits : (items_at S f + count_at S f ≤ length S)
    × (items_at S g + count_at S g * 4 ≤ length S) × (count_at S f ≡ count_at S g) =
    (h.1.1.1.1.1.1.0, h.1.1.1.1.1.1.1.0, h.1.1.1.1.1.1.1.1.0) in
    let same : count_at S f ≡ count_at S g = limits.2 in
    record {
      tags_there = vector_there S f 1 (
        h.0,
        (
          h.1.0,
          (
            h.1.1.0,
            (let l : items_at S f + count_at S f ≤ length S = limits.0 in omega arith, tt),
          ),
        ),
      );
      references_there = subst (VectorThere S g 4 (items_at S g)) (sym same)
          (vector_there S g 4 (second.0, (second.1.0, (second.1.1.0, (limits.1, tt)))));
    }

pub union_vector_holds :
    (S : List ℕ) (f g tags references count : ℕ) → UnionVectorThere S f g tags references count
    → AllHold (union_vector_clauses S f g)
union_vector_holds S f g tags references count h =
    let a : AllHold (vector_clauses S f 1) × (tags ≡ items_at S f)
    × (count ≡ count_at S f) = vector_holds S f 1 tags count h.tags_there in
    let b : AllHold (vector_clauses S g 4) × (references ≡ items_at S g)
    × (count ≡ count_at S g) = vector_holds S g 4 references count h.references_there in
    let l : items_at S f + count_at S f * 1 ≤ length S = a.0.1.1.1.0 in (
      a.0.0,
      (
        a.0.1.0,
        (
          a.0.1.1.0,
          (
            b.0.0,
            (
              b.0.1.0,
              (
                b.0.1.1.0,
                (omega arith, (b.0.1.1.1.0, (sym a.2 ∙ b.2, tt))),
              ),
            ),
          ),
        ),
      ),
    )

below_zero : (o : ℕ) (r : ℤ) → r ≤ℤ pos o → r ≡ pos o -ℤ pos (unsigned_abs (pos o -ℤ r))
below_zero o r h = omega (arith, ints)

pub table_there :
    (S : List ℕ) (f : ℕ) → AllHold (table_clauses S f)
    → TableThere S f (target S f) (vtable_at S (target S f)) (vtable_size_at S (target S f))
table_there S f h =
    let o : ℕ = target S f in
    let object : AllHold (object_clauses S o) = h.1.1 in
    record {
      reference = leads_there S f h.0;
      word = ap (option_map (cast_signed w32)) (num_there S o w32 object.0)
          ∙ ap Some (below_zero o (signed_number S o) object.1.0);
      size_word = num_there S (vtable_at S o) w16 object.1.1.0;
      least = object.1.1.1.0.0;
      even = object.1.1.1.0.1;
      inside = object.1.1.1.1.0;
    }

zero_from : (o t : ℕ) (r : ℤ) → r ≡ pos o -ℤ pos t → (r ≤ℤ pos o) × (t ≡ unsigned_abs (pos o -ℤ r))
zero_from o t r e = (omega (arith, ints), omega (arith, ints))

signed_chosen :
    (m : Option ℕ) (n : ℕ) (z : ℤ) → m ≡ Some n → option_map (cast_signed w32) m ≡ Some z
    → z ≡ cast_signed w32 n
signed_chosen m n z e h = let f : Some (cast_signed w32 n) ≡ Some z =
    ap (option_map (cast_signed w32)) (sym e) ∙ h in cc

pub number_of_signed :
    (m : Option ℕ) (z : ℤ) → option_map (cast_signed w32) m ≡ Some z → (n : ℕ) × (m ≡ Some n)
number_of_signed None z h = absurd (let f : None ≡ Some z = h in cc)
number_of_signed (Some n) z h = (n, refl)

pub signed_value :
    (S : List ℕ) (k : ℕ) (z : ℤ) → option_map (cast_signed w32) (Num S k w32) ≡ Some z
    → z ≡ signed_number S k
signed_value S k z h =
    let n : (n : ℕ) × (Num S k w32 ≡ Some n) = number_of_signed (Num S k w32) z h in
    signed_chosen (Num S k w32) (number S k w32) z
    (num_there S k w32 (num_inside S k w32 n.0 n.1)) h

pub table_holds :
    (S : List ℕ) (f object vtable size : ℕ) → TableThere S f object vtable size
    → AllHold (table_clauses S f) × (object ≡ target S f) × (vtable ≡ vtable_at S (target S f))
    × (size ≡ vtable_size_at S (target S f))
table_holds S f object vtable size h =
    let o : ℕ = target S f in
    let to : object ≡ o = leads_to S f object h.reference in
    let word : Int S o ≡ Some (pos o -ℤ pos vtable) =
    subst (λ k. Int S k ≡ Some (pos k -ℤ pos vtable)) to h.word in
    let n : (n : ℕ) × (Num S o w32 ≡ Some n) = number_of_signed (Num S o w32)
    (pos o -ℤ pos vtable) word in
    let inside : o + byte_len w32 ≤ length S = num_inside S o w32 n.0 n.1 in
    let is : pos o -ℤ pos vtable ≡ signed_number S o =
    signed_chosen (Num S o w32) (number S o w32) (pos o -ℤ pos vtable)
    (num_there S o w32 inside) word in
    let place : (signed_number S o ≤ℤ pos o)
    × (vtable ≡ vtable_at S o) = zero_from o vtable (signed_number S o) (sym is) in
    let size_word : Num S (vtable_at S o) w16 ≡ Some size = ap (λ k. Num S k w16) (sym place.1)
    ∙ h.size_word in
    let size_is : size ≡ vtable_size_at S o = num_value S (vtable_at S o) w16 size size_word in (
      (
        leads_inside S f object h.reference,
        (
          omega arith,
          (
            inside,
            (
              place.0,
              (
                num_inside S (vtable_at S o) w16 size size_word,
                (
                  (subst (λ z. 4 ≤ z) size_is h.least, subst (λ z. z % 2 ≡ 0) size_is h.even),
                  (
                    subst (λ t. t + vtable_size_at S o ≤ length S) place.1
                        (subst (λ z. vtable + z ≤ length S) size_is h.inside),
                    tt,
                  ),
                ),
              ),
            ),
          ),
        ),
      ),
      to,
      place.1,
      size_is,
    )

object_behind :
    (S : List ℕ) (object : ℕ) (e : ErrorKind) (b : Bool) → nat_le object (length S) ≡ b
    → FirstBroken (object_clauses S object) e
    → FirstBroken (clause (object ≤ length S) InvalidOffset ∷ object_clauses S object) e
object_behind S object e true is broken = inr (leb-true object (length S) is, broken)
object_behind S object e false is (inl broken) =
    inl (λ h. let f : true ≡ false = sym (le-leb object (length S) h) ∙ is in cc, broken.1)
object_behind S object e false is (inr broken) =
    let inside : object ≤ length S = let word = broken.0 in omega arith in
    absurd (let f : true ≡ false = sym (le-leb object (length S) inside) ∙ is in cc)

pub table_refused :
    (S : List ℕ) (f object : ℕ) (e : ErrorKind) → f + byte_len w32 ≤ length S → object ≡ target S f
    → FirstBroken (object_clauses S object) e → FirstBroken (table_clauses S f) e
table_refused S f object e reference to broken =
    inr (
      reference,
      object_behind S (target S f) e (nat_le (target S f) (length S)) refl
          (subst (λ o. FirstBroken (object_clauses S o) e) to broken),
    )

pub table_answer :
    (S : List ℕ) (start f : ℕ) (table : Table) → AllHold (table_clauses S f)
    → table_object table ≡ drop (target S f) S → table_start table ≡ start + target S f
    → table_slots table ≡ slots_of S (target S f)
    → Answer (shown (ShowsTable S start) (table_reading S f)) (Ok table)
table_answer S start f table h bytes begin slots =
    let place : TableLayout = record {
      object = target S f;
      vtable = vtable_at S (target S f);
      size = vtable_size_at S (target S f);
    } in
    let shows : ShowsTable S start place table =
    record { object_bytes = bytes; object_start = begin; slots = slots } in
    (place, table_there S f h, shows)
