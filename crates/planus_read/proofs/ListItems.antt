-- An encoded vector is read with its items.
use Rattle.std.proofs.Common.{◌≡◌, ℕ, zero, suc, ◌+◌, ◌*◌, ◌≤◌, List, [], ◌∷◌, length, map, drop}
use Rattle.std.proofs.Common.{take, refl, sym, ap, ◌∙◌, subst, arith, length-drop, Some, None, lit≤}
use Rattle.std.proofs.Math.Nat.{suc-mul}
use Rattle.std.proofs.lemmas.List.{length-map}
use Rattle.std.proofs.lemmas.Option.{slice_get-map}
use Rattle.std.specs.Option.{option_map}
use Rattle.std.specs.Prelude.{slice_get}
use Rattle.std.specs.Int.{Width, w8, w16, w32, w64, w128, byte_len, from_le_bytes}
use Rattle.planus_read.specs.Stands.{Stands, at, at_both, ReferenceStands, PlainStands, ItemsStand}
use Rattle.planus_read.specs.Stands.{ListStands}
use Rattle.planus_read.specs.Values.{plain_list, reference_list, union_vector}
use Rattle.planus_read.specs.Bytes.{Num, BytesStand}
use Rattle.planus_read.proofs.Bytes.{parts_stand}
use Rattle.planus_read.specs.Reading.{Leads, VectorThere, UnionVectorThere}
use Rattle.planus_read.specs.ListItems.{PlainItemsStand, ReferenceItemsStand, UnionItemsStand}
use Rattle.planus_read.proofs.Reading.{num_inside, num_there, stood_inside}

items_inside :
    {X : Type 0} (A : ℕ → X → Type 0) (n size : ℕ)
    → ((p : ℕ) (x : X) → p ≤ n → A p x → p + size ≤ n) → (p : ℕ) (items : List X) → p ≤ n
    → ItemsStand A p size items → p + length items * size ≤ n
items_inside A n size step p [] here h = omega arith
items_inside A n size step p (x ∷ xs) here h =
    let rest : p + size + length xs * size ≤ n =
    items_inside A n size step (p + size) xs (step p x here h.0) h.1 in
    omega (arith, suc-mul (length xs) size)

plain_inside :
    (S : List ℕ) (size p : ℕ) (item : List ℕ) → p ≤ length S → PlainStands size S p item
    → p + size ≤ length S
plain_inside S size p item here h =
    let within : length item ≤ length (drop p S) = stood_inside (drop p S) item h.1 in
    let long : length item ≡ size = h.0 in
    omega (arith, length-drop p S)

reference_inside :
    (S : List ℕ) (p distance : ℕ) → p ≤ length S → ReferenceStands S p distance → p + 4 ≤ length S
reference_inside S p distance here h = num_inside S p w32 h.0 h.1

list_there :
    {X : Type 0} (A : List ℕ → ℕ → X → Type 0) (S : List ℕ) (size : ℕ)
    → ((p : ℕ) (x : X) → p ≤ length S → A S p x → p + size ≤ length S) → (f k : ℕ) (items : List X)
    → Leads S f k → ListStands A S k size items → VectorThere S f size (k + 4) (length items)
list_there A S size step f k items to h =
    let word : k + byte_len w32 ≤ length S = num_inside S k w32 (length items) h.0 in
    record {
      head = record { begin = k; reference = to; word = h.0; behind = refl };
      inside = items_inside (A S) (length S) size step (k + 4) items word h.1;
    }

pub plain_lists_read :
    (S : List ℕ) (f k size alignment : ℕ) (items : List (List ℕ)) → Leads S f k
    → Stands S (at k) (plain_list size alignment items)
    → VectorThere S f size (k + 4) (length items)
plain_lists_read S f k size alignment items to h = list_there (PlainStands size) S size
    (plain_inside S size) f k items to h

pub reference_lists_read :
    (S : List ℕ) (f k : ℕ) (distances : List ℕ) → Leads S f k
    → Stands S (at k) (reference_list distances) → VectorThere S f 4 (k + 4) (length distances)
reference_lists_read S f k distances to h = list_there ReferenceStands S 4
    (reference_inside S) f k distances to h

pub union_vectors_stand_read :
    (S : List ℕ) (f g kt kv : ℕ) (items : List (ℕ × ℕ)) → Leads S f kt → Leads S g kv
    → Stands S (at_both kt kv) (union_vector items)
    → UnionVectorThere S f g (kt + 4) (kv + 4) (length items)
union_vectors_stand_read S f g kt kv items to_tags to_references h =
    let tags : List ℕ = map (λ item. item.0) items in
    let count : length tags ≡ length items = length-map items (λ item. item.0) in
    let references : length (map (λ item. item.1) items) ≡ length items =
    length-map items (λ item. item.1) in
    let word : kt + byte_len w32 ≤ length S = num_inside S kt w32 (length tags) h.0.0 in
    let within : length tags ≤ length (drop (kt + 4) S) =
    stood_inside (drop (kt + 4) S) tags h.0.1 in
    let inside : kt + 4 + length tags * 1 ≤ length S = omega (arith, length-drop (kt + 4) S) in
    record {
      tags_there = subst (VectorThere S f 1 (kt + 4)) count
          (record {
            head = record {
              begin = kt;
              reference = to_tags;
              word = h.0.0;
              behind = refl;
            };
            inside = inside;
          });
      references_there = subst (VectorThere S g 4 (kv + 4)) references
          (list_there ReferenceStands S 4 (reference_inside S) g kv
          (map (λ item. item.1) items) to_references h.1);
    }

item_at :
    {X : Type 0} (A : ℕ → X → Type 0) (p size : ℕ) (items : List X) → ItemsStand A p size items
    → (i : ℕ) (item : X) → slice_get items i ≡ Some item → A (p + i * size) item
item_at A p size [] h i item e = absurd (let f : None ≡ Some item = e in cc)
item_at A p size (x ∷ xs) h zero item e =
    let same : x ≡ item = let f : Some x ≡ Some item = e in cc in
    subst (λ n. A n item) (let here : p ≡ p + zero * size = omega arith in here)
    (subst (A p) same h.0)
item_at A p size (x ∷ xs) h (suc i) item e =
    subst (λ n. A n item) (let here : p + size + i * size ≡ p + suc i * size =
    omega (arith, suc-mul i size) in here)
    (item_at A (p + size) size xs h.1 i item e)

some_bytes : (w : Width) → 1 ≤ byte_len w
some_bytes w8 = lit≤ tt
some_bytes w16 = lit≤ tt
some_bytes w32 = lit≤ tt
some_bytes w64 = lit≤ tt
some_bytes w128 = lit≤ tt

pub num_of_bytes :
    (S : List ℕ) (f : ℕ) (w : Width) (bytes : List ℕ) → length bytes ≡ byte_len w
    → BytesStand S f bytes → Num S f w ≡ Some (from_le_bytes w bytes)
num_of_bytes S f w bytes long h =
    let within : length bytes ≤ length (drop f S) = stood_inside (drop f S) bytes h in
    let some : 1 ≤ byte_len w = some_bytes w in
    num_there S f w (omega (arith, length-drop f S))
    ∙ ap (λ l. Some (from_le_bytes w l)) (ap (λ n. take n (drop f S)) (sym long) ∙ h)

byte_stands :
    (B : List ℕ) (p : ℕ) (bytes : List ℕ) → BytesStand B p bytes → (i byte : ℕ)
    → slice_get bytes i ≡ Some byte → Num B (p + i) w8 ≡ Some byte
byte_stands B p [] h i byte e = absurd (let f : None ≡ Some byte = e in cc)
byte_stands B p (x ∷ xs) h zero byte e =
    let here : Num B p w8 ≡ Some x = num_of_bytes B p w8 (x ∷ []) refl
    (parts_stand B (x ∷ []) xs p h).0 in
    ap (λ n. Num B n w8) (let same : p + zero ≡ p = omega arith in same) ∙ here ∙ e
byte_stands B p (x ∷ xs) h (suc i) byte e =
    ap (λ n. Num B n w8) (let same : p + suc i ≡ p + 1 + i = omega arith in same)
    ∙ byte_stands B (p + 1) xs (parts_stand B (x ∷ []) xs p h).1 i byte e

pub plain_items_stand : PlainItemsStand
plain_items_stand B k size alignment items h i item e = item_at (PlainStands size B)
    (k + 4) size items h.1 i item e

pub reference_items_stand : ReferenceItemsStand
reference_items_stand B k distances h i distance e = item_at (ReferenceStands B)
    (k + 4) 4 distances h.1 i distance e

pub union_items_stand : UnionItemsStand
union_items_stand B kt kv items h i item e = (
  byte_stands B (kt + 4) (map (λ pair. pair.0) items) h.0.1 i item.0
      (slice_get-map (λ pair. pair.0) items i ∙ ap (option_map (λ pair. pair.0)) e),
  item_at (ReferenceStands B) (kv + 4) 4 (map (λ pair. pair.1) items) h.1.1 i item.1
      (slice_get-map (λ pair. pair.1) items i ∙ ap (option_map (λ pair. pair.1)) e),
)
