-- Encoded values stay encoded where bytes are prepended.
use Rattle.std.proofs.Common.{◌≡◌, ℕ, ◌+◌, ◌-◌, ◌*◌, ◌≤◌, ◌<◌, ◌-ℤ◌, pos, List, [], ◌∷◌, ◌++◌}
use Rattle.std.proofs.Common.{length, map, Bool, take, drop, refl, sym, ap, ◌∙◌, arith, nat_le}
use Rattle.std.proofs.Common.{Option, Some, None, length-append, if◌then◌else◌}
use Rattle.std.proofs.Math.Seq.{drop-append-add}
use Rattle.std.proofs.lemmas.Bool.Decides.{nat_tests}
use Rattle.std.proofs.lemmas.Int.{ints}
use Rattle.std.specs.Int.{Width, w16, w32, byte_len, from_le_bytes, cast_signed}
use Rattle.std.specs.Option.{option_map}
use Rattle.planus_read.specs.Bytes.{Num, Int, BytesStand}
use Rattle.planus_read.specs.Values.{text, byte_list, plain_list, reference_list, union_vector, table}
use Rattle.planus_read.specs.Values.{apart}
use Rattle.planus_read.specs.Values.{Field, plain, reference, tags, values, field_at, vtable_size}
use Rattle.planus_read.specs.Stands.{ReferenceStands, PlainStands, ItemsStand, FieldStands}
use Rattle.planus_read.specs.Stands.{ApartStands}
use Rattle.planus_read.specs.Stands.{SlotStands, TableStands, at, at_both}
use Rattle.planus_read.specs.Moves.{KeepsStanding, KeepsLeading, StandsAlone, LeadsAlone}

test_moves : (n a b : ℕ) → nat_le (n + a) (n + b) ≡ nat_le a b
test_moves n a b = grind (arith, nat_tests)

pub rest_moves :
    (front B : List ℕ) (k j : ℕ) → j ≡ length front + k → drop j (front ++ B) ≡ drop k B
rest_moves front B k j e = rw e (drop-append-add front B k)

number_in : (w : Width) (b : List ℕ) (inside : Bool) → Option ℕ
number_in w b inside = if inside then Some (from_le_bytes w (take (byte_len w) b)) else None

pub num_moves :
    (front B : List ℕ) (k j : ℕ) (w : Width) → j ≡ length front + k
    → Num (front ++ B) j w ≡ Num B k w
unfolding number_in
num_moves front B k j w e =
    let inside : nat_le (j + byte_len w) (length (front ++ B)) ≡ nat_le (k + byte_len w)
    (length B) =
    rw (length-append front B) (ap (λ i. nat_le i (length front + length B))
    (let s : j + byte_len w ≡ length front + (k + byte_len w) = omega arith in s)
    ∙ test_moves (length front) (k + byte_len w) (length B)) in
    ap (λ b. number_in w b (nat_le (j + byte_len w) (length (front ++ B))))
    (rest_moves front B k j e) ∙ ap (number_in w (drop k B)) inside

pub int_moves : (front B : List ℕ) (k j : ℕ) → j ≡ length front + k → Int (front ++ B) j ≡ Int B k
int_moves front B k j e = ap (option_map (cast_signed w32)) (num_moves front B k j w32 e)

bytes_move :
    (front B : List ℕ) (k j : ℕ) (bytes : List ℕ) → j ≡ length front + k → BytesStand B k bytes
    → BytesStand (front ++ B) j bytes
bytes_move front B k j bytes e h = ap (take (length bytes)) (rest_moves front B k j e) ∙ h

plain_moves :
    (front B : List ℕ) (size k j : ℕ) (item : List ℕ) → j ≡ length front + k
    → PlainStands size B k item → PlainStands size (front ++ B) j item
plain_moves front B size k j item e h = (h.0, bytes_move front B k j item e h.1)

pub reference_moves :
    (front B : List ℕ) (k j distance : ℕ) → j ≡ length front + k → ReferenceStands B k distance
    → ReferenceStands (front ++ B) j distance
reference_moves front B k j distance e h = (
  h.0,
  num_moves front B k j w32 e ∙ h.1,
  rw (length-append front B)
      (let s : k + h.0 + distance ≡ length B = h.2 in omega arith),
)

items_move :
    {X : Type 0} (A C : ℕ → X → Type 0) (n : ℕ) → ((k j : ℕ) (x : X) → j ≡ n + k → A k x → C j x)
    → (k j size : ℕ) (items : List X) → j ≡ n + k → ItemsStand A k size items
    → ItemsStand C j size items
items_move A C n step k j size [] e h = tt
items_move A C n step k j size (x ∷ xs) e h = (
  step k j x e h.0,
  items_move A C n step (k + size) (j + size) size xs (omega arith) h.1,
)

pub field_moves :
    (front B : List ℕ) (k j : ℕ) (field : Field) → j ≡ length front + k → FieldStands B k field
    → FieldStands (front ++ B) j field
field_moves front B k j (plain item) e h = bytes_move front B k j item.bytes e h
field_moves front B k j (reference distance) e h = reference_moves front B k j distance e h
field_moves front B k j (tags distance) e h = reference_moves front B k j distance e h
field_moves front B k j (values distance) e h = reference_moves front B k j distance e h

slot_moves :
    (front B : List ℕ) (k s j : ℕ) (field : Option Field) → j ≡ length front + s
    → SlotStands B k s field → SlotStands (front ++ B) (length front + k) j field
slot_moves front B k s j None e h = num_moves front B s j w16 e ∙ h
slot_moves front B k s j (Some field) e h = (
  h.0,
  num_moves front B s j w16 e ∙ h.1,
  h.2,
  field_moves front B (k + h.0)
      (length front + k + h.0) field (omega arith) h.3,
)

word_moves : (n k t : ℕ) → pos (n + k) -ℤ pos (n + t) ≡ pos k -ℤ pos t
word_moves n k t = omega (arith, ints)

table_moves :
    (front B : List ℕ) (k : ℕ) (entries : List (ℕ × Field)) → TableStands B k entries
    → TableStands (front ++ B) (length front + k) entries
table_moves front B k entries h =
    record {
      vtable = length front + h.vtable;
      behind = let b : k < h.vtable = h.behind in omega arith;
      word = int_moves front B k (length front + k) refl ∙ h.word
          ∙ ap Some (sym (word_moves (length front) k h.vtable));
      size = num_moves front B h.vtable (length front + h.vtable) w16 refl ∙ h.size;
      inside = rw (length-append front B)
          (let i : h.vtable + vtable_size entries ≤ length B = h.inside in omega arith);
      slots = λ i within. slot_moves front B k (h.vtable + 4 + 2 * i)
          (length front + h.vtable + 4 + 2 * i) (field_at entries i) (omega arith)
          (h.slots i within);
    }

apart_moves :
    (front B : List ℕ) (k : ℕ) (bytes : List ℕ) → ApartStands B k bytes
    → ApartStands (front ++ B) (length front + k) bytes
apart_moves front B k bytes h = (
  rw (length-append front B) (let inside : k + length bytes ≤ length B = h.0 in omega arith),
  bytes_move front B k (length front + k) bytes refl h.1,
)

pub keeps_leading : KeepsLeading
keeps_leading front B f distance h = reference_moves front B f (length front + f) distance refl h

pub keeps_standing : KeepsStanding
keeps_standing front B (at k) (text bytes) h = (
  num_moves front B k (length front + k) w32 refl
      ∙ h.0,
  bytes_move front B (k + 4) (length front + k + 4) (bytes ++ 0 ∷ [])
      (omega arith) h.1,
)
keeps_standing front B (at k) (byte_list bytes) h = (
  num_moves front B k (length front + k) w32 refl
      ∙ h.0,
  bytes_move front B (k + 4) (length front + k + 4) bytes (omega arith) h.1,
)
keeps_standing front B (at k) (plain_list size alignment items) h = (
  num_moves front B k (length front + k) w32 refl ∙ h.0,
  items_move (PlainStands size B) (PlainStands size (front ++ B)) (length front)
      (plain_moves front B size) (k + 4) (length front + k + 4) size items (omega arith) h.1,
)
keeps_standing front B (at k) (reference_list distances) h = (
  num_moves front B k (length front + k) w32 refl ∙ h.0,
  items_move (ReferenceStands B) (ReferenceStands (front ++ B)) (length front)
      (reference_moves front B) (k + 4) (length front + k + 4) 4 distances (omega arith) h.1,
)
keeps_standing front B (at k) (table entries) h = table_moves front B k entries h
keeps_standing front B (at k) (apart item) h =
    apart_moves front B k item.bytes h
keeps_standing front B (at k) (union_vector items) h = h
keeps_standing front B (at_both kt kv) (union_vector items) h = (
  (
    num_moves front B kt (length front + kt) w32 refl ∙ h.0.0,
    bytes_move front B (kt + 4) (length front + kt + 4) (map (λ item. item.0) items)
        (omega arith) h.0.1,
  ),
  (
    num_moves front B kv (length front + kv) w32 refl ∙ h.1.0,
    items_move (ReferenceStands B) (ReferenceStands (front ++ B)) (length front)
        (reference_moves front B) (kv + 4) (length front + kv + 4) 4 (map (λ item. item.1) items)
        (omega arith) h.1.1,
  ),
)
keeps_standing front B (at_both kt kv) (text bytes) h = h
keeps_standing front B (at_both kt kv) (byte_list bytes) h = h
keeps_standing front B (at_both kt kv) (plain_list size alignment items) h = h
keeps_standing front B (at_both kt kv) (reference_list distances) h = h
keeps_standing front B (at_both kt kv) (table entries) h = h
keeps_standing front B (at_both kt kv) (apart item) h = h

reference_back :
    (front B : List ℕ) (k j distance : ℕ) → j ≡ length front + k
    → ReferenceStands (front ++ B) j distance → ReferenceStands B k distance
reference_back front B k j distance e h = (
  h.0,
  sym (num_moves front B k j w32 e)
      ∙ h.1,
  let s : j + h.0 + distance ≡ length (front ++ B) = h.2 in
      omega (arith, length-append front B),
)

bytes_back :
    (front B : List ℕ) (k j : ℕ) (bytes : List ℕ) → j ≡ length front + k
    → BytesStand (front ++ B) j bytes → BytesStand B k bytes
bytes_back front B k j bytes e h = sym (ap (take (length bytes)) (rest_moves front B k j e)) ∙ h

plain_back :
    (front B : List ℕ) (size k j : ℕ) (item : List ℕ) → j ≡ length front + k
    → PlainStands size (front ++ B) j item → PlainStands size B k item
plain_back front B size k j item e h = (h.0, bytes_back front B k j item e h.1)

items_back :
    {X : Type 0} (A C : ℕ → X → Type 0) (n : ℕ) → ((k j : ℕ) (x : X) → j ≡ n + k → C j x → A k x)
    → (k j size : ℕ) (items : List X) → j ≡ n + k → ItemsStand C j size items
    → ItemsStand A k size items
items_back A C n step k j size [] e h = tt
items_back A C n step k j size (x ∷ xs) e h = (
  step k j x e h.0,
  items_back A C n step (k + size) (j + size) size xs (omega arith) h.1,
)

pub field_back :
    (front B : List ℕ) (k j : ℕ) (field : Field) → j ≡ length front + k
    → FieldStands (front ++ B) j field → FieldStands B k field
field_back front B k j (plain item) e h = bytes_back front B k j item.bytes e h
field_back front B k j (reference distance) e h = reference_back front B k j distance e h
field_back front B k j (tags distance) e h = reference_back front B k j distance e h
field_back front B k j (values distance) e h = reference_back front B k j distance e h

slot_back :
    (front B : List ℕ) (k s j : ℕ) (field : Option Field) → j ≡ length front + s
    → SlotStands (front ++ B) (length front + k) j field → SlotStands B k s field
slot_back front B k s j None e h = sym (num_moves front B s j w16 e) ∙ h
slot_back front B k s j (Some field) e h = (
  h.0,
  sym (num_moves front B s j w16 e)
      ∙ h.1,
  h.2,
  field_back front B (k + h.0) (length front + k + h.0) field (omega arith) h.3,
)

table_back :
    (front B : List ℕ) (k : ℕ) (entries : List (ℕ × Field))
    → TableStands (front ++ B) (length front + k) entries → TableStands B k entries
table_back front B k entries h =
    let behind : length front + k < h.vtable = h.behind in
    let t : ℕ = h.vtable - length front in
    let here : h.vtable ≡ length front + t = omega arith in
    record {
      vtable = t;
      behind = omega arith;
      word = sym (int_moves front B k (length front + k) refl) ∙ h.word
          ∙ ap (λ v. Some (pos (length front + k) -ℤ pos v)) here
          ∙ ap Some (word_moves (length front) k t);
      size = sym (num_moves front B t h.vtable w16 here) ∙ h.size;
      inside = let i : h.vtable + vtable_size entries ≤ length (front ++ B) = h.inside in
          omega (arith, length-append front B);
      slots = λ i within. slot_back front B k (t + 4 + 2 * i) (h.vtable + 4 + 2 * i)
          (field_at entries i) (omega arith) (h.slots i within);
    }

apart_back :
    (front B : List ℕ) (k : ℕ) (bytes : List ℕ) → ApartStands (front ++ B) (length front + k) bytes
    → ApartStands B k bytes
apart_back front B k bytes h = (
  let inside : length front + k + length bytes ≤ length (front ++ B) = h.0 in
      omega (arith, length-append front B),
  bytes_back front B k (length front + k) bytes refl h.1,
)

pub leads_alone : LeadsAlone
leads_alone front B f distance h = reference_back front B f (length front + f) distance refl h

count_back :
    (front B : List ℕ) (k n : ℕ) → Num (front ++ B) (length front + k) w32 ≡ Some n
    → Num B k w32 ≡ Some n
count_back front B k n h = sym (num_moves front B k (length front + k) w32 refl) ∙ h

pub stands_alone : StandsAlone
stands_alone front B (at k) (text bytes) h = (
  count_back front B k (length bytes) h.0,
  bytes_back front B (k + 4) (length front + k + 4) (bytes ++ 0 ∷ []) (omega arith) h.1,
)
stands_alone front B (at k) (byte_list bytes) h = (
  count_back front B k (length bytes) h.0,
  bytes_back front B (k + 4) (length front + k + 4) bytes (omega arith) h.1,
)
stands_alone front B (at k) (plain_list size alignment items) h = (
  count_back front B k (length items) h.0,
  items_back (PlainStands size B) (PlainStands size (front ++ B)) (length front)
      (plain_back front B size) (k + 4) (length front + k + 4) size items (omega arith) h.1,
)
stands_alone front B (at k) (reference_list distances) h = (
  count_back front B k (length distances) h.0,
  items_back (ReferenceStands B) (ReferenceStands (front ++ B)) (length front)
      (reference_back front B) (k + 4) (length front + k + 4) 4 distances (omega arith) h.1,
)
stands_alone front B (at k) (table entries) h = table_back front B k entries h
stands_alone front B (at k) (apart item) h =
    apart_back front B k item.bytes h
stands_alone front B (at k) (union_vector items) h = h
stands_alone front B (at_both kt kv) (union_vector items) h = (
  (
    count_back front B kt (length (map (λ item. item.0) items)) h.0.0,
    bytes_back front B (kt + 4) (length front + kt + 4) (map (λ item. item.0) items)
        (omega arith) h.0.1,
  ),
  (
    count_back front B kv (length (map (λ item. item.1) items)) h.1.0,
    items_back (ReferenceStands B) (ReferenceStands (front ++ B)) (length front)
        (reference_back front B) (kv + 4) (length front + kv + 4) 4 (map (λ item. item.1) items)
        (omega arith) h.1.1,
  ),
)
stands_alone front B (at_both kt kv) (text bytes) h = h
stands_alone front B (at_both kt kv) (byte_list bytes) h = h
stands_alone front B (at_both kt kv) (plain_list size alignment items) h = h
stands_alone front B (at_both kt kv) (reference_list distances) h = h
stands_alone front B (at_both kt kv) (table entries) h = h
stands_alone front B (at_both kt kv) (apart item) h = h
