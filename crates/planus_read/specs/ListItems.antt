-- Where the items of a vector are.
use Rattle.std.specs.Prelude.{◌≡◌, ℕ, ◌+◌, ◌*◌, List, slice_get, Some}
use Rattle.std.specs.Int.{w8}
use Rattle.planus_read.specs.Bytes.{Num}
use Rattle.planus_read.specs.Values.{plain_list, reference_list, union_vector}
use Rattle.planus_read.specs.Stands.{Stands, at, at_both, PlainStands, ReferenceStands}

-- Item i follows the count and i items.
abbrev pub PlainItemsStand : Type 0
PlainItemsStand =
    (B : List ℕ) (k size alignment : ℕ) (items : List (List ℕ))
    → Stands B (at k) (plain_list size alignment items)
    → (i : ℕ) (item : List ℕ) → slice_get items i ≡ Some item
    → PlainStands size B (k + 4 + i * size) item

-- Reference i follows the count and i references.
abbrev pub ReferenceItemsStand : Type 0
ReferenceItemsStand =
    (B : List ℕ) (k : ℕ) (distances : List ℕ) → Stands B (at k) (reference_list distances)
    → (i distance : ℕ) → slice_get distances i ≡ Some distance
    → ReferenceStands B (k + 4 + i * 4) distance

-- Tag i follows its count and i tags, and reference i likewise.
abbrev pub UnionItemsStand : Type 0
UnionItemsStand =
    (B : List ℕ) (kt kv : ℕ) (items : List (ℕ × ℕ)) → Stands B (at_both kt kv) (union_vector items)
    → (i : ℕ) (item : ℕ × ℕ) → slice_get items i ≡ Some item
    → (Num B (kt + 4 + i) w8 ≡ Some item.0) × ReferenceStands B (kv + 4 + i * 4) item.1
