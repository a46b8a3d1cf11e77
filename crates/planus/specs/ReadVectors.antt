-- Vectors, read back.
use Rattle.std.specs.Borrow.{Bor}
use Rattle.std.specs.Prelude.{◌≡◌, ℕ, ◌*◌, List, length, drop, map, slice_get, Option, Some, Result}
use Rattle.std.specs.Prelude.{IsOkAnd, ⊤}
use Rattle.std.specs.Str.{IsUtf8}
use Rattle.planus_read.specs.declared.located.Error.{Error}
use Rattle.planus_read.specs.declared.plain.Plain.{Ghosts as PlainGhosts}
use Rattle.planus_read.specs.Clauses.{Answer, shown}
use Rattle.planus_read.specs.Located.{Located}
use Rattle.planus_read.specs.Slices.{ShowsBytes}
use Rattle.planus_read.specs.Reading.{vector_reading, text_reading, table_reading}
use Rattle.planus_read.specs.ReadsBack.{PlainReads, ReferenceReads}
use Rattle.planus_read.specs.Tables.{Reads}
use Rattle.planus_read.specs.Values.{Value, text, plain_list, reference_list}
use Rattle.planus_view.specs.ReadBack.{IsVectorOf}
use Rattle.planus_view.specs.VectorView.{ShowsVector, view_of, count_of}
use Rattle.planus_view.specs.declared.vector.SliceView.{SliceView}
use Rattle.planus_view.specs.declared.vector_of.VectorOf.{VectorOf}
use Rattle.planus_write.specs.Contents.{Content, value, values}
use Rattle.planus.specs.ReadBack.{AllStand, ContentsReadBack, ContentsStand, TableHolds}
use Rattle.planus.specs.Views.{ShowsView}
use Rattle.planus.specs.declared.tables.kind.table_ref.TableRef.{TableRef}

abbrev pub item_offset : {R : Type 0} → PlainGhosts R → ℕ → ℕ
item_offset kind i = i * kind.SIZE

module _ {T R : Type 0} (kind : PlainGhosts R) where
  -- the vector of items of these bytes, or of these references, in B
  abbrev pub ArePlainItems : List ℕ → List (List ℕ) → VectorOf (SliceView T R kind) → Type 0
  ArePlainItems B items vector =
      (k : ℕ) × IsVectorOf kind (λ start f item. PlainReads (drop start B) f item) B k items vector

  abbrev pub AreReferences : List ℕ → List ℕ → VectorOf (SliceView T R kind) → Type 0
  AreReferences B distances vector =
      (k : ℕ) × IsVectorOf kind (ReferenceReads B) B k distances vector

  abbrev pub item_bytes : VectorOf (SliceView T R kind) → List ℕ
  item_bytes vector = (view_of vector).bytes

  -- one item per string, read if it is UTF-8
  pub record ItemsAreTexts (texts : List (List ℕ)) (vector : VectorOf (SliceView T R kind)) : Type 0
    where
      pub count : count_of vector ≡ length texts
      pub item :
          (i : ℕ) (bytes : List ℕ) → slice_get texts i ≡ Some bytes → IsUtf8 bytes
          → (type_ method : List ℕ) (offset : ℕ) (r : Result (Bor (List ℕ)) Error)
          → Located (Answer
          (shown ShowsBytes (text_reading (item_bytes vector) (item_offset kind i))))
          type_ method offset r
          → IsOkAnd r (λ found. found.now ≡ bytes)

  -- one item per distance, each read as a table
  pub record ItemsAreTables (K : Type 0) (B distances : List ℕ)
      (vector : VectorOf (SliceView T R kind))
      : Type 0 where
    pub count : count_of vector ≡ length distances
    pub item :
        (i distance : ℕ) (contents : List (ℕ × Option Content))
        → slice_get distances i ≡ Some distance → ContentsStand B contents distance
        → (type_ method : List ℕ) (offset : ℕ) (r : Result (TableRef K) Error)
        → Located (Answer (shown (ShowsView (item_bytes vector) (view_of vector).start)
        (table_reading (item_bytes vector) (item_offset kind i))))
        type_ method offset r
        → IsOkAnd r (λ view. TableHolds B contents view.table)

module _ (T : Type 0) {R : Type 0} (kind : PlainGhosts R) where
  abbrev pub reads_vector : Reads (VectorOf (SliceView T R kind))
  reads_vector S start f r =
      Answer (shown (ShowsVector S start) (vector_reading S f kind.SIZE)) r

  -- A vector of plain items of the element's size reads back.
  abbrev pub PlainVectorsReadBack : Type 0
  PlainVectorsReadBack =
      ContentsReadBack {X = ℕ × List (List ℕ)} reads_vector (λ B list. ⊤)
      (λ list. value (plain_list kind.SIZE list.0 list.1))
      (λ B list vector. ArePlainItems kind B list.1 vector)

  -- So does a vector of references, for elements of that size.
  abbrev pub ReferenceVectorsReadBack : Type 0
  ReferenceVectorsReadBack =
      kind.SIZE ≡ 4
      → ContentsReadBack reads_vector (λ B distances. ⊤)
      (λ distances. value (reference_list distances)) (AreReferences {T = T} kind)

  -- References to values are read as references to these values.
  abbrev pub ValueVectorsReadBack : Type 0
  ValueVectorsReadBack =
      kind.SIZE ≡ 4
      → ContentsReadBack {X = List Value} reads_vector (λ B contents. ⊤) values
      (λ B contents vector. (distances : List ℕ) × AllStand B contents distances
      × AreReferences kind B distances vector)

  abbrev pub TextItemsReadBack : Type 0
  TextItemsReadBack =
      (B : List ℕ) (texts : List (List ℕ)) (distances : List ℕ)
      (vector : VectorOf (SliceView T R kind))
      → AllStand B (map text texts) distances → AreReferences kind B distances vector
      → ItemsAreTexts kind texts vector

  abbrev pub TableItemsReadBack : Type 0 → Type 0
  TableItemsReadBack K =
      (B distances : List ℕ) (vector : VectorOf (SliceView T R kind))
      → AreReferences kind B distances vector → ItemsAreTables kind K B distances vector
