-- The items of a vector that was written.
use Rattle.std.proofs.Common.{◌≡◌, ℕ, ◌*◌, List, length, sym, subst, arith, Option, Some, None, Result, Ok, Err, slice_get}
use Rattle.std.specs.Prelude.{IsOkAnd, IsSomeAnd}
use Rattle.std.specs.Borrow.{Bor}
use Rattle.std.proofs.lemmas.Option.{slice_get_within}
use Rattle.planus_read.specs.declared.located.Error.{Error}
use Rattle.planus_read.specs.declared.plain.Plain.{Ghosts as PlainGhosts}
use Rattle.planus_read.specs.declared.table_reader.Table.{Table}
use Rattle.planus_read.specs.Converted.{Converted}
use Rattle.planus_read.specs.Items.{item_method, texts_name}
use Rattle.planus_read.specs.Located.{Located}
use Rattle.planus_read.specs.Tables.{Reads}
use Rattle.planus_view.specs.Indexes.{GetsItem}
use Rattle.planus_view.specs.VectorView.{count_of, view_of}
use Rattle.planus_view.specs.declared.vector.SliceView.{SliceView}
use Rattle.planus_view.specs.declared.vector_of.VectorOf.{VectorOf}
use Rattle.planus.specs.Accessors.{TableIsThere, IsViewOf}
use Rattle.planus.specs.ItemAccessors.{GetsTable, IsItemRead, IsTextItem, IsTableItem}
use Rattle.planus.specs.ReadBack.{TableHolds}
use Rattle.planus.specs.ReadKinds.{reads_text, reads_view}
use Rattle.planus.specs.ReadVectors.{ItemsAreTables}
use Rattle.planus.specs.Views.{reads_as, IsSameView}
use Rattle.planus.specs.declared.tables.kind.table_ref.TableRef.{TableRef}
use Rattle.planus.proofs.Accessors.{the_table}

module _ {T R : Type 0} {kind : PlainGhosts R} where
  abbrev pub Gets : {A : Type 0} → Reads A → List ℕ → VectorOf (SliceView T R kind) → ℕ
      → Option (Result A Error) → Type 0
  Gets reads name = GetsItem (λ (v : VectorOf (SliceView T R kind)). count_of v)
      (λ v i x. Converted
      (Located (reads (view_of v).bytes (view_of v).start (i * kind.SIZE)) name item_method (view_of v).start)
      (λ (e f : Error). f ≡ e) x)

  abbrev pub IsItem : {A : Type 0} → Reads A → List ℕ → VectorOf (SliceView T R kind) → ℕ
      → Option (Result A Error) → Type 0
  IsItem reads name =
      GetsItem (λ (v : VectorOf (SliceView T R kind)). count_of v) (IsItemRead reads name)

  item_answered : {A : Type 0} (reads : Reads A) (name : List ℕ)
      (vector : VectorOf (SliceView T R kind)) (index : ℕ) (r : Option (Result A Error))
      → Gets reads name vector index r → IsItem reads name vector index r
  item_answered reads name vector index None h = h
  item_answered reads name vector index (Some (Ok x)) h = h
  item_answered reads name vector index (Some (Err e)) h = (
    h.0,
    subst
        (λ (e : Error). Located
        (reads (view_of vector).bytes (view_of vector).start (index * kind.SIZE)) name item_method
        (view_of vector).start (Err e))
        (sym h.1.2) h.1.1,
  )

  item_there : {A X : Type 0} (reads : Reads A) (name : List ℕ)
      (vector : VectorOf (SliceView T R kind)) (index : ℕ) (r : Option (Result A Error))
      (xs : List X) (x : X) (P : A → Type 0) → IsItem reads name vector index r
      → count_of vector ≡ length xs → slice_get xs index ≡ Some x
      → ((read : Result A Error) → IsItemRead reads name vector index read → IsOkAnd read P)
      → IsSomeAnd r (λ item. IsOkAnd item P)
  item_there reads name vector index None xs x P h count there each =
      absurd (let within = slice_get_within xs index x there in omega (arith, within, h, count))
  item_there reads name vector index (Some read) xs x P h count there each = each read h.1

  pub text_item_read : (vector : VectorOf (SliceView T R kind)) (index : ℕ)
      (r : Option (Result (Bor (List ℕ)) Error)) → Gets reads_text texts_name vector index r
      → IsTextItem vector index r
  text_item_read vector index r h =
      let answer = item_answered reads_text texts_name vector index r h in
      record {
        answer = answer;
        read_back = λ texts bytes are there utf8.
            item_there reads_text texts_name vector index r texts bytes (λ found. found.now ≡ bytes)
            answer are.count there
            (λ read h. are.item index bytes there utf8 texts_name item_method (view_of vector).start
            read h);
      }

  view_is_of : (K : Type 0) (B : List ℕ) (distance : ℕ) (vector : VectorOf (SliceView T R kind))
      (index : ℕ) (distances : List ℕ) → ItemsAreTables kind K B distances vector
      → slice_get distances index ≡ Some distance → TableIsThere B distance → (name : List ℕ)
      → (read : Result (TableRef K) Error) → IsItemRead (reads_view K) name vector index read
      → IsOkAnd read (IsViewOf (λ (view : TableRef K). view.table) B distance)
  view_is_of K B distance vector index distances are at stands name (Ok view) h =
      λ contents there.
      are.item index distance contents at there name item_method (view_of vector).start (Ok view) h
  view_is_of K B distance vector index distances are at stands name (Err e) h =
      are.item index distance stands.0 at stands.1 name item_method (view_of vector).start (Err e) h

  viewed : (K : Type 0) (name : List ℕ) (vector : VectorOf (SliceView T R kind)) (index : ℕ)
      (r : Option (Result (TableRef K) Error)) → IsItem (reads_view K) name vector index r
      → IsItem (reads_as (λ (view : TableRef K). view.table)) name vector index r
  viewed K name vector index None h = h
  viewed K name vector index (Some (Ok view)) h = h
  viewed K name vector index (Some (Err e)) h = h

  pub table_item_read : (K : Type 0) (name : List ℕ) (vector : VectorOf (SliceView T R kind))
      (index : ℕ) (r : Option (Result (TableRef K) Error)) → Gets (reads_view K) name vector index r
      → IsTableItem K name (λ (view : TableRef K). view.table) vector index r
  table_item_read K name vector index r h =
      let answer = item_answered (reads_view K) name vector index r h in
      record {
        answer = viewed K name vector index r answer;
        read_back = λ B distances distance are at there.
            item_there (reads_view K) name vector index r distances distance
            (IsViewOf (λ (view : TableRef K). view.table) B distance) answer are.count at
            (λ read h. view_is_of K B distance vector index distances are at there name read h);
      }

module _ {T R V : Type 0} {kind : PlainGhosts R} (K : Type 0) (name : List ℕ) (table_of : V → Table)
    (vector : VectorOf (SliceView T R kind)) (index : ℕ) where
  abbrev IsOne : Option (Result (TableRef K) Error) → Type 0
  IsOne = IsTableItem K name (λ (view : TableRef K). view.table) vector index

  found_so : (found : TableRef K) (view : V) → table_of view ≡ found.table → IsOne (Some (Ok found))
      → IsTableItem K name table_of vector index (Some (Ok view))
  found_so found view same is = record {
    answer = subst
        (λ (t : Table). GetsItem (λ (v : VectorOf (SliceView T R kind)). count_of v)
        (IsItemRead (reads_as the_table) name) vector index (Some (Ok t)))
        (sym same) is.answer;
    read_back = λ B distances distance are at there contents stands.
        subst (TableHolds B contents) (sym same)
        (is.read_back B distances distance are at there contents stands);
  }

  refused_so : (e : Error) → IsOne (Some (Err e)) → IsTableItem K name table_of vector index (Some (Err e))
  refused_so e is = record {
    answer = is.answer;
    read_back = λ B distances distance are at there. elim (is.read_back B distances distance are at there) [ ];
  }

  viewed_so : (read : Result (TableRef K) Error) (r : Result V Error) → IsSameView table_of read r
      → IsOne (Some read) → IsTableItem K name table_of vector index (Some r)
  viewed_so (Ok found) (Ok view) same is = found_so found view same is
  viewed_so (Ok found) (Err e) same is = elim same [ ]
  viewed_so (Err e) (Ok view) same is = elim same [ ]
  viewed_so (Err e) (Err other) same is =
      subst (λ (e : Error). IsTableItem K name table_of vector index (Some (Err e))) (sym same)
      (refused_so e is)

  pub table_item_is : (read : Result (TableRef K) Error) (r : Result V Error)
      → IsSameView table_of read r → GetsTable K name vector index (Some read)
      → IsTableItem K name table_of vector index (Some r)
  table_item_is read r same gets =
      viewed_so read r same (table_item_read K name vector index (Some read) gets)

  pub no_table_item : GetsTable K name vector index None
      → IsTableItem {V = V} K name table_of vector index None
  no_table_item gets =
      let is = table_item_read K name vector index None gets in
      record {
        answer = is.answer;
        read_back = λ B distances distance are at there. elim (is.read_back B distances distance are at there) [ ];
      }

module _ {V R : Type 0} {kind : PlainGhosts R} (K : Type 0) (name : List ℕ) (table_of : V → Table)
    (vector : VectorOf (SliceView (Result V Error) R kind)) (index : ℕ) where
  item_is_of : (B : List ℕ) (distance : ℕ) (distances : List ℕ)
      → ItemsAreTables kind K B distances vector → slice_get distances index ≡ Some distance
      → TableIsThere B distance → (read : Result V Error)
      → IsItemRead (reads_as table_of) name vector index read
      → IsOkAnd read (IsViewOf table_of B distance)
  item_is_of B distance distances are at there (Ok view) h = λ contents stands.
      are.item index distance contents at stands name item_method (view_of vector).start
      (Ok (record { table = table_of view; _marker = record {} })) h
  item_is_of B distance distances are at there (Err e) h =
      are.item index distance there.0 at there.1 name item_method (view_of vector).start (Err e) h

  pub table_view_read : (r : Option (Result V Error))
      → Gets (reads_as table_of) name vector index r → IsTableItem K name table_of vector index r
  table_view_read r h =
      let answer = item_answered (reads_as table_of) name vector index r h in
      record {
        answer = answer;
        read_back = λ B distances distance are at there.
            item_there (reads_as table_of) name vector index r distances distance
            (IsViewOf table_of B distance) answer are.count at
            (λ read h. item_is_of B distance distances are at there read h);
      }
