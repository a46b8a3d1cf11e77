-- What is read of a field of each kind, for callers' contracts.
use Rattle.std.specs.Prelude.{◌≡◌, ℕ, List, ⊤}
use Rattle.std.specs.Borrow.{Bor}
use Rattle.std.specs.Str.{IsUtf8}
use Rattle.planus_read.specs.Clauses.{Answer, shown}
use Rattle.planus_read.specs.Slices.{ShowsBytes}
use Rattle.planus_read.specs.Reading.{text_reading, byte_list_reading, table_reading}
use Rattle.planus_read.specs.Tables.{Reads}
use Rattle.planus_read.specs.Values.{text, byte_list}
use Rattle.planus_write.specs.Contents.{value}
use Rattle.planus.specs.ReadBack.{ContentsReadBack}
use Rattle.planus.specs.Views.{ShowsView}
use Rattle.planus.specs.declared.tables.kind.table_ref.TableRef.{TableRef}

abbrev pub reads_text : Reads (Bor (List ℕ))
reads_text S start f r = Answer (shown ShowsBytes (text_reading S f)) r

abbrev pub reads_bytes : Reads (Bor (List ℕ))
reads_bytes S start f r = Answer (shown ShowsBytes (byte_list_reading S f)) r

abbrev pub reads_view : (K : Type 0) → Reads (TableRef K)
reads_view K S start f r = Answer (shown (ShowsView S start) (table_reading S f)) r

-- A UTF-8 string, or a byte vector, reads back.
abbrev pub TextsReadBack : Type 0
TextsReadBack =
    ContentsReadBack reads_text (λ B bytes. IsUtf8 bytes) (λ bytes. value (text bytes))
    (λ B bytes lent. lent.now ≡ bytes)

abbrev pub ByteListsReadBack : Type 0
ByteListsReadBack =
    ContentsReadBack reads_bytes (λ B bytes. ⊤) (λ bytes. value (byte_list bytes))
    (λ B bytes lent. lent.now ≡ bytes)
