-- What is read of a field of each kind.
use Rattle.std.proofs.Common.{◌≡◌, ℕ, ◌+◌, List, drop, subst, Result}
use Rattle.std.specs.Prelude.{IsOkAnd, ⊤}
use Rattle.std.specs.Borrow.{Bor}
use Rattle.std.specs.Str.{IsUtf8}
use Rattle.planus_read.specs.declared.errors.ErrorKind.{ErrorKind}
use Rattle.planus_read.specs.Bytes.{position_of}
use Rattle.planus_read.specs.Slices.{ShowsBytes}
use Rattle.planus_read.specs.Reading.{text_reading, byte_list_reading}
use Rattle.planus_read.specs.Stands.{at, FieldStands}
use Rattle.planus_read.specs.Values.{Field, text, byte_list}
use Rattle.planus_read.proofs.SliceLaws.{references_lead}
use Rattle.planus_read.proofs.ReadingLaws.{is_shown, lawful_text, lawful_byte_list}
use Rattle.planus_read.proofs.ReadsBack.{what_stands_reads_back}
use Rattle.planus_write.specs.Contents.{value}
use Rattle.planus.specs.ReadBack.{FieldHolds}
use Rattle.planus.specs.ReadKinds.{TextsReadBack, ByteListsReadBack}
use Rattle.planus.specs.ReadKinds.{reads_text, reads_bytes}
use Rattle.planus.proofs.ReadBack.{contents_read_back}

pub texts_read_back : TextsReadBack
texts_read_back = contents_read_back reads_text (λ B bytes. IsUtf8 bytes)
    (λ bytes. value (text bytes)) (λ B bytes lent. lent.now ≡ bytes) answered
  where
    answered : (B bytes : List ℕ) (field : Field) → IsUtf8 bytes → FieldHolds B (value (text bytes)) field
        → (start f : ℕ) → FieldStands B (start + f) field → (r : Result (Bor (List ℕ)) ErrorKind)
        → reads_text (drop start B) start f r → IsOkAnd r (λ lent. lent.now ≡ bytes)
    answered B bytes field utf8 holds start f stands r h =
        let refers = subst (λ (field : Field). FieldStands B (start + f) field) holds.1 stands in
        let leads = references_lead B (start + f) holds.0 refers in
        let read = what_stands_reads_back B (at (position_of B holds.0)) (text bytes) utf8 holds.2
        start f leads in
        is_shown (text_reading (drop start B) f) ShowsBytes (lawful_text (drop start B) f) bytes
        read.there r h

pub byte_lists_read_back : ByteListsReadBack
byte_lists_read_back = contents_read_back reads_bytes (λ B bytes. ⊤)
    (λ bytes. value (byte_list bytes)) (λ B bytes lent. lent.now ≡ bytes) answered
  where
    answered : (B bytes : List ℕ) (field : Field) → ⊤ → FieldHolds B (value (byte_list bytes)) field
        → (start f : ℕ) → FieldStands B (start + f) field → (r : Result (Bor (List ℕ)) ErrorKind)
        → reads_bytes (drop start B) start f r → IsOkAnd r (λ lent. lent.now ≡ bytes)
    answered B bytes field may holds start f stands r h =
        let refers = subst (λ (field : Field). FieldStands B (start + f) field) holds.1 stands in
        let leads = references_lead B (start + f) holds.0 refers in
        let read = what_stands_reads_back B (at (position_of B holds.0)) (byte_list bytes) tt holds.2
        start f leads in
        is_shown (byte_list_reading (drop start B) f) ShowsBytes (lawful_byte_list (drop start B) f)
        bytes read.there r h
