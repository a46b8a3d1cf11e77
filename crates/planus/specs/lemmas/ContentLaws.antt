-- The contents of fields.
use Rattle.std.specs.Prelude.{ℕ, [], ◌∷◌, ◌++◌, Option, Some, None, List}
use Rattle.std.proofs.Common.{refl}
use Rattle.planus_read.specs.Values.{Field}
use Rattle.planus_write.specs.History.{History}
use Rattle.planus_write.specs.Contents.{Content}
use Rattle.planus_fields.specs.Contents.{HoldsIf}
use Rattle.planus.specs.Contents.{FieldsAre, there_of}
use Rattle.planus.specs.TableFields.{field_in}
use Rattle.planus_write.specs.State.{Extends}
use Rattle.planus_write.specs.lemmas.ContentLaws.{field_stays}

pub fields_stay : (before after : History) (contents : List (ℕ × Content))
    (fields : List (ℕ × Field))
    → Extends before after → FieldsAre before contents fields → FieldsAre after contents fields
fields_stay before after [] [] extends are = tt
fields_stay before after (content ∷ contents) (field ∷ fields) extends are = (
  are.0,
  field_stays before after content.1 field.1 extends are.1,
  fields_stay before after contents fields extends are.2,
)
fields_stay before after [] (field ∷ fields) extends are = are
fields_stay before after (content ∷ contents) [] extends are = are

pub contents_both : (history : History) (contents tags : List (ℕ × Option Content))
    (fields others : List (ℕ × Field)) → FieldsAre history (there_of contents) fields
    → FieldsAre history (there_of tags) others
    → FieldsAre history (there_of (contents ++ tags)) (fields ++ others)
contents_both history [] tags [] others first second = second
contents_both history [] tags (field ∷ fields) others first second = elim first [ ]
contents_both history ((slot, None) ∷ contents) tags fields others first second =
    contents_both history contents tags fields others first second
contents_both history ((slot, Some content) ∷ contents) tags [] others first second = elim first [ ]
contents_both history ((slot, Some content) ∷ contents) tags (field ∷ fields) others first second =
    (first.0, first.1, contents_both history contents tags fields others first.2 second)

pub only_field
    : {A : Type 0} (history : History) (slot : ℕ) (content : Option Content) (field : A → Field)
    (prepared : Option A) → HoldsIf history content field prepared
    → FieldsAre history (there_of ((slot, content) ∷ [])) (field_in slot field prepared)
only_field history slot None field None holds = tt
only_field history slot (Some content) field (Some prepared) holds = (refl, holds, tt)
only_field history slot None field (Some prepared) holds = elim holds [ ]
only_field history slot (Some content) field None holds = elim holds [ ]
