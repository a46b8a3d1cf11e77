-- Reading tokens from left to right: a value, or the first error and how many tokens are left
-- there.
use Rattle.std.specs.Prelude.{◌≡◌, ℕ, zero, suc, Bool, true, false, not, ◌&&◌, ◌==◌, List, [], ◌∷◌}
use Rattle.std.specs.Prelude.{◌++◌, ◌<◌, length, codes, Option, Some, None, Result, Ok, Err}
use Rattle.std.specs.Prelude.{if◌then◌else◌}
use Rattle.std.specs.Str.{bytes_eq}
use Rattle.planus_syntax.specs.declared.parse_fault.ParseFault.{ParseFault}
use Rattle.planus_syntax.specs.declared.parse_fault.ParseFault.TheVariants as fault
use Rattle.planus_syntax.specs.declared.read_error.ReadError.{ReadError}
use Rattle.planus_syntax.specs.declared.read_error.ReadError.TheVariants as errors
use Rattle.planus_syntax.specs.Tokens.{Piece, word, number, text, doc, mark}
use Rattle.planus_syntax.specs.Layout.{is_mark_of}
use Rattle.planus_syntax.specs.Values.{Name, PathV, KindV, single, vector, array, LiteralV, numeral}
use Rattle.planus_syntax.specs.Values.{named, quote, nothing, LabelV, AttributeV, FieldV, RecordV}
use Rattle.planus_syntax.specs.Values.{VariantV, EnumerationV, MemberV, UnionV, MethodV, ServiceV}
use Rattle.planus_syntax.specs.Values.{ItemV, include, native_include, namespace, attribute, table, struct}
use Rattle.planus_syntax.specs.Values.{enumeration, union, service, root, identifier, extension}
use Rattle.planus_syntax.specs.Values.{DeclarationV, SchemaV, Before}

abbrev pub Fault : Type 0
Fault = ParseFault × ℕ

-- a value, and the tokens after it
abbrev pub Reads : Type 0 → Type 0
Reads A = Result (A × List Piece) Fault

infixl 10 ◌>>=◌
abbrev pub ◌>>=◌ : {A B : Type 0} → Result A Fault → (A → Result B Fault) → Result B Fault
(Ok x) >>= f = f x
(Err e) >>= f = Err e

-- the result equals what reading gives, or memory was refused
abbrev pub Fails : {Y : Type 0} → ReadError → Result Y Fault → Type 0
Fails errors.OutOfMemory read = Unit {0}
Fails (errors.Fault f left) read = read ≡ Err (f, left)

abbrev pub Gives : {X Y : Type 0} → (X → Y) → Result X ReadError → Result Y Fault → Type 0
Gives view (Ok x) read = read ≡ Ok (view x)
Gives view (Err e) read = Fails e read

abbrev pub begins_mark : ℕ → List Piece → Bool
begins_mark m [] = false
begins_mark m (p ∷ ps) = is_mark_of m p

abbrev pub begins_doc : List Piece → Bool
begins_doc [] = false
begins_doc (word w ∷ ps) = false
begins_doc (number w ∷ ps) = false
begins_doc (text w ∷ ps) = false
begins_doc (doc w ∷ ps) = true
begins_doc (mark b ∷ ps) = false

abbrev pub begins_text : List Piece → Bool
begins_text [] = false
begins_text (word w ∷ ps) = false
begins_text (number w ∷ ps) = false
begins_text (text w ∷ ps) = true
begins_text (doc w ∷ ps) = false
begins_text (mark b ∷ ps) = false

-- documentation or none, and then a closing brace
abbrev pub begins_closing : List Piece → Bool
begins_closing [] = false
begins_closing (word w ∷ ps) = false
begins_closing (number w ∷ ps) = false
begins_closing (text w ∷ ps) = false
begins_closing (doc w ∷ ps) = begins_closing ps
begins_closing (mark b ∷ ps) = b == 125

-- a comma that is not the last
abbrev pub begins_next : List Piece → Bool
begins_next [] = false
begins_next (p ∷ ps) = is_mark_of 44 p && not (begins_closing ps)

-- more than documentation
abbrev pub has_more : List Piece → Bool
has_more [] = false
has_more (word w ∷ ps) = true
has_more (number w ∷ ps) = true
has_more (text w ∷ ps) = true
has_more (doc w ∷ ps) = has_more ps
has_more (mark b ∷ ps) = true

abbrev pub inside : List Piece → Bool
inside [] = false
inside (p ∷ ps) = not (begins_closing (p ∷ ps))

abbrev pub mark_at : ℕ → List Piece → Result (List Piece) Fault
mark_at m [] = Err (fault.Mark m, 0)
mark_at m (p ∷ ps) = if is_mark_of m p then Ok ps else Err (fault.Mark m, length (p ∷ ps))

abbrev pub word_at : List Piece → Reads (Name)
word_at [] = Err (fault.Word, 0)
word_at (word w ∷ ps) = Ok (w, ps)
word_at (number w ∷ ps) = Err (fault.Word, suc (length ps))
word_at (text w ∷ ps) = Err (fault.Word, suc (length ps))
word_at (doc w ∷ ps) = Err (fault.Word, suc (length ps))
word_at (mark b ∷ ps) = Err (fault.Word, suc (length ps))

abbrev pub doc_at : List Piece → Reads (Name)
doc_at [] = Err (fault.Word, 0)
doc_at (word w ∷ ps) = Err (fault.Word, suc (length ps))
doc_at (number w ∷ ps) = Err (fault.Word, suc (length ps))
doc_at (text w ∷ ps) = Err (fault.Word, suc (length ps))
doc_at (doc w ∷ ps) = Ok (w, ps)
doc_at (mark b ∷ ps) = Err (fault.Word, suc (length ps))

abbrev pub number_at : List Piece → Reads (Name)
number_at [] = Err (fault.Number, 0)
number_at (word w ∷ ps) = Err (fault.Number, suc (length ps))
number_at (number w ∷ ps) = Ok (w, ps)
number_at (text w ∷ ps) = Err (fault.Number, suc (length ps))
number_at (doc w ∷ ps) = Err (fault.Number, suc (length ps))
number_at (mark b ∷ ps) = Err (fault.Number, suc (length ps))

abbrev pub text_at : List Piece → Reads (Name)
text_at [] = Err (fault.Text, 0)
text_at (word w ∷ ps) = Err (fault.Text, suc (length ps))
text_at (number w ∷ ps) = Err (fault.Text, suc (length ps))
text_at (text w ∷ ps) = Ok (w, ps)
text_at (doc w ∷ ps) = Err (fault.Text, suc (length ps))
text_at (mark b ∷ ps) = Err (fault.Text, suc (length ps))

abbrev pub label_at : List Piece → Reads (LabelV)
label_at [] = Err (fault.Word, 0)
label_at (word w ∷ ps) = Ok (record { quoted = false; name = w }, ps)
label_at (number w ∷ ps) = Err (fault.Word, suc (length ps))
label_at (text w ∷ ps) = Ok (record { quoted = true; name = w }, ps)
label_at (doc w ∷ ps) = Err (fault.Word, suc (length ps))
label_at (mark b ∷ ps) = Err (fault.Word, suc (length ps))

-- nothing is no item, and an item leaves fewer tokens
pub record Looped {A : Type 0} (goes : List Piece → Bool) (item : List Piece → Reads A) : Type 0
  where
    pub none : goes [] ≡ false
    pub shrinks : (ps : List Piece) (x : A × List Piece) → item ps ≡ Ok x → length x.1 < length ps

-- An item's tokens are those that were read.
abbrev pub Takes : {A : Type 0} → (List Piece → Reads A) → Before A → Type 0
Takes {A} item before = (ps : List Piece) (x : A × List Piece) → item ps ≡ Ok x
    → ps ≡ before x.0 x.1

abbrev pub Listed : {A : Type 0} → (List Piece → Bool) → (List Piece → Reads A) → Before A → Type 0
Listed goes item before = Looped goes item × Takes item before

-- items while the test holds, at most n
abbrev pub many : {A : Type 0} → (List Piece → Bool) → (List Piece → Reads A) → ℕ → List Piece
    → Reads (List A)
many goes item zero ps = Ok ([], ps)
many goes item (suc n) ps =
    if goes ps then (item ps >>= λ x. many goes item n x.1 >>= λ xs. Ok (x.0 ∷ xs.0, xs.1))
    else Ok ([], ps)

unfoldable pub list_at : {A : Type 0} → (List Piece → Bool) → (List Piece → Reads A) → List Piece
    → Reads (List A)
list_at goes item ps = many goes item (length ps) ps

abbrev pub with_items : {A : Type 0} → List A → Reads (List A) → Reads (List A)
with_items front read = read >>= λ x. Ok (front ++ x.0, x.1)

abbrev pub docs_at : List Piece → Reads (List (List ℕ))
docs_at ps = list_at begins_doc doc_at ps

unfoldable pub closing_at : List Piece → Reads (List (List ℕ))
closing_at ps = do
  docs ← docs_at ps
  end ← mark_at 125 docs.1
  Ok (docs.0, end)

unfoldable pub dotted_at : List Piece → Reads Name
dotted_at ps = mark_at 46 ps >>= λ dot. word_at dot

unfoldable pub path_at : List Piece → Reads PathV
path_at ps = do
  first ← word_at ps
  more ← list_at (begins_mark 46) dotted_at first.1
  Ok (record { first = first.0; more = more.0 }, more.1)

-- what follows a mark, if the mark is first
unfoldable pub optional_at : {A : Type 0} → ℕ → (List Piece → Reads A) → List Piece
    → Reads (Option A)
optional_at m item ps = if begins_mark m ps then (do
  start ← mark_at m ps
  x ← item start
  Ok (Some x.0, x.1)) else Ok (None, ps)

-- what is in brackets, with a number of items or without
abbrev pub kind_in_brackets : PathV → Option (List ℕ) → KindV
kind_in_brackets p None = vector p
kind_in_brackets p (Some w) = array p w

unfoldable pub kind_at : List Piece → Reads KindV
kind_at ps = if begins_mark 91 ps then (do
  start ← mark_at 91 ps
  path ← path_at start
  count ← optional_at 58 number_at path.1
  end ← mark_at 93 count.1
  Ok (kind_in_brackets path.0 count.0, end)) else (path_at ps >>= λ path. Ok (single path.0, path.1))

unfoldable pub brackets_at : List Piece → Reads LiteralV
brackets_at ps = do
  start ← mark_at 91 ps
  end ← mark_at 93 start
  Ok (nothing, end)

unfoldable pub name_at : List Piece → Reads LiteralV
name_at ps = path_at ps >>= λ path. Ok (named path.0, path.1)

abbrev pub literal_at : List Piece → Reads LiteralV
literal_at [] = Err (fault.Literal, 0)
literal_at (word w ∷ ps) = name_at (word w ∷ ps)
literal_at (number w ∷ ps) = Ok (numeral w, ps)
literal_at (text w ∷ ps) = Ok (quote w, ps)
literal_at (doc w ∷ ps) = Err (fault.Literal, suc (length ps))
literal_at (mark b ∷ ps) =
    if b == 91 then brackets_at (mark b ∷ ps) else Err (fault.Literal, suc (length ps))

unfoldable pub attribute_at : List Piece → Reads AttributeV
attribute_at ps = do
  label ← label_at ps
  value ← optional_at 58 literal_at label.1
  Ok (record { label = label.0; value = value.0 }, value.1)

unfoldable pub next_attribute_at : List Piece → Reads AttributeV
next_attribute_at ps = mark_at 44 ps >>= λ next. attribute_at next

unfoldable pub attributes_at : List Piece → Reads (List AttributeV)
attributes_at ps = if begins_mark 40 ps then (do
  start ← mark_at 40 ps
  first ← attribute_at start
  all ← with_items (first.0 ∷ []) (list_at (begins_mark 44) next_attribute_at first.1)
  end ← mark_at 41 all.1
  Ok (all.0, end)) else Ok ([], ps)

unfoldable pub field_at : List Piece → Reads FieldV
field_at ps = do
  docs ← docs_at ps
  name ← word_at docs.1
  colon ← mark_at 58 name.1
  kind ← kind_at colon
  default ← optional_at 61 literal_at kind.1
  attributes ← attributes_at default.1
  end ← mark_at 59 attributes.1
  Ok (
    record {
      docs = docs.0;
      name = name.0;
      kind = kind.0;
      default = default.0;
      attributes = attributes.0;
    },
    end,
  )

unfoldable pub record_at : List Piece → Reads RecordV
record_at ps = do
  name ← word_at ps
  attributes ← attributes_at name.1
  start ← mark_at 123 attributes.1
  fields ← list_at inside field_at start
  end ← closing_at fields.1
  Ok (
    record {
      name = name.0;
      attributes = attributes.0;
      fields = fields.0;
      trailing = end.0;
    },
    end.1,
  )

unfoldable pub comma_at : List Piece → Reads Bool
comma_at ps =
    if begins_mark 44 ps then (mark_at 44 ps >>= λ end. Ok (true, end)) else Ok (false, ps)

unfoldable pub variant_at : List Piece → Reads VariantV
variant_at ps = do
  docs ← docs_at ps
  name ← word_at docs.1
  value ← optional_at 61 number_at name.1
  Ok (record { docs = docs.0; name = name.0; value = value.0 }, value.1)

unfoldable pub next_variant_at : List Piece → Reads VariantV
next_variant_at ps = mark_at 44 ps >>= λ next. variant_at next

unfoldable pub variants_at : List Piece → Reads (List VariantV)
variants_at ps = do
  first ← variant_at ps
  with_items (first.0 ∷ []) (list_at begins_next next_variant_at first.1)

-- nothing before a closing brace, else this
abbrev pub if_inside : {A : Type 0} → (List Piece → Reads (List A)) → List Piece → Reads (List A)
if_inside read ps = if inside ps then read ps else Ok ([], ps)

unfoldable pub enumeration_at : List Piece → Reads EnumerationV
enumeration_at ps = do
  name ← word_at ps
  colon ← mark_at 58 name.1
  base ← path_at colon
  attributes ← attributes_at base.1
  start ← mark_at 123 attributes.1
  variants ← if_inside variants_at start
  comma ← comma_at variants.1
  end ← closing_at comma.1
  Ok (
    record {
      name = name.0;
      base = base.0;
      attributes = attributes.0;
      variants = variants.0;
      comma = comma.0;
      trailing = end.0;
    },
    end.1,
  )

unfoldable pub member_at : List Piece → Reads MemberV
member_at ps = do
  docs ← docs_at ps
  path ← path_at docs.1
  target ← optional_at 58 path_at path.1
  value ← optional_at 61 number_at target.1
  Ok (record { docs = docs.0; path = path.0; target = target.0; value = value.0 }, value.1)

unfoldable pub next_member_at : List Piece → Reads MemberV
next_member_at ps = mark_at 44 ps >>= λ next. member_at next

unfoldable pub members_at : List Piece → Reads (List MemberV)
members_at ps = do
  first ← member_at ps
  with_items (first.0 ∷ []) (list_at begins_next next_member_at first.1)

unfoldable pub union_at : List Piece → Reads UnionV
union_at ps = do
  name ← word_at ps
  attributes ← attributes_at name.1
  start ← mark_at 123 attributes.1
  members ← if_inside members_at start
  comma ← comma_at members.1
  end ← closing_at comma.1
  Ok (
    record {
      name = name.0;
      attributes = attributes.0;
      members = members.0;
      comma = comma.0;
      trailing = end.0;
    },
    end.1,
  )

unfoldable pub method_at : List Piece → Reads MethodV
method_at ps = do
  docs ← docs_at ps
  name ← word_at docs.1
  start ← mark_at 40 name.1
  request ← path_at start
  close ← mark_at 41 request.1
  colon ← mark_at 58 close
  response ← path_at colon
  attributes ← attributes_at response.1
  end ← mark_at 59 attributes.1
  Ok (
    record {
      docs = docs.0;
      name = name.0;
      request = request.0;
      response = response.0;
      attributes = attributes.0;
    },
    end,
  )

unfoldable pub service_at : List Piece → Reads ServiceV
service_at ps = do
  name ← word_at ps
  attributes ← attributes_at name.1
  start ← mark_at 123 attributes.1
  methods ← list_at inside method_at start
  end ← closing_at methods.1
  Ok (
    record {
      name = name.0;
      attributes = attributes.0;
      methods = methods.0;
      trailing = end.0;
    },
    end.1,
  )

unfoldable pub quoted_at : List Piece → Reads (List ℕ)
quoted_at ps = do
  string ← text_at ps
  end ← mark_at 59 string.1
  Ok (string.0, end)

unfoldable pub rooted_at : List Piece → Reads PathV
rooted_at ps = do
  path ← path_at ps
  end ← mark_at 59 path.1
  Ok (path.0, end)

unfoldable pub namespace_at : List Piece → Reads (Option PathV)
namespace_at ps =
    if begins_mark 59 ps then (mark_at 59 ps >>= λ end. Ok (None, end))
    else (rooted_at ps >>= λ path. Ok (Some path.0, path.1))

unfoldable pub declared_at : List Piece → Reads LabelV
declared_at ps = do
  label ← label_at ps
  end ← mark_at 59 label.1
  Ok (label.0, end)

abbrev pub as_item : {A : Type 0} → (A → ItemV) → Reads A → Reads ItemV
as_item make read = read >>= λ x. Ok (make x.0, x.1)

-- `left` counts the tokens from the statement's first word
unfoldable pub statement_at : Name → ℕ → List Piece → Reads ItemV
statement_at key left ps =
    if bytes_eq key (codes "include") then as_item include (quoted_at ps)
    else if bytes_eq key (codes "namespace") then as_item namespace (namespace_at ps)
    else if bytes_eq key (codes "attribute") then as_item attribute (declared_at ps)
    else if bytes_eq key (codes "root_type") then as_item root (rooted_at ps)
    else if bytes_eq key (codes "file_identifier") then as_item identifier (quoted_at ps)
    else if bytes_eq key (codes "file_extension") then as_item extension (quoted_at ps)
    else if bytes_eq key (codes "native_include") then as_item native_include (quoted_at ps)
    else Err (fault.Declaration, left)

unfoldable pub item_at : Name → ℕ → List Piece → Reads ItemV
item_at key left ps =
    if bytes_eq key (codes "table") then as_item table (record_at ps)
    else if bytes_eq key (codes "struct") then as_item struct (record_at ps)
    else if bytes_eq key (codes "enum") then as_item enumeration (enumeration_at ps)
    else if bytes_eq key (codes "union") then as_item union (union_at ps)
    else if bytes_eq key (codes "rpc_service") then as_item service (service_at ps)
    else statement_at key left ps

unfoldable pub declaration_at : List Piece → Reads DeclarationV
declaration_at ps = do
  docs ← docs_at ps
  key ← word_at docs.1
  item ← item_at key.0 (length docs.1) key.1
  Ok (record { docs = docs.0; item = item.0 }, item.1)

unfoldable pub schema_at : List Piece → Reads SchemaV
schema_at ps = do
  declarations ← list_at has_more declaration_at ps
  trailing ← docs_at declarations.1
  Ok (record { declarations = declarations.0; trailing = trailing.0 }, trailing.1)
