-- What is written of a file of buffers.
use Rattle.std.specs.Prelude.{◌≡◌, ◌⊎◌, ℕ, Bool, true, false, ◌&&◌, not, nat_lt, List, [], ◌∷◌, ◌++◌, codes}
use Rattle.std.specs.Prelude.{◌+◌, ◌-◌, ◌==◌, if◌then◌else◌, MatchBool}
use Rattle.std.specs.Prelude.{position, take, drop, length, max, Option, Some, None}
use Rattle.std.specs.Option.{option_map}
use Rattle.std.specs.Fmt.{decimal}
use Rattle.std.specs.Str.{bytes_eq}
use Rattle.std.specs.Io.KnownBytes.{Appends, Keeps}
use Rattle.planus_dump.specs.declared.schemas.Schema.{Schema as Dumped}
use Rattle.planus_inspect.specs.Shown.{Shows}
use Rattle.planus_dump.specs.Dumped.{events_of}
use Rattle.planus_dump.specs.Views.{Viewed, IsTold}
use Rattle.planus_dump.specs.declared.views.Seen.{Seen}
use Rattle.planus_dump.specs.declared.end.End.{End}
use Rattle.planus_dump.specs.declared.end.End.TheVariants.{TooManyLines, TooManyBytes}
use Rattle.planus_cli.specs.declared.view.Lead.{Lead}
use Rattle.planus_cli.specs.declared.view.One.{One}
use Rattle.planus_cli.specs.declared.view.View.{View}
use Rattle.planus_cli.specs.declared.view.Viewing.{Viewing}
use Rattle.planus_cli.specs.declared.viewing.Limits.{Limits}
use Rattle.planus_cli.specs.Shown.{shown}
use Rattle.planus_cli.specs.Arguments.{WordsV, limit_of}
use Rattle.planus_cli.specs.SchemaTexts.{line_of}
use Rattle.planus_cli.specs.Viewing.{WritesView, FailsViewing, SplitsSized, EndsEarly}
use Rattle.planus_cli.specs.Viewing.{end_text, is_clean, is_cut}
use Rattle.planus_cli.specs.declared.streams.CallError.{CallError}
use Rattle.planus_cli.specs.declared.streams.CallError.TheVariants.{OutOfMemory}
use Rattle.planus_dump.specs.Writing.{WritesBeginning}
use Rattle.planus_schema.specs.declared.schema.Body.{Body}
use Rattle.planus_schema.specs.declared.schema.Body.TheVariants as body
use Rattle.planus_schema.specs.declared.schema.Declared.{Declared}
use Rattle.planus_schema.specs.declared.schema.Schema.{Schema}

abbrev pub is_table : Body → Bool
is_table (body.Table t) = true
is_table (body.Struct s) = false
is_table (body.Enum e) = false
is_table (body.Union u) = false

abbrev pub is_table_named : List ℕ → Declared → Bool
is_table_named name d = is_table d.body && bytes_eq d.name.items name

-- the index of the named table, or else of the schema's root
abbrev pub root_of : Schema → Option (List ℕ) → Option ℕ
root_of schema (Some name) = position (is_table_named name) schema.declarations.items
root_of schema None = schema.statements.root

abbrev pub no_root_text : Option (List ℕ) → List ℕ
no_root_text (Some name) = codes "planus: the schema has no table `" ++ (shown name ++ codes "`\n")
no_root_text None = codes "planus: the schema has no root; see --root\n"

-- bytes 4 to 7 of a buffer are its identifier
abbrev pub has_identifier : List ℕ → List ℕ → Bool
has_identifier identifier bytes =
    not (nat_lt (length bytes) 8) && bytes_eq (take 4 (drop 4 bytes)) identifier

abbrev pub has_identifier_of : Option (List ℕ) → List ℕ → Bool
has_identifier_of None bytes = true
has_identifier_of (Some identifier) bytes = has_identifier identifier bytes

abbrev pub other_identifier_text : List ℕ → List ℕ → List ℕ
other_identifier_text name identifier = codes "planus: " ++ (shown name
    ++ (codes " doesn't have the identifier `" ++ (shown identifier ++ codes "`\n")))

-- no message for a buffer with the schema's identifier
abbrev pub SaysOther : Option (List ℕ) → List ℕ → Bool → Option (List ℕ) → Option (List ℕ) → Type 0
SaysOther None name known unsaid said = Keeps unsaid said
SaysOther (Some identifier) name true unsaid said = Keeps unsaid said
SaysOther (Some identifier) name false unsaid said =
    Appends unsaid said (other_identifier_text name identifier)

-- `known`: a buffer has the schema's identifier; else a message is written.
pub record ChecksIdentifier (identifier : Option (List ℕ)) (name bytes : List ℕ) (known : Bool)
    (unsaid said : Option (List ℕ)) : Type 0 where
  pub known_is : known ≡ has_identifier_of identifier bytes
  pub told : SaysOther identifier name known unsaid said

-- a beginning of the message was written
pub record FailsIdentifier (identifier : Option (List ℕ)) (name bytes : List ℕ)
    (unsaid said : Option (List ℕ)) : Type 0 where
  pub wanted : List ℕ
  pub is : identifier ≡ Some wanted
  pub other : has_identifier wanted bytes ≡ false
  pub told : WritesBeginning (other_identifier_text name wanted) unsaid said

-- how buffers of a file are viewed: their identifier, by which schema, and how much of each
pub record Look : Type 0 where
  pub identifier : Option (List ℕ)
  pub schema : Dumped
  pub lines : ℕ
  pub bytes : ℕ
  pub name : List ℕ

abbrev pub status_of : Bool → ℕ
status_of true = 0
status_of false = 1

-- `known`: the buffer has the schema's identifier.
abbrev pub one_of : Bool → Seen → One
one_of known seen = record {
  status = status_of (known && is_clean seen.end seen.has_fault);
  is_cut = is_cut seen.end;
  left = record { lines = seen.lines_left; bytes = seen.bytes_left };
}

-- A buffer's lines were written, and what is wrong with its identifier. The status is 0 if all is
-- shown and nothing is wrong.
pub record ViewsOne (look : Look) (bytes : List ℕ) (one : One)
    (before after unsaid said : Option (List ℕ)) : Type 0 where
  pub known : Bool
  pub seen : Seen
  pub told : ChecksIdentifier look.identifier look.name bytes known unsaid said
  pub written : WritesView look.schema bytes look.lines look.bytes seen before after
  pub is : one ≡ one_of known seen

-- the same, of a file that is one buffer
abbrev pub ViewsAlone : Look → List ℕ → ℕ → Option (List ℕ) → Option (List ℕ)
    → Option (List ℕ) → Option (List ℕ) → Type 0
ViewsAlone look bytes status before after unsaid said =
    (one : One) × ViewsOne look bytes one before after unsaid said × (status ≡ one.status)

-- A beginning of what is said of the identifier was written; or all of it, and a beginning of the
-- lines.
abbrev pub FailsOne : Look → List ℕ → CallError → Option (List ℕ) → Option (List ℕ)
    → Option (List ℕ) → Option (List ℕ) → Type 0
FailsOne look bytes error before after unsaid said =
    (Keeps before after × FailsIdentifier look.identifier look.name bytes unsaid said)
    ⊎ ((known : Bool) × ChecksIdentifier look.identifier look.name bytes known unsaid said
    × FailsViewing look.schema bytes look.lines look.bytes error before after)

-- No bytes are left, and the status is the worst before; or they end before a buffer does.
abbrev pub EndsSized : List ℕ → List ℕ → ℕ → ℕ → Option (List ℕ) → Option (List ℕ)
    → Option (List ℕ) → Option (List ℕ) → Type 0
EndsSized name [] worst status before after unsaid said =
    (status ≡ worst) × Keeps before after × Keeps unsaid said
EndsSized name (b ∷ bs) worst status before after unsaid said =
    (status ≡ 1) × EndsEarly (b ∷ bs) × Keeps before after
    × Appends unsaid said (line_of [] name (codes " ends before a buffer does"))

-- the line before a buffer of several: which it is, and where its first byte stands in the file
abbrev pub header_text : ℕ → ℕ → List ℕ
header_text number at =
    codes "buffer " ++ (decimal number ++ (codes " at byte " ++ (decimal at ++ codes ":")))

-- the limit that has no room for a line
abbrev pub limit_reached : Limits → List ℕ → Option End
limit_reached limits text = if limits.lines == 0 then Some TooManyLines
    else if nat_lt limits.bytes (length text) then Some TooManyBytes else None

-- what a line leaves of the limits
abbrev pub limits_after : Limits → List ℕ → Limits
limits_after limits text = record {
  lines = limits.lines - 1;
  bytes = limits.bytes - length text;
}

-- what is written before a buffer, whether it is left out, and what is left of the limits
pub record LeadV : Type 0 where
  pub text : List ℕ
  pub is_cut : Bool
  pub left : Limits

abbrev pub lead_view : Lead → LeadV
lead_view lead = record { text = lead.text.items; is_cut = lead.is_cut; left = lead.left }

-- the line, or why no more follows if a limit has no room for it
abbrev pub lead_of : Limits → List ℕ → LeadV
lead_of limits text = by_limit (limit_reached limits text)
  where
    by_limit : Option End → LeadV
    by_limit (Some end) = record { text = end_text end; is_cut = true; left = limits }
    by_limit None = record {
      text = text ++ 10 ∷ [];
      is_cut = false;
      left = limits_after limits text;
    }

abbrev pub cut_one : Limits → One
cut_one left = record { status = 1; is_cut = true; left = left }

abbrev pub look_left : Look → Limits → Look
look_left look left = record look { lines = left.lines; bytes = left.bytes }

abbrev pub limits_of : Look → Limits
limits_of look = record { lines = look.lines; bytes = look.bytes }

-- No more is written, or the buffer is viewed by what is left of the limits.
abbrev pub ViewsAfter : Look → LeadV → List ℕ → One → Option (List ℕ) → Option (List ℕ)
    → Option (List ℕ) → Option (List ℕ) → Type 0
ViewsAfter look lead buffer one before after unsaid said = MatchBool lead.is_cut
    ((one ≡ cut_one lead.left) × Keeps before after × Keeps unsaid said)
    (ViewsOne (look_left look lead.left) buffer one before after unsaid said)

-- The line before a buffer and the buffer's lines were written, as far as the limits go.
pub record ViewsNext (look : Look) (header buffer : List ℕ) (one : One)
    (before after unsaid said : Option (List ℕ)) : Type 0 where
  pub between : Option (List ℕ)
  pub led : Appends before between (lead_of (limits_of look) header).text
  pub viewed : ViewsAfter look (lead_of (limits_of look) header) buffer one between after
      unsaid said

-- A beginning of what comes before the buffer was written; or all of it, and viewing failed.
abbrev pub FailsNext : Look → List ℕ → List ℕ → CallError → Option (List ℕ) → Option (List ℕ)
    → Option (List ℕ) → Option (List ℕ) → Type 0
FailsNext look header buffer error before after unsaid said =
    (WritesBeginning (lead_of (limits_of look) header).text before after × Keeps unsaid said)
    ⊎ ((between : Option (List ℕ))
    × Appends before between (lead_of (limits_of look) header).text
    × ((lead_of (limits_of look) header).is_cut ≡ false)
    × FailsOne (look_left look (lead_of (limits_of look) header).left) buffer error
    between after unsaid said)

-- The first buffer was viewed, and then what follows it. Before it are so many buffers and bytes.
pub record ViewsFirst (look : Look) (number at : ℕ) (buffer bytes : List ℕ)
    (before unsaid : Option (List ℕ))
    (Follows : List ℕ → One → Option (List ℕ) → Option (List ℕ) → Type 0) : Type 0 where
  pub rest : List ℕ
  pub one : One
  pub written : Option (List ℕ)
  pub said : Option (List ℕ)
  pub split : SplitsSized bytes buffer rest
  pub first : ViewsNext look (header_text (number + 1) (at + 4)) buffer one before written
      unsaid said
  pub follows : Follows rest one written said

-- Nothing follows a buffer at which a limit was reached.
pub record EndsCut (buffers : List (List ℕ)) (worst status : ℕ)
    (before after unsaid said : Option (List ℕ)) : Type 0 where
  pub last : buffers ≡ []
  pub is : status ≡ worst
  pub kept : Keeps before after
  pub unsaid_kept : Keeps unsaid said

-- These buffers, each after its size, were viewed in order, by the limits for all of them. `worst`
-- is the greatest status of those before.
abbrev pub ViewsSized : Look → ℕ → ℕ → List (List ℕ) → List ℕ → ℕ → ℕ → Option (List ℕ)
    → Option (List ℕ) → Option (List ℕ) → Option (List ℕ) → Type 0
ViewsSized look number at [] bytes worst status before after unsaid said =
    EndsSized look.name bytes worst status before after unsaid said
ViewsSized look number at (buffer ∷ buffers) bytes worst status before after unsaid said =
    ViewsFirst look number at buffer bytes before unsaid (λ rest one written told.
    MatchBool one.is_cut
    (EndsCut buffers (max worst one.status) status written after told said)
    (ViewsSized (look_left look one.left) (number + 1) (at + (4 + length buffer)) buffers rest
    (max worst one.status) status written after told said))

-- Viewing the next buffer failed, or saying that the bytes end before it does.
abbrev pub FailsThere : Look → ℕ → ℕ → List ℕ → CallError → Option (List ℕ) → Option (List ℕ)
    → Option (List ℕ) → Option (List ℕ) → Type 0
FailsThere look number at bytes error before after unsaid said =
    ((buffer : List ℕ) × (rest : List ℕ) × SplitsSized bytes buffer rest
    × FailsNext look (header_text (number + 1) (at + 4)) buffer error before after unsaid said)
    ⊎ (EndsEarly bytes × Keeps before after × WritesBeginning
    (line_of [] look.name (codes " ends before a buffer does")) unsaid said)

-- These buffers, each after its size, were viewed in order, and the next failed.
abbrev pub FailsSized : Look → ℕ → ℕ → List (List ℕ) → List ℕ → CallError → Option (List ℕ)
    → Option (List ℕ) → Option (List ℕ) → Option (List ℕ) → Type 0
FailsSized look number at [] bytes error before after unsaid said =
    FailsThere look number at bytes error before after unsaid said
FailsSized look number at (buffer ∷ buffers) bytes error before after unsaid said =
    ViewsFirst look number at buffer bytes before unsaid (λ rest one written told.
    (one.is_cut ≡ false) × FailsSized (look_left look one.left) (number + 1)
    (at + (4 + length buffer)) buffers rest error written after told said)

-- One buffer failed to be viewed, or one of several.
abbrev pub FailsViews : Bool → Look → List ℕ → CallError → Option (List ℕ) → Option (List ℕ)
    → Option (List ℕ) → Option (List ℕ) → Type 0
FailsViews false look bytes error before after unsaid said =
    FailsOne look bytes error before after unsaid said
FailsViews true look bytes error before after unsaid said =
    (buffers : List (List ℕ)) × FailsSized look 0 0 buffers bytes error before after unsaid said

-- One buffer was viewed, or several, each after its size.
abbrev pub Views : Bool → Look → List ℕ → ℕ → Option (List ℕ) → Option (List ℕ)
    → Option (List ℕ) → Option (List ℕ) → Type 0
Views false look bytes status before after unsaid said =
    ViewsAlone look bytes status before after unsaid said
Views true look bytes status before after unsaid said =
    (buffers : List (List ℕ)) × ViewsSized look 0 0 buffers bytes 0 status before after unsaid said

-- whether the first line of a view of all bytes states no error
pub record ReadsRoot (schema : Dumped) (bytes : List ℕ) (reads : Bool) : Type 0 where
  pub lines : List (List ℕ)
  pub seen : Seen
  pub told : IsTold (events_of schema bytes) lines 1 18446744073709551615 seen
  pub viewed : Viewed schema bytes 1 18446744073709551615 lines seen.end
  pub is : reads ≡ not seen.has_fault

-- whether the bytes begin with a size and a buffer of this size, of which the same holds
abbrev pub ReadsFirst : Dumped → List ℕ → Bool → Type 0
ReadsFirst schema bytes reads = (EndsEarly bytes × (reads ≡ false))
    ⊎ ((buffer : List ℕ) × (rest : List ℕ) × SplitsSized bytes buffer rest
    × ReadsRoot schema buffer reads)

-- Said is that the other way may be meant: that can be read at its root, and this can't.
abbrev pub advice_of : Bool → Bool → Bool → Option (List ℕ)
advice_of false false true =
    Some (codes " may hold buffers, each after its size; see --size-prefixed")
advice_of true true false =
    Some (codes " may be a buffer without its size; leave out --size-prefixed")
advice_of prefixed whole first = None

abbrev pub SaysAdvice : Option (List ℕ) → List ℕ → Option (List ℕ) → Option (List ℕ) → Type 0
SaysAdvice None name unsaid said = Keeps unsaid said
SaysAdvice (Some text) name unsaid said = Appends unsaid said (line_of [] name text)

-- The advice was said, if there is one.
pub record Advises (look : Look) (prefixed : Bool) (bytes : List ℕ)
    (unsaid said : Option (List ℕ)) : Type 0 where
  pub whole : Bool
  pub first : Bool
  pub whole_is : ReadsRoot look.schema bytes whole
  pub first_is : ReadsFirst look.schema bytes first
  pub told : SaysAdvice (advice_of prefixed whole first) look.name unsaid said

-- a beginning of the advice was said
pub record BeginsAdvice (look : Look) (prefixed : Bool) (bytes : List ℕ)
    (unsaid said : Option (List ℕ)) : Type 0 where
  pub whole : Bool
  pub first : Bool
  pub text : List ℕ
  pub whole_is : ReadsRoot look.schema bytes whole
  pub first_is : ReadsFirst look.schema bytes first
  pub is : advice_of prefixed whole first ≡ Some text
  pub told : WritesBeginning (line_of [] look.name text) unsaid said

-- Memory was refused before anything was said, or a beginning of the advice was.
abbrev pub FailsAdvising : Look → Bool → List ℕ → Option (List ℕ) → Option (List ℕ) → Type 0
FailsAdvising look prefixed bytes unsaid said =
    Keeps unsaid said ⊎ BeginsAdvice look prefixed bytes unsaid said

-- The buffers were viewed, and then the advice was said.
abbrev pub ViewsAdvised : Bool → Look → List ℕ → ℕ → Option (List ℕ) → Option (List ℕ)
    → Option (List ℕ) → Option (List ℕ) → Type 0
ViewsAdvised prefixed look bytes status before after unsaid said =
    (told : Option (List ℕ)) × Views prefixed look bytes status before after unsaid told
    × Advises look prefixed bytes told said

-- Viewing failed, or saying the advice after it.
abbrev pub FailsAdvised : Bool → Look → List ℕ → CallError → Option (List ℕ) → Option (List ℕ)
    → Option (List ℕ) → Option (List ℕ) → Type 0
FailsAdvised prefixed look bytes error before after unsaid said =
    FailsViews prefixed look bytes error before after unsaid said
    ⊎ ((status : ℕ) × (told : Option (List ℕ))
    × Views prefixed look bytes status before after unsaid told
    × FailsAdvising look prefixed bytes told said)

abbrev pub look_by : Schema → Dumped → Limits → List ℕ → Look
look_by schema shows limits name = record {
  identifier = option_map (λ v. v.items) schema.statements.identifier;
  schema = shows;
  lines = limits.lines;
  bytes = limits.bytes;
  name = name;
}

abbrev pub look_of : View → Look
look_of view = look_by view.schema.now view.shown.now view.limits view.name.now

-- The buffers of a file were viewed by a schema.
pub record ViewsBytes (schema : Schema) (how : Viewing) (name bytes : List ℕ) (status : ℕ)
    (before after unsaid said : Option (List ℕ)) : Type 0 where
  pub dumped : Dumped
  pub shows : Shows schema how.root dumped
  pub views : ViewsAdvised how.size_prefixed (look_by schema dumped how.limits name) bytes status
      before after unsaid said

-- The buffers of a file failed to be viewed by a schema.
pub record FailsFile (schema : Schema) (how : Viewing) (name bytes : List ℕ) (error : CallError)
    (before after unsaid said : Option (List ℕ)) : Type 0 where
  pub dumped : Dumped
  pub shows : Shows schema how.root dumped
  pub fails : FailsAdvised how.size_prefixed (look_by schema dumped how.limits name) bytes error
      before after unsaid said

-- Memory was refused before anything was written, or the buffers failed to be viewed.
abbrev pub FailsBytes : Schema → Viewing → List ℕ → List ℕ → CallError → Option (List ℕ)
    → Option (List ℕ) → Option (List ℕ) → Option (List ℕ) → Type 0
FailsBytes schema how name bytes error before after unsaid said =
    ((error ≡ OutOfMemory) × Keeps before after × Keeps unsaid said)
    ⊎ FailsFile schema how name bytes error before after unsaid said

abbrev pub viewing_of : WordsV → ℕ → Viewing
viewing_of words root = record {
  root = root;
  size_prefixed = words.size_prefixed;
  limits = record { lines = limit_of words.lines 1000; bytes = limit_of words.bytes 1048576 };
}

-- It was said that there is no root, with status 2.
abbrev pub HasNoRoot : Option (List ℕ) → ℕ → Option (List ℕ) → Option (List ℕ)
    → Option (List ℕ) → Option (List ℕ) → Type 0
HasNoRoot name status before after unsaid said =
    (status ≡ 2) × Keeps before after × Appends unsaid said (no_root_text name)

-- The buffers were viewed with this root, or it was said that there is none, with status 2.
abbrev pub ViewsRoot : Option ℕ → Schema → WordsV → List ℕ → List ℕ → ℕ → Option (List ℕ)
    → Option (List ℕ) → Option (List ℕ) → Option (List ℕ) → Type 0
ViewsRoot (Some root) schema words name bytes status before after unsaid said =
    ViewsBytes schema (viewing_of words root) name bytes status before after unsaid said
ViewsRoot None schema words name bytes status before after unsaid said =
    HasNoRoot words.root status before after unsaid said

-- what `view` does with a schema and the bytes of a file, as these words say
abbrev pub ViewsBy : Schema → WordsV → List ℕ → List ℕ → ℕ → Option (List ℕ) → Option (List ℕ)
    → Option (List ℕ) → Option (List ℕ) → Type 0
ViewsBy schema words name bytes status before after unsaid said =
    ViewsRoot (root_of schema words.root) schema words name bytes status before after unsaid said

-- The buffers failed to be viewed with this root, or a beginning was said of that there is none.
abbrev pub FailsRoot : Option ℕ → Schema → WordsV → List ℕ → List ℕ → CallError
    → Option (List ℕ) → Option (List ℕ) → Option (List ℕ) → Option (List ℕ) → Type 0
FailsRoot (Some root) schema words name bytes error before after unsaid said =
    FailsBytes schema (viewing_of words root) name bytes error before after unsaid said
FailsRoot None schema words name bytes error before after unsaid said =
    Keeps before after × WritesBeginning (no_root_text words.root) unsaid said

-- what a `view` that fails has done with a schema and the bytes of a file, as these words say
abbrev pub FailsBy : Schema → WordsV → List ℕ → List ℕ → CallError → Option (List ℕ)
    → Option (List ℕ) → Option (List ℕ) → Option (List ℕ) → Type 0
FailsBy schema words name bytes error before after unsaid said =
    FailsRoot (root_of schema words.root) schema words name bytes error before after unsaid said
