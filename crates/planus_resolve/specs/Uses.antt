-- The names that a schema uses, in order, and those that flatc takes for another declaration.
--
-- As far as it was tried, flatc reads a schema once, and keeps a name that it does not know yet as it
-- is written. It takes a single word for the next table or struct whose name ends with it, in
-- whatever namespace, and words with dots for the one of exactly this full name. Until then each use
-- of the same words is the same name, wherever it stands. These definitions follow it declaration by
-- declaration. Each use that such a reading takes for another declaration than `found` is a fault,
-- among those that an error tells (`faults_found`). That flatc itself reads so is only tested.
use Rattle.std.specs.Prelude.{ℕ, ◌+◌, ◌==◌, ◌&&◌, Bool, nat_eq, nat_lt, codes}
use Rattle.std.specs.Prelude.{List, [], ◌∷◌, ◌++◌, length, position, if◌then◌else◌}
use Rattle.std.specs.Prelude.{slice_set, Option, Some, None, replicate}
use Rattle.std.specs.List.{list_any}
use Rattle.std.specs.Option.{option_map}
use Rattle.std.specs.Str.{bytes_eq}
use Rattle.std.specs.Global.{Vec}
use Rattle.planus_syntax.specs.Values.{Name, PathV, item_of, path_of, literal_of, member_of}
use Rattle.planus_syntax.specs.declared.value.Attribute.{Attribute}
use Rattle.planus_syntax.specs.declared.value.Declaration.{Declaration}
use Rattle.planus_syntax.specs.declared.value.Field.{Field}
use Rattle.planus_syntax.specs.declared.value.Item.{Item}
use Rattle.planus_syntax.specs.declared.value.Item.TheVariants as item
use Rattle.planus_syntax.specs.declared.value.Member.{Member}
use Rattle.planus_syntax.specs.declared.value.Method.{Method}
use Rattle.planus_syntax.specs.declared.value.Path.{Path}
use Rattle.planus_syntax.specs.Values.{names_of}
use Rattle.planus_resolve.specs.declared.awaited.Awaited.{Awaited}
use Rattle.planus_resolve.specs.declared.waiting.Told.{Told}
use Rattle.planus_resolve.specs.declared.waiting.Told.TheVariants as told
use Rattle.planus_resolve.specs.declared.waiting.Waiting.{Waiting}
use Rattle.planus_resolve.specs.declared.uses.Event.{Event}
use Rattle.planus_resolve.specs.declared.uses.Event.TheVariants as event
use Rattle.planus_resolve.specs.declared.uses.Spot.{Spot}
use Rattle.planus_resolve.specs.declared.uses.Use.{Use}
use Rattle.planus_resolve.specs.declared.fault.Fault.{Fault}
use Rattle.planus_resolve.specs.declared.fault.FaultKind.TheVariants as fault
use Rattle.planus_resolve.specs.Names.{UsedAs}
use Rattle.planus_resolve.specs.Names.{as_type, as_record, as_root, used_as}
use Rattle.planus_resolve.specs.Names.{HeadV, own_name, words_in, words_of, space_after, space_at}
use Rattle.planus_resolve.specs.Names.{space_of, plain_base, is_set, attribute_named, index_of}
use Rattle.planus_resolve.specs.Names.{dotted, found, found_by, is_choice, is_known, at_index}
use Rattle.planus_resolve.specs.Tables.{nested_name}
use Rattle.planus_resolve.specs.Unions.{wanted_of}
use Rattle.planus_resolve.specs.Wrong.{path_in_kind}
use Rattle.planus_resolve.specs.WrongUnions.{target_path}

-- ---- the names that are used, in order

-- where a declaration stands: its file and its namespace
pub record SpotV : Type 0 where
  pub file : ℕ
  pub space : List Name

-- `left`: the number of tokens from the name to the end of its text
pub record UseV : Type 0 where
  pub wanted : UsedAs
  pub spot : SpotV
  pub words : List Name
  pub left : ℕ

-- a declaration of this name begins, or a name is used
pub data EventV : Type 0 where
  begins : Name → EventV
  uses : UseV → EventV

abbrev pub used : SpotV → UsedAs → List Name → ℕ → List EventV
used s w words left = uses (record { wanted = w; spot = s; words = words; left = left }) ∷ []

-- scalars and strings are no declarations
abbrev pub path_used : SpotV → UsedAs → Path → List EventV
path_used s w p =
    if is_set (plain_base (path_of p)) then [] else used s w (words_of (path_of p)) p.left

abbrev pub text_used : SpotV → ℕ → Option Name → List EventV
text_used s left None = []
text_used s left (Some w) = used s as_record (w ∷ []) left

abbrev pub nested_used : SpotV → Option Attribute → List EventV
nested_used s None = []
nested_used s (Some a) = text_used s a.label.left (nested_name (option_map literal_of a.value))

abbrev pub field_used : SpotV → Field → List EventV
field_used s f = path_used s as_type (path_in_kind f.kind)
    ++ nested_used s (attribute_named (codes "nested_flatbuffer") f.attributes.items)

abbrev pub fields_used : SpotV → List Field → List EventV
fields_used s [] = []
fields_used s (f ∷ fs) = field_used s f ++ fields_used s fs

abbrev pub member_used : SpotV → Member → List EventV
member_used s m = path_used s (wanted_of (member_of m)) (target_path m)

abbrev pub members_used : SpotV → List Member → List EventV
members_used s [] = []
members_used s (m ∷ ms) = member_used s m ++ members_used s ms

abbrev pub method_used : SpotV → Method → List EventV
method_used s m = path_used s as_type m.request ++ path_used s as_type m.response

abbrev pub methods_used : SpotV → List Method → List EventV
methods_used s [] = []
methods_used s (m ∷ ms) = method_used s m ++ methods_used s ms

abbrev pub item_used : SpotV → Item → List EventV
item_used s (item.Include w) = []
item_used s (item.NativeInclude w) = []
item_used s (item.Namespace p) = []
item_used s (item.Attribute l) = []
item_used s (item.Table r) = fields_used s r.fields.items
item_used s (item.Struct r) = fields_used s r.fields.items
item_used s (item.Enum e) = []
item_used s (item.Union u) = members_used s u.members.items
item_used s (item.Service x) = methods_used s x.methods.items
item_used s (item.RootType p) = path_used s as_root p
item_used s (item.FileIdentifier w) = []
item_used s (item.FileExtension w) = []

abbrev pub begins_if : Option Name → List EventV
begins_if None = []
begins_if (Some w) = begins w ∷ []

abbrev pub declaration_used : SpotV → Declaration → List EventV
declaration_used s d = begins_if (own_name (item_of d.item)) ++ item_used s d.item

abbrev pub declarations_used : ℕ → Option PathV → List Declaration → List EventV
declarations_used file space [] = []
declarations_used file space (d ∷ ds) =
    declaration_used (record { file = file; space = words_in space }) d
    ++ declarations_used file (space_after space (item_of d.item)) ds

-- of the files from this one on
abbrev pub files_used : ℕ → List (Vec Declaration) → List EventV
files_used file [] = []
files_used file (f ∷ fs) = declarations_used file None f.items ++ files_used (file + 1) fs

-- ---- what flatc takes them for

-- Names that are used and not yet declared, each with what it means here: a single word by the first
-- declaration whose name ends with it, and words with dots by that of this full name.
pub record WaitingV : Type 0 where
  pub begun : ℕ
  pub single : List (Option Awaited)
  pub full : List (Option Awaited)

abbrev pub last_name : HeadV → Name
last_name h = name_or (own_name h.declaration.item)
  where
    name_or : Option Name → Name
    name_or None = []
    name_or (Some w) = w

abbrev pub ends_with : Name → HeadV → Bool
ends_with w h = bytes_eq (last_name h) w

-- the first declaration whose name ends with this word
abbrev pub ending : List HeadV → Name → Option ℕ
ending hs w = position (ends_with w) hs

abbrev pub put_at : List (Option Awaited) → Option ℕ → Option Awaited → List (Option Awaited)
put_at xs None a = xs
put_at xs (Some i) a = slice_set xs i a

-- one word without dots
abbrev pub single_word : List Name → Option Name
single_word [] = None
single_word (w ∷ []) = if list_any (λ b. b == 46) w then None else Some w
single_word (w ∷ v ∷ ws) = None

abbrev pub waited_as : List HeadV → WaitingV → List Name → Option Name → Option Awaited
waited_as hs s words None = at_index s.full (index_of hs (dotted words))
waited_as hs s words (Some w) = at_index s.single (ending hs w)

-- whether these words wait for their declaration, wherever they were used
abbrev pub waited : List HeadV → WaitingV → List Name → Option Awaited
waited hs s words = waited_as hs s words (single_word words)

abbrev pub wait_as : List HeadV → WaitingV → List Name → Awaited → Option Name → WaitingV
wait_as hs s words a None = record s { full = put_at s.full (index_of hs (dotted words)) (Some a) }
wait_as hs s words a (Some w) = record s { single = put_at s.single (ending hs w) (Some a) }

-- these words wait from now on
abbrev pub wait : List HeadV → WaitingV → List Name → Awaited → WaitingV
wait hs s words a = wait_as hs s words a (single_word words)

abbrev pub meaning_or : ℕ → Option Awaited → ℕ
meaning_or i None = i
meaning_or i (Some a) = a.meaning

abbrev pub meaning_at : WaitingV → Option ℕ → Option ℕ
meaning_at s None = None
meaning_at s (Some i) = Some (meaning_or i (at_index s.full (Some i)))

-- the innermost table or struct of these words that is declared, or awaited under its full name
abbrev pub known : List HeadV → WaitingV → UseV → Option ℕ
known hs s u = meaning_at s
    (found_by hs (is_known hs s.begun s.full) u.wanted u.spot.space u.words)

abbrev pub taken_as : List HeadV → WaitingV → UseV → Option Awaited → Option ℕ
taken_as hs s u None = known hs s u
taken_as hs s u (Some a) = Some a.meaning

-- what flatc takes a table's or struct's name for, if it isn't new
abbrev pub taken : List HeadV → WaitingV → UseV → Option ℕ
taken hs s u = taken_as hs s u (waited hs s u.words)

-- a root's name never waits
abbrev pub new_as : UsedAs → ℕ → Told
new_as as_type i = told.Wait i
new_as as_record i = told.Wait i
new_as as_root i = told.Nothing

abbrev pub told_as : UsedAs → ℕ → Option ℕ → Told
told_as w i None = new_as w i
told_as w i (Some j) = if nat_eq i j then told.Nothing else told.Clash i j

abbrev pub told_of : List HeadV → WaitingV → UseV → Option ℕ → Told
told_of hs s u None = told.Nothing
told_of hs s u (Some i) = if is_choice hs i && nat_lt i s.begun then told.Nothing
    else told_as u.wanted i (taken hs s u)

-- A name of an enum or union that is declared is that for flatc too. Any other has to be taken for
-- what it means, or waits.
abbrev pub tells : List HeadV → WaitingV → UseV → Told
tells hs s u = told_of hs s u (found hs u.wanted (space_at u.spot.space s.begun) u.words)

abbrev pub use_fault : UseV → Told → List Fault
use_fault u told.Nothing = []
use_fault u (told.Wait i) = []
use_fault u (told.Clash i j) = record {
  kind = fault.TwoMeanings i j;
  file = u.spot.file;
  left = u.left;
} ∷ []

abbrev pub after_use : List HeadV → WaitingV → UseV → Told → WaitingV
after_use hs s u told.Nothing = s
after_use hs s u (told.Wait i) =
    wait hs s u.words (record { meaning = i; file = u.spot.file; left = u.left })
after_use hs s u (told.Clash i j) = s

-- flatc takes the awaited name for declaration n
abbrev pub bound_fault : ℕ → Option Awaited → List Fault
bound_fault n None = []
bound_fault n (Some a) = if nat_eq a.meaning n then [] else record {
  kind = fault.TwoMeanings a.meaning n;
  file = a.file;
  left = a.left;
} ∷ []

-- enums and unions end no waiting
abbrev pub begin_faults : List HeadV → WaitingV → Name → List Fault
begin_faults hs s w = if is_choice hs s.begun then []
    else bound_fault s.begun (at_index s.single (ending hs w))
    ++ bound_fault s.begun (at_index s.full (Some s.begun))

abbrev pub after_begin : List HeadV → WaitingV → Name → WaitingV
after_begin hs s w = if is_choice hs s.begun then record s { begun = s.begun + 1 } else record {
  begun = s.begun + 1;
  single = put_at s.single (ending hs w) None;
  full = put_at s.full (Some s.begun) None;
}

abbrev pub event_faults : List HeadV → WaitingV → EventV → List Fault
event_faults hs s (begins w) = begin_faults hs s w
event_faults hs s (uses u) = use_fault u (tells hs s u)

abbrev pub after_event : List HeadV → WaitingV → EventV → WaitingV
after_event hs s (begins w) = after_begin hs s w
after_event hs s (uses u) = after_use hs s u (tells hs s u)

abbrev pub events_faults : List HeadV → WaitingV → List EventV → List Fault
events_faults hs s [] = []
events_faults hs s (e ∷ es) = event_faults hs s e ++ events_faults hs (after_event hs s e) es

abbrev pub nothing_waits : List HeadV → WaitingV
nothing_waits hs = record {
  begun = 0;
  single = replicate (length hs) None;
  full = replicate (length hs) None;
}

-- the names of these files that flatc takes for another declaration
abbrev pub taken_otherwise : List HeadV → List (Vec Declaration) → List Fault
taken_otherwise hs files = events_faults hs (nothing_waits hs) (files_used 0 files)

-- ---- the code's values

abbrev pub spot_of : Spot → SpotV
spot_of s = record { file = s.file; space = space_of s.space }

abbrev pub use_of : Use → UseV
use_of u = record {
  wanted = used_as u.wanted;
  spot = spot_of u.spot;
  words = u.first.now ∷ names_of u.more.now;
  left = u.left;
}

abbrev pub event_of : Event → EventV
event_of (event.Begins w) = begins w.now
event_of (event.Uses u) = uses (use_of u)

abbrev pub waiting_of : Waiting → WaitingV
waiting_of w = record { begun = w.begun; single = w.single.items; full = w.full.items }
