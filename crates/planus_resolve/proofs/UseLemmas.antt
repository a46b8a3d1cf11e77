-- Each fault of a use is in one of the files.
use Rattle.std.proofs.Common.{◌≡◌, ℕ, zero, suc, ◌+◌, ◌<◌, ◌≤◌, Bool, true, false, cond, List, [], ◌∷◌, ◌++◌, length, refl, arith}
use Rattle.std.specs.Prelude.{Option, Some, None, nat_eq, codes}
use Rattle.std.specs.Option.{option_map}
use Rattle.std.specs.List.{All}
use Rattle.std.specs.Global.{Vec}
use Rattle.std.proofs.lemmas.List.Elements.{All-nil, All-cons, All-head, All-tail, All-append, All-replicate, All-set}
use Rattle.planus_syntax.specs.Values.{Name, PathV, item_of, path_of, member_of, literal_of}
use Rattle.planus_syntax.specs.declared.value.Attribute.{Attribute}
use Rattle.planus_syntax.specs.declared.value.Declaration.{Declaration}
use Rattle.planus_syntax.specs.declared.value.Field.{Field}
use Rattle.planus_syntax.specs.declared.value.Item.{Item}
use Rattle.planus_syntax.specs.declared.value.Item.TheVariants as item
use Rattle.planus_syntax.specs.declared.value.Member.{Member}
use Rattle.planus_syntax.specs.declared.value.Method.{Method}
use Rattle.planus_syntax.specs.declared.value.Path.{Path}
use Rattle.planus_resolve.specs.declared.awaited.Awaited.{Awaited}
use Rattle.planus_resolve.specs.declared.waiting.Told.{Told}
use Rattle.planus_resolve.specs.declared.waiting.Told.TheVariants as told
use Rattle.planus_resolve.specs.declared.fault.Fault.{Fault}
use Rattle.planus_resolve.specs.Names.{UsedAs}
use Rattle.planus_resolve.specs.Names.{as_type, as_record, as_root}
use Rattle.planus_resolve.specs.Names.{HeadV, own_name, words_in, words_of, space_after, plain_base, is_set, attribute_named, at_index, is_choice, index_of, dotted}
use Rattle.planus_resolve.specs.inner.Read.{AreNoted}
use Rattle.planus_resolve.proofs.FaultLemmas.{adds_nothing, adds_both}
use Rattle.std.proofs.lemmas.Bool.Decides.{nat_tests}
use Rattle.planus_resolve.specs.Tables.{nested_name}
use Rattle.planus_resolve.specs.Unions.{wanted_of}
use Rattle.planus_resolve.specs.Wrong.{path_in_kind}
use Rattle.planus_resolve.specs.WrongUnions.{target_path}
use Rattle.planus_resolve.specs.Uses.{SpotV, UseV, EventV, begins, uses, WaitingV, used, path_used, text_used, nested_used, field_used, fields_used, member_used, members_used, method_used, methods_used, item_used, begins_if, declaration_used, declarations_used, files_used, put_at, single_word, wait_as, tells, use_fault, after_use, bound_fault, begin_faults, event_faults, after_event, events_faults, nothing_waits, taken_otherwise, ending}

abbrev Within : ℕ → Fault → Type 0
Within n f = f.file < n

-- what waits was used in one of the first n files
abbrev pub IsIn : ℕ → Option Awaited → Type 0
IsIn n None = Unit {0}
IsIn n (Some a) = a.file < n

pub record AreIn (n : ℕ) (s : WaitingV) : Type 0 where
  pub single : All (IsIn n) s.single
  pub full : All (IsIn n) s.full

abbrev pub IsUsedIn : ℕ → EventV → Type 0
IsUsedIn n (begins w) = Unit {0}
IsUsedIn n (uses u) = u.spot.file < n

in_one : (n : ℕ) (s : SpotV) (w : UsedAs) (words : List Name) (left : ℕ) → s.file < n → All (IsUsedIn n) (used s w words left)
in_one n s w words left h = All-cons (IsUsedIn n) _ [] h (All-nil (IsUsedIn n))

in_path_if : (n : ℕ) (b : Bool) (s : SpotV) (w : UsedAs) (p : Path) → s.file < n → All (IsUsedIn n) (cond b [] (used s w (words_of (path_of p)) p.left))
in_path_if n true s w p h = All-nil (IsUsedIn n)
in_path_if n false s w p h = in_one n s w (words_of (path_of p)) p.left h

in_path : (n : ℕ) (s : SpotV) (w : UsedAs) (p : Path) → s.file < n → All (IsUsedIn n) (path_used s w p)
in_path n s w p h = in_path_if n (is_set (plain_base (path_of p))) s w p h

in_text : (n : ℕ) (s : SpotV) (left : ℕ) (o : Option Name) → s.file < n → All (IsUsedIn n) (text_used s left o)
in_text n s left None h = All-nil (IsUsedIn n)
in_text n s left (Some w) h = in_one n s as_record (w ∷ []) left h

in_nested : (n : ℕ) (s : SpotV) (a : Option Attribute) → s.file < n → All (IsUsedIn n) (nested_used s a)
in_nested n s None h = All-nil (IsUsedIn n)
in_nested n s (Some a) h = in_text n s a.label.left (nested_name (option_map literal_of a.value)) h

in_fields : (n : ℕ) (s : SpotV) (fs : List Field) → s.file < n → All (IsUsedIn n) (fields_used s fs)
in_fields n s [] h = All-nil (IsUsedIn n)
in_fields n s (f ∷ fs) h =
    All-append (IsUsedIn n) (field_used s f) (fields_used s fs)
    (All-append (IsUsedIn n) (path_used s as_type (path_in_kind f.kind)) (nested_used s (attribute_named (codes "nested_flatbuffer") f.attributes.items))
    (in_path n s as_type (path_in_kind f.kind) h) (in_nested n s (attribute_named (codes "nested_flatbuffer") f.attributes.items) h))
    (in_fields n s fs h)

in_members : (n : ℕ) (s : SpotV) (ms : List Member) → s.file < n → All (IsUsedIn n) (members_used s ms)
in_members n s [] h = All-nil (IsUsedIn n)
in_members n s (m ∷ ms) h =
    All-append (IsUsedIn n) (member_used s m) (members_used s ms) (in_path n s (wanted_of (member_of m)) (target_path m) h) (in_members n s ms h)

in_methods : (n : ℕ) (s : SpotV) (ms : List Method) → s.file < n → All (IsUsedIn n) (methods_used s ms)
in_methods n s [] h = All-nil (IsUsedIn n)
in_methods n s (m ∷ ms) h =
    All-append (IsUsedIn n) (method_used s m) (methods_used s ms)
    (All-append (IsUsedIn n) (path_used s as_type m.request) (path_used s as_type m.response)
    (in_path n s as_type m.request h) (in_path n s as_type m.response h))
    (in_methods n s ms h)

in_item : (n : ℕ) (s : SpotV) (i : Item) → s.file < n → All (IsUsedIn n) (item_used s i)
in_item n s (item.Include w) h = All-nil (IsUsedIn n)
in_item n s (item.NativeInclude w) h = All-nil (IsUsedIn n)
in_item n s (item.Namespace p) h = All-nil (IsUsedIn n)
in_item n s (item.Attribute l) h = All-nil (IsUsedIn n)
in_item n s (item.Table r) h = in_fields n s r.fields.items h
in_item n s (item.Struct r) h = in_fields n s r.fields.items h
in_item n s (item.Enum e) h = All-nil (IsUsedIn n)
in_item n s (item.Union u) h = in_members n s u.members.items h
in_item n s (item.Service x) h = in_methods n s x.methods.items h
in_item n s (item.RootType p) h = in_path n s as_root p h
in_item n s (item.FileIdentifier w) h = All-nil (IsUsedIn n)
in_item n s (item.FileExtension w) h = All-nil (IsUsedIn n)

in_begins : (n : ℕ) (o : Option Name) → All (IsUsedIn n) (begins_if o)
in_begins n None = All-nil (IsUsedIn n)
in_begins n (Some w) = All-cons (IsUsedIn n) _ [] tt (All-nil (IsUsedIn n))

in_declarations : (n file : ℕ) (space : Option PathV) (ds : List Declaration) → file < n → All (IsUsedIn n) (declarations_used file space ds)
in_declarations n file space [] h = All-nil (IsUsedIn n)
in_declarations n file space (d ∷ ds) h =
    let s : SpotV = record { file = file; space = words_in space } in
    All-append (IsUsedIn n) (declaration_used s d) (declarations_used file (space_after space (item_of d.item)) ds)
    (All-append (IsUsedIn n) (begins_if (own_name (item_of d.item))) (item_used s d.item) (in_begins n (own_name (item_of d.item))) (in_item n s d.item h))
    (in_declarations n file (space_after space (item_of d.item)) ds h)

in_files : (n k : ℕ) (fs : List (Vec Declaration)) → k + length fs ≤ n → All (IsUsedIn n) (files_used k fs)
in_files n k [] h = All-nil (IsUsedIn n)
in_files n k (f ∷ fs) h =
    All-append (IsUsedIn n) (declarations_used k None f.items) (files_used (k + 1) fs) (in_declarations n k None f.items (omega (arith, h))) (in_files n (k + 1) fs (omega (arith, h)))

at_in : (n : ℕ) (xs : List (Option Awaited)) (i : ℕ) → All (IsIn n) xs → IsIn n (at_index xs (Some i))
at_in n [] i h = tt
at_in n (x ∷ xs) zero h = All-head (IsIn n) x xs h
at_in n (x ∷ xs) (suc i) h = at_in n xs i (All-tail (IsIn n) x xs h)

at_in_any : (n : ℕ) (xs : List (Option Awaited)) (o : Option ℕ) → All (IsIn n) xs → IsIn n (at_index xs o)
at_in_any n xs None h = tt
at_in_any n xs (Some i) h = at_in n xs i h

put_in : (n : ℕ) (xs : List (Option Awaited)) (o : Option ℕ) (a : Option Awaited) → IsIn n a → All (IsIn n) xs → All (IsIn n) (put_at xs o a)
put_in n xs None a e h = h
put_in n xs (Some i) a e h = All-set (IsIn n) xs i a e h

wait_in_as : (n : ℕ) (hs : List HeadV) (s : WaitingV) (words : List Name) (a : Awaited) (o : Option Name) → a.file < n → AreIn n s → AreIn n (wait_as hs s words a o)
wait_in_as n hs s words a None e h = record {
  single = h.single;
  full = put_in n s.full (index_of hs (dotted words)) (Some a) e h.full;
}
wait_in_as n hs s words a (Some w) e h = record {
  single = put_in n s.single (ending hs w) (Some a) e h.single;
  full = h.full;
}

use_in : (n : ℕ) (hs : List HeadV) (s : WaitingV) (u : UseV) (t : Told) → u.spot.file < n → AreIn n s → AreIn n (after_use hs s u t)
use_in n hs s u told.Nothing e h = h
use_in n hs s u (told.Wait i) e h = wait_in_as n hs s u.words (record { meaning = i; file = u.spot.file; left = u.left }) (single_word u.words) e h
use_in n hs s u (told.Clash i j) e h = h

begin_in_if : (n : ℕ) (b : Bool) (hs : List HeadV) (s : WaitingV) (w : Name) → AreIn n s → let x : WaitingV = record s { begun = s.begun + 1 } in let y : WaitingV = record {
  begun = s.begun + 1;
  single = put_at s.single (ending hs w) None;
  full = put_at s.full (Some s.begun) None;
} in AreIn n (cond b x y)
begin_in_if n true hs s w h = record { single = h.single; full = h.full }
begin_in_if n false hs s w h = record {
  single = put_in n s.single (ending hs w) None tt h.single;
  full = put_in n s.full (Some s.begun) None tt h.full;
}

event_in : (n : ℕ) (hs : List HeadV) (s : WaitingV) (e : EventV) → IsUsedIn n e → AreIn n s → AreIn n (after_event hs s e)
event_in n hs s (begins w) u h = begin_in_if n (is_choice hs s.begun) hs s w h
event_in n hs s (uses x) u h = use_in n hs s x (tells hs s x) u h

use_told : (n : ℕ) (u : UseV) (t : Told) → u.spot.file < n → All (Within n) (use_fault u t)
use_told n u told.Nothing h = All-nil (Within n)
use_told n u (told.Wait i) h = All-nil (Within n)
use_told n u (told.Clash i j) h = All-cons (Within n) _ [] h (All-nil (Within n))

bound_told_if : (n : ℕ) (b : Bool) (f : Fault) → f.file < n → All (Within n) (cond b [] (f ∷ []))
bound_told_if n true f h = All-nil (Within n)
bound_told_if n false f h = All-cons (Within n) f [] h (All-nil (Within n))

bound_told : (n i : ℕ) (a : Option Awaited) → IsIn n a → All (Within n) (bound_fault i a)
bound_told n i None h = All-nil (Within n)
bound_told n i (Some a) h = bound_told_if n (nat_eq a.meaning i) _ h

begin_told_if : (n : ℕ) (b : Bool) (xs ys : List Fault) → All (Within n) xs → All (Within n) ys → All (Within n) (cond b [] (xs ++ ys))
begin_told_if n true xs ys h k = All-nil (Within n)
begin_told_if n false xs ys h k = All-append (Within n) xs ys h k

event_told : (n : ℕ) (hs : List HeadV) (s : WaitingV) (e : EventV) → IsUsedIn n e → AreIn n s → All (Within n) (event_faults hs s e)
event_told n hs s (begins w) u h =
    begin_told_if n (is_choice hs s.begun) (bound_fault s.begun (at_index s.single (ending hs w))) (bound_fault s.begun (at_index s.full (Some s.begun)))
    (bound_told n s.begun (at_index s.single (ending hs w)) (at_in_any n s.single (ending hs w) h.single))
    (bound_told n s.begun (at_index s.full (Some s.begun)) (at_in n s.full s.begun h.full))
event_told n hs s (uses x) u h = use_told n x (tells hs s x) u

events_told : (n : ℕ) (hs : List HeadV) (s : WaitingV) (es : List EventV) → All (IsUsedIn n) es → AreIn n s → All (Within n) (events_faults hs s es)
events_told n hs s [] u h = All-nil (Within n)
events_told n hs s (e ∷ es) u h =
    let here = All-head (IsUsedIn n) e es u in
    All-append (Within n) (event_faults hs s e) (events_faults hs (after_event hs s e) es) (event_told n hs s e here h)
    (events_told n hs (after_event hs s e) es (All-tail (IsUsedIn n) e es u) (event_in n hs s e here h))

pub taken_within : (n : ℕ) (hs : List HeadV) (files : List (Vec Declaration)) → length files ≤ n → All (λ f. f.file < n) (taken_otherwise hs files)
taken_within n hs files h =
    events_told n hs (nothing_waits hs) (files_used 0 files) (in_files n 0 files (omega (arith, h)))
    (record { single = All-replicate (IsIn n) (length hs) None tt; full = All-replicate (IsIn n) (length hs) None tt })

-- ---- what is noted

pub none_noted : (found xs : List Fault) → length xs ≤ 20 → found ≡ [] → AreNoted found xs xs
none_noted found xs h e = record { kept = λ x. x; most = h; adds = adds_nothing xs found h e }

pub both_noted : (a b x y z : List Fault) → AreNoted a x y → AreNoted b y z → AreNoted (a ++ b) x z
both_noted a b x y z m n = record {
  kept = λ e. m.kept (n.kept e);
  most = n.most;
  adds = adds_both a b x y z m.adds n.adds;
}

pub bound_none : (n : ℕ) (o : Option Awaited) → o ≡ None → bound_fault n o ≡ []
bound_none n o e = rw e refl

same_number : (m n : ℕ) → m ≡ n → nat_eq m n ≡ true
same_number m n e = grind (arith, nat_tests)

pub bound_same : (n : ℕ) (o : Option Awaited) (a : Awaited) → o ≡ Some a → a.meaning ≡ n → bound_fault n o ≡ []
bound_same n o a e same = rw (e, same_number a.meaning n same) refl

pub begins_choice : (hs : List HeadV) (s : WaitingV) (w : Name) → is_choice hs s.begun ≡ true → begin_faults hs s w ≡ []
begins_choice hs s w e = rw e refl

pub begins_record : (hs : List HeadV) (s : WaitingV) (w : Name) → is_choice hs s.begun ≡ false → begin_faults hs s w ≡ bound_fault s.begun (at_index s.single (ending hs w)) ++ bound_fault s.begun (at_index s.full (Some s.begun))
begins_record hs s w e = rw e refl
