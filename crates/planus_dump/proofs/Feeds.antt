-- How events are fed one after another.
use Rattle.std.proofs.Common.{◌≡◌, ◌≢◌, ℕ, zero, suc, ◌+◌, ◌-◌, ◌*◌, ◌<◌, ◌≤◌, List, [], ◌∷◌, ◌++◌, map, length, drop, get_or, Option, Some, None, Ok, slice_get, refl, sym, ap, ◌∙◌, subst, arith, length-append, Bool, true, false, ◌==◌, inl, inr}
use Rattle.std.specs.Prelude.{if◌then◌else◌, slice_index}
use Rattle.std.specs.Prelude.{Vec, String, codes, nat_lt}
use Rattle.std.specs.Fmt.{decimal}
use Rattle.std.specs.List.{AllByRecursion}
use Rattle.std.specs.declared.alloc.Global.{Global}
use Rattle.planus_read.specs.declared.errors.ErrorKind.TheVariants.{UnknownUnionTag}
use Rattle.planus_dump.specs.Tests.{fault_text}
use Rattle.std.specs.String.{string_bytes}
use Rattle.std.proofs.lemmas.List.{append_assoc, append-nil, drop_more, length-map}
use Rattle.std.proofs.lemmas.Bool.{eqb-true, eqb-false, ltb-true, ltb-false}
use Rattle.planus_dump.specs.Lines.{item_path, field_path, list_line, union_line, value_line}
use Rattle.planus_dump.specs.Answers.{Seen, SeenItems, SeenUnions, vector_at}
use Rattle.planus_dump.specs.Events.{variant_of, member_events, variant_events, fault_event, Event, line, faulty, deep, float, field_label, events, TableEvents, shape_events, fields_events, kind_events, item_events, items_events, list_events, union_events, union_items_events, stride_of}
use Rattle.planus_dump.specs.ReadingViews.{IsFound, found_events, IsUnionIn}
use Rattle.planus_read.specs.declared.place.TaggedPlace.{TaggedPlace}
use Rattle.planus_read.specs.Places.{place_bytes, place_offset, tagged_tag, tagged_place}
use Rattle.planus_dump.specs.declared.readings.Found.{Found}
use Rattle.planus_dump.specs.inner.Shown.{begin, Shown, by_room, added, step_at, step, feed}
use Rattle.planus_dump.specs.inner.Feeding.{Fits, left_in}
use Rattle.planus_dump.specs.Dumped.{Shows, AreShown, Begin}
use Rattle.planus_dump.specs.Floats.{number_of, magnitude, infinite_magnitude, infinity_text, PrintsFloat}
use Rattle.planus_dump.specs.Views.{cost, costs}
use Rattle.planus_dump.specs.declared.line.Bits.{Bits}
use Rattle.planus_dump.specs.declared.end.End.{End}
use Rattle.planus_dump.specs.declared.end.End.TheVariants.{Whole, TooDeep, TooManyLines, TooManyBytes}
use Rattle.planus_dump.specs.declared.schemas.Schema.{Schema}
use Rattle.planus_dump.specs.declared.schemas.FieldSchema.{FieldSchema}
use Rattle.planus_dump.specs.declared.schemas.VariantSchema.{VariantSchema}
use Rattle.planus_dump.specs.declared.schemas.Item.{Item}

pub feed-append : (s : Shown) (xs ys : List Event) → feed s (xs ++ ys) ≡ feed (feed s xs) ys
feed-append s [] ys = refl
feed-append s (x ∷ xs) ys = feed-append (step s x) xs ys

stay : (s : Shown) (t : End) (e : Event) → t ≢ Whole → step_at s t e ≡ s
stay s Whole e h = absurd (h refl)
stay s TooDeep e h = refl
stay s TooManyLines e h = refl
stay s TooManyBytes e h = refl

-- A stopped walk takes no more events, so it may return at once.
pub feed-stopped : (s : Shown) (es : List Event) → s.end ≢ Whole → feed s es ≡ s
feed-stopped s [] h = refl
feed-stopped s (e ∷ es) h = ap (λ t. feed t es) (stay s s.end e h) ∙ feed-stopped s es h

pub events-more : (schema : Schema) (left index : ℕ) (S : List ℕ) (f : ℕ) (path : List ℕ) → left ≢ 0
    → events schema left index S f path ≡ shape_events (events schema (left - 1)) schema (slice_get schema.tables.items index) S f path
unfolding events
events-more schema zero index S f path h = absurd (h refl)
events-more schema (suc left) index S f path h = let e : suc left - 1 ≡ left = omega arith in ap (λ k. shape_events (events schema k) schema (slice_get schema.tables.items index) S f path) (sym e)

pub events-none : (schema : Schema) (left index : ℕ) (S : List ℕ) (f : ℕ) (path : List ℕ) → left ≡ 0 → events schema left index S f path ≡ deep ∷ []
unfolding events
events-none schema zero index S f path h = refl
events-none schema (suc left) index S f path h = absurd (omega (arith, h))

pub fields-split : (E : TableEvents) (schema : Schema) (table : Seen) (path : List ℕ) (fields : List FieldSchema) (i : ℕ) (field : FieldSchema) → i < length fields → field ≡ get_or fields i field
    → fields_events E schema table path (drop i fields) ≡ kind_events E schema field.required field.kind field.slot table (field_path path (field_label field)) ++ fields_events E schema table path (drop (i + 1) fields)
fields-split E schema table path fields i field h is =
    ap (fields_events E schema table path) (drop_more fields i field h)
    ∙ ap (λ (x : FieldSchema). kind_events E schema x.required x.kind x.slot table (field_path path (field_label x)) ++ fields_events E schema table path (drop (i + 1) fields)) (sym is)

pub fields-none : (E : TableEvents) (schema : Schema) (table : Seen) (path : List ℕ) (fields : List FieldSchema) (i : ℕ) → length fields ≤ i → fields_events E schema table path (drop i fields) ≡ []
fields-none E schema table path [] zero h = refl
fields-none E schema table path [] (suc i) h = refl
fields-none E schema table path (field ∷ fields) zero h = absurd (omega (arith, h))
fields-none E schema table path (field ∷ fields) (suc i) h = fields-none E schema table path fields i (omega (arith, h))

items-more : (E : TableEvents) (item : Item) (S path : List ℕ) (n i : ℕ) → 0 < n
    → items_events E item S path n i ≡ item_events E item S (i * stride_of item) (item_path path i) ++ items_events E item S path (n - 1) (i + 1)
items-more E item S path zero i h = absurd (omega (arith, h))
items-more E item S path (suc n) i h = let e : suc n - 1 ≡ n = omega arith in ap (λ k. item_events E item S (i * stride_of item) (item_path path i) ++ items_events E item S path k (i + 1)) (sym e)

pub items-split : (E : TableEvents) (item : Item) (S path : List ℕ) (n i : ℕ) → i < n
    → items_events E item S path (n - i) i ≡ item_events E item S (i * stride_of item) (item_path path i) ++ items_events E item S path (n - (i + 1)) (i + 1)
items-split E item S path n i h =
    let e : n - i - 1 ≡ n - (i + 1) = omega (arith, h) in let some : 0 < n - i = omega (arith, h) in
    items-more E item S path (n - i) i some ∙ ap (λ k. item_events E item S (i * stride_of item) (item_path path i) ++ items_events E item S path k (i + 1)) e

pub found-at : (E : TableEvents) (item : Item) (S xs : List ℕ) (i stride n : ℕ) (path at : List ℕ) (found : Found) → IsFound item xs n found → xs ≡ S → n ≡ i * stride → stride ≡ stride_of item → at ≡ item_path path i
    → item_events E item S (i * stride_of item) (item_path path i) ≡ found_events E at found
found-at E item S xs i stride n path at found is same here each along =
    sym (is E at ∙ ap (λ bytes. item_events E item bytes n at) same ∙ ap (λ k. item_events E item S k at) (here ∙ ap (λ k. i * k) each) ∙ ap (item_events E item S (i * stride_of item)) along)

pub list-read : (E : TableEvents) (item : Item) (S : List ℕ) (f stride : ℕ) (path : List ℕ) (items : SeenItems) → Ok items ≡ vector_at stride S f → stride ≡ stride_of item
    → list_events E item path (vector_at (stride_of item) S f) ≡ line (list_line path items.count) ∷ items_events E item items.bytes path items.count 0
list-read E item S f stride path items read is = ap (list_events E item path) (sym (read ∙ ap (λ n. vector_at n S f) is))

pub items-none : (E : TableEvents) (item : Item) (S path : List ℕ) (n i : ℕ) → n ≡ 0 → items_events E item S path n i ≡ []
items-none E item S path zero i h = refl
items-none E item S path (suc n) i h = absurd (omega (arith, h))

union_items-more : (E : TableEvents) (schema : Schema) (index : ℕ) (items : SeenUnions) (path : List ℕ) (n i : ℕ) → 0 < n
    → union_items_events E schema index items path n i
    ≡ union_events E schema (slice_get schema.unions.items index) (slice_index items.tags i) items.references (i * 4) (item_path path i) ++ union_items_events E schema index items path (n - 1) (i + 1)
union_items-more E schema index items path zero i h = absurd (omega (arith, h))
union_items-more E schema index items path (suc n) i h = let e : suc n - 1 ≡ n = omega arith in
    ap (λ k. union_events E schema (slice_get schema.unions.items index) (slice_index items.tags i) items.references (i * 4) (item_path path i) ++ union_items_events E schema index items path k (i + 1)) (sym e)

pub union_items-split : (E : TableEvents) (schema : Schema) (index : ℕ) (items : SeenUnions) (path : List ℕ) (n i : ℕ) → i < n
    → union_items_events E schema index items path (n - i) i
    ≡ union_events E schema (slice_get schema.unions.items index) (slice_index items.tags i) items.references (i * 4) (item_path path i) ++ union_items_events E schema index items path (n - (i + 1)) (i + 1)
union_items-split E schema index items path n i h =
    let e : n - i - 1 ≡ n - (i + 1) = omega (arith, h) in let some : 0 < n - i = omega (arith, h) in
    let first : List Event = union_events E schema (slice_get schema.unions.items index) (slice_index items.tags i) items.references (i * 4) (item_path path i) in
    union_items-more E schema index items path (n - i) i some ∙ ap (λ k. first ++ union_items_events E schema index items path k (i + 1)) e

pub tagged-at : (E : TableEvents) (schema : Schema) (o : Option (Vec VariantSchema Global)) (items : SeenUnions) (i : ℕ) (path at : List ℕ) (tagged : TaggedPlace)
    → IsUnionIn items.references (record { tag = slice_index items.tags i; offset = i * 4 }) tagged → at ≡ item_path path i
    → union_events E schema o (slice_index items.tags i) items.references (i * 4) (item_path path i)
    ≡ union_events E schema o (tagged_tag tagged) (place_bytes (tagged_place tagged)) (place_offset (tagged_place tagged)) at
tagged-at E schema o items i path at tagged is along =
    sym (ap (λ k. union_events E schema o k (place_bytes (tagged_place tagged)) (place_offset (tagged_place tagged)) at) is.tag
    ∙ ap (λ xs. union_events E schema o (slice_index items.tags i) xs (place_offset (tagged_place tagged)) at) is.bytes
    ∙ ap (λ k. union_events E schema o (slice_index items.tags i) items.references k at) is.offset
    ∙ ap (λ xs. union_events E schema o (slice_index items.tags i) items.references (i * 4) xs) along)

pub union_items-none : (E : TableEvents) (schema : Schema) (index : ℕ) (items : SeenUnions) (path : List ℕ) (n i : ℕ) → n ≡ 0 → union_items_events E schema index items path n i ≡ []
union_items-none E schema index items path zero i h = refl
union_items-none E schema index items path (suc n) i h = absurd (omega (arith, h))

abbrev pub AreLines : List Event → Type 0
AreLines es = AllByRecursion (λ e. e ≢ deep) es

abbrev pub Exceeds : Option ℕ → ℕ → Type 0
Exceeds None n = ⊥
Exceeds (Some room) n = room < n

pub record Taken (ls : List Event) (room : Option ℕ) (es rest lines : List Event) (budget : ℕ) : Type 0 where
  pub new : List Event
  pub split : es ≡ new ++ rest
  pub all : AreLines new
  pub is : lines ≡ ls ++ new
  pub most : length lines ≤ budget
  pub fits : Fits room (costs new)

abbrev pub Answered : List Event → Option ℕ → List Event → ℕ → List Event → End → Type 0
Answered ls room es budget lines Whole = Taken ls room es [] lines budget
Answered ls room es budget lines TooDeep = (rest : List Event) × Taken ls room es (deep ∷ rest) lines budget
Answered ls room es budget lines TooManyLines = (l : Event) × (rest : List Event) × (l ≢ deep) × Taken ls room es (l ∷ rest) lines budget × (length lines ≡ budget)
Answered ls room es budget lines TooManyBytes =
    (l : Event) × (rest : List Event) × (l ≢ deep) × (taken : Taken ls room es (l ∷ rest) lines budget) × Exceeds room (costs taken.new + cost l)

deep_stops : TooDeep ≢ Whole
deep_stops e = cc

many_stops : TooManyLines ≢ Whole
many_stops e = cc

long_stops : TooManyBytes ≢ Whole
long_stops e = cc

more_fits : (room : Option ℕ) (c n : ℕ) → Fits room c → Fits (left_in room c) n → Fits room (c + n)
more_fits None c n h k = tt
more_fits (Some room) c n h k = omega (arith, h, k)

more_exceeds : (room : Option ℕ) (c n m : ℕ) → Fits room c → Exceeds (left_in room c) (n + m) → Exceeds room (c + n + m)
more_exceeds None c n m h k = absurd k
more_exceeds (Some room) c n m h k = omega (arith, h, k)

taken_more : (ls : List Event) (room : Option ℕ) (l : Event) (es rest lines : List Event) (budget : ℕ) → l ≢ deep → Fits room (cost l)
    → Taken (ls ++ l ∷ []) (left_in room (cost l)) es rest lines budget → Taken ls room (l ∷ es) rest lines budget
taken_more ls room l es rest lines budget is fits t = record {
  new = l ∷ t.new;
  split = ap (λ z. l ∷ z) t.split;
  all = (is, t.all);
  is = t.is ∙ append_assoc ls (l ∷ []) t.new;
  most = t.most;
  fits = more_fits room (cost l) (costs t.new) fits t.fits;
}

shift : (ls : List Event) (room : Option ℕ) (l : Event) (es : List Event) (budget : ℕ) (lines : List Event) (t : End) → l ≢ deep → Fits room (cost l)
    → Answered (ls ++ l ∷ []) (left_in room (cost l)) es budget lines t → Answered ls room (l ∷ es) budget lines t
unfolding taken_more
shift ls room l es budget lines Whole is fits t = taken_more ls room l es [] lines budget is fits t
shift ls room l es budget lines TooDeep is fits (rest, t) = (rest, taken_more ls room l es (deep ∷ rest) lines budget is fits t)
shift ls room l es budget lines TooManyLines is fits (m, rest, other, t, n) = (m, rest, other, taken_more ls room l es (m ∷ rest) lines budget is fits t, n)
shift ls room l es budget lines TooManyBytes is fits (m, rest, other, t, n) =
    (m, rest, other, taken_more ls room l es (m ∷ rest) lines budget is fits t, more_exceeds room (cost l) (costs t.new) (cost m) fits n)

abbrev here : List Event → ℕ → Option ℕ → End → Shown
here ls budget room stop = record { lines = ls; budget = budget; room = room; end = stop }

abbrev After : List Event → Option ℕ → List Event → ℕ → Shown → Type 0
After ls room es budget r = Answered ls room es budget r.lines r.end

none_taken : (ls : List Event) (room : Option ℕ) (es : List Event) (budget : ℕ) → length ls ≤ budget → Taken ls room es es ls budget
none_taken ls None es budget h = record { new = []; split = refl; all = tt; is = sym (append-nil ls); most = h; fits = tt }
none_taken ls (Some room) es budget h = record { new = []; split = refl; all = tt; is = sym (append-nil ls); most = h; fits = omega arith }

within : (l : Event) (es ls : List Event) (budget : ℕ) (room : Option ℕ) → l ≢ deep → length (ls ++ l ∷ []) ≤ budget → length ls ≤ budget
    → (After (ls ++ l ∷ []) (left_in room (cost l)) es budget (feed (here (ls ++ l ∷ []) budget (left_in room (cost l)) Whole) es))
    → After ls room (l ∷ es) budget (feed (by_room (here ls budget room Whole) l room) es)
unfolding none_taken
within l es ls budget None is more h rest = let r = feed (here (ls ++ l ∷ []) budget None Whole) es in shift ls None l es budget r.lines r.end is tt rest
within l es ls budget (Some room) is more h rest = by_test (nat_lt room (cost l)) refl
  where
    by_test : (b : Bool) → nat_lt room (cost l) ≡ b → After ls (Some room) (l ∷ es) budget
        (feed (if b then here ls budget (Some room) TooManyBytes else here (ls ++ l ∷ []) budget (Some (room - cost l)) Whole) es)
    by_test true e =
        let above : room < cost l = ltb-true room (cost l) e in
        let t = none_taken ls (Some room) (l ∷ es) budget h in
        subst (After ls (Some room) (l ∷ es) budget) (sym (feed-stopped (here ls budget (Some room) TooManyBytes) es long_stops)) (l, es, is, t, omega (arith, above))
    by_test false e =
        let below : cost l ≤ room = ltb-false room (cost l) e in
        let r = feed (here (ls ++ l ∷ []) budget (Some (room - cost l)) Whole) es in shift ls (Some room) l es budget r.lines r.end is below rest

answered_line : (l : Event) (es ls : List Event) (budget : ℕ) (room : Option ℕ) → l ≢ deep → length ls ≤ budget
    → (length (ls ++ l ∷ []) ≤ budget → After (ls ++ l ∷ []) (left_in room (cost l)) es budget (feed (here (ls ++ l ∷ []) budget (left_in room (cost l)) Whole) es))
    → After ls room (l ∷ es) budget (feed (added (here ls budget room Whole) l) es)
answered_line l es ls budget room is h rest = by_test (length ls == budget) refl
  where
    by_test : (b : Bool) → (length ls == budget) ≡ b → After ls room (l ∷ es) budget (feed (if b then here ls budget room TooManyLines else by_room (here ls budget room Whole) l room) es)
    by_test true e =
        subst (After ls room (l ∷ es) budget) (sym (feed-stopped (here ls budget room TooManyLines) es many_stops)) (l, es, is, none_taken ls room (l ∷ es) budget h, eqb-true (length ls) budget e)
    by_test false e =
        let ne : length ls ≢ budget = eqb-false (length ls) budget e in
        let more : length (ls ++ l ∷ []) ≤ budget = omega (arith, h, ne, length-append ls (l ∷ [])) in within l es ls budget room is more h (rest more)

line_is : (l : List ℕ) → line l ≢ deep
line_is l e = cc

faulty_is : (l : List ℕ) → faulty l ≢ deep
faulty_is l e = cc

float_is : (path : List ℕ) (number : Bits) → float path number ≢ deep
float_is path number e = cc

pub answered : (es ls : List Event) (budget : ℕ) (room : Option ℕ) → length ls ≤ budget
    → Answered ls room es budget (feed (here ls budget room Whole) es).lines (feed (here ls budget room Whole) es).end
answered [] ls budget room h = none_taken ls room [] budget h
answered (deep ∷ es) ls budget room h =
    subst (After ls room (deep ∷ es) budget) (sym (feed-stopped (here ls budget room TooDeep) es deep_stops)) (es, none_taken ls room (deep ∷ es) budget h)
answered (line l ∷ es) ls budget room h = answered_line (line l) es ls budget room (line_is l) h (λ more. answered es (ls ++ line l ∷ []) budget (left_in room (cost (line l))) more)
answered (faulty l ∷ es) ls budget room h = answered_line (faulty l) es ls budget room (faulty_is l) h (λ more. answered es (ls ++ faulty l ∷ []) budget (left_in room (cost (faulty l))) more)
answered (float path number ∷ es) ls budget room h =
    answered_line (float path number) es ls budget room (float_is path number) h (λ more. answered es (ls ++ float path number ∷ []) budget (left_in room (cost (float path number))) more)

pub walked : (es : List Event) (budget : ℕ) (room : Option ℕ) → Answered [] room es budget (feed (begin budget room) es).lines (feed (begin budget room) es).end
walked es budget room = answered es [] budget room (omega arith)

abbrev some_text : Bits → List ℕ
some_text number =
    if nat_lt (infinite_magnitude number) (magnitude number) then codes "nan"
    else (if magnitude number == infinite_magnitude number then infinity_text number else codes "bits " ++ decimal (number_of number))

some_text_prints : (number : Bits) → PrintsFloat number (some_text number)
some_text_prints number = by_test (nat_lt (infinite_magnitude number) (magnitude number)) refl (magnitude number == infinite_magnitude number) refl
  where
    by_test : (nan : Bool) → nat_lt (infinite_magnitude number) (magnitude number) ≡ nan → (infinite : Bool) → (magnitude number == infinite_magnitude number) ≡ infinite
        → PrintsFloat number (if nan then codes "nan" else (if infinite then infinity_text number else codes "bits " ++ decimal (number_of number)))
    by_test true e infinite f = inl (ltb-true (infinite_magnitude number) (magnitude number) e, refl)
    by_test false e true f = inr (inl (eqb-true (magnitude number) (infinite_magnitude number) f, refl))
    by_test false e false f =
        let most : magnitude number ≤ infinite_magnitude number = ltb-false (infinite_magnitude number) (magnitude number) e in
        let other : magnitude number ≢ infinite_magnitude number = eqb-false (magnitude number) (infinite_magnitude number) f in
        inr (inr (omega (arith, most, other), inr refl))

abbrev pub some_line : Event → List ℕ
some_line (line l) = l
some_line (faulty l) = l
some_line deep = []
some_line (float path number) = value_line path (some_text number)

pub some_line_shows : (e : Event) → e ≢ deep → Shows e (some_line e)
some_line_shows (line l) h = refl
some_line_shows (faulty l) h = refl
some_line_shows deep h = absurd (h refl)
some_line_shows (float path number) h = (some_text number, refl, some_text_prints number)

pub some_lines_shown : (es : List Event) → AreLines es → AreShown es (map some_line es)
some_lines_shown [] h = tt
some_lines_shown (e ∷ es) h = (some_line_shows e h.0, some_lines_shown es h.1)

pub begins : (es new rest : List Event) → es ≡ new ++ rest → AreLines new → Begin es (map some_line new) rest
begins es new rest e all = record { front = new; split = e; shown = some_lines_shown new all }

pub one_more_shown : {X Y : Type 0} (event : X → Event) (text : Y → List ℕ) (xs : List X) (ys : List Y) (x : X) (y : Y) → AreShown (map event xs) (map text ys) → Shows (event x) (text y)
    → AreShown (map event (xs ++ x ∷ [])) (map text (ys ++ y ∷ []))
one_more_shown event text [] [] x y all one = (one, tt)
one_more_shown event text [] (other ∷ ys) x y all one = absurd all
one_more_shown event text (other ∷ xs) [] x y all one = absurd all
one_more_shown event text (other ∷ xs) (another ∷ ys) x y all one = (all.0, one_more_shown event text xs ys x y all.1 one)

pub shown_length : (es : List Event) (lines : List (List ℕ)) → AreShown es lines → length lines ≡ length es
shown_length [] [] h = refl
shown_length [] (l ∷ lines) h = absurd h
shown_length (e ∷ es) [] h = absurd h
shown_length (e ∷ es) (l ∷ lines) h = ap suc (shown_length es lines h.1)

pub all_lines : (es : List Event) (budget : ℕ) (lines : List Event) (texts : List (String Global)) → Answered [] None es budget lines Whole → AreShown lines (map string_bytes texts)
    → Begin es (map string_bytes texts) [] × (length texts ≤ budget)
all_lines es budget lines texts t shows =
    let same : length texts ≡ length lines = sym (length-map texts string_bytes) ∙ shown_length lines (map string_bytes texts) shows in
    (record { front = lines; split = t.split ∙ ap (λ ls. ls ++ []) (sym t.is); shown = shows }, subst (λ n. n ≤ budget) (sym same) t.most)

pub too_deep : (es : List Event) (budget : ℕ) (lines : List Event) → Answered [] None es budget lines TooDeep
    → (lines : List (List ℕ)) × (rest : List Event) × Begin es lines (deep ∷ rest) × (length lines ≤ budget)
too_deep es budget lines (rest, t) =
    (map some_line t.new, rest, begins es t.new (deep ∷ rest) t.split t.all, subst (λ n. n ≤ budget) (ap length t.is ∙ sym (length-map t.new some_line)) t.most)

pub too_many : (es : List Event) (budget : ℕ) (lines : List Event) → Answered [] None es budget lines TooManyLines
    → (lines : List (List ℕ)) × (next : Event) × (rest : List Event) × Begin es lines (next ∷ rest) × (next ≢ deep) × (length lines ≡ budget)
too_many es budget lines (l, rest, is, t, n) =
    (map some_line t.new, l, rest, begins es t.new (l ∷ rest) t.split t.all, is, length-map t.new some_line ∙ sym (ap length t.is) ∙ n)

pub not_too_long : (es : List Event) (budget : ℕ) (lines : List Event) → Answered [] None es budget lines TooManyBytes → ⊥
not_too_long es budget lines (l, rest, is, t, n) = n

pub union_unknown : (E : TableEvents) (schema : Schema) (o : Option (Vec VariantSchema Global)) (variants : Vec VariantSchema Global) (tag : ℕ) (S : List ℕ) (f : ℕ) (path : List ℕ) → o ≡ Some variants → variant_of variants.items tag ≡ None
    → union_events E schema o tag S f path ≡ fault_event path (fault_text (UnknownUnionTag tag)) ∷ []
union_unknown E schema o variants tag S f path some none = ap (λ v. union_events E schema v tag S f path) some ∙ ap (variant_events E schema tag S f path) none

pub union_known : (E : TableEvents) (schema : Schema) (o : Option (Vec VariantSchema Global)) (variants : Vec VariantSchema Global) (variant : VariantSchema) (tag : ℕ) (S : List ℕ) (f : ℕ) (path : List ℕ) → o ≡ Some variants → variant_of variants.items tag ≡ Some variant
    → union_events E schema o tag S f path ≡ line (union_line path tag (string_bytes variant.name)) ∷ member_events E schema variant.kind S f path
union_known E schema o variants variant tag S f path some is = ap (λ v. union_events E schema v tag S f path) some ∙ ap (variant_events E schema tag S f path) is
