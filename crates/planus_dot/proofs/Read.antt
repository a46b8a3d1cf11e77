-- What is read of the text of a graph.
use Rattle.std.proofs.Common.{◌≡◌, ℕ, zero, suc, List, [], ◌∷◌, ◌++◌, ap, ◌∙◌, append-nil, refl, map, Bool, true, false, cond, Option, Some, None, arith}
use Rattle.std.specs.Prelude.{◌&&◌, ◌||◌, ◌+◌, ◌/◌, ◌%◌, ◌==◌, nat_lt, codes, slice_get}
use Rattle.std.specs.Fmt.{decimal, digits, digits_onto, digit_glyph}
use Rattle.std.specs.List.{flat_map, list_all}
use Rattle.std.proofs.lemmas.List.Folds.{list_all-append, flat_map-map}
use Rattle.std.proofs.lemmas.Grind.{flat_map-append, common_steps}
use Rattle.planus_schema.specs.declared.scalar.Scalar.{Scalar}
use Rattle.planus_schema.specs.declared.scalar.Scalar.TheVariants as scalar
use Rattle.planus_schema.specs.declared.schema.Base.{Base}
use Rattle.planus_schema.specs.declared.schema.Base.TheVariants as base
use Rattle.planus_schema.specs.declared.schema.Body.{Body}
use Rattle.planus_schema.specs.declared.schema.Body.TheVariants as body
use Rattle.planus_schema.specs.declared.schema.Declared.{Declared}
use Rattle.planus_schema.specs.declared.schema.FieldType.{FieldType}
use Rattle.planus_schema.specs.declared.schema.Schema.{Schema}
use Rattle.planus_dot.specs.Rows.{RowV, rows_of, declared_at}
use Rattle.planus_dot.specs.Types.{scalar_name, name_of, name_at, base_name, count_text, is_some}
use Rattle.planus_dot.specs.Nodes.{word_of, integer_of, kind_text, row_text, rows_text, title_text, label_text, node_line, nodes_text}
use Rattle.planus_dot.specs.Edges.{Edge, edge_of, edge_to, row_edges, body_edges, all_edges, edge_line, edges_text}
use Rattle.planus_dot.specs.Graphs.{graph_text}
use Rattle.planus_dot.specs.Reading.{node, edge, lines_from, Quoted, statement_read, edge_read, statement_in, statements_in, label, arrow}
use Rattle.planus_dot.specs.Reading.{no_quote, no_feed, is_plain, has_plain_name, has_plain_names, nodes_of, IsRead}
use Rattle.planus_dot.proofs.Cut.{both, and_true, lines_cut, quoted_cut}

-- ---- lists all of whose items pass a test

pub all_both : {A : Type 0} (p : A → Bool) (xs ys : List A) → list_all p xs ≡ true → list_all p ys ≡ true → list_all p (xs ++ ys) ≡ true
all_both p xs ys h k = list_all-append p xs ys ∙ and_true (list_all p xs) (list_all p ys) h k

all_flat : {A B : Type 0} (p : B → Bool) (q : A → Bool) (f : A → List B) → ((x : A) → q x ≡ true → list_all p (f x) ≡ true)
    → (xs : List A) → list_all q xs ≡ true → list_all p (flat_map f xs) ≡ true
all_flat p q f each [] h = refl
all_flat p q f each (x ∷ xs) h =
    let t = both (q x) (list_all q xs) h in
    all_both p (f x) (flat_map f xs) (each x t.0) (all_flat p q f each xs t.1)

all_so : {A : Type 0} (p q : A → Bool) → ((x : A) → q x ≡ true → p x ≡ true) → (xs : List A) → list_all q xs ≡ true → list_all p xs ≡ true
all_so p q each [] h = refl
all_so p q each (x ∷ xs) h =
    let t = both (q x) (list_all q xs) h in
    and_true (p x) (list_all p xs) (each x t.0) (all_so p q each xs t.1)

flat_single : {A B : Type 0} (q : A → Bool) (f : A → List B) (g : A → B) → ((x : A) → q x ≡ true → f x ≡ g x ∷ [])
    → (xs : List A) → list_all q xs ≡ true → flat_map f xs ≡ map g xs
flat_single q f g each [] h = refl
flat_single q f g each (x ∷ xs) h =
    let t = both (q x) (list_all q xs) h in
    ap (λ l. l ++ flat_map f xs) (each x t.0) ∙ ap (λ l. g x ∷ l) (flat_single q f g each xs t.1)

-- ---- names

named : (ds : List Declared) (i : ℕ) → list_all has_plain_names ds ≡ true → is_plain (name_of (slice_get ds i)) ≡ true
named [] i h = refl
named (d ∷ ds) zero h =
    let t = both (has_plain_names d) (list_all has_plain_names ds) h in
    (both (is_plain d.name.items) (list_all has_plain_name (rows_of d.body)) t.0).0
named (d ∷ ds) (suc i) h = named ds i (both (has_plain_names d) (list_all has_plain_names ds) h).1

no_feed_in : (name : List ℕ) → is_plain name ≡ true → list_all no_feed name ≡ true
no_feed_in name h = (both (list_all no_quote name) (list_all no_feed name) h).1

no_quote_in : (name : List ℕ) → is_plain name ≡ true → list_all no_quote name ≡ true
no_quote_in name h = (both (list_all no_quote name) (list_all no_feed name) h).0

own_name : (d : Declared) → has_plain_names d ≡ true → is_plain d.name.items ≡ true
own_name d h = (both (is_plain d.name.items) (list_all has_plain_name (rows_of d.body)) h).0

own_rows : (d : Declared) → has_plain_names d ≡ true → list_all has_plain_name (rows_of d.body) ≡ true
own_rows d h = (both (is_plain d.name.items) (list_all has_plain_name (rows_of d.body)) h).1

-- ---- lines without a line feed

scalar_plain : (s : Scalar) → list_all no_feed (scalar_name s) ≡ true
scalar_plain scalar.Bool = refl
scalar_plain scalar.Byte = refl
scalar_plain scalar.UByte = refl
scalar_plain scalar.Short = refl
scalar_plain scalar.UShort = refl
scalar_plain scalar.Int = refl
scalar_plain scalar.UInt = refl
scalar_plain scalar.Long = refl
scalar_plain scalar.ULong = refl
scalar_plain scalar.Float = refl
scalar_plain scalar.Double = refl

base_plain : (ds : List Declared) (b : Base) → list_all has_plain_names ds ≡ true → list_all no_feed (base_name ds b) ≡ true
base_plain ds (base.Scalar s) h = scalar_plain s
base_plain ds base.Text h = refl
base_plain ds (base.Enum i) h = no_feed_in (name_at ds i) (named ds i h)
base_plain ds (base.Struct i) h = no_feed_in (name_at ds i) (named ds i h)
base_plain ds (base.Table i) h = no_feed_in (name_at ds i) (named ds i h)
base_plain ds (base.Union i) h = no_feed_in (name_at ds i) (named ds i h)

above_feed : (m : ℕ) → no_feed (48 + m) ≡ true
above_feed m = grind (arith, common_steps)

glyph_plain : (d : ℕ) → no_feed (digit_glyph false d) ≡ true
glyph_plain d = which (nat_lt d 10)
  where
    which : (small : Bool) → no_feed (cond small (48 + d) (87 + d)) ≡ true
    which true = above_feed d
    which false = let m : 87 + d ≡ 48 + (39 + d) = omega arith in ap no_feed m ∙ above_feed (39 + d)

chosen_plain : (last : Bool) (now next : List ℕ) → list_all no_feed now ≡ true → list_all no_feed next ≡ true → list_all no_feed (cond last now next) ≡ true
chosen_plain true now next h k = h
chosen_plain false now next h k = k

digits_plain : (k n : ℕ) (after : List ℕ) → list_all no_feed after ≡ true → list_all no_feed (digits_onto k 10 false n after) ≡ true
digits_plain zero n after h = h
digits_plain (suc k) n after h =
    let digit = digit_glyph false (n % 10) in
    let first = and_true (no_feed digit) (list_all no_feed after) (glyph_plain (n % 10)) h in
    chosen_plain (n / 10 == 0) (digit ∷ after) (digits_onto k 10 false (n / 10) (digit ∷ after)) first
    (digits_plain k (n / 10) (digit ∷ after) first)

number_plain : (n : ℕ) → list_all no_feed (decimal n) ≡ true
unfolding digits
number_plain n = digits_plain 64 n [] refl

count_plain : (n : Option ℕ) → list_all no_feed (count_text n) ≡ true
count_plain None = refl
count_plain (Some n) = number_plain n

type_plain : (v : Bool) (name : List ℕ) (n : Option ℕ) → list_all no_feed name ≡ true → list_all no_feed (cond v (91 ∷ (name ++ (count_text n ++ 93 ∷ []))) name) ≡ true
type_plain true name n h = all_both no_feed name (count_text n ++ 93 ∷ []) h (all_both no_feed (count_text n) (93 ∷ []) (count_plain n) refl)
type_plain false name n h = h

kind_plain : (ds : List Declared) (k : Option FieldType) (n : Option ℕ) → list_all has_plain_names ds ≡ true → list_all no_feed (kind_text ds k n) ≡ true
kind_plain ds None n h = refl
kind_plain ds (Some k) n h = type_plain (k.vector || is_some n) (base_name ds k.base) n (base_plain ds k.base h)

row_plain : (ds : List Declared) → list_all has_plain_names ds ≡ true → (row : RowV) → has_plain_name row ≡ true → list_all no_feed (row_text ds row) ≡ true
row_plain ds h row p =
    all_both no_feed row.name (kind_text ds row.kind row.count ++ codes "\\l") (no_feed_in row.name p)
    (all_both no_feed (kind_text ds row.kind row.count) (codes "\\l") (kind_plain ds row.kind row.count h) refl)

word_plain : (b : Body) → list_all no_feed (word_of b) ≡ true
word_plain (body.Table t) = refl
word_plain (body.Struct s) = refl
word_plain (body.Enum e) = refl
word_plain (body.Union u) = refl

integer_plain : (b : Body) → list_all no_feed (integer_of b) ≡ true
integer_plain (body.Table t) = refl
integer_plain (body.Struct s) = refl
integer_plain (body.Enum e) = scalar_plain e.scalar
integer_plain (body.Union u) = refl

title_plain : (d : Declared) → has_plain_names d ≡ true → list_all no_feed (title_text d) ≡ true
title_plain d p =
    all_both no_feed (word_of d.body) (d.name.items ++ integer_of d.body) (word_plain d.body)
    (all_both no_feed d.name.items (integer_of d.body) (no_feed_in d.name.items (own_name d p)) (integer_plain d.body))

label_plain : (ds : List Declared) → list_all has_plain_names ds ≡ true → (d : Declared) → has_plain_names d ≡ true → list_all no_feed (label_text ds d) ≡ true
unfolding label_text
label_plain ds h d p =
    all_both no_feed (title_text d) (124 ∷ rows_text ds (rows_of d.body)) (title_plain d p)
    (all_flat no_feed has_plain_name (row_text ds) (row_plain ds h) (rows_of d.body) (own_rows d p))

node_plain : (ds : List Declared) → list_all has_plain_names ds ≡ true → (d : Declared) → has_plain_names d ≡ true → list_all no_feed (node_line ds d) ≡ true
unfolding node_line
node_plain ds h d p =
    all_both no_feed d.name.items (codes "\" [label=\"" ++ (label_text ds d ++ codes "\"];")) (no_feed_in d.name.items (own_name d p))
    (all_both no_feed (label_text ds d) (codes "\"];") (label_plain ds h d p) refl)

abbrev plain_edge : Edge → Bool
plain_edge e = is_plain e.from && (is_plain e.label && is_plain e.to)

edge_plain : (e : Edge) → plain_edge e ≡ true → list_all no_feed (edge_line e) ≡ true
unfolding edge_line
edge_plain e p =
    let t = both (is_plain e.from) (is_plain e.label && is_plain e.to) p in
    let u = both (is_plain e.label) (is_plain e.to) t.1 in
    all_both no_feed e.from (codes "\" -> \"" ++ (e.to ++ (codes "\" [label=\"" ++ (e.label ++ codes "\"];")))) (no_feed_in e.from t.0)
    (all_both no_feed e.to (codes "\" [label=\"" ++ (e.label ++ codes "\"];")) (no_feed_in e.to u.1)
    (all_both no_feed e.label (codes "\"];") (no_feed_in e.label u.0) refl))

-- ---- the edges have plain names

to_plain : (from name : List ℕ) (o : Option Declared) → is_plain from ≡ true → is_plain name ≡ true → is_plain (name_of o) ≡ true → list_all plain_edge (edge_to from name o) ≡ true
to_plain from name None p q r = refl
to_plain from name (Some d) p q r =
    and_true (plain_edge (edge_of from name d.name.items)) true
    (and_true (is_plain from) (is_plain name && is_plain d.name.items) p (and_true (is_plain name) (is_plain d.name.items) q r)) refl

at_plain : (ds : List Declared) → list_all has_plain_names ds ≡ true → (t : Option ℕ) → is_plain (name_of (declared_at ds t)) ≡ true
at_plain ds h None = refl
at_plain ds h (Some i) = named ds i h

body_edges_plain : (ds : List Declared) → list_all has_plain_names ds ≡ true → (d : Declared) → has_plain_names d ≡ true → list_all plain_edge (body_edges ds d) ≡ true
body_edges_plain ds h d p = all_flat plain_edge has_plain_name (row_edges ds d.name.items)
    (λ row q. to_plain d.name.items row.name (declared_at ds row.target) (own_name d p) q (at_plain ds h row.target)) (rows_of d.body) (own_rows d p)

all_edges_plain : (ds : List Declared) → list_all has_plain_names ds ≡ true → list_all plain_edge (all_edges ds) ≡ true
all_edges_plain ds h = all_flat plain_edge has_plain_names (body_edges ds) (body_edges_plain ds h) ds h

-- ---- a line is read as what it says

node_read : (ds : List Declared) (d : Declared) → has_plain_names d ≡ true → statement_in (node_line ds d) ≡ node d.name.items ∷ []
unfolding node_line
node_read ds d p = ap statement_read
    (quoted_cut [] d.name.items (codes " [label=\"" ++ (label_text ds d ++ codes "\"];")) (no_quote_in d.name.items (own_name d p)))

edge_is_read : (e : Edge) → plain_edge e ≡ true → statement_in (edge_line e) ≡ edge e ∷ []
unfolding edge_line
edge_is_read e p =
    let t = both (is_plain e.from) (is_plain e.label && is_plain e.to) p in
    let u = both (is_plain e.label) (is_plain e.to) t.1 in
    ap statement_read (quoted_cut [] e.from (arrow ++ (e.to ++ (codes "\" [label=\"" ++ (e.label ++ codes "\"];")))) (no_quote_in e.from t.0))
    ∙ ap (edge_read e.from) (quoted_cut [] e.to (label ++ (e.label ++ codes "\"];")) (no_quote_in e.to u.1))
    ∙ ap (λ (q : Quoted). edge (edge_of e.from q.name e.to) ∷ []) (quoted_cut [] e.label (codes "];") (no_quote_in e.label u.0))

-- ---- the text

nodes_read : (ds all : List Declared) → list_all has_plain_names ds ≡ true → flat_map statement_in (map (node_line all) ds) ≡ nodes_of ds
nodes_read ds all h = flat_map-map statement_in (node_line all) ds
    ∙ flat_single has_plain_names (λ d. statement_in (node_line all d)) (λ d. node d.name.items) (node_read all) ds h

edges_read : (es : List Edge) → list_all plain_edge es ≡ true → flat_map statement_in (map edge_line es) ≡ map edge es
edges_read es h = flat_map-map statement_in edge_line es
    ∙ flat_single plain_edge (λ e. statement_in (edge_line e)) edge edge_is_read es h

lines_read : (ds : List Declared) (es : List Edge) → list_all has_plain_names ds ≡ true → list_all plain_edge es ≡ true
    → flat_map statement_in (map (node_line ds) ds ++ (map edge_line es ++ (codes "}" ∷ [] ∷ []))) ≡ nodes_of ds ++ map edge es
lines_read ds es h k =
    flat_map-append statement_in (map (node_line ds) ds) (map edge_line es ++ (codes "}" ∷ [] ∷ []))
    ∙ ap (λ l. l ++ flat_map statement_in (map edge_line es ++ (codes "}" ∷ [] ∷ []))) (nodes_read ds ds h)
    ∙ ap (λ l. nodes_of ds ++ l) (flat_map-append statement_in (map edge_line es) (codes "}" ∷ [] ∷ [])
    ∙ append-nil (flat_map statement_in (map edge_line es)) ∙ edges_read es k)

text_cut : (ds : List Declared) (es : List Edge) → list_all has_plain_names ds ≡ true → list_all plain_edge es ≡ true
    → lines_from [] (nodes_text ds ++ (edges_text es ++ codes "}\n")) ≡ map (node_line ds) ds ++ (map edge_line es ++ (codes "}" ∷ [] ∷ []))
text_cut ds es h k =
    lines_cut (node_line ds) ds (edges_text es ++ codes "}\n")
    (all_so (λ d. list_all no_feed (node_line ds d)) has_plain_names (node_plain ds h) ds h)
    ∙ ap (λ l. map (node_line ds) ds ++ l) (lines_cut edge_line es (codes "}\n")
    (all_so (λ e. list_all no_feed (edge_line e)) plain_edge edge_plain es k))

pub graph_read : (schema : Schema) → list_all has_plain_names schema.declarations.items ≡ true → IsRead schema
unfolding graph_text statements_in
graph_read schema h =
    let ds = schema.declarations.items in
    let k = all_edges_plain ds h in
    ap (flat_map statement_in) (text_cut ds (all_edges ds) h k) ∙ lines_read ds (all_edges ds) h k
