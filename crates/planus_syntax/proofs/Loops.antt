-- What is read was written so.
use Rattle.std.proofs.Common.{◌≡◌, ℕ, ◌≤◌, ◌<◌, Bool, true, false, cond, List, [], ◌∷◌, length, Option, Some, None, Result, Ok, Err, refl, sym, ap, subst, ◌∙◌, arith}
use Rattle.std.specs.Prelude.{codes, ◌==◌, ◌&&◌}
use Rattle.std.specs.Str.{bytes_eq}
use Rattle.std.proofs.lemmas.Bool.{eqb-true}
use Rattle.planus_syntax.specs.Tokens.{Piece, word, number, text, doc, mark}
use Rattle.planus_syntax.specs.Values.{closing_before, Name, PathV, KindV, single, vector, array, LiteralV, numeral, named, quote, nothing, LabelV, AttributeV, FieldV, RecordV, VariantV, EnumerationV, MemberV, UnionV, MethodV, ServiceV, ItemV, include, native_include, namespace, attribute, table, struct, enumeration, union, service, root, identifier, extension, DeclarationV, SchemaV, Before, each_before, doc_before, docs_before, dotted_before, path_before, kind_before, literal_before, after_before, number_before, label_before, attribute_before, next_before, attributes_before, field_before, record_before, variant_before, list_before, comma_before, enumeration_before, member_before, union_before, method_before, service_before, quoted_before, rooted_before, declared_before, namespace_before, item_before, declaration_before, schema_pieces}
use Rattle.planus_syntax.specs.declared.parse_fault.ParseFault.TheVariants as fault
use Rattle.planus_syntax.specs.Reading.{closing_at, Looped, Takes, Fault, Reads, optional_at, begins_mark, begins_doc, begins_next, has_more, inside, if_inside, mark_at, word_at, doc_at, number_at, text_at, label_at, list_at, with_items, docs_at, dotted_at, path_at, kind_in_brackets, kind_at, brackets_at, name_at, literal_at, attribute_at, next_attribute_at, attributes_at, field_at, record_at, comma_at, variant_at, next_variant_at, variants_at, enumeration_at, member_at, next_member_at, members_at, union_at, method_at, service_at, quoted_at, rooted_at, namespace_at, declared_at, as_item, statement_at, item_at, declaration_at, schema_at}
use Rattle.planus_syntax.proofs.Many.{bind_ok, ok_is, ok, list_takes}

guard : {A : Type 0} (b : Bool) (x y : A) (e : Fault) → cond b (ok x) (Err e) ≡ Ok y → (b ≡ true) × (x ≡ y)
guard true x y e h = (refl, cc)
guard false x y e h = absurd cc

either : {A : Type 0} (b : Bool) (r s : Result A Fault) (P : Type 0) (y : A) → cond b r s ≡ Ok y → (r ≡ Ok y → P) → (s ≡ Ok y → P) → P
either true r s P y e f g = f e
either false r s P y e f g = g e

pub chosen : {A : Type 0} (b : Bool) (r s : Result A Fault) (P : Type 0) (y : A) → cond b r s ≡ Ok y → (b ≡ true → r ≡ Ok y → P) → (s ≡ Ok y → P) → P
chosen true r s P y e f g = f refl e
chosen false r s P y e f g = g e

pub mark_takes : (m : ℕ) (ps rest : List Piece) → mark_at m ps ≡ Ok rest → ps ≡ mark m ∷ rest
mark_takes m [] rest e = absurd cc
mark_takes m (word w ∷ ps) rest e = absurd cc
mark_takes m (number w ∷ ps) rest e = absurd cc
mark_takes m (text w ∷ ps) rest e = absurd cc
mark_takes m (doc w ∷ ps) rest e = absurd cc
mark_takes m (mark b ∷ ps) rest e =
    let g = guard (b == m) ps rest (fault.Mark m, length (mark b ∷ ps)) e in
    ap (λ x. mark x ∷ ps) (eqb-true b m g.0) ∙ ap (λ r. mark m ∷ r) g.1

pub word_takes : Takes word_at (λ w rest. word w ∷ rest)
word_takes [] x e = absurd cc
word_takes (word w ∷ ps) x e = subst (λ y. word w ∷ ps ≡ word y.0 ∷ y.1) (ok_is (w, ps) x e) refl
word_takes (number w ∷ ps) x e = absurd cc
word_takes (text w ∷ ps) x e = absurd cc
word_takes (doc w ∷ ps) x e = absurd cc
word_takes (mark b ∷ ps) x e = absurd cc

pub doc_takes : Takes doc_at doc_before
doc_takes [] x e = absurd cc
doc_takes (word w ∷ ps) x e = absurd cc
doc_takes (number w ∷ ps) x e = absurd cc
doc_takes (text w ∷ ps) x e = absurd cc
doc_takes (doc w ∷ ps) x e = subst (λ y. doc w ∷ ps ≡ doc y.0 ∷ y.1) (ok_is (w, ps) x e) refl
doc_takes (mark b ∷ ps) x e = absurd cc

pub number_takes : Takes number_at number_before
number_takes [] x e = absurd cc
number_takes (word w ∷ ps) x e = absurd cc
number_takes (number w ∷ ps) x e = subst (λ y. number w ∷ ps ≡ number y.0 ∷ y.1) (ok_is (w, ps) x e) refl
number_takes (text w ∷ ps) x e = absurd cc
number_takes (doc w ∷ ps) x e = absurd cc
number_takes (mark b ∷ ps) x e = absurd cc

pub text_takes : Takes text_at (λ w rest. text w ∷ rest)
text_takes [] x e = absurd cc
text_takes (word w ∷ ps) x e = absurd cc
text_takes (number w ∷ ps) x e = absurd cc
text_takes (text w ∷ ps) x e = subst (λ y. text w ∷ ps ≡ text y.0 ∷ y.1) (ok_is (w, ps) x e) refl
text_takes (doc w ∷ ps) x e = absurd cc
text_takes (mark b ∷ ps) x e = absurd cc

pub label_takes : Takes label_at label_before
label_takes [] x e = absurd cc
label_takes (word w ∷ ps) x e = subst (λ y. word w ∷ ps ≡ label_before y.0 y.1) (ok_is (record { quoted = false; name = w }, ps) x e) refl
label_takes (number w ∷ ps) x e = absurd cc
label_takes (text w ∷ ps) x e = subst (λ y. text w ∷ ps ≡ label_before y.0 y.1) (ok_is (record { quoted = true; name = w }, ps) x e) refl
label_takes (doc w ∷ ps) x e = absurd cc
label_takes (mark b ∷ ps) x e = absurd cc

shrunk : (ps : List Piece) (p : Piece) (rest after : List Piece) → ps ≡ p ∷ rest → length after ≤ length rest → length after < length ps
shrunk ps p rest after e h = omega (arith, ap length e)

pub dotted_takes : Takes dotted_at dotted_before
unfolding dotted_at
dotted_takes ps x e =
    let a = bind_ok (mark_at 46 ps) word_at x e in
    mark_takes 46 ps a.0 a.1 ∙ ap (λ (r : List Piece). mark 46 ∷ r) (word_takes a.0 x a.2)

pub dotted_looped : Looped (begins_mark 46) dotted_at
dotted_looped = record { none = refl; shrinks = λ ps x e. shrunk ps _ _ x.1 (dotted_takes ps x e) (omega arith) }

pub docs_looped : Looped begins_doc doc_at
docs_looped = record { none = refl; shrinks = λ ps x e. shrunk ps _ _ x.1 (doc_takes ps x e) (omega arith) }

pub docs_take : Takes docs_at docs_before
docs_take ps x e = (list_takes begins_doc doc_at doc_before docs_looped doc_takes ps x e).0

pub closing_takes : Takes closing_at closing_before
unfolding closing_at
closing_takes ps x e =
    let y0 = bind_ok _ _ x e in
    let y1 = bind_ok _ _ x y0.2 in
    subst (λ (y : List (List ℕ) × List Piece). ps ≡ closing_before y.0 y.1) (ok_is _ x y1.2)
    ((docs_take ps y0.0 y0.1) ∙ ap (λ (r : List Piece). docs_before y0.0.0 r) (
    mark_takes 125 y0.0.1 y1.0 y1.1))

pub path_takes : Takes path_at path_before
unfolding path_at
path_takes ps x e =
    let y0 = bind_ok _ _ x e in
    let y1 = bind_ok _ _ x y0.2 in
    subst (λ (y : PathV × List Piece). ps ≡ path_before y.0 y.1) (ok_is _ x y1.2)
    ((word_takes ps y0.0 y0.1) ∙ ap (λ (r : List Piece). word y0.0.0 ∷ r) (
    (list_takes (begins_mark 46) dotted_at dotted_before dotted_looped dotted_takes y0.0.1 y1.0 y1.1).0))

pub brackets_takes : Takes brackets_at literal_before
unfolding brackets_at
brackets_takes ps x e =
    let y0 = bind_ok _ _ x e in
    let y1 = bind_ok _ _ x y0.2 in
    subst (λ (y : LiteralV × List Piece). ps ≡ literal_before y.0 y.1) (ok_is _ x y1.2)
    ((mark_takes 91 ps y0.0 y0.1) ∙ ap (λ (r : List Piece). mark 91 ∷ r) (
    mark_takes 93 y0.0 y1.0 y1.1))

pub name_takes : Takes name_at literal_before
unfolding name_at
name_takes ps x e =
    let y0 = bind_ok _ _ x e in
    subst (λ (y : LiteralV × List Piece). ps ≡ literal_before y.0 y.1) (ok_is _ x y0.2)
    (path_takes ps y0.0 y0.1)

pub literal_takes : Takes literal_at literal_before
literal_takes [] x e = absurd cc
literal_takes (word w ∷ ps) x e = name_takes (word w ∷ ps) x e
literal_takes (number w ∷ ps) x e = subst (λ y. number w ∷ ps ≡ literal_before y.0 y.1) (ok_is (numeral w, ps) x e) refl
literal_takes (text w ∷ ps) x e = subst (λ y. text w ∷ ps ≡ literal_before y.0 y.1) (ok_is (quote w, ps) x e) refl
literal_takes (doc w ∷ ps) x e = absurd cc
literal_takes (mark b ∷ ps) x e = either (b == 91) _ _ (mark b ∷ ps ≡ literal_before x.0 x.1) x e (λ h. brackets_takes (mark b ∷ ps) x h) (λ h. absurd cc)

pub optional_takes : {A : Type 0} (m : ℕ) (item : List Piece → Reads A) (before : Before A) → Takes item before → Takes (optional_at m item) (after_before m before)
unfolding optional_at
optional_takes {A} m item before takes ps x e = either (begins_mark m ps) _ _ (ps ≡ after_before m before x.0 x.1) x e
    (λ h.
    let y0 = bind_ok _ _ x h in
    let y1 = bind_ok _ _ x y0.2 in
    subst (λ (y : Option A × List Piece). ps ≡ after_before m before y.0 y.1) (ok_is _ x y1.2)
    ((mark_takes m ps y0.0 y0.1) ∙ ap (λ (r : List Piece). mark m ∷ r) (
    takes y0.0 y1.0 y1.1)))
    (λ h.
    subst (λ (y : Option A × List Piece). ps ≡ after_before m before y.0 y.1) (ok_is (None, ps) x h) refl)

brackets_before : (p : PathV) (count : Option (List ℕ)) (rest : List Piece)
    → mark 91 ∷ path_before p (after_before 58 number_before count (mark 93 ∷ rest)) ≡ kind_before (kind_in_brackets p count) rest
brackets_before p None rest = refl
brackets_before p (Some w) rest = refl

pub kind_takes : Takes kind_at kind_before
unfolding kind_at
kind_takes ps x e = either (begins_mark 91 ps) _ _ (ps ≡ kind_before x.0 x.1) x e
    (λ h.
    let y0 = bind_ok _ _ x h in
    let y1 = bind_ok _ _ x y0.2 in
    let y2 = bind_ok _ _ x y1.2 in
    let y3 = bind_ok _ _ x y2.2 in
    subst (λ (y : KindV × List Piece). ps ≡ kind_before y.0 y.1) (ok_is _ x y3.2)
    ((mark_takes 91 ps y0.0 y0.1) ∙ ap (λ (r : List Piece). mark 91 ∷ r) (
    (path_takes y0.0 y1.0 y1.1) ∙ ap (λ (r : List Piece). path_before y1.0.0 r) (
    (optional_takes 58 number_at number_before number_takes y1.0.1 y2.0 y2.1) ∙ ap (λ (r : List Piece). after_before 58 number_before y2.0.0 r) (
    mark_takes 93 y2.0.1 y3.0 y3.1)))
    ∙ brackets_before y1.0.0 y2.0.0 y3.0))
    (λ h.
    let y0 = bind_ok _ _ x h in
    subst (λ (y : KindV × List Piece). ps ≡ kind_before y.0 y.1) (ok_is _ x y0.2)
    (path_takes ps y0.0 y0.1))

pub attribute_takes : Takes attribute_at attribute_before
unfolding attribute_at
attribute_takes ps x e =
    let y0 = bind_ok _ _ x e in
    let y1 = bind_ok _ _ x y0.2 in
    subst (λ (y : AttributeV × List Piece). ps ≡ attribute_before y.0 y.1) (ok_is _ x y1.2)
    ((label_takes ps y0.0 y0.1) ∙ ap (λ (r : List Piece). label_before y0.0.0 r) (
    optional_takes 58 literal_at literal_before literal_takes y0.0.1 y1.0 y1.1))

pub next_attribute_takes : Takes next_attribute_at (next_before attribute_before)
unfolding next_attribute_at
next_attribute_takes ps x e =
    let a = bind_ok _ _ x e in
    mark_takes 44 ps a.0 a.1 ∙ ap (λ (r : List Piece). mark 44 ∷ r) (attribute_takes a.0 x a.2)

abbrev Longer : {A : Type 0} → Before A → Type 0
Longer {A} f = (a : A) (rest : List Piece) → length rest ≤ length (f a rest)

each_longer : {A : Type 0} (f : Before A) → Longer f → (xs : List A) (rest : List Piece) → length rest ≤ length (each_before f xs rest)
each_longer f h [] rest = omega arith
each_longer f h (x ∷ xs) rest = omega (arith, each_longer f h xs rest, h x (each_before f xs rest))

doc_longer : Longer doc_before
doc_longer w rest = omega arith

docs_longer : Longer docs_before
docs_longer docs rest = each_longer doc_before doc_longer docs rest

dotted_longer : Longer dotted_before
dotted_longer w rest = omega arith

path_longer : Longer path_before
path_longer p rest = omega (arith, each_longer dotted_before dotted_longer p.more rest)

literal_longer : Longer literal_before
literal_longer (numeral w) rest = omega arith
literal_longer (named p) rest = path_longer p rest
literal_longer (quote w) rest = omega arith
literal_longer nothing rest = omega arith

number_longer : Longer number_before
number_longer w rest = omega arith

after_longer : {A : Type 0} (m : ℕ) (f : Before A) → Longer f → (x : Option A) (rest : List Piece) → length rest ≤ length (after_before m f x rest)
after_longer m f h None rest = omega arith
after_longer m f h (Some x) rest = omega (arith, h x rest)

attribute_longer : Longer attribute_before
attribute_longer a rest = omega (arith, after_longer 58 literal_before literal_longer a.value rest)

pub attributes_looped : Looped (begins_mark 44) next_attribute_at
attributes_looped = record { none = refl; shrinks = λ ps x e. shrunk ps _ _ x.1 (next_attribute_takes ps x e) (attribute_longer x.0 x.1) }

with_first : {A : Type 0} (first : A) (read : Reads (List A)) (x : List A × List Piece) → with_items (first ∷ []) read ≡ Ok x → (y : List A × List Piece) × (read ≡ Ok y) × (first ∷ y.0 ≡ x.0) × (y.1 ≡ x.1)
with_first first (Ok y) x e = (y, refl, cc, cc)
with_first first (Err f) x e = absurd cc

pub firsts : {A : Type 0} (f : Before A) (goes : List Piece → Bool) (item : List Piece → Reads A) (ps : List Piece) (a : A × List Piece) (x : List A × List Piece) → Looped goes item → Takes item (next_before f) → ps ≡ f a.0 a.1
    → with_items (a.0 ∷ []) (list_at goes item a.1) ≡ Ok x → ps ≡ list_before f x.0 x.1
firsts f goes item ps a x l takes h e =
    let w = with_first a.0 (list_at goes item a.1) x e in
    let t = list_takes goes item (next_before f) l takes a.1 w.0 w.1 in
    h ∙ ap (f a.0) t.0 ∙ ap (λ r. f a.0 (each_before (next_before f) w.0.0 r)) w.3 ∙ ap (λ xs. list_before f xs x.1) w.2

bracketed : (xs : List AttributeV) (a : AttributeV) (more : List AttributeV) (rest : List Piece) → xs ≡ a ∷ more → mark 40 ∷ list_before attribute_before xs (mark 41 ∷ rest) ≡ attributes_before xs rest
bracketed xs a more rest e = subst (λ (ys : List AttributeV). mark 40 ∷ list_before attribute_before ys (mark 41 ∷ rest) ≡ attributes_before ys rest) (sym e) refl

pub attributes_takes : Takes attributes_at attributes_before
unfolding attributes_at
attributes_takes ps x e = either (begins_mark 40 ps) _ _ (ps ≡ attributes_before x.0 x.1) x e
    (λ h.
    let y0 = bind_ok _ _ x h in
    let y1 = bind_ok _ _ x y0.2 in
    let y2 = bind_ok _ _ x y1.2 in
    let y3 = bind_ok _ _ x y2.2 in
    let w = with_first y1.0.0 (list_at (begins_mark 44) next_attribute_at y1.0.1) y2.0 y2.1 in
    subst (λ (y : List AttributeV × List Piece). ps ≡ attributes_before y.0 y.1) (ok_is _ x y3.2)
    (mark_takes 40 ps y0.0 y0.1 ∙ ap (λ (r : List Piece). mark 40 ∷ r)
    (firsts attribute_before (begins_mark 44) next_attribute_at y0.0 y1.0 y2.0 attributes_looped next_attribute_takes (attribute_takes y0.0 y1.0 y1.1) y2.1
    ∙ ap (λ (r : List Piece). list_before attribute_before y2.0.0 r) (mark_takes 41 y2.0.1 y3.0 y3.1))
    ∙ bracketed y2.0.0 y1.0.0 w.0.0 y3.0 (sym w.2)))
    (λ h.
    subst (λ (y : List AttributeV × List Piece). ps ≡ attributes_before y.0 y.1) (ok_is ([], ps) x h) refl)

pub field_takes : Takes field_at field_before
unfolding field_at
field_takes ps x e =
    let y0 = bind_ok _ _ x e in
    let y1 = bind_ok _ _ x y0.2 in
    let y2 = bind_ok _ _ x y1.2 in
    let y3 = bind_ok _ _ x y2.2 in
    let y4 = bind_ok _ _ x y3.2 in
    let y5 = bind_ok _ _ x y4.2 in
    let y6 = bind_ok _ _ x y5.2 in
    subst (λ (y : FieldV × List Piece). ps ≡ field_before y.0 y.1) (ok_is _ x y6.2)
    ((docs_take ps y0.0 y0.1) ∙ ap (λ (r : List Piece). docs_before y0.0.0 r) (
    (word_takes y0.0.1 y1.0 y1.1) ∙ ap (λ (r : List Piece). word y1.0.0 ∷ r) (
    (mark_takes 58 y1.0.1 y2.0 y2.1) ∙ ap (λ (r : List Piece). mark 58 ∷ r) (
    (kind_takes y2.0 y3.0 y3.1) ∙ ap (λ (r : List Piece). kind_before y3.0.0 r) (
    (optional_takes 61 literal_at literal_before literal_takes y3.0.1 y4.0 y4.1) ∙ ap (λ (r : List Piece). after_before 61 literal_before y4.0.0 r) (
    (attributes_takes y4.0.1 y5.0 y5.1) ∙ ap (λ (r : List Piece). attributes_before y5.0.0 r) (
    mark_takes 59 y5.0.1 y6.0 y6.1)))))))

attributes_longer : Longer attributes_before
attributes_longer [] rest = omega arith
attributes_longer (a ∷ more) rest =
    omega (arith, each_longer (next_before attribute_before) (λ (b : AttributeV) (r : List Piece). omega (arith, attribute_longer b r)) more (mark 41 ∷ rest), attribute_longer a (each_before (next_before attribute_before) more (mark 41 ∷ rest)))

kind_longer : Longer kind_before
kind_longer (single p) rest = path_longer p rest
kind_longer (vector p) rest = omega (arith, path_longer p (mark 93 ∷ rest))
kind_longer (array p w) rest = omega (arith, path_longer p (mark 58 ∷ number w ∷ mark 93 ∷ rest))

docs_shrunk : (ps : List Piece) (docs : List (List ℕ)) (p : Piece) (rest after : List Piece) → ps ≡ docs_before docs (p ∷ rest) → length after ≤ length rest → length after < length ps
docs_shrunk ps docs p rest after e h = omega (arith, ap length e, docs_longer docs (p ∷ rest))

field_rest_longer : (f : FieldV) (rest : List Piece) → length rest ≤ length (mark 58 ∷ kind_before f.kind (after_before 61 literal_before f.default (attributes_before f.attributes (mark 59 ∷ rest))))
field_rest_longer f rest =
    let a = attributes_before f.attributes (mark 59 ∷ rest) in
    let d = after_before 61 literal_before f.default a in
    omega (arith, attributes_longer f.attributes (mark 59 ∷ rest), after_longer 61 literal_before literal_longer f.default a, kind_longer f.kind d)

pub fields_looped : Looped inside field_at
fields_looped = record { none = refl; shrinks = λ ps x e. docs_shrunk ps x.0.docs _ _ x.1 (field_takes ps x e) (field_rest_longer x.0 x.1) }

pub record_takes : Takes record_at record_before
unfolding record_at
record_takes ps x e =
    let y0 = bind_ok _ _ x e in
    let y1 = bind_ok _ _ x y0.2 in
    let y2 = bind_ok _ _ x y1.2 in
    let y3 = bind_ok _ _ x y2.2 in
    let y4 = bind_ok _ _ x y3.2 in
    subst (λ (y : RecordV × List Piece). ps ≡ record_before y.0 y.1) (ok_is _ x y4.2)
    ((word_takes ps y0.0 y0.1) ∙ ap (λ (r : List Piece). word y0.0.0 ∷ r) (
    (attributes_takes y0.0.1 y1.0 y1.1) ∙ ap (λ (r : List Piece). attributes_before y1.0.0 r) (
    (mark_takes 123 y1.0.1 y2.0 y2.1) ∙ ap (λ (r : List Piece). mark 123 ∷ r) (
    ((list_takes inside field_at field_before fields_looped field_takes y2.0 y3.0 y3.1).0) ∙ ap (λ (r : List Piece). each_before field_before y3.0.0 r) (
    closing_takes y3.0.1 y4.0 y4.1)))))

pub comma_takes : Takes comma_at comma_before
unfolding comma_at
comma_takes ps x e = either (begins_mark 44 ps) _ _ (ps ≡ comma_before x.0 x.1) x e
    (λ h.
    let y0 = bind_ok _ _ x h in
    subst (λ (y : Bool × List Piece). ps ≡ comma_before y.0 y.1) (ok_is _ x y0.2)
    (mark_takes 44 ps y0.0 y0.1))
    (λ h.
    subst (λ (y : Bool × List Piece). ps ≡ comma_before y.0 y.1) (ok_is (false, ps) x h) refl)

pub variant_takes : Takes variant_at variant_before
unfolding variant_at
variant_takes ps x e =
    let y0 = bind_ok _ _ x e in
    let y1 = bind_ok _ _ x y0.2 in
    let y2 = bind_ok _ _ x y1.2 in
    subst (λ (y : VariantV × List Piece). ps ≡ variant_before y.0 y.1) (ok_is _ x y2.2)
    ((docs_take ps y0.0 y0.1) ∙ ap (λ (r : List Piece). docs_before y0.0.0 r) (
    (word_takes y0.0.1 y1.0 y1.1) ∙ ap (λ (r : List Piece). word y1.0.0 ∷ r) (
    optional_takes 61 number_at number_before number_takes y1.0.1 y2.0 y2.1)))

pub next_variant_takes : Takes next_variant_at (next_before variant_before)
unfolding next_variant_at
next_variant_takes ps x e =
    let a = bind_ok _ _ x e in
    mark_takes 44 ps a.0 a.1 ∙ ap (λ (r : List Piece). mark 44 ∷ r) (variant_takes a.0 x a.2)

variant_longer : Longer variant_before
variant_longer v rest = omega (arith, docs_longer v.docs (word v.name ∷ after_before 61 number_before v.value rest), after_longer 61 number_before number_longer v.value rest)

pub variants_looped : Looped begins_next next_variant_at
variants_looped = record { none = refl; shrinks = λ ps x e. shrunk ps _ _ x.1 (next_variant_takes ps x e) (variant_longer x.0 x.1) }

pub variants_take : Takes variants_at (list_before variant_before)
unfolding variants_at
variants_take ps x e =
    let a = bind_ok _ _ x e in
    firsts variant_before begins_next next_variant_at ps a.0 x variants_looped next_variant_takes (variant_takes ps a.0 a.1) a.2

inside_takes : {A : Type 0} (read : List Piece → Reads (List A)) (before : Before A) → Takes read (list_before before) → Takes (if_inside read) (list_before before)
inside_takes read before takes ps x e =
    chosen (inside ps) _ _ (ps ≡ list_before before x.0 x.1) x e (λ _ h. takes ps x h) (λ h. subst (λ y. ps ≡ list_before before y.0 y.1) (ok_is ([], ps) x h) refl)

pub variants_inside_take : Takes (if_inside variants_at) (list_before variant_before)
variants_inside_take = inside_takes variants_at variant_before variants_take

pub enumeration_takes : Takes enumeration_at enumeration_before
unfolding enumeration_at
enumeration_takes ps x e =
    let y0 = bind_ok _ _ x e in
    let y1 = bind_ok _ _ x y0.2 in
    let y2 = bind_ok _ _ x y1.2 in
    let y3 = bind_ok _ _ x y2.2 in
    let y4 = bind_ok _ _ x y3.2 in
    let y5 = bind_ok _ _ x y4.2 in
    let y6 = bind_ok _ _ x y5.2 in
    let y7 = bind_ok _ _ x y6.2 in
    subst (λ (y : EnumerationV × List Piece). ps ≡ enumeration_before y.0 y.1) (ok_is _ x y7.2)
    ((word_takes ps y0.0 y0.1) ∙ ap (λ (r : List Piece). word y0.0.0 ∷ r) (
    (mark_takes 58 y0.0.1 y1.0 y1.1) ∙ ap (λ (r : List Piece). mark 58 ∷ r) (
    (path_takes y1.0 y2.0 y2.1) ∙ ap (λ (r : List Piece). path_before y2.0.0 r) (
    (attributes_takes y2.0.1 y3.0 y3.1) ∙ ap (λ (r : List Piece). attributes_before y3.0.0 r) (
    (mark_takes 123 y3.0.1 y4.0 y4.1) ∙ ap (λ (r : List Piece). mark 123 ∷ r) (
    (variants_inside_take y4.0 y5.0 y5.1) ∙ ap (λ (r : List Piece). list_before variant_before y5.0.0 r) (
    (comma_takes y5.0.1 y6.0 y6.1) ∙ ap (λ (r : List Piece). comma_before y6.0.0 r) (
    closing_takes y6.0.1 y7.0 y7.1))))))))

pub member_takes : Takes member_at member_before
unfolding member_at
member_takes ps x e =
    let y0 = bind_ok _ _ x e in
    let y1 = bind_ok _ _ x y0.2 in
    let y2 = bind_ok _ _ x y1.2 in
    let y3 = bind_ok _ _ x y2.2 in
    subst (λ (y : MemberV × List Piece). ps ≡ member_before y.0 y.1) (ok_is _ x y3.2)
    ((docs_take ps y0.0 y0.1) ∙ ap (λ (r : List Piece). docs_before y0.0.0 r) (
    (path_takes y0.0.1 y1.0 y1.1) ∙ ap (λ (r : List Piece). path_before y1.0.0 r) (
    (optional_takes 58 path_at path_before path_takes y1.0.1 y2.0 y2.1) ∙ ap (λ (r : List Piece). after_before 58 path_before y2.0.0 r) (
    optional_takes 61 number_at number_before number_takes y2.0.1 y3.0 y3.1))))

pub next_member_takes : Takes next_member_at (next_before member_before)
unfolding next_member_at
next_member_takes ps x e =
    let a = bind_ok _ _ x e in
    mark_takes 44 ps a.0 a.1 ∙ ap (λ (r : List Piece). mark 44 ∷ r) (member_takes a.0 x a.2)

member_longer : Longer member_before
member_longer m rest =
    let v = after_before 61 number_before m.value rest in
    let t = after_before 58 path_before m.target v in
    omega (arith, docs_longer m.docs (path_before m.path t), path_longer m.path t, after_longer 58 path_before path_longer m.target v, after_longer 61 number_before number_longer m.value rest)

pub members_looped : Looped begins_next next_member_at
members_looped = record { none = refl; shrinks = λ ps x e. shrunk ps _ _ x.1 (next_member_takes ps x e) (member_longer x.0 x.1) }

pub members_take : Takes members_at (list_before member_before)
unfolding members_at
members_take ps x e =
    let a = bind_ok _ _ x e in
    firsts member_before begins_next next_member_at ps a.0 x members_looped next_member_takes (member_takes ps a.0 a.1) a.2

pub members_inside_take : Takes (if_inside members_at) (list_before member_before)
members_inside_take = inside_takes members_at member_before members_take

pub union_takes : Takes union_at union_before
unfolding union_at
union_takes ps x e =
    let y0 = bind_ok _ _ x e in
    let y1 = bind_ok _ _ x y0.2 in
    let y2 = bind_ok _ _ x y1.2 in
    let y3 = bind_ok _ _ x y2.2 in
    let y4 = bind_ok _ _ x y3.2 in
    let y5 = bind_ok _ _ x y4.2 in
    subst (λ (y : UnionV × List Piece). ps ≡ union_before y.0 y.1) (ok_is _ x y5.2)
    ((word_takes ps y0.0 y0.1) ∙ ap (λ (r : List Piece). word y0.0.0 ∷ r) (
    (attributes_takes y0.0.1 y1.0 y1.1) ∙ ap (λ (r : List Piece). attributes_before y1.0.0 r) (
    (mark_takes 123 y1.0.1 y2.0 y2.1) ∙ ap (λ (r : List Piece). mark 123 ∷ r) (
    (members_inside_take y2.0 y3.0 y3.1) ∙ ap (λ (r : List Piece). list_before member_before y3.0.0 r) (
    (comma_takes y3.0.1 y4.0 y4.1) ∙ ap (λ (r : List Piece). comma_before y4.0.0 r) (
    closing_takes y4.0.1 y5.0 y5.1))))))

pub method_takes : Takes method_at method_before
unfolding method_at
method_takes ps x e =
    let y0 = bind_ok _ _ x e in
    let y1 = bind_ok _ _ x y0.2 in
    let y2 = bind_ok _ _ x y1.2 in
    let y3 = bind_ok _ _ x y2.2 in
    let y4 = bind_ok _ _ x y3.2 in
    let y5 = bind_ok _ _ x y4.2 in
    let y6 = bind_ok _ _ x y5.2 in
    let y7 = bind_ok _ _ x y6.2 in
    let y8 = bind_ok _ _ x y7.2 in
    subst (λ (y : MethodV × List Piece). ps ≡ method_before y.0 y.1) (ok_is _ x y8.2)
    ((docs_take ps y0.0 y0.1) ∙ ap (λ (r : List Piece). docs_before y0.0.0 r) (
    (word_takes y0.0.1 y1.0 y1.1) ∙ ap (λ (r : List Piece). word y1.0.0 ∷ r) (
    (mark_takes 40 y1.0.1 y2.0 y2.1) ∙ ap (λ (r : List Piece). mark 40 ∷ r) (
    (path_takes y2.0 y3.0 y3.1) ∙ ap (λ (r : List Piece). path_before y3.0.0 r) (
    (mark_takes 41 y3.0.1 y4.0 y4.1) ∙ ap (λ (r : List Piece). mark 41 ∷ r) (
    (mark_takes 58 y4.0 y5.0 y5.1) ∙ ap (λ (r : List Piece). mark 58 ∷ r) (
    (path_takes y5.0 y6.0 y6.1) ∙ ap (λ (r : List Piece). path_before y6.0.0 r) (
    (attributes_takes y6.0.1 y7.0 y7.1) ∙ ap (λ (r : List Piece). attributes_before y7.0.0 r) (
    mark_takes 59 y7.0.1 y8.0 y8.1)))))))))

method_rest_longer : (m : MethodV) (rest : List Piece) → length rest ≤ length (mark 40 ∷ path_before m.request (mark 41 ∷ mark 58 ∷ path_before m.response (attributes_before m.attributes (mark 59 ∷ rest))))
method_rest_longer m rest =
    let a = attributes_before m.attributes (mark 59 ∷ rest) in
    omega (arith, attributes_longer m.attributes (mark 59 ∷ rest), path_longer m.response a, path_longer m.request (mark 41 ∷ mark 58 ∷ path_before m.response a))

pub methods_looped : Looped inside method_at
methods_looped = record { none = refl; shrinks = λ ps x e. docs_shrunk ps x.0.docs _ _ x.1 (method_takes ps x e) (method_rest_longer x.0 x.1) }

pub service_takes : Takes service_at service_before
unfolding service_at
service_takes ps x e =
    let y0 = bind_ok _ _ x e in
    let y1 = bind_ok _ _ x y0.2 in
    let y2 = bind_ok _ _ x y1.2 in
    let y3 = bind_ok _ _ x y2.2 in
    let y4 = bind_ok _ _ x y3.2 in
    subst (λ (y : ServiceV × List Piece). ps ≡ service_before y.0 y.1) (ok_is _ x y4.2)
    ((word_takes ps y0.0 y0.1) ∙ ap (λ (r : List Piece). word y0.0.0 ∷ r) (
    (attributes_takes y0.0.1 y1.0 y1.1) ∙ ap (λ (r : List Piece). attributes_before y1.0.0 r) (
    (mark_takes 123 y1.0.1 y2.0 y2.1) ∙ ap (λ (r : List Piece). mark 123 ∷ r) (
    ((list_takes inside method_at method_before methods_looped method_takes y2.0 y3.0 y3.1).0) ∙ ap (λ (r : List Piece). each_before method_before y3.0.0 r) (
    closing_takes y3.0.1 y4.0 y4.1)))))

pub quoted_takes : Takes quoted_at quoted_before
unfolding quoted_at
quoted_takes ps x e =
    let y0 = bind_ok _ _ x e in
    let y1 = bind_ok _ _ x y0.2 in
    subst (λ (y : List ℕ × List Piece). ps ≡ quoted_before y.0 y.1) (ok_is _ x y1.2)
    ((text_takes ps y0.0 y0.1) ∙ ap (λ (r : List Piece). text y0.0.0 ∷ r) (
    mark_takes 59 y0.0.1 y1.0 y1.1))

pub rooted_takes : Takes rooted_at rooted_before
unfolding rooted_at
rooted_takes ps x e =
    let y0 = bind_ok _ _ x e in
    let y1 = bind_ok _ _ x y0.2 in
    subst (λ (y : PathV × List Piece). ps ≡ rooted_before y.0 y.1) (ok_is _ x y1.2)
    ((path_takes ps y0.0 y0.1) ∙ ap (λ (r : List Piece). path_before y0.0.0 r) (
    mark_takes 59 y0.0.1 y1.0 y1.1))

pub namespace_takes : Takes namespace_at namespace_before
unfolding namespace_at
namespace_takes ps x e = either (begins_mark 59 ps) _ _ (ps ≡ namespace_before x.0 x.1) x e
    (λ h.
    let y0 = bind_ok _ _ x h in
    subst (λ (y : Option PathV × List Piece). ps ≡ namespace_before y.0 y.1) (ok_is _ x y0.2)
    (mark_takes 59 ps y0.0 y0.1))
    (λ h.
    let y0 = bind_ok _ _ x h in
    subst (λ (y : Option PathV × List Piece). ps ≡ namespace_before y.0 y.1) (ok_is _ x y0.2)
    (rooted_takes ps y0.0 y0.1))

pub declared_takes : Takes declared_at declared_before
unfolding declared_at
declared_takes ps x e =
    let y0 = bind_ok _ _ x e in
    let y1 = bind_ok _ _ x y0.2 in
    subst (λ (y : LabelV × List Piece). ps ≡ declared_before y.0 y.1) (ok_is _ x y1.2)
    ((label_takes ps y0.0 y0.1) ∙ ap (λ (r : List Piece). label_before y0.0.0 r) (
    mark_takes 59 y0.0.1 y1.0 y1.1))

both : (a b : Bool) → (a && b) ≡ true → (a ≡ true) × (b ≡ true)
both true b h = (refl, h)
both false b h = absurd cc

bytes_same : (xs ys : List ℕ) → bytes_eq xs ys ≡ true → xs ≡ ys
bytes_same [] [] h = refl
bytes_same [] (y ∷ ys) h = absurd cc
bytes_same (x ∷ xs) [] h = absurd cc
bytes_same (x ∷ xs) (y ∷ ys) h =
    let both_hold = both (x == y) (bytes_eq xs ys) h in
    ap (λ z. z ∷ xs) (eqb-true x y both_hold.0) ∙ ap (λ z. y ∷ z) (bytes_same xs ys both_hold.1)

pub keyed : {A : Type 0} (make : A → ItemV) (read : List Piece → Reads A) (print : Before A) (kw key : Name) (ps : List Piece) (x : ItemV × List Piece) → Takes read print
    → ((a : A) (rest : List Piece) → word kw ∷ print a rest ≡ item_before (make a) rest)
    → bytes_eq key kw ≡ true → as_item make (read ps) ≡ Ok x → word key ∷ ps ≡ item_before x.0 x.1
keyed make read print kw key ps x takes is k e =
    let y = bind_ok _ _ x e in
    subst (λ (z : ItemV × List Piece). word key ∷ ps ≡ item_before z.0 z.1) (ok_is _ x y.2)
    (ap (λ (w : Name). word w ∷ ps) (bytes_same key kw k) ∙ ap (λ (r : List Piece). word kw ∷ r) (takes ps y.0 y.1) ∙ is y.0.0 y.0.1)

statement_takes : (key : Name) (left : ℕ) (ps : List Piece) (x : ItemV × List Piece) → statement_at key left ps ≡ Ok x → word key ∷ ps ≡ item_before x.0 x.1
unfolding statement_at
statement_takes key left ps x e0 =
    chosen (bytes_eq key (codes "include")) _ _ (word key ∷ ps ≡ item_before x.0 x.1) x e0 (keyed include quoted_at quoted_before (codes "include") key ps x quoted_takes (λ a rest. refl)) (λ e1.
    chosen (bytes_eq key (codes "namespace")) _ _ (word key ∷ ps ≡ item_before x.0 x.1) x e1 (keyed namespace namespace_at namespace_before (codes "namespace") key ps x namespace_takes (λ a rest. refl)) (λ e2.
    chosen (bytes_eq key (codes "attribute")) _ _ (word key ∷ ps ≡ item_before x.0 x.1) x e2 (keyed attribute declared_at declared_before (codes "attribute") key ps x declared_takes (λ a rest. refl)) (λ e3.
    chosen (bytes_eq key (codes "root_type")) _ _ (word key ∷ ps ≡ item_before x.0 x.1) x e3 (keyed root rooted_at rooted_before (codes "root_type") key ps x rooted_takes (λ a rest. refl)) (λ e4.
    chosen (bytes_eq key (codes "file_identifier")) _ _ (word key ∷ ps ≡ item_before x.0 x.1) x e4 (keyed identifier quoted_at quoted_before (codes "file_identifier") key ps x quoted_takes (λ a rest. refl)) (λ e5.
    chosen (bytes_eq key (codes "file_extension")) _ _ (word key ∷ ps ≡ item_before x.0 x.1) x e5 (keyed extension quoted_at quoted_before (codes "file_extension") key ps x quoted_takes (λ a rest. refl)) (λ e6.
    chosen (bytes_eq key (codes "native_include")) _ _ (word key ∷ ps ≡ item_before x.0 x.1) x e6 (keyed native_include quoted_at quoted_before (codes "native_include") key ps x quoted_takes (λ a rest. refl)) (λ e7.
    absurd cc)))))))

pub item_takes : (key : Name) (left : ℕ) (ps : List Piece) (x : ItemV × List Piece) → item_at key left ps ≡ Ok x → word key ∷ ps ≡ item_before x.0 x.1
unfolding item_at
item_takes key left ps x e0 =
    chosen (bytes_eq key (codes "table")) _ _ (word key ∷ ps ≡ item_before x.0 x.1) x e0 (keyed table record_at record_before (codes "table") key ps x record_takes (λ a rest. refl)) (λ e1.
    chosen (bytes_eq key (codes "struct")) _ _ (word key ∷ ps ≡ item_before x.0 x.1) x e1 (keyed struct record_at record_before (codes "struct") key ps x record_takes (λ a rest. refl)) (λ e2.
    chosen (bytes_eq key (codes "enum")) _ _ (word key ∷ ps ≡ item_before x.0 x.1) x e2 (keyed enumeration enumeration_at enumeration_before (codes "enum") key ps x enumeration_takes (λ a rest. refl)) (λ e3.
    chosen (bytes_eq key (codes "union")) _ _ (word key ∷ ps ≡ item_before x.0 x.1) x e3 (keyed union union_at union_before (codes "union") key ps x union_takes (λ a rest. refl)) (λ e4.
    chosen (bytes_eq key (codes "rpc_service")) _ _ (word key ∷ ps ≡ item_before x.0 x.1) x e4 (keyed service service_at service_before (codes "rpc_service") key ps x service_takes (λ a rest. refl)) (λ e5.
    statement_takes key left ps x e5)))))

pub declaration_takes : Takes declaration_at declaration_before
unfolding declaration_at
declaration_takes ps x e =
    let y0 = bind_ok _ _ x e in
    let y1 = bind_ok _ _ x y0.2 in
    let y2 = bind_ok _ _ x y1.2 in
    subst (λ (y : DeclarationV × List Piece). ps ≡ declaration_before y.0 y.1) (ok_is _ x y2.2)
    (docs_take ps y0.0 y0.1 ∙ ap (λ (r : List Piece). docs_before y0.0.0 r) (word_takes y0.0.1 y1.0 y1.1 ∙ item_takes y1.0.0 (length y0.0.1) y1.0.1 y2.0 y2.1))

closing_longer : Longer closing_before
closing_longer docs rest = omega (arith, docs_longer docs (mark 125 ∷ rest))

record_longer : Longer record_before
record_longer r rest =
    let f = each_before field_before r.fields (closing_before r.trailing rest) in
    omega (arith, attributes_longer r.attributes (mark 123 ∷ f), each_longer field_before (λ (a : FieldV) (s : List Piece). omega (arith, field_rest_longer a s, docs_longer a.docs (word a.name ∷ mark 58 ∷ kind_before a.kind (after_before 61 literal_before a.default (attributes_before a.attributes (mark 59 ∷ s)))))) r.fields (closing_before r.trailing rest), closing_longer r.trailing rest)

comma_longer : Longer comma_before
comma_longer true rest = omega arith
comma_longer false rest = omega arith

list_longer : {A : Type 0} (f : Before A) → Longer f → (xs : List A) (rest : List Piece) → length rest ≤ length (list_before f xs rest)
list_longer f h [] rest = omega arith
list_longer f h (x ∷ xs) rest = omega (arith, h x (each_before (next_before f) xs rest), each_longer (next_before f) (λ a r. omega (arith, h a r)) xs rest)

enumeration_longer : Longer enumeration_before
enumeration_longer e rest =
    let c = comma_before e.comma (closing_before e.trailing rest) in
    let v = list_before variant_before e.variants c in
    let a = attributes_before e.attributes (mark 123 ∷ v) in
    omega (arith, path_longer e.base a, attributes_longer e.attributes (mark 123 ∷ v), list_longer variant_before variant_longer e.variants c, comma_longer e.comma (closing_before e.trailing rest), closing_longer e.trailing rest)

union_longer : Longer union_before
union_longer u rest =
    let c = comma_before u.comma (closing_before u.trailing rest) in
    let v = list_before member_before u.members c in
    omega (arith, attributes_longer u.attributes (mark 123 ∷ v), list_longer member_before member_longer u.members c, comma_longer u.comma (closing_before u.trailing rest), closing_longer u.trailing rest)

service_longer : Longer service_before
service_longer s rest =
    let f = each_before method_before s.methods (closing_before s.trailing rest) in
    omega (arith, attributes_longer s.attributes (mark 123 ∷ f), each_longer method_before (λ (a : MethodV) (r : List Piece). omega (arith, method_rest_longer a r, docs_longer a.docs (word a.name ∷ mark 40 ∷ path_before a.request (mark 41 ∷ mark 58 ∷ path_before a.response (attributes_before a.attributes (mark 59 ∷ r)))))) s.methods (closing_before s.trailing rest), closing_longer s.trailing rest)

namespace_longer : Longer namespace_before
namespace_longer None rest = omega arith
namespace_longer (Some p) rest = omega (arith, path_longer p (mark 59 ∷ rest))

item_longer : (i : ItemV) (rest : List Piece) → length rest < length (item_before i rest)
item_longer (include w) rest = omega arith
item_longer (native_include w) rest = omega arith
item_longer (namespace p) rest = omega (arith, namespace_longer p rest)
item_longer (attribute l) rest = omega arith
item_longer (table r) rest = omega (arith, record_longer r rest)
item_longer (struct r) rest = omega (arith, record_longer r rest)
item_longer (enumeration e) rest = omega (arith, enumeration_longer e rest)
item_longer (union u) rest = omega (arith, union_longer u rest)
item_longer (service s) rest = omega (arith, service_longer s rest)
item_longer (root p) rest = omega (arith, path_longer p (mark 59 ∷ rest))
item_longer (identifier w) rest = omega arith
item_longer (extension w) rest = omega arith

pub declarations_looped : Looped has_more declaration_at
declarations_looped = record { none = refl; shrinks = λ ps x e. omega (arith, ap length (declaration_takes ps x e), docs_longer x.0.docs (item_before x.0.item x.1), item_longer x.0.item x.1) }

nothing_left : (docs : List (List ℕ)) (rest : List Piece) → has_more (docs_before docs rest) ≡ false → begins_doc rest ≡ false → rest ≡ []
nothing_left [] [] h k = refl
nothing_left [] (word w ∷ ps) h k = absurd cc
nothing_left [] (number w ∷ ps) h k = absurd cc
nothing_left [] (text w ∷ ps) h k = absurd cc
nothing_left [] (doc w ∷ ps) h k = absurd cc
nothing_left [] (mark b ∷ ps) h k = absurd cc
nothing_left (d ∷ docs) rest h k = nothing_left docs rest h k

-- the documentation at the end is all that is left
pub trailing_takes : (ps : List Piece) (x : List (List ℕ) × List Piece) → has_more ps ≡ false → docs_at ps ≡ Ok x → (ps ≡ docs_before x.0 []) × (x.1 ≡ [])
trailing_takes ps x h e =
    let t = list_takes begins_doc doc_at doc_before docs_looped doc_takes ps x e in
    let n = nothing_left x.0 x.1 (subst (λ qs. has_more qs ≡ false) t.0 h) t.1 in
    (t.0 ∙ ap (docs_before x.0) n, n)

pub schema_takes : (ps : List Piece) (x : SchemaV × List Piece) → schema_at ps ≡ Ok x → (ps ≡ schema_pieces x.0) × (x.1 ≡ [])
unfolding schema_at
schema_takes ps x e =
    let y0 = bind_ok (list_at has_more declaration_at ps) _ x e in
    let y1 = bind_ok (docs_at y0.0.1) _ x y0.2 in
    let t = list_takes has_more declaration_at declaration_before declarations_looped declaration_takes ps y0.0 y0.1 in
    let r = trailing_takes y0.0.1 y1.0 t.1 y1.1 in
    subst (λ (y : SchemaV × List Piece). (ps ≡ schema_pieces y.0) × (y.1 ≡ [])) (ok_is _ x y1.2) (t.0 ∙ ap (λ q. each_before declaration_before y0.0.0 q) r.0, r.1)
