-- What is written is read again.
use Rattle.std.proofs.Common.{◌≡◌, ℕ, Bool, true, false, List, [], ◌∷◌, length, Option, Some, None, Result, Ok, refl, ap, ◌∙◌}
use Rattle.std.specs.Prelude.{codes, ◌==◌, ◌||◌, not}
use Rattle.planus_syntax.specs.Tokens.{Piece, word, text, mark}
use Rattle.planus_syntax.specs.Values.{closing_before, PathV, KindV, single, vector, array, LiteralV, numeral, named, quote, nothing, LabelV, AttributeV, FieldV, RecordV, VariantV, EnumerationV, MemberV, UnionV, MethodV, ServiceV, ItemV, include, native_include, namespace, attribute, table, struct, enumeration, union, service, root, identifier, extension, DeclarationV, SchemaV, Before, each_before, doc_before, docs_before, dotted_before, path_before, kind_before, literal_before, after_before, number_before, label_piece, label_before, attribute_before, next_before, attributes_before, field_before, record_before, variant_before, list_before, comma_before, enumeration_before, member_before, union_before, method_before, service_before, quoted_before, rooted_before, declared_before, namespace_before, item_before, declaration_before, schema_pieces}
use Rattle.planus_syntax.specs.Reading.{begins_closing, closing_at, Fault, Reads, optional_at, ◌>>=◌, begins_mark, begins_doc, begins_next, has_more, inside, if_inside, mark_at, word_at, doc_at, number_at, label_at, list_at, with_items, docs_at, dotted_at, path_at, kind_in_brackets, kind_at, brackets_at, name_at, literal_at, attribute_at, next_attribute_at, attributes_at, field_at, record_at, comma_at, variant_at, next_variant_at, variants_at, enumeration_at, member_at, next_member_at, members_at, union_at, method_at, service_at, quoted_at, rooted_at, namespace_at, declared_at, as_item, statement_at, item_at, declaration_at, schema_at}
use Rattle.planus_syntax.specs.Values.{is_whole, is_whole_item, is_comma_after, AreWhole}
use Rattle.planus_syntax.proofs.Many.{Again, list_again, suits_all, always, all_always}
use Rattle.planus_syntax.proofs.Loops.{dotted_looped, docs_looped, attributes_looped, fields_looped, variants_looped, members_looped, methods_looped, declarations_looped}
use Rattle.std.proofs.lemmas.Bool.{eq-eqb}

abbrev any : List Piece → Bool
any ps = true

abbrev pub ends_value : List Piece → Bool
ends_value ps = not (begins_mark 46 ps || (begins_mark 58 ps || begins_mark 61 ps))

neither : (a b c : Bool) → not (a || (b || c)) ≡ true → (a ≡ false) × (b ≡ false) × (c ≡ false)
neither true b c h = absurd cc
neither false true c h = absurd cc
neither false false true h = absurd cc
neither false false false h = (refl, refl, refl)

ended : (ps : List Piece) → ends_value ps ≡ true → (begins_mark 46 ps ≡ false) × (begins_mark 58 ps ≡ false) × (begins_mark 61 ps ≡ false)
ended ps h = neither (begins_mark 46 ps) (begins_mark 58 ps) (begins_mark 61 ps) h

step : {A B : Type 0} (r : Result A Fault) (x : A) (f : A → Result B Fault) → r ≡ Ok x → (r >>= f) ≡ f x
step r x f e = ap (λ s. s >>= f) e

dotted_again : Again (begins_mark 46) dotted_at dotted_before any always
unfolding dotted_at
dotted_again = record { again = λ a rest w s. refl; begins = λ a rest. (refl, refl) }

docs_are_again : Again begins_doc doc_at doc_before any always
docs_are_again = record { again = λ a rest w s. refl; begins = λ a rest. (refl, refl) }

docs_again : (docs : List (List ℕ)) (rest : List Piece) → begins_doc rest ≡ false → docs_at (docs_before docs rest) ≡ Ok (docs, rest)
docs_again docs rest h = list_again begins_doc doc_at doc_before any always docs_looped docs_are_again docs rest (all_always docs) h refl

docs_closing : (docs : List (List ℕ)) (rest : List Piece) → begins_closing (docs_before docs rest) ≡ begins_closing rest
docs_closing [] rest = refl
docs_closing (d ∷ docs) rest = docs_closing docs rest

docs_inside : (docs : List (List ℕ)) (w : List ℕ) (rest : List Piece) → inside (docs_before docs (word w ∷ rest)) ≡ true
docs_inside [] w rest = refl
docs_inside (d ∷ docs) w rest = ap not (docs_closing docs (word w ∷ rest))

closing_outside : (docs : List (List ℕ)) (rest : List Piece) → inside (closing_before docs rest) ≡ false
closing_outside [] rest = refl
closing_outside (d ∷ docs) rest = ap not (docs_closing docs (mark 125 ∷ rest))

closing_again : (docs : List (List ℕ)) (rest : List Piece) → closing_at (closing_before docs rest) ≡ Ok (docs, rest)
unfolding closing_at
closing_again docs rest = step (docs_at (docs_before docs (mark 125 ∷ rest))) (docs, mark 125 ∷ rest) _ (docs_again docs (mark 125 ∷ rest) refl)

closing_mark : (m : ℕ) (docs : List (List ℕ)) (rest : List Piece) → (125 == m) ≡ false → begins_mark m (closing_before docs rest) ≡ false
closing_mark m [] rest h = h
closing_mark m (d ∷ docs) rest h = refl

path_again : (p : PathV) (rest : List Piece) → begins_mark 46 rest ≡ false → path_at (path_before p rest) ≡ Ok (p, rest)
unfolding path_at
path_again p rest h = step (list_at (begins_mark 46) dotted_at (each_before dotted_before p.more rest)) (p.more, rest) _ (list_again (begins_mark 46) dotted_at dotted_before any always dotted_looped dotted_again p.more rest (all_always p.more) h refl)

brackets_again : (rest : List Piece) → brackets_at (mark 91 ∷ mark 93 ∷ rest) ≡ Ok (nothing, rest)
unfolding brackets_at
brackets_again rest = refl

name_again : (p : PathV) (rest : List Piece) → begins_mark 46 rest ≡ false → name_at (path_before p rest) ≡ Ok (named p, rest)
unfolding name_at
name_again p rest h = step (path_at (path_before p rest)) (p, rest) _ (path_again p rest h)

literal_again : (l : LiteralV) (rest : List Piece) → begins_mark 46 rest ≡ false → literal_at (literal_before l rest) ≡ Ok (l, rest)
literal_again (numeral w) rest h = refl
literal_again (named p) rest h = name_again p rest h
literal_again (quote w) rest h = refl
literal_again nothing rest h = brackets_again rest

number_again : (w : List ℕ) (rest : List Piece) → begins_mark 46 rest ≡ false → number_at (number_before w rest) ≡ Ok (w, rest)
number_again w rest h = refl

optional_again : {A : Type 0} (m : ℕ) (item : List Piece → Reads A) (before : Before A) → ((a : A) (rest : List Piece) → begins_mark 46 rest ≡ false → item (before a rest) ≡ Ok (a, rest))
    → (x : Option A) (rest : List Piece) → begins_mark 46 rest ≡ false → begins_mark m rest ≡ false → optional_at m item (after_before m before x rest) ≡ Ok (x, rest)
unfolding optional_at
optional_again m item before again None rest h k = rw k refl
optional_again m item before again (Some x) rest h k = rw (eq-eqb m m refl) (step (item (before x rest)) (x, rest) _ (again x rest h))

label_is : (q : Bool) (w : List ℕ) (rest : List Piece) → label_at (label_piece q w ∷ rest) ≡ Ok (record { quoted = q; name = w }, rest)
label_is true w rest = refl
label_is false w rest = refl

label_again : (l : LabelV) (rest : List Piece) → label_at (label_before l rest) ≡ Ok (l, rest)
label_again l rest = label_is l.quoted l.name rest

attribute_again : (a : AttributeV) (rest : List Piece) → ends_value rest ≡ true → attribute_at (attribute_before a rest) ≡ Ok (a, rest)
unfolding attribute_at
attribute_again a rest h =
    let n = ended rest h in
    let v = after_before 58 literal_before a.value rest in
    step (label_at (label_before a.label v)) (a.label, v) _ (label_again a.label v)
    ∙ step (optional_at 58 literal_at v) (a.value, rest) _ (optional_again 58 literal_at literal_before literal_again a.value rest n.0 n.1)

attributes_are_again : Again (begins_mark 44) next_attribute_at (next_before attribute_before) ends_value always
unfolding next_attribute_at
attributes_are_again = record { again = λ a rest w s. attribute_again a rest s; begins = λ a rest. (refl, refl) }

attributes_again : (xs : List AttributeV) (rest : List Piece) → begins_mark 40 rest ≡ false → attributes_at (attributes_before xs rest) ≡ Ok (xs, rest)
unfolding attributes_at
attributes_again [] rest h = rw h refl
attributes_again (a ∷ more) rest h =
    let tail = each_before (next_before attribute_before) more (mark 41 ∷ rest) in
    let suits = suits_all (begins_mark 44) next_attribute_at (next_before attribute_before) ends_value always attributes_are_again more (mark 41 ∷ rest) refl in
    step (attribute_at (attribute_before a tail)) (a, tail) _ (attribute_again a tail suits)
    ∙ ap (λ r. with_items (a ∷ []) r >>= λ all. mark_at 41 all.1 >>= λ end. Ok (all.0, end))
    (list_again (begins_mark 44) next_attribute_at (next_before attribute_before) ends_value always attributes_looped attributes_are_again more (mark 41 ∷ rest) (all_always more) refl refl)

attributes_front : (n : ℕ) (xs : List AttributeV) (rest : List Piece) → (40 == n) ≡ false → begins_mark n rest ≡ false → begins_mark n (attributes_before xs rest) ≡ false
attributes_front n [] rest h k = k
attributes_front n (a ∷ more) rest h k = h

after_front : {A : Type 0} (m n : ℕ) (f : Before A) (x : Option A) (rest : List Piece) → (m == n) ≡ false → begins_mark n rest ≡ false → begins_mark n (after_before m f x rest) ≡ false
after_front m n f None rest h k = k
after_front m n f (Some x) rest h k = h

bracketed_again : (p : PathV) (count : Option (List ℕ)) (rest : List Piece)
    → kind_at (mark 91 ∷ path_before p (after_before 58 number_before count (mark 93 ∷ rest))) ≡ Ok (kind_in_brackets p count, rest)
unfolding kind_at
bracketed_again p count rest =
    let end = mark 93 ∷ rest in
    let tokens = after_before 58 number_before count end in
    step (path_at (path_before p tokens)) (p, tokens) _ (path_again p tokens (after_front 58 46 number_before count end refl refl))
    ∙ step (optional_at 58 number_at tokens) (count, end) _ (optional_again 58 number_at number_before number_again count end refl refl)

kind_again : (k : KindV) (rest : List Piece) → begins_mark 46 rest ≡ false → kind_at (kind_before k rest) ≡ Ok (k, rest)
unfolding kind_at
kind_again (single p) rest h = step (path_at (path_before p rest)) (p, rest) _ (path_again p rest h)
kind_again (vector p) rest h = bracketed_again p None rest
kind_again (array p w) rest h = bracketed_again p (Some w) rest

field_again : (f : FieldV) (rest : List Piece) → field_at (field_before f rest) ≡ Ok (f, rest)
unfolding field_at
field_again f rest =
    let a = attributes_before f.attributes (mark 59 ∷ rest) in
    let d = after_before 61 literal_before f.default a in
    let k = mark 58 ∷ kind_before f.kind d in
    step (docs_at (docs_before f.docs (word f.name ∷ k))) (f.docs, word f.name ∷ k) _ (docs_again f.docs (word f.name ∷ k) refl)
    ∙ step (kind_at (kind_before f.kind d)) (f.kind, d) _ (kind_again f.kind d (after_front 61 46 literal_before f.default a refl (attributes_front 46 f.attributes (mark 59 ∷ rest) refl refl)))
    ∙ step (optional_at 61 literal_at d) (f.default, a) _ (optional_again 61 literal_at literal_before literal_again f.default a (attributes_front 46 f.attributes (mark 59 ∷ rest) refl refl) (attributes_front 61 f.attributes (mark 59 ∷ rest) refl refl))
    ∙ step (attributes_at a) (f.attributes, mark 59 ∷ rest) _ (attributes_again f.attributes (mark 59 ∷ rest) refl)

fields_are_again : Again inside field_at field_before any always
fields_are_again = record {
  again = λ f rest w s. field_again f rest;
  begins = λ f rest. (docs_inside f.docs f.name (mark 58 ∷ kind_before f.kind (after_before 61 literal_before f.default (attributes_before f.attributes (mark 59 ∷ rest)))), refl);
}

record_again : (r : RecordV) (rest : List Piece) → record_at (record_before r rest) ≡ Ok (r, rest)
unfolding record_at
record_again r rest =
    let e = closing_before r.trailing rest in
    let b = mark 123 ∷ each_before field_before r.fields e in
    step (attributes_at (attributes_before r.attributes b)) (r.attributes, b) _ (attributes_again r.attributes b refl)
    ∙ step (list_at inside field_at (each_before field_before r.fields e)) (r.fields, e) _ (list_again inside field_at field_before any always fields_looped fields_are_again r.fields e (all_always r.fields) (closing_outside r.trailing rest) refl)
    ∙ step (closing_at e) (r.trailing, rest) _ (closing_again r.trailing rest)

comma_again : (c : Bool) (docs : List (List ℕ)) (rest : List Piece) → comma_at (comma_before c (closing_before docs rest)) ≡ Ok (c, closing_before docs rest)
unfolding comma_at
comma_again true docs rest = refl
comma_again false docs rest = rw (closing_mark 44 docs rest refl) refl

comma_stops : (c : Bool) (docs : List (List ℕ)) (rest : List Piece) → begins_next (comma_before c (closing_before docs rest)) ≡ false
comma_stops true docs rest = ap not (docs_closing docs (mark 125 ∷ rest))
comma_stops false [] rest = refl
comma_stops false (d ∷ docs) rest = refl

comma_ends : (c : Bool) (docs : List (List ℕ)) (rest : List Piece) → ends_value (comma_before c (closing_before docs rest)) ≡ true
comma_ends true docs rest = refl
comma_ends false [] rest = refl
comma_ends false (d ∷ docs) rest = refl

variant_again : (v : VariantV) (rest : List Piece) → ends_value rest ≡ true → variant_at (variant_before v rest) ≡ Ok (v, rest)
unfolding variant_at
variant_again v rest h =
    let n = ended rest h in
    let b = after_before 61 number_before v.value rest in
    step (docs_at (docs_before v.docs (word v.name ∷ b))) (v.docs, word v.name ∷ b) _ (docs_again v.docs (word v.name ∷ b) refl)
    ∙ step (optional_at 61 number_at b) (v.value, rest) _ (optional_again 61 number_at number_before number_again v.value rest n.0 n.2)

member_again : (m : MemberV) (rest : List Piece) → ends_value rest ≡ true → member_at (member_before m rest) ≡ Ok (m, rest)
unfolding member_at
member_again m rest h =
    let n = ended rest h in
    let v = after_before 61 number_before m.value rest in
    let t = after_before 58 path_before m.target v in
    step (docs_at (docs_before m.docs (path_before m.path t))) (m.docs, path_before m.path t) _ (docs_again m.docs (path_before m.path t) refl)
    ∙ step (path_at (path_before m.path t)) (m.path, t) _ (path_again m.path t (after_front 58 46 path_before m.target v refl (after_front 61 46 number_before m.value rest refl n.0)))
    ∙ step (optional_at 58 path_at t) (m.target, v) _ (optional_again 58 path_at path_before path_again m.target v (after_front 61 46 number_before m.value rest refl n.0) (after_front 61 58 number_before m.value rest refl n.1))
    ∙ step (optional_at 61 number_at v) (m.value, rest) _ (optional_again 61 number_at number_before number_again m.value rest n.0 n.2)

variants_are_again : Again begins_next next_variant_at (next_before variant_before) ends_value always
unfolding next_variant_at
variants_are_again = record {
  again = λ v rest w s. variant_again v rest s;
  begins = λ v rest. (ap not (docs_closing v.docs (word v.name ∷ after_before 61 number_before v.value rest)), refl);
}

variants_again : (v : VariantV) (more : List VariantV) (rest : List Piece) → begins_next rest ≡ false → ends_value rest ≡ true → variants_at (list_before variant_before (v ∷ more) rest) ≡ Ok (v ∷ more, rest)
unfolding variants_at
variants_again v more rest h k =
    let tail = each_before (next_before variant_before) more rest in
    let suits = suits_all begins_next next_variant_at (next_before variant_before) ends_value always variants_are_again more rest k in
    step (variant_at (variant_before v tail)) (v, tail) _ (variant_again v tail suits)
    ∙ ap (λ r. with_items (v ∷ []) r) (list_again begins_next next_variant_at (next_before variant_before) ends_value always variants_looped variants_are_again more rest (all_always more) h k)

members_are_again : Again begins_next next_member_at (next_before member_before) ends_value always
unfolding next_member_at
members_are_again = record {
  again = λ v rest w s. member_again v rest s;
  begins = λ v rest. (ap not (docs_closing v.docs (path_before v.path (after_before 58 path_before v.target (after_before 61 number_before v.value rest)))), refl);
}

members_again : (v : MemberV) (more : List MemberV) (rest : List Piece) → begins_next rest ≡ false → ends_value rest ≡ true → members_at (list_before member_before (v ∷ more) rest) ≡ Ok (v ∷ more, rest)
unfolding members_at
members_again v more rest h k =
    let tail = each_before (next_before member_before) more rest in
    let suits = suits_all begins_next next_member_at (next_before member_before) ends_value always members_are_again more rest k in
    step (member_at (member_before v tail)) (v, tail) _ (member_again v tail suits)
    ∙ ap (λ r. with_items (v ∷ []) r) (list_again begins_next next_member_at (next_before member_before) ends_value always members_looped members_are_again more rest (all_always more) h k)

variants_inside : (xs : List VariantV) (c : Bool) (docs : List (List ℕ)) (rest : List Piece) → is_comma_after xs c ≡ true → if_inside variants_at (list_before variant_before xs (comma_before c (closing_before docs rest))) ≡ Ok (xs, comma_before c (closing_before docs rest))
variants_inside [] true docs rest i = absurd cc
variants_inside [] false docs rest i = rw (closing_outside docs rest) refl
variants_inside (v ∷ more) c docs rest i =
    let tail = each_before (next_before variant_before) more (comma_before c (closing_before docs rest)) in
    rw (docs_inside v.docs v.name (after_before 61 number_before v.value tail)) (variants_again v more (comma_before c (closing_before docs rest)) (comma_stops c docs rest) (comma_ends c docs rest))

members_inside : (xs : List MemberV) (c : Bool) (docs : List (List ℕ)) (rest : List Piece) → is_comma_after xs c ≡ true → if_inside members_at (list_before member_before xs (comma_before c (closing_before docs rest))) ≡ Ok (xs, comma_before c (closing_before docs rest))
members_inside [] true docs rest i = absurd cc
members_inside [] false docs rest i = rw (closing_outside docs rest) refl
members_inside (v ∷ more) c docs rest i =
    let tail = each_before (next_before member_before) more (comma_before c (closing_before docs rest)) in
    rw (docs_inside v.docs v.path.first (each_before dotted_before v.path.more (after_before 58 path_before v.target (after_before 61 number_before v.value tail)))) (members_again v more (comma_before c (closing_before docs rest)) (comma_stops c docs rest) (comma_ends c docs rest))

enumeration_again : (e : EnumerationV) (rest : List Piece) → is_comma_after e.variants e.comma ≡ true → enumeration_at (enumeration_before e rest) ≡ Ok (e, rest)
unfolding enumeration_at
enumeration_again e rest i =
    let c = comma_before e.comma (closing_before e.trailing rest) in
    let v = list_before variant_before e.variants c in
    let a = attributes_before e.attributes (mark 123 ∷ v) in
    step (path_at (path_before e.base a)) (e.base, a) _ (path_again e.base a (attributes_front 46 e.attributes (mark 123 ∷ v) refl refl))
    ∙ step (attributes_at a) (e.attributes, mark 123 ∷ v) _ (attributes_again e.attributes (mark 123 ∷ v) refl)
    ∙ step (if_inside variants_at v) (e.variants, c) _ (variants_inside e.variants e.comma e.trailing rest i)
    ∙ step (comma_at c) (e.comma, closing_before e.trailing rest) _ (comma_again e.comma e.trailing rest)
    ∙ step (closing_at (closing_before e.trailing rest)) (e.trailing, rest) _ (closing_again e.trailing rest)

union_again : (u : UnionV) (rest : List Piece) → is_comma_after u.members u.comma ≡ true → union_at (union_before u rest) ≡ Ok (u, rest)
unfolding union_at
union_again u rest i =
    let c = comma_before u.comma (closing_before u.trailing rest) in
    let v = list_before member_before u.members c in
    step (attributes_at (attributes_before u.attributes (mark 123 ∷ v))) (u.attributes, mark 123 ∷ v) _ (attributes_again u.attributes (mark 123 ∷ v) refl)
    ∙ step (if_inside members_at v) (u.members, c) _ (members_inside u.members u.comma u.trailing rest i)
    ∙ step (comma_at c) (u.comma, closing_before u.trailing rest) _ (comma_again u.comma u.trailing rest)
    ∙ step (closing_at (closing_before u.trailing rest)) (u.trailing, rest) _ (closing_again u.trailing rest)

method_again : (m : MethodV) (rest : List Piece) → method_at (method_before m rest) ≡ Ok (m, rest)
unfolding method_at
method_again m rest =
    let a = attributes_before m.attributes (mark 59 ∷ rest) in
    let q = mark 41 ∷ mark 58 ∷ path_before m.response a in
    let k = mark 40 ∷ path_before m.request q in
    step (docs_at (docs_before m.docs (word m.name ∷ k))) (m.docs, word m.name ∷ k) _ (docs_again m.docs (word m.name ∷ k) refl)
    ∙ step (path_at (path_before m.request q)) (m.request, q) _ (path_again m.request q refl)
    ∙ step (path_at (path_before m.response a)) (m.response, a) _ (path_again m.response a (attributes_front 46 m.attributes (mark 59 ∷ rest) refl refl))
    ∙ step (attributes_at a) (m.attributes, mark 59 ∷ rest) _ (attributes_again m.attributes (mark 59 ∷ rest) refl)

methods_are_again : Again inside method_at method_before any always
methods_are_again = record {
  again = λ m rest w s. method_again m rest;
  begins = λ m rest. (docs_inside m.docs m.name (mark 40 ∷ path_before m.request (mark 41 ∷ mark 58 ∷ path_before m.response (attributes_before m.attributes (mark 59 ∷ rest)))), refl);
}

service_again : (s : ServiceV) (rest : List Piece) → service_at (service_before s rest) ≡ Ok (s, rest)
unfolding service_at
service_again s rest =
    let e = closing_before s.trailing rest in
    let b = mark 123 ∷ each_before method_before s.methods e in
    step (attributes_at (attributes_before s.attributes b)) (s.attributes, b) _ (attributes_again s.attributes b refl)
    ∙ step (list_at inside method_at (each_before method_before s.methods e)) (s.methods, e) _ (list_again inside method_at method_before any always methods_looped methods_are_again s.methods e (all_always s.methods) (closing_outside s.trailing rest) refl)
    ∙ step (closing_at e) (s.trailing, rest) _ (closing_again s.trailing rest)

quoted_again : (w : List ℕ) (rest : List Piece) → quoted_at (text w ∷ mark 59 ∷ rest) ≡ Ok (w, rest)
unfolding quoted_at
quoted_again w rest = refl

rooted_again : (p : PathV) (rest : List Piece) → rooted_at (path_before p (mark 59 ∷ rest)) ≡ Ok (p, rest)
unfolding rooted_at
rooted_again p rest = step (path_at (path_before p (mark 59 ∷ rest))) (p, mark 59 ∷ rest) _ (path_again p (mark 59 ∷ rest) refl)

namespace_again : (p : Option PathV) (rest : List Piece) → namespace_at (namespace_before p rest) ≡ Ok (p, rest)
unfolding namespace_at
namespace_again None rest = refl
namespace_again (Some p) rest = step (rooted_at (path_before p (mark 59 ∷ rest))) (p, rest) _ (rooted_again p rest)

declared_again : (l : LabelV) (rest : List Piece) → declared_at (label_before l (mark 59 ∷ rest)) ≡ Ok (l, rest)
unfolding declared_at
declared_again l rest = step (label_at (label_before l (mark 59 ∷ rest))) (l, mark 59 ∷ rest) _ (label_again l (mark 59 ∷ rest))

include_said : (left : ℕ) (w : List ℕ) (rest : List Piece) → statement_at (codes "include") left (quoted_before w rest) ≡ Ok (include w, rest)
unfolding statement_at
include_said left w rest = ap (as_item include) (quoted_again w rest)

include_is : (left : ℕ) (w : List ℕ) (rest : List Piece) → item_at (codes "include") left (quoted_before w rest) ≡ Ok (include w, rest)
unfolding item_at
include_is left w rest = include_said left w rest

namespace_said : (left : ℕ) (p : Option PathV) (rest : List Piece) → statement_at (codes "namespace") left (namespace_before p rest) ≡ Ok (namespace p, rest)
unfolding statement_at
namespace_said left p rest = ap (as_item namespace) (namespace_again p rest)

namespace_is : (left : ℕ) (p : Option PathV) (rest : List Piece) → item_at (codes "namespace") left (namespace_before p rest) ≡ Ok (namespace p, rest)
unfolding item_at
namespace_is left p rest = namespace_said left p rest

attribute_said : (left : ℕ) (l : LabelV) (rest : List Piece) → statement_at (codes "attribute") left (declared_before l rest) ≡ Ok (attribute l, rest)
unfolding statement_at
attribute_said left l rest = ap (as_item attribute) (declared_again l rest)

attribute_is : (left : ℕ) (l : LabelV) (rest : List Piece) → item_at (codes "attribute") left (declared_before l rest) ≡ Ok (attribute l, rest)
unfolding item_at
attribute_is left l rest = attribute_said left l rest

root_said : (left : ℕ) (p : PathV) (rest : List Piece) → statement_at (codes "root_type") left (rooted_before p rest) ≡ Ok (root p, rest)
unfolding statement_at
root_said left p rest = ap (as_item root) (rooted_again p rest)

root_is : (left : ℕ) (p : PathV) (rest : List Piece) → item_at (codes "root_type") left (rooted_before p rest) ≡ Ok (root p, rest)
unfolding item_at
root_is left p rest = root_said left p rest

identifier_said : (left : ℕ) (w : List ℕ) (rest : List Piece) → statement_at (codes "file_identifier") left (quoted_before w rest) ≡ Ok (identifier w, rest)
unfolding statement_at
identifier_said left w rest = ap (as_item identifier) (quoted_again w rest)

identifier_is : (left : ℕ) (w : List ℕ) (rest : List Piece) → item_at (codes "file_identifier") left (quoted_before w rest) ≡ Ok (identifier w, rest)
unfolding item_at
identifier_is left w rest = identifier_said left w rest

extension_said : (left : ℕ) (w : List ℕ) (rest : List Piece) → statement_at (codes "file_extension") left (quoted_before w rest) ≡ Ok (extension w, rest)
unfolding statement_at
extension_said left w rest = ap (as_item extension) (quoted_again w rest)

extension_is : (left : ℕ) (w : List ℕ) (rest : List Piece) → item_at (codes "file_extension") left (quoted_before w rest) ≡ Ok (extension w, rest)
unfolding item_at
extension_is left w rest = extension_said left w rest

native_said : (left : ℕ) (w : List ℕ) (rest : List Piece) → statement_at (codes "native_include") left (quoted_before w rest) ≡ Ok (native_include w, rest)
unfolding statement_at
native_said left w rest = ap (as_item native_include) (quoted_again w rest)

native_is : (left : ℕ) (w : List ℕ) (rest : List Piece) → item_at (codes "native_include") left (quoted_before w rest) ≡ Ok (native_include w, rest)
unfolding item_at
native_is left w rest = native_said left w rest

table_is : (left : ℕ) (v : RecordV) (rest : List Piece) → item_at (codes "table") left (record_before v rest) ≡ Ok (table v, rest)
unfolding item_at
table_is left v rest = ap (as_item table) (record_again v rest)

struct_is : (left : ℕ) (v : RecordV) (rest : List Piece) → item_at (codes "struct") left (record_before v rest) ≡ Ok (struct v, rest)
unfolding item_at
struct_is left v rest = ap (as_item struct) (record_again v rest)

enumeration_is : (left : ℕ) (v : EnumerationV) (rest : List Piece) → is_comma_after v.variants v.comma ≡ true → item_at (codes "enum") left (enumeration_before v rest) ≡ Ok (enumeration v, rest)
unfolding item_at
enumeration_is left v rest i = ap (as_item enumeration) (enumeration_again v rest i)

union_is : (left : ℕ) (v : UnionV) (rest : List Piece) → is_comma_after v.members v.comma ≡ true → item_at (codes "union") left (union_before v rest) ≡ Ok (union v, rest)
unfolding item_at
union_is left v rest i = ap (as_item union) (union_again v rest i)

service_is : (left : ℕ) (v : ServiceV) (rest : List Piece) → item_at (codes "rpc_service") left (service_before v rest) ≡ Ok (service v, rest)
unfolding item_at
service_is left v rest = ap (as_item service) (service_again v rest)

abbrev documented : List (List ℕ) → List Piece → Reads DeclarationV
documented docs ps = word_at ps >>= λ key. item_at key.0 (length ps) key.1 >>= λ item. Ok (record { docs = docs; item = item.0 }, item.1)

items_again : (docs : List (List ℕ)) (i : ItemV) (rest : List Piece) → is_whole_item i ≡ true → documented docs (item_before i rest) ≡ Ok (record { docs = docs; item = i }, rest)
items_again docs (include v) rest w = step (item_at (codes "include") (length (item_before (include v) rest)) (quoted_before v rest)) (include v, rest) _ (include_is (length (item_before (include v) rest)) v rest)
items_again docs (native_include v) rest w = step (item_at (codes "native_include") (length (item_before (native_include v) rest)) (quoted_before v rest)) (native_include v, rest) _ (native_is (length (item_before (native_include v) rest)) v rest)
items_again docs (namespace v) rest w = step (item_at (codes "namespace") (length (item_before (namespace v) rest)) (namespace_before v rest)) (namespace v, rest) _ (namespace_is (length (item_before (namespace v) rest)) v rest)
items_again docs (attribute v) rest w = step (item_at (codes "attribute") (length (item_before (attribute v) rest)) (declared_before v rest)) (attribute v, rest) _ (attribute_is (length (item_before (attribute v) rest)) v rest)
items_again docs (root v) rest w = step (item_at (codes "root_type") (length (item_before (root v) rest)) (rooted_before v rest)) (root v, rest) _ (root_is (length (item_before (root v) rest)) v rest)
items_again docs (identifier v) rest w = step (item_at (codes "file_identifier") (length (item_before (identifier v) rest)) (quoted_before v rest)) (identifier v, rest) _ (identifier_is (length (item_before (identifier v) rest)) v rest)
items_again docs (extension v) rest w = step (item_at (codes "file_extension") (length (item_before (extension v) rest)) (quoted_before v rest)) (extension v, rest) _ (extension_is (length (item_before (extension v) rest)) v rest)
items_again docs (table v) rest w = step (item_at (codes "table") (length (item_before (table v) rest)) (record_before v rest)) (table v, rest) _ (table_is (length (item_before (table v) rest)) v rest)
items_again docs (struct v) rest w = step (item_at (codes "struct") (length (item_before (struct v) rest)) (record_before v rest)) (struct v, rest) _ (struct_is (length (item_before (struct v) rest)) v rest)
items_again docs (enumeration v) rest w = step (item_at (codes "enum") (length (item_before (enumeration v) rest)) (enumeration_before v rest)) (enumeration v, rest) _ (enumeration_is (length (item_before (enumeration v) rest)) v rest w)
items_again docs (union v) rest w = step (item_at (codes "union") (length (item_before (union v) rest)) (union_before v rest)) (union v, rest) _ (union_is (length (item_before (union v) rest)) v rest w)
items_again docs (service v) rest w = step (item_at (codes "rpc_service") (length (item_before (service v) rest)) (service_before v rest)) (service v, rest) _ (service_is (length (item_before (service v) rest)) v rest)

item_begins_doc : (i : ItemV) (rest : List Piece) → begins_doc (item_before i rest) ≡ false
item_begins_doc (include v) rest = refl
item_begins_doc (native_include v) rest = refl
item_begins_doc (namespace v) rest = refl
item_begins_doc (attribute v) rest = refl
item_begins_doc (root v) rest = refl
item_begins_doc (identifier v) rest = refl
item_begins_doc (extension v) rest = refl
item_begins_doc (table v) rest = refl
item_begins_doc (struct v) rest = refl
item_begins_doc (enumeration v) rest = refl
item_begins_doc (union v) rest = refl
item_begins_doc (service v) rest = refl

item_has_more : (i : ItemV) (rest : List Piece) → has_more (item_before i rest) ≡ true
item_has_more (include v) rest = refl
item_has_more (native_include v) rest = refl
item_has_more (namespace v) rest = refl
item_has_more (attribute v) rest = refl
item_has_more (root v) rest = refl
item_has_more (identifier v) rest = refl
item_has_more (extension v) rest = refl
item_has_more (table v) rest = refl
item_has_more (struct v) rest = refl
item_has_more (enumeration v) rest = refl
item_has_more (union v) rest = refl
item_has_more (service v) rest = refl

declaration_again : (d : DeclarationV) (rest : List Piece) → is_whole d ≡ true → declaration_at (declaration_before d rest) ≡ Ok (d, rest)
unfolding declaration_at
declaration_again d rest w =
    let i = item_before d.item rest in
    step (docs_at (docs_before d.docs i)) (d.docs, i) _ (docs_again d.docs i (item_begins_doc d.item rest))
    ∙ items_again d.docs d.item rest w

docs_more : (docs : List (List ℕ)) (rest : List Piece) → has_more (docs_before docs rest) ≡ has_more rest
docs_more [] rest = refl
docs_more (d ∷ docs) rest = docs_more docs rest

declarations_are_again : Again has_more declaration_at declaration_before any is_whole
declarations_are_again = record {
  again = λ d rest w s. declaration_again d rest w;
  begins = λ d rest. (docs_more d.docs (item_before d.item rest) ∙ item_has_more d.item rest, refl);
}

pub schema_again : (s : SchemaV) → AreWhole s.declarations → schema_at (schema_pieces s) ≡ Ok (s, [])
unfolding schema_at
schema_again s w =
    let end = docs_before s.trailing [] in
    step (list_at has_more declaration_at (schema_pieces s)) (s.declarations, end) _
    (list_again has_more declaration_at declaration_before any is_whole declarations_looped declarations_are_again s.declarations end w (docs_more s.trailing []) refl)
    ∙ step (docs_at end) (s.trailing, []) _ (docs_again s.trailing [] refl)
