-- In what is read a last comma is after an item.
use Rattle.std.proofs.Common.{◌≡◌, ℕ, zero, suc, Bool, true, false, List, [], ◌∷◌, length, Ok, refl, sym, subst}
use Rattle.std.specs.Prelude.{codes, not, if◌then◌else◌}
use Rattle.std.proofs.lemmas.Bool.Decides.{nat_tests}
use Rattle.std.proofs.Common.{arith}
use Rattle.std.specs.List.{AllByRecursion}
use Rattle.std.specs.Str.{bytes_eq}
use Rattle.planus_syntax.specs.Tokens.{Piece, word, number, text, doc, mark}
use Rattle.planus_syntax.specs.Values.{Name, EnumerationV, UnionV, ItemV, include, native_include, namespace, attribute, table, struct, enumeration, union, service, root, identifier, extension, DeclarationV, SchemaV, is_comma_after, is_whole_item, is_whole, AreWhole}
use Rattle.planus_syntax.specs.Reading.{closing_at, Reads, ◌>>=◌, many, list_at, with_items, has_more, inside, if_inside, begins_next, docs_at, word_at, mark_at, path_at, attributes_at, comma_at, variant_at, next_variant_at, member_at, next_member_at, variants_at, members_at, enumeration_at, union_at, record_at, service_at, quoted_at, rooted_at, namespace_at, declared_at, as_item, statement_at, item_at, declaration_at, schema_at}
use Rattle.planus_syntax.proofs.Many.{bind_ok, ok_is, joined}
use Rattle.planus_syntax.proofs.Loops.{chosen}

abbrev pub Makes : {A : Type 0} → (List Piece → Reads A) → (A → Bool) → Type 0
Makes {A} item p = (ps : List Piece) (x : A × List Piece) → item ps ≡ Ok x → p x.0 ≡ true

Each : {A : Type 0} → (A → Bool) → List A → Type 0
Each p xs = AllByRecursion (λ x. p x ≡ true) xs

many_step : {A : Type 0} (goes : List Piece → Bool) (item : List Piece → Reads A) (p : A → Bool) → Makes item p → (n : ℕ)
    → ((ps : List Piece) (y : List A × List Piece) → many goes item n ps ≡ Ok y → Each p y.0)
    → (ps : List Piece) (x : List A × List Piece) (b : Bool) → joined b (item ps) (many goes item n) ps ≡ Ok x → Each p x.0
unfolding Each
many_step goes item p makes n again ps x true e =
    let a = bind_ok (item ps) (λ y. many goes item n y.1 >>= λ ys. Ok (y.0 ∷ ys.0, ys.1)) x e in
    let c = bind_ok (many goes item n a.0.1) (λ ys. Ok (a.0.0 ∷ ys.0, ys.1)) x a.2 in
    subst (λ y. Each p y.0) (ok_is (a.0.0 ∷ c.0.0, c.0.1) x c.2) (makes ps a.0 a.1, again a.0.1 c.0 c.1)
many_step goes item p makes n again ps x false e = subst (λ y. Each p y.0) (ok_is ([], ps) x e) tt

many_each : {A : Type 0} (goes : List Piece → Bool) (item : List Piece → Reads A) (p : A → Bool) → Makes item p → (n : ℕ) (ps : List Piece) (x : List A × List Piece) → many goes item n ps ≡ Ok x → Each p x.0
unfolding Each
many_each goes item p makes zero ps x e = subst (λ y. Each p y.0) (ok_is ([], ps) x e) tt
many_each goes item p makes (suc n) ps x e = many_step goes item p makes n (λ after y. many_each goes item p makes n after y) ps x (goes ps) e

list_each : {A : Type 0} (goes : List Piece → Bool) (item : List Piece → Reads A) (p : A → Bool) → Makes item p → (ps : List Piece) (x : List A × List Piece) → list_at goes item ps ≡ Ok x → AllByRecursion (λ y. p y ≡ true) x.0
unfolding list_at Each
list_each goes item p makes ps x e = many_each goes item p makes _ ps x e

some_read : {A : Type 0} (first : A) (r : Reads (List A)) (c : Bool) (x : List A × List Piece) → with_items (first ∷ []) r ≡ Ok x → is_comma_after x.0 c ≡ true
some_read first r c x e =
    let y = bind_ok r (λ y. Ok (first ∷ y.0, y.1)) x e in
    subst (λ z. is_comma_after z.0 c ≡ true) (ok_is (first ∷ y.0.0, y.0.1) x y.2) refl

first_read : {A : Type 0} (r : Reads A) (more : List Piece → Reads (List A)) (c : Bool) (x : List A × List Piece) → (r >>= λ y. with_items (y.0 ∷ []) (more y.1)) ≡ Ok x → is_comma_after x.0 c ≡ true
first_read r more c x e =
    let y = bind_ok r (λ y. with_items (y.0 ∷ []) (more y.1)) x e in
    some_read y.0.0 (more y.0.1) c x y.2

no_comma : (ps : List Piece) (y : Bool × List Piece) → inside ps ≡ false → comma_at ps ≡ Ok y → not y.0 ≡ true
unfolding comma_at
no_comma [] y h e = subst (λ z. not z.0 ≡ true) (ok_is (false, []) y e) refl
no_comma (word w ∷ ps) y h e = absurd cc
no_comma (number w ∷ ps) y h e = absurd cc
no_comma (text w ∷ ps) y h e = absurd cc
no_comma (doc w ∷ ps) y h e = subst (λ z. not z.0 ≡ true) (ok_is (false, doc w ∷ ps) y e) refl
no_comma (mark b ∷ ps) y h e = grind (arith, nat_tests)

Rest : {A : Type 0} → (List Piece → Reads (List A)) → Type 0
Rest {A} read = (ps : List Piece) (c : Bool) (x : List A × List Piece) → read ps ≡ Ok x → is_comma_after x.0 c ≡ true

inside_whole : {A : Type 0} (read : List Piece → Reads (List A)) → Rest read → (ps : List Piece) (x : List A × List Piece) (y : Bool × List Piece) → if_inside read ps ≡ Ok x → comma_at x.1 ≡ Ok y → is_comma_after x.0 y.0 ≡ true
unfolding Rest
inside_whole {A} read some ps x y e f = by_inside (inside ps) refl e
  where
    by_inside : (b : Bool) → inside ps ≡ b → (if b then read ps else Ok ([], ps)) ≡ Ok x → is_comma_after x.0 y.0 ≡ true
    by_inside true h e = some ps y.0 x e
    by_inside false h e =
        let is = ok_is ([], ps) x e in
        subst (λ (z : List A × List Piece). is_comma_after z.0 y.0 ≡ true) is (no_comma ps y h (subst (λ (z : List A × List Piece). comma_at z.1 ≡ Ok y) (sym is) f))

variants_some : Rest variants_at
unfolding variants_at Rest
variants_some ps c x e = first_read (variant_at ps) (list_at begins_next next_variant_at) c x e

members_some : Rest members_at
unfolding members_at Rest
members_some ps c x e = first_read (member_at ps) (list_at begins_next next_member_at) c x e

enumeration_whole : Makes enumeration_at (λ e. is_comma_after e.variants e.comma)
unfolding enumeration_at
enumeration_whole ps x e =
    let y0 = bind_ok (word_at ps) _ x e in
    let y1 = bind_ok (mark_at 58 y0.0.1) _ x y0.2 in
    let y2 = bind_ok (path_at y1.0) _ x y1.2 in
    let y3 = bind_ok (attributes_at y2.0.1) _ x y2.2 in
    let y4 = bind_ok (mark_at 123 y3.0.1) _ x y3.2 in
    let y5 = bind_ok (if_inside variants_at y4.0) _ x y4.2 in
    let y6 = bind_ok (comma_at y5.0.1) _ x y5.2 in
    let y7 = bind_ok (closing_at y6.0.1) _ x y6.2 in
    subst (λ (y : EnumerationV × List Piece). is_comma_after y.0.variants y.0.comma ≡ true) (ok_is _ x y7.2) (inside_whole variants_at variants_some y4.0 y5.0 y6.0 y5.1 y6.1)

union_whole : Makes union_at (λ u. is_comma_after u.members u.comma)
unfolding union_at
union_whole ps x e =
    let y0 = bind_ok (word_at ps) _ x e in
    let y1 = bind_ok (attributes_at y0.0.1) _ x y0.2 in
    let y2 = bind_ok (mark_at 123 y1.0.1) _ x y1.2 in
    let y3 = bind_ok (if_inside members_at y2.0) _ x y2.2 in
    let y4 = bind_ok (comma_at y3.0.1) _ x y3.2 in
    let y5 = bind_ok (closing_at y4.0.1) _ x y4.2 in
    subst (λ (y : UnionV × List Piece). is_comma_after y.0.members y.0.comma ≡ true) (ok_is _ x y5.2) (inside_whole members_at members_some y2.0 y3.0 y4.0 y3.1 y4.1)

made : {A : Type 0} (make : A → ItemV) (read : List Piece → Reads A) (p : A → Bool) (ps : List Piece) (x : ItemV × List Piece) → Makes read p
    → ((a : A) → p a ≡ true → is_whole_item (make a) ≡ true) → as_item make (read ps) ≡ Ok x → is_whole_item x.0 ≡ true
made make read p ps x makes is e =
    let y = bind_ok (read ps) _ x e in
    subst (λ (z : ItemV × List Piece). is_whole_item z.0 ≡ true) (ok_is _ x y.2) (is y.0.0 (makes ps y.0 y.1))

any_made : {A : Type 0} (make : A → ItemV) (read : List Piece → Reads A) (ps : List Piece) (x : ItemV × List Piece)
    → ((a : A) → is_whole_item (make a) ≡ true) → as_item make (read ps) ≡ Ok x → is_whole_item x.0 ≡ true
any_made make read ps x is e = made make read (λ a. true) ps x (λ qs y h. refl) (λ a h. is a) e

statement_whole : (key : Name) (left : ℕ) (ps : List Piece) (x : ItemV × List Piece) → statement_at key left ps ≡ Ok x → is_whole_item x.0 ≡ true
unfolding statement_at
statement_whole key left ps x e0 =
    chosen (bytes_eq key (codes "include")) _ _ _ x e0 (λ _. any_made include quoted_at ps x (λ a. refl)) (λ e1.
    chosen (bytes_eq key (codes "namespace")) _ _ _ x e1 (λ _. any_made namespace namespace_at ps x (λ a. refl)) (λ e2.
    chosen (bytes_eq key (codes "attribute")) _ _ _ x e2 (λ _. any_made attribute declared_at ps x (λ a. refl)) (λ e3.
    chosen (bytes_eq key (codes "root_type")) _ _ _ x e3 (λ _. any_made root rooted_at ps x (λ a. refl)) (λ e4.
    chosen (bytes_eq key (codes "file_identifier")) _ _ _ x e4 (λ _. any_made identifier quoted_at ps x (λ a. refl)) (λ e5.
    chosen (bytes_eq key (codes "file_extension")) _ _ _ x e5 (λ _. any_made extension quoted_at ps x (λ a. refl)) (λ e6.
    chosen (bytes_eq key (codes "native_include")) _ _ _ x e6 (λ _. any_made native_include quoted_at ps x (λ a. refl)) (λ e7.
    absurd cc)))))))

item_whole : (key : Name) (left : ℕ) (ps : List Piece) (x : ItemV × List Piece) → item_at key left ps ≡ Ok x → is_whole_item x.0 ≡ true
unfolding item_at
item_whole key left ps x e0 =
    chosen (bytes_eq key (codes "table")) _ _ _ x e0 (λ _. any_made table record_at ps x (λ a. refl)) (λ e1.
    chosen (bytes_eq key (codes "struct")) _ _ _ x e1 (λ _. any_made struct record_at ps x (λ a. refl)) (λ e2.
    chosen (bytes_eq key (codes "enum")) _ _ _ x e2 (λ _. made enumeration enumeration_at (λ e. is_comma_after e.variants e.comma) ps x enumeration_whole (λ a h. h)) (λ e3.
    chosen (bytes_eq key (codes "union")) _ _ _ x e3 (λ _. made union union_at (λ u. is_comma_after u.members u.comma) ps x union_whole (λ a h. h)) (λ e4.
    chosen (bytes_eq key (codes "rpc_service")) _ _ _ x e4 (λ _. any_made service service_at ps x (λ a. refl)) (λ e5.
    statement_whole key left ps x e5)))))

declaration_whole : Makes declaration_at is_whole
unfolding declaration_at
declaration_whole ps x e =
    let y0 = bind_ok (docs_at ps) _ x e in
    let y1 = bind_ok (word_at y0.0.1) _ x y0.2 in
    let y2 = bind_ok (item_at y1.0.0 (length y0.0.1) y1.0.1) _ x y1.2 in
    subst (λ (y : DeclarationV × List Piece). is_whole y.0 ≡ true) (ok_is _ x y2.2) (item_whole y1.0.0 (length y0.0.1) y1.0.1 y2.0 y2.1)

pub schema_whole : (ps : List Piece) (s : SchemaV) (rest : List Piece) → schema_at ps ≡ Ok (s, rest) → AreWhole s.declarations
unfolding schema_at
schema_whole ps s rest e =
    let y0 = bind_ok (list_at has_more declaration_at ps) _ (s, rest) e in
    let y1 = bind_ok (docs_at y0.0.1) _ (s, rest) y0.2 in
    subst (λ (y : SchemaV × List Piece). AreWhole y.0.declarations) (ok_is _ (s, rest) y1.2) (list_each has_more declaration_at is_whole declaration_whole ps y0.0 y0.1)
