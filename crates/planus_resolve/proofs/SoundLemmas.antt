-- The meaning of files is a sound schema.
use Rattle.std.proofs.Common.{◌≡◌, ℕ, zero, suc, ◌+◌, ◌<◌, Bool, true, false, cond, List, [], ◌∷◌, ◌++◌, length, map, refl, sym, ap, subst, ◌∙◌, append_assoc, length-append}
use Rattle.std.specs.Prelude.{Option, Some, None, slice_get, codes, nat_le}
use Rattle.std.proofs.lemmas.Bool.{and_parts, leb-true}
use Rattle.std.specs.Option.{option_map}
use Rattle.std.specs.List.{AllByRecursion}
use Rattle.std.specs.Str.{bytes_eq}
use Rattle.std.proofs.lemmas.Option.{slice_get_within}
use Rattle.planus_syntax.specs.Values.{Name, PathV, KindV, single, vector, array, ItemV, include, native_include, namespace, attribute, table, struct, enumeration, union, service, root, identifier, extension, AttributeV, FieldV, MemberV, DeclarationV}
use Rattle.planus_schema.specs.declared.scalar.Scalar.{Scalar}
use Rattle.planus_schema.specs.declared.schema.Base.{Base}
use Rattle.planus_schema.specs.declared.schema.Base.TheVariants as base
use Rattle.planus_schema.specs.declared.schema.Body.{Body}
use Rattle.planus_schema.specs.declared.schema.Body.TheVariants as body
use Rattle.planus_schema.specs.declared.schema.FieldType.{FieldType}
use Rattle.planus_schema.specs.declared.schema.StructField.{StructField}
use Rattle.planus_schema.specs.declared.schema.TableField.{TableField}
use Rattle.planus_schema.specs.declared.schema.UnionMember.{UnionMember}
use Rattle.planus_schema.specs.declared.measure.Measure.{Measure}
use Rattle.planus_schema.specs.Numbers.{scalar_named, integer_said}
use Rattle.planus_resolve.specs.Names.{HeadV, SpaceV, base_of_item, base_of_head, base_found, plain_of, plain_base, base_or, base_named, base_as, space_at, begun_after, begun_in, type_named, table_in, found, words_of, words_in, space_after, setting, heads_of}
use Rattle.planus_resolve.specs.Defaults.{value_of}
use Rattle.planus_resolve.proofs.DefaultLemmas.{default_lawful}
use Rattle.planus_schema.specs.Distinct.{AreDistinct, Each2}
use Rattle.planus_schema.specs.Layouts.{measure_of_body, measure_in, body_in}
use Rattle.planus_resolve.specs.Structs.{SaysStructField, natural_of, is_count, count_in, count_said}
use Rattle.planus_resolve.specs.Unions.{SaysMember, target_of, wanted_of, expected_as}
use Rattle.planus_resolve.specs.Fitting.{fits, is_member}
use Rattle.planus_resolve.specs.Names.{UsedAs}
use Rattle.planus_resolve.specs.Names.{as_type, as_record, as_root}
use Rattle.planus_resolve.specs.Tables.{SaysField, NestedIs, table_found, nested_name}
use Rattle.planus_resolve.specs.Schemas.{SaysBody, SayBodies, IsHeadOf, StatementsV, no_statements, after, after_file, after_files, said_of, Means}
use Rattle.planus_schema.specs.declared.schema.Declared.{Declared}
use Rattle.planus_schema.specs.declared.schema.Schema.{Schema}
use Rattle.planus_resolve.specs.Sound.{IsTableAt, Refers, RefersMember, IsNested, RefersField, IsBelow, IsCount, RefersBefore, RefersBody, AreSound, IsSound}

pub base_of_body : Option Body → ℕ → Option Base
base_of_body None i = None
base_of_body (Some (body.Table t)) i = Some (base.Table i)
base_of_body (Some (body.Struct s)) i = Some (base.Struct i)
base_of_body (Some (body.Enum e)) i = Some (base.Enum i)
base_of_body (Some (body.Union u)) i = Some (base.Union i)

same_kind : (hs : List HeadV) (space : SpaceV) (before : List Body) (item : ItemV) (b : Body) (i : ℕ) → SaysBody hs space before item b → base_of_item item i ≡ base_of_body (Some b) i
unfolding base_of_body
same_kind hs space before (include w) b i h = absurd h
same_kind hs space before (native_include w) b i h = absurd h
same_kind hs space before (namespace p) b i h = absurd h
same_kind hs space before (attribute l) b i h = absurd h
same_kind hs space before (table r) (body.Table t) i h = refl
same_kind hs space before (table r) (body.Struct t) i h = absurd h
same_kind hs space before (table r) (body.Enum t) i h = absurd h
same_kind hs space before (table r) (body.Union t) i h = absurd h
same_kind hs space before (struct r) (body.Table t) i h = absurd h
same_kind hs space before (struct r) (body.Struct t) i h = refl
same_kind hs space before (struct r) (body.Enum t) i h = absurd h
same_kind hs space before (struct r) (body.Union t) i h = absurd h
same_kind hs space before (enumeration r) (body.Table t) i h = absurd h
same_kind hs space before (enumeration r) (body.Struct t) i h = absurd h
same_kind hs space before (enumeration r) (body.Enum t) i h = refl
same_kind hs space before (enumeration r) (body.Union t) i h = absurd h
same_kind hs space before (union r) (body.Table t) i h = absurd h
same_kind hs space before (union r) (body.Struct t) i h = absurd h
same_kind hs space before (union r) (body.Enum t) i h = absurd h
same_kind hs space before (union r) (body.Union t) i h = refl
same_kind hs space before (service s) b i h = absurd h
same_kind hs space before (root p) b i h = absurd h
same_kind hs space before (identifier w) b i h = absurd h
same_kind hs space before (extension w) b i h = absurd h

pub record Matches (hs : List HeadV) (bs : List Body) : Type 0 where
  pub each : (i j : ℕ) → base_of_head (option_map (λ (h : HeadV). h.declaration.item) (slice_get hs i)) j ≡ base_of_body (slice_get bs i) j

matching : (hs : List HeadV) (before : List Body) (some : List HeadV) (bs : List Body) → SayBodies hs before some bs → (i j : ℕ) → base_of_head (option_map (λ (h : HeadV). h.declaration.item) (slice_get some i)) j ≡ base_of_body (slice_get bs i) j
unfolding base_of_body
matching hs before [] [] x i j = refl
matching hs before [] (b ∷ bs) x i j = absurd x
matching hs before (h ∷ some) [] x i j = absurd x
matching hs before (h ∷ some) (b ∷ bs) x zero j = same_kind hs (space_at h.space (length before + 1)) before h.declaration.item b j x.1
matching hs before (h ∷ some) (b ∷ bs) x (suc i) j = matching hs (before ++ b ∷ []) some bs x.2 i j

some_is : {A : Type 0} (x y : A) → (let o : Option A = Some x in o) ≡ Some y → x ≡ y
some_is x y e = cc

refers_body : (bs : List Body) (i : ℕ) (b : Base) (o : Option Body) → o ≡ slice_get bs i → base_of_body o i ≡ Some b → Refers bs b
unfolding base_of_body
refers_body bs i b None s e = absurd cc
refers_body bs i b (Some (body.Table t)) s e = subst (Refers bs) (some_is _ _ e) (t, sym s)
refers_body bs i b (Some (body.Struct t)) s e = subst (Refers bs) (some_is _ _ e) (t, sym s)
refers_body bs i b (Some (body.Enum t)) s e = subst (Refers bs) (some_is _ _ e) (t, sym s)
refers_body bs i b (Some (body.Union t)) s e = subst (Refers bs) (some_is _ _ e) (t, sym s)

refers_found : (hs : List HeadV) (bs : List Body) (b : Base) (o : Option ℕ) → Matches hs bs → base_found hs o ≡ Some b → Refers bs b
refers_found hs bs b None m e = absurd cc
refers_found hs bs b (Some i) m e = refers_body bs i b (slice_get bs i) refl (sym (m.each i i) ∙ e)

refers_scalar : (bs : List Body) (b : Base) (o : Option Scalar) → option_map base.Scalar o ≡ Some b → Refers bs b
refers_scalar bs b None e = absurd cc
refers_scalar bs b (Some s) e = subst (Refers bs) (some_is (base.Scalar s) b e) tt

refers_word : (bs : List Body) (b : Base) (o : Option Scalar) (q : Bool) → cond q (Some base.Text) (option_map base.Scalar o) ≡ Some b → Refers bs b
refers_word bs b o true e = subst (Refers bs) (some_is base.Text b e) tt
refers_word bs b o false e = refers_scalar bs b o e

refers_plain : (bs : List Body) (b : Base) (ws : List Name) (w : Name) → plain_of ws w ≡ Some b → Refers bs b
refers_plain bs b [] w e = refers_word bs b (scalar_named w) (bytes_eq w (codes "string")) e
refers_plain bs b (n ∷ ns) w e = absurd cc

refers_or : (bs : List Body) (b : Base) (o p : Option Base) → (o ≡ Some b → Refers bs b) → (p ≡ Some b → Refers bs b) → base_or o p ≡ Some b → Refers bs b
refers_or bs b None p f g e = g e
refers_or bs b (Some c) p f g e = f e

pub refers_named : (hs : List HeadV) (bs : List Body) (w : UsedAs) (space : SpaceV) (p : PathV) (b : Base) → Matches hs bs → base_as hs w space p ≡ Some b → Refers bs b
refers_named hs bs w space p b m e =
    refers_or bs b (plain_base p) (base_found hs (found hs w space (words_of p))) (refers_plain bs b p.more p.first) (refers_found hs bs b (found hs w space (words_of p)) m) e

typed : (v : Bool) (o : Option Base) (t : FieldType) → option_map (λ b. let r : FieldType = record { vector = v; base = b } in r) o ≡ Some t → o ≡ Some t.base
typed v None t e = absurd cc
typed v (Some b) t e = ap (λ (x : FieldType). Some x.base) (some_is _ t e)

refers_type : (hs : List HeadV) (bs : List Body) (space : SpaceV) (k : KindV) (t : FieldType) → Matches hs bs → type_named hs space k ≡ Some t → Refers bs t.base
refers_type hs bs space (single p) t m e = refers_named hs bs as_type space p t.base m (typed false (base_named hs space p) t e)
refers_type hs bs space (vector p) t m e = refers_named hs bs as_type space p t.base m (typed true (base_named hs space p) t e)
refers_type hs bs space (array p w) t m e = refers_named hs bs as_type space p t.base m (typed false (base_named hs space p) t e)

refers_table : (hs : List HeadV) (bs : List Body) (space : SpaceV) (i : ℕ) (o : Option Name) → Matches hs bs → table_found hs space o ≡ Some (base.Table i) → IsTableAt bs i
refers_table hs bs space i None m e = absurd cc
refers_table hs bs space i (Some w) m e = refers_found hs bs (base.Table i) (found hs as_record space (w ∷ [])) m e

refers_nested : (hs : List HeadV) (bs : List Body) (space : SpaceV) (a : Option AttributeV) (o : Option ℕ) → Matches hs bs → NestedIs hs space a o → IsNested bs o
refers_nested hs bs space None o m e = subst (IsNested bs) (sym e) tt
refers_nested hs bs space (Some a) None m e = absurd e
refers_nested hs bs space (Some a) (Some i) m e = refers_table hs bs space i (nested_name a.value) m e

refers_fields : (hs : List HeadV) (bs : List Body) (space : SpaceV) (ids : Bool) (ds : List FieldV) (fs : List TableField) → Matches hs bs → Each2 (SaysField hs space ids) ds fs → AllByRecursion (RefersField bs) fs
refers_fields hs bs space ids [] [] m x = tt
refers_fields hs bs space ids [] (f ∷ fs) m x = absurd x
refers_fields hs bs space ids (d ∷ ds) [] m x = absurd x
refers_fields hs bs space ids (d ∷ ds) (f ∷ fs) m x =
    (record { kind = refers_type hs bs space d.kind f.kind m x.0.kind; nested = refers_nested hs bs space (setting (codes "nested_flatbuffer") d.attributes) f.nested m x.0.nested; default = default_lawful hs d.default f.kind (option_map value_of f.default) x.0.default }, refers_fields hs bs space ids ds fs m x.1)

fits_member : (w : UsedAs) (b : Base) → fits (expected_as w) b ≡ true → is_member b ≡ true
fits_member as_type b e = e
fits_member as_record (base.Scalar s) e = e
fits_member as_record base.Text e = absurd cc
fits_member as_record (base.Enum i) e = e
fits_member as_record (base.Struct i) e = refl
fits_member as_record (base.Table i) e = refl
fits_member as_record (base.Union i) e = e
fits_member as_root (base.Scalar s) e = e
fits_member as_root base.Text e = absurd cc
fits_member as_root (base.Enum i) e = e
fits_member as_root (base.Struct i) e = refl
fits_member as_root (base.Table i) e = refl
fits_member as_root (base.Union i) e = e

refers_members : (hs : List HeadV) (bs : List Body) (space : SpaceV) (ds : List MemberV) (ms : List UnionMember) → Matches hs bs → Each2 (SaysMember hs space) ds ms → AllByRecursion (λ x. RefersMember bs x.base) ms
refers_members hs bs space [] [] m x = tt
refers_members hs bs space [] (f ∷ fs) m x = absurd x
refers_members hs bs space (d ∷ ds) [] m x = absurd x
refers_members hs bs space (d ∷ ds) (f ∷ fs) m x =
    ((fits_member (wanted_of d) f.base x.0.fits, refers_named hs bs (wanted_of d) space (target_of d) f.base m x.0.base), refers_members hs bs space ds fs m x.1)

measured : (before : List Body) (i : ℕ) (m : Measure) (o : Option Body) → o ≡ slice_get before i → measure_of_body o ≡ Some m → i < length before
measured before i m None s e = absurd cc
measured before i m (Some b) s e = slice_get_within before i b (sym s)

below : (before : List Body) (b : Base) (m : Measure) → measure_in before b ≡ Some m → IsBelow (length before) b
below before (base.Scalar s) m e = tt
below before base.Text m e = absurd cc
below before (base.Enum i) m e = measured before i m (slice_get before i) refl e
below before (base.Struct i) m e = measured before i m (slice_get before i) refl e
below before (base.Table i) m e = absurd cc
below before (base.Union i) m e = absurd cc

measure_on : (before rest : List Body) (i : ℕ) (m : Measure) → measure_of_body (slice_get before i) ≡ Some m → measure_of_body (slice_get (before ++ rest) i) ≡ Some m
measure_on [] rest i m e = absurd cc
measure_on (b ∷ before) rest zero m e = e
measure_on (b ∷ before) rest (suc i) m e = measure_on before rest i m e

measure_kept : (before rest : List Body) (b : Base) (m : Measure) → measure_in before b ≡ Some m → measure_in (before ++ rest) b ≡ Some m
measure_kept before rest (base.Scalar s) m e = e
measure_kept before rest base.Text m e = e
measure_kept before rest (base.Enum i) m e = measure_on before rest i m e
measure_kept before rest (base.Struct i) m e = measure_on before rest i m e
measure_kept before rest (base.Table i) m e = e
measure_kept before rest (base.Union i) m e = e

counted_in : (o : Option ℕ) (count : Option ℕ) → count_in o ≡ Some count → IsCount count
counted_in None count e = absurd cc
counted_in (Some n) count e = by_test (is_count n) refl e
  where
    by_test : (b : Bool) → is_count n ≡ b → cond b (Some (Some n)) None ≡ Some count → IsCount count
    by_test true t e =
        let both = and_parts (nat_le 1 n) (nat_le n 65535) t in
        subst IsCount (some_is (Some n) count e) (leb-true 1 n both.0, leb-true n 65535 both.1)
    by_test false t e = absurd cc

is_counted : (k : KindV) (count : Option ℕ) → count_said k ≡ Some count → IsCount count
is_counted (single p) count e = subst IsCount (some_is None count e) tt
is_counted (vector p) count e = subst IsCount (some_is None count e) tt
is_counted (array p w) count e = counted_in (natural_of (integer_said w)) count e

refers_before : (hs : List HeadV) (before rest : List Body) (space : SpaceV) (ds : List FieldV) (fs : List StructField) → Each2 (SaysStructField hs space before) ds fs → AllByRecursion (RefersBefore (before ++ rest) (length before)) fs
refers_before hs before rest space [] [] x = tt
refers_before hs before rest space [] (f ∷ fs) x = absurd x
refers_before hs before rest space (d ∷ ds) [] x = absurd x
refers_before hs before rest space (d ∷ ds) (f ∷ fs) x = (
  record {
    below = below before f.base _ x.0.measure;
    item = x.0.item;
    measure = measure_kept before rest f.base _ x.0.measure;
    count = is_counted d.kind f.count x.0.count;
    size = x.0.size;
    alignment = x.0.alignment;
  },
  refers_before hs before rest space ds fs x.1,
)

refers_said : (hs : List HeadV) (space : SpaceV) (before rest : List Body) (item : ItemV) (b : Body) → Matches hs (before ++ rest) → SaysBody hs space before item b → RefersBody (before ++ rest) (length before) b
refers_said hs space before rest (include w) b m h = absurd h
refers_said hs space before rest (native_include w) b m h = absurd h
refers_said hs space before rest (namespace p) b m h = absurd h
refers_said hs space before rest (attribute l) b m h = absurd h
refers_said hs space before rest (table r) (body.Table t) m h = refers_fields hs (before ++ rest) space _ r.fields t.fields.items m h.fields
refers_said hs space before rest (table r) (body.Struct t) m h = absurd h
refers_said hs space before rest (table r) (body.Enum t) m h = absurd h
refers_said hs space before rest (table r) (body.Union t) m h = absurd h
refers_said hs space before rest (struct r) (body.Table t) m h = absurd h
refers_said hs space before rest (struct r) (body.Struct t) m h = refers_before hs before rest space r.fields t.fields.items h.fields
refers_said hs space before rest (struct r) (body.Enum t) m h = absurd h
refers_said hs space before rest (struct r) (body.Union t) m h = absurd h
refers_said hs space before rest (enumeration r) (body.Table t) m h = absurd h
refers_said hs space before rest (enumeration r) (body.Struct t) m h = absurd h
refers_said hs space before rest (enumeration r) (body.Enum t) m h = tt
refers_said hs space before rest (enumeration r) (body.Union t) m h = absurd h
refers_said hs space before rest (union r) (body.Table t) m h = absurd h
refers_said hs space before rest (union r) (body.Struct t) m h = absurd h
refers_said hs space before rest (union r) (body.Enum t) m h = absurd h
refers_said hs space before rest (union r) (body.Union t) m h = refers_members hs (before ++ rest) space r.members t.members.items m h.members
refers_said hs space before rest (service s) b m h = absurd h
refers_said hs space before rest (root p) b m h = absurd h
refers_said hs space before rest (identifier w) b m h = absurd h
refers_said hs space before rest (extension w) b m h = absurd h

are_sound : (hs : List HeadV) (all before : List Body) (some : List HeadV) (rest : List Body) → Matches hs all → all ≡ before ++ rest → SayBodies hs before some rest → AreSound all (length before) rest
are_sound hs all before [] [] m e x = tt
are_sound hs all before [] (b ∷ rest) m e x = absurd x
are_sound hs all before (h ∷ some) [] m e x = absurd x
are_sound hs all before (h ∷ some) (b ∷ rest) m e x =
    let r : RefersBody all (length before) b = subst (λ bs. RefersBody bs (length before) b) (sym e) (refers_said hs (space_at h.space (length before + 1)) before (b ∷ rest) h.declaration.item b (subst (Matches hs) e m) x.1) in
    let n : length (before ++ b ∷ []) ≡ length before + 1 = length-append before (b ∷ []) in
    let more : AreSound all (length (before ++ b ∷ [])) rest = are_sound hs all (before ++ b ∷ []) some rest m (e ∙ sym (append_assoc before (b ∷ []) rest)) x.2 in
    (x.0, r, subst (λ k. AreSound all k rest) n more)

same_names : (hs : List HeadV) (ds : List Declared) → Each2 IsHeadOf hs ds → map (λ (d : Declared). d.name.items) ds ≡ map (λ (h : HeadV). h.name) hs
same_names [] [] x = refl
same_names [] (d ∷ ds) x = absurd x
same_names (h ∷ hs) [] x = absurd x
same_names (h ∷ hs) (d ∷ ds) x = ap (λ w. w ∷ map (λ (e : Declared). e.name.items) ds) x.0.name ∙ ap (λ ws. h.name ∷ ws) (same_names hs ds x.1)

pub record RootIs (bs : List Body) (s : StatementsV) : Type 0 where
  pub table : (i : ℕ) → s.root ≡ Some (Some i) → IsTableAt bs i

table_of : (o : Option Base) (i : ℕ) → (let r : Option (Option ℕ) = Some (table_in o) in r) ≡ Some (Some i) → o ≡ Some (base.Table i)
table_of None i e = absurd cc
table_of (Some (base.Scalar s)) i e = absurd cc
table_of (Some base.Text) i e = absurd cc
table_of (Some (base.Enum j)) i e = absurd cc
table_of (Some (base.Struct j)) i e = absurd cc
table_of (Some (base.Table j)) i e = cc
table_of (Some (base.Union j)) i e = absurd cc

root_after : (hs : List HeadV) (bs : List Body) (space : SpaceV) (s : StatementsV) (item : ItemV) → Matches hs bs → RootIs bs s → RootIs bs (after hs space s item)
root_after hs bs space s (include w) m h = h
root_after hs bs space s (native_include w) m h = h
root_after hs bs space s (namespace p) m h = h
root_after hs bs space s (attribute l) m h = h
root_after hs bs space s (table r) m h = h
root_after hs bs space s (struct r) m h = h
root_after hs bs space s (enumeration e) m h = h
root_after hs bs space s (union u) m h = h
root_after hs bs space s (service x) m h = h
root_after hs bs space s (root p) m h = record { table = λ i e. refers_named hs bs as_root space p (base.Table i) m (table_of (base_as hs as_root space p) i e) }
root_after hs bs space s (identifier w) m h = record { table = λ i e. h.table i e }
root_after hs bs space s (extension w) m h = record { table = λ i e. h.table i e }

root_file : (hs : List HeadV) (bs : List Body) (n : ℕ) (space : Option PathV) (s : StatementsV) (ds : List DeclarationV) → Matches hs bs → RootIs bs s → RootIs bs (after_file hs n space s ds)
root_file hs bs n space s [] m h = h
root_file hs bs n space s (d ∷ ds) m h = root_file hs bs (begun_after n d.item) (space_after space d.item) (after hs (space_at (words_in space) n) s d.item) ds m (root_after hs bs (space_at (words_in space) n) s d.item m h)

root_files : (hs : List HeadV) (bs : List Body) (n : ℕ) (s : StatementsV) (files : List (List DeclarationV)) → Matches hs bs → RootIs bs s → RootIs bs (after_files hs n s files)
root_files hs bs n s [] m h = h
root_files hs bs n s (ds ∷ files) m h =
    root_files hs bs (begun_in n ds) (after_file hs n None no_statements ds) files m
    (root_file hs bs n None no_statements ds m (record { table = λ i e. absurd cc }))

root_there : (bs : List Body) (r : Option ℕ) → ((i : ℕ) → option_map (λ (j : ℕ). Some j) r ≡ Some (Some i) → IsTableAt bs i) → IsNested bs r
root_there bs None h = tt
root_there bs (Some i) h = h i refl

pub sound : (files : List (List DeclarationV)) (s : Schema) → Means files s → IsSound s
sound files s w =
    let hs = heads_of files in
    let bs = map body_in s.declarations.items in
    let m : Matches hs bs = record { each = matching hs [] hs bs w.declared.bodies } in
    let r : RootIs bs (said_of s.statements) = subst (RootIs bs) (sym w.statements) (root_files hs bs 0 no_statements files m (record { table = λ i e. absurd cc })) in
    record {
      names = subst AreDistinct (sym (same_names hs s.declarations.items w.declared.heads)) w.names;
      bodies = are_sound hs bs [] hs bs m refl w.declared.bodies;
      root = root_there bs s.statements.root r.table;
      identifier = w.four;
    }
