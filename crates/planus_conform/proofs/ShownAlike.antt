-- Where nothing breaks, dumps by both schemas show the same of what both have.
use Rattle.std.proofs.Common.{◌≡◌, ℕ, ◌+◌, true, List, [], ◌++◌, get_or, map, refl, sym, ap, subst, ◌∙◌, Option, Some, None, option_map, slice_get, codes}
use Rattle.std.specs.List.{list_all, IsDistinct}
use Rattle.std.specs.Str.{bytes_eq}
use Rattle.std.proofs.lemmas.List.Quantifiers.{position-Some}
use Rattle.std.proofs.lemmas.Option.{slice_get-map, slice_get-get_or}
use Rattle.planus_dump.specs.Dumped.{greatest_depth}
use Rattle.planus_dump.specs.Shapes.{table_shape, union_shape, enum_shape, struct_shape}
use Rattle.planus_dump.specs.declared.schemas.Schema as dump
use Rattle.planus_inspect.specs.Shown.{shown_name, field_shown, union_shown, enum_shown, field_in_struct}
use Rattle.planus_schema.specs.Layouts.{body_in}
use Rattle.planus_schema.specs.declared.schema.Declared.{Declared}
use Rattle.planus_schema.specs.declared.schema.Schema.{Schema}
use Rattle.planus_resolve.specs.Schemas.{IsBody}
use Rattle.planus_resolve.specs.Sound.{IsSound, RefersBody, AreSound}
use Rattle.planus_conform.specs.declared.breaks.Place.TheVariants as place
use Rattle.planus_conform.specs.declared.breaks.Way.TheVariants as way
use Rattle.planus_conform.specs.Values.{body_of}
use Rattle.planus_conform.specs.Matching.{named, matches_of, match_in, Matches}
use Rattle.planus_conform.specs.Breaks.{noted, breaks_to, body_breaks, body_if, breaks_from, root_change, identifier_change}
use Rattle.planus_conform.specs.NoBreaks.{is_filled, are_filled}
use Rattle.planus_conform.specs.ShownAlike.{shared_in, shared_parts_in, other_body, table_shared, struct_shared, ShowsShared, IsLabelledAlike, AreLabelledAlike, SharedFieldsShowAlike}
use Rattle.planus_conform.proofs.Parts.{both_nothing, same_bytes}
use Rattle.planus_conform.proofs.Alike.{matched}
use Rattle.planus_conform.proofs.NoBreaks.{sound_at, filled_at, sized_below, named_itself}
use Rattle.planus_conform.proofs.EventsByShapes.{variant_in}
use Rattle.planus_conform.proofs.Related.{PartsAlike, StructAlike, StructsAlike, MembersAlike, UnionsAlike, FieldsAlike, TableAlike, TablesAlike, Related}
use Rattle.planus_conform.proofs.ShownParts.{events_same}
use Rattle.planus_conform.proofs.SharedParts.{table_alike, struct_alike, enum_alike, union_alike}

-- ---- declarations that belong together

record Pair (ds es : List Declared) (i j : ℕ) : Type 0 where
  older : Declared
  newer : Declared
  at : slice_get ds i ≡ Some older
  to : slice_get es j ≡ Some newer
  by_name : named es older.name.items ≡ Some j
  name : older.name.items ≡ newer.name.items

paired : (ds es : List Declared) (i j : ℕ) → Matches (matches_of [] ds es) i j → Pair ds es i j
paired ds es i j is =
    by_case (slice_get ds i) refl (ap match_in (sym (slice_get-map (λ d. named es d.name.items) ds i)) ∙ is)
  where
    by_case : (o : Option Declared) → slice_get ds i ≡ o → match_in (option_map (λ d. named es d.name.items) o) ≡ Some j → Pair ds es i j
    by_case None at n = absurd cc
    by_case (Some d) at n =
        let p = position-Some (λ c. bytes_eq c.name.items d.name.items) es j d n in
        record {
          older = d;
          newer = get_or es j d;
          at = at;
          to = slice_get-get_or es j d p.0;
          by_name = n;
          name = sym (same_bytes (get_or es j d).name.items d.name.items p.1);
        }

shape_at : {A B C : Type 0} (f : A → C) (g : B → C) (xs : List A) (ys : List B) (i : ℕ) (y : B) → map f xs ≡ map g ys → slice_get ys i ≡ Some y → option_map f (slice_get xs i) ≡ Some (g y)
shape_at f g xs ys i y e at =
    sym (slice_get-map f xs i) ∙ ap (λ l. slice_get l i) e ∙ slice_get-map g ys i ∙ ap (option_map g) at

both_ways : {A : Type 0} (P : A → A → Type 0) (x y u v : A) → x ≡ u → y ≡ v → P u v → P x y
both_ways P x y u v e f p = subst (λ z. P z y) (sym e) (subst (P u) (sym f) p)

module _ (ds es : List Declared) (none : breaks_from way.Both (matches_of [] ds es) es 0 ds ≡ []) (names : AreLabelledAlike (matches_of [] ds es) ds es)
    (distinct : IsDistinct bytes_eq (map (λ d. d.name.items) ds)) (sound : AreSound (map body_in es) 0 (map body_in es)) (filled : list_all (λ d. is_filled d.body) es ≡ true)
    (i j : ℕ) (is : Matches (matches_of [] ds es) i j) (p : Pair ds es i j) where
  unbroken : breaks_to way.Both (matches_of [] ds es) i p.older.body p.newer.body ≡ []
  unbroken =
      subst (λ o. body_breaks way.Both (matches_of [] ds es) i p.older.body o ≡ []) (ap body_of p.to)
      (matched way.Both (matches_of [] ds es) ds es none i j is p.older p.at)

  labelled : IsLabelledAlike p.older.body p.newer.body
  labelled = names i j is p.older.body p.newer.body (ap body_of p.at) (ap body_of p.to)

  of_newer : other_body es p.older ≡ Some p.newer.body
  of_newer = ap (body_if es) p.by_name ∙ ap body_of p.to

  of_older : other_body ds p.newer ≡ Some p.older.body
  of_older =
      ap (λ n. body_if ds (named ds n)) (sym p.name) ∙ ap (body_if ds) (named_itself ds distinct i p.older p.at)
      ∙ ap body_of p.at

  known : IsBody p.newer.body × RefersBody (map body_in es) (0 + j) p.newer.body
  known =
      sound_at (map body_in es) 0 (map body_in es) sound j p.newer.body
      (slice_get-map body_in es j ∙ ap (option_map body_in) p.to)

  table_pair : TableAlike (matches_of [] ds es) (table_shared es p.older) (table_shared ds p.newer)
  table_pair = record {
    name = ap shown_name p.name;
    fields =
        both_ways (λ o q. FieldsAlike (matches_of [] ds es) (map field_shown (shared_in o p.older.body)) (map field_shown (shared_in q p.newer.body)))
        (other_body es p.older) (other_body ds p.newer) (Some p.newer.body) (Some p.older.body) of_newer of_older
        (table_alike (matches_of [] ds es) i p.older.body p.newer.body unbroken labelled known.0);
  }

  struct_pair : StructAlike (matches_of [] ds es) (struct_shared es p.older) (struct_shared ds p.newer)
  struct_pair =
      let alike =
      struct_alike (matches_of [] ds es) (map body_in es) (0 + j) i (sized_below (map body_in es) sound (filled_at es filled) (0 + j))
      p.older.body p.newer.body unbroken labelled known.0 known.1 in
      record {
        name = ap shown_name p.name;
        size = alike.0;
        parts =
            both_ways (λ o q. PartsAlike (matches_of [] ds es) (map field_in_struct (shared_parts_in o p.older.body)) (map field_in_struct (shared_parts_in q p.newer.body)))
            (other_body es p.older) (other_body ds p.newer) (Some p.newer.body) (Some p.older.body) of_newer of_older alike.1;
      }

  enum_pair : enum_shown p.older ≡ enum_shown p.newer
  enum_pair = enum_alike (matches_of [] ds es) p.older p.newer i p.older.body p.newer.body unbroken labelled

  union_pair : (tag : ℕ) → MembersAlike (matches_of [] ds es) (variant_in (union_shown p.older) tag) (variant_in (union_shown p.newer) tag)
  union_pair = union_alike (matches_of [] ds es) ds es p.older p.newer i p.older.body p.newer.body unbroken labelled

module _ (old new : Schema) (sound : IsSound old) (sound_new : IsSound new) (filled : are_filled new ≡ true)
    (none : breaks_from way.Both (matches_of [] old.declarations.items new.declarations.items) new.declarations.items 0 old.declarations.items ≡ [])
    (names : AreLabelledAlike (matches_of [] old.declarations.items new.declarations.items) old.declarations.items new.declarations.items)
    (r q : ℕ) (by_old by_new : dump.Schema) (a : ShowsShared old new r by_old) (b : ShowsShared new old q by_new) where
  related : Related (matches_of [] old.declarations.items new.declarations.items) by_old by_new
  related =
      let ds = old.declarations.items in
      let es = new.declarations.items in
      let m = matches_of [] ds es in
      record {
        enums = λ i j is.
            let p = paired ds es i j is in
            shape_at enum_shape enum_shown by_old.enums.items ds i p.older a.enums_are p.at
            ∙ ap Some (enum_pair ds es none names sound.names sound_new.bodies filled i j is p)
            ∙ sym (shape_at enum_shape enum_shown by_new.enums.items es j p.newer b.enums_are p.to);
        structs = λ i j is.
            let p = paired ds es i j is in
            both_ways (StructsAlike m) _ _ (Some (struct_shared es p.older)) (Some (struct_shared ds p.newer))
            (shape_at struct_shape (struct_shared es) by_old.structs.items ds i p.older a.structs_are p.at)
            (shape_at struct_shape (struct_shared ds) by_new.structs.items es j p.newer b.structs_are p.to)
            (struct_pair ds es none names sound.names sound_new.bodies filled i j is p);
        unions = λ i j is.
            let p = paired ds es i j is in
            both_ways (UnionsAlike m) _ _ (Some (union_shown p.older)) (Some (union_shown p.newer))
            (shape_at union_shape union_shown by_old.unions.items ds i p.older a.unions_are p.at)
            (shape_at union_shape union_shown by_new.unions.items es j p.newer b.unions_are p.to)
            (union_pair ds es none names sound.names sound_new.bodies filled i j is p);
        tables = λ i j is.
            let p = paired ds es i j is in
            both_ways (TablesAlike m) _ _ (Some (table_shared es p.older)) (Some (table_shared ds p.newer))
            (shape_at table_shape (table_shared es) by_old.tables.items ds i p.older a.tables_are p.at)
            (shape_at table_shape (table_shared ds) by_new.tables.items es j p.newer b.tables_are p.to)
            (table_pair ds es none names sound.names sound_new.bodies filled i j is p);
        tags = a.tags_need_values ∙ sym b.tags_need_values;
      }

pub shared_fields_show_alike : SharedFieldsShowAlike
shared_fields_show_alike old new sound sound_new filled none names i j is by_old by_new a b S =
    let ds = old.declarations.items in
    let es = new.declarations.items in
    let m = matches_of [] ds es in
    let listed = breaks_from way.Both m es 0 ds in
    let root = noted place.Root (root_change m old.statements.root new.statements.root) in
    let identifier = noted place.Identifier (identifier_change way.Both old.statements.identifier new.statements.identifier) in
    let kept : listed ≡ [] = (both_nothing listed root (both_nothing (listed ++ root) identifier none).0).0 in
    events_same m by_old by_new (related old new sound sound_new filled kept names i j by_old by_new a b) greatest_depth by_old.root by_new.root
    (both_ways (Matches m) by_old.root by_new.root i j a.root_is b.root_is is) S 0 (codes "root")
