-- Schemas that conform.
use Rattle.std.specs.Prelude.{◌≡◌, ℕ, ◌||◌, not, List, Bool, true, Option, Some, slice_get}
use Rattle.std.specs.List.{list_all}
use Rattle.planus_schema.specs.declared.schema.Body.{Body}
use Rattle.planus_schema.specs.declared.schema.Body.TheVariants as body
use Rattle.planus_schema.specs.declared.schema.Declared.{Declared}
use Rattle.planus_schema.specs.declared.schema.Schema.{Schema}
use Rattle.planus_conform.specs.declared.breaks.Way.{Way}
use Rattle.planus_conform.specs.declared.rename.Rename.{Rename}
use Rattle.planus_conform.specs.Values.{body_at}
use Rattle.planus_conform.specs.Matching.{Matches, matches_of}
use Rattle.planus_conform.specs.Alike.{ReadAlike, OpenAlike, IdentifiedAlike}
use Rattle.planus_conform.specs.Breaks.{is_moved, is_part_moved, is_value_moved, is_member_moved}

-- no name of the old declaration has another slot, distance, number or tag in the new one
abbrev pub names_stay : Body → Body → Bool
names_stay (body.Table t) (body.Table u) =
    list_all (λ f. f.deprecated || not (is_moved u.fields.items f)) t.fields.items
names_stay (body.Struct s) (body.Struct t) =
    list_all (λ f. not (is_part_moved t.fields.items f)) s.fields.items
names_stay (body.Enum e) (body.Enum g) =
    list_all (λ v. not (is_value_moved g.values.items v)) e.values.items
names_stay (body.Union u) (body.Union v) =
    list_all (λ a. not (is_member_moved v.members.items a)) u.members.items
names_stay b c = true

-- With these matches: each declaration is still there; no name is moved; all calls return the same;
-- the root is the same; what passes the test of the file identifier does so still.
pub record ConformBy (w : Way) (m : List (Option ℕ)) (old new : Schema) : Type 0 where
  pub there :
      (i : ℕ) (d : Declared) → slice_get old.declarations.items i ≡ Some d
      → (j : ℕ) × Matches m i j
  pub stay :
      (i j : ℕ) → Matches m i j → (b c : Body) → body_at old.declarations.items i ≡ Some b
      → body_at new.declarations.items j ≡ Some c → names_stay b c ≡ true
  pub alike : ReadAlike w m old.declarations.items new.declarations.items
  pub open_alike : OpenAlike w old new
  pub identified : IdentifiedAlike w old new

abbrev pub Conforms : Way → List Rename → Schema → Schema → Type 0
Conforms w rs old new =
    ConformBy w (matches_of rs old.declarations.items new.declarations.items) old new
