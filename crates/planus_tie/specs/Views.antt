-- A verified view's text that is its schema's.
use Rattle.std.specs.Prelude.{◌≡◌, ℕ, Bool, true, false, ◌&&◌, List, [], ◌∷◌, ◌++◌, map}
use Rattle.std.specs.Prelude.{codes, decimal, Option, Some, None, if◌then◌else◌}
use Rattle.std.specs.List.{slice_get}
use Rattle.planus_schema.specs.Numbers.{is_float}
use Rattle.planus_schema.specs.declared.schema.Base.{Base}
use Rattle.planus_schema.specs.declared.schema.Base.TheVariants as base
use Rattle.planus_schema.specs.declared.schema.Body.{Body}
use Rattle.planus_schema.specs.declared.schema.Body.TheVariants as body
use Rattle.planus_schema.specs.declared.schema.Declared.{Declared}
use Rattle.planus_schema.specs.declared.schema.Table.{Table}
use Rattle.planus_schema.specs.declared.schema.TableField.{TableField}
use Rattle.planus_schema.specs.Plans.{LineV, line_of, IsPlan}
use Rattle.planus_schema.specs.declared.plan.Plan.{Plan}
use Rattle.planus_tie.specs.Bare.{bare}
use Rattle.planus_tie.specs.Keys.{have_keys}
use Rattle.planus_tie.specs.Ranks.{rank_in, is_judged}
use Rattle.planus_tie.specs.Reading.{method_mark, body_of, after, if_begins}
use Rattle.planus_tie.specs.Wanted.{type_of, module_of, member_of, has_default, default_text}
use Rattle.planus_tie.specs.Wanted.{function_of, ending, read_slot}
use Rattle.planus_tie.specs.declared.naming.Naming.{Naming}

-- calls

-- `text_field`, `judged_required` ..
abbrev pub view_function : List Bool → TableField → List ℕ
view_function totals f = if is_judged totals f then codes "judged" ++ ending f else function_of f

abbrev pub is_flags_body : Body → Bool
is_flags_body (body.Enum one) = one.flags
is_flags_body b = false

abbrev pub is_flags : Option Declared → Bool
is_flags None = false
is_flags (Some d) = is_flags_body d.body

-- its default is a constant
abbrev pub is_constant : Naming → Base → Bool
is_constant n (base.Scalar s) = is_float s
is_constant n (base.Enum i) = is_flags (slice_get n.declared.now i)
is_constant n b = false

-- a constant stands beside the checked view
abbrev pub constant_path : Naming → LineV → List ℕ
constant_path n l = if is_constant n l.field.kind.base
    then codes "crate::" ++ (module_of n l.table ++ codes "::") else []

abbrev pub view_default : Naming → LineV → List ℕ
view_default n l = if has_default l.field
    then codes "," ++ (constant_path n l ++ default_text n l) else []

-- the body of a view's accessor
abbrev pub view_call : Naming → List Bool → LineV → List ℕ
view_call n totals l = codes "self.0." ++ (view_function totals l.field
    ++ (codes "(" ++ (decimal (read_slot l.field) ++ (view_default n l ++ codes ")}"))))

-- files

-- a field's accessor with its call as its body, and what follows it
abbrev pub view_in : Naming → List Bool → LineV → List ℕ → Option (List ℕ)
view_in n totals l text =
    if_begins (body_of (method_mark (member_of n l.table l.place)) text) (view_call n totals l)

-- each field has its accessor, one after the other
abbrev pub have_views : Naming → List Bool → Option (List ℕ) → List LineV → Bool
have_views n totals None ls = false
have_views n totals (Some text) [] = true
have_views n totals (Some text) (l ∷ ls) = have_views n totals (view_in n totals l text) ls

-- how a table's kind begins
abbrev pub kind_start : List ℕ → List ℕ
kind_start name = codes "impl planus_views::VerifiedKind for " ++ name

abbrev pub index_text : ℕ → List ℕ
index_text index = codes "{ghost schema={verified_schema};ghost index={" ++ decimal index

-- with the table's index in the schema's value
abbrev pub kind_head : Naming → List ℕ → ℕ → List ℕ
kind_head n ranks i = kind_start (type_of n i) ++ (index_text (rank_in ranks i) ++ codes "};")

abbrev pub is_view_tied : Naming → List ℕ → List Bool → Plan → List ℕ → Bool
is_view_tied n ranks totals p text =
    have_views n totals (after (kind_head n ranks p.table) text) (map line_of p.lines.items)
    && have_keys n (Some totals) (Some text) (map line_of p.lines.items)

-- The text has the table's index, and then the accessors of its plan, and the look-up by its key.
pub record IsViewTied (n : Naming) (ranks : List ℕ) (totals : List Bool) (i : ℕ) (one : Table)
    (text : List ℕ) : Type 0
  where
    pub plan : Plan
    pub planned : IsPlan n.declared.now i one.fields.items plan
    pub tied : is_view_tied n ranks totals plan (bare text) ≡ true
