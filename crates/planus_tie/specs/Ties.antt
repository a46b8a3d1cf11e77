-- A table's text that is its schema's.
use Rattle.std.specs.Prelude.{◌≡◌, ℕ, Bool, true, false, ◌&&◌, ◌||◌, List, [], ◌∷◌, map}
use Rattle.std.specs.Prelude.{Option, Some, None, take, drop, ◌==◌}
use Rattle.planus_schema.specs.Plans.{LineV, line_of, IsPlan}
use Rattle.planus_tie.specs.Bare.{bare}
use Rattle.planus_tie.specs.Constants.{have_constants}
use Rattle.planus_tie.specs.Keys.{have_keys}
use Rattle.planus_tie.specs.Reading.{method_mark, body_of, after, list_in, begins, if_begins}
use Rattle.planus_tie.specs.Wanted.{call_text, list_text, member_of, group_mark, group_text}
use Rattle.planus_tie.specs.Wanted.{is_spelled}
use Rattle.std.specs.List.{list_all}
use Rattle.planus_schema.specs.declared.schema.Table.{Table}
use Rattle.planus_schema.specs.declared.plan.Line.{Line}
use Rattle.planus_schema.specs.declared.plan.Plan.{Plan}
use Rattle.planus_tie.specs.declared.groups.Entry.{Entry}
use Rattle.planus_tie.specs.declared.naming.Naming.{Naming}

-- a field's accessor with its call as its body, and what follows it
abbrev pub accessor_in : Naming → LineV → List ℕ → Option (List ℕ)
accessor_in n l text =
    if_begins (body_of (method_mark (member_of n l.table l.place)) text) (call_text n l)

-- each field has its accessor, one after the other
abbrev pub have_accessors : Naming → Option (List ℕ) → List LineV → Bool
have_accessors n None ls = false
have_accessors n (Some text) [] = true
have_accessors n (Some text) (l ∷ ls) = have_accessors n (accessor_in n l text) ls

-- each group has its lines
abbrev pub have_groups : Naming → List ℕ → ℕ → List Entry → List Line → Bool
have_groups n text table [] ls = true
have_groups n text table (e ∷ es) ls =
    (e.group == 0 || begins (after (group_mark e.group) text)
    (group_text n table e.group (take e.count ls)))
    && have_groups n text table es (drop e.count ls)

-- what is created has a line for each field, in this order
abbrev pub has_lines : Naming → List ℕ → ℕ → List Entry → List Line → Bool
has_lines n text table es ls =
    have_groups n text table es ls && begins (list_in text) (list_text n table es ls)

abbrev pub is_plan_tied : Naming → List Entry → Plan → List ℕ → Bool
is_plan_tied n es p text = list_all (is_spelled n) (map line_of p.lines.items)
    && have_accessors n (Some text) (map line_of p.lines.items)
    && has_lines n text p.table es p.order.items
    && have_keys n None (Some text) (map line_of p.lines.items)
    && have_constants n (Some text) (map line_of p.lines.items)

-- The text of a table has the accessors and the lines of its plan, the look-up by its key, and the
-- constants of defaults.
pub record IsTableTied (n : Naming) (table : ℕ) (one : Table) (text : List ℕ) : Type 0 where
  pub plan : Plan
  pub entries : List Entry
  pub planned : IsPlan n.declared.now table one.fields.items plan
  pub tied : is_plan_tied n entries plan (bare text) ≡ true
