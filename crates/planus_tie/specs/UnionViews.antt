-- The text of a union's verified view.
use Rattle.std.specs.Prelude.{◌≡◌, ℕ, Bool, true, false, ◌&&◌, ◌||◌, not, is_none, List, [], ◌∷◌}
use Rattle.std.specs.Prelude.{◌++◌, codes, Option}
use Rattle.std.specs.List.{flat_map}
use Rattle.planus_schema.specs.declared.schema.Base.{Base}
use Rattle.planus_schema.specs.declared.schema.Base.TheVariants as base
use Rattle.planus_schema.specs.declared.schema.Union.{Union}
use Rattle.planus_tie.specs.Bare.{bare}
use Rattle.planus_tie.specs.Holes.{filled, has_text}
use Rattle.planus_tie.specs.Ranks.{rank_in}
use Rattle.planus_tie.specs.Reading.{after, after_in}
use Rattle.planus_tie.specs.Unions.{holes_of, members_from}
use Rattle.planus_tie.specs.declared.holes.Holes.{Holes}
use Rattle.planus_tie.specs.declared.naming.Naming.{Naming}

-- with its place among the unions as its number
abbrev pub view_holes : List ℕ → ℕ → Holes
view_holes ranks i = holes_of i 0 base.Text (rank_in ranks i)

abbrev pub variant_text : Base → List ℕ
variant_text (base.Table i) = codes "$n($bView<'a>),"
variant_text (base.Struct i) = codes "$n(PlainRef<'a, $b>),"
variant_text b = codes "$n(&'a str),"

abbrev pub variant_of : Naming → Holes → List ℕ
variant_of n h = filled n h (variant_text h.base)

-- the variant of a member's tag is the value of that tag: on one line, or on several
abbrev pub arm_text : Bool → Base → List ℕ
arm_text false (base.Table i) = codes "$i => $TView::$n(member.table::<$T, _>($i)),"
arm_text false (base.Struct i) = codes "$i => $TView::$n(member.plain::<$T, _>($i)),"
arm_text false b = codes "$i => $TView::$n(member.text::<$T>($i)),"
arm_text true (base.Table i) =
    codes "$i => { let view = member.table::<$T, _>($i); $TView::$n(view) }"
arm_text true (base.Struct i) =
    codes "$i => { let view = member.plain::<$T, _>($i); $TView::$n(view) }"
arm_text true b = codes "$i => { let view = member.text::<$T>($i); $TView::$n(view) }"

abbrev pub arm_of : Naming → Bool → Holes → List ℕ
arm_of n wide h = filled n h (arm_text wide h.base)

-- the union's place in the schema's value, and the variants
abbrev pub kind_head : List ℕ
kind_head = codes "impl planus_views::UnionKind for $T { ghost schema = { verified_schema };"
    ++ (codes " ghost union = { $i }; } #[derive(Clone, Copy, Debug)]"
    ++ codes " pub enum $TView<'a> {")

abbrev pub kind_text : Naming → Holes → List Holes → List ℕ
kind_text n own members = filled n own kind_head ++ flat_map (λ h. variant_of n h) members

abbrev pub reading_head : List ℕ
reading_head = codes "fn of_member(member: planus_views::Member<'a>) -> $TView<'a> {"

-- `of_member` has an arm for each member
abbrev pub together_text : Naming → Bool → Holes → List Holes → List ℕ
together_text n wide own members = filled n own (reading_head ++ codes " match member.tag() {")
    ++ (flat_map (λ h. arm_of n wide h) members ++ filled n own (codes "tag => $TView::"))

abbrev pub asking_text : Naming → Holes → List ℕ
asking_text n own = filled n own (reading_head ++ codes " view_from_0(member) } }")

-- what follows when each member's arm was found, in order
abbrev pub behind_arms : Naming → Bool → List Holes → Option (List ℕ) → Option (List ℕ)
behind_arms n wide [] text = text
behind_arms n wide (h ∷ hs) text =
    behind_arms n wide hs (after_in (bare (arm_of n wide h)) text)

-- or it asks functions, which have these arms
abbrev pub has_chain : Naming → Bool → Holes → List Holes → List ℕ → Bool
has_chain n wide own members text =
    not (is_none (behind_arms n wide members (after (bare (asking_text n own)) text)))

abbrev pub has_arms : Naming → Bool → Holes → List Holes → List ℕ → Bool
has_arms n wide own members text =
    has_text text (together_text n wide own members) || has_chain n wide own members text

abbrev pub is_union_view_text : Naming → Holes → List Holes → List ℕ → Bool
is_union_view_text n own members text = has_text text (kind_text n own members)
    && (has_arms n false own members text || has_arms n true own members text)

-- The text has a variant for each member, which is made of the value of the member's tag.
abbrev pub IsUnionViewTied : Naming → List ℕ → ℕ → Union → List ℕ → Type 0
IsUnionViewTied n ranks i one text = is_union_view_text n (view_holes ranks i)
    (members_from i 0 one.members.items) (bare text) ≡ true
