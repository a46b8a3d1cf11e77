-- Faults of unions.
use Rattle.std.specs.Prelude.{ℕ, nat_eq, List, [], ◌∷◌, ◌++◌, Option, Some, None, codes}
use Rattle.std.specs.List.{list_any}
use Rattle.planus_syntax.specs.Values.{Name, path_of, digits_of, member_of}
use Rattle.planus_syntax.specs.declared.value.Attribute.{Attribute}
use Rattle.planus_syntax.specs.declared.value.Path.{Path}
use Rattle.planus_syntax.specs.declared.value.Member.{Member}
use Rattle.planus_syntax.specs.declared.value.UnionBody.{UnionBody}
use Rattle.planus_schema.specs.Distinct.{is_in}
use Rattle.planus_resolve.specs.declared.fault.FaultKind.TheVariants as fault
use Rattle.planus_resolve.specs.Names.{HeadV, SpaceV, words_of, dotted, attribute_named, listed}
use Rattle.planus_resolve.specs.Names.{UsedAs}
use Rattle.planus_resolve.specs.Unions.{tag_said, wanted_of, expected_as}
use Rattle.planus_resolve.specs.Wrong.{Broken, broken, when, first, wrong_fit}

abbrev pub target_path : Member → Path
target_path m = target_or m.target
  where
    target_or : Option Path → Path
    target_or None = m.path
    target_or (Some p) = p

abbrev pub member_name : Member → Name
member_name m = dotted (words_of (path_of m.path))

-- a tag, `None` where it is not from 1 to 255, after these tags
abbrev pub wrong_tag : List ℕ → Member → Option ℕ → Option Broken
wrong_tag tags m None = broken fault.TagOutOfRange m.path.left
wrong_tag tags m (Some n) = when (list_any (λ t. nat_eq t n) tags) fault.TagTaken m.path.left

-- a name that is not that of a member's type
abbrev pub wrong_target : List HeadV → UsedAs → SpaceV → Path → Option Broken
wrong_target hs w space p = wrong_fit fault.NoUnionMember (expected_as w) hs w space p

-- a member after the tag `previous`, and after these tags
abbrev pub wrong_member : List HeadV → SpaceV → Option ℕ → List ℕ → Member → Option Broken
wrong_member hs space previous tags m =
    first (wrong_tag tags m (tag_said previous (digits_of m.value)))
    (wrong_target hs (wanted_of (member_of m)) space (target_path m))

-- the members after the tag `previous`, after these tags and these names
abbrev pub wrong_members : List HeadV → SpaceV → Option ℕ → List ℕ → List Name → List Member
    → Option Broken
wrong_members hs space previous tags names [] = None
wrong_members hs space previous tags names (m ∷ ms) =
    let tag = tag_said previous (digits_of m.value) in
    first (wrong_member hs space previous tags m)
    (first (when (is_in names (member_name m)) fault.MemberNameTaken m.path.left)
    (wrong_members hs space tag (tags ++ listed tag) (names ++ member_name m ∷ []) ms))

abbrev pub wrong_flags : Option Attribute → Option Broken
wrong_flags None = None
wrong_flags (Some a) = broken fault.FlagsInUnion a.label.left

abbrev pub wrong_union : List HeadV → SpaceV → UnionBody → Option Broken
wrong_union hs space u =
    first (wrong_flags (attribute_named (codes "bit_flags") u.attributes.items))
    (wrong_members hs space (Some 0) [] (codes "NONE" ∷ []) u.members.items)
