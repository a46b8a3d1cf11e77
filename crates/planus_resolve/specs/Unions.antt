-- Unions.
use Rattle.std.specs.Prelude.{◌≡◌, ℕ, ◌+◌, Bool, true, false, ◌&&◌, nat_le, nat_eq, List, [], ◌∷◌}
use Rattle.std.specs.Prelude.{map, Option, Some, None, codes, if◌then◌else◌}
use Rattle.std.specs.List.{IsDistinct, list_all}
use Rattle.std.specs.Option.{option_map}
use Rattle.planus_syntax.specs.Values.{PathV, MemberV, UnionV, names_of}
use Rattle.planus_schema.specs.declared.schema.Union.{Union}
use Rattle.planus_schema.specs.declared.schema.UnionMember.{UnionMember}
use Rattle.planus_schema.specs.Numbers.{integer_said}
use Rattle.planus_resolve.specs.Names.{UsedAs}
use Rattle.planus_resolve.specs.Names.{as_type, as_record, as_root}
use Rattle.planus_resolve.specs.Fitting.{fits}
use Rattle.planus_resolve.specs.declared.expected.Expected.{Expected}
use Rattle.planus_resolve.specs.declared.expected.Expected.TheVariants as expected
use Rattle.planus_resolve.specs.Structs.{natural_of}
use Rattle.planus_resolve.specs.Names.{HeadV, SpaceV, words_of, dotted, base_as, has, also_said}
use Rattle.planus_schema.specs.Distinct.{AreDistinct, Each2}

abbrev pub is_tag : ℕ → Bool
is_tag n = nat_le 1 n && nat_le n 255

abbrev pub in_tags : Option ℕ → Option ℕ
in_tags None = None
in_tags (Some n) = if is_tag n then Some n else None

-- the given number, or one more than that before, if it is from 1 to 255; `NONE` is 0
abbrev pub tag_said : Option ℕ → Option (List ℕ) → Option ℕ
tag_said previous None = in_tags (option_map (λ n. n + 1) previous)
tag_said previous (Some digits) = in_tags (natural_of (integer_said digits))

-- the tags of these members, after the tag `previous`; `None` where one has none
abbrev pub tags_said : Option ℕ → List MemberV → Option (List ℕ)
tags_said previous [] = Some []
tags_said previous (m ∷ ms) =
    also_said (tag_said previous m.value) (tags_said (tag_said previous m.value) ms)

-- the name after a member's alias, or its own
abbrev pub target_of : MemberV → PathV
target_of m = target_or m.target
  where
    target_or : Option PathV → PathV
    target_or None = m.path
    target_or (Some p) = p

-- enums and unions count only for a name after an alias
abbrev pub wanted_of : MemberV → UsedAs
wanted_of m = wanted_for m.target
  where
    wanted_for : Option PathV → UsedAs
    wanted_for None = as_record
    wanted_for (Some p) = as_type

-- a table or a struct, and after an alias also a string
abbrev pub expected_as : UsedAs → Expected
expected_as as_type = expected.Member
expected_as as_record = expected.Record
expected_as as_root = expected.Record

pub record SaysMember (hs : List HeadV) (space : SpaceV) (d : MemberV) (m : UnionMember)
    : Type 0 where
  pub name : m.name.items ≡ dotted (words_of d.path)
  pub docs : names_of m.docs.items ≡ d.docs
  pub base : base_as hs (wanted_of d) space (target_of d) ≡ Some m.base
  pub fits : fits (expected_as (wanted_of d)) m.base ≡ true

abbrev pub tag_in : UnionMember → ℕ
tag_in m = m.tag

-- unique tags from 1 to 255, and unique names other than `NONE`
pub record IsUnion (u : Union) : Type 0 where
  pub tags : list_all is_tag (map tag_in u.members.items) ≡ true
  pub distinct : IsDistinct nat_eq (map tag_in u.members.items)
  pub names : AreDistinct (codes "NONE" ∷ map (λ m. m.name.items) u.members.items)

-- `bit_flags` is for enums: flatc would number such members by flags
pub record SaysUnion (hs : List HeadV) (space : SpaceV) (d : UnionV) (u : Union) : Type 0 where
  pub plain : has (codes "bit_flags") d.attributes ≡ false
  pub members : Each2 (SaysMember hs space) d.members u.members.items
  pub tags : tags_said (Some 0) d.members ≡ Some (map tag_in u.members.items)
