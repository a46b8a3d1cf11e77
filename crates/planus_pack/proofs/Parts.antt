-- Items and members as lists.
use Rattle.std.proofs.Common.{◌≡◌, List, [], ◌∷◌, map, refl, ap, ◌∙◌, rules, Vec, Global, Some}
use Rattle.planus_json_syntax.specs.declared.json.Json.{Json}
use Rattle.planus_json_syntax.specs.declared.json.Json as json
use Rattle.planus_json_syntax.specs.declared.member.Member.{Member}
use Rattle.planus_json_syntax.specs.declared.value.Value.{List as List', Object as Object', the_lemmas}
use Rattle.planus_json_syntax.specs.Values as values
use Rattle.planus_json_syntax.specs.Values.{JsonV, MemberV, list, object, json_view, member_view, value_view}
use Rattle.planus_pack.specs.Parts.{items_in, members_in, items_of, members_of}

items_back : (js : List JsonV) → items_in (values.items_of js) ≡ js
items_back [] = refl
items_back (j ∷ js) = rw (items_back js) refl

members_back : (ms : List MemberV) → members_in (values.members_of ms) ≡ ms
members_back [] = refl
members_back (m ∷ ms) = rw (members_back ms) refl

pub list_items : (v : Vec Json Global) → items_of (value_view (List' v)) ≡ Some (map json_view v.items)
list_items v =
    let seen : value_view (List' v) ≡ list (values.items_of (map json_view v.items)) = search (rules, the_lemmas) in
    ap items_of seen ∙ ap Some (items_back (map json_view v.items))

pub object_members : (v : Vec Member Global) → members_of (value_view (Object' v)) ≡ Some (map member_view v.items)
object_members v =
    let seen : value_view (Object' v) ≡ object (values.members_of (map member_view v.items)) = search (rules, the_lemmas) in
    ap members_of seen ∙ ap Some (members_back (map member_view v.items))

-- the place of a value is kept
pub at_view : (j : Json) → (json_view j).at ≡ j.at
at_view j = search (rules, json.the_lemmas)
