-- Lists and objects in others.
use Rattle.std.proofs.Common.{◌≡◌, ℕ, zero, suc, ◌-◌, ◌<◌, List, map, false, refl, sym, ap, ◌∙◌, arith, rules, Result, Ok, Err, Vec, Global}
use Rattle.std.specs.Prelude.{◌==◌}
use Rattle.planus_json_syntax.specs.declared.fault_kind.FaultKind.TheVariants as fault
use Rattle.planus_json_syntax.specs.declared.json.Json.{Json}
use Rattle.planus_json_syntax.specs.declared.member.Member.{Member}
use Rattle.planus_json_syntax.specs.declared.value.Value.{List as List', Object as Object', the_lemmas}
use Rattle.planus_json_syntax.specs.Strings.{Fault}
use Rattle.planus_json_syntax.specs.Values.{JsonV, MemberV, list, object, items_of, members_of, json_view, member_view, value_view}
use Rattle.planus_json_syntax.specs.Reading.{nested_at, list_at, object_at, items_at, value_at, member_of}

pub no_bracket : (len depth left : ℕ) (rest : List ℕ) (m : ℕ) → (m == 91) ≡ false → (m == 123) ≡ false → nested_at len depth left rest m ≡ Err (fault.Value, left)
unfolding nested_at
no_bracket len zero left rest m e f = rw (e, f) refl
no_bracket len (suc depth) left rest m e f = rw (e, f) refl

pub deep_list : (len depth left : ℕ) (rest : List ℕ) (m : ℕ) → depth ≡ 0 → m ≡ 91 → nested_at len depth left rest m ≡ Err (fault.TooDeep, left)
unfolding nested_at
deep_list len depth left rest m e f = rw (e, f) refl

pub deep_object : (len depth left : ℕ) (rest : List ℕ) (m : ℕ) → depth ≡ 0 → m ≡ 123 → nested_at len depth left rest m ≡ Err (fault.TooDeep, left)
unfolding nested_at
deep_object len depth left rest m e f = rw (e, f) refl

pub list_in : (len depth left : ℕ) (rest : List ℕ) (m : ℕ) → m ≡ 91 → nested_at len (suc depth) left rest m ≡ list_at len (items_at (value_at len depth) 93 fault.Value fault.ListEnd) rest
unfolding nested_at
list_in len depth left rest m f = rw f refl

pub object_in : (len depth left : ℕ) (rest : List ℕ) (m : ℕ) → m ≡ 123 → nested_at len (suc depth) left rest m ≡ object_at len (items_at (member_of len (value_at len depth)) 125 fault.Key fault.ObjectEnd) rest
unfolding nested_at
object_in len depth left rest m f = rw f refl

module _ (len depth left : ℕ) (rest : List ℕ) (m : ℕ) (some : 0 < depth) where
  one_less : depth ≡ suc (depth - 1)
  one_less = omega arith

  abbrev listed : Result (List JsonV × List ℕ) Fault
  listed = items_at (value_at len (depth - 1)) 93 fault.Value fault.ListEnd rest

  abbrev kept : Result (List MemberV × List ℕ) Fault
  kept = items_at (member_of len (value_at len (depth - 1))) 125 fault.Key fault.ObjectEnd rest

  list_is : m ≡ 91 → nested_at len depth left rest m ≡ list_at len (λ bytes. items_at (value_at len (depth - 1)) 93 fault.Value fault.ListEnd bytes) rest
  list_is e = ap (λ d. nested_at len d left rest m) one_less ∙ list_in len (depth - 1) left rest m e

  object_is : m ≡ 123 → nested_at len depth left rest m ≡ object_at len (λ bytes. items_at (member_of len (value_at len (depth - 1))) 125 fault.Key fault.ObjectEnd bytes) rest
  object_is e = ap (λ d. nested_at len d left rest m) one_less ∙ object_in len (depth - 1) left rest m e

  pub no_list : m ≡ 91 → (e : Fault) → listed ≡ Err e → nested_at len depth left rest m ≡ Err e
  no_list is e h = list_is is ∙ rw h refl

  pub no_object : m ≡ 123 → (e : Fault) → kept ≡ Err e → nested_at len depth left rest m ≡ Err e
  no_object is e h = object_is is ∙ rw h refl

  pub list_read : m ≡ 91 → (v : Vec Json Global) (after : List ℕ) → listed ≡ Ok (map json_view v.items, after)
      → nested_at len depth left rest m ≡ Ok (value_view (List' v), after)
  list_read is v after h =
      let seen : value_view (List' v) ≡ list (items_of (map json_view v.items)) = search (rules, the_lemmas) in
      list_is is ∙ rw h refl ∙ ap (λ x. Ok (x, after)) (sym seen)

  pub object_read : m ≡ 123 → (v : Vec Member Global) (after : List ℕ) → kept ≡ Ok (map member_view v.items, after)
      → nested_at len depth left rest m ≡ Ok (value_view (Object' v), after)
  object_read is v after h =
      let seen : value_view (Object' v) ≡ object (members_of (map member_view v.items)) = search (rules, the_lemmas) in
      object_is is ∙ rw h refl ∙ ap (λ x. Ok (x, after)) (sym seen)
