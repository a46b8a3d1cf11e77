-- One more member.
use Rattle.std.proofs.Common.{◌≡◌, ℕ, true, false, List, [], ◌∷◌, ◌++◌, map, refl, sym, ap, subst, ◌∙◌, append_assoc}
use Rattle.std.specs.Prelude.{nat_eq}
use Rattle.std.specs.List.{list_all, list_any, IsDistinct}
use Rattle.std.proofs.lemmas.List.Folds.{list_all-append}
use Rattle.std.specs.Prelude.{Option, Some, None}
use Rattle.planus_syntax.specs.Values.{Name, MemberV, digits_of, member_of}
use Rattle.planus_syntax.specs.declared.value.Member.{Member}
use Rattle.planus_resolve.specs.declared.fault.FaultKind.TheVariants as fault
use Rattle.planus_resolve.specs.declared.fault.DeclarationError.{DeclarationError}
use Rattle.planus_resolve.specs.declared.fault.DeclarationError.TheVariants as declaration_error
use Rattle.std.specs.Option.{option_map}
use Rattle.std.proofs.lemmas.List.{append-nil}
use Rattle.planus_resolve.specs.Names.{HeadV, SpaceV, listed, also_said}
use Rattle.planus_resolve.specs.Wrong.{Broken, broken, when, first, Stops}
use Rattle.planus_resolve.specs.WrongUnions.{member_name, target_path, wrong_tag, wrong_target, wrong_member, wrong_members}
use Rattle.planus_resolve.proofs.FaultLemmas.{skip, passes, stops_first, stops_next, stops_now}
use Rattle.planus_schema.specs.declared.schema.UnionMember.{UnionMember}
use Rattle.planus_schema.specs.Distinct.{AreDistinct, is_in}
use Rattle.planus_resolve.specs.Unions.{tag_in, is_tag, tag_said, tags_said, wanted_of}
use Rattle.planus_schema.proofs.Lists.{distinct_push, distinct_none, list_any-map}

tags_moved : (front : List ℕ) (tag : ℕ) (o : Option (List ℕ)) → option_map (λ ns. (front ++ tag ∷ []) ++ ns) o ≡ option_map (λ ns. front ++ ns) (also_said (Some tag) o)
tags_moved front tag None = refl
tags_moved front tag (Some ns) = ap Some (append_assoc front (tag ∷ []) ns)

pub tags_next : (front : List ℕ) (tag : ℕ) (previous : Option ℕ) (d : MemberV) (rest ds : List MemberV) (all : Option (List ℕ)) → rest ≡ d ∷ ds → tag_said previous d.value ≡ Some tag → option_map (λ ns. front ++ ns) (tags_said previous rest) ≡ all → option_map (λ ns. (front ++ tag ∷ []) ++ ns) (tags_said (Some tag) ds) ≡ all
tags_next front tag previous d rest ds all r t h =
    tags_moved front tag (tags_said (Some tag) ds)
    ∙ ap (λ o. option_map (λ ns. front ++ ns) (also_said o (tags_said o ds))) (sym t)
    ∙ ap (λ ms. option_map (λ ns. front ++ ns) (tags_said previous ms)) (sym r) ∙ h

pub tags_end : (front : List ℕ) (all : Option (List ℕ)) → option_map (λ ns. front ++ ns) (Some []) ≡ all → all ≡ Some front
tags_end front all e = sym e ∙ ap Some (append-nil front)

pub tags_within : (ts : List ℕ) (t : ℕ) → list_all is_tag ts ≡ true → is_tag t ≡ true → list_all is_tag (ts ++ t ∷ []) ≡ true
tags_within ts t h e = list_all-append is_tag ts (t ∷ []) ∙ rw (h, e) refl

pub tags_apart : (ms : List UnionMember) (t : ℕ) → list_any (λ m. nat_eq m.tag t) ms ≡ false → IsDistinct nat_eq (map tag_in ms) → IsDistinct nat_eq (map tag_in ms ++ t ∷ [])
tags_apart ms t h d = distinct_push nat_eq (map tag_in ms) t (list_any-map (λ n. nat_eq n t) tag_in ms ∙ h) d

pub no_tags : (ms : List UnionMember) → ms ≡ [] → IsDistinct nat_eq (map tag_in ms)
no_tags ms e = rw e (distinct_none nat_eq)

pub one_name : (names : List (List ℕ)) (name : List ℕ) → names ≡ name ∷ [] → AreDistinct names
unfolding IsDistinct
one_name names name e = rw e (tt, tt)

pub tags_any : (ms : List UnionMember) (t : ℕ) → list_any (λ x. nat_eq x t) (map tag_in ms) ≡ list_any (λ m. nat_eq m.tag t) ms
tags_any ms t = list_any-map (λ x. nat_eq x t) tag_in ms

pub member_stops : (hs : List HeadV) (space : SpaceV) (previous : Option ℕ) (tags : List ℕ) (names : List Name) (ms : List Member) (d : Member) (ds : List Member) (all : Option Broken) (s : DeclarationError) → ms ≡ d ∷ ds → wrong_members hs space previous tags names ms ≡ all → Stops (wrong_member hs space previous tags d) s → Stops all s
member_stops hs space previous tags names ms d ds all s here same h =
    subst (λ o. Stops o s) (ap (wrong_members hs space previous tags names) (sym here) ∙ same) (stops_first _ _ s h)

pub member_name_stops : (hs : List HeadV) (space : SpaceV) (previous : Option ℕ) (tags : List ℕ) (names : List Name) (ms : List Member) (d : Member) (ds : List Member) (all : Option Broken) → ms ≡ d ∷ ds → wrong_members hs space previous tags names ms ≡ all → wrong_member hs space previous tags d ≡ None → is_in names (member_name d) ≡ true → Stops all (declaration_error.Wrong fault.MemberNameTaken d.path.left)
member_name_stops hs space previous tags names ms d ds all here same member used =
    subst (λ o. Stops o (declaration_error.Wrong fault.MemberNameTaken d.path.left)) (ap (wrong_members hs space previous tags names) (sym here) ∙ same)
    (stops_next _ _ (declaration_error.Wrong fault.MemberNameTaken d.path.left) member (stops_now _ fault.MemberNameTaken d.path.left _ used))

pub members_next : (hs : List HeadV) (space : SpaceV) (previous : Option ℕ) (tags : List ℕ) (names : List Name) (ms : List Member) (d : Member) (ds : List Member) (all : Option Broken) (tag : ℕ) (tags' : List ℕ) (names' : List Name) → ms ≡ d ∷ ds → wrong_members hs space previous tags names ms ≡ all → wrong_member hs space previous tags d ≡ None → is_in names (member_name d) ≡ false → tag_said previous (digits_of d.value) ≡ Some tag → tags' ≡ tags ++ tag ∷ [] → names' ≡ names ++ member_name d ∷ [] → wrong_members hs space (Some tag) tags' names' ds ≡ all
members_next hs space previous tags names ms d ds all tag tags' names' here same member new is tagged named =
    ap (λ ts. wrong_members hs space (Some tag) ts names' ds) (tagged ∙ ap (λ o. tags ++ listed o) (sym is))
    ∙ ap (λ ns. wrong_members hs space (Some tag) (tags ++ listed (tag_said previous (digits_of d.value))) ns ds) named
    ∙ ap (λ o. wrong_members hs space o (tags ++ listed (tag_said previous (digits_of d.value))) (names ++ member_name d ∷ []) ds) (sym is)
    ∙ (sym (skip (when (is_in names (member_name d)) fault.MemberNameTaken d.path.left) _ (passes _ fault.MemberNameTaken d.path.left new))
    ∙ sym (skip (wrong_member hs space previous tags d) _ member)
    ∙ ap (wrong_members hs space previous tags names) (sym here) ∙ same)

pub tag_missing : (hs : List HeadV) (space : SpaceV) (previous : Option ℕ) (tags : List ℕ) (m : Member) → tag_said previous (digits_of m.value) ≡ None → wrong_member hs space previous tags m ≡ broken fault.TagOutOfRange m.path.left
tag_missing hs space previous tags m e = ap (λ o. first (wrong_tag tags m o) (wrong_target hs (wanted_of (member_of m)) space (target_path m))) e

pub tag_used : (hs : List HeadV) (space : SpaceV) (previous : Option ℕ) (tags : List ℕ) (m : Member) (n : ℕ) → tag_said previous (digits_of m.value) ≡ Some n → list_any (λ t. nat_eq t n) tags ≡ true → wrong_member hs space previous tags m ≡ broken fault.TagTaken m.path.left
tag_used hs space previous tags m n e h =
    ap (λ o. first (wrong_tag tags m o) (wrong_target hs (wanted_of (member_of m)) space (target_path m))) e
    ∙ ap (λ b. first (when b fault.TagTaken m.path.left) (wrong_target hs (wanted_of (member_of m)) space (target_path m))) h

pub tag_free : (hs : List HeadV) (space : SpaceV) (previous : Option ℕ) (tags : List ℕ) (m : Member) (n : ℕ) → tag_said previous (digits_of m.value) ≡ Some n → list_any (λ t. nat_eq t n) tags ≡ false → wrong_member hs space previous tags m ≡ wrong_target hs (wanted_of (member_of m)) space (target_path m)
tag_free hs space previous tags m n e h =
    ap (λ o. first (wrong_tag tags m o) (wrong_target hs (wanted_of (member_of m)) space (target_path m))) e
    ∙ ap (λ b. first (when b fault.TagTaken m.path.left) (wrong_target hs (wanted_of (member_of m)) space (target_path m))) h
