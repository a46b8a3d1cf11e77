use Rattle.std.proofs.Common.{◌≡◌, ◌∙◌, sym, ap, subst, nat_eq, None, Some}
use Rattle.std.specs.Map.{lookup}
use Rattle.std.specs.HashMap.{ContainsKey, get_key}
use Rattle.std.specs.HashMap.Entry.{MatchEntry, entry_key, entry_map_ref}
use Rattle.std.proofs.lemmas.Map.Steps.{set_value_same}
use Rattle.planus_back.proofs.Buckets.{adds_first, adds_behind, if_some, both_ok, on_err}
use Rattle.planus_back.proofs.cache.add.Goals as goal

pub returns-in-Ok-Vacant-clause-ok : goal.returns-in-Ok-Vacant-clause-ok
returns-in-Ok-Vacant-clause-ok c =
    let here = sym c.in-Ok-Vacant.ensures.same_map ∙ ap (λ entry. (entry_map_ref entry).ghost_name) c.in-Ok-Vacant.field-0-is in
    let after = c.last-in-Ok-Vacant-2-1.given.1 here in
    let none : lookup (nat_eq c.args.hash) c.args.last.now.entries ≡ None = subst (λ entry. MatchEntry entry (ContainsKey nat_eq c.args.last.now c.args.hash × (get_key nat_eq c.args.last.now c.args.hash ≡ Some (entry_key entry))) (lookup (nat_eq c.args.hash) c.args.last.now.entries ≡ None)) c.in-Ok-Vacant.field-0-is c.in-Ok-Vacant.ensures.found in
    rw (after, ← c.in-Ok-Vacant.field-0-is)
    (adds_first c.args.hash c.args.distance c.args.last.now.entries _ (λ q. rw (← c.insert.ensures.value) ((c.in-Ok-Vacant.ensures.update.0 c.insert.result.now).0 q)) _ none)

pub returns-in-Ok-Occupied-clause-ok : goal.returns-in-Ok-Occupied-clause-ok
returns-in-Ok-Occupied-clause-ok c =
    let here = sym c.in-Ok-Occupied.ensures.same_map ∙ ap (λ entry. (entry_map_ref entry).ghost_name) c.in-Ok-Occupied.field-0-is in
    let after = c.last-1.given.1 here in
    let some : lookup (nat_eq c.args.hash) c.args.last.now.entries ≡ Some c.get_mut.result.now
    = (let value = c.in-Ok-Occupied.ensures.value in let is = c.in-Ok-Occupied.field-0-is in let got = c.get_mut.ensures.value in cc) in
    rw (after, ← c.in-Ok-Occupied.field-0-is)
    (both_ok c.replace_last.result (λ replaced adds. adds_behind c.args.hash c.args.distance c.args.last.now.entries _ (λ q. rw (← replaced) ((c.in-Ok-Occupied.ensures.update.0 c.replace_last.new.last).0 q)) _ _ c.get_mut.result.now some adds) c.replace_last.ensures.replaced c.replace_last.ensures.ok)

pub returns-in-Ok-Occupied-clause-last : goal.returns-in-Ok-Occupied-clause-last
returns-in-Ok-Occupied-clause-last c =
    let here = sym c.in-Ok-Occupied.ensures.same_map ∙ ap (λ entry. (entry_map_ref entry).ghost_name) c.in-Ok-Occupied.field-0-is in
    let after = c.last-1.given.1 here in
    let some : lookup (nat_eq c.args.hash) c.args.last.now.entries ≡ Some c.get_mut.result.now
    = (let value = c.in-Ok-Occupied.ensures.value in let is = c.in-Ok-Occupied.field-0-is in let got = c.get_mut.ensures.value in cc) in
    rw (after, ← c.in-Ok-Occupied.field-0-is)
    (on_err c.replace_last.result (λ same. rw same (if_some _ c.get_mut.result.now _ _ some (c.in-Ok-Occupied.ensures.update.1 c.get_mut.result.now) ∙ set_value_same (nat_eq c.args.hash) c.args.last.now.entries c.get_mut.result.now some)) c.replace_last.ensures.last)
