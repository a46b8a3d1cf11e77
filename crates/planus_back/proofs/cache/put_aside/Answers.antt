use Rattle.std.proofs.Common.{◌≡◌, ◌∙◌, sym, ap, subst, nat_eq, None, Some, arith}
use Rattle.std.specs.Map.{lookup}
use Rattle.std.specs.HashMap.{ContainsKey, get_key}
use Rattle.std.specs.HashMap.Entry.{MatchEntry, entry_key, entry_map_ref}
use Rattle.planus_back.proofs.Buckets.{items_of, adds_aside, listed_same, if_some, on_refusal}
use Rattle.planus_back.proofs.cache.put_aside.Goals as goal

pub returns-in_ok-push-in-Ok-Vacant-clause-ok : goal.returns-in_ok-push-in-Ok-Vacant-clause-ok
returns-in_ok-push-in-Ok-Vacant-clause-ok c =
    let here = sym c.in-Ok-Vacant.ensures.same_map ∙ ap (λ entry. (entry_map_ref entry).ghost_name) c.in-Ok-Vacant.field-0-is in
    let after = c.earlier-in-Ok-Vacant-2-1.given.1 here in
    let none : lookup (nat_eq c.args.hash) c.args.earlier.now.entries ≡ None = subst (λ entry. MatchEntry entry (ContainsKey nat_eq c.args.earlier.now c.args.hash × (get_key nat_eq c.args.earlier.now c.args.hash ≡ Some (entry_key entry))) (lookup (nat_eq c.args.hash) c.args.earlier.now.entries ≡ None)) c.in-Ok-Vacant.field-0-is c.in-Ok-Vacant.ensures.found in
    rw (after, ← c.in-Ok-Vacant.field-0-is)
    (adds_aside c.args.hash c.args.distance c.args.earlier.now.entries _ None c.insert.result.now (λ q. (c.in-Ok-Vacant.ensures.update.0 c.insert.result.now).0 q) none (ap items_of c.insert.ensures.value ∙ grind (arith, c.push-in-Ok-Vacant.ensures.items)))

pub returns-in_ok-push-in-Ok-Occupied-clause-ok : goal.returns-in_ok-push-in-Ok-Occupied-clause-ok
returns-in_ok-push-in-Ok-Occupied-clause-ok c =
    let here = sym c.in-Ok-Occupied.ensures.same_map ∙ ap (λ entry. (entry_map_ref entry).ghost_name) c.in-Ok-Occupied.field-0-is in
    let after = c.earlier-1.given.1 here in
    let some : lookup (nat_eq c.args.hash) c.args.earlier.now.entries ≡ Some c.get_mut.result.now
    = (let value = c.in-Ok-Occupied.ensures.value in let is = c.in-Ok-Occupied.field-0-is in let got = c.get_mut.ensures.value in cc) in
    rw (after, ← c.in-Ok-Occupied.field-0-is)
    (adds_aside c.args.hash c.args.distance c.args.earlier.now.entries _ (Some c.get_mut.result.now) c.push.new.self (λ q. (c.in-Ok-Occupied.ensures.update.0 c.push.new.self).0 q) some (grind (arith, c.push.ensures.items)))

pub returns-in_err-push-in-Ok-Occupied-clause-err : goal.returns-in_err-push-in-Ok-Occupied-clause-err
returns-in_err-push-in-Ok-Occupied-clause-err c =
    let here = sym c.in-Ok-Occupied.ensures.same_map ∙ ap (λ entry. (entry_map_ref entry).ghost_name) c.in-Ok-Occupied.field-0-is in
    let after = c.earlier-1.given.1 here in
    let some : lookup (nat_eq c.args.hash) c.args.earlier.now.entries ≡ Some c.get_mut.result.now
    = (let value = c.in-Ok-Occupied.ensures.value in let is = c.in-Ok-Occupied.field-0-is in let got = c.get_mut.ensures.value in cc) in
    rw (after, ← c.in-Ok-Occupied.field-0-is)
    (on_refusal _ (listed_same (nat_eq c.args.hash) c.args.earlier.now.entries _ c.get_mut.result.now c.push.new.self (if_some _ c.get_mut.result.now _ _ some (c.in-Ok-Occupied.ensures.update.1 c.push.new.self)) some (grind (arith, c.push.ensures.items))))
