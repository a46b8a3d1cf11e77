use Rattle.std.proofs.Common.{◌≡◌, ◌≤◌, ap, sym, subst, ◌∙◌, Some, None, slice_get, refl, length, [], ◌∷◌}
use Rattle.std.proofs.lemmas.Bool.{ltb-true, ltb-false}
use Rattle.std.proofs.lemmas.Option.{slice_get_past, slice_get_read}
use Rattle.planus_dump.specs.Events.{variant_of}
use Rattle.std.specs.Fmt.{decimal}
use Rattle.planus_json.specs.Json.{tokens, plain}
use Rattle.planus_json.specs.Trees.{type_of, type_tree}
use Rattle.planus_json.proofs.Printing.{printed_none}
use Rattle.planus_json.proofs.unions.print_type.Goals as goal

pub returns-in-None : goal.returns-in-None
returns-in-None c = λ ps same.
    let schema = c.args.schema.now in let index = c.args.index in let line = c.args.line.now in
    let none : slice_get schema.unions.items index ≡ None = slice_get_past schema.unions.items index
    (subst (λ xs. length xs ≤ index) c.deref.ensures.value (ltb-false index (length c.deref.result.now) (sym c.in-None.ensures.lookup.0))) in
    printed_none c.args.out.now ps (same ∙ ap (λ o. tokens line (type_tree o c.args.tag)) none)

pub returns-in-Some-variant_with : goal.returns-in-Some-variant_with
returns-in-Some-variant_with c = λ ps same.
    let schema = c.args.schema.now in let index = c.args.index in let line = c.args.line.now in let tag = c.args.tag in let variants = c.in-Some.variants.now in
    let some : slice_get schema.unions.items index ≡ Some variants = subst (λ xs. slice_get xs index ≡ Some variants) c.deref.ensures.value
    (slice_get_read c.deref.result.now (length c.deref.result.now) index variants refl (ltb-true index (length c.deref.result.now) (sym c.in-Some.ensures.lookup.0)) c.in-Some.ensures.lookup.1) in
    let is : variant_of variants.items tag ≡ Some c.in-Some-variant_with.variant.now = sym (c.in-Some-variant_with.ensures ∙ ap (λ xs. variant_of xs tag) c.as_slice.ensures.value) in
    c.print_named.ensures ps (same ∙ ap (λ o. tokens line (type_tree o tag)) some ∙ ap (λ v. tokens line (type_of tag v)) is)

pub returns-in-None-variant_with : goal.returns-in-None-variant_with
returns-in-None-variant_with c = λ ps same.
    let schema = c.args.schema.now in let index = c.args.index in let line = c.args.line.now in let tag = c.args.tag in let variants = c.in-Some.variants.now in
    let some : slice_get schema.unions.items index ≡ Some variants = subst (λ xs. slice_get xs index ≡ Some variants) c.deref.ensures.value
    (slice_get_read c.deref.result.now (length c.deref.result.now) index variants refl (ltb-true index (length c.deref.result.now) (sym c.in-Some.ensures.lookup.0)) c.in-Some.ensures.lookup.1) in
    let none : variant_of variants.items tag ≡ None = sym (c.in-None-variant_with.ensures ∙ ap (λ xs. variant_of xs tag) c.as_slice.ensures.value) in
    c.put_scalar.ensures ps (same ∙ ap (λ o. tokens line (type_tree o tag)) some ∙ ap (λ v. tokens line (type_of tag v)) none ∙ ap (λ n. plain (decimal n) ∷ []) (sym c.from.ensures))
