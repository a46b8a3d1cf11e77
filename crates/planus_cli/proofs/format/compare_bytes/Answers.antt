use Rattle.std.proofs.Common.{refl, subst, sym, ap, ◌∙◌, inl, inr}
use Rattle.std.specs.Str.{bytes_eq}
use Rattle.planus_cli.specs.SchemaTexts.{Formats, IsFormatted}
use Rattle.planus_cli.proofs.format.compare_bytes.Goals as goal

pub returns-in_ok-say-in-Text : goal.returns-in_ok-say-in-Text
returns-in_ok-say-in-Text g c =
    let is = subst (IsFormatted c.args.name.now c.after_order_mark.result.now) c.in-Text.is c.in_ok-report.ensures.formatted in
    let formats = subst (λ text. Formats text c.in-Text.out.items) c.after_order_mark.ensures is in
    let differs = sym (ap (λ bs. bytes_eq bs c.args.bytes.now) c.as_slice.ensures.value) ∙ sym c.eq.ensures ∙ c.if-eq.false in
    inr (refl, inl ((c.in-Text.out.items, formats, differs), c.in_ok-say-in-Text.ensures.said))
