use Rattle.std.proofs.Common.{◌≡◌, ℕ, take, List, [], ◌++◌, Option, Some, None, ap, ◌∙◌, subst}
use Rattle.std.specs.Prelude.{IfSome}
use Rattle.std.specs.Option.{option_map}
use Rattle.planus_cli.proofs.streams.read_all.Goals as goal

taken : (known rest : Option (List ℕ)) (limit : ℕ) (empty text : List ℕ)
    → rest ≡ known → limit ≡ 1073741825 → empty ≡ []
    → IfSome (option_map (take limit) rest) (λ bytes. text ≡ empty ++ bytes)
    → IfSome known (λ bytes. text ≡ take 1073741825 bytes)
taken None rest limit empty text k l e h = tt
taken (Some bytes) rest limit empty text k l e h =
    subst (λ r. IfSome (option_map (take limit) r) (λ xs. text ≡ empty ++ xs)) k h
    ∙ ap (λ xs. xs ++ take limit bytes) e ∙ ap (λ n. take n bytes) l

pub returns-in-Ok : goal.returns-in-Ok
returns-in-Ok g c =
    taken (g.R.Read.remaining c.args.reader.now) (g.R.Read.remaining c.take.result.inner.now)
    c.take.result.limit c.new-text.result.items c.read_to_end.new.buf.items
    (ap (λ r. g.R.Read.remaining r.now) c.take.ensures.inner)
    c.take.ensures.limit c.new-text.ensures.items c.in-Ok.ensures.bytes
