use Rattle.std.proofs.Common.{◌<◌, ℕ, List, length, take, refl, subst, sym, ap, ◌∙◌}
use Rattle.std.specs.String.{string_bytes}
use Rattle.std.proofs.lemmas.Option.{slice_get_read}
use Rattle.planus_cli.specs.Json.{place_json}
use Rattle.planus_cli.specs.SchemaTexts.{HasTokens, IsPlaceAt}
use Rattle.planus_cli.proofs.LoadedFiles.{if_ok}
use Rattle.planus_cli.proofs.told.spot_json.Goals as goal

pub place_of-requires : goal.place_of-requires
place_of-requires c =
    subst HasTokens (sym c.deref.ensures.value) (subst (λ f. HasTokens f.text.items) (sym c.index-files-spot.is)
    (c.requires.tokens c.args.spot.file c.index-files-spot.result c.requires.within))

pub returns : goal.returns
returns c =
    let i = c.args.spot.file in
    let file = c.index-files-spot.result in
    let within : i < length c.args.files.now = c.requires.within in
    let at = c.in_ok-at.at in
    if_ok c.place_json.result (λ json is. record {
      file = file;
      here = slice_get_read c.args.files.now (length c.args.files.now) i file refl within c.index-files-spot.is;
      at = at;
      place = subst (λ (text : List ℕ). IsPlaceAt text c.args.spot.left at) c.deref.ensures.value
          c.in_ok-at.ensures.place;
      is = is ∙ ap (λ (name : List ℕ). place_json name (take at c.deref-2.result.now)) c.as_str.ensures.value
          ∙ ap (λ (text : List ℕ). place_json (string_bytes file.name) (take at text)) c.deref-2.ensures.value;
    })
    c.place_json.ensures
