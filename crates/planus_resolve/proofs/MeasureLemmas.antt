-- Sizes of declarations.
use Rattle.std.proofs.Common.{◌≡◌, ℕ, List, map, refl, sym, ap, ◌∙◌}
use Rattle.std.specs.Prelude.{Option, Some, None, slice_get}
use Rattle.std.specs.Option.{option_map}
use Rattle.std.proofs.lemmas.Option.{slice_get-map}
use Rattle.planus_schema.specs.declared.schema.Base.{Base}
use Rattle.planus_schema.specs.declared.schema.Base.TheVariants as base
use Rattle.planus_schema.specs.declared.schema.Declared.{Declared}
use Rattle.planus_schema.specs.Layouts.{measure_in, measure_of_body, body_in}
use Rattle.planus_resolve.specs.WrongStructs.{measured, measures_of, measure_among}

of_one : (o : Option Declared) → measure_of_body (option_map body_in o) ≡ measured (option_map (λ d. measure_of_body (Some d.body)) o)
of_one None = refl
of_one (Some d) = refl

at_index : (ds : List Declared) (i : ℕ) → measure_of_body (slice_get (map body_in ds) i) ≡ measured (slice_get (measures_of ds) i)
at_index ds i =
    ap measure_of_body (slice_get-map body_in ds i) ∙ of_one (slice_get ds i)
    ∙ ap measured (sym (slice_get-map (λ (d : Declared). measure_of_body (Some d.body)) ds i))

pub among : (ds : List Declared) (b : Base) → measure_in (map body_in ds) b ≡ measure_among (measures_of ds) b
among ds (base.Scalar s) = refl
among ds base.Text = refl
among ds (base.Enum i) = at_index ds i
among ds (base.Struct i) = at_index ds i
among ds (base.Table i) = refl
among ds (base.Union i) = refl
