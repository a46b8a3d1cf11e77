use Rattle.std.proofs.Common.{refl}
use Rattle.planus.specs.Accessors.{plains_kind, texts_kind, tables_kind}
use Rattle.planus_foreign.proofs.laws.vectors_lie_inside.Goals as goal
use Rattle.planus_foreign.proofs.Inside.{vectors}

pub returns : goal.returns
returns g c = record { values = vectors plains_kind refl; strings = vectors texts_kind refl; tables = vectors (tables_kind _) refl }
