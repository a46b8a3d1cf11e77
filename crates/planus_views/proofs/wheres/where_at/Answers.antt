use Rattle.std.proofs.Common.{◌⊎◌, ◌<◌, subst}
use Rattle.std.specs.Option.{IfSome}
use Rattle.std.specs.Prelude.{IfNone}
use Rattle.std.specs.String.{string_bytes}
use Rattle.planus_verify.specs.Schemas.{shapes}
use Rattle.planus_verify.specs.Soughts.{ends_of}
use Rattle.planus_verify.specs.Trails.{IsTrail, NoTrail, root_tables}
use Rattle.planus_views.specs.Names.{names_of}
use Rattle.planus_views.specs.Wheres.{path_text}
use Rattle.planus_views.proofs.FoundPaths.{path_found, none_found}
use Rattle.planus_views.proofs.wheres.where_at.Goals as goal

pub returns-in_ok-text-in-Some : goal.returns-in_ok-text-in-Some
returns-in_ok-text-in-Some g c =
    path_found (shapes c.schema.result) g.K.VerifiedKind.schema c.index.result
    g.K.VerifiedKind.index c.args.limits.depth c.args.sought c.args.bytes.now c.schema.ensures
    c.index.ensures (names_of c.args.names.now) c.deref.result.now c.in-Some.places.items
    (path_text c.new.result) (string_bytes c.in_ok-text-in-Some.text)
    (subst
    (λ o. IfSome o (λ steps. IsTrail (shapes c.schema.result) c.index.result c.args.limits.depth
    (ends_of (shapes c.schema.result) c.args.sought) c.args.bytes.now steps.items)) c.in-Some.is
    c.in_ok-places.ensures.found)
    c.deref.ensures.value c.in_ok-text-in-Some.ensures c.new.ensures

pub returns-in-None : goal.returns-in-None
returns-in-None g c =
    none_found (shapes c.schema.result) g.K.VerifiedKind.schema c.index.result
    g.K.VerifiedKind.index c.args.limits.depth c.args.sought c.args.bytes.now c.schema.ensures
    c.index.ensures c.args.limits.tables
    (subst
    (λ o. IfNone o (NoTrail (shapes c.schema.result) c.index.result c.args.limits.depth
    (ends_of (shapes c.schema.result) c.args.sought) c.args.bytes.now
    ⊎ (c.args.limits.tables < root_tables (shapes c.schema.result) c.index.result
    c.args.limits.depth c.args.bytes.now))) c.in-None.is c.in_ok-places.ensures.none)
