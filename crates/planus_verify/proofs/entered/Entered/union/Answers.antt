use Rattle.std.proofs.Common.{Ok}
use Rattle.planus_verify.specs.Passes.{entered_table, entered_depth}
use Rattle.planus_verify.specs.Walks.{Walks}
use Rattle.planus_verify.specs.declared.fault.Fault.TheVariants as fault
use Rattle.planus_verify.specs.declared.schema.FieldKind.TheVariants as kind
use Rattle.planus_verify.specs.Passes.{field_of}
use Rattle.planus_read.specs.Tables.{table_start}
use Rattle.planus_verify.proofs.Fields.{place_of}
use Rattle.planus_verify.proofs.Passing.{union_passed, some_pass, member_at}
use Rattle.planus_verify.proofs.Unions.{union_there, tagged_there}
use Rattle.planus_verify.proofs.entered.Entered.union.Goals as goal

pub returns-in-Ok-Some : goal.returns-in-Ok-Some
returns-in-Ok-Some g c =
    let schema = g.U.UnionKind.schema in
    let u = g.U.UnionKind.union in
    let table = entered_table c.args.self.now in
    let W = Walks schema (entered_depth c.args.self.now) in
    let place = place_of g.K.VerifiedKind.index (table_start table)
    (field_of c.args.slot c.args.required (kind.Union u)) in
    let there = tagged_there table c.args.slot c.in-Ok-Some.field-0 c.in-Ok-Some.tagged
    c.in-Ok-Some.field-0-is c.in-Ok-Some.ensures in
    union_passed schema (entered_depth c.args.self.now) g.K.VerifiedKind.index u c.args.slot
    c.args.required table c.args.left c.pass_member.result
    (λ rest is. union_there W schema.variants place c.args.required u c.args.slot table c.args.left
    there.0 _ _ _ _ (Ok rest) there.1 there.2.tag_is there.2.place_is.bytes
    there.2.place_is.begin there.2.place_is.offset
    (some_pass W _ c.args.left c.pass_member.result rest
    (member_at W (fault.Field place) schema.variants u c.tag.result _ c.place.result _ c.args.left
    c.pass_member.result c.tag.ensures c.place.ensures (c.pass_member.ensures (fault.Field place)))
    is))
