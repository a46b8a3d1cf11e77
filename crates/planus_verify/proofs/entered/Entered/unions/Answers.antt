use Rattle.std.proofs.Common.{Ok}
use Rattle.planus_verify.specs.Passes.{entered_table, entered_depth, field_of, members_steps}
use Rattle.planus_verify.specs.Steps.{place_faults}
use Rattle.planus_verify.specs.Walks.{Walks}
use Rattle.planus_verify.specs.declared.schema.FieldKind.TheVariants as kind
use Rattle.planus_read.specs.Tables.{table_start}
use Rattle.planus_view.specs.UnionVectorView.{view_of as unions_of}
use Rattle.planus_verify.proofs.Fields.{place_of}
use Rattle.planus_verify.proofs.Passing.{unions_passed, some_pass}
use Rattle.planus_verify.proofs.Unions.{unions_there, vector_there}
use Rattle.planus_verify.proofs.entered.Entered.unions.Goals as goal

pub returns-in-Ok-Some : goal.returns-in-Ok-Some
returns-in-Ok-Some g c =
    let schema = g.U.UnionKind.schema in
    let u = g.U.UnionKind.union in
    let table = entered_table c.args.self.now in
    let W = Walks schema (entered_depth c.args.self.now) in
    let place = place_of g.K.VerifiedKind.index (table_start table)
    (field_of c.args.slot c.args.required (kind.Unions u)) in
    let items = unions_of c.in-Ok-Some.items in
    let slots = vector_there table c.args.slot c.in-Ok-Some.field-0 c.in-Ok-Some.items
    c.in-Ok-Some.field-0-is c.in-Ok-Some.ensures in
    unions_passed schema (entered_depth c.args.self.now) g.K.VerifiedKind.index u c.args.slot
    c.args.required table c.args.left c.unions_pass.result
    (λ rest is. unions_there W schema.variants place c.args.required u c.args.slot table
    c.args.left items (Ok rest) slots.0 slots.1
    (some_pass W (members_steps schema.variants (place_faults place) u items) c.args.left
    c.unions_pass.result rest (c.unions_pass.ensures (place_faults place)) is))
