use Rattle.planus_codegen.proofs.Printing.{printed_by}
use Rattle.planus_codegen.proofs.crate_file.print_crate.Goals as goal

pub returns : goal.returns
returns c = printed_by c.args.verified c.args.schema.now c.in_ok-context.context.declared.now
    c.in_ok-context.context.names c.naming.result c.in_ok-files.files.items c.deref-2.result.now
    c.in_ok-are_tied.field-0 c.in_ok-context.ensures.declared c.in_ok-context.ensures.names
    c.naming.ensures c.deref-2.ensures.value c.if-not-branch.false c.in_ok-are_tied.ensures
