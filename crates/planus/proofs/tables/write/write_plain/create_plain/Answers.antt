use Rattle.std.proofs.Common.{rules}
use Rattle.planus.proofs.KeptStructs.{keeps, stands, stands_in, grows, sized_layout}
use Rattle.planus.proofs.tables.write.write_plain.create_plain.Goals as goal

pub returns-clause-kept : goal.returns-clause-kept
returns-clause-kept g c =
    keeps (record { bytes = (g.T.Plain.shape).encoded c.args.value.now; alignment = g.T.Plain.ALIGNMENT })
    (sized_layout (g.T.Plain.shape) c.args.value.now)
    c.args.builder.now c.prepare.new.builder c.prepare.result c.prepare.ensures

pub returns-clause-stands : goal.returns-clause-stands
returns-clause-stands g c =
    stands (record { bytes = (g.T.Plain.shape).encoded c.args.value.now; alignment = g.T.Plain.ALIGNMENT })
    (sized_layout (g.T.Plain.shape) c.args.value.now)
    c.args.builder.now c.prepare.new.builder c.has_a_history.ensures.0 c.has_a_history.ensures.1
    c.prepare.result c.prepare.ensures

pub returns-clause-grows : goal.returns-clause-grows
returns-clause-grows g c =
    grows (record { bytes = (g.T.Plain.shape).encoded c.args.value.now; alignment = g.T.Plain.ALIGNMENT })
    (sized_layout (g.T.Plain.shape) c.args.value.now)
    c.args.builder.now c.prepare.new.builder c.prepare.result c.prepare.ensures

pub returns-clause-reached : goal.returns-clause-reached
returns-clause-reached g c = search rules

pub returns-clause-in_builder : goal.returns-clause-in_builder
returns-clause-in_builder g c =
    stands_in (record { bytes = (g.T.Plain.shape).encoded c.args.value.now; alignment = g.T.Plain.ALIGNMENT })
    (sized_layout (g.T.Plain.shape) c.args.value.now)
    c.args.builder.now c.prepare.new.builder c.prepare.result (returns-clause-stands g c)
    (returns-clause-reached g c)
