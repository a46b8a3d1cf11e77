use Rattle.std.proofs.Common.{[], ◌++◌, refl, sym, subst, ap, ◌∙◌, Ok, Err, inl}
use Rattle.std.proofs.lemmas.List.{append-nil}
use Rattle.std.proofs.lemmas.Result.{err_from_is_err_and}
use Rattle.planus_write.specs.lemmas.Laws.{grows_on}
use Rattle.planus.specs.Preparing.{WritesFields}
use Rattle.planus.specs.Preparing.{FieldsInTurn, take_turns}
use Rattle.planus.specs.TableFields.{all_of}
use Rattle.planus.proofs.FieldSteps.{if_ok, taken_then, fails_then, before_then, all_append, more_kept}
use Rattle.planus.proofs.tables.line.group.GroupFields.write.Goals as goal

pub returns-clause-written : goal.returns-clause-written
returns-clause-written g c =
    let lines = g.G.FieldGroup.lines_of c.args.self.now.value in
    let done = subst (λ lines. g.G.Lines.PrepareFields.outcome lines c.args.builder.now
    (Ok c.in_ok-prepared.prepared) c.prepare.new.builder) c.lines-lines.ensures
    c.in_ok-prepared.ensures in
    λ ts ls same same_last.
    let turns = g.G.Lines.PrepareFields.turns lines in
    let taken = g.met.G.Lines.PrepareFields.take_turns.prepared lines c.args.builder.now
    c.in_ok-prepared.prepared c.prepare.new.builder done in
    let others = λ (more : FieldsInTurn). g.R.Rest.in_turn c.args.others.now more ls in
    before_then (others (ts ++ taken.0)) (take_turns turns others ts) WritesFields
    c.prepare.new.builder c.args.builder.now
    (taken_then turns others ts c.args.builder.now c.prepare.new.builder taken.0 taken.1)
    c.write.result c.write.new.builder
    (c.write.ensures.written (ts ++ taken.0) ls
    (all_append ts taken.0 ∙ ap (λ l. l ++ all_of taken.0) same
    ∙ ap (λ l. g.B.PreparedFields.there c.args.before.now ++ l) taken.2)
    same_last)

pub returns-in_err-prepared-clause-written : goal.returns-in_err-prepared-clause-written
returns-in_err-prepared-clause-written g c =
    let lines = g.G.FieldGroup.lines_of c.args.self.now.value in
    let error = c.in_err-prepared.field-0.0 in
    let refused = subst (λ lines. g.G.Lines.PrepareFields.outcome lines c.args.builder.now
    (Err error) c.prepare.new.builder) c.lines-lines.ensures c.in_err-prepared.ensures in
    let p = err_from_is_err_and c.from_residual.result c.from_residual.ensures.1 in
    rw (p.1, p.2) (λ ts ls same same_last.
    inl (fails_then (g.G.Lines.PrepareFields.turns lines)
    (λ (more : FieldsInTurn). g.R.Rest.in_turn c.args.others.now more ls) ts c.args.builder.now error
    c.prepare.new.builder
    (g.met.G.Lines.PrepareFields.take_turns.failed lines c.args.builder.now error
    c.prepare.new.builder refused)))

pub returns-clause-kept : goal.returns-clause-kept
returns-clause-kept g c =
    let lines = g.G.FieldGroup.lines_of c.args.self.now.value in
    let fields = g.G.Lines.Prepared.PreparedFields.there c.in_ok-prepared.prepared in
    if_ok c.write.result
    (λ offset behind. more_kept (g.B.PreparedFields.there c.args.before.now)
    (g.L.PreparedFields.there c.args.last.now) fields [] _ _
    (g.G.Lines.PrepareFields.contents lines) []
    (g.R.Rest.contents c.args.others.now) (g.R.Rest.last_contents c.args.others.now)
    c.args.builder.now c.prepare.new.builder c.write.new.builder offset.distance
    refl (sym (append-nil (g.L.PreparedFields.there c.args.last.now)))
    (λ history is_history.
    let near = g.met.G.Lines.PrepareFields.has_contents.comes lines
    c.args.builder.now c.in_ok-prepared.prepared c.prepare.new.builder history c.requires.may
    (subst (λ lines. g.G.Lines.PrepareFields.outcome lines c.args.builder.now
    (Ok c.in_ok-prepared.prepared) c.prepare.new.builder) c.lines-lines.ensures c.in_ok-prepared.ensures)
    is_history in (near.0, near.1, near.2, (near.3, tt)))
    behind)
    c.write.ensures.kept

pub returns-clause-grows : goal.returns-clause-grows
returns-clause-grows g c =
    let lines = g.G.FieldGroup.lines_of c.args.self.now.value in
    grows_on c.args.builder.now c.prepare.new.builder c.write.new.builder
    (g.met.G.Lines.PrepareFields.is_lawful.grows lines c.args.builder.now
    (Ok c.in_ok-prepared.prepared) c.prepare.new.builder c.requires.may
    (subst (λ lines. g.G.Lines.PrepareFields.outcome lines c.args.builder.now
    (Ok c.in_ok-prepared.prepared) c.prepare.new.builder) c.lines-lines.ensures c.in_ok-prepared.ensures))
    c.write.ensures.grows
