use Rattle.std.proofs.Common.{◌≡◌, sym, ◌∙◌, subst, refl, rules, true}
use Rattle.std.proofs.lemmas.Result.{err_from_is_err_and}
use Rattle.std.specs.Io.KnownBytes.{Appends}
use Rattle.planus_dump.specs.Dumped.{events_of}
use Rattle.planus_dump.specs.Schemas.{is_good}
use Rattle.planus_dump.specs.Writing.{WritesBeginning}
use Rattle.planus_dump.proofs.Viewed.{whole_lent, part_lent}
use Rattle.planus_dump.proofs.views.view.Goals as goal

pub returns-clause-shown : goal.returns-clause-shown
returns-clause-shown g c =
    let contents = g.W.Write.contents in let schema = c.args.schema.now in let bytes = c.args.bytes.now in let most = c.args.most in let size = c.args.size in
    let start = c.new.result in let out = c.walk_from_root-walked.new.out in let mid = c.write_rest.new.writer in
    let good : is_good schema ≡ true = search rules in
    let ends = whole_lent contents schema bytes most size start c.new-out.result out c.walk_from_root-walked.result mid c.args.writer.now out.end good
    (record { block = c.new.ensures.block; fault = c.new.ensures.fault }) c.new-out.ensures (c.walk_from_root-walked.ensures (events_of schema bytes) refl)
    c.in_ok-write_rest.ensures.whole refl
    (subst (Appends (contents out.lines.writer.now) (contents mid)) c.deref.ensures.value c.in_ok-write_rest.ensures.written) c.new.ensures.now in
    let same = c.new.ensures.same in
    search (rules, ends, sym, same, ◌∙◌)

pub returns-in_err-write_rest-clause-failed : goal.returns-in_err-write_rest-clause-failed
returns-in_err-write_rest-clause-failed g c =
    let contents = g.W.Write.contents in let schema = c.args.schema.now in let bytes = c.args.bytes.now in let most = c.args.most in let size = c.args.size in
    let start = c.new.result in let out = c.walk_from_root-walked.new.out in let mid = c.write_rest.new.writer in
    let good : is_good schema ≡ true = search rules in
    let p = err_from_is_err_and c.from_residual.result c.from_residual.ensures.1 in
    let ends = part_lent contents schema bytes most size start c.new-out.result out c.walk_from_root-walked.result mid c.args.writer.now p.0 p.2 good
    (record { block = c.new.ensures.block; fault = c.new.ensures.fault }) c.new-out.ensures (c.walk_from_root-walked.ensures (events_of schema bytes) refl)
    (subst (λ rest. WritesBeginning rest (contents out.lines.writer.now) (contents mid)) c.deref.ensures.value c.in_err-write_rest.ensures.begun)
    c.in_err-write_rest.ensures.kept c.new.ensures.now in
    let same = c.new.ensures.same in
    rw p.1 (search (rules, ends, sym, same, ◌∙◌))
