use Rattle.std.proofs.Common.{◌≡◌, ◌+◌, ◌++◌, length, ◌∷◌, [], subst, map, ap, sym, ◌∙◌}
use Rattle.std.specs.Prelude.{None, Some}
use Rattle.std.proofs.lemmas.Result.{on_ok_weaker}
use Rattle.planus_resolve.specs.Wrong.{Stops}
use Rattle.planus_resolve.specs.WrongStructs.{measures_of}
use Rattle.planus_resolve.specs.Faults.{name_left, wrong_body, sound_measure, byte_measure}
use Rattle.planus_resolve.proofs.FaultLemmas.{no_faults, ok_anyway, adds_nothing, adds_told, no_fault, byte_told, sound_told}
use Rattle.planus_syntax.specs.Values.{item_of}
use Rattle.planus_resolve.specs.Names.{head_of, space_of, space_at}
use Rattle.planus_schema.specs.Layouts.{body_in, measure_of_body}
use Rattle.planus_resolve.specs.Schemas.{SaysBody}
use Rattle.planus_resolve.proofs.SchemaLemmas.{as_many, declared_by}
use Rattle.planus_resolve.proofs.meaning.add_declared.Goals as goal

pub returns-in-Ok-clause-says : goal.returns-in-Ok-clause-says
returns-in-Ok-clause-says c =
    let hs = map head_of c.args.heads.now in
    let h = c.args.head.now in
    let said = subst (λ ds. SaysBody hs (space_at (space_of h.space) (length ds + 1)) (map body_in ds) (item_of h.declaration.now.item) c.in-Ok.body) c.deref.ensures.value c.in-Ok.ensures.read.says in
    on_ok_weaker c.add_body.result
    (λ added _. declared_by hs (head_of h) c.in-Ok.body c.args.declared.now.items c.add_body.new.declared.items added c.in-Ok.ensures.read.sound said)
    c.add_body.ensures.appended

pub returns-in-Ok-clause-adds : goal.returns-in-Ok-clause-adds
returns-in-Ok-clause-adds c =
    let hs = map head_of c.args.heads.now in
    let h = c.args.head.now in
    let ds = c.args.declared.now.items in
    let n' = subst (λ ds. wrong_body hs (space_at (space_of h.space) (length ds + 1)) (measures_of ds) (name_left h.declaration.now) h.declaration.now.item ≡ None) c.deref.ensures.value c.in-Ok.ensures.wrong in
    let n = subst (λ k. wrong_body hs (space_at (space_of h.space) (k + 1)) (measures_of ds) (name_left h.declaration.now) h.declaration.now.item ≡ None) (as_many ds) n' in
    ok_anyway c.add_body.result _ (adds_nothing c.args.faults.now.items _ c.requires.few (no_fault h.file _ n))

pub returns-in-Ok-clause-kept : goal.returns-in-Ok-clause-kept
returns-in-Ok-clause-kept c = ok_anyway c.add_body.result _ (λ e. e)

pub returns-in-Ok-clause-most : goal.returns-in-Ok-clause-most
returns-in-Ok-clause-most c = ok_anyway c.add_body.result _ c.requires.few

pub returns-in-Ok-clause-measures : goal.returns-in-Ok-clause-measures
returns-in-Ok-clause-measures c =
    let hs = map head_of c.args.heads.now in
    let h = c.args.head.now in
    let old = measures_of c.args.declared.now.items in
    let item = h.declaration.now.item in
    let n' = subst (λ ds. wrong_body hs (space_at (space_of h.space) (length ds + 1)) (measures_of ds) (name_left h.declaration.now) item ≡ None) c.deref.ensures.value c.in-Ok.ensures.wrong in
    let m' = subst (λ ds. measure_of_body (Some c.in-Ok.body) ≡ sound_measure hs (space_at (space_of h.space) (length ds + 1)) (measures_of ds) item) c.deref.ensures.value c.in-Ok.ensures.read.measure in
    let n = subst (λ k. wrong_body hs (space_at (space_of h.space) (k + 1)) old (name_left h.declaration.now) item ≡ None) (as_many c.args.declared.now.items) n' in
    let m = subst (λ k. measure_of_body (Some c.in-Ok.body) ≡ sound_measure hs (space_at (space_of h.space) (k + 1)) old item) (as_many c.args.declared.now.items) m' in
    let here = space_at (space_of h.space) (length old + 1) in
    on_ok_weaker c.add_body.result
    (λ e. e ∙ ap (λ x. old ++ x ∷ []) (m ∙ sym (sound_told (wrong_body hs here old (name_left h.declaration.now) item) (sound_measure hs here old item) (byte_measure item) n)))
    c.add_body.ensures.measures

pub returns-in-Ok-note-clause-says : goal.returns-in-Ok-note-clause-says
returns-in-Ok-note-clause-says c =
    ok_anyway c.add_body-in-Err.result _ (λ e. no_faults c.note.new.faults.items c.in-Ok-note.ensures.some e)

pub returns-in-Ok-note-clause-kept : goal.returns-in-Ok-note-clause-kept
returns-in-Ok-note-clause-kept c =
    ok_anyway c.add_body-in-Err.result _ (λ e. no_faults c.note.new.faults.items c.in-Ok-note.ensures.some e)

pub returns-in-Ok-note-clause-most : goal.returns-in-Ok-note-clause-most
returns-in-Ok-note-clause-most c = ok_anyway c.add_body-in-Err.result _ c.in-Ok-note.ensures.most

pub returns-in-Ok-note-clause-measures : goal.returns-in-Ok-note-clause-measures
returns-in-Ok-note-clause-measures c =
    let hs = map head_of c.args.heads.now in
    let h = c.args.head.now in
    let old = measures_of c.args.declared.now.items in
    let item = h.declaration.now.item in
    let s' = subst (λ ds. Stops (wrong_body hs (space_at (space_of h.space) (length ds + 1)) (measures_of ds) (name_left h.declaration.now) item) c.in-Err.error) c.deref.ensures.value c.in-Err.ensures.wrong in
    let s = subst (λ k. Stops (wrong_body hs (space_at (space_of h.space) (k + 1)) old (name_left h.declaration.now) item) c.in-Err.error) (as_many c.args.declared.now.items) s' in
    let here = space_at (space_of h.space) (length old + 1) in
    on_ok_weaker c.add_body-in-Err.result
    (λ e. e ∙ ap (λ m. old ++ m ∷ []) (c.stand_in-body.ensures ∙ sym (byte_told (wrong_body hs here old (name_left h.declaration.now) item) c.in-Err.error (sound_measure hs here old item) (byte_measure item) s c.in-Ok-note.ensures.told)))
    c.add_body-in-Err.ensures.measures

pub returns-in-Ok-note-clause-adds : goal.returns-in-Ok-note-clause-adds
returns-in-Ok-note-clause-adds c =
    let hs = map head_of c.args.heads.now in
    let h = c.args.head.now in
    let ds = c.args.declared.now.items in
    let s' = subst (λ ds. Stops (wrong_body hs (space_at (space_of h.space) (length ds + 1)) (measures_of ds) (name_left h.declaration.now) h.declaration.now.item) c.in-Err.error) c.deref.ensures.value c.in-Err.ensures.wrong in
    let s = subst (λ k. Stops (wrong_body hs (space_at (space_of h.space) (k + 1)) (measures_of ds) (name_left h.declaration.now) h.declaration.now.item) c.in-Err.error) (as_many ds) s' in
    ok_anyway c.add_body-in-Err.result _
    (adds_told h.file _ c.in-Err.error c.args.faults.now.items c.note.new.faults.items s
    c.in-Ok-note.ensures.told c.in-Ok-note.ensures.adds)
