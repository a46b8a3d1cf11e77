use Rattle.std.proofs.Common.{subst, refl, inl, inr}
use Rattle.std.specs.Prelude.{None, Some}
use Rattle.planus_cli.specs.declared.meaning.Meaning.{Meaning}
use Rattle.planus_cli.specs.Checks.{ResolvesFiles}
use Rattle.planus_cli.specs.Loading.{places_of}
use Rattle.planus_cli.specs.Sources.{most_includes}
use Rattle.planus_cli.proofs.LoadedFiles.{are_loaded, has_meaning, means_all}
use Rattle.planus_cli.proofs.sources.meaning_of.Goals as goal

pub returns-then-status-ne-CLEAN-clause-none : goal.returns-then-status-ne-CLEAN-clause-none
unfolding most_includes
returns-then-status-ne-CLEAN-clause-none g c = inl (record {
  fails = c.if-status-ne-CLEAN.true;
  sources = c.load_file.new.sources;
  loads = record {
    none = record { begun = c.new.result; files = c.new-2.result; declarations = c.new-3.result };
    are = record { begun = c.new.ensures.items; files = c.new-2.ensures.items; declarations = c.new-3.ensures.items };
    loads = c.in_ok-status.ensures.loads;
  };
})

pub returns-in-Some-clause-means : goal.returns-in-Some-clause-means
unfolding most_includes
returns-in-Some-clause-means g c =
    let places = places_of (g.F.Files.disk c.args.files.now) c.args.folders.now in
    let name = c.args.name.now in
    let sources = c.load_file.new.sources in
    let unsaid = g.X.Write.contents c.args.errors.now in
    let told = g.X.Write.contents c.load_file.new.errors in
    let said = g.X.Write.contents c.resolve_or_report.new.errors in
    let loads = c.in_ok-status.ensures in
    let loaded = are_loaded places name (record { begun = c.new.result; files = c.new-2.result; declarations = c.new-3.result }) sources unsaid told
    c.in_ok-status.status (record { begun = c.new.ensures.items; files = c.new-2.ensures.items; declarations = c.new-3.ensures.items })
    c.if-status-ne-CLEAN.false loads.loads loads.read loads.last loads.kept in
    let found = subst (λ found. ResolvesFiles c.deref.result.now c.deref-2.result.now found told said) c.in-Some.is c.in_ok-schema.ensures.resolved in
    let meaning : Meaning = record { files = sources.files; declarations = sources.declarations; schema = c.in-Some.schema } in
    has_meaning places name sources unsaid told said meaning c.deref.result.now c.deref-2.result.now loaded c.deref.ensures.value
    c.deref-2.ensures.value refl refl found

pub returns-in-None-clause-none : goal.returns-in-None-clause-none
unfolding most_includes
returns-in-None-clause-none g c =
    let places = places_of (g.F.Files.disk c.args.files.now) c.args.folders.now in
    let name = c.args.name.now in
    let sources = c.load_file.new.sources in
    let unsaid = g.X.Write.contents c.args.errors.now in
    let told = g.X.Write.contents c.load_file.new.errors in
    let said = g.X.Write.contents c.resolve_or_report.new.errors in
    let loads = c.in_ok-status.ensures in
    let loaded = are_loaded places name (record { begun = c.new.result; files = c.new-2.result; declarations = c.new-3.result }) sources unsaid told
    c.in_ok-status.status (record { begun = c.new.ensures.items; files = c.new-2.ensures.items; declarations = c.new-3.ensures.items })
    c.if-status-ne-CLEAN.false loads.loads loads.read loads.last loads.kept in
    let found = subst (λ found. ResolvesFiles c.deref.result.now c.deref-2.result.now found told said) c.in-None.is c.in_ok-schema.ensures.resolved in
    inr (
      refl,
      means_all places name sources unsaid told said None c.deref.result.now c.deref-2.result.now loaded c.deref.ensures.value
          c.deref-2.ensures.value found,
    )
