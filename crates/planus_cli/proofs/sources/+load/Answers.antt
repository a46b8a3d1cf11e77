use Rattle.std.proofs.Common.{subst, sym, rules, ◌∙◌, inr}
use Rattle.std.specs.Prelude.{IfOk, Some, None, map, ◌-◌, ◌+◌, ◌≤◌, drop, length}
use Rattle.std.specs.Option.{option_map}
use Rattle.std.specs.Io.KnownBytes.{Keeps}
use Rattle.std.specs.String.{string_bytes}
use Rattle.planus_cli.specs.Including.{IsFirstThere, tried, path_of}
use Rattle.planus_cli.specs.Loading.{IsSource, places_of, enter, Includes, IncludesItem, IncludesAll, Loads, Once}
use Rattle.planus_cli.proofs.SpelledFiles.{spelled_tokens, read_more}
use Rattle.planus_cli.proofs.LoadedFiles.{if_ok, never_clean, too_deep, entered, not_begun, nothing_included, one_included, next_included, all_included}
use Rattle.planus_cli.proofs.sources.+load.Goals as goal
use Rattle.planus_cli.proofs.sources.+load.Goals.{load_includes-in-Include+in_ok-one, load_includes-in_default}

pub include-refuse-requires : goal.include-refuse-requires
include-refuse-requires g t c = spelled_tokens c.args.source.now.file.text.items c.args.source.now.declarations.items c.requires.is

pub include-refuse-requires-then-left-eq0 : goal.include-refuse-requires-then-left-eq0
include-refuse-requires-then-left-eq0 g t c = spelled_tokens c.args.source.now.file.text.items c.args.source.now.declarations.items c.requires.is

pub include-returns-in_default-clause-kept : goal.include-returns-in_default-clause-kept
include-returns-in_default-clause-kept g t c = never_clean _ c.refuse.result c.refuse.ensures.status

pub include-returns-in_default-clause-loads : goal.include-returns-in_default-clause-loads
include-returns-in_default-clause-loads g t c =
    let there = (g.F.Files.disk c.args.files.now).There in
    let names = tried (map (λ folder. folder.now) c.args.folders.now) (string_bytes c.args.source.now.file.name) (path_of c.args.string.now) in
    let first = subst (λ found. IsFirstThere there names (option_map string_bytes found)) c.in_default.is c.in_ok-name.ensures in
    if_ok c.refuse.result (λ status refuses. (None, first, refuses c.args.sources.now)) c.refuse.ensures.told

pub include-returns-then-left-eq0-clause-kept : goal.include-returns-then-left-eq0-clause-kept
include-returns-then-left-eq0-clause-kept g t c = never_clean _ c.refuse-then-left-eq0.result c.refuse-then-left-eq0.ensures.status

pub include-returns-then-left-eq0-clause-loads : goal.include-returns-then-left-eq0-clause-loads
include-returns-then-left-eq0-clause-loads g t c =
    let there = (g.F.Files.disk c.args.files.now).There in
    let places = places_of (g.F.Files.disk c.args.files.now) c.args.folders.now in
    let name = string_bytes c.in-Some.name in
    let names = tried (map (λ folder. folder.now) c.args.folders.now) (string_bytes c.args.source.now.file.name) (path_of c.args.string.now) in
    let first = subst (λ found. IsFirstThere there names (option_map string_bytes found)) c.in-Some.is c.in_ok-name.ensures in
    if_ok c.refuse-then-left-eq0.result (λ status refuses. (
      Some name,
      first,
      too_deep places c.args.left name _ c.args.sources.now c.args.sources.now _ _ status c.if-left-eq0.true (refuses c.args.sources.now),
    ))
    c.refuse-then-left-eq0.ensures.told

pub include-returns-clause-loads : goal.include-returns-clause-loads
include-returns-clause-loads g t c =
    let there = (g.F.Files.disk c.args.files.now).There in
    let places = places_of (g.F.Files.disk c.args.files.now) c.args.folders.now in
    let name = string_bytes c.in-Some.name in
    let names = tried (map (λ folder. folder.now) c.args.folders.now) (string_bytes c.args.source.now.file.name) (path_of c.args.string.now) in
    let first = subst (λ found. IsFirstThere there names (option_map string_bytes found)) c.in-Some.is c.in_ok-name.ensures in
    let unsaid = g.X.Write.contents c.args.errors.now in
    let said = g.X.Write.contents c.load.new.errors in
    if_ok c.load.result (λ status loads. (
      Some name,
      first,
      entered places c.args.left name _ c.args.sources.now c.load.new.sources unsaid said status c.if-left-eq0.false
          (subst (λ text. Once (Loads places (c.args.left - 1)) text c.args.sources.now unsaid status c.load.new.sources said)
          c.as_str.ensures.value loads),
    ))
    c.load.ensures.loads

pub load-returns-clause-loads : goal.load-returns-clause-loads
load-returns-clause-loads g t c =
    let places = places_of (g.F.Files.disk c.args.files.now) c.args.folders.now in
    if_ok c.load_file.result (λ status loads. not_begun (Loads places c.args.left c.args.name.now) _ c.args.sources.now _ _ _ status (sym c.has_begun.ensures ∙ c.if-has_begun.false) loads) c.load_file.ensures.loads

pub load_file-returns-in_ok-add-in-Ok-clause-read : goal.load_file-returns-in_ok-add-in-Ok-clause-read
load_file-returns-in_ok-add-in-Ok-clause-read g t c =
    let Holds = (g.F.Files.disk c.args.files.now).Holds in
    let name = c.args.name.now in
    let before = c.load_includes.new.sources in
    let after = c.add.new.self in
    let adds = c.in_ok-add-in-Ok.ensures in
    let is = subst (λ read. IfOk read (λ s. IsSource Holds name s)) c.in-Ok.is c.in_ok-status.ensures.source in
    read_more Holds before.files.items after.files.items before.declarations.items after.declarations.items name
    c.in-Ok.source c.in_ok-status-in-Ok.ensures.read is adds.files adds.declarations

pub load_file-returns-in_ok-add-in-Ok-clause-last : goal.load_file-returns-in_ok-add-in-Ok-clause-last
load_file-returns-in_ok-add-in-Ok-clause-last g t c = λ clean.
    let Holds = (g.F.Files.disk c.args.files.now).Holds in
    let name = c.args.name.now in
    let is = subst (λ read. IfOk read (λ s. IsSource Holds name s)) c.in-Ok.is c.in_ok-status.ensures.source in
    record {
      before = c.load_includes.new.sources.files.items;
      file = c.in-Ok.source.file;
      are = c.in_ok-add-in-Ok.ensures.files;
      named = is.named;
    }

pub load_file-returns-in_ok-add-in-Ok-clause-loads : goal.load_file-returns-in_ok-add-in-Ok-clause-loads
load_file-returns-in_ok-add-in-Ok-clause-loads g t c =
    let Holds = (g.F.Files.disk c.args.files.now).Holds in
    let name = c.args.name.now in
    let is = subst (λ read. IfOk read (λ s. IsSource Holds name s)) c.in-Ok.is c.in_ok-status.ensures.source in
    inr (record {
      source = c.in-Ok.source;
      is = is;
      begun = c.begin.new.self;
      begins = c.in_ok-begin.ensures;
      told = g.X.Write.contents c.read_file.new.errors;
      kept = subst (λ read. IfOk read (λ _. Keeps (g.X.Write.contents c.args.errors.now) (g.X.Write.contents c.read_file.new.errors))) c.in-Ok.is
          c.in_ok-status.ensures.kept;
      between = c.load_includes.new.sources;
      includes = c.in_ok-status-in-Ok.ensures.loads;
      adds = c.in_ok-add-in-Ok.ensures;
    })

pub load_includes-declarations-preserved : goal.load_includes-declarations-preserved
load_includes-declarations-preserved g t c =
    let places = places_of (g.F.Files.disk c.args.files.now) c.args.folders.now in
    let Include = Includes places (enter places c.args.left) c.args.source.now.file in
    let all = c.deref-declaration-items.result.now in
    let same = c.deref-declaration-items.ensures.value in
    let index = c.declarations.declaration-index in
    let item = c.declaration-item.result in
    let worst = c.declarations.worst in
    let old = c.declarations.sources in
    let unsaid = g.X.Write.contents c.declarations.errors in
    let mid = c.match-declaration.worst in
    let between = c.match-declaration.sources in
    let told = g.X.Write.contents c.match-declaration.errors in
    let one : IncludesItem Include item.left item.item worst old unsaid mid between told = elim c.match-declaration.branch [
      | load_includes-in-Include+in_ok-one w ↦ one_included Include item.left item.item w.in-Include.path worst w.in_ok-one.one mid old between unsaid told
          w.in-Include.is
          (subst (λ new. Include item.left w.in-Include.path.items old unsaid w.in_ok-one.one new told) (sym w.sources-is)
          (subst (λ errors. Include item.left w.in-Include.path.items old unsaid w.in_ok-one.one w.include.new.sources (g.X.Write.contents errors)) (sym w.errors-is)
          (subst (λ path. Include item.left path old unsaid w.in_ok-one.one w.include.new.sources (g.X.Write.contents w.include.new.errors)) w.deref.ensures.value
          w.in_ok-one.ensures.loads)))
          (w.worst-is ∙ w.max-worst.ensures)
      | load_includes-in_default w ↦
          subst (λ status. IncludesItem Include item.left item.item worst old unsaid status between told) (sym w.worst-is)
          (subst (λ new. IncludesItem Include item.left item.item worst old unsaid worst new told) (sym w.sources-is)
          (subst (λ errors. IncludesItem Include item.left item.item worst old unsaid worst old (g.X.Write.contents errors)) (sym w.errors-is)
          (nothing_included Include item.left item.item worst old unsaid w.in_default.not-Include)))
    ] in
    record {
      read = search rules;
      kept = search rules;
      loads = λ status new said rest. c.declarations.invariant.loads status new said
          (subst (λ ds. IncludesAll Include (drop index ds) worst old unsaid status new said) same
          (next_included Include all index item _ worst mid old between unsaid told c.declarations-test.true c.declaration-item.is one status new said
          (subst (λ ds. IncludesAll Include (drop (index + 1) ds) mid between told status new said) (sym same) rest)));
    }

pub load_includes-returns-clause-loads : goal.load_includes-returns-clause-loads
load_includes-returns-clause-loads g t c =
    let places = places_of (g.F.Files.disk c.args.files.now) c.args.folders.now in
    let Include = Includes places (enter places c.args.left) c.args.source.now.file in
    let end = subst (λ ds. length ds ≤ c.declarations.declaration-index) c.deref-declaration-items.ensures.value c.declarations-test.false in
    c.declarations.invariant.loads c.declarations.worst c.declarations.sources (g.X.Write.contents c.declarations.errors)
    (all_included Include c.args.source.now.declarations.items c.declarations.declaration-index c.declarations.worst c.declarations.sources
    (g.X.Write.contents c.declarations.errors) end)
