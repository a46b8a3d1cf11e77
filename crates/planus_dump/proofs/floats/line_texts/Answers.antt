use Rattle.std.proofs.Common.{◌∷◌, [], ◌++◌, map, sym, subst}
use Rattle.std.specs.String.{string_bytes}
use Rattle.planus_dump.specs.Dumped.{AreShown}
use Rattle.planus_dump.specs.inner.Shown.{event_of}
use Rattle.planus_dump.proofs.Feeds.{one_more_shown}
use Rattle.planus_dump.proofs.floats.line_texts.Goals as goal

pub loop-line-preserved : goal.loop-line-preserved
loop-line-preserved c =
    subst (λ texts. AreShown (map event_of (c.loop-line.yielded ++ c.in-Some.line ∷ [])) (map string_bytes texts)) (sym c.in_ok-push.ensures.items)
    (one_more_shown event_of string_bytes c.loop-line.yielded c.loop-line.texts.items c.in-Some.line c.in_ok-text.text c.loop-line.invariant c.in_ok-text.ensures)
