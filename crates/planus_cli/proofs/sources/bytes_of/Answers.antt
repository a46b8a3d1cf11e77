use Rattle.std.proofs.Common.{subst, inl}
use Rattle.std.specs.Prelude.{codes}
use Rattle.std.specs.Io.KnownBytes.{Appends}
use Rattle.planus_cli.specs.SchemaTexts.{line_of}
use Rattle.planus_cli.proofs.sources.bytes_of.Goals as goal

pub returns-in_ok-say-in-Err : goal.returns-in_ok-say-in-Err
returns-in_ok-say-in-Err g c = record {
  bytes = tt;
  kept = tt;
  unread = inl (
    c.in-Err.error,
    c.in-Err.ensures.error,
    subst (λ why. Appends (g.X.Write.contents c.args.errors.now) (g.X.Write.contents c.say-in-Err.new.errors) (line_of (codes "can't read ") c.args.name.now why))
        c.after_name.ensures c.in_ok-say-in-Err.ensures.said,
  );
}
