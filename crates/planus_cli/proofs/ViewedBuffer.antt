-- A buffer that is shown.
use Rattle.std.proofs.Common.{◌≡◌, ℕ, List, ◌++◌, Option, sym, ap, ◌∙◌, subst, append_assoc}
use Rattle.std.specs.Io.KnownBytes.{Appends}
use Rattle.std.proofs.KnownBytes.{Appends-trans}
use Rattle.planus_dump.specs.declared.schemas.Schema.{Schema}
use Rattle.planus_dump.specs.declared.view_error.ViewError.{ViewError}
use Rattle.planus_dump.specs.declared.view_error.ViewError.TheVariants.{OutOfMemory, BadSchema, Write}
use Rattle.planus_dump.specs.Views as views
use Rattle.planus_dump.specs.Writing.{WritesBeginning}
use Rattle.planus_cli.specs.declared.streams.CallError.{CallError}
use Rattle.planus_cli.specs.Viewing.{BeginsView, FailsViewing, end_text, call_error}

-- a beginning of the lines is one of them with their end
pub begun : (schema : Schema) (bytes : List ℕ) (most size : ℕ) (before after : Option (List ℕ)) → views.BeginsView schema bytes most size before after
    → BeginsView schema bytes most size before after
begun schema bytes most size before after view =
    let (written, rest, same, added) = view.begun in
    record {
      lines = view.lines;
      end = view.end;
      viewed = view.viewed;
      written = (written, rest ++ end_text view.end, ap (λ l. l ++ end_text view.end) same ∙ append_assoc written rest (end_text view.end), added);
    }

pub fails : (schema : Schema) (bytes : List ℕ) (most size : ℕ) (before after : Option (List ℕ)) (error : ViewError) (e : CallError) → e ≡ call_error error
    → views.FailsView schema bytes most size error before after → FailsViewing schema bytes most size e before after
fails schema bytes most size before after error e is failed =
    subst (λ (e : CallError). FailsViewing schema bytes most size e before after) (sym is) (by_error error failed)
  where
    by_error : (error : ViewError) → views.FailsView schema bytes most size error before after → FailsViewing schema bytes most size (call_error error) before after
    by_error OutOfMemory failed = begun schema bytes most size before after failed
    by_error Write failed = begun schema bytes most size before after failed
    by_error BadSchema failed = failed

-- the lines were written, and a beginning of their end
pub ends : (lines end : List ℕ) (before between after : Option (List ℕ)) → Appends before between lines → WritesBeginning end between after → WritesBeginning (lines ++ end) before after
ends lines end before between after first (written, rest, same, added) =
    (lines ++ written, rest, ap (λ l. lines ++ l) same ∙ sym (append_assoc lines written rest), Appends-trans before between after lines written first added)
