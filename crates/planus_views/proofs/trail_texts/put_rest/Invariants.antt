use Rattle.std.proofs.Common.{◌≡◌, ◌++◌, drop}
use Rattle.std.specs.String.{string_bytes}
use Rattle.planus_views.specs.Names.{names_of, further_texts}
use Rattle.planus_views.proofs.trail_texts.put_rest.Given as goal

abbrev pub invariant-loop-place : goal.invariant-loop-place
invariant-loop-place l =
    string_bytes l.text ++ further_texts (names_of l.names) (drop l.place-index l.places)
    ≡ string_bytes l.fn.text ++ further_texts (names_of l.names) l.places
