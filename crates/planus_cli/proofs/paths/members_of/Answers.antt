use Rattle.std.proofs.Common.{sym, ap, map, ◌∙◌, Some}
use Rattle.planus_json_syntax.specs.Values.{member_view, value_view}
use Rattle.planus_pack.specs.Parts.{members_of}
use Rattle.planus_pack.proofs.Parts.{object_members}
use Rattle.planus_cli.proofs.paths.members_of.Goals as goal

pub returns-in-Object : goal.returns-in-Object
returns-in-Object c =
    ap (λ xs. Some (map member_view xs)) c.as_slice.ensures.value
    ∙ sym (object_members c.in-Object.members) ∙ ap (λ v. members_of (value_view v)) (sym c.in-Object.is)
