use Rattle.by_hand.proofs.site.SiteRef.kind.Goals as goal

pub returns : goal.returns
returns c = c.plain_field_or.ensures
