use Rattle.by_hand.proofs.site.point.Goals as goal

pub returns-clause-item : goal.returns-clause-item
returns-clause-item c = c.plain_item.ensures.item

pub returns-clause-read_back : goal.returns-clause-read_back
returns-clause-read_back c = c.plain_item.ensures.read_back
