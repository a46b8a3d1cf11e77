use Rattle.planus_view.proofs.SubViewItems.{items_of_sub_views}
use Rattle.planus_view.proofs.laws.sub_views_have_the_items.Goals as goal

pub returns : goal.returns
returns c = items_of_sub_views
