use Rattle.planus_view.proofs.sub_views.SubViews.nth.Goals as goal

pub returns : goal.returns
returns g c = search steps 300000
