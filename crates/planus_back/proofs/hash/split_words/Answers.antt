use Rattle.planus_back.proofs.Hashes.{splits_both}
use Rattle.planus_back.proofs.hash.split_words.Goals as goal

pub returns : goal.returns
returns g c = splits_both _ _ _ _ _ c.in_ok-first.ensures c.in_ok-second.ensures
