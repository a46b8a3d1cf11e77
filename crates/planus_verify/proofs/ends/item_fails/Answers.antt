use Rattle.std.proofs.Common.{subst}
use Rattle.planus_read.specs.Places.{place_bytes, place_start, place_offset}
use Rattle.planus_verify.specs.Soughts.{ItemFails}
use Rattle.planus_verify.proofs.Tables.{table_is}
use Rattle.planus_verify.proofs.ends.item_fails.Goals as goal

pub returns-in-Ok-clause-reads : goal.returns-in-Ok-clause-reads
returns-in-Ok-clause-reads c = λ e fails.
    subst (λ k. ItemFails k (place_bytes c.args.at) (place_offset c.args.at)) c.in-Tables.is fails
    (table_is (place_bytes c.args.at) (place_start c.args.at) (place_offset c.args.at)
    c.in-Ok.field-0 c.in-Ok.ensures).holds
