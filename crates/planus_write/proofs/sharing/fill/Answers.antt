use Rattle.std.proofs.Common.{◌≡◌, length, subst, arith}
use Rattle.planus_back.proofs.Caches.{Fits-empty}
use Rattle.planus_write.proofs.HeldContents.{HasFirst, has-none, has-next, spilled_if}
use Rattle.planus_write.proofs.sharing.fill.Goals as goal

pub loop-at-init : goal.loop-at-init
loop-at-init g c = record {
  fits = Fits-empty g.C.GetCacheKey.key_in c.args.cache.now c.args.serialized.now c.requires.empty;
  holds = has-none c.args.cache.now c.args.first.now c.requires.empty;
}

pub key_there-requires : goal.key_there-requires
key_there-requires g c = c.requires.fits c.loop-at.at-index c.loop-at-test.true

pub loop-at-preserved : goal.loop-at-preserved
loop-at-preserved g c =
    let l = c.loop-at in record {
      fits = c.in_ok-insert.ensures.fits c.args.serialized.now l.invariant.fits c.key_there.ensures;
      holds = has-next l.cache c.insert.new.self c.args.first.now l.at-index l.invariant.holds c.in_ok-insert.ensures.ok;
    }

pub returns : goal.returns
returns g c =
    let all : c.loop-at.at-index ≡ length c.args.first.now = omega arith in
    spilled_if c.insert_in.result g.C.GetCacheKey.key_in c.args.first.now c.args.serialized.now _ c.loop-at.cache c.insert_in.new.self c.bucket_of.result c.args.distance c.loop-at.invariant.fits
    (subst (HasFirst c.loop-at.cache c.args.first.now) all c.loop-at.invariant.holds) c.bucket_of.ensures c.insert_in.ensures.ok c.insert_in.ensures.fits
