use Rattle.std.proofs.Common.{◌≡◌, true, refl, Some}
use Rattle.planus_back.specs.CacheKeys.{bytes_in}
use Rattle.planus_write.specs.Parts.{text_part}
use Rattle.planus_write.specs.Shared.{texts}
use Rattle.planus_write.specs.inner.Sharing.{Finds}
use Rattle.planus_write.proofs.PlacedParts.{found_again}
use Rattle.planus_write.proofs.builder.Builder.write_shared_text.Goals as goal

pub find_in-requires-clause-fits : goal.find_in-requires-clause-fits
find_in-requires-clause-fits c = rw c.as_slice.ensures.bytes (c.self.invariant.1.cached texts).fits

pub returns-in-Some : goal.returns-in-Some
returns-in-Some c =
    let text = c.as_bytes-bytes.result.now in let a = c.self.inside in
    let on : a.texts.on ≡ true = rw (← c.self.view_is) at c.requires in
    let finds : Finds bytes_in a.texts a.backing.bytes text (Some c.in-Some.distance) = rw on (rw c.as_slice.ensures.bytes at c.in-Some.ensures) in
    rw (← c.self.view_is, ← c.as_bytes-bytes.ensures.value)
    (found_again text (text_part text) a a.backing a.texts texts c.in-Some.distance (finds, refl, refl, c.as_slice.ensures.small))
