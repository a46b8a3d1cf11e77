use Rattle.std.proofs.Common.{◌≡◌, true, refl, Some}
use Rattle.planus_back.specs.CacheKeys.{bytes_in}
use Rattle.planus_write.specs.Parts.{byte_list_part}
use Rattle.planus_write.specs.Shared.{byte_lists}
use Rattle.planus_write.specs.inner.Sharing.{Finds}
use Rattle.planus_write.proofs.PlacedParts.{found_again}
use Rattle.planus_write.proofs.builder.Builder.write_shared_list.Goals as goal

pub find_in-requires-clause-fits : goal.find_in-requires-clause-fits
find_in-requires-clause-fits g c = rw c.as_slice.ensures.bytes (c.self.invariant.1.cached byte_lists).fits

pub returns-in-Some : goal.returns-in-Some
returns-in-Some g c =
    let list = g.B.Byte.bytes_of c.args.list.now in let a = c.self.inside in
    let on : a.byte_lists.on ≡ true = rw (← c.self.view_is) at c.requires in
    let finds : Finds bytes_in a.byte_lists a.backing.bytes list (Some c.in-Some.distance) = rw on (rw c.as_slice.ensures.bytes at c.in-Some.ensures) in
    rw (← c.self.view_is)
    (found_again list (byte_list_part list) a a.backing a.byte_lists byte_lists c.in-Some.distance (finds, refl, refl, c.as_slice.ensures.small))
