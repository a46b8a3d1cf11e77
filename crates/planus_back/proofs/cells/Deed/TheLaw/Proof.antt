-- What a `&` to a deed holds: nothing.
use denote.RattleType.{RattleType}
use denote.RawPtr.{RawPtr}
use denote.Param.Laws.{Laws}
use denote.Param.Shared.{copy_shared}
use denote.SharingLaws.{nothing_shr_laws}
use denote.Struct.Laws.{field_copy}
use denote.Struct.Lending.{of_Lends, Lends-nothing}
use Rattle.core.specs.declared.alloc.Allocator.{Ghosts}
use Rattle.core.specs.contracts.marker.PhantomData as phantom
use Rattle.planus_back.specs.contracts.cells.Deed as deed
use Rattle.planus_back.proofs.cells.Deed.TheLaw.Statement.{statement}

pub shares : (R S : RattleType) (g : Ghosts S.Denot) (L : Laws R) (N : Laws S) → statement R S g L N
shares R S g L N =
    let Codes = deed.the_codes R.Denot S.Denot R.coded S.coded (phantom.the_row RawPtr).coded in
    let Owns = deed.the_heap R S g in
    of_Lends (deed.struct R S g) Codes Owns (deed.the_lent R S g) (λ d p. nothing_shr_laws)
    (copy_shared (phantom.the_field RawPtr) (field_copy (phantom.the_type RawPtr) tt), tt)
    (λ M 𝓤 𝓛 d p. Lends-nothing 𝓛 (Owns d) (deed.the_row R S g).lives)
