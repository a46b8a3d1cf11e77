-- Where names are looked up.
use Rattle.std.specs.Prelude.{◌≡◌, List, map}
use Rattle.planus_resolve.specs.declared.scope.Scope.{Scope}
use Rattle.planus_resolve.specs.Names.{HeadV, SpaceV, head_of, space_at, space_of}
use Rattle.planus_resolve.specs.Enums.{integers_of}

abbrev pub scope_heads : Scope → List HeadV
scope_heads s = map head_of s.heads.now

abbrev pub scope_space : Scope → SpaceV
scope_space s = space_at (space_of s.space) s.begun

-- the integer types are those of the declarations
abbrev pub HasIntegers : Scope → Type 0
HasIntegers s = s.integers.now ≡ integers_of (scope_heads s)
