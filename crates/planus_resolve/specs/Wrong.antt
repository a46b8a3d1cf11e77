-- The fault of a part of a schema: the first rule that it breaks, and where. Parts are trees of the
-- syntax, since only those have places.
use Rattle.std.specs.Prelude.{◌≡◌, ℕ, Bool, not}
use Rattle.std.specs.Prelude.{if◌then◌else◌, List, Option, Some, None}
use Rattle.std.specs.Prelude.{Result, Ok, Err}
use Rattle.planus_syntax.specs.Values.{path_of}
use Rattle.planus_syntax.specs.declared.value.Path.{Path}
use Rattle.planus_syntax.specs.declared.value.Kind.{Kind}
use Rattle.planus_syntax.specs.declared.value.Kind.TheVariants as kind
use Rattle.planus_resolve.specs.declared.expected.Expected.{Expected}
use Rattle.planus_resolve.specs.declared.expected.Expected.TheVariants as expected
use Rattle.planus_resolve.specs.declared.fault.FaultKind.{FaultKind}
use Rattle.planus_resolve.specs.declared.fault.FaultKind.TheVariants as fault
use Rattle.planus_resolve.specs.Names.{UsedAs}
use Rattle.planus_resolve.specs.Names.{as_type}
use Rattle.planus_resolve.specs.declared.fault.DeclarationError.{DeclarationError}
use Rattle.planus_resolve.specs.declared.fault.DeclarationError.TheVariants as declaration_error
use Rattle.planus_resolve.specs.Names.{HeadV, SpaceV, base_as, table_in, is_set}
use Rattle.planus_resolve.specs.Fitting.{is_fit}

-- `left`: the number of tokens from the word at fault to the end of its text
pub record Broken : Type 0 where
  pub kind : FaultKind
  pub left : ℕ

abbrev pub broken : FaultKind → ℕ → Option Broken
broken p left = Some (record { kind = p; left = left })

abbrev pub when : Bool → FaultKind → ℕ → Option Broken
when b p left = if b then broken p left else None

abbrev pub first : Option Broken → Option Broken → Option Broken
first None o = o
first (Some b) o = Some b

-- memory was refused, or this is the fault
abbrev pub Stops : Option Broken → DeclarationError → Type 0
Stops o declaration_error.OutOfMemory = Unit {0}
Stops o (declaration_error.Wrong p left) = o ≡ broken p left

-- returned if there is no fault, and else the fault, unless memory is refused
abbrev pub Tells : {A : Type 0} → Option Broken → Result A DeclarationError → Type 0
Tells o (Ok x) = o ≡ None
Tells o (Err e) = Stops o e

-- ---- names of types

-- a name that means no type, where one of these is expected
abbrev pub wrong_base : Expected → List HeadV → UsedAs → SpaceV → Path → Option Broken
wrong_base e hs w space p =
    when (not (is_set (base_as hs w space (path_of p)))) (fault.UnknownType e) p.left

abbrev pub path_in_kind : Kind → Path
path_in_kind (kind.Single p) = p
path_in_kind (kind.Vector p) = p
path_in_kind (kind.Array p w) = p

abbrev pub wrong_kind : Expected → List HeadV → SpaceV → Kind → Option Broken
wrong_kind e hs space k = wrong_base e hs as_type space (path_in_kind k)

-- a name that has to be a table's
abbrev pub wrong_table : FaultKind → List HeadV → UsedAs → SpaceV → Path → Option Broken
wrong_table kind hs w space p = first (wrong_base expected.Table hs w space p)
    (when (not (is_set (table_in (base_as hs w space (path_of p))))) kind p.left)

-- a name that has to be that of a type that may stand there
abbrev pub wrong_fit : FaultKind → Expected → List HeadV → UsedAs → SpaceV → Path → Option Broken
wrong_fit kind e hs w space p = first (wrong_base e hs w space p)
    (when (not (is_fit e (base_as hs w space (path_of p)))) kind p.left)
