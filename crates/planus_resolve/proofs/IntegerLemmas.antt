-- The integer types of enums.
use Rattle.std.proofs.Common.{◌≡◌, ℕ, zero, suc, ◌+◌, Bool, true, false, List, [], ◌∷◌, ◌++◌, length, refl, ap, ◌∙◌}
use Rattle.std.specs.Prelude.{Option, Some, None, IfSome, slice_get, if◌then◌else◌}
use Rattle.std.specs.List.{AllByRecursion}
use Rattle.planus_syntax.specs.Values.{Name, ItemV, include, native_include, namespace, attribute, table, struct, enumeration, union, service, root, identifier, extension}
use Rattle.planus_schema.specs.declared.scalar.Scalar.{Scalar}
use Rattle.planus_schema.specs.declared.schema.Base.{Base}
use Rattle.planus_schema.specs.declared.schema.Base.TheVariants as base
use Rattle.planus_resolve.specs.Names.{HeadV, base_named, space_at}
use Rattle.planus_resolve.specs.Enums.{flattened, integer_at, integer_in, integer_of, integers_from, integers_of, is_integer_type}

abbrev pub IsInteger : Option Scalar → Type 0
IsInteger o = IfSome o (λ s. is_integer_type s ≡ true)

AreIntegers : List (Option Scalar) → Type 0
AreIntegers xs = AllByRecursion IsInteger xs

integers_at : (xs : List (Option Scalar)) (i : ℕ) → AreIntegers xs → IsInteger (flattened (slice_get xs i))
unfolding AreIntegers
integers_at [] i h = tt
integers_at (x ∷ xs) zero h = h.0
integers_at (x ∷ xs) (suc i) h = integers_at xs i h.1

integer_if : (b : Bool) (s : Scalar) → is_integer_type s ≡ b → IsInteger (if b then Some s else None)
integer_if true s e = e
integer_if false s e = tt

base_integer : (before : List (Option Scalar)) (o : Option Base) → AreIntegers before → IsInteger (integer_in before o)
base_integer before None h = tt
base_integer before (Some (base.Scalar s)) h = integer_if (is_integer_type s) s refl
base_integer before (Some base.Text) h = tt
base_integer before (Some (base.Enum i)) h = integers_at before i h
base_integer before (Some (base.Struct i)) h = tt
base_integer before (Some (base.Table i)) h = tt
base_integer before (Some (base.Union i)) h = tt

item_integer : (hs : List HeadV) (before : List (Option Scalar)) (space : List Name) (i : ItemV) → AreIntegers before → IsInteger (integer_of hs before space i)
item_integer hs before space (include w) h = tt
item_integer hs before space (native_include w) h = tt
item_integer hs before space (namespace p) h = tt
item_integer hs before space (attribute l) h = tt
item_integer hs before space (table r) h = tt
item_integer hs before space (struct r) h = tt
item_integer hs before space (enumeration e) h = base_integer before (base_named hs (space_at space (length before + 1)) e.base) h
item_integer hs before space (union u) h = tt
item_integer hs before space (service s) h = tt
item_integer hs before space (root p) h = tt
item_integer hs before space (identifier w) h = tt
item_integer hs before space (extension w) h = tt

one_more : (xs : List (Option Scalar)) (o : Option Scalar) → AreIntegers xs → IsInteger o → AreIntegers (xs ++ o ∷ [])
unfolding AreIntegers
one_more [] o h k = (k, tt)
one_more (x ∷ xs) o h k = (h.0, one_more xs o h.1 k)

all_integers : (hs : List HeadV) (before : List (Option Scalar)) (rest : List HeadV) → AreIntegers before → AreIntegers (integers_from hs before rest)
all_integers hs before [] h = h
all_integers hs before (x ∷ rest) h =
    all_integers hs (before ++ integer_of hs before x.space x.declaration.item ∷ []) rest (one_more before _ h (item_integer hs before x.space x.declaration.item h))

pub is_integer : (hs : List HeadV) (i : ℕ) → IsInteger (integer_at hs i)
unfolding integers_of AreIntegers
is_integer hs i = integers_at (integers_of hs) i (all_integers hs [] hs tt)

-- the type that is found in a list of them
pub integer_found : (hs : List HeadV) (integers : List (Option Scalar)) (i n : ℕ) (found : Option Scalar) → integers ≡ integers_of hs → i ≡ n → found ≡ flattened (slice_get integers i) → found ≡ integer_at hs n
integer_found hs integers i n found is same e =
    e ∙ ap (λ xs. flattened (slice_get xs i)) is ∙ ap (λ k. integer_at hs k) same
