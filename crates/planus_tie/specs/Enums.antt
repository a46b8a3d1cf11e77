-- The text of an enum.
use Rattle.std.specs.Prelude.{◌≡◌, ℕ, ◌+◌, Bool, true, false, ◌&&◌, ◌||◌, List, [], ◌∷◌}
use Rattle.std.specs.Prelude.{◌++◌, codes, None}
use Rattle.planus_schema.specs.Numbers.{scalar_size}
use Rattle.planus_schema.specs.declared.number.Number.{Number}
use Rattle.planus_schema.specs.declared.schema.Base.TheVariants as base
use Rattle.planus_schema.specs.declared.schema.Enum.{Enum}
use Rattle.planus_schema.specs.declared.schema.EnumValue.{EnumValue}
use Rattle.planus_tie.specs.Bare.{bare}
use Rattle.planus_tie.specs.Holes.{filled, each, chained, has_text}
use Rattle.planus_tie.specs.Plains.{layout_text, read_text}
use Rattle.planus_tie.specs.declared.holes.Holes.{Holes}
use Rattle.planus_tie.specs.declared.naming.Naming.{Naming}

-- of an enum, or of its value of this number at a place
abbrev pub holes_of : ℕ → Enum → ℕ → Number → Holes
holes_of i one place number = record {
  index = i;
  place = place;
  base = base.Scalar one.scalar;
  number = number;
  size = scalar_size one.scalar;
  alignment = scalar_size one.scalar;
  count = None;
  padding = 0;
}

abbrev pub enum_holes : ℕ → Enum → Holes
enum_holes i one = holes_of i one 0 (record { negative = false; magnitude = 0 })

-- of its values from a place on
abbrev pub values_from : ℕ → Enum → ℕ → List EnumValue → List Holes
values_from i one place [] = []
values_from i one place (v ∷ vs) = holes_of i one place v.number ∷ values_from i one (place + 1) vs

abbrev pub number_head : List ℕ
number_head = codes "} impl $T { pub fn number(self) -> $b ensures {"
    ++ codes " result $= ($M_is self).number } { match self {"

-- the variants, and the number of each
abbrev pub variants_text : Naming → Holes → List Holes → List ℕ
variants_text n own values = filled n own (codes "pub enum $T {")
    ++ (each n (codes "$n = $i,") values ++ filled n own number_head)

abbrev pub numbers_text : Naming → Holes → List Holes → List ℕ
numbers_text n own values =
    each n (codes "$T::$n => $i,") values ++ filled n own (codes "} } }")

-- a value is written as its number
abbrev pub written_text : Naming → Holes → List ℕ
written_text n own = layout_text n own
    ++ (filled n own (codes "self.number().put(bytes);") ++ read_text n own)

-- up to the body of `read`
abbrev pub start_text : Naming → Holes → List Holes → List ℕ
start_text n own values =
    variants_text n own values ++ (numbers_text n own values ++ written_text n own)

-- `read` has all variants
abbrev pub listed_text : Naming → Holes → List Holes → List ℕ
listed_text n own values = start_text n own values
    ++ (filled n own (codes "read_variant!($b, buffer, offset;")
    ++ (each n (codes "$T::$n,") values ++ filled n own (codes ") } }")))

abbrev pub asking : List ℕ
asking = codes "let number = <$b as Plain>::read(buffer, offset)?; match from_0(number) {"
    ++ (codes " Some(this) => Ok(this), None => Err(ErrorKind::UnknownEnumTag {"
    ++ codes " source: UnknownEnumTagKind { tag: number as i128 } }) } } }")

-- or asks the functions that find a variant by its number
abbrev pub asking_text : Naming → Holes → List Holes → List ℕ
asking_text n own values = start_text n own values ++ filled n own asking

abbrev pub found_next : List ℕ
found_next = codes "_ => from_$p(number), } }"

abbrev pub found_head : List ℕ
found_head = codes "#[tactic(auto, unfolding(crate::specs::$T::from_$p_on))]"
    ++ (codes "fn from_$p(number: $b) -> Option<$T> ensures { result $= variant_in $q"
    ++ codes " $M_numbers.from_$p_on number } { match number {")

-- those functions have all variants
abbrev pub found_text : Naming → Holes → List Holes → List ℕ
found_text n own values = chained n found_next found_head (codes "$i => Some($T::$n),") values
    ++ filled n own (codes "_ => None, } }")

abbrev pub is_enum_text : Naming → Holes → List Holes → List ℕ → Bool
is_enum_text n own values text = has_text text (listed_text n own values)
    || (has_text text (asking_text n own values) && has_text text (found_text n own values))

-- The text has each value with its number, is written by this number, and is read by all of them.
abbrev pub IsEnumTied : Naming → ℕ → Enum → List ℕ → Type 0
IsEnumTied n i one text =
    is_enum_text n (enum_holes i one) (values_from i one 0 one.values.items) (bare text) ≡ true
