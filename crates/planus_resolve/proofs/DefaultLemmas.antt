-- The meaning of a literal is a default of its type.
use Rattle.std.proofs.Common.{◌≡◌, ℕ, ◌+◌, ◌<◌, Bool, true, false, cond, List, [], ◌∷◌, ◌++◌, length, take, drop, get_or, refl, sym, ap, subst, ◌∙◌}
use Rattle.std.specs.Global.{Vec}
use Rattle.std.specs.Prelude.{fold}
use Rattle.std.proofs.lemmas.List.{take-append-drop, map-append}
use Rattle.std.proofs.lemmas.List.Sums.{fold-append}
use Rattle.std.proofs.lemmas.List.Folds.{fold_stays}
use Rattle.planus_resolve.proofs.StructLemmas.{map_rest}
use Rattle.std.specs.Prelude.{Option, Some, None, codes, ◌==◌, ◌&&◌, not, if◌then◌else◌}
use Rattle.std.specs.Str.{bytes_eq}
use Rattle.planus_syntax.specs.Tokens.{is_number, is_float_name}
use Rattle.planus_syntax.specs.Values.{Name, LiteralV, numeral, named, quote, nothing, EnumerationV, names_of}
use Rattle.planus_syntax.specs.Strings.{between_quotes, string_text}
use Rattle.planus_schema.specs.declared.number.Number.{Number}
use Rattle.planus_schema.specs.declared.scalar.Scalar.{Scalar}
use Rattle.planus_schema.specs.declared.scalar.Scalar.TheVariants as scalar
use Rattle.planus_schema.specs.declared.schema.Base.{Base}
use Rattle.planus_schema.specs.declared.schema.Base.TheVariants as base
use Rattle.planus_schema.specs.declared.schema.FieldType.{FieldType}
use Rattle.planus_schema.specs.Numbers.{integer_said, is_float, is_bool, fits, zero_number, is_hexadecimal, without_sign}
use Rattle.planus_resolve.specs.Names.{HeadV, item_at, cut_words}
use Rattle.planus_resolve.specs.Enums.{integer_at, variants_or_none}
use Rattle.planus_resolve.specs.Enums.{is_flags}
use Rattle.planus_resolve.specs.Defaults.{ValueV, absent, integer, float, text, empty, lone_word, is_null, null_or, if_fits, whole_number, number_default, truth, bool_number, named_bool, named_float, has_exponent, float_number, scalar_number, scalar_quoted, scalar_word, scalar_named_by, scalar_default, enum_quoted, value_named, value_name, value_in, as_integer, enum_named, is_among_values, among_values, flags_named, with_flag, or_flag, as_flags, text_default, vector_default, enum_at, default_in, base_default, zero_in, zero_scalar, zero_default, some_default, default_said, is_scalar_value, is_enum_value, is_text_value, is_vector_value, is_value, is_default}

record Allowed (p : ValueV → Bool) (o : Option ValueV) : Type 0 where
  each : (v : ValueV) → o ≡ Some v → p v ≡ true

none_allowed : (p : ValueV → Bool) → Allowed p None
none_allowed p = record { each = λ v e. absurd cc }

some_value : (x y : ValueV) → (let o : Option ValueV = Some x in o) ≡ Some y → x ≡ y
some_value x y e = cc

one_allowed : (p : ValueV → Bool) (x : ValueV) → p x ≡ true → Allowed p (Some x)
one_allowed p x h = record { each = λ v e. subst (λ y. p y ≡ true) (some_value x v e) h }

chosen : (p : ValueV → Bool) (q : Bool) (x y : Option ValueV) → (q ≡ true → Allowed p x) → (q ≡ false → Allowed p y) → Allowed p (cond q x y)
chosen p true x y f g = f refl
chosen p false x y f g = g refl

float_allowed : (s : Scalar) (w : List ℕ) → is_float s ≡ true → Allowed (is_scalar_value s) (float_number w)
float_allowed s w h = chosen (is_scalar_value s) (is_hexadecimal (without_sign w) && not (has_exponent w)) None (Some (float w)) (λ _. none_allowed (is_scalar_value s)) (λ _. one_allowed (is_scalar_value s) (float w) h)

fits_scalar : (s : Scalar) (n : Number) → is_float s ≡ false → fits s n ≡ true → is_scalar_value s (integer n) ≡ true
fits_scalar s n f h = rw (f, h) refl

fits_allowed : (s : Scalar) (o : Option Number) → is_float s ≡ false → Allowed (is_scalar_value s) (if_fits s o)
fits_allowed s None f = none_allowed (is_scalar_value s)
fits_allowed s (Some n) f = chosen (is_scalar_value s) (fits s n) (Some (integer n)) None (λ h. one_allowed (is_scalar_value s) (integer n) (fits_scalar s n f h)) (λ _. none_allowed (is_scalar_value s))

whole_allowed : (s : Scalar) (w : List ℕ) → is_float s ≡ false → Allowed (is_scalar_value s) (whole_number s w)
whole_allowed s w f = fits_allowed s (integer_said w) f

bool_fits : (s : Scalar) (n : Number) → is_bool s ≡ true → fits scalar.Bool n ≡ true → is_scalar_value s (integer n) ≡ true
bool_fits scalar.Bool n h e = e
bool_fits scalar.Byte n h e = absurd cc
bool_fits scalar.UByte n h e = absurd cc
bool_fits scalar.Short n h e = absurd cc
bool_fits scalar.UShort n h e = absurd cc
bool_fits scalar.Int n h e = absurd cc
bool_fits scalar.UInt n h e = absurd cc
bool_fits scalar.Long n h e = absurd cc
bool_fits scalar.ULong n h e = absurd cc
bool_fits scalar.Float n h e = absurd cc
bool_fits scalar.Double n h e = absurd cc

named_float_allowed : (s : Scalar) (w : List ℕ) → is_float s ≡ true → Allowed (is_scalar_value s) (named_float w)
named_float_allowed s w h = chosen (is_scalar_value s) (is_float_name w) (Some (float w)) None (λ _. one_allowed (is_scalar_value s) (float w) h) (λ _. none_allowed (is_scalar_value s))

truth_fits : (q : Bool) → fits scalar.Bool (if q then zero_number else truth) ≡ true
truth_fits true = refl
truth_fits false = refl

bool_number_allowed : (s : Scalar) (o : Option Number) → is_bool s ≡ true → Allowed (is_scalar_value s) (bool_number o)
bool_number_allowed s None h = none_allowed (is_scalar_value s)
bool_number_allowed s (Some n) h =
    let kept : Number = if n.magnitude == 0 then zero_number else truth in
    chosen (is_scalar_value s) (fits scalar.UByte n) (Some (integer kept)) None (λ _. one_allowed (is_scalar_value s) (integer kept) (bool_fits s kept h (truth_fits (n.magnitude == 0)))) (λ _. none_allowed (is_scalar_value s))

named_bool_allowed : (s : Scalar) (w : List ℕ) → is_bool s ≡ true → Allowed (is_scalar_value s) (named_bool w)
named_bool_allowed s w h =
    let no = none_allowed (is_scalar_value s) in
    let zero = one_allowed (is_scalar_value s) (integer zero_number) (bool_fits s zero_number h refl) in
    let one = one_allowed (is_scalar_value s) (integer truth) (bool_fits s truth h refl) in
    chosen (is_scalar_value s) (bytes_eq w (codes "true")) (Some (integer truth)) (cond (bytes_eq w (codes "false")) (Some (integer zero_number)) None) (λ _. one)
    (λ _. chosen (is_scalar_value s) (bytes_eq w (codes "false")) (Some (integer zero_number)) None (λ _. zero) (λ _. no))

null_allowed : (p : ValueV → Bool) (w : List ℕ) (o : Option ValueV) → p absent ≡ true → Allowed p o → Allowed p (cond (is_null w) (Some absent) o)
null_allowed p w o h a = chosen p (is_null w) (Some absent) o (λ _. one_allowed p absent h) (λ _. a)

scalar_number_allowed : (s : Scalar) (w : List ℕ) → Allowed (is_scalar_value s) (scalar_number s w)
scalar_number_allowed s w = chosen (is_scalar_value s) (is_float s) (float_number w) (cond (is_bool s) (bool_number (integer_said w)) (whole_number s w)) (float_allowed s w)
    (λ f. chosen (is_scalar_value s) (is_bool s) (bool_number (integer_said w)) (whole_number s w) (bool_number_allowed s (integer_said w)) (λ _. whole_allowed s w f))

scalar_word_allowed : (s : Scalar) (w : List ℕ) → Allowed (is_scalar_value s) (scalar_word s w)
scalar_word_allowed s w =
    null_allowed (is_scalar_value s) w _ refl
    (chosen (is_scalar_value s) (is_float s) (named_float w) (cond (is_bool s) (named_bool w) None) (named_float_allowed s w)
    (λ _. chosen (is_scalar_value s) (is_bool s) (named_bool w) None (named_bool_allowed s w) (λ _. none_allowed (is_scalar_value s))))

scalar_named_allowed : (s : Scalar) (o : Option Name) → Allowed (is_scalar_value s) (scalar_named_by s o)
scalar_named_allowed s None = none_allowed (is_scalar_value s)
scalar_named_allowed s (Some w) = scalar_word_allowed s w

scalar_quoted_allowed : (s : Scalar) (w : List ℕ) → Allowed (is_scalar_value s) (scalar_quoted s w)
scalar_quoted_allowed s w = chosen (is_scalar_value s) (is_number w) (scalar_number s w) (scalar_word s w) (λ _. scalar_number_allowed s w) (λ _. scalar_word_allowed s w)

scalar_allowed : (s : Scalar) (l : LiteralV) → Allowed (is_scalar_value s) (scalar_default s l)
scalar_allowed s (numeral w) = scalar_number_allowed s w
scalar_allowed s (named p) = scalar_named_allowed s (lone_word p)
scalar_allowed s (quote w) = scalar_quoted_allowed s (between_quotes w)
scalar_allowed s nothing = none_allowed (is_scalar_value s)

integer_allowed : (o : Option Number) → Allowed is_enum_value (as_integer o)
integer_allowed None = none_allowed is_enum_value
integer_allowed (Some n) = one_allowed is_enum_value (integer n) refl

value_allowed : (e : EnumerationV) (o : Option Name) → Allowed is_enum_value (value_in e o)
value_allowed e None = none_allowed is_enum_value
value_allowed e (Some w) = integer_allowed (value_named w (is_flags e) None (variants_or_none e.variants))

among_allowed : (s : Option Scalar) (e : EnumerationV) (n : Number) → Allowed is_enum_value (among_values s e n)
among_allowed s e n = chosen is_enum_value (is_among_values s e n) (Some (integer n)) None (λ _. one_allowed is_enum_value (integer n) refl) (λ _. none_allowed is_enum_value)

flags_allowed : (o : Option ℕ) → Allowed is_enum_value (as_flags o)
flags_allowed None = none_allowed is_enum_value
flags_allowed (Some n) = one_allowed is_enum_value (integer (record { negative = false; magnitude = n })) refl

number_allowed : (s : Option Scalar) (e : EnumerationV) (o : Option Number) → Allowed is_enum_value (number_default s e o)
number_allowed s e None = none_allowed is_enum_value
number_allowed s e (Some n) = among_allowed s e n

null_or_allowed : (p : ValueV → Bool) (w : Option Name) (o : Option ValueV) → p absent ≡ true → Allowed p o → Allowed p (null_or w o)
null_or_allowed p None o h a = a
null_or_allowed p (Some w) o h a = null_allowed p w o h a

enum_quoted_allowed : (s : Option Scalar) (e : EnumerationV) (w : List ℕ) → Allowed is_enum_value (enum_quoted s e w)
enum_quoted_allowed s e w = chosen is_enum_value (is_number w) (number_default s e (integer_said w)) _ (λ _. number_allowed s e (integer_said w))
    (λ _. null_allowed is_enum_value w _ refl
    (chosen is_enum_value (is_flags e) (as_flags (flags_named e (cut_words [] w))) (value_in e (Some w)) (λ _. flags_allowed (flags_named e (cut_words [] w))) (λ _. value_allowed e (Some w))))

enum_allowed : (s : Option Scalar) (o : Option EnumerationV) (l : LiteralV) → Allowed is_enum_value (default_in s o l)
enum_allowed s None l = none_allowed is_enum_value
enum_allowed s (Some e) (numeral w) = number_allowed s e (integer_said w)
enum_allowed s (Some e) (named p) = null_or_allowed is_enum_value (lone_word p) (enum_named e p) refl (value_allowed e (value_name e p))
enum_allowed s (Some e) (quote w) = enum_quoted_allowed s e (between_quotes w)
enum_allowed s (Some e) nothing = none_allowed is_enum_value

text_allowed : (l : LiteralV) → Allowed is_text_value (text_default l)
text_allowed (numeral w) = none_allowed is_text_value
text_allowed (named p) = none_allowed is_text_value
text_allowed (quote w) = one_allowed is_text_value (text (string_text w)) refl
text_allowed nothing = none_allowed is_text_value

vector_allowed : (l : LiteralV) → Allowed is_vector_value (vector_default l)
vector_allowed (numeral w) = none_allowed is_vector_value
vector_allowed (named p) = none_allowed is_vector_value
vector_allowed (quote w) = none_allowed is_vector_value
vector_allowed nothing = one_allowed is_vector_value empty refl

base_allowed : (hs : List HeadV) (b : Base) (l : LiteralV) → Allowed (is_value b) (base_default hs b l)
base_allowed hs (base.Scalar s) l = record { each = (scalar_allowed s l).each }
base_allowed hs base.Text l = record { each = (text_allowed l).each }
base_allowed hs (base.Enum i) l = record { each = (enum_allowed (integer_at hs i) (enum_at (item_at hs i)) l).each }
base_allowed hs (base.Struct i) l = none_allowed (is_value (base.Struct i))
base_allowed hs (base.Table i) l = none_allowed (is_value (base.Table i))
base_allowed hs (base.Union i) l = none_allowed (is_value (base.Union i))

both : (x y : Option ValueV) → (let o : Option (Option ValueV) = Some x in o) ≡ Some y → x ≡ y
both x y e = cc

said_allowed : (t : FieldType) (p : ValueV → Bool) (x o : Option ValueV) → ((v : ValueV) → p v ≡ true → is_default t (Some v) ≡ true) → Allowed p x → some_default x ≡ Some o → is_default t o ≡ true
said_allowed t p None o f a e = absurd cc
said_allowed t p (Some v) o f a e = subst (λ y. is_default t y ≡ true) (both (Some v) o e) (f v (a.each v refl))

literal_lawful : (hs : List HeadV) (v : Bool) (b : Base) (l : LiteralV) (o : Option ValueV) → some_default (cond v (vector_default l) (base_default hs b l)) ≡ Some o → is_default (record { vector = v; base = b }) o ≡ true
literal_lawful hs true b l o e = said_allowed (record { vector = true; base = b }) is_vector_value (vector_default l) o (λ v h. h) (vector_allowed l) e
literal_lawful hs false b l o e = said_allowed (record { vector = false; base = b }) (is_value b) (base_default hs b l) o (λ v h. h) (base_allowed hs b l) e

zero_value : (s : Scalar) → is_scalar_value s (zero_scalar s) ≡ true
zero_value scalar.Bool = refl
zero_value scalar.Byte = refl
zero_value scalar.UByte = refl
zero_value scalar.Short = refl
zero_value scalar.UShort = refl
zero_value scalar.Int = refl
zero_value scalar.UInt = refl
zero_value scalar.Long = refl
zero_value scalar.ULong = refl
zero_value scalar.Float = refl
zero_value scalar.Double = refl

zero_among : (q : Bool) (i : ℕ) (o : Option ValueV) → cond q (Some (Some (integer zero_number))) None ≡ Some o → is_default (record { vector = false; base = base.Enum i }) o ≡ true
zero_among true i o e = subst (λ y. is_default (record { vector = false; base = base.Enum i }) y ≡ true) (both (Some (integer zero_number)) o e) refl
zero_among false i o e = absurd cc

zero_enum : (s : Option Scalar) (x : Option EnumerationV) (i : ℕ) (o : Option ValueV) → zero_in s x ≡ Some o → is_default (record { vector = false; base = base.Enum i }) o ≡ true
zero_enum s None i o e = absurd cc
zero_enum s (Some d) i o e = zero_among (is_among_values s d zero_number) i o e

zero_lawful : (hs : List HeadV) (b : Base) (o : Option ValueV) → zero_default hs b ≡ Some o → is_default (record { vector = false; base = b }) o ≡ true
zero_lawful hs (base.Scalar s) o e = subst (λ y. is_default (record { vector = false; base = base.Scalar s }) y ≡ true) (both (Some (zero_scalar s)) o e) (zero_value s)
zero_lawful hs base.Text o e = subst (λ y. is_default (record { vector = false; base = base.Text }) y ≡ true) (both None o e) refl
zero_lawful hs (base.Enum i) o e = zero_enum (integer_at hs i) (enum_at (item_at hs i)) i o e
zero_lawful hs (base.Struct i) o e = subst (λ y. is_default (record { vector = false; base = base.Struct i }) y ≡ true) (both None o e) refl
zero_lawful hs (base.Table i) o e = subst (λ y. is_default (record { vector = false; base = base.Table i }) y ≡ true) (both None o e) refl
zero_lawful hs (base.Union i) o e = subst (λ y. is_default (record { vector = false; base = base.Union i }) y ≡ true) (both None o e) refl

none_lawful : (hs : List HeadV) (v : Bool) (b : Base) (o : Option ValueV) → cond v (Some None) (zero_default hs b) ≡ Some o → is_default (record { vector = v; base = b }) o ≡ true
none_lawful hs true b o e = subst (λ y. is_default (record { vector = true; base = b }) y ≡ true) (both None o e) refl
none_lawful hs false b o e = zero_lawful hs b o e

pub default_lawful : (hs : List HeadV) (d : Option LiteralV) (t : FieldType) (o : Option ValueV) → default_said hs t d ≡ Some o → is_default t o ≡ true
default_lawful hs None t o e = none_lawful hs t.vector t.base o e
default_lawful hs (Some l) t o e = literal_lawful hs t.vector t.base l o e

pub no_flag : (e : EnumerationV) (ws : List (Vec ℕ)) (i : ℕ) (w : Vec ℕ) (total : ℕ) → i < length ws → w ≡ get_or ws i w → flags_named e (names_of (take i ws)) ≡ Some total → value_named w.items true None (variants_or_none e.variants) ≡ None → flags_named e (names_of ws) ≡ None
no_flag e ws i w total l is t n =
    let rest = names_of (drop (i + 1) ws) in
    let s : names_of ws ≡ names_of (take i ws) ++ (w.items ∷ rest) = ap names_of (sym (take-append-drop i ws)) ∙ map-append (λ (v : Vec ℕ). v.items) (take i ws) (drop i ws) ∙ ap (λ vs. names_of (take i ws) ++ vs) (map_rest (λ (v : Vec ℕ). v.items) ws i w l is) in
    ap (fold (with_flag e) (Some 0)) s ∙ fold-append (with_flag e) (Some 0) (names_of (take i ws)) (w.items ∷ rest)
    ∙ ap (λ o. fold (with_flag e) (with_flag e o w.items) rest) t
    ∙ ap (λ o. fold (with_flag e) (or_flag total o) rest) n
    ∙ fold_stays (with_flag e) None (λ x. refl) rest
