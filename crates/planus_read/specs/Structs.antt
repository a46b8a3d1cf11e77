-- Structs: fields of a fixed layout, one after another.
use Rattle.std.specs.Prelude.{◌≡◌, ℕ, ◌+◌, ◌-◌, ◌*◌, ◌%◌, ◌^◌, ◌<◌, ◌≤◌, max, List, [], ◌++◌}
use Rattle.std.specs.Prelude.{length, replicate, ⊤}
use Rattle.std.proofs.Common.{refl, sym, ap, ◌∙◌, length-append}
use Rattle.std.proofs.lemmas.List.{length-replicate}
use Rattle.std.proofs.Math.Nat.{dvd-mul_left}
use Rattle.planus_read.specs.Bytes.{BytesStand}
use Rattle.planus_read.specs.Clauses.{Clause, AllHold}
use Rattle.planus_read.specs.Plain.{IsLayout, Shape, place}
use Rattle.planus_read.specs.lemmas.StructLaws.{parts_stand, behind, both_are, both_hold}

-- zeros up to a multiple of an alignment
abbrev pub gap : ℕ → ℕ → ℕ
gap k alignment = (alignment - k % alignment) % alignment

-- Where the bytes of some are, no clause fails and no others are encoded. Where
-- some are encoded by any bytes, no clause fails.
pub record Fields (A : Type 0) : Type 1 where
  pub size : ℕ → ℕ
  pub alignment : ℕ
  pub encoded : ℕ → A → List ℕ
  pub fits : A → Type 0
  pub There : ℕ → List ℕ → ℕ → A → Type 0
  pub clauses : ℕ → List ℕ → ℕ → List Clause
  pub Values : Type 0
  pub values : A → Values
  pub sized : (k : ℕ) (x : A) → length (encoded k x) ≡ size k
  pub holds :
      (k : ℕ) (S : List ℕ) (f : ℕ) (x : A) → fits x → BytesStand S (place f k) (encoded k x)
      → AllHold (clauses k S f)
  pub again :
      (k : ℕ) (S : List ℕ) (f : ℕ) (x y : A) → fits x → BytesStand S (place f k) (encoded k x)
      → There k S f y → values y ≡ values x
  pub unbroken : (k : ℕ) (S : List ℕ) (f : ℕ) (x : A) → There k S f x → AllHold (clauses k S f)

abbrev pub no_more : {A : Type 0} → Fields A
no_more {A} = record {
  size = λ k. 0;
  alignment = 1;
  encoded = λ k x. [];
  fits = λ x. ⊤;
  There = λ k S f x. ⊤;
  clauses = λ k S f. [];
  Values = ⊤;
  values = λ x. tt;
  sized = λ k x. refl;
  holds = λ k S f x fits stands. tt;
  again = λ k S f x y fits stands there. refl;
  unbroken = λ k S f x there. tt;
}

-- The format: each field of a struct is at a multiple of its alignment, with zeros between.
abbrev pub field :
    {A B : Type 0} {bytes align : ℕ} → (A → B) → Shape B bytes align → Fields A → Fields A
field {A} {B} {bytes} {align} get shape rest = record {
  size = λ k.
      (let g = gap k align in g + (bytes + rest.size (k + g + bytes)));
  alignment = max align rest.alignment;
  encoded = λ k x.
      (let g = gap k align in
      replicate g 0 ++ (shape.encoded (get x) ++ rest.encoded (k + g + bytes) x));
  fits = λ x. shape.fits (get x) × rest.fits x;
  There = λ k S f x.
      (let g = gap k align in
      shape.There S (place f (k + g)) (get x) × rest.There (k + g + bytes) S f x);
  clauses = λ k S f.
      (let g = gap k align in
      shape.clauses S (place f (k + g)) ++ rest.clauses (k + g + bytes) S f);
  Values = B × rest.Values;
  values = λ x. (get x, rest.values x);
  sized = λ k x.
      (let g = gap k align in let a = shape.encoded (get x) in
      let b = rest.encoded (k + g + bytes) x in
      length-append (replicate g 0) (a ++ b)
      ∙ ap (λ n. n + length (a ++ b)) (length-replicate g 0)
      ∙ ap (λ n. g + n) (length-append a b ∙ ap (λ n. n + length b) (shape.sized (get x))
      ∙ ap (λ n. bytes + n) (rest.sized (k + g + bytes) x)));
  holds = λ k S f x fits stands.
      (let g = gap k align in let a = shape.encoded (get x) in
      let b = rest.encoded (k + g + bytes) x in
      let zeros = parts_stand S (replicate g 0) (a ++ b) (place f k) stands in
      let here = behind S f k (length (replicate g 0)) g (a ++ b) (length-replicate g 0) zeros.1 in
      let both = parts_stand S a b (place f (k + g)) here in
      both_hold (shape.clauses S (place f (k + g))) (rest.clauses (k + g + bytes) S f)
      (shape.holds S (place f (k + g)) (get x) fits.0 both.0)
      (rest.holds (k + g + bytes) S f x fits.1
      (behind S f (k + g) (length a) bytes b (shape.sized (get x)) both.1)));
  again = λ k S f x y fits stands there.
      (let g = gap k align in let a = shape.encoded (get x) in
      let b = rest.encoded (k + g + bytes) x in
      let zeros = parts_stand S (replicate g 0) (a ++ b) (place f k) stands in
      let here = behind S f k (length (replicate g 0)) g (a ++ b) (length-replicate g 0) zeros.1 in
      let both = parts_stand S a b (place f (k + g)) here in
      both_are (get y, rest.values y) (get x, rest.values x)
      (shape.again S (place f (k + g)) (get x) (get y) fits.0 both.0 there.0)
      (rest.again (k + g + bytes) S f x y fits.1
      (behind S f (k + g) (length a) bytes b (shape.sized (get x)) both.1)
      there.1));
  unbroken = λ k S f x there.
      (let g = gap k align in
      both_hold (shape.clauses S (place f (k + g))) (rest.clauses (k + g + bytes) S f)
      (shape.unbroken S (place f (k + g)) (get x) there.0)
      (rest.unbroken (k + g + bytes) S f x there.1));
}

-- The format: `force_align`.
abbrev pub force_align : {A : Type 0} → ℕ → Fields A → Fields A
force_align alignment fields = record {
  size = fields.size;
  alignment = max alignment fields.alignment;
  encoded = fields.encoded;
  fits = fields.fits;
  There = fields.There;
  clauses = fields.clauses;
  Values = fields.Values;
  values = fields.values;
  sized = fields.sized;
  holds = fields.holds;
  again = fields.again;
  unbroken = fields.unbroken;
}

-- The format: a struct has the greatest alignment of its fields, and its size is a multiple of it.
abbrev pub struct_size : {A : Type 0} → Fields A → ℕ
struct_size fields = fields.size 0 + gap (fields.size 0) fields.alignment

abbrev pub struct_bytes : {A : Type 0} → Fields A → A → List ℕ
struct_bytes fields x = fields.encoded 0 x ++ replicate (gap (fields.size 0) fields.alignment) 0

pub struct_layout : (k n : ℕ) → k ≤ 30 → 0 < n * 2 ^ k → IsLayout (n * 2 ^ k) (2 ^ k)
struct_layout k n small positive = record {
  power = (k, small, refl);
  positive = positive;
  multiple = dvd-mul_left (2 ^ k) n;
}

-- `make` makes it from the values of its fields
abbrev pub struct_shape : {A : Type 0} (fields : Fields A)
    → IsLayout (struct_size fields) fields.alignment → (make : fields.Values → A)
    → ((x : A) → make (fields.values x) ≡ x) → Shape A (struct_size fields) fields.alignment
struct_shape fields layout make made = record {
  encoded = struct_bytes fields;
  fits = fields.fits;
  There = λ S f x. fields.There 0 S f x;
  clauses = λ S f. fields.clauses 0 S f;
  layout = layout;
  sized = λ x.
      (let n = gap (fields.size 0) fields.alignment in
      let zeros : List ℕ = replicate n 0 in
      length-append (fields.encoded 0 x) zeros
      ∙ ap (λ m. m + length zeros) (fields.sized 0 x)
      ∙ ap (λ m. fields.size 0 + m) (length-replicate n 0));
  holds = λ S f x fits stands.
      (let n = gap (fields.size 0) fields.alignment in
      fields.holds 0 S f x fits (parts_stand S (fields.encoded 0 x) (replicate n 0) f stands).0);
  again = λ S f x y fits stands there.
      (let n = gap (fields.size 0) fields.alignment in
      let both = parts_stand S (fields.encoded 0 x) (replicate n 0) f stands in
      sym (made y) ∙ ap make (fields.again 0 S f x y fits both.0 there) ∙ made x);
  unbroken = λ S f x there. fields.unbroken 0 S f x there;
}
