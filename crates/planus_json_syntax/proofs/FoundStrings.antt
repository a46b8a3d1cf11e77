-- What is read was spelled: strings.
use Rattle.std.proofs.Common.{◌≡◌, ℕ, zero, suc, List, [], ◌∷◌, ◌++◌, length, true, false, Bool, refl, sym, ap, ◌∙◌, append_assoc, append-nil, arith, Ok, Err, Option, Some, None, subst}
use Rattle.std.specs.Prelude.{◌==◌, ◌&&◌, nat_lt, if◌then◌else◌}
use Rattle.std.specs.List.{list_all}
use Rattle.std.specs.Str.{is_utf8}
use Rattle.std.specs.Char.{encode_utf8}
use Rattle.std.proofs.lemmas.Bool.{eqb-true}
use Rattle.planus_json_syntax.specs.declared.fault_kind.FaultKind.TheVariants.{Control, Half, NotUtf8}
use Rattle.planus_json_syntax.specs.Strings.{Content, Escape, closed, escaped, backslash, string_step, string_from, escape_at, string_at, four_at, code_of, low_at, low_of, is_high, is_low, is_hex, short_value, short_of, number_of, both_halves}
use Rattle.planus_json_syntax.specs.Spelling.{Four, four_bytes, is_four, number, Part, plain, short, code, pair, is_plain, is_part, part_bytes, part_says, written, said}
use Rattle.planus_json_syntax.proofs.SpelledStrings.{both}

-- a choice, case by case
pub if_is : {A : Type 0} (P : A → Type 0) (b : Bool) (x y : A) → (b ≡ true → P x) → (b ≡ false → P y) → P (if b then x else y)
if_is P true x y f g = f refl
if_is P false x y f g = g refl

pub both_true : (a b : Bool) → a ≡ true → b ≡ true → (a && b) ≡ true
both_true a b e f = rw (e, f) refl

abbrev pub two : {A B : Type 0} → A → B → A × B
two a b = (a, b)

pub parts_of : {A B : Type 0} (a c : A) (b d : B) → two a b ≡ two c d → (a ≡ c) × (b ≡ d)
parts_of a c b d e = (ap (λ p. p.0) e, ap (λ p. p.1) e)

-- the escape begins with a part that says this
record Escaped (bytes : List ℕ) (c : ℕ) (rest : List ℕ) : Type 0 where
  part : Part
  is : is_part part ≡ true
  whole : 92 ∷ bytes ≡ part_bytes part ++ rest
  says : part_says part ≡ encode_utf8 c

record FourAt (bytes : List ℕ) (n : ℕ) (rest : List ℕ) : Type 0 where
  four : Four
  is : is_four four ≡ true
  whole : bytes ≡ four_bytes four ++ rest
  value : number four ≡ n

abbrev some_four : ℕ → List ℕ → Option (ℕ × List ℕ)
some_four n rest = Some (n, rest)

same_four : (n m : ℕ) (xs ys : List ℕ) → some_four n xs ≡ some_four m ys → (n ≡ m) × (xs ≡ ys)
same_four n m xs ys e =
    let p : two n xs ≡ two m ys = cc in
    parts_of n m xs ys p

four_found : (bytes : List ℕ) (n : ℕ) (rest : List ℕ) → four_at bytes ≡ Some (n, rest) → FourAt bytes n rest
four_found [] n rest e = absurd cc
four_found (a ∷ []) n rest e = absurd cc
four_found (a ∷ b ∷ []) n rest e = absurd cc
four_found (a ∷ b ∷ c ∷ []) n rest e = absurd cc
four_found (a ∷ b ∷ c ∷ d ∷ bs) n rest e =
    if_is (λ r. r ≡ Some (n, rest) → FourAt (a ∷ b ∷ c ∷ d ∷ bs) n rest) (is_hex a && (is_hex b && (is_hex c && is_hex d))) (some_four (number_of a b c d) bs) None
    (λ h f. let s = same_four (number_of a b c d) n bs rest f in
    record { four = record { a = a; b = b; c = c; d = d }; is = h; whole = ap (λ r. a ∷ b ∷ c ∷ d ∷ r) s.1; value = s.0 })
    (λ h f. absurd cc) e

abbrev ok_escape : ℕ → List ℕ → Escape
ok_escape c rest = Ok (c, rest)

same_escape : (n m : ℕ) (xs ys : List ℕ) → ok_escape n xs ≡ ok_escape m ys → (n ≡ m) × (xs ≡ ys)
same_escape n m xs ys e =
    let p : two n xs ≡ two m ys = cc in
    parts_of n m xs ys p

record LowAt (high : ℕ) (bytes : List ℕ) (c : ℕ) (rest : List ℕ) : Type 0 where
  four : Four
  is : is_four four ≡ true
  low : is_low (number four) ≡ true
  whole : bytes ≡ 92 ∷ 117 ∷ (four_bytes four ++ rest)
  says : c ≡ both_halves high (number four)

low_of_found : (high : ℕ) (bytes : List ℕ) (o : Option (ℕ × List ℕ)) (c : ℕ) (rest : List ℕ) → four_at bytes ≡ o → low_of high o ≡ Ok (c, rest) → LowAt high (92 ∷ 117 ∷ bytes) c rest
low_of_found high bytes None c rest o e = absurd cc
low_of_found high bytes (Some x) c rest o e =
    if_is (λ r. r ≡ Ok (c, rest) → LowAt high (92 ∷ 117 ∷ bytes) c rest) (is_low x.0) (ok_escape (both_halves high x.0) x.1) (Err Half)
    (λ h f.
    let s = same_escape (both_halves high x.0) c x.1 rest f in
    let four = four_found bytes x.0 rest (o ∙ ap (λ r. Some (x.0, r)) s.1) in
    record { four = four.four; is = four.is; low = rw four.value h; whole = ap (λ bs. 92 ∷ 117 ∷ bs) four.whole; says = sym s.0 ∙ ap (both_halves high) (sym four.value) })
    (λ h f. absurd cc) e

low_found : (high : ℕ) (bytes : List ℕ) (c : ℕ) (rest : List ℕ) → low_at high bytes ≡ Ok (c, rest) → LowAt high bytes c rest
low_found high [] c rest e = absurd cc
low_found high (a ∷ []) c rest e = absurd cc
low_found high (a ∷ b ∷ bs) c rest e =
    if_is (λ r. r ≡ Ok (c, rest) → LowAt high (a ∷ b ∷ bs) c rest) (a == 92 && b == 117) (low_of high (four_at bs)) (Err Half)
    (λ h f.
    let k = both (a == 92) (b == 117) h in
    let same : (a ∷ b ∷ bs) ≡ (92 ∷ 117 ∷ bs) = rw (eqb-true a 92 k.0, eqb-true b 117 k.1) refl in
    subst (λ bytes. LowAt high bytes c rest) (sym same) (low_of_found high bs (four_at bs) c rest refl f))
    (λ h f. absurd cc) e

code_found : (bytes : List ℕ) (o : Option (ℕ × List ℕ)) (c : ℕ) (rest : List ℕ) → four_at bytes ≡ o → code_of o ≡ Ok (c, rest) → Escaped (117 ∷ bytes) c rest
code_found bytes None c rest o e = absurd cc
code_found bytes (Some x) c rest o e =
    if_is (λ r. r ≡ Ok (c, rest) → Escaped (117 ∷ bytes) c rest) (is_low x.0) (Err Half) (if is_high x.0 then low_at x.0 x.1 else ok_escape x.0 x.1)
    (λ h f. absurd cc)
    (λ h f. if_is (λ r. r ≡ Ok (c, rest) → Escaped (117 ∷ bytes) c rest) (is_high x.0) (low_at x.0 x.1) (ok_escape x.0 x.1)
    (λ k g.
    let four = four_found bytes x.0 x.1 o in
    let low = low_found x.0 x.1 c rest g in
    record {
      part = pair four.four low.four;
      is = both_true _ _ four.is (both_true _ _ low.is (both_true _ _ (rw four.value k) low.low));
      whole = ap (λ bs. 92 ∷ 117 ∷ bs) (four.whole ∙ ap (λ bs. four_bytes four.four ++ bs) low.whole);
      says = ap encode_utf8 (ap (λ n. both_halves n (number low.four)) four.value ∙ sym low.says);
    })
    (λ k g.
    let s = same_escape x.0 c x.1 rest g in
    let four = four_found bytes x.0 rest (o ∙ ap (λ r. Some (x.0, r)) s.1) in
    record {
      part = code four.four;
      is = both_true _ _ four.is (rw (four.value, h, k) refl);
      whole = ap (λ bs. 92 ∷ 117 ∷ bs) four.whole;
      says = ap encode_utf8 (four.value ∙ s.0);
    }) f) e

short_found : (b : ℕ) (bytes : List ℕ) (v : Option ℕ) (c : ℕ) (rest : List ℕ) → short_value b ≡ v → short_of v bytes ≡ Ok (c, rest) → Escaped (b ∷ bytes) c rest
short_found b bytes None c rest v e = absurd cc
short_found b bytes (Some d) c rest v e =
    let s = same_escape d c bytes rest e in
    record { part = short b; is = rw v refl; whole = ap (λ bs. 92 ∷ b ∷ bs) s.1; says = rw v (ap encode_utf8 s.0) }

escape_found : (b : ℕ) (bytes : List ℕ) (c : ℕ) (rest : List ℕ) → escape_at b bytes ≡ Ok (c, rest) → Escaped (b ∷ bytes) c rest
escape_found b bytes c rest e =
    if_is (λ r. r ≡ Ok (c, rest) → Escaped (b ∷ bytes) c rest) (b == 117) (code_of (four_at bytes)) (short_of (short_value b) bytes)
    (λ h f. subst (λ letter. Escaped (letter ∷ bytes) c rest) (sym (eqb-true b 117 h)) (code_found bytes (four_at bytes) c rest refl f))
    (λ h f. short_found b bytes (short_value b) c rest refl f) e

-- ---- whole strings

pub record StringIs (before bytes content rest : List ℕ) : Type 0 where
  pub parts : List Part
  pub are : list_all is_part parts ≡ true
  pub whole : bytes ≡ written parts ++ 34 ∷ rest
  pub says : content ≡ before ++ said parts
  pub utf8 : is_utf8 content ≡ true

one_part : (p : Part) (before bytes next content rest : List ℕ) → is_part p ≡ true → bytes ≡ part_bytes p ++ next → StringIs (before ++ part_says p) next content rest → StringIs before bytes content rest
one_part p before bytes next content rest h e s = record {
  parts = p ∷ s.parts;
  are = both_true _ _ h s.are;
  whole = e ∙ ap (λ bs. part_bytes p ++ bs) s.whole ∙ sym (append_assoc (part_bytes p) (written s.parts) (34 ∷ rest));
  says = s.says ∙ append_assoc before (part_says p) (said s.parts);
  utf8 = s.utf8;
}

abbrev ok_content : List ℕ → List ℕ → Content
ok_content said rest = Ok (said, rest)

same_content : (a b xs ys : List ℕ) → ok_content a xs ≡ ok_content b ys → (a ≡ b) × (xs ≡ ys)
same_content a b xs ys e =
    let p : two a xs ≡ two b ys = cc in
    parts_of a b xs ys p

closed_found : (before bytes content rest : List ℕ) → closed before bytes ≡ Ok (content, rest) → StringIs before (34 ∷ bytes) content rest
closed_found before bytes content rest e =
    if_is (λ r. r ≡ Ok (content, rest) → StringIs before (34 ∷ bytes) content rest) (is_utf8 before) (ok_content before bytes) (Err (NotUtf8, suc (length bytes)))
    (λ h f. let s = same_content before content bytes rest f in
    record { parts = []; are = refl; whole = ap (λ bs. 34 ∷ bs) s.1; says = sym s.0 ∙ sym (append-nil before); utf8 = subst (λ w. is_utf8 w ≡ true) s.0 h })
    (λ h f. absurd cc) e

abbrev Sound : (List ℕ → List ℕ → Content) → Type 0
Sound more = (before bytes content rest : List ℕ) → more before bytes ≡ Ok (content, rest) → StringIs before bytes content rest

escaped_found : (more : List ℕ → List ℕ → Content) → Sound more → (before bytes : List ℕ) (b left : ℕ) (r : Escape) (content rest : List ℕ) → escape_at b bytes ≡ r → escaped more before left r ≡ Ok (content, rest)
    → StringIs before (92 ∷ b ∷ bytes) content rest
escaped_found more sound before bytes b left (Err kind) content rest o e = absurd cc
escaped_found more sound before bytes b left (Ok x) content rest o e =
    let p = escape_found b bytes x.0 x.1 o in
    one_part p.part before (92 ∷ b ∷ bytes) x.1 content rest p.is p.whole
    (subst (λ w. StringIs (before ++ w) x.1 content rest) (sym p.says) (sound (before ++ encode_utf8 x.0) x.1 content rest e))

backslash_found : (more : List ℕ → List ℕ → Content) → Sound more → (before bytes content rest : List ℕ) → backslash more before bytes ≡ Ok (content, rest) → StringIs before (92 ∷ bytes) content rest
backslash_found more sound before [] content rest e = absurd cc
backslash_found more sound before (b ∷ bytes) content rest e = escaped_found more sound before bytes b (suc (suc (length bytes))) (escape_at b bytes) content rest refl e

is_plain_by : (b : ℕ) → (b == 34) ≡ false → (b == 92) ≡ false → nat_lt b 32 ≡ false → is_plain b ≡ true
is_plain_by b e f g = grind arith

step_found : (more : List ℕ → List ℕ → Content) → Sound more → Sound (string_step more)
step_found more sound before [] content rest e = absurd cc
step_found more sound before (b ∷ bs) content rest e =
    let P = λ (r : Content). r ≡ Ok (content, rest) → StringIs before (b ∷ bs) content rest in
    if_is P (b == 34) (closed before bs) _
    (λ h f. subst (λ c. StringIs before (c ∷ bs) content rest) (sym (eqb-true b 34 h)) (closed_found before bs content rest f))
    (λ h. if_is P (b == 92) (backslash more before bs) _
    (λ k f. subst (λ c. StringIs before (c ∷ bs) content rest) (sym (eqb-true b 92 k)) (backslash_found more sound before bs content rest f))
    (λ k. if_is P (nat_lt b 32) (Err (Control, suc (length bs))) (more (before ++ b ∷ []) bs)
    (λ l f. absurd cc)
    (λ l f. one_part (plain b) before (b ∷ bs) bs content rest (is_plain_by b h k l) refl (sound (before ++ b ∷ []) bs content rest f)))) e

string_found_in : (n : ℕ) → Sound (string_from n)
unfolding string_from
string_found_in zero before bytes content rest e = absurd cc
string_found_in (suc n) before bytes content rest e = step_found (string_from n) (string_found_in n) before bytes content rest e

pub string_found : (bytes content rest : List ℕ) → string_at bytes ≡ Ok (content, rest) → StringIs [] bytes content rest
string_found bytes content rest e = string_found_in (suc (length bytes)) [] bytes content rest e
