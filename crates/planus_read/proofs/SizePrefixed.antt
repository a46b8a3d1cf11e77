-- Size-prefixed buffers, and streams of them.
use Rattle.std.proofs.Common.{◌≡◌, ℕ, ◌+◌, ◌≤◌, ◌<◌, List, [], ◌∷◌, ◌++◌, length, take, drop}
use Rattle.std.proofs.Common.{refl, sym, ap, subst, ◌∙◌, arith, Some, Err, inl, inr}
use Rattle.std.proofs.Common.{length-drop, length-append, Bor}
use Rattle.std.proofs.Math.Seq.{drop-append_seam, take-append_seam}
use Rattle.std.proofs.lemmas.List.{length-take-le, take-append-drop, take-append-le}
use Rattle.std.proofs.lemmas.List.{drop-append-le, take-take}
use Rattle.std.specs.List.{concat}
use Rattle.std.specs.Int.{w32, byte_len, from_le_bytes}
use Rattle.planus_read.specs.declared.errors.ErrorKind.TheVariants.{InvalidOffset, InvalidLength}
use Rattle.planus_read.specs.declared.slice_helpers.SliceWithStartOffset.{SliceWithStartOffset}
use Rattle.planus_read.specs.Bytes.{Num}
use Rattle.planus_read.specs.Clauses.{AllHold, FirstBroken}
use Rattle.planus_read.specs.Slices.{slice_bytes, slice_start}
use Rattle.planus_read.specs.Reading.{number}
use Rattle.planus_read.specs.ReadingLaws.{Decides, IsOne, IsLawful, IsAnswered}
use Rattle.planus_read.specs.SizePrefixed.{Prefixed, PrefixedThere, prefixed_clauses}
use Rattle.planus_read.specs.SizePrefixed.{prefixed_reading, ShowsPrefixed, IsPrefixed}
use Rattle.planus_read.specs.SizePrefixed.{StreamsRead, CutsAreRefused, BuffersAreRead}
use Rattle.planus_read.proofs.Reading.{num_inside, num_there, num_value}
use Rattle.planus_read.proofs.ReadingLaws.{OneError, lawful, this_error}

pub prefixed_there :
    (B : List ℕ) → AllHold (prefixed_clauses B)
    → PrefixedThere B (take (number B 0 w32) (drop 4 B)) (drop (number B 0 w32) (drop 4 B))
prefixed_there B h =
    let within : 4 + number B 0 w32 ≤ length B = h.1.0 in
    let long : length (take (number B 0 w32) (drop 4 B)) ≡ number B 0 w32 =
    length-take-le (number B 0 w32) (drop 4 B) (omega (arith, length-drop 4 B)) in
    record {
      size = num_there B 0 w32 h.0 ∙ ap Some (sym long);
      bytes = sym (take-append-drop (number B 0 w32) (drop 4 B));
    }

pub record PrefixedHolds (B content rest : List ℕ) : Type 0 where
  pub holds : AllHold (prefixed_clauses B)
  pub content_is : content ≡ take (number B 0 w32) (drop 4 B)
  pub rest_is : rest ≡ drop (number B 0 w32) (drop 4 B)

pub prefixed_holds :
    (B content rest : List ℕ) → PrefixedThere B content rest → PrefixedHolds B content rest
prefixed_holds B content rest h =
    let inside : 0 + byte_len w32 ≤ length B = num_inside B 0 w32 (length content) h.size in
    let counted : length content ≡ number B 0 w32 = num_value B 0 w32 (length content) h.size in
    let whole : length (drop 4 B) ≡ length content + length rest =
    ap length h.bytes ∙ length-append content rest in
    record {
      holds = (inside, (omega (arith, length-drop 4 B), tt));
      content_is = sym (take-append_seam content rest) ∙ ap (take (length content)) (sym h.bytes)
          ∙ ap (λ n. take n (drop 4 B)) counted;
      rest_is = sym (drop-append_seam content rest) ∙ ap (drop (length content)) (sym h.bytes)
          ∙ ap (λ n. drop n (drop 4 B)) counted;
    }

prefixed_of : List ℕ → List ℕ → Prefixed
prefixed_of content rest = record { content = content; rest = rest }

same_prefixed : (a b : Prefixed) → a.content ≡ b.content → a.rest ≡ b.rest → a ≡ b
unfolding prefixed_of
same_prefixed a b c r = ap (λ l. prefixed_of l a.rest) c ∙ ap (prefixed_of b.content) r

prefixed_errors : (B : List ℕ) → OneError (prefixed_clauses B)
prefixed_errors B = (this_error InvalidOffset, (this_error InvalidLength, tt))

pub lawful_prefixed : (B : List ℕ) → IsLawful (prefixed_reading B)
lawful_prefixed B = lawful (prefixed_reading B) (prefixed_errors B) decides one
  where
    decides : Decides (prefixed_reading B)
    decides = (
      (λ h. (
        record {
          content = take (number B 0 w32) (drop 4 B);
          rest = drop (number B 0 w32) (drop 4 B);
        },
        prefixed_there B h,
      )),
      λ x. (prefixed_holds B x.0.content x.0.rest x.1).holds,
    )

    one : IsOne (prefixed_reading B)
    one x y h k =
        let a : PrefixedHolds B x.content x.rest = prefixed_holds B x.content x.rest h in
        let b : PrefixedHolds B y.content y.rest = prefixed_holds B y.content y.rest k in
        same_prefixed x y (a.content_is ∙ sym b.content_is) (a.rest_is ∙ sym b.rest_is)

pub prefixed_answer :
    (B : List ℕ) (size : ℕ) (slice : SliceWithStartOffset) (rest : Bor (List ℕ))
    → Num B 0 w32 ≡ Some size → size ≤ length (drop 4 B)
    → slice_bytes slice ≡ take size (drop 4 B) → slice_start slice ≡ 4
    → rest.now ≡ drop size (drop 4 B)
    → (x : Prefixed) × PrefixedThere B x.content x.rest × ShowsPrefixed x (slice, rest)
prefixed_answer B size slice rest word fits content begin behind =
    let long : length (take size (drop 4 B)) ≡ size = length-take-le size (drop 4 B) fits in (
      record { content = take size (drop 4 B); rest = drop size (drop 4 B) },
      record {
        size = word ∙ ap Some (sym long);
        bytes = sym (take-append-drop size (drop 4 B));
      },
      record { content = content; begin = begin; rest = behind },
    )

number_in_front :
    (B rest : List ℕ) (n : ℕ) → Num B 0 w32 ≡ Some n → Num (B ++ rest) 0 w32 ≡ Some n
number_in_front B rest n h =
    let inside : 0 + byte_len w32 ≤ length B = num_inside B 0 w32 n h in
    let same : take 4 (B ++ rest) ≡ take 4 B = take-append-le 4 B rest inside in
    let longer : 0 + byte_len w32 ≤ length (B ++ rest) = omega (arith, length-append B rest) in
    num_there (B ++ rest) 0 w32 longer
    ∙ ap Some (ap (from_le_bytes w32) same ∙ sym (num_value B 0 w32 n h))

pub prefixed_in_front :
    (B rest : List ℕ) → IsPrefixed B → PrefixedThere (B ++ rest) (drop 4 B) rest
prefixed_in_front B rest h = record {
  size = number_in_front B rest (length (drop 4 B)) h;
  bytes = drop-append-le 4 B rest (num_inside B 0 w32 (length (drop 4 B)) h);
}

append_assoc : (xs ys zs : List ℕ) → (xs ++ ys) ++ zs ≡ xs ++ (ys ++ zs)
append_assoc [] ys zs = refl
append_assoc (x ∷ xs) ys zs = ap (λ l. x ∷ l) (append_assoc xs ys zs)

pub buffers_are_read : BuffersAreRead
buffers_are_read B rest h = (lawful_prefixed (B ++ rest)).answered
    (record { content = drop 4 B; rest = rest }) (prefixed_in_front B rest h)

pub streams_read : StreamsRead
streams_read [] left h = refl
streams_read (buffer ∷ buffers) left h =
    let rest : List ℕ = concat buffers ++ left in (
      rest,
      subst (λ B. IsAnswered (prefixed_reading B)
          (record { content = drop 4 buffer; rest = rest }))
          (sym (append_assoc buffer (concat buffers) left)) (buffers_are_read buffer rest h.0),
      streams_read buffers left h.1,
    )

number_of_cut :
    (B : List ℕ) (n : ℕ) → 4 ≤ n → n ≤ length B → number (take n B) 0 w32 ≡ number B 0 w32
number_of_cut B n h k = ap (from_le_bytes w32) (take-take 4 n B h)

pub cuts_are_refused : CutsAreRefused
cuts_are_refused B n h least short r answer =
    let word : number B 0 w32 ≡ length (drop 4 B) =
    sym (num_value B 0 w32 (length (drop 4 B)) h) in
    let same : number (take n B) 0 w32 ≡ number B 0 w32 =
    number_of_cut B n least (let s : n < length B = short in omega arith) in
    let long : length (take n B) ≡ n =
    length-take-le n B (let s : n < length B = short in omega arith) in
    let broken : FirstBroken (prefixed_clauses (take n B)) InvalidLength =
    inr (
      (let l : 4 ≤ n = least in omega (arith, long)),
      inl (
        (λ fits.
            let f : 4 + number (take n B) 0 w32 ≤ length (take n B) = fits in
            let s : n < length B = short in
            omega (arith, f, same, word, long, length-drop 4 B)),
        refl,
      ),
    ) in
    (lawful_prefixed (take n B)).same r (Err InvalidLength) answer broken
