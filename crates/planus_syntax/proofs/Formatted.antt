-- What the canonical text of a text has.
use Rattle.std.proofs.Common.{◌≡◌, ℕ, List, Ok, sym, ap, ◌∙◌}
use Rattle.planus_syntax.specs.Values.{SchemaV, AreWhole, IsSchema, schema_pieces, text_of}
use Rattle.planus_syntax.specs.Spelled.{Part, AreParts, spelled}
use Rattle.planus_syntax.specs.Comments.{canonical, elements_of}
use Rattle.planus_syntax.specs.Lexing.{lex_of}
use Rattle.planus_syntax.specs.Parsed.{HasCanonicalText, KeepsComments}
use Rattle.planus_syntax.proofs.Composed.{lexed_spells, spelled_lexes}
use Rattle.planus_syntax.proofs.Elements.{same_tokens, same_comments}
use Rattle.planus_syntax.proofs.Unique.{one_spelling}
use Rattle.planus_syntax.proofs.Woven.{canonical_again, layout_stays}

-- `out` is the canonical text, however the text is spelled
abbrev pub IsCanonical : List ℕ → List ℕ → Type 0
IsCanonical text out = (parts : List Part) → AreParts parts → text ≡ spelled parts → out ≡ canonical (elements_of parts)

pub formats : (text out : List ℕ) (s : SchemaV) → AreWhole s.declarations → lex_of text ≡ Ok (schema_pieces s) → IsCanonical text out → HasCanonicalText text out
formats text out s w l h =
    let k = lexed_spells text s l in record {
      schema = s;
      whole = w;
      parts = k.0;
      are = k.1;
      spells = k.2;
      tokens = k.3;
      canonical = h k.0 k.1 k.2;
    }

pub keeps : (text out : List ℕ) → HasCanonicalText text out → KeepsComments text out
keeps text out f =
    let k = canonical_again f.parts f.are in record {
      schema = f.schema;
      parts = f.parts;
      again = k.0;
      are = f.are;
      are_again = k.1;
      spells = f.spells;
      spells_again = f.canonical ∙ k.2;
      tokens = f.tokens;
      tokens_again = f.tokens ∙ sym (same_tokens k.0 f.parts k.3);
      comments = same_comments k.0 f.parts k.3;
    }

pub formatted_lexes : (source text : List ℕ) (f : HasCanonicalText source text) → lex_of text ≡ Ok (schema_pieces f.schema)
formatted_lexes source text f =
    let k = canonical_again f.parts f.are in
    spelled_lexes text f.schema (k.0, k.1, f.canonical ∙ k.2, f.tokens ∙ sym (same_tokens k.0 f.parts k.3))

pub stays : (source text out : List ℕ) → HasCanonicalText source text → IsCanonical text out → out ≡ text
stays source text out f h =
    let k = canonical_again f.parts f.are in
    h k.0 k.1 (f.canonical ∙ k.2) ∙ ap canonical k.3 ∙ sym f.canonical

pub plain_stays : (text out : List ℕ) (s : SchemaV) → IsSchema s → text ≡ text_of s → IsCanonical text out → out ≡ text
plain_stays text out s i e h =
    let k = layout_stays (schema_pieces s) i.1 in
    h k.0 k.1 (e ∙ k.2) ∙ k.3 ∙ sym e

determined : (text out : List ℕ) → HasCanonicalText text out → IsCanonical text out
determined text out f parts a e =
    f.canonical ∙ ap (λ ps. canonical (elements_of ps)) (one_spelling f.parts parts f.are a (sym f.spells ∙ e))

pub one_canonical_text : (text a b : List ℕ) → HasCanonicalText text a → HasCanonicalText text b → a ≡ b
one_canonical_text text a b f g = determined text a f g.parts g.are g.spells ∙ sym g.canonical

pub canonical_stays : (text a b : List ℕ) → HasCanonicalText text a → HasCanonicalText a b → b ≡ a
canonical_stays text a b f g = stays text a b f (determined a b g)
