-- Both directions together.
use Rattle.std.proofs.Common.{◌≡◌, ℕ, List, [], Ok, Err, sym, ap, ◌∙◌}
use Rattle.planus_syntax.specs.declared.value.Schema.{Schema}
use Rattle.planus_syntax.specs.declared.parse_fault.ParseFault.{ParseFault}
use Rattle.planus_syntax.specs.declared.lexer.LexFault.{LexFault}
use Rattle.planus_syntax.specs.Tokens.{Piece}
use Rattle.planus_syntax.specs.Values.{SchemaV, AreWhole, IsSchema, schema_of, schema_pieces, text_of}
use Rattle.planus_syntax.specs.Lexing.{Read, lex_of}
use Rattle.planus_syntax.specs.Reading.{Fault, Reads, schema_at}
use Rattle.planus_syntax.specs.Parsed.{AnswersParse, Spells}
use Rattle.planus_syntax.proofs.Many.{ok_is}
use Rattle.planus_syntax.proofs.Spelling as spelling
use Rattle.planus_syntax.proofs.Laid.{layout_spells}
use Rattle.planus_syntax.proofs.Again.{schema_again}
use Rattle.planus_syntax.proofs.Loops.{schema_takes}
use Rattle.planus_syntax.proofs.Placed.{not_both}

abbrev pub lexed : List Piece → Read
lexed ps = Ok ps

lexed_is : (a b : List Piece) → lexed a ≡ lexed b → a ≡ b
lexed_is a b e = cc

abbrev read : SchemaV → Reads SchemaV
read s = Ok (s, [])

read_is : (a b : SchemaV) → read a ≡ read b → a ≡ b
read_is a b e = ap (λ (x : SchemaV × List Piece). x.0) (ok_is (a, []) (b, []) e)

pub text_spells : (s : SchemaV) → IsSchema s → Spells (text_of s) s
text_spells s h = layout_spells (schema_pieces s) h.1

pub spelled_lexes : (bytes : List ℕ) (s : SchemaV) → Spells bytes s → lex_of bytes ≡ Ok (schema_pieces s)
spelled_lexes bytes s h = ap lex_of h.2 ∙ spelling.spelling_read h.0 h.1 ∙ ap lexed (sym h.3)

pub text_again : (s : SchemaV) → IsSchema s → lex_of (text_of s) ≡ Ok (schema_pieces s)
text_again s h = spelled_lexes (text_of s) s (text_spells s h)

pub text_lexes : (bytes : List ℕ) (s : SchemaV) → IsSchema s → bytes ≡ text_of s → lex_of bytes ≡ Ok (schema_pieces s)
text_lexes bytes s h e = ap lex_of e ∙ text_again s h

pub lexed_spells : (bytes : List ℕ) (s : SchemaV) → lex_of bytes ≡ Ok (schema_pieces s) → Spells bytes s
lexed_spells bytes s o = spelling.spelling_found bytes (schema_pieces s) o

pub one_schema : (a b : SchemaV) → IsSchema a → IsSchema b → text_of a ≡ text_of b → a ≡ b
one_schema a b ha hb e =
    let pieces : schema_pieces a ≡ schema_pieces b = lexed_is (schema_pieces a) (schema_pieces b) (sym (text_again a ha) ∙ ap lex_of e ∙ text_again b hb) in
    read_is a b (sym (schema_again a ha.0) ∙ ap schema_at pieces ∙ schema_again b hb.0)

pub is_found : (len : ℕ) (ps : List Piece) (v : Schema) → AnswersParse len (Ok v) (schema_at ps) → ps ≡ schema_pieces (schema_of v)
is_found len ps v h = (schema_takes ps (schema_of v, []) h).0

pub is_only : (ps : List Piece) (v : Schema) → schema_at ps ≡ Ok (schema_of v, []) → (s : SchemaV) → AreWhole s.declarations → ps ≡ schema_pieces s → schema_of v ≡ s
is_only ps v h s w e = read_is (schema_of v) s (sym h ∙ ap schema_at e ∙ schema_again s w)

both_ends : (s : SchemaV) (f : Fault) (r : Reads SchemaV) → r ≡ Ok (s, []) → r ≡ Err f → ⊥
both_ends s f (Ok x) e g = cc
both_ends s f (Err x) e g = cc

pub is_no_other : (ps : List Piece) (s : SchemaV) (fault : ParseFault) (left : ℕ) → AreWhole s.declarations → ps ≡ schema_pieces s → schema_at ps ≡ Err (fault, left) → ⊥
is_no_other ps s fault left w e h = both_ends s (fault, left) (schema_at ps) (ap schema_at e ∙ schema_again s w) h

pub whole_pieces : (s : SchemaV) (bytes : List ℕ) (ps : List Piece) → lex_of bytes ≡ Ok (schema_pieces s) → lex_of bytes ≡ Ok ps → ps ≡ schema_pieces s
whole_pieces s bytes ps e l = lexed_is ps (schema_pieces s) (sym l ∙ e)

pub never_lexed : (s : SchemaV) (bytes : List ℕ) (f : LexFault × ℕ) → lex_of bytes ≡ Ok (schema_pieces s) → lex_of bytes ≡ Err f → ⊥
never_lexed s bytes f e l = not_both (schema_pieces s) f (lex_of bytes) e l
