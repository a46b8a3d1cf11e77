-- A tree as JSON.
use Rattle.std.specs.Prelude.{◌≡◌, ℕ, ◌==◌, nat_lt, List, [], ◌∷◌, ◌++◌, codes}
use Rattle.std.specs.Prelude.{Bool, true, false, if◌then◌else◌, ◌||◌, ◌⊎◌}
use Rattle.std.specs.Char.{encode_utf8}
use Rattle.std.specs.Fmt.{decimal}
use Rattle.std.specs.List.{flat_map}
use Rattle.std.specs.Str.{chars}
use Rattle.planus_dump.specs.Lines.{hex_of}
use Rattle.planus_dump.specs.Floats.{IsNan, IsInfinite, IsFinite, ReadsBackTo, infinity_text}
use Rattle.planus_dump.specs.Floats.{number_of}
use Rattle.planus_dump.specs.declared.line.Bits.{Bits}
use Rattle.planus_json.specs.Trees as trees
use Rattle.planus_json.specs.Trees.{Tree, Trees, Members}

-- ---- strings

-- a character: `\` and a letter or four digits where JSON wants that, or the character itself
abbrev pub escaped : ℕ → List ℕ
escaped c =
    if c == 34 || c == 92 then 92 ∷ c ∷ []
    else (if c == 8 then codes "\\b"
    else (if c == 12 then codes "\\f"
    else (if c == 10 then codes "\\n"
    else (if c == 13 then codes "\\r"
    else (if c == 9 then codes "\\t"
    else (if nat_lt c 32 then codes "\\u00" ++ hex_of c else encode_utf8 c))))))

-- a string within quotes
abbrev pub quoted : List ℕ → List ℕ
quoted text = 34 ∷ (flat_map escaped (chars text) ++ codes "\"")

-- ---- floats

-- in quotes, if JSON has no such number and none but JSON is wanted
abbrev pub strictly : Bool → List ℕ → List ℕ
strictly true text = 34 ∷ (text ++ codes "\"")
strictly false text = text

-- A decimal that reads back to the same bits, or the bits in quotes. No clause says which of these.
abbrev pub IsFloatText : Bool → Bits → List ℕ → Type 0
IsFloatText strict b text =
    (IsNan b × (text ≡ strictly strict (codes "nan")))
    ⊎ (IsInfinite b × (text ≡ strictly strict (infinity_text b)))
    ⊎ (IsFinite b × (ReadsBackTo b text
    ⊎ (text ≡ codes "\"bits " ++ (decimal (number_of b) ++ codes "\""))))

-- ---- tokens

-- A bracket that opens; what stands before a member or an item on this line; a bracket that closes on
-- this line; text; a float; an error, of a path; what is too deep.
pub data Token : Type 0 where
  opens : ℕ → Token
  begins : List ℕ → Token
  closes : List ℕ → ℕ → Token
  plain : List ℕ → Token
  number : Bits → Token
  fault : List ℕ → List ℕ → Token
  deep : Token

-- A line is a line break and spaces, or nothing where the layout is compact; this is the line of what
-- stands inside, two spaces further on.
abbrev pub inner : List ℕ → List ℕ
inner [] = []
inner (byte ∷ line) = byte ∷ (line ++ codes "  ")

-- a space, unless the layout is compact
abbrev pub gap : List ℕ → List ℕ
gap [] = []
gap (byte ∷ line) = codes " "

-- a name before its value
abbrev pub label : List ℕ → List ℕ → List ℕ
label line name = 34 ∷ (name ++ (codes "\":" ++ gap line))

abbrev mutual
  pub tokens : List ℕ → Tree → List Token
  tokens line (trees.word text) = plain text ∷ []
  tokens line (trees.float b) = number b ∷ []
  tokens line (trees.string text) = plain (quoted text) ∷ []
  tokens line (trees.list ts) = opens 91 ∷ (items_tokens (inner line) ts ++ closes line 93 ∷ [])
  tokens line (trees.object ms) =
      opens 123 ∷ (members_tokens (inner line) ms ++ closes line 125 ∷ [])
  tokens line (trees.fault path text) = fault path text ∷ []
  tokens line trees.deep = deep ∷ []
  tokens line trees.nothing = []

  pub items_tokens : List ℕ → Trees → List Token
  items_tokens line trees.none = []
  items_tokens line (trees.item t ts) = begins line ∷ (tokens line t ++ items_tokens line ts)

  pub members_tokens : List ℕ → Members → List Token
  members_tokens line trees.empty = []
  members_tokens line (trees.member name t ms) =
      begins line ∷ plain (label line name) ∷ (tokens line t ++ members_tokens line ms)

-- ---- text

-- a comma, unless a bracket was opened just now
abbrev pub comma : Bool → List ℕ
comma true = []
comma false = codes ","

-- between two brackets only a space, unless the layout is compact
abbrev pub ending : Bool → List ℕ → List ℕ
ending true line = gap line
ending false line = line

-- whether a bracket was opened just now, after this token
abbrev pub is_first : Bool → Token → Bool
is_first first (opens bracket) = true
is_first first (begins line) = false
is_first first (closes line bracket) = false
is_first first (plain text) = first
is_first first (number b) = first
is_first first (fault path text) = first
is_first first deep = first

-- the text of a token; an error has none
abbrev pub Shows : Bool → Bool → Token → List ℕ → Type 0
Shows strict first (opens bracket) shown = shown ≡ bracket ∷ []
Shows strict first (begins line) shown = shown ≡ comma first ++ line
Shows strict first (closes line bracket) shown = shown ≡ ending first line ++ bracket ∷ []
Shows strict first (plain text) shown = shown ≡ text
Shows strict first (number b) shown = IsFloatText strict b shown
Shows strict first (fault path text) shown = ⊥
Shows strict first deep shown = ⊥

-- the text of tokens, one after another
abbrev pub AreShown : Bool → Bool → List Token → List ℕ → Type 0
AreShown strict first [] shown = shown ≡ []
AreShown strict first (token ∷ others) shown =
    (front rest : List ℕ) × (shown ≡ front ++ rest) × Shows strict first token front
    × AreShown strict (is_first first token) others rest

abbrev pub are_first : Bool → List Token → Bool
are_first first [] = first
are_first first (token ∷ others) = are_first (is_first first token) others
