-- Where the words of a schema are.
use Rattle.std.specs.Prelude.{ℕ, ◌-◌, nat_lt, Bool, true, false, List, [], ◌∷◌}
use Rattle.std.specs.Prelude.{length, slice_get, Option, Some, None, if◌then◌else◌}
use Rattle.std.specs.Option.{option_map, option_or, unwrap_or}
use Rattle.std.specs.Global.{Vec}
use Rattle.planus_syntax.specs.declared.value.Declaration.{Declaration}
use Rattle.planus_syntax.specs.declared.value.Item.{Item}
use Rattle.planus_syntax.specs.declared.value.Item.TheVariants as item
use Rattle.planus_resolve.specs.Faults.{Placed, placed_from, name_left}
use Rattle.planus_conform.specs.declared.breaks.Place.{Place}
use Rattle.planus_conform.specs.declared.breaks.Place.TheVariants as place
use Rattle.planus_cli.specs.declared.meaning.Meaning.{Meaning}
use Rattle.planus_cli.specs.declared.parts.Word.{Word}
use Rattle.planus_cli.specs.declared.spots.Spot.{Spot}

-- the word of a field, a value or a member of this index: the tokens from it to the end
abbrev pub part_left : Item → ℕ → Option ℕ
part_left (item.Table r) k = option_map (λ f. f.left) (slice_get r.fields.items k)
part_left (item.Struct r) k = option_map (λ f. f.left) (slice_get r.fields.items k)
part_left (item.Enum e) k = option_map (λ v. v.left) (slice_get e.variants.items k)
part_left (item.Union u) k = option_map (λ m. m.path.left) (slice_get u.members.items k)
part_left i k = None

abbrev pub part_left_if : Item → Option ℕ → Option ℕ
part_left_if i None = None
part_left_if i (Some k) = part_left i k

-- the word of a part, or else the declaration's name
abbrev pub word_left : Declaration → Option ℕ → ℕ
word_left d part = unwrap_or (part_left_if d.item part) (name_left d)

-- the spot is in one of so many files
abbrev pub spot_if : ℕ → ℕ → ℕ → Option Spot
spot_if count file left =
    if nat_lt file count then Some (record { file = file; left = left }) else None

abbrev pub spot_in : ℕ → Option Placed → Option ℕ → Option Spot
spot_in count None part = None
spot_in count (Some p) part = spot_if count p.head.file (word_left p.tree part)

abbrev pub spot_at : ℕ → List Placed → Option ℕ → Option ℕ → Option Spot
spot_at count ps None part = None
spot_at count ps (Some i) part = spot_in count (slice_get ps i) part

abbrev pub declared_spot : ℕ → List Placed → Word → Option Spot
declared_spot count ps w = spot_at count ps w.declaration w.part

abbrev pub is_stated : Place → Item → Bool
is_stated place.Root (item.RootType path) = true
is_stated place.Identifier (item.FileIdentifier w) = true
is_stated p i = false

-- the word after the first of the last such statement, or this
abbrev pub left_after : Place → Option ℕ → List Declaration → Option ℕ
left_after p found [] = found
left_after p found (d ∷ ds) =
    left_after p (if is_stated p d.item then Some (name_left d) else found) ds

abbrev pub stated_left : Place → List Declaration → Option ℕ
stated_left p ds = left_after p None ds

abbrev pub spot_by : ℕ → ℕ → Option ℕ → Option Spot
spot_by count file None = None
spot_by count file (Some left) = spot_if count file left

abbrev pub stated_in : ℕ → ℕ → Place → Option (Vec Declaration) → Option Spot
stated_in count file p None = None
stated_in count file p (Some ds) = spot_by count file (stated_left p ds.items)

-- the statements are those of the last file
abbrev pub stated_spot : ℕ → List (Vec Declaration) → Place → Option Spot
stated_spot count files p =
    stated_in count (length files - 1) p (slice_get files (length files - 1))

-- where a word is, or else the statement
abbrev pub spot_of : ℕ → List (Vec Declaration) → List Placed → Word → Place → Option Spot
spot_of count files ps w p = option_or (declared_spot count ps w) (stated_spot count files p)

-- where a word of a schema is
abbrev pub spot_of_word : Meaning → Word → Place → Option Spot
spot_of_word meaning w p = spot_of (length meaning.files.items) meaning.declarations.items
    (placed_from 0 meaning.declarations.items) w p
