-- The text of a union.
use Rattle.std.specs.Prelude.{◌≡◌, ℕ, ◌+◌, Bool, true, false, ◌&&◌, ◌||◌, List, [], ◌∷◌}
use Rattle.std.specs.Prelude.{◌++◌, codes, None}
use Rattle.planus_schema.specs.declared.schema.Base.{Base}
use Rattle.planus_schema.specs.declared.schema.Base.TheVariants as base
use Rattle.planus_schema.specs.declared.schema.Union.{Union}
use Rattle.planus_schema.specs.declared.schema.UnionMember.{UnionMember}
use Rattle.planus_tie.specs.Bare.{bare}
use Rattle.planus_tie.specs.Holes.{filled, each, chained, has_text}
use Rattle.planus_tie.specs.declared.holes.Holes.{Holes}
use Rattle.planus_tie.specs.declared.naming.Naming.{Naming}

-- of a union, or of its member of this type and tag at a place
abbrev pub holes_of : ℕ → ℕ → Base → ℕ → Holes
holes_of i place b tag = record {
  index = i;
  place = place;
  base = b;
  number = record { negative = false; magnitude = tag };
  size = 0;
  alignment = 0;
  count = None;
  padding = 0;
}

abbrev pub union_holes : ℕ → Holes
union_holes i = holes_of i 0 base.Text 0

-- of its members from a place on
abbrev pub members_from : ℕ → ℕ → List UnionMember → List Holes
members_from i place [] = []
members_from i place (m ∷ ms) = holes_of i place m.base m.tag ∷ members_from i (place + 1) ms

-- the variant of each member with its tag, by an offset
abbrev pub from_text : List ℕ
from_text = codes "pub fn from_$V($G: Offset<$b>) -> UnionOffset<$T> ensures tag {"
    ++ (codes " result.tag $= $i } ensures offset { result.offset.distance $= $G.distance }"
    ++ codes " { UnionOffset::new($i, $G.downcast()) }")

abbrev pub kind_text : Naming → Holes → List Holes → List ℕ
kind_text n own members =
    filled n own (codes "pub struct $T; impl $T {") ++ each n from_text members

-- the variants as they are read
abbrev pub view_text : Naming → Holes → List Holes → List ℕ
view_text n own members =
    filled n own (codes "} #[derive(Clone, Copy, Debug)] pub enum $TRef<'a> {")
    ++ (each n (codes "$n($R),") members
    ++ filled n own (codes "} impl<'a> TableReadUnion<'a> for $TRef<'a> {"))

abbrev pub reading : List ℕ
reading = codes "ghost reads = { ReadsVariants $M_variants }; fn from_buffer("
    ++ (codes "buffer: SliceWithStartOffset<'a>, tag: u8, offset: usize)"
    ++ codes " -> Result<$TRef<'a>, ErrorKind> {")

-- up to the body of `from_buffer`
abbrev pub start_text : Naming → Holes → List Holes → List ℕ
start_text n own members =
    kind_text n own members ++ (view_text n own members ++ filled n own reading)

-- an arm of a member's tag: on one line, or on several
abbrev pub arm_text : Bool → List ℕ
arm_text false = codes "$i => Ok($TRef::$n($E)),"
arm_text true = codes "$i => { let view = $E; Ok($TRef::$n(view)) }"

-- `from_buffer` has an arm for each member
abbrev pub together_text : Naming → Bool → Holes → List Holes → List ℕ
together_text n wide own members = start_text n own members
    ++ (filled n own (codes "match tag {") ++ (each n (arm_text wide) members
    ++ filled n own (codes "_ => Err(ErrorKind::UnknownUnionTag { tag }), } } }")))

-- or asks the functions that have
abbrev pub asking_text : Naming → Holes → List Holes → List ℕ
asking_text n own members =
    start_text n own members ++ filled n own (codes "from_0(buffer, tag, offset) } }")

abbrev pub chained_next : List ℕ
chained_next = codes "_ => from_$p(buffer, tag, offset), } }"

abbrev pub chained_head : List ℕ
chained_head = codes "#[tactic(auto, unfolding(crate::specs::$T::from_$p_on))] fn from_$p<'a>"
    ++ (codes "(buffer: SliceWithStartOffset<'a>, tag: u8, offset: usize)"
    ++ (codes " -> Result<$TRef<'a>, ErrorKind> ensures { ReadsVariants $M_tags.from_$p_on"
    ++ (codes " (slice_bytes buffer.entry) (slice_start buffer.entry) tag offset result }"
    ++ codes " { match tag {")))

-- those functions
abbrev pub chain_text : Naming → Bool → Holes → List Holes → List ℕ
chain_text n wide own members = chained n chained_next chained_head (arm_text wide) members
    ++ filled n own (codes "_ => Err(ErrorKind::UnknownUnionTag { tag }), } }")

abbrev pub has_together : Naming → Bool → Holes → List Holes → List ℕ → Bool
has_together n wide own members text = has_text text (together_text n wide own members)

abbrev pub has_chain : Naming → Bool → Holes → List Holes → List ℕ → Bool
has_chain n wide own members text = has_text text (chain_text n wide own members)

abbrev pub is_union_text : Naming → Holes → List Holes → List ℕ → Bool
is_union_text n own members text =
    has_together n false own members text || has_together n true own members text
    || (has_text text (asking_text n own members)
    && (has_chain n false own members text || has_chain n true own members text))

-- The text makes each variant with its tag, and reads it by this tag.
abbrev pub IsUnionTied : Naming → ℕ → Union → List ℕ → Type 0
IsUnionTied n i one text =
    is_union_text n (union_holes i) (members_from i 0 one.members.items) (bare text) ≡ true
