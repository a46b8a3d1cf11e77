-- What the empty table shows.
use Rattle.std.proofs.Common.{◌≡◌, ℕ, ◌+◌, ◌-◌, ◌*◌, Bool, true, false, List, [], ◌∷◌, refl, ap, subst, ◌∙◌, Option, Some, None, ◌⊎◌, inl, inr, arith, Ok}
use Rattle.std.specs.Prelude.{◌&&◌, ◌||◌, not, if◌then◌else◌, nat_le, nat_lt}
use Rattle.std.proofs.lemmas.Bool.Decides.{nat_tests}
use Rattle.planus_read.specs.Tables.{Slot}
use Rattle.planus_dump.specs.Answers.{Seen, table_at, union_at, unions_at}
use Rattle.planus_schema.specs.declared.schema.Base.{Base}
use Rattle.planus_schema.specs.declared.schema.Base.TheVariants as base
use Rattle.planus_schema.specs.declared.schema.Declared.{Declared}
use Rattle.planus_schema.specs.declared.schema.TableField.{TableField}
use Rattle.planus_resolve.specs.Defaults.{empty}
use Rattle.planus_conform.specs.declared.breaks.Change.{Change}
use Rattle.planus_conform.specs.declared.breaks.Change.TheVariants as change
use Rattle.planus_conform.specs.declared.breaks.Way.{Way}
use Rattle.planus_conform.specs.declared.breaks.Way.TheVariants as way
use Rattle.planus_conform.specs.Floats.{DefaultV, written}
use Rattle.planus_conform.specs.Found.{field, Found, unknown, withdrawn, absent, missing, default, table}
use Rattle.planus_conform.specs.Values.{body_at, fields_in, table_found}
use Rattle.planus_conform.specs.Reads.{is_nothing, given, default_found, default_of, absent_found, field_in, placed_found, one_union_found, unions_found, found_by, found_if, called}
use Rattle.planus_conform.specs.Alike.{Same, is_left_out, is_missing, is_excused, SameAnswers}
use Rattle.planus_conform.specs.Types.{same_type}
use Rattle.planus_conform.specs.Defaults.{same_given, same_default}
use Rattle.planus_conform.specs.Breaks.{meets_new, change_if, may_require, same_nested, kept_change, change_from}
use Rattle.planus_conform.specs.Witnesses.{empty_table, shows_absent, ChangesShow}
use Rattle.planus_conform.proofs.Parts.{given_is_same}

abbrev seen : Seen
seen = record { object = 4 ∷ 0 ∷ 0 ∷ 0 ∷ []; slots = [] }

empty_is_seen : table_at empty_table 0 ≡ Ok seen
unfolding table_at
empty_is_seen = refl

past_end : (m : ℕ) → nat_le (2 * m + 2) 0 ≡ false
past_end m = grind (arith, nat_tests)

no_slot : (m : ℕ) → Slot [] m ≡ 0
no_slot m = rw (past_end m) refl

no_union : (m : ℕ) → nat_le 0 (2 * m) ≡ true
no_union m = grind (arith, nat_tests)

no_unions : (m : ℕ) → nat_lt 0 (2 * m + 4) ≡ true
no_unions m = grind (arith, nat_tests)

-- ---- the calls of two schemas' code, one each

abbrev Agree : Way → Found → Found → Type 0
Agree w x y = (is_excused w x y ≡ true) ⊎ Same x y

tables_not_excused : (w : Way) (i j : ℕ) → is_excused w (table i seen) (table j seen) ≡ false
tables_not_excused way.Both i j = refl
tables_not_excused way.Backward i j = refl
tables_not_excused way.Forward i j = refl

once : (w : Way) (old new : List Declared) (i j n : ℕ) → SameAnswers w old new (table i seen) (table j seen) (field n ∷ [])
    → Agree w (called old (table i seen) (field n)) (called new (table j seen) (field n))
once w old new i j n (inl e) =
    inl (subst (λ b. (b || is_excused w (called old (table i seen) (field n)) (called new (table j seen) (field n))) ≡ true) (tables_not_excused w i j) e)
once w old new i j n (inr s) = inr s

abbrev given_in : Found → DefaultV
given_in (default v) = v
given_in x = written empty

-- ---- absent fields

default_shows : (p q : Bool) (v w : DefaultV) → (if p || q then p && q else same_given v w) ≡ false → Same (if p then absent else default v) (if q then absent else default w) → ⊥
default_shows true true v w e s = absurd cc
default_shows true false v w e s = absurd cc
default_shows false true v w e s = absurd cc
default_shows false false v w e s =
    let same : v ≡ w = ap given_in s in
    let is : same_given v w ≡ true = subst (λ u. same_given v u ≡ true) same (given_is_same v) in
    absurd cc

left_out : (p : Bool) (v : DefaultV) → is_left_out (if p then absent else default v) ≡ true
left_out true v = refl
left_out false v = refl

default_left : (f : TableField) → is_left_out (default_found f.kind (default_of f)) ≡ true
default_left f = left_out (is_nothing f.kind (default_of f)) (given f.kind.base (default_of f))

unknown_not_excused : (w : Way) (x : Found) → (is_missing x ≡ true) ⊎ (is_left_out x ≡ true) → is_excused w x unknown ≡ false
unknown_not_excused way.Both x k = refl
unknown_not_excused way.Backward missing k = refl
unknown_not_excused way.Backward absent k = refl
unknown_not_excused way.Backward (default v) k = refl
unknown_not_excused way.Forward missing k = refl
unknown_not_excused way.Forward absent k = refl
unknown_not_excused way.Forward (default v) k = refl
unknown_not_excused w x (inl e) = absurd cc
unknown_not_excused w x (inr e) = absurd cc

unknown_not_same : (x : Found) → (is_missing x ≡ true) ⊎ (is_left_out x ≡ true) → Same x unknown → ⊥
unknown_not_same missing k s = absurd cc
unknown_not_same absent k s = absurd cc
unknown_not_same (default v) k s = absurd cc
unknown_not_same x (inl e) s = absurd cc
unknown_not_same x (inr e) s = absurd cc

unknown_shows : (w : Way) (x : Found) → (is_missing x ≡ true) ⊎ (is_left_out x ≡ true) → Agree w x unknown → ⊥
unknown_shows w x k (inl e) = let no = unknown_not_excused w x k in absurd cc
unknown_shows w x k (inr s) = unknown_not_same x k s

left_not_excused : (w : Way) (x y : Found) → is_left_out x ≡ true → is_left_out y ≡ true → is_excused w x y ≡ false
left_not_excused way.Both absent absent k l = refl
left_not_excused way.Both absent (default v) k l = refl
left_not_excused way.Both (default u) absent k l = refl
left_not_excused way.Both (default u) (default v) k l = refl
left_not_excused way.Backward absent absent k l = refl
left_not_excused way.Backward absent (default v) k l = refl
left_not_excused way.Backward (default u) absent k l = refl
left_not_excused way.Backward (default u) (default v) k l = refl
left_not_excused way.Forward absent absent k l = refl
left_not_excused way.Forward absent (default v) k l = refl
left_not_excused way.Forward (default u) absent k l = refl
left_not_excused way.Forward (default u) (default v) k l = refl
left_not_excused w x y k l = absurd cc

missing_shows : (w : Way) (y : Found) → may_require w true false ≡ false → is_left_out y ≡ true → Agree w missing y → ⊥
missing_shows way.Both absent e l (inl a) = absurd cc
missing_shows way.Both (default v) e l (inl a) = absurd cc
missing_shows way.Forward absent e l (inl a) = absurd cc
missing_shows way.Forward (default v) e l (inl a) = absurd cc
missing_shows w absent e l (inr s) = absurd cc
missing_shows w (default v) e l (inr s) = absurd cc
missing_shows w y e l a = absurd cc

shows_missing : (w : Way) (x : Found) → may_require w false true ≡ false → is_left_out x ≡ true → Agree w x missing → ⊥
shows_missing way.Both absent e l (inl a) = absurd cc
shows_missing way.Both (default v) e l (inl a) = absurd cc
shows_missing way.Backward absent e l (inl a) = absurd cc
shows_missing way.Backward (default v) e l (inl a) = absurd cc
shows_missing w absent e l (inr s) = absurd cc
shows_missing w (default v) e l (inr s) = absurd cc
shows_missing w x e l a = absurd cc

same_requires : (w : Way) (b : Bool) → may_require w b b ≡ false → ⊥
same_requires way.Both true e = absurd cc
same_requires way.Both false e = absurd cc
same_requires way.Backward true e = absurd cc
same_requires way.Backward false e = absurd cc
same_requires way.Forward true e = absurd cc
same_requires way.Forward false e = absurd cc

required_shows : (w : Way) (r s : Bool) (x y : Found) → is_left_out x ≡ true → is_left_out y ≡ true → may_require w r s ≡ false → Agree w (if r then missing else x) (if s then missing else y) → ⊥
required_shows w true true x y k l e a = same_requires w true e
required_shows w false false x y k l e a = same_requires w false e
required_shows w true false x y k l e a = missing_shows w y e l a
required_shows w false true x y k l e a = shows_missing w x e k a

none_of : (r s d : Bool) → (r || s || d) ≡ false → (r ≡ false) × (s ≡ false) × (d ≡ false)
none_of true s d e = absurd cc
none_of false true d e = absurd cc
none_of false false true e = absurd cc
none_of false false false e = (refl, refl, refl)

shown_in : Option Change → Bool
shown_in None = false
shown_in (Some c) = shows_absent c

which_change : (a b c d : Bool) (x : Change)
    → (if not a then Some change.TypeChanged else if not b then Some change.RequiredChanged else if not c then Some change.DefaultChanged else change_if (not d) change.NestedChanged) ≡ Some x
    → shows_absent x ≡ true → (b ≡ false) ⊎ (c ≡ false)
unfolding shown_in
which_change false b c d x e s = let is : false ≡ shows_absent x = ap shown_in e in absurd cc
which_change true false c d x e s = inl refl
which_change true true false d x e s = inr refl
which_change true true true true x e s = absurd cc
which_change true true true false x e s = let is : false ≡ shows_absent x = ap shown_in e in absurd cc

defaults_show : (w : Way) (f g : TableField) → same_default f g ≡ false → (r s : Bool) → r ≡ false → s ≡ false
    → Agree w (if r then missing else default_found f.kind (default_of f)) (if s then missing else default_found g.kind (default_of g)) → ⊥
defaults_show w f g d true s e k a = absurd cc
defaults_show w f g d false true e k a = absurd cc
defaults_show w f g d false false e k (inl a) =
    let no = left_not_excused w _ _ (default_left f) (default_left g) in absurd cc
defaults_show w f g d false false e k (inr a) =
    default_shows (is_nothing f.kind (default_of f)) (is_nothing g.kind (default_of g)) (given f.kind.base (default_of f)) (given g.kind.base (default_of g)) d a

abbrev absent_if : Option TableField → Found
absent_if None = unknown
absent_if (Some f) = if f.deprecated then withdrawn else absent_found f

absent_kind : (f : TableField) → (is_missing (absent_found f) ≡ true) ⊎ (is_left_out (absent_found f) ≡ true)
absent_kind f = by_test f.required
  where
    by_test : (b : Bool) → (is_missing (if b then missing else default_found f.kind (default_of f)) ≡ true) ⊎ (is_left_out (if b then missing else default_found f.kind (default_of f)) ≡ true)
    by_test true = inl refl
    by_test false = inr (default_left f)

withdrawn_shows : (w : Way) (r : Bool) (x : Found) (c : Change) → change_if (r && meets_new w) change.RequiredDeprecated ≡ Some c → Agree w (if r then missing else x) withdrawn → ⊥
withdrawn_shows way.Both true x c e (inl a) = absurd cc
withdrawn_shows way.Forward true x c e (inl a) = absurd cc
withdrawn_shows way.Backward true x c e a = absurd cc
withdrawn_shows w true x c e (inr s) = absurd cc
withdrawn_shows w false x c e a = absurd cc

found_shows : (w : Way) (m : List (Option ℕ)) (f : TableField) (o : Option TableField) (c : Change) → change_from w m f o ≡ Some c → shows_absent c ≡ true → Agree w (absent_found f) (absent_if o) → ⊥
found_shows w m f None c e s a = unknown_shows w (absent_found f) (absent_kind f) a
found_shows w m f (Some g) c e s a = by_test g.deprecated e a
  where
    by_change : Agree w (absent_found f) (absent_found g) → (may_require w f.required g.required ≡ false) ⊎ ((f.required || g.required || same_default f g) ≡ false) → ⊥
    by_change a (inl r) = required_shows w f.required g.required _ _ (default_left f) (default_left g) r a
    by_change a (inr d) =
        let parts = none_of f.required g.required (same_default f g) d in
        defaults_show w f g parts.2 f.required g.required parts.0 parts.1 a

    by_test : (b : Bool) → (if b then change_if (f.required && meets_new w) change.RequiredDeprecated else kept_change w m f g) ≡ Some c
        → Agree w (absent_found f) (if b then withdrawn else absent_found g) → ⊥
    by_test true e a = withdrawn_shows w f.required (default_found f.kind (default_of f)) c e a
    by_test false e a =
        by_change a (which_change (same_type m f.kind g.kind) (may_require w f.required g.required) (f.required || g.required || same_default f g) (same_nested m f.nested g.nested) c e s)

placed_absent : (ds : List Declared) (f : TableField) → placed_found ds f seen ≡ absent_found f
placed_absent ds f = rw (no_slot f.slot) refl

union_absent : (ds : List Declared) (f : TableField) (i : ℕ) (b : Bool) → (if b then unions_found f i (unions_at seen (f.slot - 1)) else one_union_found ds f i seen (union_at seen (f.slot - 1))) ≡ absent_found f
union_absent ds f i true = rw (no_unions (f.slot - 1)) refl
union_absent ds f i false = rw (no_union (f.slot - 1)) refl

by_absent : (ds : List Declared) (f : TableField) (b : Base) → found_by ds f b seen ≡ absent_found f
by_absent ds f (base.Union i) = union_absent ds f i f.kind.vector
by_absent ds f (base.Scalar s) = placed_absent ds f
by_absent ds f base.Text = placed_absent ds f
by_absent ds f (base.Enum i) = placed_absent ds f
by_absent ds f (base.Struct i) = placed_absent ds f
by_absent ds f (base.Table i) = placed_absent ds f

found_absent : (ds : List Declared) (o : Option TableField) → found_if ds o seen ≡ absent_if o
found_absent ds None = refl
found_absent ds (Some f) = ap (λ x. if f.deprecated then withdrawn else x) (by_absent ds f f.kind.base)

read_absent : (ds : List Declared) (f : TableField) → f.deprecated ≡ false → found_if ds (Some f) seen ≡ absent_found f
read_absent ds f d = found_absent ds (Some f) ∙ ap (λ b. if b then withdrawn else absent_found f) d

pub changes_show : (w : Way) (m : List (Option ℕ)) (old new : List Declared) → ChangesShow w m old new
changes_show w m old new i j n f c is d e s a =
    found_shows w m f (field_in (fields_in (body_at new j)) n) c e s
    (subst (λ y. Agree w (absent_found f) y) (found_absent new (field_in (fields_in (body_at new j)) n))
    (subst (λ x. Agree w x (found_if new (field_in (fields_in (body_at new j)) n) seen)) (read_absent old f d)
    (subst (λ o. Agree w (found_if old o seen) (found_if new (field_in (fields_in (body_at new j)) n) seen)) is
    (once w old new i j n (subst (λ r. SameAnswers w old new (table_found i r) (table_found j r) (field n ∷ [])) empty_is_seen a)))))
