-- Files that are loaded.
use Rattle.std.proofs.Common.{◌≡◌, ◌<◌, ◌≤◌, ◌+◌, ◌-◌, ℕ, List, [], ◌∷◌, ◌++◌, length, drop, get_or, refl, sym, ap, subst, ◌∙◌, arith, append_assoc}
use Rattle.std.specs.Prelude.{zero, suc, max, Bool, true, false, Option, Some, None, Result, Ok, Err, IfOk, if◌then◌else◌}
use Rattle.std.specs.Global.{Vec}
use Rattle.std.specs.Str.{IsUtf8, is_utf8}
use Rattle.std.proofs.Math.Seq.{drop-nil}
use Rattle.std.proofs.lemmas.Str.{is_utf8-from_IsUtf8, IsUtf8-from_is_utf8}
use Rattle.std.specs.Io.KnownBytes.{Appends, Keeps}
use Rattle.planus_syntax.specs.declared.value.Declaration.{Declaration}
use Rattle.planus_syntax.specs.declared.value.Item.{Item}
use Rattle.planus_syntax.specs.declared.value.Item.TheVariants as item
use Rattle.planus_schema.specs.declared.schema.Schema.{Schema}
use Rattle.planus_cli.specs.declared.check.File.{File}
use Rattle.planus_cli.specs.declared.meaning.Meaning.{Meaning}
use Rattle.planus_cli.specs.declared.sources.Sources.{Sources}
use Rattle.planus_cli.specs.Checks.{ResolvesFiles}
use Rattle.planus_cli.specs.Files.{AreRead, EndsWith}
use Rattle.planus_cli.specs.Including.{text_or_empty}
use Rattle.planus_cli.specs.Loading.{Places, Step, IncludesItem, IncludesAll, IfBegun, Once, Loads, enter}
use Rattle.planus_cli.specs.Sources.{AreNone, AreLoaded, HasMeaning, MeansAll, most_includes}

pub kept_appends : (a b c : Option (List ℕ)) (bs : List ℕ) → Keeps a b → Appends b c bs → Appends a c bs
kept_appends None b c bs p q = tt
kept_appends (Some x) None c bs p q = absurd p
kept_appends (Some x) (Some y) None bs p q = absurd q
kept_appends (Some x) (Some y) (Some z) bs p q = q ∙ ap (λ old. old ++ bs) p

pub appended_twice : (a b c : Option (List ℕ)) (xs ys : List ℕ) → Appends a b xs → Appends b c ys → Appends a c (xs ++ ys)
appended_twice None b c xs ys p q = tt
appended_twice (Some x) None c xs ys p q = absurd p
appended_twice (Some x) (Some y) None xs ys p q = absurd q
appended_twice (Some x) (Some y) (Some z) xs ys p q = q ∙ ap (λ old. old ++ ys) p ∙ append_assoc x xs ys

-- of a value more is known
pub if_ok : {A E : Type 0} {P Q : A → Type 0} (r : Result A E) → ((a : A) → P a → Q a) → IfOk r P → IfOk r Q
if_ok (Ok a) more holds = more a holds
if_ok (Err e) more holds = tt

pub never_clean : {E : Type 0} (P : Type 0) (r : Result ℕ E) → IfOk r (λ status. status ≡ 1) → IfOk r (λ status. status ≡ 0 → P)
never_clean P r = if_ok r (λ status one zero. absurd (omega (arith, one, zero)))

pub too_deep : (places : Places) (left : ℕ) (name : List ℕ) (Otherwise : Step) (old new : Sources)
    (unsaid said : Option (List ℕ)) (status : ℕ) → left ≡ 0 → Otherwise old unsaid status new said
    → enter places left Otherwise name old unsaid status new said
unfolding enter
too_deep places zero name Otherwise old new unsaid said status none refuses = refuses
too_deep places (suc left) name Otherwise old new unsaid said status none refuses = absurd (omega (arith, none))

pub entered : (places : Places) (left : ℕ) (name : List ℕ) (Otherwise : Step) (old new : Sources)
    (unsaid said : Option (List ℕ)) (status : ℕ) → ¬ (left ≡ 0) → Once (Loads places (left - 1)) name old unsaid status new said
    → enter places left Otherwise name old unsaid status new said
unfolding enter
entered places zero name Otherwise old new unsaid said status some loads = absurd (some refl)
entered places (suc left) name Otherwise old new unsaid said status some loads =
    let one : suc left - 1 ≡ left = omega arith in
    subst (λ n. Once (Loads places n) name old unsaid status new said) one loads

pub not_begun : (Load : Step) (begun : Bool) (old new : Sources) (unsaid said : Option (List ℕ)) (status : ℕ)
    → begun ≡ false → Load old unsaid status new said → IfBegun begun Load old unsaid status new said
not_begun Load false old new unsaid said status none loads = loads
not_begun Load true old new unsaid said status none loads = absurd (let some : true ≡ false = none in cc)

pub nothing_included : (Include : ℕ → List ℕ → Step) (left : ℕ) (x : Item) (worst : ℕ) (old : Sources) (unsaid : Option (List ℕ))
    → ((path : Vec ℕ) → x ≡ item.Include path → ⊥) → IncludesItem Include left x worst old unsaid worst old unsaid
nothing_included Include left (item.Include path) worst old unsaid other = absurd (other path refl)
nothing_included Include left (item.NativeInclude path) worst old unsaid other = (refl, refl, refl)
nothing_included Include left (item.Namespace path) worst old unsaid other = (refl, refl, refl)
nothing_included Include left (item.Attribute label) worst old unsaid other = (refl, refl, refl)
nothing_included Include left (item.Table record_) worst old unsaid other = (refl, refl, refl)
nothing_included Include left (item.Struct record_) worst old unsaid other = (refl, refl, refl)
nothing_included Include left (item.Enum enumeration) worst old unsaid other = (refl, refl, refl)
nothing_included Include left (item.Union body) worst old unsaid other = (refl, refl, refl)
nothing_included Include left (item.Service service) worst old unsaid other = (refl, refl, refl)
nothing_included Include left (item.RootType path) worst old unsaid other = (refl, refl, refl)
nothing_included Include left (item.FileIdentifier text) worst old unsaid other = (refl, refl, refl)
nothing_included Include left (item.FileExtension text) worst old unsaid other = (refl, refl, refl)

pub one_included : (Include : ℕ → List ℕ → Step) (left : ℕ) (x : Item) (path : Vec ℕ) (worst one status : ℕ) (old new : Sources)
    (unsaid said : Option (List ℕ)) → x ≡ item.Include path → Include left path.items old unsaid one new said → status ≡ max worst one
    → IncludesItem Include left x worst old unsaid status new said
one_included Include left x path worst one status old new unsaid said is includes worse =
    subst (λ y. IncludesItem Include left y worst old unsaid status new said) (sym is) (one, includes, worse)

-- what is left to include is one declaration and those after it
pub next_included : (Include : ℕ → List ℕ → Step) (ds : List Declaration) (i : ℕ) (d any : Declaration) (worst mid : ℕ) (old between : Sources)
    (unsaid told : Option (List ℕ)) → i < length ds → d ≡ get_or ds i any
    → IncludesItem Include d.left d.item worst old unsaid mid between told
    → (status : ℕ) (new : Sources) (said : Option (List ℕ)) → IncludesAll Include (drop (i + 1) ds) mid between told status new said
    → IncludesAll Include (drop i ds) worst old unsaid status new said
next_included Include [] i d any worst mid old between unsaid told within at one status new said rest = absurd (omega (arith, within))
next_included Include (e ∷ es) zero d any worst mid old between unsaid told within at one status new said rest =
    (mid, between, told, subst (λ (x : Declaration). IncludesItem Include x.left x.item worst old unsaid mid between told) at one, rest)
next_included Include (e ∷ es) (suc i) d any worst mid old between unsaid told within at one status new said rest =
    let one_more : suc i + 1 ≡ suc (i + 1) = omega arith in
    next_included Include es i d any worst mid old between unsaid told (omega (arith, within)) at one status new said
    (subst (λ n. IncludesAll Include (drop n (e ∷ es)) mid between told status new said) one_more rest)

-- nothing is left to include
pub all_included : (Include : ℕ → List ℕ → Step) (ds : List Declaration) (i : ℕ) (worst : ℕ) (old : Sources) (unsaid : Option (List ℕ))
    → length ds ≤ i → IncludesAll Include (drop i ds) worst old unsaid worst old unsaid
all_included Include [] i worst old unsaid end = subst (λ xs. IncludesAll Include xs worst old unsaid worst old unsaid) (sym (drop-nil i)) (refl, refl, refl)
all_included Include (d ∷ ds) zero worst old unsaid end = absurd (omega (arith, end))
all_included Include (d ∷ ds) (suc i) worst old unsaid end = all_included Include ds i worst old unsaid (omega (arith, end))

pub are_loaded : (places : Places) (name : List ℕ) (none sources : Sources) (unsaid told : Option (List ℕ)) (status : ℕ) → AreNone none
    → status ≡ 0 → Loads places most_includes name none unsaid status sources told
    → AreRead places.disk.Holds sources.files.items sources.declarations.items → (status ≡ 0 → EndsWith sources.files.items name)
    → (status ≡ 0 → Keeps unsaid told) → AreLoaded places name unsaid sources told
are_loaded places name none sources unsaid told status are clean loads read last kept = record {
  loads = record {
    none = none;
    are = are;
    loads = subst (λ s. Loads places most_includes name none unsaid s sources told) clean loads;
  };
  read = read;
  last = last clean;
  kept = kept clean;
}

-- what files mean that are held in vectors
pub means_all : (places : Places) (name : List ℕ) (sources : Sources) (unsaid told said : Option (List ℕ)) (found : Option Schema)
    (files : List File) (declarations : List (Vec Declaration)) → AreLoaded places name unsaid sources told
    → files ≡ sources.files.items → declarations ≡ sources.declarations.items → ResolvesFiles files declarations found told said
    → MeansAll places name found unsaid said
means_all places name sources unsaid told said found files declarations loaded f d resolves = record {
  sources = sources;
  told = told;
  loaded = loaded;
  means = subst (λ ds. ResolvesFiles sources.files.items ds found told said) d (subst (λ fs. ResolvesFiles fs declarations found told said) f resolves);
}

-- what files mean that are kept with it
pub has_meaning : (places : Places) (name : List ℕ) (sources : Sources) (unsaid told said : Option (List ℕ)) (meaning : Meaning)
    (files : List File) (declarations : List (Vec Declaration)) → AreLoaded places name unsaid sources told
    → files ≡ sources.files.items → declarations ≡ sources.declarations.items → meaning.files ≡ sources.files
    → meaning.declarations ≡ sources.declarations → ResolvesFiles files declarations (Some meaning.schema) told said
    → HasMeaning places name meaning unsaid said
has_meaning places name sources unsaid told said meaning files declarations loaded f d fs ds resolves = record {
  sources = sources;
  told = told;
  loaded = loaded;
  means = subst (λ xs. ResolvesFiles sources.files.items xs (Some meaning.schema) told said) d
      (subst (λ xs. ResolvesFiles xs declarations (Some meaning.schema) told said) f resolves);
  files = fs;
  declarations = ds;
}

pub schema_meant : (places : Places) (name : List ℕ) (meaning : Meaning) (unsaid said : Option (List ℕ))
    → HasMeaning places name meaning unsaid said → MeansAll places name (Some meaning.schema) unsaid said
schema_meant places name meaning unsaid said h = record {
  sources = h.sources;
  told = h.told;
  loaded = h.loaded;
  means = h.means;
}

pub text_is : (text bytes : List ℕ) → text ≡ bytes → IsUtf8 bytes → text ≡ text_or_empty bytes
text_is text bytes same utf8 = same ∙ sym (ap (λ is. if is then bytes else []) (is_utf8-from_IsUtf8 bytes utf8))

pub no_text_is : (bytes : List ℕ) → ¬ IsUtf8 bytes → [] ≡ text_or_empty bytes
no_text_is bytes none = go (is_utf8 bytes) refl where
  go : (is : Bool) → is_utf8 bytes ≡ is → [] ≡ (if is then bytes else [])
  go true p = absurd (none (IsUtf8-from_is_utf8 bytes p))
  go false p = refl
