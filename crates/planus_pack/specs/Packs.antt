-- The buffer of a text.
use Rattle.std.specs.Prelude.{◌≡◌, ℕ, ◌-◌, Bool, List, [], ◌∷◌, ◌++◌, length, Option, Some, None}
use Rattle.std.specs.Prelude.{Ok, Err, ⊤, ◌⊎◌, if◌then◌else◌}
use Rattle.planus_write.specs.Shared.{CacheSettings}
use Rattle.planus_write.specs.View.{settings_of}
use Rattle.planus.specs.Steps.{Step, finish, front_of}
use Rattle.planus.specs.Runs.{Finish}
use Rattle.planus.specs.Replays.{Replays}
use Rattle.planus.specs.FinishHolds.{IsFinishOf}
use Rattle.planus.specs.declared.replaying.faults.ReplayError.{ReplayError}
use Rattle.planus.specs.declared.replaying.faults.ReplayError.TheVariants as replays
use Rattle.planus_schema.specs.declared.schema.Schema.{Schema}
use Rattle.planus_json_syntax.specs.declared.json_error.JsonError.TheVariants as texts
use Rattle.planus_json_syntax.specs.Reading.{Answers}
use Rattle.planus_json_syntax.specs.Spelling.{Spells}
use Rattle.planus_json_syntax.specs.Values.{JsonV}
use Rattle.planus_pack.specs.declared.pack_error.PackError.{PackError}
use Rattle.planus_pack.specs.declared.packing.Way as code
use Rattle.planus_pack.specs.declared.pack_options.PackOptions.{PackOptions}
use Rattle.planus_pack.specs.declared.pack_error.PackError.TheVariants as errors
use Rattle.planus_pack.specs.Rules.{RulesV}
use Rattle.planus_pack.specs.Tables.{steps_of, rules}

abbrev pub finish_of : Bool → ℕ → Option (List ℕ) → Step
finish_of sized root id = finish (front_of sized) root id

-- the steps of a value, and a finish of the last
abbrev pub with_finish : Bool → Option (List ℕ) → List Step → List Step
with_finish sized id steps = steps ++ finish_of sized (length steps - 1) id ∷ []

-- what a replay gives for the finish of this number
pub record Finishes (settings : CacheSettings) (steps : List Step) (number : ℕ) (bytes : List ℕ)
    : Type 0 where
  pub given : Finish
  pub finished : IsFinishOf settings steps number given
  pub same : given.bytes ≡ bytes

-- how a text's buffers are written
pub record Way : Type 0 where
  pub settings : CacheSettings
  pub rules : RulesV
  pub root : ℕ
  pub id : Option (List ℕ)
  pub sized : Bool

module _ (way : Way) where
  -- A value is packed as these bytes: it means these steps, and what a replay of them gives for the
  -- finish of the last are these bytes.
  pub record PacksValue (value : JsonV) (bytes : List ℕ) : Type 0 where
    pub steps : List Step
    pub meant : steps_of way.rules way.root value ≡ Ok steps
    pub finishes : Finishes way.settings (with_finish way.sized way.id steps) (length steps) bytes

  -- values one after another, behind these bytes
  abbrev pub PacksAfter : List ℕ → List JsonV → List ℕ → Type 0
  PacksAfter before [] bytes = bytes ≡ before
  PacksAfter before (value ∷ values) bytes = (own : List ℕ) × PacksValue value own
      × PacksAfter (before ++ own) values bytes

  -- where a text of this length has no value, or a second one and each is to have no size
  abbrev pub miscounted : ℕ → List JsonV → Option ℕ
  miscounted len [] = Some len
  miscounted len (value ∷ []) = None
  miscounted len (value ∷ second ∷ rest) = if way.sized then None else Some second.at

  -- A text is packed as these bytes: it spells values, of which each is packed; one alone, or one
  -- or more with their sizes.
  pub record PacksText (text bytes : List ℕ) : Type 0 where
    pub values : List JsonV
    pub spelled : Spells text values
    pub counted : miscounted (length text) values ≡ None
    pub packed : PacksAfter [] values bytes

  -- ---- errors

  -- a text has not the values that are wanted
  pub record IsMiscounted (text : List ℕ) (at : ℕ) : Type 0 where
    pub values : List JsonV
    pub spelled : Spells text values
    pub there : miscounted (length text) values ≡ Some at

  -- the steps of a value aren't written
  pub record IsUnwritten (value : JsonV) (error : ReplayError) : Type 0 where
    pub steps : List Step
    pub meant : steps_of way.rules way.root value ≡ Ok steps
    pub replayed : Replays way.settings (with_finish way.sized way.id steps) (Err error)

  abbrev pub FailsValue : JsonV → PackError → Type 0
  FailsValue value errors.OutOfMemory = ⊤
  FailsValue value (errors.Text at kind) = ⊥
  FailsValue value (errors.NotOne at) = ⊥
  FailsValue value (errors.Fault at kind) = steps_of way.rules way.root value ≡ Err (kind, at)
  FailsValue value (errors.Replay error) = IsUnwritten value error

  -- the first value that isn't packed
  abbrev pub FailsEach : List JsonV → PackError → Type 0
  FailsEach [] error = ⊥
  FailsEach (value ∷ values) error = FailsValue value error
      ⊎ ((own : List ℕ) × PacksValue value own × FailsEach values error)

  -- why values aren't packed
  abbrev pub FailsAny : List JsonV → PackError → Type 0
  FailsAny values errors.OutOfMemory = ⊤
  FailsAny values (errors.Text at kind) = ⊥
  FailsAny values (errors.NotOne at) = ⊥
  FailsAny values (errors.Fault at kind) = FailsEach values (errors.Fault at kind)
  FailsAny values (errors.Replay error) = FailsEach values (errors.Replay error)

  -- a text spells values, of which one isn't packed
  pub record HasUnpacked (text : List ℕ) (error : PackError) : Type 0 where
    pub values : List JsonV
    pub spelled : Spells text values
    pub counted : miscounted (length text) values ≡ None
    pub fails : FailsEach values error

  abbrev pub HasNoValues : List ℕ → PackError → Type 0
  HasNoValues text errors.OutOfMemory = ⊤
  HasNoValues text (errors.Text at kind) = Answers text (Err (texts.Fault at kind))
  HasNoValues text (errors.NotOne at) = IsMiscounted text at
  HasNoValues text (errors.Fault at kind) = ⊥
  HasNoValues text (errors.Replay error) = ⊥

  abbrev pub FailsText : List ℕ → PackError → Type 0
  FailsText text errors.OutOfMemory = ⊤
  FailsText text (errors.Text at kind) = Answers text (Err (texts.Fault at kind))
  FailsText text (errors.NotOne at) = IsMiscounted text at
  FailsText text (errors.Fault at kind) = HasUnpacked text (errors.Fault at kind)
  FailsText text (errors.Replay error) = HasUnpacked text (errors.Replay error)

abbrev pub pack_error : ReplayError → PackError
pack_error replays.OutOfMemory = errors.OutOfMemory
pack_error replays.TooLarge = errors.Replay replays.TooLarge
pack_error (replays.BadStep step why) = errors.Replay (replays.BadStep step why)

abbrev pub way : CacheSettings → PackOptions → Schema → ℕ → Option (List ℕ) → Bool → Way
way settings options schema root id sized = record {
  settings = settings;
  rules = rules schema options;
  root = root;
  id = id;
  sized = sized;
}

abbrev pub way_of : code.Way → Way
way_of w = way (settings_of w.caches) w.options w.schema.now w.root w.id w.sized

module _ (settings : CacheSettings) (options : PackOptions) (schema : Schema) (root : ℕ)
    (id : Option (List ℕ)) (sized : Bool) where
  -- a text is packed as these bytes
  abbrev pub Packs : List ℕ → List ℕ → Type 0
  Packs = PacksText (way settings options schema root id sized)

  -- why a text isn't packed
  abbrev pub Fails : List ℕ → PackError → Type 0
  Fails = FailsText (way settings options schema root id sized)
