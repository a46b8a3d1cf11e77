-- Values that are packed one after another, and why they aren't.
use Rattle.std.proofs.Common.{◌≡◌, ℕ, List, ◌∷◌, length, inl, inr}
use Rattle.std.specs.Prelude.{None, Result, Ok, Err, IfErr}
use Rattle.planus_json_syntax.specs.Spelling.{Spells}
use Rattle.planus_json_syntax.specs.Values.{JsonV}
use Rattle.planus_pack.specs.declared.pack_error.PackError.{PackError}
use Rattle.planus_pack.specs.declared.pack_error.PackError.TheVariants as errors
use Rattle.planus_pack.specs.Packs.{Way, PacksValue, FailsValue, FailsAny, HasNoValues, FailsText, miscounted}

module _ (way : Way) where
  pub first_fails : (value : JsonV) (values : List JsonV) (error : PackError)
      → FailsValue way value error → FailsAny way (value ∷ values) error
  first_fails value values errors.OutOfMemory h = tt
  first_fails value values (errors.Text at kind) h = absurd h
  first_fails value values (errors.NotOne at) h = absurd h
  first_fails value values (errors.Fault at kind) h = inl h
  first_fails value values (errors.Replay error) h = inl h

  pub later_fails : (value : JsonV) (own : List ℕ) (values : List JsonV) (error : PackError)
      → PacksValue way value own → FailsAny way values error → FailsAny way (value ∷ values) error
  later_fails value own values errors.OutOfMemory is h = tt
  later_fails value own values (errors.Text at kind) is h = absurd h
  later_fails value own values (errors.NotOne at) is h = absurd h
  later_fails value own values (errors.Fault at kind) is h = inr (own, is, h)
  later_fails value own values (errors.Replay error) is h = inr (own, is, h)

  pub no_values : (text : List ℕ) (error : PackError) → HasNoValues way text error
      → FailsText way text error
  no_values text errors.OutOfMemory h = tt
  no_values text (errors.Text at kind) h = h
  no_values text (errors.NotOne at) h = h
  no_values text (errors.Fault at kind) h = absurd h
  no_values text (errors.Replay error) h = absurd h

  pub unpacked : (text : List ℕ) (values : List JsonV) (error : PackError) → Spells text values
      → miscounted way (length text) values ≡ None → FailsAny way values error
      → FailsText way text error
  unpacked text values errors.OutOfMemory spelled counted h = tt
  unpacked text values (errors.Text at kind) spelled counted h = absurd h
  unpacked text values (errors.NotOne at) spelled counted h = absurd h
  unpacked text values (errors.Fault at kind) spelled counted h =
      record { values = values; spelled = spelled; counted = counted; fails = h }
  unpacked text values (errors.Replay error) spelled counted h =
      record { values = values; spelled = spelled; counted = counted; fails = h }

  pub any_unpacked : {X : Type 0} (text : List ℕ) (values : List JsonV) (r : Result X PackError)
      → Spells text values → miscounted way (length text) values ≡ None
      → IfErr r (FailsAny way values) → IfErr r (FailsText way text)
  any_unpacked text values (Ok x) spelled counted h = h
  any_unpacked text values (Err error) spelled counted h = unpacked text values error spelled counted h
