-- The messages of a replay's errors.
use Rattle.std.specs.Prelude.{ℕ, List, codes, ◌++◌}
use Rattle.std.specs.Fmt.{decimal}
use Rattle.planus.specs.declared.replaying.faults.ReplayError.{ReplayError}
use Rattle.planus.specs.declared.replaying.faults.ReplayError.TheVariants.{OutOfMemory, TooLarge, BadStep}
use Rattle.planus.specs.declared.replaying.faults.Why.{Why}
use Rattle.planus.specs.declared.replaying.faults.Why.TheVariants.{WidthUnknown, ValueTooBig}
use Rattle.planus.specs.declared.replaying.faults.Why.TheVariants.{AlignmentUnknown, WrongSize}
use Rattle.planus.specs.declared.replaying.faults.Why.TheVariants.{NoSuchStep, WrongKind, ZeroTag}
use Rattle.planus.specs.declared.replaying.faults.Why.TheVariants.{SlotTooBig, SlotTwice, RisingAlignment}
use Rattle.planus.specs.declared.replaying.faults.Why.TheVariants.{TableTooBig}

-- a step's error
abbrev pub why_text : Why → List ℕ
why_text WidthUnknown = codes "width unknown"
why_text AlignmentUnknown = codes "alignment unknown"
why_text WrongSize = codes "wrong size"
why_text ValueTooBig = codes "value too big"
why_text NoSuchStep = codes "no such step"
why_text WrongKind = codes "wrong kind"
why_text ZeroTag = codes "zero tag"
why_text SlotTooBig = codes "slot too big"
why_text SlotTwice = codes "slot twice"
why_text RisingAlignment = codes "rising alignment"
why_text TableTooBig = codes "table too big"

-- a replay's error, with the number of a bad step
abbrev pub replay_error_text : ReplayError → List ℕ
replay_error_text OutOfMemory = codes "out of memory"
replay_error_text TooLarge = codes "too large"
replay_error_text (BadStep step why) =
    codes "step " ++ (decimal step ++ (codes ": " ++ why_text why))
