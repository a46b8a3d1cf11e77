-- What the functions of the program return.
use Rattle.std.specs.Prelude.{◌≡◌, Result, Ok, Err, ⊤}
use Rattle.planus_pack.specs.declared.pack_error.PackError.{PackError}
use Rattle.planus_pack.specs.declared.pack_error.PackError.TheVariants as errors
use Rattle.planus_pack.specs.Faults.{Fault}

-- the fault of what a value means, or memory was refused
abbrev pub Fails : {Y : Type 0} → PackError → Result Y Fault → Type 0
Fails errors.OutOfMemory meant = ⊤
Fails (errors.Text at kind) meant = ⊥
Fails (errors.NotOne at) meant = ⊥
Fails (errors.Fault at kind) meant = meant ≡ Err (kind, at)
Fails (errors.Replay error) meant = ⊥

-- what a value means, or its first fault
abbrev pub Gives : {X Y : Type 0} → (X → Y) → Result X PackError → Result Y Fault → Type 0
Gives view (Ok x) meant = meant ≡ Ok (view x)
Gives view (Err error) meant = Fails error meant
