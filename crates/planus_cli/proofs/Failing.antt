-- What was said where a call fails.
use Rattle.std.proofs.Common.{◌≡◌, ℕ, List, [], false, refl, sym, subst, Option, Some, Result, Ok, Err}
use Rattle.std.specs.Prelude.{IfErr, OnErr}
use Rattle.std.specs.Io.KnownBytes.{Appends}
use Rattle.std.proofs.KnownBytes.{Appends-nil}
use Rattle.planus_dump.specs.Writing.{WritesBeginning}
use Rattle.planus_cli.specs.Buffers.{ChecksIdentifier, FailsIdentifier, has_identifier, other_identifier_text}

pub on_err : {T E : Type 0} (r : Result T E) (P : Type 0) → P → OnErr r P
on_err (Ok x) P p = tt
on_err (Err e) P p = p

pub if_err : {T E : Type 0} (r : Result T E) (P : E → Type 0) → ((e : E) → P e) → IfErr r P
if_err (Ok x) P p = tt
if_err (Err e) P p = p e

pub none_begun : (bytes : List ℕ) (known : Option (List ℕ)) → WritesBeginning bytes known known
none_begun bytes known = ([], bytes, refl, Appends-nil known)

pub other_begun : (o : Option (List ℕ)) (wanted name bytes : List ℕ) (unsaid said : Option (List ℕ)) → o ≡ Some wanted → has_identifier wanted bytes ≡ false
    → WritesBeginning (other_identifier_text name wanted) unsaid said → FailsIdentifier o name bytes unsaid said
other_begun o wanted name bytes unsaid said is other told = record { wanted = wanted; is = is; other = other; told = told }

pub other_said : (o : Option (List ℕ)) (wanted name bytes : List ℕ) (unsaid said : Option (List ℕ)) → o ≡ Some wanted → has_identifier wanted bytes ≡ false
    → Appends unsaid said (other_identifier_text name wanted) → ChecksIdentifier o name bytes false unsaid said
other_said o wanted name bytes unsaid said is other told = subst (λ o. ChecksIdentifier o name bytes false unsaid said) (sym is) (record { known_is = sym other; told = told })
