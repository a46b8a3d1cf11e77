-- Steps of reading, one after the other.
use Rattle.std.proofs.Common.{◌≡◌, Bool, true, false, cond, Result, Ok, Err, refl, sym, ap, subst, ◌∙◌}
use Rattle.planus_syntax.specs.declared.read_error.ReadError.{ReadError}
use Rattle.planus_syntax.specs.declared.read_error.ReadError.TheVariants as errors
use Rattle.planus_syntax.specs.Reading.{Fault, ◌>>=◌, Fails, Gives}
use Rattle.planus_syntax.specs.Counting.{GivesCounted}

pub fails_here : {A B : Type 0} (e : ReadError) (r : Result A Fault) (f : A → Result B Fault) → Fails e r → Fails e (r >>= f)
fails_here errors.OutOfMemory r f h = tt
fails_here (errors.Fault k left) r f h = ap (λ x. x >>= f) h

pub fails_later : {A B : Type 0} (e : ReadError) (r : Result A Fault) (f : A → Result B Fault) (x : A) → r ≡ Ok x → Fails e (f x) → Fails e (r >>= f)
fails_later e r f x h k = subst (λ y. Fails e (y >>= f)) (sym h) k

pub reads_on : {A B : Type 0} (r : Result A Fault) (f : A → Result B Fault) (x : A) (y : Result B Fault) → r ≡ Ok x → f x ≡ y → (r >>= f) ≡ y
reads_on r f x y h k = ap (λ z. z >>= f) h ∙ k

pub gives_later : {A B X : Type 0} (counted : X → Type 0) (view : X → B) (result : Result X ReadError) (r : Result A Fault) (f : A → Result B Fault) (x : A) → r ≡ Ok x → GivesCounted counted view result (f x) → GivesCounted counted view result (r >>= f)
gives_later counted view result r f x h k = subst (λ y. GivesCounted counted view result (y >>= f)) (sym h) k

pub first_way : {A : Type 0} (b : Bool) (x y : A) → b ≡ true → cond b x y ≡ x
first_way b x y h = rw h refl

pub other_way : {A : Type 0} (b : Bool) (x y : A) → b ≡ false → cond b x y ≡ y
other_way b x y h = rw h refl

pub fails_first : {B : Type 0} (e : ReadError) (b : Bool) (x y : Result B Fault) → b ≡ true → Fails e x → Fails e (cond b x y)
fails_first e b x y h k = subst (Fails e) (sym (first_way b x y h)) k

pub fails_other : {B : Type 0} (e : ReadError) (b : Bool) (x y : Result B Fault) → b ≡ false → Fails e y → Fails e (cond b x y)
fails_other e b x y h k = subst (Fails e) (sym (other_way b x y h)) k

pub gives_other : {B X : Type 0} (counted : X → Type 0) (view : X → B) (result : Result X ReadError) (b : Bool) (x y : Result B Fault) → b ≡ false → GivesCounted counted view result y → GivesCounted counted view result (cond b x y)
gives_other counted view result b x y h k = subst (GivesCounted counted view result) (sym (other_way b x y h)) k

pub gives_first : {B X : Type 0} (counted : X → Type 0) (view : X → B) (result : Result X ReadError) (b : Bool) (x y : Result B Fault) → b ≡ true → GivesCounted counted view result x → GivesCounted counted view result (cond b x y)
gives_first counted view result b x y h k = subst (GivesCounted counted view result) (sym (first_way b x y h)) k

-- a reading of what has no places
pub plain : {B X : Type 0} (view : X → B) (result : Result X ReadError) (r : Result B Fault) → Gives view result r → GivesCounted (λ x. Unit {0}) view result r
plain view (Ok x) r h = (h, tt)
plain view (Err e) r h = h

pub uncounted : {B X : Type 0} (counted : X → Type 0) (view : X → B) (result : Result X ReadError) (r : Result B Fault) → GivesCounted counted view result r → Gives view result r
uncounted counted view (Ok x) r h = h.0
uncounted counted view (Err e) r h = h
