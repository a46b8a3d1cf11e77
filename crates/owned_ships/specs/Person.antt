-- What is made of a table `Person`, where so many tables may lie within each other.
use Rattle.std.specs.Prelude.{ℕ, zero, suc, codes, [], ◌∷◌}
use Rattle.planus.specs.Printed.{u8_shape}
use Rattle.planus_owned.specs.Printed.{Owning, record_of, too_deep, text, plain_or}
use Rattle.owned_ships.specs.declared.person.Person.{Person}

abbrev pub person_owned : ℕ → Owning Person
person_owned zero = too_deep
person_owned (suc depth) =
    record_of (codes "Person")
    (text 0 (codes "name") (λ person. person.name)
    ∷ plain_or u8_shape 18 1 (codes "age") (λ person. person.age) ∷ [])
