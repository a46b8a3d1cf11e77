-- From a union's members to what its accessors return.
use Rattle.std.proofs.Common.{◌≡◌, ℕ, ◌+◌, List, refl, subst, sym, Result, Ok, Err, inl, inr}
use Rattle.planus_read.specs.declared.errors.ErrorKind.{ErrorKind}
use Rattle.planus_read.specs.declared.located.Error.{Error}
use Rattle.planus_read.specs.declared.table_reader.Table.{Table}
use Rattle.planus_read.specs.Converted.{Converted}
use Rattle.planus_read.specs.Located.{Located, Required}
use Rattle.planus_read.specs.Tables.{ReadsBoth, UnionThere, UnionAnswer, union_of, slot_of}
use Rattle.planus_read.specs.Tables.{table_object, table_start}
use Rattle.planus_views.specs.Members.{some_if, member_tag, member_bytes, member_start}
use Rattle.planus_views.specs.Members.{member_offset}
use Rattle.planus_views.specs.declared.union_of.Member.{Member}

pub located_as :
    {A : Type 0} (Q : Result A ErrorKind → Type 0) (answer : Result A ErrorKind)
    (type_ method : List ℕ) (offset : ℕ) (r : Result A Error) → Q answer
    → Located (λ found. found ≡ answer) type_ method offset r → Located Q type_ method offset r
located_as Q answer type_ method offset (Ok x) given h = subst Q (sym h) given
located_as Q answer type_ method offset (Err e) given h = (subst Q (sym h.0) given, h.1)

pub union_at :
    {U : Type 0} (reads : ReadsBoth U) (table : Table) (slot : ℕ) (member : Member)
    (answer : Result U ErrorKind) → member_bytes member ≡ table_object table
    → member_start member ≡ table_start table → member_offset member ≡ slot_of table (slot + 1)
    → reads (member_bytes member) (member_start member) (member_tag member) (member_offset member) answer
    → union_of reads table slot (member_tag member) answer
union_at reads table slot member answer bytes begin offset h =
    subst (λ f. reads (table_object table) (table_start table) (member_tag member) f answer) offset
    (subst (λ s. reads (table_object table) s (member_tag member) (member_offset member) answer) begin
    (subst (λ l. reads l (member_start member) (member_tag member) (member_offset member) answer) bytes h))

pub some_union :
    {U : Type 0} (reads : ReadsBoth U) (table : Table) (slot tag : ℕ) (answer : Result U ErrorKind)
    → UnionThere table slot tag → union_of reads table slot tag answer
    → UnionAnswer reads table slot (some_if answer)
some_union reads table slot tag (Ok x) there h = (tag, there, h)
some_union reads table slot tag (Err e) there h = inr (tag, there, h)

pub one_union :
    {U : Type 0} (reads : ReadsBoth U) (table : Table) (slot tag : ℕ) (answer : Result U ErrorKind)
    → UnionThere table slot tag → union_of reads table slot tag answer
    → Required (UnionAnswer reads table slot) answer
one_union reads table slot tag (Ok x) there h = (tag, there, h)
one_union reads table slot tag (Err e) there h = inl (inr (tag, there, h))

-- what holds of a member, by its parts
pub member_is :
    (P : ℕ → ℕ → List ℕ → ℕ → Type 0) (member : Member) (tag start : ℕ) (S : List ℕ) (f : ℕ)
    → member_tag member ≡ tag → member_start member ≡ start → member_bytes member ≡ S
    → member_offset member ≡ f → P tag start S f
    → P (member_tag member) (member_start member) (member_bytes member) (member_offset member)
member_is P member tag start S f tags begin bytes offset h =
    subst (λ k. P k (member_start member) (member_bytes member) (member_offset member)) (sym tags)
    (subst (λ k. P tag k (member_bytes member) (member_offset member)) (sym begin)
    (subst (λ l. P tag start l (member_offset member)) (sym bytes)
    (subst (λ k. P tag start S k) (sym offset) h)))

pub member_was :
    (P : ℕ → ℕ → List ℕ → ℕ → Type 0) (member : Member) (tag start : ℕ) (S : List ℕ) (f : ℕ)
    → member_tag member ≡ tag → member_start member ≡ start → member_bytes member ≡ S
    → member_offset member ≡ f
    → P (member_tag member) (member_start member) (member_bytes member) (member_offset member)
    → P tag start S f
member_was P member tag start S f tags begin bytes offset h =
    subst (λ k. P tag start S k) offset
    (subst (λ l. P tag start l (member_offset member)) bytes
    (subst (λ k. P tag k (member_bytes member) (member_offset member)) begin
    (subst (λ k. P k (member_start member) (member_bytes member) (member_offset member)) tags h)))

-- as an item of a union vector is read
pub converted_as :
    {A : Type 0} (Q : Result A ErrorKind → Type 0) (answer : Result A ErrorKind)
    (type_ method : List ℕ) (offset : ℕ) (r : Result A Error) → Q answer
    → Located (λ found. found ≡ answer) type_ method offset r
    → Converted (Located Q type_ method offset) (λ (e f : Error). f ≡ e) r
converted_as Q answer type_ method offset (Ok x) given h =
    located_as Q answer type_ method offset (Ok x) given h
converted_as Q answer type_ method offset (Err e) given h =
    (e, located_as Q answer type_ method offset (Err e) given h, refl)
