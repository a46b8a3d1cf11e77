use Rattle.std.specs.Prelude.{List, [], Ok, Err}
use Rattle.planus_write.specs.Items.{Item}
use Rattle.planus_write.specs.lemmas.ListLaws.{GrowsFrom, entries_grow}
use Rattle.planus_write.specs.State.{State}
use Rattle.planus_write.specs.Tables.{Declared, object_entries, slots_used}
use Rattle.planus_write.specs.TableWriting.{WritesTable}

pub table_grows :
    (declared : List Declared) (body : Item) (old : State)
    → GrowsFrom old (WritesTable declared body)
table_grows declared body old (Ok done) new h =
    entries_grow (object_entries (slots_used declared) declared body) [] old (Ok h.0) new h.1
table_grows declared body old (Err error) new h =
    entries_grow (object_entries (slots_used declared) declared body) [] old (Err error) new h
