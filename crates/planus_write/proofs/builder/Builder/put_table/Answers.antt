use Rattle.std.proofs.Common.{◌≡◌, ◌+◌, false, ◌∙◌, sym}
use Rattle.planus_back.specs.Parts.{Part}
use Rattle.planus_write.specs.Parts.{filled_part}
use Rattle.planus_write.specs.View.{state_of}
use Rattle.planus_write.specs.inner.WholeTables.{PutsTableIf}
use Rattle.planus_write.proofs.WholeTables.{puts_table_if, table_sound}
use Rattle.planus_write.proofs.builder.Builder.put_table.Given as given
use Rattle.planus_write.proofs.builder.Builder.put_table.Goals as goal

abbrev body : (g : given.Over) → goal.After-put_table g → Part
body g c = filled_part c.args.size (c.args.mask + 1) (g.W.Overwrite.encoding c.args.writer.now)

put : (g : given.Over) → (c : goal.After-put_table g)
    → PutsTableIf c.put_table.result c.args.vtable.now (body g c) (state_of c.self.inside) (state_of (record c.self.inside { backing = c.put_table.new.self }))
put g c =
    let off : c.self.inside.vtables.on ≡ false = sym c.is_on.ensures ∙ c.if-not-is_on.true in
    puts_table_if c.args.vtable.now (body g c) c.self.inside off c.requires.vtable c.put_table.result c.put_table.new.self c.put_table.ensures

pub invariant_of-self : goal.invariant_of-self
invariant_of-self g c = table_sound c.put_table.result c.args.vtable.now (body g c) (state_of c.self.inside) _ c.self.invariant (put g c)

pub returns-then-not-is_on : goal.returns-then-not-is_on
returns-then-not-is_on g c = rw (← c.self.view_is) (put g c)
