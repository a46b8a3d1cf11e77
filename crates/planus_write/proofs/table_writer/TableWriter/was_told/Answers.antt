use Rattle.planus_write.proofs.table_writer.TableWriter.was_told.Goals as goal

pub returns : goal.returns
returns g c = rw (← c.self.view_is) c.self.invariant.told
