use Rattle.planus_view.proofs.TableLaws.{table_holds}
use Rattle.planus_view.proofs.laws.ranges_are_those_of_the_table.Goals as goal

pub returns : goal.returns
returns c = table_holds
