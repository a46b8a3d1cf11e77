-- Views of verified tables.
use Rattle.planus_read.specs.declared.table_reader.Table.{Table}
use Rattle.planus_views.specs.declared.view.View.{View}

-- the table of a view
abbrev pub view_table : {K : _} {kind : _} → View K kind → Table
view_table view = view.table
