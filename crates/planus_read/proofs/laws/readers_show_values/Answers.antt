use Rattle.planus_read.specs.Heads.{ShowsItems}
use Rattle.planus_read.specs.Slices.{ShowsBytes}
use Rattle.planus_read.specs.Reading.{head_reading, text_reading, byte_list_reading, table_reading}
use Rattle.planus_read.specs.SignedBytes.{ShowsSigned}
use Rattle.planus_read.specs.SizePrefixed.{prefixed_reading, ShowsPrefixed}
use Rattle.planus_read.specs.Tables.{ShowsTable}
use Rattle.planus_read.proofs.ReadingLaws.{is_shown, lawful_head, lawful_text, lawful_byte_list}
use Rattle.planus_read.proofs.ReadingLaws.{lawful_table}
use Rattle.planus_read.proofs.SizePrefixed.{lawful_prefixed}
use Rattle.planus_read.proofs.laws.readers_show_values.Goals as goal

pub returns-clause-head : goal.returns-clause-head
returns-clause-head c S start f = is_shown (head_reading S f) (ShowsItems S start) (lawful_head S f)

pub returns-clause-text : goal.returns-clause-text
returns-clause-text c S f = is_shown (text_reading S f) ShowsBytes (lawful_text S f)

pub returns-clause-byte_list : goal.returns-clause-byte_list
returns-clause-byte_list c S f = is_shown (byte_list_reading S f) ShowsBytes (lawful_byte_list S f)

pub returns-clause-signed_bytes : goal.returns-clause-signed_bytes
returns-clause-signed_bytes c S f = is_shown (byte_list_reading S f) ShowsSigned
    (lawful_byte_list S f)

pub returns-clause-table : goal.returns-clause-table
returns-clause-table c S start f = is_shown (table_reading S f) (ShowsTable S start)
    (lawful_table S f)

pub returns-clause-size_prefixed : goal.returns-clause-size_prefixed
returns-clause-size_prefixed c B = is_shown (prefixed_reading B) ShowsPrefixed (lawful_prefixed B)
