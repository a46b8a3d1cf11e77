use Rattle.planus_read.proofs.ReadingLaws as readings
use Rattle.planus_read.proofs.SizePrefixed.{lawful_prefixed}
use Rattle.planus_read.proofs.laws.readings_are_lawful.Goals as goal

pub returns-clause-number : goal.returns-clause-number
returns-clause-number c = readings.lawful_number

pub returns-clause-signed : goal.returns-clause-signed
returns-clause-signed c = readings.lawful_signed

pub returns-clause-truth : goal.returns-clause-truth
returns-clause-truth c = readings.lawful_truth

pub returns-clause-head : goal.returns-clause-head
returns-clause-head c = readings.lawful_head

pub returns-clause-text : goal.returns-clause-text
returns-clause-text c = readings.lawful_text

pub returns-clause-byte_list : goal.returns-clause-byte_list
returns-clause-byte_list c = readings.lawful_byte_list

pub returns-clause-vector : goal.returns-clause-vector
returns-clause-vector c = readings.lawful_vector

pub returns-clause-union_vector : goal.returns-clause-union_vector
returns-clause-union_vector c = readings.lawful_union_vector

pub returns-clause-table : goal.returns-clause-table
returns-clause-table c = readings.lawful_table

pub returns-clause-plain_ref : goal.returns-clause-plain_ref
returns-clause-plain_ref c = readings.lawful_plain_ref

pub returns-clause-size_prefixed : goal.returns-clause-size_prefixed
returns-clause-size_prefixed c = lawful_prefixed
