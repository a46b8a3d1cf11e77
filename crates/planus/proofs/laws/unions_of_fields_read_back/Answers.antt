use Rattle.planus.proofs.UnionsBack.{variants_read_back, required_read_back, structs_read_back}
use Rattle.planus.proofs.UnionsBack.{structs_have_bytes}
use Rattle.planus.proofs.laws.unions_of_fields_read_back.Goals as goal

pub returns-clause-variants : goal.returns-clause-variants
returns-clause-variants g c = variants_read_back

pub returns-clause-required : goal.returns-clause-required
returns-clause-required g c = required_read_back

pub returns-clause-structs : goal.returns-clause-structs
returns-clause-structs g c = structs_read_back

pub returns-clause-bytes : goal.returns-clause-bytes
returns-clause-bytes g c = structs_have_bytes
