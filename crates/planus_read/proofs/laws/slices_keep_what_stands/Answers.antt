use Rattle.planus_read.proofs.SliceLaws as lemmas
use Rattle.planus_read.proofs.laws.slices_keep_what_stands.Goals as goal

pub returns-clause-reference : goal.returns-clause-reference
returns-clause-reference c = lemmas.references_lead

pub returns-clause-leads : goal.returns-clause-leads
returns-clause-leads c = lemmas.leads_in_slices

pub returns-clause-field : goal.returns-clause-field
returns-clause-field c = lemmas.fields_stand_in_slices

pub returns-clause-value : goal.returns-clause-value
returns-clause-value c = lemmas.stands_in_slices
