use Rattle.planus_fields.proofs.impls.option.OptionWriteAsOptional.prepare.Goals as goal

pub returns-in-Some : goal.returns-in-Some
returns-in-Some g c = rw c.in-Some.is (search steps 200000)
