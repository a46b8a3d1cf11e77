use Rattle.std.proofs.Common.{refl}
use Rattle.harbour.proofs.signal.Signal.number.Goals as goal

pub returns-in-Alfa : goal.returns-in-Alfa
returns-in-Alfa c = rw c.in-Alfa.is refl

pub returns-in-Bravo : goal.returns-in-Bravo
returns-in-Bravo c = rw c.in-Bravo.is refl

pub returns-in-Charlie : goal.returns-in-Charlie
returns-in-Charlie c = rw c.in-Charlie.is refl

pub returns-in-Delta : goal.returns-in-Delta
returns-in-Delta c = rw c.in-Delta.is refl

pub returns-in-Echo : goal.returns-in-Echo
returns-in-Echo c = rw c.in-Echo.is refl

pub returns-in-Foxtrot : goal.returns-in-Foxtrot
returns-in-Foxtrot c = rw c.in-Foxtrot.is refl

pub returns-in-Golf : goal.returns-in-Golf
returns-in-Golf c = rw c.in-Golf.is refl

pub returns-in-Hotel : goal.returns-in-Hotel
returns-in-Hotel c = rw c.in-Hotel.is refl

pub returns-in-India : goal.returns-in-India
returns-in-India c = rw c.in-India.is refl

pub returns-in-Juliett : goal.returns-in-Juliett
returns-in-Juliett c = rw c.in-Juliett.is refl

pub returns-in-Kilo : goal.returns-in-Kilo
returns-in-Kilo c = rw c.in-Kilo.is refl

pub returns-in-Lima : goal.returns-in-Lima
returns-in-Lima c = rw c.in-Lima.is refl

pub returns-in-Mike : goal.returns-in-Mike
returns-in-Mike c = rw c.in-Mike.is refl

pub returns-in-November : goal.returns-in-November
returns-in-November c = rw c.in-November.is refl

pub returns-in-Oscar : goal.returns-in-Oscar
returns-in-Oscar c = rw c.in-Oscar.is refl

pub returns-in-Papa : goal.returns-in-Papa
returns-in-Papa c = rw c.in-Papa.is refl

pub returns-in-Quebec : goal.returns-in-Quebec
returns-in-Quebec c = rw c.in-Quebec.is refl

pub returns-in-Romeo : goal.returns-in-Romeo
returns-in-Romeo c = rw c.in-Romeo.is refl

pub returns-in-Sierra : goal.returns-in-Sierra
returns-in-Sierra c = rw c.in-Sierra.is refl

pub returns-in-Tango : goal.returns-in-Tango
returns-in-Tango c = rw c.in-Tango.is refl

pub returns-in-Uniform : goal.returns-in-Uniform
returns-in-Uniform c = rw c.in-Uniform.is refl

pub returns-in-Victor : goal.returns-in-Victor
returns-in-Victor c = rw c.in-Victor.is refl

pub returns-in-Whiskey : goal.returns-in-Whiskey
returns-in-Whiskey c = rw c.in-Whiskey.is refl

pub returns-in-Xray : goal.returns-in-Xray
returns-in-Xray c = rw c.in-Xray.is refl

pub returns-in-Yankee : goal.returns-in-Yankee
returns-in-Yankee c = rw c.in-Yankee.is refl

pub returns-in-Zulu : goal.returns-in-Zulu
returns-in-Zulu c = rw c.in-Zulu.is refl
