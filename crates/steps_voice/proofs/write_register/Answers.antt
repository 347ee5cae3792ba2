-- `steps_voice::write_register` meets its contract: the record's test says which case holds. Assumes nothing.
use Rattle.steps_voice.proofs.Accepted.{voiced-no, voiced-yes}
use Rattle.steps_voice.proofs.write_register.Goals as goal

pub returns-then-not-ok : goal.returns-then-not-ok
returns-then-not-ok c = search voiced-no

pub returns : goal.returns
returns c = search voiced-yes
