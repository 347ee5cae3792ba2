-- `steps_voice::write_port_immediate` meets its contract: the record's test and the port say which case holds. Assumes nothing.
use Rattle.steps_voice.proofs.Accepted.{selects-yes, written-no, written-yes}
use Rattle.steps_voice.proofs.write_port_immediate.Goals as goal

pub returns-then-not-ok : goal.returns-then-not-ok
returns-then-not-ok c = search written-no

pub returns-then-bit_1_clear : goal.returns-then-bit_1_clear
returns-then-bit_1_clear c = search selects-yes

pub returns : goal.returns
returns c = search written-yes
