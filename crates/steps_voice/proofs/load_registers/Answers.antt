-- `steps_voice::load_registers` meets its contract: the record's test says which case holds. Assumes nothing.
use Rattle.laws.proofs.Tests.{tests, calls}
use Rattle.steps_voice.specs.VoiceSteps.{voiced_all}
use Rattle.steps_voice.proofs.Accepted.{loaded-yes}
use Rattle.steps_voice.proofs.load_registers.Goals as goal

pub returns-then-not-ok : goal.returns-then-not-ok
unfolding voiced_all
returns-then-not-ok c = search (tests, calls)

pub returns : goal.returns
returns c = search loaded-yes
