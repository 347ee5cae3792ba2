-- `steps_ports::write_port` meets its contract: the record's test, the port and the count say which case holds. Assumes nothing.
use mathlib.Core.Path.{refl, sym, ◌∙◌}
use Rattle.laws.proofs.Tests.{tests, calls, on-yes, on-true, on-false, on-le}
use Rattle.steps_ports.specs.PortSteps.{port_queued}
use Rattle.steps_ports.proofs.Queued.{queued-yes}
use mathlib.Core.Bool.{not}
use mathlib.Core.Path.{ap}
use Rattle.steps_ports.proofs.write_port.Goals as goal

pub returns-then-not-ok : goal.returns-then-not-ok
unfolding port_queued
returns-then-not-ok c = search (tests, calls)

pub returns-then-bit_1_clear : goal.returns-then-bit_1_clear
unfolding port_queued
returns-then-bit_1_clear c = on-yes c.args.ok _ _ _ _ refl (ap not c.if-not-ok.false) (on-true _ _ _ _ (sym c.bit_1_clear.ensures ∙ c.if-bit_1_clear.true) refl)

pub returns-then-count-ge256 : goal.returns-then-count-ge256
unfolding port_queued
returns-then-count-ge256 c = on-yes c.args.ok _ _ _ _ refl (ap not c.if-not-ok.false) (on-false _ _ _ _ (sym c.bit_1_clear.ensures ∙ c.if-bit_1_clear.false) (on-le 256 _ _ _ _ c.if-count-ge256.true refl))

pub returns : goal.returns
returns c = queued-yes _ _ _ _ _ _ _ (ap not c.if-not-ok.false) (sym c.bit_1_clear.ensures ∙ c.if-bit_1_clear.false) c.if-count-ge256.false
