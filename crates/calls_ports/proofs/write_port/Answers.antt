-- `calls_ports::write_port` meets its contract: what its step says is the call's (`Slots`), and what passed the record's test is what a push asks. Assumes nothing.
use mathlib.Core.Path.{ap, sym, ◌∙◌}
use borrow.Author.Rules.{rules}
use Rattle.chip.proofs.InRange.{Laid, passed}
use Rattle.calls_ports.specs.Ports.{queued}
use Rattle.calls_ports.proofs.Slots.{none-queued, slot-queued, slot-tested}
use Rattle.calls_ports.proofs.write_port.Goals as goal

pub returns-then-step-ge-NO_SLOT : goal.returns-then-step-ge-NO_SLOT
returns-then-step-ge-NO_SLOT c = rw c.with_selection-after.ensures (none-queued _ _ _ c.in_range-ok.ensures c.write_port-step.ensures c.if-step-ge-NO_SLOT.true)

pub push-requires : goal.push-requires
push-requires c = let laid : Laid c.args.chip = record { registers = search rules; stamps = search rules; numbers = search rules; values = search rules } in let a = c.args in
    (passed laid (sym c.in_range-ok.ensures ∙ slot-tested a.port a.value a.chip c.write_port-step.ensures c.if-step-ge-NO_SLOT.false)).queue

pub returns : goal.returns
returns c = c.queued.ensures
    ∙ ap (queued c.args.chip) c.push.ensures.ring
    ∙ slot-queued _ _ _ c.in_range-ok.ensures c.write_port-step.ensures c.if-step-ge-NO_SLOT.false
