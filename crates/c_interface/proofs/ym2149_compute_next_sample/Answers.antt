use Rattle.c_record.specs.Record.{core_of}
use Rattle.c_interface.proofs.Sampling.{word-left, word-told}
use Rattle.c_interface.proofs.ym2149_compute_next_sample.Goals as goal

pub compute_next_sample-r-requires : goal.compute_next_sample-r-requires
unfolding core_of
compute_next_sample-r-requires c ok =
    let core = c.in_range-ok.ensures.core ok in
    (record { run = core.run; cycles = core.cycles; voice = core.voice }, c.in_range-ok.ensures.queue ok)

pub returns-clause-answer : goal.returns-clause-answer
returns-clause-answer c = rw (c.compute_next_sample-r.ensures, c.in_range-ok.ensures.answer) (word-told c.args.chip.now)

pub returns-clause-left : goal.returns-clause-left
returns-clause-left c = rw (c.compute_next_sample-r.ensures, c.in_range-ok.ensures.answer) (word-left c.args.chip.now)
