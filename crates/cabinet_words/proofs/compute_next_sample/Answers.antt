use Rattle.std.proofs.Common.{ap}
use Rattle.answers.specs.declared.Sampled.{Sampled}
use Rattle.calls_words.proofs.Sampling.{sampled-by}
use Rattle.cabinet_words.proofs.compute_next_sample.Goals as goal

pub compute_next_sample-r-requires : goal.compute_next_sample-r-requires
compute_next_sample-r-requires c ok =
    let core = c.in_range-ok.ensures.core ok in
    (record { run = core.run; cycles = core.cycles; voice = core.voice }, c.in_range-ok.ensures.queue ok)

pub returns-clause-answer : goal.returns-clause-answer
returns-clause-answer c =
    rw (c.compute_next_sample-r.ensures, c.in_range-ok.ensures.answer)
    (ap (λ (r : Sampled). r.answer) (sampled-by c.args.chip.now))

pub returns-clause-left : goal.returns-clause-left
returns-clause-left c =
    rw (c.compute_next_sample-r.ensures, c.in_range-ok.ensures.answer)
    (ap (λ (r : Sampled). r.chip) (sampled-by c.args.chip.now))
