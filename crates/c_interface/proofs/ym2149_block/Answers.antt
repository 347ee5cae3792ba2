use Rattle.std.proofs.Common.{length}
use Rattle.calls_words.proofs.Blocking.{buffer-by}
use Rattle.c_record.specs.Record.{chip_of}
use Rattle.c_interface.proofs.Blocking.{block-left, block-told}
use Rattle.c_interface.proofs.ym2149_block.Goals as goal

pub block-played-requires : goal.block-played-requires
block-played-requires c ok = (c.in_range-ok.ensures.core ok, c.in_range-ok.ensures.queue ok)

pub returns-clause-answer : goal.returns-clause-answer
returns-clause-answer c =
    rw (c.block-played.ensures.answer, c.in_range-ok.ensures.answer) (block-told (length c.args.out.now) c.args.chip.now)

pub returns-clause-left : goal.returns-clause-left
returns-clause-left c =
    rw (c.block-played.ensures.answer, c.in_range-ok.ensures.answer) (block-left (length c.args.out.now) c.args.chip.now)

pub returns-clause-buffer : goal.returns-clause-buffer
returns-clause-buffer c =
    rw (c.block-played.ensures.buffer, c.in_range-ok.ensures.answer) (buffer-by c.args.out.now (chip_of c.args.chip.now))
