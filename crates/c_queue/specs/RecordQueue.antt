-- What a flush changes of a lent record, and its drums with it. 01, "Numbers a call can answer". Assumes nothing.
use Rattle.c_record.specs.declared.RecordDrum.{RecordDrum}
use Rattle.steps_channels.specs.declared.Three.{Three}
use Rattle.steps_queue.specs.declared.FlushStep.{FlushStep}
use Rattle.c_steps.specs.declared.RecordStep.{RecordStep}
use Rattle.c_steps.specs.RecordSteps.{recorded}

abbrev pub record_flushed : Three RecordDrum → FlushStep → RecordStep FlushStep
record_flushed d f = recorded f.answer.no d f
