-- The drums and the mutes of a lent record, and the record with other drums. Assumes nothing.
use Rattle.std.specs.Prelude.{Bool}
use Rattle.c_record.specs.declared.Record.{Record}
use Rattle.c_record.specs.declared.RecordDrum.{RecordDrum}
use Rattle.steps_channels.specs.declared.Three.{Three}

abbrev pub drums_in : Record → Three RecordDrum
drums_in x = record { a = x.core.a.drum; b = x.core.b.drum; c = x.core.c.drum }

abbrev pub mutes_in : Record → Three Bool
mutes_in x = record { a = x.core.a.muted; b = x.core.b.muted; c = x.core.c.muted }

abbrev pub with_drums : Three RecordDrum → Record → Record
with_drums d x =
    record x { core = record x.core { a = record x.core.a { drum = d.a }; b = record x.core.b { drum = d.b }; c = record x.core.c { drum = d.c } } }
