-- Every row of the table comes out by computing. Assumes nothing.
use mathlib.Core.Path.{refl}
use Rattle.clocks.specs.Clocks.{accept_clocks, clocks_no}
use Rattle.variants.specs.Variants.{variant_in}
use Rattle.tone.specs.Tone.{tone_set}
use Rattle.power_on.specs.Seed.{power_on_edges}
use Rattle.generators.specs.Generators.{tone_at, put_tone, tones_set}
use Rattle.generators.specs.Reset.{generators_reset}
use Rattle.gates.specs.Gates.{gates_from}
use Rattle.registers.specs.Registers.{masked, apply_register, voice_set, tone_period_set, noise_period_set, gates_set, envelope_period_set, shape_set, pair_at}
use Rattle.registers.specs.Writes.{registers_from, applied_in_order}
use Rattle.write_effects.specs.Effects.{bytes_after, changed_by, changes_in, restarts_in}
use Rattle.all_registers.specs.Reset.{voice_reset}
use Rattle.queue.specs.Waiting.{writes_from, waiting, due, queue_in, push}
use Rattle.queue_flush.specs.Applied.{register_writes}
use Rattle.queue_drain.specs.Drain.{drain}
use Rattle.voice_range.specs.Range.{bytes_in, tone_in, all_or_none, noise_in, envelope_in, generators_in, gates_in, voice_in}
use Rattle.chip.specs.Range.{clocks_in, core_in, chip_in}
use Rattle.clocking_word.specs.Word.{drained, word_of}
use Rattle.clocking_block.specs.Block.{after_words, applied_of}
use Rattle.block_limits.specs.Limits.{accept_block, block_number}
use Rattle.calls_cycles.specs.Cycles.{set_cpu_cycle, sync_sample_cycle, flush_pending_writes, flushed_pending_writes}
use Rattle.calls_making.specs.Making.{made_of, fresh}
use Rattle.calls_ports.specs.Ports.{write_port, write_port_immediate, wrote_port_immediate}
use Rattle.calls_registers.specs.Stored.{write_register, wrote_register, load_registers, loaded_registers}
use Rattle.calls_words.specs.Blocks.{blocked, sampled}
use Rattle.laws_effects.specs.Table.{Table, holding, queued}

pub table : Table
unfolding holding queued masked apply_register registers_from applied_in_order voice_set tone_period_set noise_period_set gates_set envelope_period_set shape_set pair_at tone_at put_tone tones_set tone_set gates_from generators_reset power_on_edges voice_reset writes_from waiting due queue_in push register_writes drain drained word_of after_words applied_of clocks_no accept_clocks clocks_in bytes_in tone_in all_or_none noise_in envelope_in generators_in gates_in voice_in variant_in core_in chip_in made_of fresh bytes_after changed_by changes_in restarts_in write_register wrote_register load_registers loaded_registers write_port write_port_immediate wrote_port_immediate set_cpu_cycle sync_sample_cycle flush_pending_writes flushed_pending_writes block_number accept_block blocked sampled
table =
    record {
      flush = refl;
      word = refl;
      block = refl;
      one = refl;
      both = refl;
      masked = refl;
      restart = refl;
      restarts = refl;
      fourteen = refl;
      fifteen = refl;
      neither = refl;
      gates = refl;
      period = refl;
      none = refl;
      no_word = refl;
      zeros = refl;
      zeros-again = refl;
      highest = refl;
      highest-again = refl;
      selects = refl;
      at_once = refl;
      out-write = refl;
      out-port = refl;
      out-load = refl;
      too-late = refl;
      too_long = refl;
    }
