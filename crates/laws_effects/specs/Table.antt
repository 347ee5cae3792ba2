-- 02's request 03 in worked cases: what calls report on a default chip, whose words are of 32 cycles. Fresh, its bytes are 0 but R7's 3f.
-- Assumes nothing.
use Rattle.std.specs.Prelude.{true, false, List, [], ◌∷◌, ◌≡◌, ℕ, replicate}
use Rattle.chip.specs.declared.Chip.{Chip}
use Rattle.chip.specs.Clocks.{clocks_of}
use Rattle.answers.specs.Reports.{counts, wrote}
use Rattle.calls_making.specs.Making.{default_master, default_rate, fresh, made_of}
use Rattle.calls_registers.specs.Stored.{loaded_registers, wrote_register}
use Rattle.calls_ports.specs.Ports.{write_port, wrote_port_immediate}
use Rattle.calls_cycles.specs.Cycles.{flushed_pending_writes, set_cpu_cycle, sync_sample_cycle}
use Rattle.laws_effects.specs.Claims.{of_block, of_word}

-- a fresh chip, one register written
unfoldable pub holding : ℕ → ℕ → Chip
holding register byte = (wrote_register register byte fresh).chip

-- and with writes that wait, for one register: port 0 selects it, port 2 queues a byte
unfoldable pub queued : ℕ → List ℕ → Chip → Chip
queued register [] c = c
queued register (byte ∷ bytes) c = queued register bytes (write_port 2 byte (write_port 0 register c).chip).chip

-- R8 is 5, and 5, 6 and 5 wait
abbrev pub three : Chip
three = queued 8 (5 ∷ 6 ∷ 5 ∷ []) (holding 8 5)

-- R8 is 0, and 5 waits for the first word, 6 for the second
abbrev pub later : Chip
later = queued 8 (6 ∷ []) (set_cpu_cycle 33 (queued 8 (5 ∷ []) fresh)).chip

-- sixteen bytes, for a load
abbrev pub all : ℕ → List ℕ
all byte = replicate 16 byte

-- a record that gives 22: no part is of variant 3
abbrev pub outside : Chip
outside = made_of (clocks_of default_master default_rate) 3

pub record Table : Type 0 where
  -- R8 is 5, and 5, 6, 5 are applied: 2 and 0, by a flush, a word or a block.
  pub flush : (flushed_pending_writes three).answer ≡ counts 0 2 0
  pub word : of_word three ≡ counts 0 2 0
  pub block : of_block 3 three ≡ counts 0 2 0
  -- One write to a word: the first counts 1, both count 2.
  pub one : of_word later ≡ counts 0 1 0
  pub both : of_block 2 later ≡ counts 0 2 0
  -- R1 at 0f, written ff: masked it is 0f.
  pub masked : (wrote_register 1 0xff (holding 1 0x0f)).answer ≡ wrote 0 false false
  -- R13 written its own byte: no byte changed, and the envelope restarted. Twice in one list: 0 and 2.
  pub restart : (wrote_register 13 0x0d (holding 13 0x0d)).answer ≡ wrote 0 false true
  pub restarts : (flushed_pending_writes (queued 13 (0x0d ∷ 0x0d ∷ []) (holding 13 0x0d))).answer ≡ counts 0 0 2
  -- Registers 14 and 15: no and no; of a list of both 0 and 0.
  pub fourteen : (wrote_register 14 0xff fresh).answer ≡ wrote 0 false false
  pub fifteen : (wrote_register 15 0xff fresh).answer ≡ wrote 0 false false
  pub neither : (flushed_pending_writes (queued 15 (0xff ∷ []) (queued 14 (0xff ∷ []) fresh))).answer ≡ counts 0 0 0
  -- R7 from 3f to 3e; R12 changed, which sets the period and restarts nothing.
  pub gates : (wrote_register 7 0x3e fresh).answer ≡ wrote 0 true false
  pub period : (wrote_register 12 1 fresh).answer ≡ wrote 0 true false
  -- Nothing waits: 0 and 0.
  pub none : (flushed_pending_writes fresh).answer ≡ counts 0 0 0
  pub no_word : of_block 0 three ≡ counts 0 0 0
  -- A load of zeros changes R7; again, it changes nothing and restarts. One of ff changes all; again, masked, nothing.
  pub zeros : (loaded_registers (all 0) fresh).answer ≡ counts 0 1 1
  pub zeros-again : (loaded_registers (all 0) (loaded_registers (all 0) fresh).chip).answer ≡ counts 0 0 1
  pub highest : (loaded_registers (all 0xff) (loaded_registers (all 0) fresh).chip).answer ≡ counts 0 14 1
  pub highest-again : (loaded_registers (all 0xff) (loaded_registers (all 0xff) fresh).chip).answer ≡ counts 0 0 1
  -- Port 0 selects, and changes no byte; port 2 writes the selected register at once.
  pub selects : (wrote_port_immediate 0 8 fresh).answer ≡ wrote 0 false false
  pub at_once : (wrote_port_immediate 2 5 (write_port 0 8 fresh).chip).answer ≡ wrote 0 true false
  -- Refused: no and no, 0 and 0, though a byte would have changed, a write was due and the envelope would have restarted.
  pub out-write : (wrote_register 13 1 outside).answer ≡ wrote 22 false false
  pub out-port : (wrote_port_immediate 2 1 outside).answer ≡ wrote 22 false false
  pub out-load : (loaded_registers (all 1) outside).answer ≡ counts 22 0 0
  pub too-late : of_word (sync_sample_cycle 0xffff_ffff_ffff_ffff (queued 13 (1 ∷ []) fresh)).chip ≡ counts 6 0 0
  pub too_long : of_block 65537 (queued 13 (1 ∷ []) fresh) ≡ counts 5 0 0
