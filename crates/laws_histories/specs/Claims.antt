-- What holds of histories beyond demand 3, claim by claim. Nothing here is proved; `histories : Histories` is, in
-- `proofs/Histories.antt`. Assumes nothing.
use Rattle.std.specs.Prelude.{true, false, not, List, [], ◌++◌, ◌∷◌, map, ◌≡◌, ℕ, ◌+◌, ◌*◌, ◌/◌, ◌^◌, ◌≤◌, ◌<◌, eqb, length}
use Rattle.refusals.specs.Numbers.{accepted, out_of_range}
use Rattle.laws.specs.All.{All}
use Rattle.envelope.specs.Range.{PositionInRange}
use Rattle.write_effects.specs.Effects.{changes_in, restarts_in}
use Rattle.queue.specs.Waiting.{waiting}
use Rattle.queue_flush.specs.Applied.{apply_all}
use Rattle.chip.specs.declared.Chip.{Chip}
use Rattle.chip.specs.Clocks.{clocks_of}
use Rattle.chip.specs.Range.{chip_in}
use Rattle.clocks.specs.Clocks.{clocks_no}
use Rattle.calls_making.specs.Making.{default_variant, with_variant}
use Rattle.variants.specs.Variants.{variant_in, making_no}
use Rattle.answers.specs.Answers.{answered}
use Rattle.answers.specs.Reports.{bytes_of, counts}
use Rattle.calls_cycles.specs.Cycles.{pending_write_count}
use Rattle.dump.specs.Checked.{verdict_of}
use Rattle.calls_words.specs.Blocks.{block_buffer}
use Rattle.text_fields.specs.Fields.{hex_byte}
use Rattle.dump_writes.specs.Writes.{registers_written}
use Rattle.dump_frames.specs.Frame.{frame_loaded, frame_played, frame_buffer, frame_reported}
use Rattle.dump_words.specs.Words.{lines_of}
use Rattle.output_lines.specs.Lines.{total_text}
use Rattle.dump_played.specs.Whole.{chip_before, words_in, printed}
use Rattle.laws_promises.specs.History.{Call, reset, flush-pending-writes, block, answers, after, Ledger, empty_ledger, restarts, entered, ledger}
use Rattle.laws_promises.specs.Demand.{N, T, Small, noise_of, position_of, FromZero, Plain, Served, Holds}
use Rattle.laws_histories.specs.Histories.{AllAccepted, values, write_calls, frame_applies, frame_calls, load_calls, Play, after_plays, all_calls, joined, handed, in_parts, made_for, dump_calls, Began, OfItsType}

-- Calls, and then more calls.
pub record Appended (a b : List Call) (c : Chip) (l : Ledger) : Type 0 where
  pub chip : after (a ++ b) c ≡ after b (after a c)
  pub entries : ledger (a ++ b) c l ≡ ledger b (after a c) (ledger a c l)

-- Loading a frame is its writes, for every value, ledger and record of its type.
pub record LoadIsCalls (value : List ℕ) (c : Chip) (l : Ledger) : Type 0 where
  -- It leaves the chip that its calls leave. There are calls just where it answers 0, and each of them answers 0 too.
  pub chip : (frame_loaded value c).chip ≡ after (load_calls value c) c
  pub each : AllAccepted (load_calls value c) c
  pub taken : (frame_loaded value c).no ≡ accepted → load_calls value c ≡ write_calls value
  pub none : ((frame_loaded value c).no ≡ accepted → ⊥) → load_calls value c ≡ []
  -- They are 13 where the last byte is ff, and else 14.
  pub number : length (write_calls value) ≡ registers_written value
  -- 02, request 02: a frame of ff restarts nothing, any other restarts the envelope. Nothing else is entered; refused, nothing at all.
  pub restart : (frame_loaded value c).no ≡ accepted → ledger (load_calls value c) c l ≡ restarts (not (eqb (hex_byte value 13) 255)) l
  pub refused : ((frame_loaded value c).no ≡ accepted → ⊥) → ledger (load_calls value c) c l ≡ l
  -- So it renders no word, runs no tick and queues no write.
  pub counted : N (ledger (load_calls value c) c l) ≡ N l
  pub ran : T (ledger (load_calls value c) c l) ≡ T l
  pub writes : (ledger (load_calls value c) c l).accepted ≡ l.accepted

-- Playing a frame is its calls, for every value, buffer, ledger and record of its type.
pub record FrameIsCalls (value out : List ℕ) (c : Chip) (l : Ledger) : Type 0 where
  -- It leaves the chip that they leave, and each of them answers 0.
  pub chip : (frame_played value (length out) c).chip ≡ after (frame_calls value out c) c
  pub each : AllAccepted (frame_calls value out c) c
  -- N and T grow by the words and the ticks that it answers, 0 and 0 where it is refused.
  pub counted : N (ledger (frame_calls value out c) c l) ≡ N l + (frame_played value (length out) c).answer.words
  pub ran : T (ledger (frame_calls value out c) c l) ≡ T l + (frame_played value (length out) c).answer.ticks
  -- Accepted, the words entered are those that stand in the buffer; refused, nothing is entered.
  pub words : (frame_played value (length out) c).answer.no ≡ accepted
      → values (ledger (frame_calls value out c) c l).words ≡ values l.words ++ frame_buffer value out c
  pub refused : ((frame_played value (length out) c).answer.no ≡ accepted → ⊥) → ledger (frame_calls value out c) c l ≡ l
  -- No frame queues a write.
  pub writes : (ledger (frame_calls value out c) c l).accepted ≡ l.accepted

-- What a frame reports, for every value, buffer and record. 02, request 03: "equal to counts over the definition's list of applied writes".
pub record FrameReports (value out : List ℕ) (c : Chip) : Type 0 where
  -- Loading one leaves the chip and answers the number of `LoadIsCalls`; refused, it reports 0 and 0.
  pub loaded : answered (frame_reported value c).answer.no (frame_reported value c).chip ≡ frame_loaded value c
  pub not-loaded : ((frame_loaded value c).no ≡ accepted → ⊥) → (frame_reported value c).answer ≡ counts (frame_loaded value c).no 0 0
  -- Playing one, it counts over its own writes and then those that its words apply; refused, it reports 0 and 0.
  pub changed : (frame_played value (length out) c).answer.no ≡ accepted
      → (frame_played value (length out) c).answer.changed ≡ changes_in (frame_applies value (length out) c) (bytes_of c)
  pub restarted : (frame_played value (length out) c).answer.no ≡ accepted
      → (frame_played value (length out) c).answer.restarted ≡ restarts_in (frame_applies value (length out) c)
  pub refused : ((frame_played value (length out) c).answer.no ≡ accepted → ⊥)
      → ((frame_played value (length out) c).answer.changed ≡ 0) × ((frame_played value (length out) c).answer.restarted ≡ 0)

-- An accepted block is the same history in any number of parts, each of them accepted: they leave the same chip, enter the same and hand
-- over the same words.
pub record BlocksJoin (outs : List (List ℕ)) (c : Chip) (l : Ledger) : Type 0 where
  pub each : AllAccepted (map block outs) c
  pub chip : after (map block outs) c ≡ after (block (joined outs) ∷ []) c
  pub entries : ledger (map block outs) c l ≡ ledger (block (joined outs) ∷ []) c l
  pub words : handed outs c ≡ block_buffer (joined outs) c

-- So is an accepted frame that is loaded and handed out in parts.
pub record FrameInParts (value : List ℕ) (outs : List (List ℕ)) (c : Chip) (l : Ledger) : Type 0 where
  pub each : AllAccepted (all_calls (in_parts value outs) c) c
  pub chip : after_plays (in_parts value outs) c ≡ (frame_played value (length (joined outs)) c).chip
  pub entries : ledger (all_calls (in_parts value outs) c) c l ≡ ledger (frame_calls value (joined outs) c) c l
  pub words : handed outs (frame_loaded value c).chip ≡ frame_buffer value (joined outs) c

-- The first f frames of a dump are calls on the chip that its clocks make.
abbrev pub dump_ledger : List ℕ → ℕ → Ledger
dump_ledger text f = ledger (dump_calls text f) (made_for text) empty_ledger

abbrev pub whole_ledger : List ℕ → Ledger
whole_ledger text = dump_ledger text (verdict_of text).frames

pub record DumpIsCalls (text : List ℕ) (f : ℕ) : Type 0 where
  pub chip : chip_before text f ≡ after (dump_calls text f) (made_for text)
  pub each : AllAccepted (dump_calls text f) (made_for text)
  pub words : values (dump_ledger text f).words ≡ words_in text f
  pub counted : N (dump_ledger text f) ≡ f * (verdict_of text).words
  -- All that demand 3 says, of the default variant; and as no frame queues a write, nothing waits.
  pub holds : Holds (verdict_of text).master (verdict_of text).rate default_variant (chip_before text f) (dump_ledger text f)
  pub writes : (dump_ledger text f).accepted ≡ []
  pub none : waiting (chip_before text f).queue ≡ []

-- 01: "A flush applies all waiting writes in order." What an accepted flush enters as applied is what reaches the registers.
pub record FlushApplies (c : Chip) (l : Ledger) : Type 0 where
  pub applied : (entered flush-pending-writes c l).applied ≡ l.applied ++ waiting c.queue
  pub voice : (answers flush-pending-writes c).chip.core.voice ≡ apply_all (waiting c.queue) c.core.voice
  pub none : waiting (answers flush-pending-writes c).chip.queue ≡ []

-- Calls on a handed-in record that passes 22's test. The record may have any accumulator below the rate and any waiting writes, so the
-- sums count from what it held: `begun`. Two fields of the demand cannot be said: `Beyond.restarted`, as the record may come in the midst
-- of an envelope's start (position -64..-1); and `Beyond.agrees`, as the test asks of the noise output only that it is all ones or zeros,
-- and not by the register's top bit. From a reset on all of the demand holds (`ResetHolds`).
pub record HandedIn (c : Chip) (calls : List Call) (d : Chip) (l : Ledger) : Type 0 where
  -- The clocks and the variant stay the record's, and those are accepted ones, the clocks with their quotients.
  pub clocks : d.core.clocks ≡ c.core.clocks
  pub variant : d.core.variant ≡ c.core.variant
  pub accepted-clocks : clocks_no c.core.clocks.master c.core.clocks.rate ≡ accepted
  pub accepted-variant : variant_in c.core.variant ≡ true
  pub quotients : c.core.clocks ≡ clocks_of c.core.clocks.master c.core.clocks.rate
  -- T × rate + the accumulator at the beginning = N × internal clock + the accumulator now, which is below the rate.
  pub begun : Chip
  pub began : Began calls c begun
  pub sum : T l * c.core.clocks.rate + begun.core.accumulator ≡ N l * (c.core.clocks.master / 8) + d.core.accumulator
  pub below : d.core.accumulator < c.core.clocks.rate
  -- What waited at the beginning and then the writes accepted since are, in order, those applied and then those waiting.
  pub writes : waiting begun.queue ++ l.accepted ≡ l.applied ++ waiting d.queue
  -- The rest is the demand's, word for word.
  pub small : All Small l.words
  pub noise : 0 < (noise_of d).register
  pub seventeen : (noise_of d).register < 2 ^ 17
  pub never22 : (x : Call) → (answers x d).no ≡ out_of_range → ⊥
  pub refused : (x : Call) → ((answers x d).no ≡ accepted → ⊥) → ((answers x d).chip ≡ d) × (entered x d l ≡ l)
  pub count : pending_write_count d ≡ record { no = accepted; count = length (waiting d.queue) }
  pub position : PositionInRange (position_of d)
  pub circles : FromZero d → (later : List Call) → (ledger later d empty_ledger).restarted ≡ false → FromZero (after later d)
  pub served : (i : ℕ) → i < length (waiting d.queue) → (later : List Call) → All Plain later
      → Served (waiting d.queue) i (ledger later d empty_ledger).words (waiting (after later d).queue)

-- A reset begins anew, on a handed-in record too: then the accumulator is 0 and nothing waits, and from there demand 3 holds whole.
pub record ResetHolds (c : Chip) (earlier later : List Call) : Type 0 where
  pub anew : (after (earlier ++ reset ∷ []) c).core.accumulator ≡ 0
  pub none : waiting (after (earlier ++ reset ∷ []) c).queue ≡ []
  pub holds : Holds c.core.clocks.master c.core.clocks.rate c.core.variant (after (earlier ++ reset ∷ later) c)
      (ledger (earlier ++ reset ∷ later) c empty_ledger)

pub record Histories : Type 0 where
  pub appended : (a b : List Call) (c : Chip) (l : Ledger) → Appended a b c l
  pub load : (value : List ℕ) (c : Chip) (l : Ledger) → OfItsType c → LoadIsCalls value c l
  pub frame : (value out : List ℕ) (c : Chip) (l : Ledger) → OfItsType c → FrameIsCalls value out c l
  pub frame-reports : (value out : List ℕ) (c : Chip) → FrameReports value out c
  pub blocks-join : (outs : List (List ℕ)) (c : Chip) (l : Ledger) → OfItsType c → (answers (block (joined outs)) c).no ≡ accepted
      → BlocksJoin outs c l
  pub frame-in-parts : (value : List ℕ) (outs : List (List ℕ)) (c : Chip) (l : Ledger) → OfItsType c
      → (frame_played value (length (joined outs)) c).answer.no ≡ accepted → FrameInParts value outs c l
  -- Any calls with frames loaded and played among them come to calls, and demand 3 holds of them.
  pub plays : (plays : List Play) (c : Chip) → OfItsType c → after_plays plays c ≡ after (all_calls plays c) c
  pub plays-hold : (master rate variant : ℕ) → making_no master rate variant ≡ accepted → (plays : List Play)
      → Holds master rate variant (after_plays plays (with_variant master rate variant).chip)
      (ledger (all_calls plays (with_variant master rate variant).chip) (with_variant master rate variant).chip empty_ledger)
  -- A checked dump, frame by frame; and what is printed of it is the number of words in the ledger, and those words.
  pub dump : (text : List ℕ) → (verdict_of text).no ≡ accepted → (f : ℕ) → f ≤ (verdict_of text).frames → DumpIsCalls text f
  pub prints : (text : List ℕ) → (verdict_of text).no ≡ accepted
      → printed text ≡ total_text (N (whole_ledger text)) ++ lines_of (values (whole_ledger text).words)
  pub flush : (c : Chip) (l : Ledger) → (answers flush-pending-writes c).no ≡ accepted → FlushApplies c l
  pub handed-in : (c : Chip) → OfItsType c → chip_in c ≡ true → (calls : List Call) → HandedIn c calls (after calls c) (ledger calls c empty_ledger)
  pub reset : (c : Chip) → OfItsType c → chip_in c ≡ true → (earlier later : List Call) → ResetHolds c earlier later
