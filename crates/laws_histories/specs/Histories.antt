-- Frames and dumps as calls on a chip, and where a ledger begins. Definitions alone: nothing here is proved. Assumes nothing.
use Rattle.std.specs.Prelude.{cond, List, [], ◌∷◌, ◌++◌, map, ◌⊎◌, ◌≡◌, ℕ, zero, suc, length, replicate}
use Rattle.laws.specs.All.{All}
use Rattle.refusals.specs.Numbers.{accepted}
use Rattle.dump.specs.Checked.{verdict_of}
use Rattle.chip.specs.declared.Chip.{Chip}
use Rattle.queue_flush.specs.Applied.{register_writes}
use Rattle.clocking_block.specs.Block.{applied_of}
use Rattle.calls_making.specs.Making.{with_clocks}
use Rattle.calls_words.specs.Blocks.{block_buffer}
use Rattle.registers.specs.Writes.{RegisterWrite}
use Rattle.dump_writes.specs.Writes.{frame_writes}
use Rattle.dump_frames.specs.Frame.{frame_chip, frame_loaded, frame_played}
use Rattle.dump_played.specs.Whole.{value_of}
use Rattle.laws_promises.specs.History.{Call, reset, write-register, block, answers, after, Entry, is_accepted}

-- Each call of a list answers 0, on the chip that those ahead of it leave.
abbrev pub AllAccepted : List Call → Chip → Type 0
AllAccepted [] c = Unit {0}
AllAccepted (x ∷ calls) c = ((answers x c).no ≡ accepted) × AllAccepted calls (answers x c).chip

-- What some words give.
abbrev pub values : List Entry → List ℕ
values ws = map (λ (w : Entry). w.value) ws

-- A frame's writes as calls: a `write_register` for each. 01, "The dump player": "Each frame writes R0..R13 at once in order"; by request 02
-- a frame whose last byte is ff writes R0..R12 only.
unfoldable pub write_calls : List ℕ → List Call
write_calls value = map (λ (w : RegisterWrite). write-register w.register w.value) (frame_writes value)

-- "then renders its words"
abbrev pub write_then_render : List ℕ → List ℕ → List Call
write_then_render value out = write_calls value ++ block out ∷ []

-- Playing a frame with a lent buffer (`play_frame`), as calls. A frame that is refused changes nothing: it is no call.
unfoldable pub frame_calls : List ℕ → List ℕ → Chip → List Call
frame_calls value out c = cond (is_accepted (frame_played value (length out) c).answer.no) (write_then_render value out) []

-- The register writes that it applies: its own, at once, and then the waiting ones that its words apply.
unfoldable pub frame_applies : List ℕ → ℕ → Chip → List RegisterWrite
frame_applies value n c = frame_writes value ++ register_writes (applied_of n (frame_chip value c))

-- Loading a frame and rendering nothing (`load_frame`), as calls: its writes, or none where it is refused.
unfoldable pub load_calls : List ℕ → Chip → List Call
load_calls value c = cond (is_accepted (frame_loaded value c).no) (write_calls value) []

-- A history with frames among its calls: what it leaves, and the calls that it comes to.
pub data Play : Type 0 where
  call : Call → Play
  load-frame : (value : List ℕ) → Play
  play-frame : (value out : List ℕ) → Play

unfoldable pub leaves : Play → Chip → Chip
leaves (call x) c = (answers x c).chip
leaves (load-frame value) c = (frame_loaded value c).chip
leaves (play-frame value out) c = (frame_played value (length out) c).chip

abbrev pub calls_of : Play → Chip → List Call
calls_of (call x) c = x ∷ []
calls_of (load-frame value) c = load_calls value c
calls_of (play-frame value out) c = frame_calls value out c

unfoldable pub after_plays : List Play → Chip → Chip
after_plays [] c = c
after_plays (p ∷ plays) c = after_plays plays (leaves p c)

unfoldable pub all_calls : List Play → Chip → List Call
all_calls [] c = []
all_calls (p ∷ plays) c = calls_of p c ++ all_calls plays (leaves p c)

-- Buffers one behind the other, and what blocks leave in them, each on the chip that the one ahead of it leaves.
abbrev pub joined : List (List ℕ) → List ℕ
joined [] = []
joined (out ∷ outs) = out ++ joined outs

abbrev pub handed : List (List ℕ) → Chip → List ℕ
handed [] c = []
handed (out ∷ outs) c = block_buffer out c ++ handed outs (answers (block out) c).chip

-- A frame as the player plays it where the buffer is short: loaded, and its words handed out in several blocks.
abbrev pub in_parts : List ℕ → List (List ℕ) → List Play
in_parts value outs = load-frame value ∷ map (λ (out : List ℕ). call (block out)) outs

-- The chip that a dump is played on.
abbrev pub made_for : List ℕ → Chip
made_for text = (with_clocks (verdict_of text).master (verdict_of text).rate).chip

-- The calls of a dump's first f frames. (A block's words do not depend on what stood in the buffer: zeros stand for it.)
unfoldable pub dump_calls : List ℕ → ℕ → List Call
dump_calls text zero = []
dump_calls text (suc f) = dump_calls text f ++ write_then_render (value_of text f) (replicate (verdict_of text).words 0)

-- "since its making or last reset": where the ledger of some calls on a handed-in record begins. With no reset among them that is the
-- record itself, else the chip that the last reset left.
abbrev pub NoReset : Call → Type 0
NoReset x = x ≡ reset → ⊥

pub record LastReset (calls : List Call) (c begun : Chip) : Type 0 where
  pub earlier : List Call
  pub later : List Call
  pub split : calls ≡ earlier ++ reset ∷ later
  pub last : All NoReset later
  pub left : begun ≡ after (earlier ++ reset ∷ []) c

abbrev pub Began : List Call → Chip → Chip → Type 0
Began calls c begun = (All NoReset calls × (begun ≡ c)) ⊎ LastReset calls c begun

-- The arrays of a handed-in record have the lengths that its type gives them: 14 registers, a ring of 256.
pub record OfItsType (c : Chip) : Type 0 where
  pub registers : length c.core.voice.registers ≡ 14
  pub stamps : length c.queue.stamps ≡ 256
  pub numbers : length c.queue.registers ≡ 256
  pub values : length c.queue.values ≡ 256
