-- Demand 3, whole, and above it a definition to each of its parts. Nothing here is proved; `demand-3 : Demand` is, in
-- `proofs/Demand.antt`. Assumes nothing.
--
--   "Over any calls on a chip with accepted clocks, since its making or last reset, N words in T ticks: T × rate = N × internal clock
--   + an accumulator below the rate. Every word is at most 32,766, the noise register is never zero, and the queued data writes
--   accepted since then are, in order, those applied and then those waiting. A waiting write is applied by the first later word whose
--   end reaches its stamp and all stamps ahead of it, if no flush or reset comes first."
use Rattle.std.specs.Prelude.{true, false, List, [], ◌∷◌, ◌++◌, ◌↔◌, ◌≡◌, ℕ, zero, suc, ◌+◌, ◌-◌, ◌*◌, ◌/◌, ◌^◌, max, ◌≤◌, ◌<◌, ℤ, pos, length, get_or}
use Rattle.std.specs.Int.Signed.{le_z}
use Rattle.chip.specs.declared.Chip.{Chip}
use Rattle.calls_cycles.specs.Cycles.{pending_write_count}
use Rattle.envelope.specs.Range.{PositionInRange}
use Rattle.laws.specs.All.{All}
use Rattle.calls_making.specs.Making.{with_variant}
use Rattle.variants.specs.Variants.{making_no}
use Rattle.noise.specs.Course.{Agrees}
use Rattle.noise.specs.declared.Noise.{Noise}
use Rattle.queue.specs.Waiting.{waiting}
use Rattle.queue.specs.declared.Write.{Write}
use Rattle.chip.specs.Clocks.{clocks_of}
use Rattle.refusals.specs.Numbers.{accepted, out_of_range}
use Rattle.laws_promises.specs.History.{Call, reset, flush-pending-writes, answers, after, Entry, ticks_in, applied_in, Ledger, empty_ledger, entered, ledger}

-- "N words in T ticks"
abbrev pub N : Ledger → ℕ
N l = length l.words

abbrev pub T : Ledger → ℕ
T l = ticks_in l.words

-- "Every word is at most 32,766,"
abbrev pub Small : Entry → Type 0
Small w = w.value ≤ 32766

abbrev pub noise_of : Chip → Noise
noise_of c = c.core.voice.generators.noise

-- Of the chip after some calls, and the ledger "since its making or last reset":
pub record Kept (master rate : ℕ) (c : Chip) (l : Ledger) : Type 0 where
  -- "T × rate = N × internal clock + an accumulator"
  pub sum : T l * rate ≡ N l * (master / 8) + c.core.accumulator
  -- "below the rate."
  pub below : c.core.accumulator < rate
  -- "Every word is at most 32,766,"
  pub small : All Small l.words
  -- "the noise register is never zero,"
  pub noise : 0 < (noise_of c).register
  -- "and the queued data writes accepted since then are, in order, those applied and then those waiting."
  pub writes : l.accepted ≡ l.applied ++ waiting c.queue

-- "its stamp and all stamps ahead of it": the highest stamp of the first i + 1 writes.
unfoldable pub reach : ℕ → List Write → ℕ
reach i [] = 0
reach zero (w ∷ l) = w.stamp
reach (suc i) (w ∷ l) = max w.stamp (reach i l)

-- "the first later word whose end reaches" a stamp: x, which the words `before` precede.
abbrev pub NoneReaches : ℕ → List Entry → Type 0
NoneReaches stamp ws = All (λ (w : Entry). w.end < stamp) ws

pub record FirstToReach (stamp : ℕ) (before : List Entry) (x : Entry) : Type 0 where
  pub none : NoneReaches stamp before
  pub reaches : stamp ≤ x.end

-- "A waiting write", by its place i in the list `first`: once n have been taken off the front it stands in the list `now`, n
-- places nearer. (Two waiting writes may be equal, so a write is told by its place and not by what it says.)
abbrev pub no_write : Write
no_write = record { stamp = 0; register = 0; value = 0 }

pub record Stands (first : List Write) (i n : ℕ) (now : List Write) : Type 0 where
  pub yet : n ≤ i
  pub there : i - n < length now
  pub it : get_or now (i - n) no_write ≡ get_or first i no_write

-- It "is applied by" the word x, which the words `before` precede; or it still waits after the words `ws`.
abbrev pub AppliedBy : List Write → ℕ → List Entry → Entry → Type 0
AppliedBy first i before x = Stands first i (length (applied_in before)) x.applied

abbrev pub Waits : List Write → ℕ → List Entry → List Write → Type 0
Waits first i ws now = Stands first i (length (applied_in ws)) now

-- Of the words `ws` rendered since, exactly the first to reach applies it, and it waits as long as none has reached.
pub record Served (first : List Write) (i : ℕ) (ws : List Entry) (now : List Write) : Type 0 where
  pub applied : (before rest : List Entry) (x : Entry) → ws ≡ before ++ x ∷ rest
      → AppliedBy first i before x ↔ FirstToReach (reach i first) before x
  pub waits : Waits first i ws now ↔ NoneReaches (reach i first) ws

-- "if no flush or reset comes first."
abbrev pub Plain : Call → Type 0
Plain x = (x ≡ flush-pending-writes → ⊥) × (x ≡ reset → ⊥)

-- Beyond the demand's sentences, of the same chip and ledger:
abbrev pub position_of : Chip → ℤ
position_of c = c.core.voice.generators.envelope.position

-- the position is none of -64..-1
abbrev pub FromZero : Chip → Type 0
FromZero c = le_z (pos 0) (position_of c) ≡ true

pub record Beyond (master rate variant : ℕ) (c : Chip) (l : Ledger) : Type 0 where
  -- The clocks stay those of the making, and so does the variant.
  pub clocks : c.core.clocks ≡ clocks_of master rate
  pub of-variant : c.core.variant ≡ variant
  -- 01 on 22: "Records left by calls never give it."
  pub never22 : (x : Call) → (answers x c).no ≡ out_of_range → ⊥
  -- A refused call changes nothing.
  pub refused : (x : Call) → ((answers x c).no ≡ accepted → ⊥) → ((answers x c).chip ≡ c) × (entered x c l ≡ l)
  -- 01: "the waiting count is the list's length"
  pub count : pending_write_count c ≡ record { no = accepted; count = length (waiting c.queue) }
  -- The noise register has 17 bits, and the output is all ones or all zeros by the top one.
  pub seventeen : (noise_of c).register < 2 ^ 17
  pub agrees : Agrees (noise_of c)
  -- 01: "position -64..63". It is one of -64..-1 only where the envelope was restarted, and once past them it stays past them until
  -- the next restart.
  pub position : PositionInRange (position_of c)
  pub restarted : l.restarted ≡ false → FromZero c
  pub circles : FromZero c → (later : List Call) → (ledger later c empty_ledger).restarted ≡ false → FromZero (after later c)

pub record Holds (master rate variant : ℕ) (c : Chip) (l : Ledger) : Type 0 where
  pub kept : Kept master rate c l
  pub served : (i : ℕ) → i < length (waiting c.queue) → (later : List Call) → All Plain later
      → Served (waiting c.queue) i (ledger later c empty_ledger).words (waiting (after later c).queue)
  pub beyond : Beyond master rate variant c l

-- "Over any calls on a chip with accepted clocks"; 02, request 05: "demand 3 speaks of all" variants.
abbrev pub Demand : Type 0
Demand =
    (master rate variant : ℕ) → making_no master rate variant ≡ accepted → (calls : List Call)
    → Holds master rate variant (after calls (with_variant master rate variant).chip) (ledger calls (with_variant master rate variant).chip empty_ledger)
