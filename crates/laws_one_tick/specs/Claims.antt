-- One tick to a word, claim by claim. 02, request 07: "Nearly all bench work is at one tick per word". Nothing here is proved;
-- `one-tick : OneTick` is, in `proofs/OneTick.antt`. Assumes nothing.
use Rattle.std.specs.Prelude.{List, ◌∷◌, ◌++◌, ◌≡◌, ℕ, ◌+◌, ◌*◌, ◌/◌, length}
use Rattle.refusals.specs.Numbers.{accepted}
use Rattle.laws.specs.All.{All}
use Rattle.chip.specs.declared.Chip.{Chip}
use Rattle.calls_making.specs.Making.{fresh, with_variant}
use Rattle.variants.specs.Variants.{making_no}
use Rattle.calls_words.specs.Blocks.{blocked}
use Rattle.laws_promises.specs.History.{Call, sync-sample-cycle, answers, after, Entry, Ledger, empty_ledger, ledger}
use Rattle.laws_promises.specs.Demand.{N, T}

-- Of the chip after some calls, and the ledger "since its making or last reset": every word took exactly one tick, so N words are N
-- ticks, and the accumulator is 0. A block answers as many ticks as words (refused, 0 and 0).
abbrev pub TakesOneTick : Entry → Type 0
TakesOneTick w = w.ticks ≡ 1

pub record TickAWord (c : Chip) (l : Ledger) : Type 0 where
  pub each : All TakesOneTick l.words
  pub counted : T l ≡ N l
  pub accumulator : c.core.accumulator ≡ 0
  pub block : (out : List ℕ) → (blocked (length out) c).answer.ticks ≡ (blocked (length out) c).answer.words

-- after any calls
abbrev pub AlwaysTickAWord : Chip → Type 0
AlwaysTickAWord c = (calls : List Call) → TickAWord (after calls c) (ledger calls c empty_ledger)

-- the rate that is the internal clock, and a new chip of it
abbrev pub clock_rate : ℕ → ℕ
clock_rate master = master / 8

abbrev pub at_its_clock : ℕ → ℕ → Chip
at_its_clock master variant = (with_variant master (clock_rate master) variant).chip

-- a chip synced at 0; and calls that are no sync
abbrev pub synced_at0 : Chip → Chip
synced_at0 c = (answers (sync-sample-cycle 0) c).chip

abbrev pub NoSync : Call → Type 0
NoSync x = (cycle : ℕ) → x ≡ sync-sample-cycle cycle → ⊥

-- Word k ends at k times so many cycles: k counts from 1, so it is one more than the words before it.
abbrev pub EndsAt : ℕ → List Entry → Type 0
EndsAt cycles ws = (before rest : List Entry) (w : Entry) → ws ≡ before ++ w ∷ rest → w.end ≡ (length before + 1) * cycles

-- a default chip's cycles to a word
abbrev pub default_cycles : ℕ
default_cycles = 32

pub record OneTick : Type 0 where
  -- On a chip whose rate is its internal clock, of any variant, every word takes exactly one tick and leaves the accumulator 0.
  pub at-its-clock : (master variant : ℕ) → making_no master (clock_rate master) variant ≡ accepted → AlwaysTickAWord (at_its_clock master variant)
  -- So on a default chip N words are N ticks, as `new` gives it and as a refused making leaves it.
  pub default : AlwaysTickAWord fresh
  pub refused : (master rate variant : ℕ) → (making_no master rate variant ≡ accepted → ⊥) → AlwaysTickAWord (with_variant master rate variant).chip
  -- And from a sync at 0 its word k ends at 32 × k, whatever calls come between the words but another sync. (A reset begins at 0 too, and
  -- the words are counted from there.)
  pub ends : (calls later : List Call) → All NoSync later
      → EndsAt default_cycles (ledger later (synced_at0 (after calls fresh)) empty_ledger).words
