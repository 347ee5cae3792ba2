-- Words one after the other, with no write between them, and without what the channels keep. 01, "One tick, one word". Assumes nothing.
use Rattle.std.specs.Prelude.{Bool, false, cond, List, [], ◌∷◌, ◌++◌, ◌≡◌, ℕ, zero, suc, ◌+◌, ◌≤◌, ◌<◌, ltb, length, take, drop}
use Rattle.registers.specs.declared.Voice.{Voice}
use Rattle.registers.specs.Registers.{with_generators}
use Rattle.chip.specs.declared.Core.{Core}
use Rattle.chip_parts.specs.Parts.{after_ticks}
use Rattle.clocking_ticks.specs.declared.Ran.{Ran}
use Rattle.clocking_word.specs.Word.{end_of, ran_of, mixed_of, after_word}
use Rattle.clocking_run.specs.declared.Run.{Run}

-- the ticks of the next word, and the voice after them
abbrev pub next_ticks : Core → Ran
next_ticks c = ran_of c c.voice

abbrev pub next_voice : Core → Voice
next_voice c = with_generators (next_ticks c).generators c.voice

-- the next word
abbrev pub next_word : Core → ℕ
next_word c = (mixed_of c.variant c.channels (next_voice c) (next_ticks c).gate).word

-- The core after it; its channels are those of before.
unfoldable pub next_core : Core → Core
next_core c = after_word c (next_voice c) (next_ticks c).accumulator c.channels

-- n words: the core after them, their values and their ticks
unfoldable pub core_after : ℕ → Core → Core
core_after zero c = c
core_after (suc n) c = next_core (core_after n c)

unfoldable pub words_from : ℕ → Core → List ℕ
words_from zero c = []
words_from (suc n) c = words_from n c ++ (next_word (core_after n c) ∷ [])

unfoldable pub ticks_from : ℕ → Core → ℕ
ticks_from zero c = 0
ticks_from (suc n) c = ticks_from n c + (next_ticks (core_after n c)).ticks

-- Another word is wanted where there is room for it and no write is due by its end.
unfoldable pub goes_on : Bool → ℕ → ℕ → Bool
goes_on room due end = cond room (ltb end due) false

-- what a run leaves of a core: other generators, accumulator and start
abbrev pub left_by : Run → Core → Core
left_by r c = after_ticks (with_generators r.generators c.voice) r.accumulator c.channels r.start c

-- A run: one word and `more`, none of which has a write due by its end; it stops where there is no room, or the next one has. The rest of the
-- buffer stays.
pub record Runs (c : Core) (due first : ℕ) (out₀ out : List ℕ) (r : Run) : Type 0 where
  pub more : ℕ
  pub core : left_by r c ≡ core_after (suc more) c
  pub gate : r.gate ≡ (next_ticks (core_after more c)).gate
  pub ticks : r.ticks ≡ ticks_from (suc more) c
  pub next : r.next ≡ first + suc more
  pub words : take (first + suc more) out ≡ take first out₀ ++ words_from (suc more) c
  pub rest : drop (first + suc more) out ≡ drop (first + suc more) out₀
  pub long : length out ≡ length out₀
  pub room : first + suc more ≤ length out₀
  pub quiet : (n : ℕ) → n < more → end_of (core_after (suc n) c) < due
  pub stops : first + suc more < length out₀ → due ≤ end_of (core_after (suc more) c)
