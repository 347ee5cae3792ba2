-- A run of words without their floats is the definition's words: a word reads the channels before it only by mute and drum, and where no write is
-- due a word has none to apply. Assumes nothing.
use mathlib.Core.List.{List, [], ◌∷◌, ◌++◌}
use mathlib.Core.Path.{◌≡◌, refl, sym, ap, subst, ◌∙◌}
use Prim.Native.Nat.{ℕ, zero, suc, ◌+◌, ◌<◌}
use native.Mathlib.Omega.{arith}
use lib.ListN.{get_or}
use Rattle.three_channels.specs.declared.Channels.{Channels}
use Rattle.word_sum.proofs.Again.{mixed-again}
use Rattle.laws.proofs.Tests.{by-same, on-ne}
use Rattle.registers.specs.declared.Voice.{Voice}
use Rattle.queue.specs.declared.Queue.{Queue}
use Rattle.queue.specs.Waiting.{QueueInRange}
use Rattle.queue_drain.specs.Drain.{AfterDrain, drain}
use Rattle.queue_drain.proofs.Resting.{drain-late, drain-none}
use Rattle.chip.specs.declared.Core.{Core}
use Rattle.chip.specs.declared.Chip.{Chip}
use Rattle.chip_parts.specs.Parts.{after_ticks}
use Rattle.clocking_word.specs.Word.{end_of, drained, ran_of, mixed_of, Word, word_of}
use Rattle.clocking_run.specs.Run.{next_ticks, next_word, next_core, core_after, words_from, ticks_from}
use Rattle.clocking_block.specs.Block.{after_words, ticks_of, words_of, next_due}
use Rattle.clocking_block.proofs.Joined.{after-split, words-split, ticks-split}

-- the core with what its channels keep
abbrev pub with_kept : Channels → Core → Core
with_kept channels k = after_ticks k.voice k.accumulator channels k.start k

-- what they keep of the last of n words, whose gate is known
unfoldable pub kept : ℕ → Core → ℕ → Channels
kept zero k gate = k.channels
kept (suc n) k gate = (mixed_of k.variant k.channels k.voice gate).channels

-- so kept, they sound as before
pub kept-sounds : (n : ℕ) (k : Core) (gate : ℕ) (v : Voice) (g : ℕ) → mixed_of k.variant (kept n k gate) v g ≡ mixed_of k.variant k.channels v g
unfolding kept mixed_of
kept-sounds zero k gate v g = refl
kept-sounds (suc n) k gate v g = mixed-again k.variant k.channels _ _ _ _ _ _ gate g

-- the core with the due writes applied
abbrev pub with_due : Voice → Core → Core
with_due v k = after_ticks v k.accumulator k.channels k.start k

-- one word, from what its drain gives
word-is : (channels : Channels) (k : Core) (q : Queue) {d : AfterDrain} → ((v : Voice) (g : ℕ) → mixed_of k.variant channels v g ≡ mixed_of k.variant k.channels v g)
    → drain (end_of k) k.voice q ≡ d
    → (let y = with_due d.voice k in
    word_of (with_kept channels k) q
    ≡ record { core = with_kept (kept 1 (next_core y) (next_ticks y).gate) (next_core y); queue = d.queue; word = next_word y; ticks = (next_ticks y).ticks })
unfolding word_of drained ran_of next_core kept
word-is channels k q {d} s e = rw (e, s)

-- m words more than one, from a core that has its due writes
pub record RanOn (m : ℕ) (c : Chip) (y : Core) (q : Queue) : Type 0 where
  pub words : words_of (suc m) c ≡ words_from (suc m) y
  pub ticks : ticks_of (suc m) c ≡ ticks_from (suc m) y
  pub after : after_words (suc m) c ≡ record { core = with_kept (kept 1 (core_after (suc m) y) (next_ticks (core_after m y)).gate) (core_after (suc m) y); queue = q }

first-due : (q : Queue) → (q.count ≡ 0 → ⊥) → next_due q.stamps q.head q.count ≡ get_or q.stamps q.head 0
unfolding next_due
first-due q some = sym (on-ne q.count 0 (get_or q.stamps q.head 0) _ _ some refl)

-- nothing is due by an end before the first waiting stamp
rests : (end : ℕ) (v : Voice) (q : Queue) → QueueInRange q → end < next_due q.stamps q.head q.count → drain end v q ≡ record { voice = v; queue = q }
rests end v q h early =
    by-same q.count 0 (λ none. drain-none end v q h none)
    (λ some. drain-late end v q h (omega arith) (subst (λ (stamp : ℕ). end < stamp) (first-due q some) early))

module _ (channels : Channels) (k : Core) (q : Queue) {d : AfterDrain} (s : (v : Voice) (g : ℕ) → mixed_of k.variant channels v g ≡ mixed_of k.variant k.channels v g)
    (e : drain (end_of k) k.voice q ≡ d) where
  y : Core
  y = with_due d.voice k

  c : Chip
  c = record { core = with_kept channels k; queue = q }

  ran_first : RanOn 0 c y d.queue
  unfolding words_of ticks_of after_words words_from ticks_from core_after c y
  ran_first =
      let w = word-is channels k q s e in
      record {
        words = ap (λ (x : Word). x.word ∷ []) w;
        ticks = ap (λ (x : Word). x.ticks + 0) w ∙ omega arith;
        after = ap (λ (x : Word). record { core = x.core; queue = x.queue }) w;
      }

  ran-next : (m : ℕ) → QueueInRange d.queue → end_of (core_after (suc m) y) < next_due d.queue.stamps d.queue.head d.queue.count
      → RanOn m c y d.queue → RanOn (suc m) c y d.queue
  unfolding words_of ticks_of after_words words_from ticks_from core_after
  ran-next m ok early f =
      let n : suc (suc m) ≡ suc m + 1 = omega arith in
      let last = core_after (suc m) y in
      let w = word-is (kept 1 last (next_ticks (core_after m y)).gate) last d.queue (kept-sounds 1 last _) (rests (end_of last) last.voice d.queue ok early) in
      record {
        words =
            ap (λ (a : ℕ). words_of a c) n ∙ words-split (suc m) 1 c ∙ ap (λ (l : List ℕ). l ++ words_of 1 (after_words (suc m) c)) f.words
            ∙ ap (λ (x : Chip). words_from (suc m) y ++ words_of 1 x) f.after ∙ ap (λ (x : Word). words_from (suc m) y ++ (x.word ∷ [])) w;
        ticks =
            ap (λ (a : ℕ). ticks_of a c) n ∙ ticks-split (suc m) 1 c ∙ ap (λ (t : ℕ). t + ticks_of 1 (after_words (suc m) c)) f.ticks
            ∙ ap (λ (x : Chip). ticks_from (suc m) y + ticks_of 1 x) f.after ∙ ap (λ (x : Word). ticks_from (suc m) y + (x.ticks + 0)) w
            ∙ plain (ticks_from (suc m) y) (next_ticks last).ticks;
        after =
            ap (λ (a : ℕ). after_words a c) n ∙ after-split (suc m) 1 c ∙ ap (λ (x : Chip). after_words 1 x) f.after
            ∙ ap (λ (x : Word). record { core = x.core; queue = x.queue }) w;
      }
    where
      plain : (a b : ℕ) → a + (b + 0) ≡ a + b
      plain a b = omega arith

  pub ran_on : (m : ℕ) → QueueInRange d.queue → ((n : ℕ) → n < m → end_of (core_after (suc n) (with_due d.voice k)) < next_due d.queue.stamps d.queue.head d.queue.count)
      → RanOn m (record { core = with_kept channels k; queue = q }) (with_due d.voice k) d.queue
  unfolding c y
  ran_on zero ok early = ran_first
  ran_on (suc m) ok early = ran-next m ok (early m (omega arith)) (ran_on m ok (λ n h. early n (omega arith)))
