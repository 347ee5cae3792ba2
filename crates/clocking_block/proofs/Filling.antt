-- A block's loop, a run of words at a time: what is done with what is left makes the whole. Assumes nothing.
use mathlib.Core.List.{List, ◌++◌, append_assoc, append-nil}
use mathlib.Core.Path.{◌≡◌, refl, sym, ap, subst, ◌∙◌}
use Prim.Native.Nat.{ℕ, zero, suc, ◌+◌, ◌*◌, ◌-◌, ◌^◌, ◌≤◌, ◌<◌}
use native.Mathlib.Omega.{arith}
use native.Mathlib.Nat.{add-mul}
use lib.ListN.{length, take}
use lib.Seq.{take_all}
use Rattle.envelope_wave.specs.declared.Wave.{Wave}
use Rattle.envelope_wave.specs.Wave.{wave_of}
use Rattle.level_scale.specs.declared.Scale.{Scale}
use Rattle.level_scale.specs.Scale.{scale_of}
use Rattle.three_channels.specs.declared.Channels.{Channels}
use Rattle.registers.specs.Range.{VoiceInRange}
use Rattle.queue_drain.specs.declared.Drained.{Drained}
use Rattle.queue_drain.specs.Drain.{Drains, drain}
use Rattle.queue_drain.proofs.Ruled.{drained-in, drain_kept}
use Rattle.queue.specs.declared.Queue.{Queue}
use Rattle.queue.specs.Waiting.{ring, QueueInRange}
use Rattle.chip.specs.declared.Core.{Core}
use Rattle.chip.specs.declared.Chip.{Chip}
use Rattle.chip.specs.Range.{CoreInRange}
use Rattle.clocking_word.specs.Word.{end_of, mixed_of, offset_in}
use Rattle.clocking_run.specs.declared.Run.{Run}
use Rattle.clocking_run.specs.Run.{core_after, words_from, ticks_from, left_by, Runs}
use Rattle.clocking_run.proofs.Kept.{Kept, run-kept}
use Rattle.clocking_block.specs.declared.Rendered.{Rendered}
use Rattle.clocking_block.specs.Block.{after_words, ticks_of, words_of, block_of, next_due}
use Rattle.clocking_block.proofs.Joined.{after-split, words-split, ticks-split}
use Rattle.clocking_block.proofs.Quiet.{with_kept, kept, kept-sounds, with_due, RanOn, ran_on}

-- the chip in the loop, as the definition has it after i words: the loop's core with what its channels keep, and the ring without what was due
abbrev pub midway : ℕ → Core → Queue → ℕ → Chip
midway i core q gate = record { core = with_kept (kept i core gate) core; queue = q }

pub record Filling (w : Wave) (s : Scale) (c₀ : Chip) (core : Core) (q : Queue) (gate : ℕ) (out₀ out : List ℕ) (ticks i : ℕ) : Type 0 where
  pub wave : w ≡ wave_of (offset_in core)
  pub scale : s ≡ scale_of core.variant
  pub ok : CoreInRange core
  pub queue : QueueInRange q
  pub long : length out ≡ length out₀
  pub room : length out₀ ≤ 65536
  pub few : ticks ≤ i * 268435456
  pub left : ℕ
  pub place : i + left ≡ length out₀
  pub soon : core.start + left * core.clocks.cycles < 2 ^ 64
  pub all : take i out ++ words_of left (midway i core q gate) ≡ words_of (length out₀) c₀
  pub last : after_words left (midway i core q gate) ≡ after_words (length out₀) c₀
  pub sum : ticks + ticks_of left (midway i core q gate) ≡ ticks_of (length out₀) c₀

pub filling-start : {w : Wave} {s : Scale} {c : Chip} {out : List ℕ} → w ≡ wave_of (offset_in c.core) → s ≡ scale_of c.core.variant → CoreInRange c.core
    → QueueInRange c.queue → length out ≤ 65536 → c.core.start + length out * c.core.clocks.cycles < 2 ^ 64
    → Filling w s c c.core c.queue 0 out out 0 0
unfolding kept
filling-start {w} {s} {c} {out} e a h q p z =
    record {
      wave = e;
      scale = a;
      ok = h;
      queue = q;
      long = refl;
      room = p;
      few = omega arith;
      left = length out;
      place = omega arith;
      soon = z;
      all = refl;
      last = refl;
      sum = omega arith;
    }

-- some words were played, so what the channels keep is a word's
kept-some : (n : ℕ) (k : Core) (gate : ℕ) → 0 < n → kept n k gate ≡ kept 1 k gate
unfolding kept
kept-some zero k gate h = absurd (omega arith)
kept-some (suc n) k gate h = refl

midway-some : (n : ℕ) {k l : Core} {g h : ℕ} (q : Queue) → 0 < n → k ≡ l → g ≡ h → midway n k q g ≡ record { core = with_kept (kept 1 l h) l; queue = q }
midway-some n {k} {l} {g} {h} q some e a = rw (kept-some n k g some) (rw (e, a))

module _ {w : Wave} {s : Scale} {c₀ : Chip} {core : Core} {gate head count : ℕ} {stamps registers values : List ℕ} {out₀ out : List ℕ} {ticks i : ℕ}
    (f : Filling w s c₀ core (ring stamps registers values head count) gate out₀ out ticks i) where
  abbrev q : Queue
  q = ring stamps registers values head count

  -- the next word ends in time, and all that are left do
  pub next-soon : i < length out → core.start + core.clocks.cycles < 2 ^ 64
  next-soon h =
      let k = f.left - 1 in
      let e : f.left ≡ 1 + k = omega (arith, f.place, f.long) in
      let s : core.start + (1 + k) * core.clocks.cycles < 2 ^ 64 = rw e at f.soon in
      let t : core.start + (1 * core.clocks.cycles + k * core.clocks.cycles) < 2 ^ 64 = rw add-mul at s in
      omega arith

  pub all-soon : core.start + (length out - i) * core.clocks.cycles < 2 ^ 64
  all-soon = let e : f.left ≡ length out - i = omega (arith, f.place, f.long) in rw e at f.soon

  -- the drain of the next word, as the definition has it
  module _ {d : Drained} (e : Drains (end_of core) core.voice (ring stamps registers values head count) d) where
    pub drained-queue : QueueInRange (ring stamps registers values d.head d.count)
    unfolding drain
    drained-queue = rw e.small (drain_kept (end_of core) core.voice q f.queue)

    drained-is : drain (end_of core) core.voice q ≡ record { voice = d.voice; queue = ring stamps registers values d.head d.count }
    unfolding drain
    drained-is = rw e.small refl

    pub due-ok : CoreInRange (with_due d.voice core)
    due-ok =
        let v : VoiceInRange d.voice = rw e.small (drained-in (end_of core) q f.ok.voice) in
        record { run = f.ok.run; cycles = f.ok.cycles; voice = v }

    -- the words of a run
    module _ {due : ℕ} {out' : List ℕ} {r : Run} (n : due ≡ next_due stamps d.head d.count) (u : Runs (with_due d.voice core) due i out out' r) where
      abbrev y : Core
      y = with_due d.voice core

      abbrev q' : Queue
      q' = ring stamps registers values d.head d.count

      abbrev many : ℕ
      many = suc u.more

      ran : RanOn u.more (midway i core q gate) y q'
      ran =
          ran_on (kept i core gate) core q (kept-sounds i core gate) drained-is u.more drained-queue
          (λ m h. subst (λ (t : ℕ). end_of (core_after (suc m) (with_due d.voice core)) < t) n (u.quiet m h))

      far : Kept many y
      far = run-kept many y due-ok

      now-at : midway r.next (left_by r y) q' r.gate ≡ after_words many (midway i core q gate)
      now-at = midway-some r.next q' (omega (arith, u.next)) u.core u.gate ∙ sym ran.after

      abbrev still : ℕ
      still = f.left - many

      split : f.left ≡ many + still
      split = omega (arith, f.place, u.room, f.long)

      words_left : words_of f.left (midway i core q gate) ≡ words_from many y ++ words_of still (midway r.next (left_by r y) q' r.gate)
      words_left =
          ap (λ (a : ℕ). words_of a (midway i core q gate)) split ∙ words-split many still (midway i core q gate)
          ∙ ap (λ (l : List ℕ). l ++ words_of still (after_words many (midway i core q gate))) ran.words
          ∙ ap (λ (x : Chip). words_from many y ++ words_of still x) (sym now-at)

      after-left : after_words f.left (midway i core q gate) ≡ after_words still (midway r.next (left_by r y) q' r.gate)
      after-left =
          ap (λ (a : ℕ). after_words a (midway i core q gate)) split ∙ after-split many still (midway i core q gate) ∙ ap (after_words still) (sym now-at)

      ticks-left : ticks_of f.left (midway i core q gate) ≡ ticks_from many y + ticks_of still (midway r.next (left_by r y) q' r.gate)
      ticks-left =
          ap (λ (a : ℕ). ticks_of a (midway i core q gate)) split ∙ ticks-split many still (midway i core q gate)
          ∙ ap (λ (t : ℕ). t + ticks_of still (after_words many (midway i core q gate))) ran.ticks
          ∙ ap (λ (x : Chip). ticks_from many y + ticks_of still x) (sym now-at)

      -- a run more
      pub filling-on : {v : Wave} → v ≡ wave_of d.voice.generators.envelope.offset
          → Filling v s c₀ (left_by r (with_due d.voice core)) (ring stamps registers values d.head d.count) r.gate out₀ out' (ticks + r.ticks) r.next
      filling-on {v} wave =
          let start : r.start ≡ core.start + many * core.clocks.cycles = ap (λ (k : Core). k.start) u.core ∙ far.start in
          let time : core.start + (many * core.clocks.cycles + still * core.clocks.cycles) < 2 ^ 64 = rw add-mul at (rw split at f.soon) in
          let sum = f.sum in
          record {
            wave = wave ∙ ap wave_of (sym (ap offset_in u.core ∙ far.shape));
            scale = f.scale;
            ok = rw u.core far.ok;
            queue = drained-queue;
            long = u.long ∙ f.long;
            room = f.room;
            few = rw (u.next, u.ticks) (omega (arith, far.few, f.few));
            left = still;
            place = omega (arith, split, f.place, u.next);
            soon = rw start (omega arith);
            all =
                ap (λ (l : List ℕ). l ++ words_of still (midway r.next (left_by r y) q' r.gate)) (ap (λ (a : ℕ). take a out') u.next ∙ u.words)
                ∙ append_assoc (take i out) (words_from many y) (words_of still (midway r.next (left_by r y) q' r.gate))
                ∙ ap (λ (l : List ℕ). take i out ++ l) (sym words_left) ∙ f.all;
            last = sym after-left ∙ f.last;
            sum = let more = ticks-left in rw u.ticks (omega arith);
          }

      pub further : r.ticks ≤ suc u.more * 268435456
      further = rw u.ticks far.few

  -- all is filled
  module _ (h : length out ≤ i) where
    none_left : f.left ≡ 0
    none_left = omega (arith, f.place, f.long)

    pub filled : out ≡ words_of (length out₀) c₀
    unfolding words_of
    filled = sym (take_all i out h) ∙ sym (append-nil (take i out)) ∙ (rw none_left at f.all)

    -- what a chip leaves, as the call gives it
    abbrev left-of : Chip → ℕ → Rendered
    left-of d t = record { core = d.core; head = d.queue.head; count = d.queue.count; ticks = t }

    at-end : left-of (midway i core q gate) ticks ≡ block_of (length out₀) c₀
    unfolding after_words ticks_of
    at-end =
        let a : midway i core q gate ≡ after_words (length out₀) c₀ = rw none_left at f.last in
        let t : ticks + 0 ≡ ticks_of (length out₀) c₀ = rw none_left at f.sum in
        let u : ticks ≡ ticks_of (length out₀) c₀ = omega arith in
        λ j. left-of (a j) (u j)

    -- the channels keep what the last word left
    pub filling-kept : 0 < i → {m : Channels} → m ≡ (mixed_of core.variant core.channels core.voice gate).channels
        → record { core = with_kept m core; head = head; count = count; ticks = ticks } ≡ block_of (length out₀) c₀
    unfolding kept
    filling-kept some {m} e = rw e (sym (ap (λ (c : Chip). left-of c ticks) (midway-some i q some refl refl)) ∙ at-end)

    -- no word at all
    pub filling-none : i ≤ 0 → record { core = core; head = head; count = count; ticks = ticks } ≡ block_of (length out₀) c₀
    unfolding kept
    filling-none none = let z : i ≡ 0 = omega arith in rw (sym (ap (λ (n : ℕ). kept n core gate) z)) at-end
