-- Calls that hold the period run the noise by the ticks of their words, and no further. Assumes nothing.
use mathlib.Core.Bool.{Bool, true, false, cond}
use mathlib.Core.List.{List, [], ◌∷◌, ◌++◌}
use mathlib.Core.Path.{◌≡◌, refl, sym, ap, subst, ◌∙◌}
use Prim.Native.Nat.{ℕ, zero, suc, ◌+◌, ◌%◌}
use native.Mathlib.Omega.{arith}
use borrow.Author.Tests.{ne_eqb}
use lib.ListN.{length}
use Rattle.refusals.specs.Numbers.{accepted, out_of_range}
use Rattle.laws.specs.All.{All}
use Rattle.laws.proofs.Tests.{by_cond, by-eq, by_le}
use Rattle.noise.specs.declared.Noise.{Noise}
use Rattle.noise.specs.Noise.{noise_tick}
use Rattle.generators.specs.declared.Generators.{Generators}
use Rattle.generators.specs.Generators.{tick, tones_released}
use Rattle.three_channels.specs.declared.Channels.{Channels}
use Rattle.registers.specs.Registers.{apply_register}
use Rattle.registers.specs.Writes.{RegisterWrite, applied_in_order}
use Rattle.queue.specs.declared.Pushed.{Pushed}
use Rattle.queue.specs.Waiting.{push, waiting}
use Rattle.queue_flush.specs.Applied.{register_writes}
use Rattle.queue_effects.proofs.Front.{writes-append}
use Rattle.chip.specs.declared.Chip.{Chip}
use Rattle.chip.specs.Range.{chip_in}
use Rattle.chip.proofs.InRange.{InRange}
use Rattle.chip_parts.specs.Parts.{on_voice, with_selection, with_voice}
use Rattle.clocking_word.specs.Word.{applied_by}
use Rattle.clocking_block.specs.Block.{after_one, after_words, applied_of}
use Rattle.answers.specs.Answers.{answered, unless22}
use Rattle.answers.specs.declared.Answered.{Answered}
use Rattle.answers.specs.declared.Blocked.{Blocked}
use Rattle.calls_making.specs.Making.{with_variant}
use Rattle.calls_registers.specs.Stored.{dump_registers, load_registers, read_register, write_register}
use Rattle.calls_ports.specs.Ports.{bit1_clear, queued, read_port, stamped, write_port, write_port_immediate}
use Rattle.calls_cycles.specs.Cycles.{cpu_cycle, flush_pending_writes, pending_write_count, set_cpu_cycle, sync_sample_cycle}
use Rattle.calls_effects.specs.Effects.{irq_set, set_timer_irq_state, trigger_envelope}
use Rattle.calls_channels.specs.ChannelCalls.{for_channel, get_channel_outputs, is_channel_muted, set_channel_mute, set_drum_sample_override}
use Rattle.calls_words.specs.Blocks.{block_no, blocked, sampled}
use Rattle.laws_promises.specs.History
use Rattle.laws_promises.specs.History.{Call, Ledger, answers, after, empty_ledger, entered, enters, entries, is_accepted, ledger, renders, ticks_in}
use Rattle.laws_promises.specs.Demand.{T, noise_of}
use Rattle.laws_promises.proofs.Words.{worded}
use Rattle.laws_promises.proofs.DemandKept.{in-range, ticks-append}
use Rattle.laws_promises.proofs.Demand.{demand-3}
use Rattle.laws_promises.proofs.Handed.{ticks_run, word-ticks}
use Rattle.laws_loops.specs.Loop.{times, ticks}
use Rattle.laws_loops.proofs.Times.{first_then, none}
use Rattle.laws_loops.proofs.Beside.{ticks-period}
use Rattle.laws_hiss.specs.Chips.{noise_after}
use Rattle.laws_hiss.specs.Played.{writes_of, StoresPeriod, Held, ticks_by, RunsOn, PlayedLoop}
use Rattle.laws_hiss.proofs.Reached.{noise-ticks, chip-back, reached-in}
use Rattle.laws_hiss.proofs.Writes.{SameNoise, writes-leave}

-- ---- words
-- the noise of ticks that are counted from the first on
run-noise : (k : ℕ) (g : Generators) → (ticks_run k g).noise ≡ ticks k g.noise
unfolding times tick
run-noise zero g = refl
run-noise (suc k) g =
    let more : 1 + k ≡ suc k = omega arith in
    run-noise k (tick g) ∙ sym (first_then noise_tick 1 k g.noise) ∙ ap (λ (n : ℕ). ticks n g.noise) more

all_first : {A : Type 0} (P : A → Type 0) (a b : List A) → All P (a ++ b) → All P a × All P b
all_first P [] b h = (tt, h)
all_first P (x ∷ a) b (h, k) = let (p, q) = all_first P a b k in ((h, p), q)

module _ {p : ℕ} where
  one_word : (c : Chip) → InRange c → (noise_of c).period ≡ p → All (StoresPeriod p) (register_writes (applied_by c.core c.queue))
      → noise_of (after_one c) ≡ ticks (History.entry_of c).ticks (noise_of c)
  one_word c h is all =
      ap (λ (g : Generators). g.noise) (word-ticks c)
      ∙ run-noise (History.entry_of c).ticks _
      ∙ ap (ticks (History.entry_of c).ticks) (writes-leave (register_writes (applied_by c.core c.queue)) c.core.voice h.voice is all)

  words-run : (n : ℕ) (c : Chip) → InRange c → (noise_of c).period ≡ p → All (StoresPeriod p) (register_writes (applied_of n c))
      → noise_of (after_words n c) ≡ ticks (ticks_in (entries n c)) (noise_of c)
  unfolding after_words entries applied_of
  words-run zero c h is all = sym (none noise_tick (noise_of c))
  words-run (suc n) c h is all =
      let d = after_one c in
      let now = applied_by c.core c.queue in
      let (first, rest) = all_first (StoresPeriod p) (register_writes now) (register_writes (applied_of n d)) (rw (writes-append now (applied_of n d)) at all) in
      let e : noise_of d ≡ ticks (History.entry_of c).ticks (noise_of c) = one_word c h is first in
      let period : (noise_of d).period ≡ p = ap (λ (x : Noise). x.period) e ∙ ticks-period (History.entry_of c).ticks (noise_of c) ∙ is in
      words-run n d (worded c h).ok period rest
      ∙ ap (ticks (ticks_in (entries n d))) e
      ∙ sym (first_then noise_tick (History.entry_of c).ticks (ticks_in (entries n d)) (noise_of c))

-- ---- a call
record Runs (c d : Chip) (l m : Ledger) : Type 0 where
  more : ℕ
  ran : T m ≡ T l + more
  noise : noise_of d ≡ ticks more (noise_of c)

module _ {p : ℕ} (c : Chip) (l : Ledger) (h : InRange c) (is : (noise_of c).period ≡ p) where
  -- what an answer comes to, where an accepted call makes the ledger m and applies the writes ws
  abbrev Comes : Ledger → List RegisterWrite → Answered → Type 0
  Comes m ws a = All (StoresPeriod p) (cond (is_accepted a.no) ws []) → Runs c a.chip l (cond (is_accepted a.no) m l)

  -- no word, and the noise as it was
  quiet : {d : Chip} {m : Ledger} → m.words ≡ l.words → noise_of d ≡ noise_of c → Runs c d l m
  quiet e f = record { more = 0; ran = ap ticks_in e ∙ omega arith; noise = f ∙ sym (none noise_tick (noise_of c)) }

  nothing : Runs c c l l
  nothing = quiet refl refl

  reads : (number : ℕ) → Comes l [] (answered number c)
  reads number _ = by_cond (Runs c c l) (is_accepted number) l l (λ _. nothing) (λ _. nothing)

  tested : (m : Ledger) (ws : List RegisterWrite) (a : Answered) → Comes m ws a → Comes m ws (unless22 c a)
  tested m ws a k = by_cond (Comes m ws) (chip_in c) a (answered out_of_range c) (λ _. k) (λ _ _. nothing)

  -- writes at once
  voiced : (ws : List RegisterWrite) {m : Ledger} → m.words ≡ l.words → Comes m ws (answered accepted (with_voice (applied_in_order ws c.core.voice) c))
  voiced ws e all = quiet e (writes-leave ws c.core.voice h.voice is all)

  one : (register value : ℕ) {m : Ledger} → m.words ≡ l.words
      → Comes m (record { register = register; value = value } ∷ []) (answered accepted (with_voice (apply_register register value c.core.voice) c))
  unfolding applied_in_order
  one register value e all = voiced (record { register = register; value = value } ∷ []) e all

  channelled : (channel : ℕ) (channels : Channels) → Comes l [] (for_channel channel channels c)
  channelled channel channels = tested l [] _ (by_le (Comes l []) 3 channel (λ _ _. nothing) (λ _ _. quiet refl refl))

  ported : (select : Bool) (value : ℕ)
      → Comes (History.accepts (cond select [] (stamped value c ∷ [])) l) []
      (cond select (answered accepted (with_selection (value % 16) c)) (queued c (push (stamped value c) c.queue)))
  unfolding push
  ported true value = λ _. quiet refl refl
  ported false value =
      by_le (λ (q : Pushed). Comes (History.accepts (stamped value c ∷ []) l) [] (queued c q)) 256 c.queue.count (λ _ _. nothing) (λ _ _. quiet refl refl)

  immediate : (select : Bool) (value : ℕ) (m : Ledger) → m.words ≡ l.words
      → Comes m (register_writes (cond select [] (stamped value c ∷ [])))
      (cond select (answered accepted (with_selection (value % 16) c))
      (answered accepted (on_voice (apply_register c.core.selected value) c)))
  unfolding register_writes
  immediate true value m e = λ _. quiet e refl
  immediate false value m e = one c.core.selected value e

  irq-leaves : (on : Bool) → SameNoise c.core.voice (irq_set on c.core.voice)
  unfolding irq_set tones_released
  irq-leaves true = refl
  irq-leaves false = refl

  played : (n : ℕ) → Comes (renders (entries n c) l) (register_writes (applied_of n c)) (answered (blocked n c).answer.no (blocked n c).chip)
  unfolding blocked
  played n =
      let P : Blocked → Type 0 = λ b. Comes (renders (entries n c) l) (register_writes (applied_of n c)) (answered b.answer.no b.chip) in
      by_cond P (chip_in c) _ _
      (λ _. by-eq P (block_no n c) accepted
      (λ _ all. record { more = ticks_in (entries n c); ran = ticks-append l.words (entries n c); noise = words-run n c h is all })
      (λ e. rw (ne_eqb (block_no n c) accepted e) (λ _. nothing)))
      (λ _ _. nothing)

did : {p : ℕ} (x : Call) (c : Chip) (l : Ledger) (h : InRange c) (is : (noise_of c).period ≡ p) → (x ≡ History.reset → ⊥) → Comes c l h is (enters x c l) (writes_of x c) (answers x c)
unfolding answers enters writes_of write_register load_registers write_port write_port_immediate set_cpu_cycle sync_sample_cycle flush_pending_writes set_timer_irq_state trigger_envelope set_channel_mute set_drum_sample_override sampled
did History.reset c l h is f = absurd (f refl)
did (History.write-register register value) c l h is f = tested c l h is _ _ _ (one c l h is register value refl)
did (History.load-registers bytes) c l h is f = tested c l h is _ _ _ (voiced c l h is _ refl)
did (History.write-port port value) c l h is f = tested c l h is _ _ _ (ported c l h is (bit1_clear port) value)
did (History.write-port-immediate port value) c l h is f = tested c l h is _ _ _ (immediate c l h is (bit1_clear port) value _ refl)
did (History.set-cpu-cycle cycle) c l h is f = tested c l h is _ _ _ (λ _. quiet c l h is refl refl)
did (History.sync-sample-cycle cycle) c l h is f = tested c l h is _ _ _ (λ _. quiet c l h is refl refl)
did History.flush-pending-writes c l h is f = tested c l h is _ _ _ (λ all. quiet c l h is refl (writes-leave (register_writes (waiting c.queue)) c.core.voice h.voice is all))
did (History.set-timer-irq-state on) c l h is f = tested c l h is _ _ _ (λ _. quiet c l h is refl (irq-leaves c l h is on))
did (History.inside-timer-irq inside) c l h is f = tested c l h is _ _ _ (λ _. quiet c l h is refl (irq-leaves c l h is inside))
did History.trigger-envelope c l h is f = tested c l h is _ _ _ (λ _. quiet c l h is refl refl)
did (History.set-channel-mute channel muted) c l h is f = channelled c l h is channel _
did (History.set-drum-sample-override channel drum) c l h is f = channelled c l h is channel _
did History.compute-next-sample c l h is f = played c l h is 1
did (History.block out) c l h is f = played c l h is (length out)
did (History.read-register register) c l h is f = reads c l h is (read_register register c).no
did History.dump-registers c l h is f = reads c l h is (dump_registers c).no
did (History.read-port port) c l h is f = reads c l h is (read_port port c).no
did History.cpu-cycle c l h is f = reads c l h is (cpu_cycle c).no
did History.pending-write-count c l h is f = reads c l h is (pending_write_count c).no
did (History.is-channel-muted channel) c l h is f = reads c l h is (is_channel_muted channel c).no
did History.get-channel-outputs c l h is f = reads c l h is (get_channel_outputs c).no

-- ---- any calls
calls-run : {p : ℕ} (calls : List Call) (c : Chip) (l : Ledger) → InRange c → (noise_of c).period ≡ p → Held p calls c → Runs c (after calls c) l (ledger calls c l)
unfolding after ledger entered
calls-run [] c l h is held = quiet c l h is refl refl
calls-run {p} (x ∷ calls) c l h is (no-reset, all, held) =
    let d = (answers x c).chip in
    let a : Runs c d l (entered x c l) = did x c l h is no-reset all in
    let period : (noise_of d).period ≡ p = ap (λ (n : Noise). n.period) a.noise ∙ ticks-period a.more (noise_of c) ∙ is in
    let b = calls-run calls d (entered x c l) (in-range x c h) period held in
    record {
      more = a.more + b.more;
      ran = b.ran ∙ omega (arith, a.ran);
      noise = b.noise ∙ ap (ticks b.more) a.noise ∙ sym (first_then noise_tick a.more b.more (noise_of c));
    }

after-calls : (later : List Call) (c : Chip) → InRange c → Held (noise_of c).period later c → noise_of (after later c) ≡ noise_after (ticks_by later c) c
after-calls later c h held =
    let r = calls-run later c empty_ledger h refl held in
    let e : r.more ≡ ticks_by later c = omega (arith, r.ran) in
    r.noise ∙ ap (λ (k : ℕ). ticks k (noise_of c)) e ∙ sym (noise-ticks (ticks_by later c) c.core.voice.generators)

module _ (master rate variant : ℕ) (calls : List Call) where
  abbrev reached : Chip
  reached = after calls (with_variant master rate variant).chip

  runs : (later : List Call) → Held (noise_of reached).period later reached → noise_of (after later reached) ≡ noise_after (ticks_by later reached) reached
  runs later held = after-calls later reached (reached-in master rate variant calls) held

pub runs_on : RunsOn
runs_on master rate variant ok calls = runs master rate variant calls

pub played-loop : PlayedLoop
played-loop master rate variant ok calls p least s =
    let c = reached master rate variant calls in
    let loop = chip-back (demand-3 master rate variant ok calls) p least s in
    let on : (later : List Call) → Held p later c → noise_of (after later c) ≡ noise_after (ticks_by later c) c
    = λ later held. runs master rate variant calls later (subst (λ (q : ℕ). Held q later c) (sym s.period) held)
    in
    record {
      returns = λ later held n. on later held ∙ ap (λ (k : ℕ). noise_after k c) n ∙ loop.returns;
      no-sooner = λ later held pos under e. loop.no-sooner (ticks_by later c) pos under (sym (on later held) ∙ e);
    }
