-- A run's loop, a word at a time. Assumes nothing.
use mathlib.Core.Bool.{Bool, true, false, cond}
use mathlib.Core.List.{List, [], ◌∷◌, ◌++◌, append_assoc, append-nil}
use mathlib.Core.Path.{◌≡◌, refl, sym, ap, subst, ◌∙◌}
use Prim.Native.Nat.{ℕ, zero, suc, ◌+◌, ◌*◌, ◌-◌, ◌^◌, ◌≤◌, ◌<◌}
use native.Mathlib.Nat.{suc-mul}
use native.Mathlib.Numerals.{add-one}
use native.Mathlib.Omega.{arith}
use lib.Dec.{ltb}
use lib.ListN.{length, set, take, drop, length-set}
use lib.Seq.{take-suc-set, drop-cons, drop-set-lt}
use Rattle.laws.proofs.Tests.{by_order}
use borrow.Author.Tests.{ltb-true, ltb-false, lt-ltb}
use Rattle.envelope_wave.specs.declared.Wave.{Wave}
use Rattle.envelope_wave.specs.Wave.{wave_of}
use Rattle.level_scale.specs.declared.Scale.{Scale}
use Rattle.level_scale.specs.Scale.{scale_of, sources_of, used_of}
use Rattle.word_sum.specs.Sum.{sum_by}
use Rattle.word_sum.proofs.Summing.{sum-mixed}
use Rattle.envelope.specs.Envelope.{envelope_level}
use Rattle.envelope.proofs.Circling.{envelope-level-lt}
use Rattle.generators.specs.declared.Generators.{Generators}
use Rattle.registers.specs.Registers.{with_generators}
use Rattle.chip.specs.declared.Core.{Core}
use Rattle.chip.specs.Range.{CoreInRange}
use Rattle.chip_parts.specs.Parts.{after_ticks}
use Rattle.clocking_ticks.specs.declared.Ran.{Ran}
use Rattle.clocking_ticks.specs.Ticks.{ticked}
use Rattle.clocking_ticks.proofs.Ranging.{ticked-shape}
use Rattle.clocking_word.specs.Word.{end_of, ran_of, mixed_of, offset_in, volumes, halves}
use Rattle.clocking_word.proofs.Stepping.{Ticked, ticks-kept}
use Rattle.clocking_run.specs.Run.{next_ticks, next_word, next_core, core_after, words_from, ticks_from, goes_on, Runs}

-- the core in the loop: generators, accumulator and start move
abbrev pub midway : Core → Generators → ℕ → ℕ → Core
midway c g accumulator start = after_ticks (with_generators g c.voice) accumulator c.channels start c

-- the gate of the last word, where there was one
abbrev LastGate : ℕ → Core → ℕ → Type 0
LastGate zero c gate = Unit {0}
LastGate (suc n) c gate = gate ≡ (next_ticks (core_after n c)).gate

pub record Running (c : Core) (due first : ℕ) (w : Wave) (s : Scale) (out₀ out : List ℕ) (g : Generators) (accumulator start gate ticks i : ℕ) (more : Bool)
    : Type 0 where
  pub done : ℕ
  pub core : midway c g accumulator start ≡ core_after done c
  pub ok : CoreInRange (midway c g accumulator start)
  pub wave : w ≡ wave_of g.envelope.offset
  pub scale : s ≡ scale_of c.variant
  pub place : i ≡ first + done
  pub words : take i out ≡ take first out₀ ++ words_from done c
  pub rest : drop i out ≡ drop i out₀
  pub sum : ticks ≡ ticks_from done c
  pub few : ticks ≤ done * 268435456
  pub last : LastGate done c gate
  pub long : length out ≡ length out₀
  pub room : i ≤ length out₀
  pub size : length out₀ ≤ 65536
  pub soon : start + (length out₀ - i) * c.clocks.cycles < 2 ^ 64
  pub begun : done ≡ 0 → more ≡ true
  pub goes : more ≡ true → i < length out₀
  pub stop : more ≡ false → i < length out₀ → due ≤ end_of (core_after done c)
  pub early : (n : ℕ) → suc n < done → end_of (core_after (suc n) c) < due
  pub ahead : (n : ℕ) → done ≡ suc n → more ≡ true → end_of (core_after (suc n) c) < due

zero-is-not : zero ≡ suc zero → ⊥
zero-is-not e = omega arith

false-is-not : false ≡ true → ⊥
false-is-not e = zero-is-not (ap (λ (b : Bool). cond b (suc zero) zero) e)

goes-room : (room : Bool) (due end : ℕ) → goes_on room due end ≡ true → room ≡ true
unfolding goes_on
goes-room true due end e = refl
goes-room false due end e = e

goes-early : (room : Bool) (due end : ℕ) → goes_on room due end ≡ true → end < due
unfolding goes_on
goes-early true due end e = ltb-true end due e
goes-early false due end e = absurd (false-is-not e)

goes-late : (room : Bool) (due end : ℕ) → room ≡ true → goes_on room due end ≡ false → due ≤ end
unfolding goes_on
goes-late true due end r e = let h = ltb-false end due e in omega arith
goes-late false due end r e = absurd (false-is-not r)

-- what is left behind the next element
tail-same : (a b : List ℕ) (i : ℕ) → i < length a → i < length b → drop i a ≡ drop i b → drop (suc i) a ≡ drop (suc i) b
tail-same a b i h k e = ap (drop 1) (sym (drop-cons a i 0 h)) ∙ ap (drop 1) e ∙ ap (drop 1) (drop-cons b i 0 k)

pub running-start : {c : Core} {due first : ℕ} {w : Wave} {s : Scale} {out : List ℕ} → CoreInRange c → w ≡ wave_of (offset_in c)
    → s ≡ scale_of c.variant
    → first < length out → length out ≤ 65536 → c.start + (length out - first) * c.clocks.cycles < 2 ^ 64
    → Running c due first w s out out c.voice.generators c.accumulator c.start 0 0 first true
unfolding core_after words_from ticks_from
running-start {c} {due} {first} {w} {s} {out} h v a f l z =
    record {
      done = 0;
      core = refl;
      ok = h;
      wave = v;
      scale = a;
      place = omega arith;
      words = sym (append-nil (take first out));
      rest = refl;
      sum = refl;
      few = omega arith;
      last = tt;
      long = refl;
      room = omega arith;
      size = l;
      soon = z;
      begun = λ _. refl;
      goes = λ _. f;
      stop = λ e. absurd (false-is-not (sym e));
      early = λ n e. absurd (omega arith);
      ahead = λ n e. absurd (omega arith);
    }

module _ {c : Core} {due first : ℕ} {w : Wave} {s : Scale} {out₀ out : List ℕ} {g : Generators} {accumulator start gate ticks i : ℕ}
    {again : Bool} (f : Running c due first w s out₀ out g accumulator start gate ticks i again) (t : again ≡ true) where
  -- the next word ends in time
  pub next-soon : start + c.clocks.cycles < 2 ^ 64
  next-soon =
      let k = length out₀ - i - 1 in
      let e : length out₀ - i ≡ suc k = let z = f.goes t in omega arith in
      let s : start + (k * c.clocks.cycles + c.clocks.cycles) < 2 ^ 64 = rw suc-mul at (rw e at f.soon) in
      omega arith

  -- and the one after it, where there is room
  pub again-soon : (word : ℕ) → ltb (i + 1) (length (set out i word)) ≡ true → start + c.clocks.cycles + c.clocks.cycles < 2 ^ 64
  again-soon word e =
      let k = length out₀ - i - 2 in
      let h : i + 1 < length (set out i word) = ltb-true _ _ e in
      let n : length out₀ - i ≡ suc (suc k) = omega (arith, length-set out i word, f.long) in
      let s : start + (k * c.clocks.cycles + c.clocks.cycles + c.clocks.cycles) < 2 ^ 64 = rw (suc-mul, suc-mul) at (rw n at f.soon) in
      omega arith

  -- the ticks of the next word are those that were run
  pub ran-next : {r : Ran} → r ≡ ticked c.voice.gates c.clocks.rate c.clocks.internal g accumulator → r ≡ next_ticks (midway c g accumulator start)
  unfolding ran_of
  ran-next e = e

  module _ {r : Ran} (e : r ≡ next_ticks (midway c g accumulator start)) where
    kept : Ticked (midway c g accumulator start) (midway c g accumulator start).voice c.channels
    kept = ticks-kept (midway c g accumulator start) c.channels f.ok f.ok.voice

    pub ticks-few : r.ticks < 268435456
    ticks-few = rw e kept.few

    pub ran-ok : CoreInRange (midway c r.generators r.accumulator (start + c.clocks.cycles))
    ran-ok = rw e kept.core

    pub ran-wave : w ≡ wave_of r.generators.envelope.offset
    unfolding ran_of
    ran-wave = rw (e, ticked-shape) f.wave

    -- the sum of the parts is the next word
    pub word_next : {word level used : ℕ} {volumed sources : List ℕ} {halved : List Bool} → word ≡ sum_by c.channels sources halved used r.gate
        → sources ≡ sources_of s volumed → volumed ≡ volumes c.voice → halved ≡ halves r.generators → used ≡ used_of s level
        → level ≡ envelope_level r.generators.envelope → word ≡ (mixed_of c.variant c.channels (with_generators r.generators c.voice) r.gate).word
    unfolding mixed_of
    word_next p d v h u l =
        rw (p, d, u, f.scale, v, h, l)
        (sum-mixed c.variant c.channels _ _ (envelope_level r.generators.envelope) r.gate (envelope-level-lt ran-ok.voice.generators.envelope))

    -- one word more
    pub running-on : {word : ℕ} {room more : Bool} → i < length out → word ≡ (mixed_of c.variant c.channels (with_generators r.generators c.voice) r.gate).word
        → room ≡ ltb (i + 1) (length (set out i word)) → more ≡ goes_on room due (start + c.clocks.cycles + c.clocks.cycles)
        → Running c due first w s out₀ (set out i word) r.generators r.accumulator (start + c.clocks.cycles) r.gate (ticks + r.ticks) (i + 1) more
    unfolding core_after next_core words_from ticks_from
    running-on {word} {room} {more} h v p m =
        let ran-is : r ≡ next_ticks (core_after f.done c) = e ∙ ap next_ticks f.core in
        let word-is : word ≡ next_word (core_after f.done c) = v ∙ rw e (ap next_word f.core) in
        let core_is : midway c r.generators r.accumulator (start + c.clocks.cycles) ≡ core_after (suc f.done) c = rw e (ap next_core f.core) in
        let k = length out₀ - (i + 1) in
        let left : length out₀ - i ≡ suc k = omega (arith, f.long) in
        let time : start + (k * c.clocks.cycles + c.clocks.cycles) < 2 ^ 64 = rw suc-mul at (rw left at f.soon) in
        let tail-is : drop (suc i) out ≡ drop (suc i) out₀ = tail-same out out₀ i h (rw (sym f.long) h) f.rest in
        let rest-next : drop (i + 1) (set out i word) ≡ drop (i + 1) out₀ = rw add-one (drop-set-lt (suc i) out i word (omega arith) ∙ tail-is) in
        record {
          done = suc f.done;
          core = core_is;
          ok = ran-ok;
          wave = ran-wave;
          scale = f.scale;
          place = omega (arith, f.place);
          words = rw (add-one, take-suc-set, f.words, word-is) (append_assoc (take first out₀) (words_from f.done c) (next_word (core_after f.done c) ∷ []));
          rest = rest-next;
          sum = rw f.sum (ap (λ (x : Ran). ticks_from f.done c + x.ticks) ran-is);
          few = omega (arith, f.few, ticks-few);
          last = ap (λ (x : Ran). x.gate) ran-is;
          long = length-set out i word ∙ f.long;
          room = omega (arith, f.long);
          size = f.size;
          soon = omega arith;
          begun = λ z. absurd (omega arith);
          goes = λ on. let z : i + 1 < length (set out i word) = ltb-true _ _ (sym p ∙ goes-room room due _ (sym m ∙ on)) in omega (arith, length-set out i word, f.long);
          stop = λ off z. subst (λ (x : Core). due ≤ end_of x) core_is (goes-late room due _ (p ∙ lt-ltb (i + 1) (length (set out i word)) (omega (arith, length-set out i word, f.long))) (sym m ∙ off));
          early = λ n z. by_order (suc (suc n)) f.done (λ y. f.early n y) (λ y. f.ahead n (omega arith) t);
          ahead = λ n z on.
              let same : n ≡ f.done = omega arith in
              let by : end_of (midway c r.generators r.accumulator (start + c.clocks.cycles)) < due = goes-early room due _ (sym m ∙ on) in
              subst (λ (k : ℕ). end_of (core_after (suc k) c) < due) (sym same) (subst (λ (x : Core). end_of x < due) core_is by);
        }

-- a run that goes on no more has a word, and its last gate
pub running-end : {c : Core} {due first : ℕ} {w : Wave} {s : Scale} {out₀ out : List ℕ} {g : Generators} {accumulator start gate ticks i : ℕ}
    → {again : Bool} → Running c due first w s out₀ out g accumulator start gate ticks i again → again ≡ false
    → Runs c due first out₀ out (record { generators = g; accumulator = accumulator; start = start; gate = gate; ticks = ticks; next = i })
running-end {c} {due} {first} {w} {s} {out₀} {out} {g} {accumulator} {start} {gate} {ticks} {i} f t = ends f.done refl
  where
    ends : (n : ℕ) → f.done ≡ n → Runs c due first out₀ out (record { generators = g; accumulator = accumulator; start = start; gate = gate; ticks = ticks; next = i })
    ends zero e = absurd (false-is-not (sym t ∙ f.begun e))
    ends (suc n) e =
        let place : i ≡ first + suc n = rw e at f.place in
        record {
          more = n;
          core = rw e at f.core;
          gate = subst (λ (d : ℕ). LastGate d c gate) e f.last;
          ticks = rw e at f.sum;
          next = place;
          words = rw (sym place) (rw e at f.words);
          rest = rw (sym place) f.rest;
          long = f.long;
          room = rw (sym place) f.room;
          quiet = λ m z. f.early m (omega arith);
          stops = λ z. let y : i < length out₀ = rw place z in subst (λ (d : ℕ). due ≤ end_of (core_after d c)) e (f.stop t y);
        }
