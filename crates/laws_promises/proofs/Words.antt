-- A word, and n of them: what they add up to, what they apply and what they keep. Assumes nothing.
use mathlib.Core.Bool.{false}
use mathlib.Core.List.{List, [], ◌∷◌, ◌++◌, append_assoc}
use mathlib.Core.Path.{◌≡◌, refl, ◌∙◌}
use Prim.Native.Nat.{ℕ, zero, suc, ◌+◌, ◌*◌}
use native.Mathlib.Nat.{suc-mul, add-mul}
use native.Mathlib.Omega.{arith}
use lib.Dec.{eqb}
use lib.ListN.{length}
use Rattle.laws.specs.All.{All}
use Rattle.noise.specs.Course.{Agrees}
use Rattle.queue.specs.declared.Write.{Write}
use Rattle.queue.specs.Waiting.{waiting, due, late}
use Rattle.queue_drain.specs.Drain.{drain}
use Rattle.queue.proofs.Due.{due-late}
use Rattle.queue_drain.proofs.Ruled.{waiting-drain}
use Rattle.queue_flush.proofs.Applying.{applied-in}
use Rattle.chip.specs.declared.Chip.{Chip}
use Rattle.clocking_word.specs.Word.{end_of, drained, ran_of, word_of}
use Rattle.clocking_block.specs.Block.{after_one, after_words}
use Rattle.clocking_word.proofs.Stepping.{Stepped, stepped}
use Rattle.chip.proofs.InRange.{InRange, core-runs}
use Rattle.laws_in_range.proofs.CallsInRange.{words-kept}
use Rattle.laws_promises.specs.History.{Entry, entry_of, entries, ticks_in, applied_in, restart_in}
use Rattle.laws_promises.specs.Demand.{Small, noise_of, FromZero}
use Rattle.laws_promises.proofs.Sounds.{neither, all-leave, leaves-agrees, leaves-circles, ticked-circles, ticked-agrees}

pub record Worded (c d : Chip) (w : Entry) : Type 0 where
  pub ok : InRange d
  pub clocks : d.core.clocks ≡ c.core.clocks
  pub variant : d.core.variant ≡ c.core.variant
  pub sum : w.ticks * c.core.clocks.rate + c.core.accumulator ≡ c.core.clocks.internal + d.core.accumulator
  pub small : Small w
  pub applied : w.applied ≡ due w.end (waiting c.queue)
  pub left : waiting d.queue ≡ late w.end (waiting c.queue)
  pub agrees : Agrees (noise_of c) → Agrees (noise_of d)
  pub circles : restart_in w.applied ≡ false → FromZero c → FromZero d

one_kept : {c : Chip} → InRange c → InRange (after_one c)
unfolding after_words
one_kept h = words-kept 1 h

module _ (c : Chip) (h : InRange c) where
  one_left : waiting (after_one c).queue ≡ late (end_of c.core) (waiting c.queue)
  unfolding word_of drained
  one_left = waiting-drain (end_of c.core) c.core.voice c.queue

  one-agrees : Agrees (noise_of c) → Agrees (noise_of (after_one c))
  unfolding word_of drained ran_of drain
  one-agrees a =
      let l = due (end_of c.core) (waiting c.queue) in
      let v = applied-in l h.voice in
      ticked-agrees _ _ _ _ _ v.generators (leaves-agrees (all-leave l c.core.voice) a)

  one-circles : restart_in (due (end_of c.core) (waiting c.queue)) ≡ false → FromZero c → FromZero (after_one c)
  unfolding word_of drained ran_of drain
  one-circles e a = ticked-circles _ _ _ _ _ (leaves-circles (all-leave (due (end_of c.core) (waiting c.queue)) c.core.voice) e a)

  pub worded : Worded c (after_one c) (entry_of c)
  worded =
      let s : Stepped c.core (word_of c.core c.queue) = stepped c.core c.queue (core-runs h) h.queue in
      record {
        ok = one_kept h;
        clocks = s.clocks;
        variant = s.variant;
        sum = s.sum;
        small = s.small;
        applied = refl;
        left = one_left;
        agrees = one-agrees;
        circles = one-circles;
      }

-- the words `ws` take the chip c to d
pub record Rendered (c d : Chip) (ws : List Entry) : Type 0 where
  pub ok : InRange d
  pub clocks : d.core.clocks ≡ c.core.clocks
  pub variant : d.core.variant ≡ c.core.variant
  pub sum : ticks_in ws * c.core.clocks.rate + c.core.accumulator ≡ length ws * c.core.clocks.internal + d.core.accumulator
  pub small : All Small ws
  pub order : waiting c.queue ≡ applied_in ws ++ waiting d.queue
  pub agrees : Agrees (noise_of c) → Agrees (noise_of d)
  pub circles : restart_in (applied_in ws) ≡ false → FromZero c → FromZero d

restart-append : (a b : List Write) → restart_in (a ++ b) ≡ false → (restart_in a ≡ false) × (restart_in b ≡ false)
restart-append [] b e = (refl, e)
restart-append (w ∷ a) b e =
    let (p, q) = neither (eqb w.register 13) (restart_in (a ++ b)) e in
    let (r, s) = restart-append a b q in
    (rw p r, s)

-- one word, and the words behind it
linked : {c d e : Chip} {w : Entry} {ws : List Entry} → Worded c d w → Rendered d e ws → Rendered c e (w ∷ ws)
linked {c} {d} {e} {w} {ws} s r =
    let sum : ticks_in ws * c.core.clocks.rate + d.core.accumulator ≡ length ws * c.core.clocks.internal + e.core.accumulator
    = rw s.clocks at r.sum
    in
    record {
      ok = r.ok;
      clocks = r.clocks ∙ s.clocks;
      variant = r.variant ∙ s.variant;
      sum = rw (add-mul, suc-mul) (omega (arith, s.sum));
      small = (s.small, r.small);
      order = cc (due-late w.end (waiting c.queue), append_assoc w.applied (applied_in ws) (waiting e.queue));
      agrees = λ a. r.agrees (s.agrees a);
      circles = λ n a. let (p, q) = restart-append w.applied (applied_in ws) n in r.circles q (s.circles p a);
    }

pub rendered : (n : ℕ) (c : Chip) → InRange c → Rendered c (after_words n c) (entries n c)
unfolding entries after_words
rendered zero c h =
    record {
      ok = h;
      clocks = refl;
      variant = refl;
      sum = omega arith;
      small = tt;
      order = refl;
      agrees = λ a. a;
      circles = λ _ a. a;
    }
rendered (suc n) c h = let s = worded c h in linked s (rendered n (after_one c) s.ok)
