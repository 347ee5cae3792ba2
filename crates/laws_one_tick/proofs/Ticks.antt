-- A word of a chip whose rate is its internal clock is one tick; so is each word of any calls. Assumes nothing.
use mathlib.Core.List.{List, [], ◌∷◌}
use mathlib.Core.Path.{◌≡◌, refl, sym, ap, ◌∙◌}
use Prim.Native.Nat.{ℕ, zero, suc, ◌+◌, ◌*◌, ◌<◌}
use native.Mathlib.Nat.{suc-mul}
use native.Mathlib.Omega.{arith}
use lib.ListN.{length}
use Rattle.laws.specs.All.{All}
use Rattle.laws.proofs.Lists.{all_append}
use Rattle.chip.specs.declared.Chip.{Chip}
use Rattle.chip.proofs.InRange.{InRange}
use Rattle.clocking_word.specs.Word.{word_of}
use Rattle.clocking_block.specs.Block.{after_one}
use Rattle.laws_promises.specs.History.{Call, block, answers, after, Entry, entries, ticks_in, Ledger, empty_ledger, enters, entered, ledger}
use Rattle.laws_promises.specs.Demand.{N, T}
use Rattle.laws_promises.proofs.Words.{worded}
use Rattle.laws_promises.proofs.Deeds.{Deed, rests, flushes, begins, plays, deed}
use Rattle.laws_promises.proofs.Handed.{block-adds}
use Rattle.laws_histories.proofs.Since.{calls-stay}
use Rattle.laws_one_tick.specs.Claims.{TakesOneTick, TickAWord}

-- the rate is the internal clock
abbrev pub AtClock : Chip → Type 0
AtClock c = c.core.clocks.rate ≡ c.core.clocks.internal

-- so many ticks take the accumulator from below the rate to below the rate, an internal clock taken off
once : (ticks rate a b : ℕ) → ticks * rate + a ≡ rate + b → a < rate → b < rate → ticks ≡ 1
once zero rate a b e p q = absurd (omega (arith, e, p))
once (suc zero) rate a b e p q = refl
once (suc (suc t)) rate a b e p q =
    let z : suc (suc t) * rate ≡ t * rate + rate + rate = rw (suc-mul, suc-mul) refl in
    absurd (omega (arith, e, q, z))

-- n words
words-once : (n : ℕ) (c : Chip) → InRange c → AtClock c → All TakesOneTick (entries n c)
unfolding entries word_of
words-once zero c h e = tt
words-once (suc n) c h e =
    let s = worded c h in
    let sum = s.sum ∙ ap (λ (internal : ℕ). internal + (after_one c).core.accumulator) (sym e) in
    (once _ _ _ _ sum h.accumulator s.ok.accumulator, words-once n (after_one c) s.ok e)

-- each call, and any calls
step-once : {x : Call} {c d : Chip} {l m : Ledger} → InRange c → AtClock c → All TakesOneTick l.words → Deed x c d l m → All TakesOneTick m.words
unfolding enters
step-once h e o (rests s _) = rw s.words o
step-once h e o (flushes _ _ f) = rw f o
step-once h e o (begins _ _ f) = rw f tt
step-once {x} {c} {d} {l} {m} h e o (plays n _ f) = rw f (all_append TakesOneTick l.words (entries n c) o (words-once n c h e))

calls-once : (calls : List Call) (c : Chip) (l : Ledger) → InRange c → AtClock c → All TakesOneTick l.words → All TakesOneTick (ledger calls c l).words
unfolding after ledger
calls-once [] c l h e o = o
calls-once (x ∷ calls) c l h e o =
    let s = calls-stay (x ∷ []) c h in
    calls-once calls (answers x c).chip (entered x c l) s.range (rw s.clocks e) (step-once h e o (deed x c l h))

-- N words are N ticks
counted : (ws : List Entry) → All TakesOneTick ws → ticks_in ws ≡ length ws
counted [] o = refl
counted (w ∷ ws) o = omega (arith, o.0, counted ws o.1)

-- with demand 3's sum nothing is left in the accumulator; and the next block's ticks are its words
pub tick-a-word : (c : Chip) → InRange c → AtClock c → (calls : List Call) (rate : ℕ)
    → T (ledger calls c empty_ledger) * rate ≡ N (ledger calls c empty_ledger) * rate + (after calls c).core.accumulator
    → TickAWord (after calls c) (ledger calls c empty_ledger)
tick-a-word c h e calls rate sum =
    let d = after calls c in
    let l = ledger calls c empty_ledger in
    let s = calls-stay calls c h in
    let o = calls-once calls c empty_ledger h e tt in
    let even : T l ≡ N l = counted l.words o in
    record {
      each = o;
      counted = even;
      accumulator = omega (arith, rw even at sum);
      block = λ out.
          let a = block-adds out d l in
          let m = entered (block out) d l in
          let next : T m ≡ N m = counted m.words (step-once s.range (rw s.clocks e) o (deed (block out) d l s.range)) in
          omega (arith, even, next, a.counted, a.ran);
    }
