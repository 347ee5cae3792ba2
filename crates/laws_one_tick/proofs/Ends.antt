-- Where the words end: a call that is no sync leaves the next word's start, or begins at 0, or renders words. Assumes nothing.
use mathlib.Core.List.{List, [], ◌∷◌, ◌++◌}
use mathlib.Core.Path.{◌≡◌, refl, ◌∙◌, subst}
use Prim.Native.Nat.{ℕ, zero, suc, ◌+◌, ◌*◌}
use native.Mathlib.Nat.{suc-mul, add-mul}
use native.Mathlib.Omega.{arith}
use lib.ListN.{length, length-append}
use Rattle.laws.specs.All.{All}
use Rattle.chip.specs.declared.Chip.{Chip}
use Rattle.chip.proofs.InRange.{InRange}
use Rattle.clocking_word.specs.Word.{word_of}
use Rattle.clocking_block.specs.Block.{after_one}
use Rattle.calls_making.specs.Making.{reset_of}
use Rattle.laws_promises.specs.History.{Call, answers, after, Entry, entries, Ledger, empty_ledger, enters, entered, ledger}
use Rattle.laws_promises.specs.Demand.{N}
use Rattle.laws_promises.proofs.Deeds.{Deed, rests, flushes, begins, plays, deed}
use Rattle.laws_promises.proofs.Handed.{entries-length}
use Rattle.laws_histories.proofs.Accepted.{words-start}
use Rattle.laws_histories.proofs.Since.{calls-stay}
use Rattle.laws_one_tick.specs.Claims.{NoSync, EndsAt}

-- words that end so many cycles apart, from a start on
abbrev EndsFrom : ℕ → ℕ → List Entry → Type 0
EndsFrom start cycles [] = Unit {0}
EndsFrom start cycles (w ∷ ws) = (w.end ≡ start + cycles) × EndsFrom (start + cycles) cycles ws

ends-append : (start cycles : ℕ) (a b : List Entry) → EndsFrom start cycles a → EndsFrom (start + length a * cycles) cycles b
    → EndsFrom start cycles (a ++ b)
ends-append start cycles [] b h k = let z : start + 0 * cycles ≡ start = omega arith in rw z at k
ends-append start cycles (w ∷ a) b h k =
    let z : start + suc (length a) * cycles ≡ start + cycles + length a * cycles = rw suc-mul (omega arith) in
    (h.0, ends-append (start + cycles) cycles a b h.1 (rw z at k))

entries-end : (n : ℕ) (c : Chip) → EndsFrom c.core.start c.core.clocks.cycles (entries n c)
unfolding entries word_of
entries-end zero c = tt
entries-end (suc n) c = (refl, entries-end n (after_one c))

-- the words end apart, and the next starts where they end
record Apart (cycles : ℕ) (c : Chip) (l : Ledger) : Type 0 where
  ends : EndsFrom 0 cycles l.words
  next : c.core.start ≡ N l * cycles

step-apart : {x : Call} {c d : Chip} {l m : Ledger} → NoSync x → Apart c.core.clocks.cycles c l → Deed x c d l m → Apart c.core.clocks.cycles d m
unfolding enters reset_of
step-apart p a (rests s start) = record { ends = rw s.words a.ends; next = rw (start p, s.words) a.next }
step-apart p a (flushes _ e f) = rw (e, f) (record { ends = a.ends; next = a.next })
step-apart p a (begins _ e f) = rw (e, f) (record { ends = tt; next = omega arith })
step-apart {x} {c} {d} {l} {m} p a (plays n e f) =
    let cycles = c.core.clocks.cycles in
    let more : EndsFrom (0 + N l * cycles) cycles (entries n c) = subst (λ (s : ℕ). EndsFrom s cycles (entries n c)) (a.next ∙ omega arith) (entries-end n c) in
    let count : length (l.words ++ entries n c) * cycles ≡ N l * cycles + n * cycles
    = rw (length-append, entries-length n c) (add-mul _ _ cycles)
    in
    rw (e, f) (record {
      ends = ends-append 0 cycles l.words (entries n c) a.ends more;
      next = rw count (words-start n c ∙ rw a.next);
    })

calls-apart : (calls : List Call) (c : Chip) (l : Ledger) → InRange c → All NoSync calls → Apart c.core.clocks.cycles c l
    → Apart c.core.clocks.cycles (after calls c) (ledger calls c l)
unfolding after ledger
calls-apart [] c l h p a = a
calls-apart (x ∷ calls) c l h p a =
    let s = calls-stay (x ∷ []) c h in
    rw s.clocks at (calls-apart calls (answers x c).chip (entered x c l) s.range p.1 (rw s.clocks (step-apart p.0 a (deed x c l h))))

-- by the word's place
at_place : (start cycles : ℕ) (before rest : List Entry) (w : Entry) → EndsFrom start cycles (before ++ w ∷ rest)
    → w.end ≡ start + (length before + 1) * cycles
at_place start cycles [] rest w h = h.0 ∙ omega arith
at_place start cycles (v ∷ before) rest w h =
    let z : suc (length before + 1) * cycles ≡ (length before + 1) * cycles + cycles = suc-mul _ _ in
    at_place (start + cycles) cycles before rest w h.1 ∙ omega (arith, z)

-- words from cycle 0 on
pub words-end : (calls : List Call) (c : Chip) → InRange c → c.core.start ≡ 0 → All NoSync calls
    → EndsAt c.core.clocks.cycles (ledger calls c empty_ledger).words
words-end calls c h z p before rest w e =
    let a = calls-apart calls c empty_ledger h p (record { ends = tt; next = z ∙ omega arith }) in
    at_place 0 c.core.clocks.cycles before rest w (rw e at a.ends) ∙ omega arith
