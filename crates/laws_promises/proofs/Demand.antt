-- Demand 3: for any calls on a chip with accepted clocks, of every variant. Assumes nothing.
use mathlib.Core.Bool.{false}
use mathlib.Core.List.{List, [], ◌∷◌, ◌++◌, append_assoc, append-nil}
use mathlib.Core.Path.{◌≡◌, refl, sym, ap, subst, ◌∙◌}
use Prim.Native.Nat.{ℕ, zero, suc, ◌<◌}
use native.Mathlib.Omega.{arith}
use borrow.Author.Tests.{ne_eqb}
use lib.ListN.{length}
use Rattle.refusals.specs.Numbers.{accepted}
use Rattle.laws.specs.All.{All}
use Rattle.laws.proofs.Tests.{on-eq}
use Rattle.queue.specs.declared.Write.{Write}
use Rattle.queue.specs.Waiting.{waiting}
use Rattle.queue.proofs.Ring.{length-waiting}
use Rattle.chip.specs.declared.Chip.{Chip}
use Rattle.clocking_block.specs.Block.{after_one, after_words}
use Rattle.clocks.specs.Clocks.{clocks_no}
use Rattle.chip.specs.Clocks.{clocks_of}
use Rattle.chip.proofs.InRange.{InRange, passes}
use Rattle.answers.specs.declared.Answered.{Answered}
use Rattle.calls_making.specs.Making.{made_of, default_variant, with_clocks, with_variant}
use Rattle.variants.specs.Variants.{making_no}
use Rattle.variants.proofs.Makings.{clocks-accepted, variant-accepted, clocks-alone}
use Rattle.calls_making.proofs.Makings.{default-variant}
use Rattle.calls_cycles.specs.Cycles.{pending_write_count}
use Rattle.laws_promises.specs.History.{Call, answers, after, Entry, entries, Ledger, empty_ledger, entered, ledger}
use Rattle.laws_promises.specs.Demand.{Plain, Served, Holds, FromZero, Demand}
use Rattle.laws_promises.proofs.Sounds.{reset-sounds}
use Rattle.laws_promises.proofs.Words.{worded}
use Rattle.laws_promises.proofs.Deeds.{Deed, rests, flushes, begins, plays, deed}
use Rattle.laws_promises.proofs.Numbered.{numbered}
use Rattle.laws_promises.proofs.DemandKept.{Keeps, in-range, calls-kept, made_kept}
use Rattle.laws_promises.proofs.Circling.{calls-circle}
use Rattle.laws_promises.proofs.Course.{Course, course-join, course-served}

-- the words of a block
words-course : (n : ℕ) (c : Chip) → InRange c → Course (entries n c) (waiting c.queue) (waiting (after_words n c).queue)
unfolding entries after_words
words-course zero c h = ([], sym (append-nil (waiting c.queue)))
words-course (suc n) c h =
    let s = worded c h in
    ([], rw append-nil s.applied, rw (append-nil, ← s.left) (words-course n (after_one c) s.ok))

-- the words that calls enter, and the queue's course by them
record Runs (first : List Write) (d : Chip) (l m : Ledger) : Type 0 where
  ws : List Entry
  all : m.words ≡ l.words ++ ws
  course : Course ws first (waiting d.queue)

deed-runs : {x : Call} {c d : Chip} {l m : Ledger} → Plain x → InRange c → Deed x c d l m → Runs (waiting c.queue) d l m
deed-runs {x} {c} {d} {l} {m} p h (rests s _) = record { ws = []; all = s.words ∙ sym (append-nil l.words); course = (s.new, s.waits) }
deed-runs p h (flushes e _ _) = absurd (p.0 e)
deed-runs p h (begins e _ _) = absurd (p.1 e)
deed-runs {x} {c} {d} {l} {m} p h (plays n e f) =
    record { ws = entries n c; all = ap (λ (k : Ledger). k.words) f; course = rw e (words-course n c h) }

calls-run : (calls : List Call) (c : Chip) (l : Ledger) → All Plain calls → InRange c
    → Runs (waiting c.queue) (after calls c) l (ledger calls c l)
unfolding after ledger
calls-run [] c l p h = record { ws = []; all = sym (append-nil l.words); course = ([], sym (append-nil (waiting c.queue))) }
calls-run (x ∷ calls) c l p h =
    let a = deed-runs p.0 h (deed x c l h) in
    let b = calls-run calls (answers x c).chip (entered x c l) p.1 (in-range x c h) in
    record {
      ws = a.ws ++ b.ws;
      all = b.all ∙ ap (λ (ws : List Entry). ws ++ b.ws) a.all ∙ append_assoc l.words a.ws b.ws;
      course = course-join a.ws b.ws _ _ _ a.course b.course;
    }

-- a waiting write of any chip in range
pub waiting-served : (c : Chip) → InRange c → (i : ℕ) → i < length (waiting c.queue) → (later : List Call) → All Plain later
    → Served (waiting c.queue) i (ledger later c empty_ledger).words (waiting (after later c).queue)
waiting-served c h i k later p = let r = calls-run later c empty_ledger p h in rw r.all (course-served i k r.course)

-- a refused call
pub nothing-changes : (c : Chip) (l : Ledger) (x : Call) → ((answers x c).no ≡ accepted → ⊥) → ((answers x c).chip ≡ c) × (entered x c l ≡ l)
unfolding entered
nothing-changes c l x f = ((numbered x c).stays f, rw (ne_eqb (answers x c).no accepted f))

-- the waiting count
pub counted : (c : Chip) → InRange c → pending_write_count c ≡ record { no = accepted; count = length (waiting c.queue) }
unfolding pending_write_count
counted c h = rw (passes h, length-waiting c.queue)

pub holds : {master rate variant : ℕ} {c : Chip} {l : Ledger} → Keeps master rate variant c l → (l.restarted ≡ false → FromZero c)
    → Holds master rate variant c l
holds {master} {rate} {variant} {c} {l} k z =
    let r = k.range in
    let n = r.voice.generators.noise in
    record {
      kept = k.kept;
      served = waiting-served c r;
      beyond = record {
        clocks = k.clocks;
        of-variant = k.of-variant;
        never22 = λ x. (numbered x c).fine (passes r);
        refused = nothing-changes c l;
        count = counted c r;
        seventeen = omega (arith, n.narrow);
        agrees = k.agrees;
        position = r.voice.generators.envelope.position;
        restarted = z;
        circles = λ a later. calls-circle later c empty_ledger r (λ _. a);
      };
    }

made-is : (master rate variant : ℕ) → making_no master rate variant ≡ accepted → made_of (clocks_of master rate) variant ≡ (with_variant master rate variant).chip
unfolding with_variant
made-is master rate variant e = ap (λ (a : Answered). a.chip) (on-eq (making_no master rate variant) accepted _ _ _ e refl)

made-circles : (master rate variant : ℕ) → FromZero (made_of (clocks_of master rate) variant)
unfolding made_of
made-circles master rate variant = (reset-sounds _).1

pub demand-3 : Demand
demand-3 master rate variant e calls =
    let m = made_kept master rate variant (clocks-accepted master rate variant e) (variant-accepted master rate variant e) in
    let c = made_of (clocks_of master rate) variant in
    subst (λ (d : Chip). Holds master rate variant (after calls d) (ledger calls d empty_ledger)) (made-is master rate variant e)
    (holds (calls-kept calls c empty_ledger m) (calls-circle calls c empty_ledger m.range (λ _. made-circles master rate variant)))

-- a chip of the default variant, as `with_clocks` makes it
pub clocks-demand : (master rate : ℕ) → clocks_no master rate ≡ accepted → (calls : List Call)
    → Holds master rate default_variant (after calls (with_clocks master rate).chip) (ledger calls (with_clocks master rate).chip empty_ledger)
clocks-demand master rate e calls = rw (default-variant master rate) (demand-3 master rate default_variant (clocks-alone master rate ∙ e) calls)
