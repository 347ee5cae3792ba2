-- Chips that share all but what a variant decides still do after every call; and two makings of the same clocks do. Assumes nothing.
use mathlib.Core.List.{List, [], ◌∷◌}
use mathlib.Core.Path.{◌≡◌, refl, sym, ap, ◌∙◌}
use Prim.Native.Nat.{ℕ}
use Rattle.refusals.specs.Numbers.{accepted}
use Rattle.chip.specs.declared.Chip.{Chip}
use Rattle.chip.specs.declared.Clocks.{Clocks}
use Rattle.chip.specs.Clocks.{clocks_of}
use Rattle.chip.proofs.InRange.{InRange}
use Rattle.answers.specs.declared.Answered.{Answered}
use Rattle.answers.specs.declared.Blocked.{Blocked}
use Rattle.calls_making.specs.Making.{made_of, default_variant, with_variant}
use Rattle.variants.specs.Variants.{making_no}
use Rattle.calls_registers.specs.Stored.{dump_registers, loaded_registers, read_register, wrote_register}
use Rattle.calls_ports.specs.Ports.{read_port, wrote_port_immediate}
use Rattle.calls_cycles.specs.Cycles.{cpu_cycle, flushed_pending_writes, pending_write_count}
use Rattle.calls_channels.specs.ChannelCalls.{is_channel_muted}
use Rattle.calls_words.specs.Blocks.{blocked}
use Rattle.laws_in_range.proofs.CallsInRange.{with-variant-kept}
use Rattle.laws_promises.specs.History.{Call, answers, after, Ledger, empty_ledger, enters, is_accepted, entered, ledger}
use Rattle.laws_promises.proofs.DemandKept.{in-range}
use Rattle.laws_alike.specs.Claims.{shared, shared_ledger, AnswerAlike, Alike, AllAlike}
use Rattle.laws_alike.proofs.Words.{alike-by}
use Rattle.laws_alike.proofs.Reading.{either, register-shared, registers-shared, port-shared, cycle-shared, waiting-shared, muted-shared, wrote-shared, loaded-shared, wrote-port-shared, flushed-shared}
use Rattle.laws_alike.proofs.Steps.{shared_answer, shared_block, block-shared, answer-shared}
use Rattle.laws_alike.proofs.Ledgers.{enters-alike}

-- two chips in range that share, and their ledgers
record Pair (c d : Chip) (l m : Ledger) : Type 0 where
  left : InRange c
  right : InRange d
  chip : shared c ≡ shared d
  ledger : shared_ledger l ≡ shared_ledger m

module _ {c d : Chip} {l m : Ledger} (p : Pair c d l m) where
  step-answers : (x : Call) → shared_answer (answers x c) ≡ shared_answer (answers x d)
  step-answers x = alike-by (λ (y : Chip). shared_answer (answers x y)) (answer-shared x p.left) (answer-shared x p.right) p.chip

  numbers : (x : Call) → (answers x c).no ≡ (answers x d).no
  numbers x = ap (λ (a : Answered). a.no) (step-answers x)

  step-enters : (x : Call) → shared_ledger (entered x c l) ≡ shared_ledger (entered x d m)
  unfolding entered
  step-enters x =
      rw (numbers x) (either shared_ledger (is_accepted (answers x d).no) (enters x c l) l (enters x d m) m
      (enters-alike c d l m p.chip p.ledger x)
      p.ledger)

  step : (x : Call) → Pair (answers x c).chip (answers x d).chip (entered x c l) (entered x d m)
  step x =
      record {
        left = in-range x c p.left;
        right = in-range x d p.right;
        chip = ap (λ (a : Answered). a.chip) (step-answers x);
        ledger = step-enters x;
      }

  answers-alike : AnswerAlike c d
  answers-alike =
      record {
        number = numbers;
        block = λ n.
            ap (λ (b : Blocked). b.answer)
            (alike-by (λ (y : Chip). shared_block (blocked n y)) (block-shared p.left n) (block-shared p.right n) p.chip);
        wrote = λ n x.
            alike-by (λ (y : Chip). (wrote_register n x y).answer) (wrote-shared p.left n x) (wrote-shared p.right n x) p.chip;
        loaded = λ bytes.
            alike-by (λ (y : Chip). (loaded_registers bytes y).answer) (loaded-shared p.left bytes) (loaded-shared p.right bytes) p.chip;
        wrote-port = λ n x.
            alike-by (λ (y : Chip). (wrote_port_immediate n x y).answer) (wrote-port-shared p.left n x) (wrote-port-shared p.right n x) p.chip;
        flushed = alike-by (λ (y : Chip). (flushed_pending_writes y).answer) (flushed-shared p.left) (flushed-shared p.right) p.chip;
        register = λ n. alike-by (read_register n) (register-shared p.left n) (register-shared p.right n) p.chip;
        registers = alike-by dump_registers (registers-shared p.left) (registers-shared p.right) p.chip;
        port = λ n. alike-by (read_port n) (port-shared p.left n) (port-shared p.right n) p.chip;
        cycle = alike-by cpu_cycle (cycle-shared p.left) (cycle-shared p.right) p.chip;
        waiting = alike-by pending_write_count (waiting-shared p.left) (waiting-shared p.right) p.chip;
        muted = λ n. alike-by (is_channel_muted n) (muted-shared p.left n) (muted-shared p.right n) p.chip;
      }

  alike : Alike c d l m
  alike = record { chip = p.chip; ledger = p.ledger; answer = answers-alike }

-- any calls
calls-pair : (calls : List Call) (c d : Chip) (l m : Ledger) → Pair c d l m
    → Pair (after calls c) (after calls d) (ledger calls c l) (ledger calls d m)
unfolding after ledger
calls-pair [] c d l m p = p
calls-pair (x ∷ calls) c d l m p = calls-pair calls _ _ _ _ (step p x)

-- two makings
made-shared : (clocks : Clocks) (v : ℕ) → shared (made_of clocks v) ≡ shared (made_of clocks default_variant)
unfolding made_of
made-shared clocks v = refl

making-shared : (master rate v : ℕ) → making_no master rate v ≡ accepted
    → shared (with_variant master rate v).chip ≡ shared (made_of (clocks_of master rate) default_variant)
unfolding with_variant
making-shared master rate v e = rw e (made-shared (clocks_of master rate) v)

pub all_alike : AllAlike
all_alike =
    record {
      alike = λ master rate v w e f calls.
          alike (calls-pair calls _ _ empty_ledger empty_ledger (record {
            left = with-variant-kept master rate v;
            right = with-variant-kept master rate w;
            chip = making-shared master rate v e ∙ sym (making-shared master rate w f);
            ledger = refl;
          }));
    }
