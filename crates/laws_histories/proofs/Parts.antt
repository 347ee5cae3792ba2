-- A frame that is loaded and handed out in parts is its writes and blocks, which join. Assumes nothing.
use mathlib.Core.List.{List, [], ◌∷◌, ◌++◌, map}
use mathlib.Core.Path.{◌≡◌, refl, sym, ap, ◌∙◌}
use Prim.Native.Nat.{ℕ}
use lib.ListN.{length}
use Rattle.refusals.specs.Numbers.{accepted}
use Rattle.chip.specs.declared.Chip.{Chip}
use Rattle.chip.proofs.InRange.{InRange}
use Rattle.answers.specs.declared.Answered.{Answered}
use Rattle.dump_frames.specs.Frame.{frame_chip, frame_loaded, frame_played}
use Rattle.dump_played.proofs.Whole.{frame-kept}
use Rattle.laws_promises.specs.History.{Call, block, answers, after, Ledger, empty_ledger, ledger}
use Rattle.laws_histories.specs.Histories.{write_calls, write_then_render, call, leaves, all_calls, joined, handed, in_parts}
use Rattle.laws_histories.specs.Claims.{BlocksJoin, FrameInParts}
use Rattle.laws_histories.proofs.Appending.{after-append, ledger-append, accepted-append}
use Rattle.laws_histories.proofs.Writes.{written}
use Rattle.laws_histories.proofs.Loads.{load-is-calls}
use Rattle.laws_histories.proofs.Frames.{load-taken, buffer, renders-fine, frame-after, frame_is}
use Rattle.laws_histories.proofs.Blocks.{blocks-join}
use Rattle.laws_histories.proofs.Plays.{plays-after}

-- blocks among the plays are those calls
blocks-are : (outs : List (List ℕ)) (c : Chip) → all_calls (map (λ (out : List ℕ). call (block out)) outs) c ≡ map block outs
unfolding all_calls leaves
blocks-are [] c = refl
blocks-are (out ∷ outs) c = ap (λ (calls : List Call). block out ∷ calls) (blocks-are outs (answers (block out) c).chip)

module _ (value : List ℕ) (outs : List (List ℕ)) (c : Chip) (h : InRange c) (e : (frame_played value (length (joined outs)) c).answer.no ≡ accepted) where
  abbrev d : Chip
  d = frame_chip value c

  left : after (write_calls value) c ≡ d
  left = (written value c empty_ledger h).chip

  joins : (l : Ledger) → BlocksJoin outs d l
  joins l = blocks-join outs d (frame-kept value h) (renders-fine value (joined outs) c e) l

  taken : (frame_loaded value c).no ≡ accepted
  taken = ap (λ (a : Answered). a.no) (load-taken value (joined outs) c e)

  abbrev parts : List Call
  parts = write_calls value ++ map block outs

  parts_are : all_calls (in_parts value outs) c ≡ parts
  unfolding all_calls leaves
  parts_are = rw ((load-is-calls value c empty_ledger (λ _. h)).taken taken, blocks-are outs (frame_loaded value c).chip)

  -- behind the writes, the blocks are as one
  behind : after parts c ≡ after (write_then_render value (joined outs)) c
  behind =
      after-append (write_calls value) (map block outs) c
      ∙ rw left (joins empty_ledger).chip
      ∙ sym (after-append (write_calls value) (block (joined outs) ∷ []) c)

  behind-entered : (l : Ledger) → ledger parts c l ≡ ledger (write_then_render value (joined outs)) c l
  behind-entered l =
      ledger-append (write_calls value) (map block outs) c l
      ∙ rw left (joins (ledger (write_calls value) c l)).entries
      ∙ sym (ledger-append (write_calls value) (block (joined outs) ∷ []) c l)

  pub frame-in-parts : (l : Ledger) → FrameInParts value outs c l
  frame-in-parts l =
      record {
        each = rw parts_are
            (accepted-append (write_calls value) (map block outs) c (written value c empty_ledger h).each (rw left (joins empty_ledger).each));
        chip =
            plays-after (in_parts value outs) c (λ _. h)
            ∙ ap (λ (calls : List Call). after calls c) parts_are
            ∙ behind
            ∙ frame-after value (joined outs) c e h;
        entries =
            ap (λ (calls : List Call). ledger calls c l) parts_are
            ∙ behind-entered l
            ∙ ap (λ (calls : List Call). ledger calls c l) (sym (frame_is value (joined outs) c e));
        words =
            ap (λ (a : Answered). handed outs a.chip) (load-taken value (joined outs) c e)
            ∙ (joins empty_ledger).words
            ∙ sym (buffer value (joined outs) c e);
      }
