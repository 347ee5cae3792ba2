-- What a frame reports: its counts and its block's are those over one list, and a refused one reports nothing. Assumes nothing.
use mathlib.Core.List.{List}
use mathlib.Core.Path.{◌≡◌, sym, ap, ◌∙◌}
use Prim.Native.Nat.{ℕ, ◌+◌}
use borrow.Author.Tests.{ne_eqb}
use lib.ListN.{length}
use Rattle.refusals.specs.Numbers.{accepted}
use Rattle.registers.specs.Writes.{RegisterWrite}
use Rattle.write_effects.specs.Effects.{changes_in, restarts_in}
use Rattle.write_effects.proofs.Laws.{bytes_left_lem, bytes_left, changes-append, restarts-append}
use Rattle.queue_flush.specs.Applied.{register_writes}
use Rattle.chip.specs.declared.Chip.{Chip}
use Rattle.clocking_block.specs.Block.{applied_of}
use Rattle.answers.specs.Answers.{answered}
use Rattle.answers.specs.Reports.{bytes_of, counts}
use Rattle.answers.specs.declared.Blocked.{Blocked}
use Rattle.calls_words.specs.Blocks.{block_played, blocked}
use Rattle.dump_writes.specs.Writes.{frame_writes}
use Rattle.dump_frames.specs.Frame.{frame_chip, frame_loaded, frame_played, frame_reported, together}
use Rattle.dump_frames.proofs.Loading.{reported-is}
use Rattle.laws_promises.specs.History.{answers}
use Rattle.laws_histories.specs.Histories.{frame_applies}
use Rattle.laws_histories.specs.Claims.{FrameReports}
use Rattle.laws_histories.proofs.Accepted.{block-passed, block-plays}
use Rattle.laws_histories.proofs.Frames.{played, renders-fine, stays}

module _ (value : List ℕ) (c : Chip) where
  loaded : answered (frame_reported value c).answer.no (frame_reported value c).chip ≡ frame_loaded value c
  loaded = sym (reported-is value c)

  not-loaded : ((frame_loaded value c).no ≡ accepted → ⊥) → (frame_reported value c).answer ≡ counts (frame_loaded value c).no 0 0
  unfolding frame_reported
  not-loaded f = rw (ne_eqb (frame_loaded value c).no accepted f)

module _ (value out : List ℕ) (c : Chip) (e : (frame_played value (length out) c).answer.no ≡ accepted) where
  abbrev d : Chip
  d = frame_chip value c

  abbrev behind : List RegisterWrite
  behind = register_writes (applied_of (length out) d)

  fine : (blocked (length out) d).answer.no ≡ accepted
  unfolding answers
  fine = renders-fine value out c e

  is : frame_played value (length out) c ≡ together (frame_writes value) c (block_played (length out) d)
  is = let (range, number) = block-passed (length out) d fine in played value out c e ∙ ap (together (frame_writes value) c) (block-plays (length out) d range number)

  -- the block's writes find the bytes that the frame's left
  found : bytes_of d ≡ bytes_left (frame_writes value) (bytes_of c)
  unfolding frame_chip
  found = bytes_left_lem (frame_writes value) c.core.voice

  changed : (frame_played value (length out) c).answer.changed ≡ changes_in (frame_applies value (length out) c) (bytes_of c)
  unfolding frame_applies
  changed =
      ap (λ (b : Blocked). b.answer.changed) is
      ∙ ap (λ (bytes : List ℕ). changes_in (frame_writes value) (bytes_of c) + changes_in behind bytes) found
      ∙ sym (changes-append (frame_writes value) behind (bytes_of c))

  restarted : (frame_played value (length out) c).answer.restarted ≡ restarts_in (frame_applies value (length out) c)
  unfolding frame_applies
  restarted = ap (λ (b : Blocked). b.answer.restarted) is ∙ sym (restarts-append (frame_writes value) behind)

pub frame-reports : (value out : List ℕ) (c : Chip) → FrameReports value out c
frame-reports value out c =
    record {
      loaded = loaded value c;
      not-loaded = not-loaded value c;
      changed = changed value out c;
      restarted = restarted value out c;
      refused = λ f. let s = stays value out c f in (ap (λ (b : Blocked). b.answer.changed) s, ap (λ (b : Blocked). b.answer.restarted) s);
    }
