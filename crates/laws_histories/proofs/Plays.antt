-- A history with frames among its calls is one of calls, so demand 3 speaks of it. Assumes nothing.
use mathlib.Core.Bool.{Bool, true, false}
use mathlib.Core.List.{List, [], ◌∷◌}
use mathlib.Core.Path.{◌≡◌, refl, sym, ap, ◌∙◌}
use Prim.Native.Nat.{ℕ}
use lib.ListN.{length}
use Rattle.refusals.specs.Numbers.{accepted}
use Rattle.laws.proofs.Tests.{by_cond}
use Rattle.chip.specs.declared.Chip.{Chip}
use Rattle.chip.specs.Range.{chip_in}
use Rattle.chip.proofs.InRange.{InRange}
use Rattle.calls_making.specs.Making.{with_variant}
use Rattle.variants.specs.Variants.{making_no}
use Rattle.answers.specs.declared.Answered.{Answered}
use Rattle.laws_in_range.proofs.CallsInRange.{with-variant-kept}
use Rattle.dump_frames.specs.Frame.{frame_loaded, frame_played}
use Rattle.laws_promises.specs.History.{after, empty_ledger, ledger}
use Rattle.laws_promises.specs.Demand.{Holds}
use Rattle.laws_promises.proofs.OutOfRange.{out_of_range_lem}
use Rattle.laws_promises.proofs.Demand.{demand-3}
use Rattle.laws_histories.specs.Histories
use Rattle.laws_histories.specs.Histories.{Play, after_plays, all_calls}
use Rattle.laws_histories.proofs.Appending.{after-append}
use Rattle.laws_histories.proofs.Loads.{load-is-calls}
use Rattle.laws_histories.proofs.Frames.{frame-is-calls}
use Rattle.laws_histories.proofs.Since.{calls-stay}

-- a record out of range stays as it is, whatever is called or played on it
load-stays : (value : List ℕ) (c : Chip) → chip_in c ≡ false → (frame_loaded value c).chip ≡ c
unfolding frame_loaded
load-stays value c e = rw e

frame-stays : (value : List ℕ) (n : ℕ) (c : Chip) → chip_in c ≡ false → (frame_played value n c).chip ≡ c
unfolding frame_played
frame-stays value n c e = rw e

play-stays : (p : Play) (c : Chip) → chip_in c ≡ false → Histories.leaves p c ≡ c
unfolding Histories.leaves
play-stays (Histories.call x) c e = ap (λ (a : Answered). a.chip) (out_of_range_lem x c e)
play-stays (Histories.load-frame value) c e = load-stays value c e
play-stays (Histories.play-frame value out) c e = frame-stays value (length out) c e

-- a record whose test says all that it should
abbrev Tested : Chip → Type 0
Tested c = chip_in c ≡ true → InRange c

-- a call or a frame leaves what its calls leave
left : (p : Play) (c : Chip) → Tested c → Histories.leaves p c ≡ after (Histories.calls_of p c) c
unfolding Histories.leaves after
left (Histories.call x) c t = refl
left (Histories.load-frame value) c t = (load-is-calls value c empty_ledger t).chip
left (Histories.play-frame value out) c t = (frame-is-calls value out c empty_ledger t).chip

left-tested : (p : Play) (c : Chip) → Tested c → Tested (Histories.leaves p c)
left-tested p c t =
    by_cond (λ (_ : Bool). Tested (Histories.leaves p c)) (chip_in c) true false
    (λ e _. rw (left p c t) (calls-stay (Histories.calls_of p c) c (t e)).range)
    (λ e. rw (play-stays p c e) t)

pub plays-after : (plays : List Play) (c : Chip) → Tested c → after_plays plays c ≡ after (all_calls plays c) c
unfolding after_plays all_calls after
plays-after [] c t = refl
plays-after (p ∷ plays) c t =
    plays-after plays (Histories.leaves p c) (left-tested p c t)
    ∙ ap (after (all_calls plays (Histories.leaves p c))) (left p c t)
    ∙ sym (after-append (Histories.calls_of p c) (all_calls plays (Histories.leaves p c)) c)

pub plays-hold : (master rate variant : ℕ) → making_no master rate variant ≡ accepted → (plays : List Play)
    → Holds master rate variant (after_plays plays (with_variant master rate variant).chip)
    (ledger (all_calls plays (with_variant master rate variant).chip) (with_variant master rate variant).chip empty_ledger)
plays-hold master rate variant e plays =
    let c = (with_variant master rate variant).chip in
    rw (plays-after plays c (λ _. with-variant-kept master rate variant)) (demand-3 master rate variant e (all_calls plays c))
