-- What a word stores in a lent record is what the call tells.
use Rattle.std.proofs.Common.{◌≡◌, ◌∙◌, refl, ap, Bool, true, false, cond}
use Rattle.std.specs.Prelude.{eqb}
use Rattle.refusals.specs.Numbers.{accepted}
use Rattle.chip.specs.Range.{chip_in}
use Rattle.answers.specs.declared.Sampled.{Sampled}
use Rattle.steps_words.specs.declared.WordStep.{WordStep}
use Rattle.steps_words.specs.WordSteps.{chip_at, refused_word, word_step}
use Rattle.steps_words.proofs.Cases.{refused-keeps}
use Rattle.steps_words.proofs.Playable.{parts}
use Rattle.calls_words.proofs.Sampling.{sampled_by, sampled-by, stored as chip_stored}
use Rattle.c_record.specs.declared.Record.{Record}
use Rattle.c_record.specs.Record.{chip_of, core_of, record_channel, record_core, record_of}
use Rattle.c_told.specs.Told.{lent_back, told_sample}
use Rattle.c_words.specs.declared.RecordWord.{RecordWord}
use Rattle.c_words.specs.Words.{channels_of, left_of, next_word, record_word}

abbrev pub stored : Record → RecordWord → Record
stored x w =
    record {
      core = record x.core { voice = w.voice; a = w.a; b = w.b; c = w.c; accumulator = w.accumulator; start = w.start };
      queue = record x.queue { head = w.head; count = w.count };
    }

-- what a word leaves, and whether it was accepted
abbrev stored_by : Bool → Record → WordStep → Record
stored_by took x w =
    record {
      core = record x.core {
        voice = w.voice;
        a = cond took (record_channel w.channels.a) x.core.a;
        b = cond took (record_channel w.channels.b) x.core.b;
        c = cond took (record_channel w.channels.c) x.core.c;
        accumulator = w.accumulator;
        start = w.start;
      };
      queue = record x.queue { head = w.head; count = w.count };
    }

leaves-by : (x : Record) (w : WordStep) (took : Bool) → (took ≡ false → w ≡ refused_word w.answer.no (chip_of x)) → stored_by took x w ≡ cond took (record_of (chip_stored w (chip_of x))) x
unfolding core_of record_core
leaves-by x w true f = refl
leaves-by x w false f = ap (stored_by false x) (f refl)

told-by : (x : Record) (ok : Bool) → let w = word_step ok (parts (chip_of x)) in stored x (record_word x.core.a x.core.b x.core.c w) ≡ (told_sample x (sampled_by w (chip_of x))).chip
unfolding left_of lent_back
told-by x ok = let w = word_step ok (parts (chip_of x)) in leaves-by x w (eqb w.answer.no accepted) (refused-keeps ok (parts (chip_of x)))

abbrev pub word_of : Record → WordStep
word_of x =
    word_step (chip_in (chip_of x))
    (chip_at x.core.clocks x.core.variant x.core.voice (channels_of x.core.a x.core.b x.core.c) x.core.accumulator x.core.start x.queue)

pub word-told : (x : Record) → (word_of x).answer ≡ (next_word x).answer
unfolding core_of
word-told x = ap (λ (r : Sampled). r.answer) (sampled-by (chip_of x))

pub word-left : (x : Record) → stored x (record_word x.core.a x.core.b x.core.c (word_of x)) ≡ (next_word x).chip
unfolding core_of
word-left x = told-by x (chip_in (chip_of x)) ∙ ap (λ (r : Sampled). (told_sample x r).chip) (sampled-by (chip_of x))
