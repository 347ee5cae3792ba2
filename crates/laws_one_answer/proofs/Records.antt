-- Each by the law of its promise's form (`Laws`). Assumes nothing.
use Rattle.laws_one_answer.specs.Records.{Held}
use Rattle.laws_one_answer.proofs.Laws.{by_answer, by_buffer}

pub held : Held
held =
    record {
      chip_of = λ h x y. by_answer h.𝓤;
      record_of = λ h x y. by_answer h.𝓤;
      tell = λ h x y. by_answer h.𝓤;
      drum_of = λ h x y. by_answer h.𝓤;
      record_drum = λ h x y. by_answer h.𝓤;
      channel_of = λ h x y. by_answer h.𝓤;
      core_of = λ h x y. by_answer h.𝓤;
      record_core = λ h x y. by_answer h.𝓤;
      record_channel = λ h x y. by_answer h.𝓤;
      new = λ h x y. by_answer h.𝓤;
      with_clocks = λ h x y. by_answer h.𝓤;
      with_variant = λ h x y. by_answer h.𝓤;
      reset = λ h x y. by_answer h.𝓤;
      compute_next_sample = λ h x y. by_answer h.𝓤;
      block = λ h x y. by_buffer h.𝓤 (λ w. (tt, (tt, (tt, (w, (tt, (tt, (tt, (tt, tt)))))))));
    }
