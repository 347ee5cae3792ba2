-- Each by the law of its promise's form (`Laws`). Assumes nothing.
use Rattle.laws_one_answer.specs.Notes.{Notes}
use Rattle.laws_one_answer.proofs.Laws.{by_answer, by_first, by_buffer}

pub notes : Notes
notes =
    record {
      nearest_period = λ h x y. by_answer h.𝓤;
      are_nearest = λ h x y. by_answer h.𝓤;
      found = λ h x y. by_answer h.𝓤;
      checked = λ h x y. by_answer h.𝓤;
      check = λ h x y. by_answer h.𝓤;
      note_at = λ h x y. by_answer h.𝓤;
      room = λ h x y. by_first h.𝓤;
      answer = λ h x y. by_buffer h.𝓤 (λ w. (tt, (w, tt)));
    }
