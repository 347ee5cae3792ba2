-- Each by the law of its promise's form (`Laws`). Assumes nothing.
use Rattle.laws_one_answer.specs.Capture.{Captures}
use Rattle.laws_one_answer.proofs.Laws.{by_answer, by_buffer, by_buffer_of_three}

pub captures : Captures
captures =
    record {
      long_decimal = λ h x y. by_answer h.𝓤;
      long_entry_at = λ h x y. by_answer h.𝓤;
      byte_entry_at = λ h x y. by_answer h.𝓤;
      writes_line = λ h x y. by_answer h.𝓤;
      words_line = λ h x y. by_answer h.𝓤;
      stamp_line = λ h x y. by_answer h.𝓤;
      port_line = λ h x y. by_answer h.𝓤;
      value_line = λ h x y. by_answer h.𝓤;
      write_at = λ h x y. by_answer h.𝓤;
      writes_read = λ h x y. by_answer h.𝓤;
      check = λ h x y. by_answer h.𝓤;
      captured = λ h x y. by_answer h.𝓤;
      is_due = λ h x y. by_answer h.𝓤;
      words_before = λ h x y. by_answer h.𝓤;
      pass_write = λ h x y. by_answer h.𝓤;
      pass_due = λ h x y. by_answer h.𝓤;
      free_words = λ h x y. by_answer h.𝓤;
      put_refusal = λ h x y. by_buffer h.𝓤 (λ w. (w, (tt, (tt, tt))));
      put_total = λ h x y. by_buffer h.𝓤 (λ w. (w, (tt, tt)));
      put_left = λ h x y. by_buffer h.𝓤 (λ w. (w, (tt, tt)));
      put_first_line = λ h x y. by_buffer_of_three h.𝓤 (λ w. (w, (tt, tt)));
      put_last_line = λ h x y. by_buffer h.𝓤 (λ w. (w, (tt, (tt, (tt, tt)))));
      start = λ h x y. by_answer h.𝓤;
      step = λ h x y. by_buffer h.𝓤 (λ w. (tt, (tt, (w, tt))));
      next_piece = λ h x y. by_buffer h.𝓤 (λ w. (tt, (tt, (w, tt))));
    }
