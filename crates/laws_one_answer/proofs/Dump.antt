-- Each by the law of its promise's form (`Laws`); a reader, field by field. Assumes nothing.
use mathlib.Core.List.{List}
use mathlib.Core.Path.{◌≡◌, ◌∙◌, ap}
use Prim.Native.Nat.{ℕ}
use denote.Ref.{Bor}
use Rattle.text_lines.specs.declared.Line.{Line}
use Rattle.dump_reader.specs.declared.DumpReader.{DumpReader}
use Rattle.laws_one_answer.specs.Dump.{Played}
use Rattle.laws_one_answer.proofs.Laws.{same, both, by_answer, by_first, by_buffer, by_buffer_of_three}

-- readers of one text at one place
readers : {r s : DumpReader} {text : Bor (List ℕ)} {at : ℕ} → r.text ≡ text → r.at ≡ at → s.text ≡ text → s.at ≡ at → r ≡ s
readers p q p' q' i = record { text = same p p' i; at = same q q' i }

-- a place after a line that is settled
end : {l d : Line} {at : ℕ} → l ≡ d → at ≡ l.next → at ≡ d.next
end p q = q ∙ ap (λ (l : Line). l.next) p

pub played : Played
played =
    record {
      decimal = λ h x y. by_answer h.𝓤;
      decimal_up_to = λ h x y. by_answer h.𝓤;
      leading_zero = λ h x y. by_answer h.𝓤;
      all_hex = λ h x y. by_answer h.𝓤;
      hex_byte = λ h x y. by_answer h.𝓤;
      line_at = λ h x y. by_answer h.𝓤;
      value_at = λ h x y. both h.𝓤 same;
      reader = λ h x y. both h.𝓤 (λ p q i. (readers p.0 p.1 q.0 q.1 i, x.1));
      next_line = λ h x y. both h.𝓤 (λ p q i. (same p.0 q.0 i, (readers p.1 (end p.0 p.2) q.1 (end q.0 q.2) i, x.1.1)));
      first_lines = λ h x y. by_answer h.𝓤;
      at_line = λ g h x y. both h.𝓤 same;
      clock_lines = λ h x y. by_answer h.𝓤;
      frames_read = λ h x y. by_answer h.𝓤;
      check = λ h x y. by_answer h.𝓤;
      verdict = λ h x y. by_answer h.𝓤;
      is_frame = λ h x y. by_answer h.𝓤;
      line_entry_at = λ h x y. by_answer h.𝓤;
      master_line = λ h x y. by_answer h.𝓤;
      rate_line = λ h x y. by_answer h.𝓤;
      words_line = λ h x y. by_answer h.𝓤;
      frames_line = λ h x y. by_answer h.𝓤;
      frame_at = λ h x y. by_answer h.𝓤;
      restarts = λ h x y. by_answer h.𝓤;
      write_frame = λ h x y. by_answer h.𝓤;
      load_frame = λ h x y. by_answer h.𝓤;
      play_frame = λ h x y. by_buffer h.𝓤 (λ w. (tt, (tt, (tt, (w, tt)))));
      put_bytes = λ h x y. by_buffer h.𝓤 (λ w. (w, (tt, (tt, tt))));
      put_number = λ h x y. by_buffer h.𝓤 (λ w. (w, (tt, (tt, (tt, tt)))));
      put_decimal = λ h x y. by_buffer h.𝓤 (λ w. (w, (tt, (tt, tt))));
      put_hex = λ h x y. by_buffer h.𝓤 (λ w. (w, (tt, (tt, (tt, tt)))));
      put_words = λ h x y. by_buffer h.𝓤 (λ w. (w, (tt, (tt, tt))));
      put_first_line = λ h x y. by_buffer_of_three h.𝓤 (λ w. (w, (tt, tt)));
      first_line_given = λ h x y. by_answer h.𝓤;
      frame_due = λ h x y. by_answer h.𝓤;
      frame_begins = λ h x y. by_answer h.𝓤;
      words_in = λ h x y. by_answer h.𝓤;
      words_for = λ h x y. by_answer h.𝓤;
      words_given = λ h x y. by_answer h.𝓤;
      start = λ h x y. by_answer h.𝓤;
      next_piece = λ h x y. by_buffer h.𝓤 (λ w. (tt, (tt, (w, tt))));
      room = λ h x y. by_first h.𝓤;
    }
