use Rattle.std.proofs.Common.{◌≡◌, ◌++◌, ◌∷◌, [], List, ℕ, map, length, append_assoc, sym, ap, ◌∙◌}
use Rattle.std.proofs.lemmas.List.{map_push}
use Rattle.std.proofs.Math.Seq.{take-length}
use Rattle.std.proofs.lemmas.List.Elements.{All-push}
use Rattle.text_lines.specs.Text.{text_at, IsWithin}
use Rattle.text_lines.specs.declared.Span.{Span}
use Rattle.text_lines.proofs.Reading.{Word, word_read, word_within}
use Rattle.text_lines.proofs.spans.Goals as goal

pub loop-at-preserved : goal.loop-at-preserved
loop-at-preserved c =
    let code = c.args.code.now in
    let w : Word code code (length code) c.loop-at.at c.word_end-to.result =
    record { code_is = sym (take-length code); inside = c.loop-at-test.true; letter = sym c.if-is_blank_byte.ensures; next = c.word_end-to.ensures.next } in
    let within = word_within _ _ _ _ _ w in
    let span : Span = record { from = c.loop-at.at; to = c.word_end-to.result } in
    let pushed : c.push.new.self.items ≡ c.loop-at.spans.items ++ span ∷ [] = c.in_ok-push.ensures.items in
    record {
      inside = within.1;
      read = rw (pushed, map_push, append_assoc) (ap (λ (v : List (List ℕ)). map (text_at code) c.loop-at.spans.items ++ v) (sym (word_read _ _ _ _ _ w)) ∙ c.loop-at.invariant.read);
      each = rw pushed (All-push (IsWithin (length code)) _ span c.loop-at.invariant.each within);
    }
