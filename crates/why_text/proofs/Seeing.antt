-- One line more of a text.
use Rattle.std.proofs.Common.{◌≡◌, ℕ, ◌+◌, List, ◌∷◌, sym, ap, ◌∙◌}
use Rattle.syn_base.specs.Bytes.{Bytes}
use Rattle.why_text.specs.declared.lines.Head.{Head}
use Rattle.why_text.specs.Lines.{Seen, head_at, seen, seen_from}

pub line_seen : (w after : Seen) (n : ℕ) (line : Bytes) (lines all : List Bytes) (head : Head)
    → all ≡ line ∷ lines → head ≡ head_at line → after ≡ seen w n head → seen_from w n all ≡ seen_from after (n + 1) lines
line_seen w after n line lines all head cut is next =
    ap (seen_from w n) cut ∙ ap (λ (v : Seen). seen_from v (n + 1) lines) (sym (next ∙ ap (λ (h : Head). seen w n h) is))
