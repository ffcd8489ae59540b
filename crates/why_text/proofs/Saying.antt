-- The line of each instruction says it.
use Rattle.std.proofs.Common.{◌≡◌, ℕ, zero, suc, ◌+◌, Bool, true, false, List, [], ◌∷◌, ◌++◌, length, Option, Some, None, Result, Ok, refl, sym, ap, subst, arith, ◌∙◌, if◌then◌else◌, append_assoc}
use Rattle.std.proofs.lemmas.List.{length-append}
use Rattle.std.specs.Prelude.{nat_lt, slice_get}
use Rattle.syn_base.specs.Bytes.{Bytes}
use Rattle.syn_base.specs.Limits.{bound_of}
use Rattle.syn_base.specs.declared.limits.LimitKind.TheVariants.{Words, MicroSteps}
use Rattle.text_lines.specs.Text.{lines_of}
use Rattle.executive_program.specs.Graph.{Graph}
use Rattle.executive_program.specs.Archi.{Architecture}
use Rattle.executive_program.specs.declared.program.Instr.{Instr}
use Rattle.executive_program.specs.declared.program.SeqCode.{SeqCode}
use Rattle.executive_program.specs.declared.program.Program.{Program}
use Rattle.executive_program.specs.Instructions.{prologue_of, turn_of, number_or}
use Rattle.executive_program.specs.Steps.{all_turns}
use Rattle.macro_code.specs.ReadText.{Reading, counted, first_misnumbered, is_outside, limited, next_line, operation_names, program_of, rest_of, start, whole, within_steps, words}
use Rattle.text_lines.specs.Refusals.{above, and_then, refused}
use Rattle.macro_code.specs.Refusals.{CodeRefusal}
use Rattle.macro_code.specs.declared.fault.CodeCause.{CodeCause}
use Rattle.macro_code.specs.declared.fault.CodeCause.TheVariants.{BadLine}
use Rattle.check_places.specs.declared.place.Part.{Part}
use Rattle.check_places.specs.declared.place.Part.TheVariants.{Loop, Prologue}
use Rattle.check_places.specs.declared.place.Spot.{Spot}
use Rattle.check_places.specs.Wrong.{instructions}
use Rattle.why_text.specs.declared.lines.SequenceLines.{SequenceLines}
use Rattle.why_text.specs.Lines.{Seen, head_at, line_by, lines_in, lines_of_part, nothing, seen, seen_from}
use Rattle.why_text.specs.Said.{LinesSay, Says, read_of, spot}
use Rattle.why_text.proofs.Beside.{AllSay, EachSays, IsBeside, SaysCode, found, line_seen, same_Ok}

-- a program within its limits is the one that was read
in_steps : (p q : Program) → within_steps p ≡ Ok q → p ≡ q
in_steps p q e = by (nat_lt (bound_of MicroSteps) (all_turns p)) e
  where
    by : (b : Bool) → (if b then above {C = CodeCause} MicroSteps (all_turns p) else Ok p) ≡ Ok q → p ≡ q
    by true e = absurd cc
    by false e = same_Ok p q e

in_words : (media : ℕ) (p q : Program) → limited media p ≡ Ok q → p ≡ q
in_words media p q e = by (nat_lt (bound_of Words) (words p media)) e
  where
    by : (b : Bool) → (if b then above Words (words p media) else within_steps p) ≡ Ok q → p ≡ q
    by true e = absurd cc
    by false e = in_steps p q e

read_whole : (media : ℕ) (r : Reading) (n : ℕ) (p : Program) → whole media r n ≡ Ok p → r.seqs ≡ p.seqs
read_whole media r n p e = by (is_outside r.stage) e
  where
    numbered : (o : Option ℕ) → counted media r o ≡ Ok p → r.seqs ≡ p.seqs
    numbered (Some line) e = absurd cc
    numbered None e = ap (λ (p : Program). p.seqs) (in_words media (program_of r) p e)

    by : (b : Bool) → (if b then counted media r (first_misnumbered r) else refused n BadLine) ≡ Ok p → r.seqs ≡ p.seqs
    by true e = numbered (first_misnumbered r) e
    by false e = absurd cc

module _ (text : Bytes) (g : Graph) (a : Architecture) where
  -- one line more is read
  read_more : (r between after : Reading) (m n : ℕ) (above : List Bytes) (line : Bytes) → n ≡ m + length above
      → read_of text g a r m above ≡ Ok between → next_line (operation_names g) a between n line ≡ Ok after → read_of text g a r m (above ++ line ∷ []) ≡ Ok after
  read_more r between after m n [] line e h k =
      let same : r ≡ between = same_Ok r between h in
      let number : m ≡ n = omega arith in
      let here : next_line (operation_names g) a r m line ≡ Ok after = cc in
      ap (λ (x : Result Reading CodeRefusal). and_then x (λ after. Ok after)) here
  read_more r between after m n (first ∷ above) line e h k =
      let next = found (next_line (operation_names g) a r m first) (λ after. read_of text g a after (m + 1) above) between h in
      ap (λ (x : Result Reading CodeRefusal). and_then x (λ after. read_of text g a after (m + 1) (above ++ line ∷ []))) next.1
      ∙ read_more next.0 between after (m + 1) n above line (omega arith) next.2 k

  all_read : (r : Reading) (w : Seen) (n : ℕ) (above lines : List Bytes) (p : Program) → above ++ lines ≡ lines_of text → n ≡ length above + 1
      → read_of text g a start 1 above ≡ Ok r → IsBeside text g a r w
      → rest_of (operation_names g) a r n lines ≡ Ok p → AllSay text g a 0 (seen_from w n lines).done p.seqs
  all_read r w n above [] p whole number read h e = subst (λ (qs : List SeqCode). AllSay text g a 0 w.done qs) (read_whole (length a.media) r n p e) h.done
  all_read r w n above (line ∷ lines) p whole number read h e =
      let next = found (next_line (operation_names g) a r n line) (λ after. rest_of (operation_names g) a after (n + 1) lines) p e in
      all_read next.0 (seen w n (head_at line)) (n + 1) (above ++ line ∷ []) lines p
      (append_assoc above (line ∷ []) lines ∙ whole)
      (let l : length (above ++ line ∷ []) ≡ length above + 1 = length-append above (line ∷ []) in omega arith)
      (read_more start r next.0 1 n above line (omega arith) read next.1)
      (line_seen text g a r next.0 w n line above lines whole number read h next.1) next.2

  nothing_read : IsBeside text g a start nothing
  nothing_read = record { prologue = tt; turn = tt; stage = (refl, refl); threads = tt; done = tt }

  each_at : (part : Part) (s j : ℕ) (ns : List ℕ) (xs : List Instr) → EachSays text g a part s j ns xs → (i k : ℕ) (x : Instr) → k ≡ j + i → slice_get xs i ≡ Some x
      → (n : ℕ) × (slice_get ns i ≡ Some n) × Says text g a n (spot part s k) x
  each_at part s j [] [] h i k x f e = absurd cc
  each_at part s j (n ∷ ns) (y ∷ xs) h zero k x f e =
      let same : y ≡ x = cc in
      let at : j ≡ k = omega arith in
      (n, refl, subst (λ (k : ℕ). Says text g a n (spot part s k) x) at (subst (λ (z : Instr). Says text g a n (spot part s j) z) same h.0))
  each_at part s j (n ∷ ns) (y ∷ xs) h (suc i) k x f e = each_at part s (j + 1) ns xs h.1 i k x (omega arith) e
  each_at part s j [] (y ∷ xs) h i k x f e = absurd h
  each_at part s j (n ∷ ns) [] h i k x f e = absurd h

  all_at : (m : ℕ) (ls : List SequenceLines) (qs : List SeqCode) → AllSay text g a m ls qs → (i s : ℕ) (q : SeqCode) → s ≡ m + i → slice_get qs i ≡ Some q
      → (l : SequenceLines) × (slice_get ls i ≡ Some l) × SaysCode text g a s l q
  all_at m [] [] h i s q f e = absurd cc
  all_at m (l ∷ ls) (y ∷ qs) h zero s q f e =
      let same : y ≡ q = cc in
      let at : m ≡ s = omega arith in
      (l, refl, subst (λ (k : ℕ). SaysCode text g a k l q) at (subst (λ (z : SeqCode). SaysCode text g a m l z) same h.0))
  all_at m (l ∷ ls) (y ∷ qs) h (suc i) s q f e = all_at (m + 1) ls qs h.1 i s q (omega arith) e
  all_at m [] (y ∷ qs) h i s q f e = absurd h
  all_at m (l ∷ ls) [] h i s q f e = absurd h

  abbrev part_in : Part → Option SeqCode → List Instr
  part_in Prologue o = prologue_of o
  part_in Loop o = turn_of o

  in_part : (part : Part) (s : ℕ) (l : SequenceLines) (q : SeqCode) → SaysCode text g a s l q → EachSays text g a part s 0 (lines_of_part part l) (part_in part (Some q))
  in_part Prologue s l q h = h.prologue
  in_part Loop s l q h = h.turn

  same_part : (p : Program) (part : Part) (s : ℕ) → instructions p part s ≡ part_in part (slice_get p.seqs s)
  same_part p Prologue s = refl
  same_part p Loop s = refl

  none_in : (part : Part) → part_in part None ≡ []
  none_in Prologue = refl
  none_in Loop = refl

  says_at : (p : Program) (ls : List SequenceLines) → AllSay text g a 0 ls p.seqs → (y : Spot) (x : Instr) (o : Option SeqCode) → slice_get p.seqs y.sequence ≡ o
      → slice_get (part_in y.part o) y.at ≡ Some x → (n : ℕ) × (line_by y (slice_get ls y.sequence) ≡ Some n) × Says text g a n y x
  says_at p ls h y x None i e =
      let none : None ≡ Some x = ap (λ (xs : List Instr). slice_get xs y.at) (sym (none_in y.part)) ∙ e in
      absurd cc
  says_at p ls h y x (Some q) i e =
      let l = all_at 0 ls p.seqs h y.sequence y.sequence q (omega arith) i in
      let n = each_at y.part y.sequence 0 (lines_of_part y.part l.0) (part_in y.part (Some q)) (in_part y.part y.sequence l.0 q l.2) y.at y.at x (omega arith) e in
      (n.0, ap (line_by y) l.1 ∙ ap (λ (o : Option ℕ). Some (number_or l.0.begin o)) n.1, n.2)

pub lines_say : LinesSay
lines_say text g a p e y x there =
    says_at text g a p (lines_in text)
    (all_read text g a start nothing 1 [] (lines_of text) p refl refl refl (nothing_read text g a) e)
    y x (slice_get p.seqs y.sequence) refl (sym (ap (λ (xs : List Instr). slice_get xs y.at) (same_part text g a p y.part y.sequence)) ∙ there)
