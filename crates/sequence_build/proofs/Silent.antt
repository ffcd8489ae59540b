-- Semaphore lines send nothing, so the wires of a program are as long as without them.
use Rattle.std.proofs.Common.{◌≡◌, ℕ, suc, cond, max, List, [], ◌∷◌, ◌++◌, map, refl, sym, ap, arith, ◌∙◌}
use Rattle.sequence_build_laws.specs.declared.Instr.{Instr}
use Rattle.sequence_build_laws.specs.declared.Instr.TheVariants.{Suc0, Suc1, Pre0, Pre1}
use Rattle.sequence_build_laws.specs.declared.SeqCode.{SeqCode}
use Rattle.sequence_build_laws.specs.declared.Program.{Program}
use Rattle.sequence_build_laws.specs.MicroSteps.{sent_len, longest_sent, longest_on, is_on}
use Rattle.sequence_build_laws.specs.Serial.{numbers_where}
use Rattle.sequence_build.specs.declared.pairs.Pair.{Pair}
use Rattle.sequence_build.specs.declared.around.Moment.TheVariants.{FirstRead, LastRead, Write}
use Rattle.sequence_build.specs.Around.{is_then, lines_with, loop_with, codes_with}

max_none : (n : ℕ) → max 0 n ≡ n
max_none n = omega arith

max_assoc : (a b c : ℕ) → max (max a b) c ≡ max a (max b c)
max_assoc a b c = omega arith

module _ (p : Program) where
  longest-append : (xs ys : List Instr) → longest_sent p (xs ++ ys) ≡ max (longest_sent p xs) (longest_sent p ys)
  longest-append [] ys = sym (max_none (longest_sent p ys))
  longest-append (x ∷ xs) ys =
      ap (max (sent_len p x)) (longest-append xs ys) ∙ sym (max_assoc (sent_len p x) (longest_sent p xs) (longest_sent p ys))

  silent : (f : ℕ → Instr) → ((q : ℕ) → sent_len p (f q) ≡ 0) → (qs : List ℕ) → longest_sent p (map f qs) ≡ 0
  silent f h [] = refl
  silent f h (q ∷ qs) = (λ i. max (h q i) (silent f h qs i))

  lines_send : (pairs : List Pair) (s a : ℕ) (x : Instr) → longest_sent p (lines_with pairs s a x) ≡ sent_len p x
  lines_send pairs s a x =
      let first = numbers_where (is_then FirstRead s a) 0 pairs in
      let write = numbers_where (is_then Write s a) 0 pairs in
      let last = numbers_where (is_then LastRead s a) 0 pairs in
      let before : longest_sent p (map Suc1 first ++ map Suc0 write) ≡ 0 =
      longest-append (map Suc1 first) (map Suc0 write) ∙ (λ i. max (silent Suc1 (λ q. refl) first i) (silent Suc0 (λ q. refl) write i)) in
      let after : longest_sent p (map Pre0 last ++ map Pre1 write) ≡ 0 =
      longest-append (map Pre0 last) (map Pre1 write) ∙ (λ i. max (silent Pre0 (λ q. refl) last i) (silent Pre1 (λ q. refl) write i)) in
      longest-append (map Suc1 first ++ map Suc0 write) (x ∷ (map Pre0 last ++ map Pre1 write))
      ∙ (λ i. max (before i) (max (sent_len p x) (after i)))
      ∙ (let n = sent_len p x in omega arith)

  loop_sends : (pairs : List Pair) (s a : ℕ) (xs : List Instr) → longest_sent p (loop_with pairs s a xs) ≡ longest_sent p xs
  loop_sends pairs s a [] = refl
  loop_sends pairs s a (x ∷ xs) =
      longest-append (lines_with pairs s a x) (loop_with pairs s (suc a) xs) ∙ (λ i. max (lines_send pairs s a x i) (loop_sends pairs s (suc a) xs i))

  pub codes_send : (depth : ℕ) (pairs : List Pair) (s : ℕ) (qs : List SeqCode) (m : ℕ) → longest_on p (codes_with depth pairs s qs) m ≡ longest_on p qs m
  codes_send depth pairs s [] m = refl
  codes_send depth pairs s (q ∷ qs) m =
      λ i. max (cond (is_on m q.seq.medium) (loop_sends pairs s 0 q.turn i) 0) (codes_send depth pairs (suc s) qs m i)
