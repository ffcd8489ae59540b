-- The table of the places of pairs' buffers is what the list of readers says.
use Rattle.std.proofs.Common.{◌≡◌, ℕ, zero, suc, ◌+◌, Bool, true, false, cond, List, [], ◌∷◌, ◌++◌, map, length, get_or, refl, sym, ap, arith, ◌∙◌, zero-add}
use Rattle.std.specs.Prelude.{slice_get, replicate}
use Rattle.std.specs.List.{count_by}
use Rattle.std.proofs.lemmas.List.{map-append}
use Rattle.std.proofs.lemmas.List.Sums.{sum_by-cons}
use Rattle.executive_program.specs.declared.program.Program.{Program}
use Rattle.executive_program.specs.declared.program.SeqCode.{SeqCode}
use Rattle.executive_program.specs.Blocks.{blocks}
use Rattle.executive_program.specs.Instructions.{Reader, readers, readers_from, waits_for, depth_of, depth_at, pair_depth}
use Rattle.executive_program.specs.Sizes.{depths_of, pair_depths}

module _ (p : Program) where
  abbrev places_of : Reader → ℕ
  places_of r = depth_of p r.buffer

  one_more : (b s : ℕ) (q : SeqCode) (qs : List SeqCode) → map places_of (readers_from (suc s) qs b) ≡ replicate (count_by (waits_for b) qs) (depth_of p b)
      → map places_of (readers_from s (q ∷ qs) b) ≡ replicate (count_by (waits_for b) (q ∷ qs)) (depth_of p b)
  one_more b s q qs rest = by (waits_for b q) ∙ sym (ap (λ (n : ℕ). replicate n (depth_of p b)) (sum_by-cons (λ x. cond (waits_for b x) 1 0) q qs))
    where
      more : suc (count_by (waits_for b) qs) ≡ 1 + count_by (waits_for b) qs
      more = omega arith

      by : (t : Bool) → map places_of
          (cond t (record { buffer = b; sequence = s } ∷ readers_from (suc s) qs b) (readers_from (suc s) qs b))
          ≡ replicate (cond t 1 0 + count_by (waits_for b) qs) (depth_of p b)
      by true = ap (λ (l : List ℕ). depth_of p b ∷ l) rest ∙ ap (λ (n : ℕ). replicate n (depth_of p b)) more
      by false = rest ∙ ap (λ (n : ℕ). replicate n (depth_of p b)) (sym (zero-add (count_by (waits_for b) qs)))

  of_buffer : (b s : ℕ) (qs : List SeqCode) → map places_of (readers_from s qs b) ≡ replicate (count_by (waits_for b) qs) (depth_of p b)
  of_buffer b s [] = refl
  of_buffer b s (q ∷ qs) = one_more b s q qs (of_buffer b (suc s) qs)

  of_buffers : (n : ℕ) → map places_of (blocks (readers_from 0 p.seqs) n) ≡ blocks (depths_of p) n
  of_buffers zero = refl
  of_buffers (suc n) = map-append places_of (blocks (readers_from 0 p.seqs) n) (readers_from 0 p.seqs n) ∙ (λ i. of_buffers n i ++ of_buffer n 0 p.seqs i)

  in_table : (rs : List Reader) (q : ℕ) → get_or (map places_of rs) q 1 ≡ depth_at p (slice_get rs q)
  in_table [] q = refl
  in_table (r ∷ rs) zero = refl
  in_table (r ∷ rs) (suc q) = in_table rs q

  pub table_is : map places_of (readers p) ≡ pair_depths p
  table_is = of_buffers (length p.buffers)

  pub pair_depth_is : (q : ℕ) → get_or (pair_depths p) q 1 ≡ pair_depth p q
  pair_depth_is q = ap (λ (l : List ℕ). get_or l q 1) (sym table_is) ∙ in_table (readers p) q
