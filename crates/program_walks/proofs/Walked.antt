-- A walk over the readers, buffer by buffer, decides the test of pairs.
use Rattle.std.proofs.Common.{◌≡◌, ℕ, zero, suc, ◌+◌, ◌<◌, ◌≤◌, Bool, true, false, ◌&&◌, nat_eq, List, [], ◌∷◌, ◌++◌, length, refl, sym, ap, subst, arith, add-zero, ◌∙◌, inl, inr}
use Rattle.std.specs.Prelude.{slice_get, nat_lt}
use Rattle.std.proofs.lemmas.Bool.{and_parts, cases_lt, ltb-true}
use Rattle.std.proofs.lemmas.List.{length-append}
use Rattle.std.proofs.Math.Bool.{and-true}
use Rattle.executive_program.specs.declared.program.Program.{Program}
use Rattle.executive_program.specs.Blocks.{blocks}
use Rattle.executive_program.specs.Instructions.{Reader, readers, readers_from}
use Rattle.executive_program.specs.Places.{writer_of, written_at}
use Rattle.executive_program.specs.WellFormed.{operator_of}
use Rattle.program_walks.specs.Walks.{all_at}
use Rattle.program_walks.specs.Pairs.{are_pairs, guards, has_operator, is_full_first, is_read_between, is_written_between}

and_together : (a b c : Bool) → (a && (b && c)) ≡ ((a && b) && c)
and_together true b c = refl
and_together false b c = refl

and_no : (b : Bool) → (b && false) ≡ false
and_no true = refl
and_no false = refl

pub at_append : {X : Type 0} (test : ℕ → X → Bool) (n : ℕ) (xs ys : List X) → all_at test n (xs ++ ys) ≡ (all_at test n xs && all_at test (n + length xs) ys)
at_append test n [] ys = ap (λ (k : ℕ). all_at test k ys) (sym (add-zero n))
at_append test n (x ∷ xs) ys =
    let place : n + 1 + length xs ≡ n + length (x ∷ xs) = omega arith in
    ap (λ (b : Bool). test n x && b) (at_append test (n + 1) xs ys ∙ ap (λ (k : ℕ). all_at test (n + 1) xs && all_at test k ys) place)
    ∙ and_together (test n x) (all_at test (n + 1) xs) (all_at test (n + length (x ∷ xs)) ys)

module _ {X : Type 0} (test : ℕ → X → Bool) (f : ℕ → List X) where
  block_more : (b : ℕ) → all_at test 0 (blocks f b) ≡ true → all_at test (length (blocks f b)) (f b) ≡ true → all_at test 0 (blocks f (suc b)) ≡ true
  block_more b h e =
      at_append test 0 (blocks f b) (f b)
      ∙ ap (λ (t : Bool). t && all_at test (0 + length (blocks f b)) (f b)) h
      ∙ ap (λ (k : ℕ). all_at test k (f b)) (let z : 0 + length (blocks f b) ≡ length (blocks f b) = omega arith in z)
      ∙ e

  block_fails : (n b : ℕ) → b < n → all_at test (length (blocks f b)) (f b) ≡ false → all_at test 0 (blocks f n) ≡ false
  block_fails zero b l e = absurd (omega arith)
  block_fails (suc n) b l e = elim (cases_lt b n) [
    | inl before ↦ at_append test 0 (blocks f n) (f n) ∙ ap (λ (t : Bool). t && all_at test (0 + length (blocks f n)) (f n)) (block_fails n b before e)
    | inr here ↦ (let same : b ≡ n = omega (arith, l, here) in
        at_append test 0 (blocks f n) (f n)
        ∙ ap (λ (k : ℕ). all_at test 0 (blocks f n) && all_at test k (f n)) (let z : 0 + length (blocks f n) ≡ length (blocks f n) = omega arith in z)
        ∙ ap (λ (t : Bool). all_at test 0 (blocks f n) && t) (subst (λ (k : ℕ). all_at test (length (blocks f k)) (f k) ≡ false) same e)
        ∙ and_no (all_at test 0 (blocks f n)))
  ]

module _ (p : Program) (order : List ℕ) where
  within : (q : ℕ) (x : Reader) → guards p order q x ≡ true → q < length p.pairs
  within q x g =
      let full = (and_parts _ (is_full_first p order q (writer_of p x.buffer) x.sequence) g).0 in
      let read = (and_parts _ (is_read_between p q x.buffer x.sequence) full).0 in
      let written = (and_parts _ (is_written_between p q (writer_of p x.buffer) (written_at p x.buffer)) read).0 in
      ltb-true q (length p.pairs) (and_parts (nat_lt q (length p.pairs)) (has_operator (slice_get p.pairs q) (operator_of p x.buffer)) written).0

  pub fits : (n : ℕ) (xs : List Reader) → all_at (guards p order) n xs ≡ true → n ≤ length p.pairs → n + length xs ≤ length p.pairs
  fits n [] h l = omega arith
  fits n (x ∷ xs) h l =
      let parts = and_parts (guards p order n x) (all_at (guards p order) (n + 1) xs) h in
      let here = within n x parts.0 in
      let rest = fits (n + 1) xs parts.1 (omega arith) in
      omega (arith, rest)

  abbrev read_by : ℕ → List Reader
  read_by = readers_from 0 p.seqs

  pub right_more : (b n : ℕ) → all_at (guards p order) 0 (blocks (readers_from 0 p.seqs) b) ≡ true → n
      ≡ length (blocks (readers_from 0 p.seqs) b) → all_at (guards p order) n (readers_from 0 p.seqs b) ≡ true
      → all_at (guards p order) 0 (blocks (readers_from 0 p.seqs) (b + 1)) ≡ true
  right_more b n h many e =
      subst (λ (k : ℕ). all_at (guards p order) 0 (blocks (readers_from 0 p.seqs) k) ≡ true) (let s : suc b ≡ b + 1 = omega arith in s)
      (block_more (guards p order) (readers_from 0 p.seqs) b h (subst (λ (k : ℕ). all_at (guards p order) k (readers_from 0 p.seqs b) ≡ true) many e))

  pub many_more : (b n c : ℕ) → n ≡ length (blocks (readers_from 0 p.seqs) b) → c ≡ length (readers_from 0 p.seqs b) → n + c ≡ length (blocks (readers_from 0 p.seqs) (b + 1))
  many_more b n c many e =
      subst (λ (k : ℕ). n + c ≡ length (blocks (readers_from 0 p.seqs) k)) (let s : suc b ≡ b + 1 = omega arith in s)
      (let both = length-append (blocks (readers_from 0 p.seqs) b) (readers_from 0 p.seqs b) in omega (arith, both, many, e))

  pub one_fails : (b n : ℕ) → b < length p.buffers → n ≡ length (blocks (readers_from 0 p.seqs) b) → all_at (guards p order) n (readers_from 0 p.seqs b) ≡ false → false ≡ are_pairs p order
  one_fails b n l many e =
      sym (ap (λ (t : Bool). nat_eq (length p.pairs) (length (readers p)) && t)
      (block_fails (guards p order) (readers_from 0 p.seqs) (length p.buffers) b l (subst (λ (k : ℕ). all_at (guards p order) k (readers_from 0 p.seqs b) ≡ false) many e))
      ∙ and_no (nat_eq (length p.pairs) (length (readers p))))

  pub all_right : (b n : ℕ) → b ≡ length p.buffers → n ≡ length (blocks (readers_from 0 p.seqs) b)
      → all_at (guards p order) 0 (blocks (readers_from 0 p.seqs) b) ≡ true → nat_eq (length p.pairs) n ≡ are_pairs p order
  all_right b n same many h =
      ap (λ (k : ℕ). nat_eq (length p.pairs) k) (many ∙ ap (λ (k : ℕ). length (blocks (readers_from 0 p.seqs) k)) same)
      ∙ sym (ap (λ (t : Bool). nat_eq (length p.pairs) (length (readers p)) && t)
      (subst (λ (k : ℕ). all_at (guards p order) 0 (blocks (readers_from 0 p.seqs) k) ≡ true) same h)
      ∙ and-true (nat_eq (length p.pairs) (length (readers p))))
