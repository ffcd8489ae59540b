-- The words of a table that has ended.
use Rattle.std.proofs.Common.{◌≡◌, ℕ, zero, suc, ◌+◌, ◌<◌, List, [], ◌∷◌, length, get_or, refl, sym, ap, subst, arith, ◌∙◌}
use mathlib.Core.Option.{some, some-injective, some-ne-none}
use lib.ListN.{get_elem?}
use Rattle.atomic_table.specs.Table.{Final, Seen}
use Rattle.phase_laws.specs.Job.{JobData}
use Rattle.phase_laws.specs.Core.{AreReached}
use Rattle.phase_laws.specs.Told.{told}
use Rattle.word_rule.specs.declared.view.View.{View}
use Rattle.word_rule.specs.Words.{table_of, table_len}
use Rattle.word_rule.specs.Rule.{Tells}
use Rattle.word_rule.specs.Given.{RunsOnWords}
use Rattle.word_rule.specs.Steps.{HoldsCounts}
use Rattle.word_rule.proofs.Further.{shaped}
use Rattle.word_rule.proofs.Shapes.{table_is_long}

-- lists with the same length and the same entries are the same
pub same_lists : (xs ys : List ℕ) → length xs ≡ length ys → ((s : ℕ) → s < length xs → get_or xs s 0 ≡ get_or ys s 0) → xs ≡ ys
same_lists [] [] l h = refl
same_lists [] (y ∷ ys) l h = absurd (omega arith)
same_lists (x ∷ xs) [] l h = absurd (omega arith)
same_lists (x ∷ xs) (y ∷ ys) l h = λ i. h 0 (omega arith) i ∷ same_lists xs ys (omega arith) (λ s q. h (suc s) (omega arith)) i

-- with a seat that drives every sequence, the words are those that its counts tell, which are reached
pub words_at_end : (j : JobData) (id : ℕ) (v : View) (counts ws : List ℕ) (xs : List (Unit {0})) → RunsOnWords j → HoldsCounts j v counts
    → Final (Seen (Tells j) id v) ws xs → (ws ≡ table_of (told j counts)) × AreReached j counts
words_at_end j id v counts ws xs g h (t, ((c, b), at), w, homes, rest) = (sym w ∙ b.words ∙ ap (λ (cs : List ℕ). table_of (told j cs)) same, subst (AreReached j) same b.are_told.reached)
  where
    long : length c ≡ length j.program.seqs
    long = (shaped j g c b.are_told).counts

    same : c ≡ counts
    same = same_lists c counts (long ∙ sym h.long) (λ s q. b.agree id s (get_or counts s 0) record { view = v; stands = at; count = h.each s (let l = long in omega (arith, q, l)) })

pub long_at_end : (j : JobData) (id : ℕ) (v : View) (counts ws : List ℕ) (xs : List (Unit {0})) → RunsOnWords j → HoldsCounts j v counts → Final (Seen (Tells j) id v) ws xs → length ws ≡ table_len j
long_at_end j id v counts ws xs g h (t, ((c, b), at), w, homes, rest) = ap (length {A = ℕ}) (sym w ∙ b.words) ∙ table_is_long j (told j c) (shaped j g c b.are_told)

pub elem_get : (xs : List ℕ) (i a d : ℕ) → get_elem? xs i ≡ some a → get_or xs i d ≡ a
elem_get [] i a d e = absurd (some-ne-none a (sym e))
elem_get (x ∷ xs) zero a d e = some-injective x a e
elem_get (x ∷ xs) (suc i) a d e = elem_get xs i a d e

-- the words but for the spare one
pub rest_of : (ws all words : List ℕ) → ws ≡ 0 ∷ all → length ws ≡ length words + 1 → ((k : ℕ) → k < length words → get_or words k 0 ≡ get_or ws (k + 1) 0) → words ≡ all
rest_of ws all words e l h = same_lists words all (let a = ap (length {A = ℕ}) e in let b : length (0 ∷ all) ≡ suc (length all) = refl in omega (arith, a, b, l))
    (λ s q. h s q ∙ ap (λ (xs : List ℕ). get_or xs (s + 1) 0) e ∙ ap (λ (i : ℕ). get_or (0 ∷ all) i 0) (let z : s + 1 ≡ suc s = omega arith in z))
