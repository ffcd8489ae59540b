-- In the made tree the lengths of values fit.
use Rattle.std.proofs.Common.{
  ◌≡◌,
  pos,
  ℕ,
  zero,
  suc,
  ◌+◌,
  ◌-◌,
  ◌<◌,
  ◌≤◌,
  List,
  [],
  ◌∷◌,
  ◌++◌,
  length,
  map,
  take,
  replicate,
  Option,
  Some,
  None,
  slice_get,
  slice_index_or,
  refl,
  sym,
  ap,
  ap₂,
  ◌∙◌,
  subst,
  append-nil,
  arith,
}
use Rattle.std.proofs.lemmas.List.{map-append}
use lib.Seq.{take-suc, take_all}
use Rattle.algo_tree.specs.declared.Source.{Source}
use Rattle.algo_tree.specs.declared.Source.TheVariants.{Own, Of}
use Rattle.algo_tree.specs.Tree.{Label, vertex, Vertices, no_vertices, and_vertex}
use Rattle.algo_tree.specs.View.{vertices_of}
use Rattle.algo_tree.specs.Typed.{IsLength, AreLengths, label_of, outs_of, source_length, AreGroups, IsTyped, AllTyped}
use Rattle.algo_tree.proofs.Appends.{lengths-append, outs-append, typed-append}
use Rattle.multi_period.specs.declared.mark.Mark.{Mark}
use Rattle.multi_period.specs.Marks.{IsMark, AreMarked, MayHave}
use Rattle.multi_period.specs.Periods.{count, keep, inputs_from, run, when_runs, otherwise, body, period, period_by, all_periods}
use Rattle.multi_period.proofs.Lists.{map_map, map_below, at_below, past_below}
use Rattle.multi_period.proofs.Wide.{long_map}
use Rattle.syn_base.specs.Vectors.{zeros}
use Rattle.syn_base.specs.Numbers.{numbers_below}

length_of : List ℕ → ℕ → ℕ
length_of ns i = slice_index_or ns i 0

-- all numbers of a list by their places
taken : (ns : List ℕ) (n : ℕ) → n ≤ length ns → map (λ i. slice_index_or ns i 0) (numbers_below n) ≡ take n ns
taken ns zero le = refl
taken ns (suc n) le =
    map-append (λ i. slice_index_or ns i 0) (numbers_below n) (n ∷ []) ∙ ap (λ xs. xs ++ slice_index_or ns n 0 ∷ []) (taken ns n (omega arith)) ∙ sym (take-suc ns n 0 (omega arith))

all_at : (ns : List ℕ) (n : ℕ) → length ns ≡ n → map (λ i. slice_index_or ns i 0) (numbers_below n) ≡ ns
all_at ns n e = taken ns n (omega (arith, e)) ∙ take_all n ns (omega (arith, e))

behind : (pre ns : List ℕ) (i m : ℕ) → length pre ≡ m → slice_index_or (pre ++ ns) (m + i) 0 ≡ slice_index_or ns i 0
behind [] ns i m e = ap (λ j. slice_index_or ns j 0) (omega (arith, e))
behind (v ∷ pre) ns i zero e = absurd (omega (arith, e))
behind (v ∷ pre) ns i (suc m) e = ap (λ j. slice_index_or (v ∷ (pre ++ ns)) j 0) next ∙ behind pre ns i m (omega (arith, e))
  where
    next : suc m + i ≡ suc (m + i)
    next = omega arith

before : (ns post : List ℕ) (i : ℕ) → i < length ns → slice_index_or (ns ++ post) i 0 ≡ slice_index_or ns i 0
before [] post i lt = absurd (omega arith)
before (v ∷ ns) post zero lt = refl
before (v ∷ ns) post (suc i) lt = before ns post i (omega arith)

own_lengths : (pre ns post : List ℕ) (outs : List (List ℕ)) (m n : ℕ) → length pre ≡ m → length ns ≡ n → map (source_length (pre ++ (ns ++ post)) outs) (inputs_from m n) ≡ ns
own_lengths pre ns post outs m n e h =
    map_map (source_length (pre ++ (ns ++ post)) outs) (λ i. Own (m + i)) (numbers_below n)
    ∙ map_below (λ i. slice_index_or (pre ++ (ns ++ post)) (m + i) 0) (λ i. slice_index_or ns i 0) n (λ i lt. behind pre (ns ++ post) i m e ∙ before ns post i (omega (arith, h, lt)))
    ∙ all_at ns n h

got : {A : Type 0} (xs : List A) (i : ℕ) (y d : A) → slice_get xs i ≡ Some y → slice_index_or xs i d ≡ y
got [] i y d e = cc
got (x ∷ xs) zero y d e = cc
got (x ∷ xs) (suc i) y d e = got xs i y d e

length-at : (ns : List ℕ) (i : ℕ) → AreLengths ns → i < length ns → IsLength (slice_index_or ns i 0)
length-at [] i h lt = absurd (omega arith)
length-at (n ∷ ns) zero h lt = h.0
length-at (n ∷ ns) (suc i) h lt = length-at ns i h.1 (omega arith)

is_one : IsLength 1
is_one = (omega arith, omega arith)

long_zeros : (n : ℕ) → length (zeros n) ≡ n
long_zeros zero = refl
long_zeros (suc n) = ap suc (long_zeros n)

ones-typed : (n : ℕ) → AreGroups (1 ∷ []) (replicate n (pos 1 ∷ []))
ones-typed zero = tt
ones-typed (suc n) = (refl, ones-typed n)

outs-keeps : (l : Label) (is : List ℕ) → outs_of (vertices_of (map (keep l) is)) ≡ map (λ i. slice_index_or l.outs i 0 ∷ []) is
outs-keeps l [] = refl
outs-keeps l (i ∷ is) = ap (λ os. (slice_index_or l.outs i 0 ∷ []) ∷ os) (outs-keeps l is)

module _ (m : Mark) (l : Label) (us : Vertices) (h : IsMark m l) (lens : List ℕ) (long : length lens ≡ length l.ins) (typed : IsTyped lens (vertex l us)) where
  abbrev q : ℕ
  q = length l.outs

  abbrev kid_outs : ℕ → List ℕ
  kid_outs i = slice_index_or l.outs i 0 ∷ []

  abbrev O : List (List ℕ)
  O = (1 ∷ []) ∷ (map kid_outs (numbers_below q) ++ l.outs ∷ [])

  outs-inside : outs_of (vertices_of (count m.every ∷ (map (keep l) (numbers_below q) ++ body l us ∷ []))) ≡ O
  outs-inside =
      ap (λ os. (1 ∷ []) ∷ os)
      (outs-append (map (keep l) (numbers_below q)) (body l us ∷ []) ∙ ap (λ os. os ++ l.outs ∷ []) (outs-keeps l (numbers_below q)))

  abbrev len : Source → ℕ
  len = source_length lens O

  len-keep : (i : ℕ) → i < q → len (Of (suc i) 0) ≡ slice_index_or l.outs i 0
  len-keep i lt = ap (λ ns. slice_index_or ns 0 0) (got (map kid_outs (numbers_below q) ++ l.outs ∷ []) i (kid_outs i) [] (at_below kid_outs q (l.outs ∷ []) i lt))

  len-body : (p : ℕ) → len (Of (suc q) p) ≡ slice_index_or l.outs p 0
  len-body p = ap (λ ns. slice_index_or ns p 0) (got (map kid_outs (numbers_below q) ++ l.outs ∷ []) q l.outs [] (past_below kid_outs q l.outs []))

  typed-count : IsTyped (1 ∷ []) (count m.every)
  typed-count = (((is_one, tt), (is_one, tt)), (refl, (omega arith, (refl, ones-typed (m.every - 1)))))

  typed-keep : (i : ℕ) → i < q → IsTyped (map len (Of (suc q) i ∷ [])) (keep l i)
  typed-keep i lt =
      let one = length-at l.outs i typed.0.1 lt in
      subst (λ n. IsTyped (n ∷ []) (keep l i)) (sym (len-body i)) (
        ((one, tt), (one, tt)),
        (refl, (omega arith, (ap (λ n. n ∷ []) (sym (long_zeros (slice_index_or l.outs i 0))), tt))),
      )

  typed-keeps : (n : ℕ) → n ≤ q → AllTyped lens O (vertices_of (map (keep l) (numbers_below n)))
  typed-keeps zero le = tt
  typed-keeps (suc n) le =
      subst (λ vs. AllTyped lens O (vertices_of vs)) (sym (map-append (keep l) (numbers_below n) (n ∷ [])))
      (typed-append lens O (map (keep l) (numbers_below n)) (keep l n ∷ []) (typed-keeps n (omega arith)) ((tt, typed-keep n (omega arith)), tt))

  abbrev body_lens : List ℕ
  body_lens = 1 ∷ (lens ++ l.outs)

  own-all : (ns : List ℕ) (n : ℕ) (outs : List (List ℕ)) → length ns ≡ n → map (source_length ns outs) (inputs_from 0 n) ≡ ns
  own-all ns n outs e = ap (λ xs. map (source_length xs outs) (inputs_from 0 n)) (sym (append-nil ns)) ∙ own_lengths [] ns [] outs 0 n refl e

  lens-body : map len (Of 0 0 ∷ (inputs_from 0 (length l.ins) ++ map (λ i. Of (suc i) 0) (numbers_below q))) ≡ body_lens
  lens-body =
      ap (λ ns. 1 ∷ ns)
      (map-append len (inputs_from 0 (length l.ins)) (map (λ i. Of (suc i) 0) (numbers_below q))
      ∙ ap₂ (λ xs ys. xs ++ ys) (own-all lens (length l.ins) O long)
      (map_map len (λ i. Of (suc i) 0) (numbers_below q) ∙ map_below (λ i. len (Of (suc i) 0)) (λ i. slice_index_or l.outs i 0) q len-keep ∙ all_at l.outs q refl))

  typed-run : IsTyped (map (source_length lens (l.outs ∷ [])) (inputs_from 0 (length l.ins))) (run l us)
  typed-run = subst (λ ns. IsTyped ns (run l us)) (sym (own-all lens (length l.ins) (l.outs ∷ []) long)) typed

  typed-runs : IsTyped (map (source_length body_lens []) (inputs_from 1 (length l.ins))) (when_runs l us)
  typed-runs =
      subst (λ ns. IsTyped ns (when_runs l us)) (sym (own_lengths (1 ∷ []) lens l.outs [] 1 (length l.ins) refl long))
      (typed.0, (((tt, typed-run), tt), sym (map_map (source_length lens (l.outs ∷ [])) (Of 0) (numbers_below q) ∙ all_at l.outs q refl)))

  typed-otherwise : IsTyped (map (source_length body_lens []) (inputs_from (suc (length l.ins)) q)) (otherwise l)
  typed-otherwise =
      subst (λ ns. IsTyped ns (otherwise l))
      (sym (ap (λ xs. map (source_length (1 ∷ (lens ++ xs)) []) (inputs_from (suc (length l.ins)) q)) (sym (append-nil l.outs))
      ∙ own_lengths (1 ∷ lens) l.outs [] [] (suc (length l.ins)) q (ap suc long) refl))
      ((typed.0.1, typed.0.1), (tt, sym (own-all l.outs q [] refl)))

  typed-body : IsTyped (map len (Of 0 0 ∷ (inputs_from 0 (length l.ins) ++ map (λ i. Of (suc i) 0) (numbers_below q)))) (body l us)
  typed-body =
      subst (λ ns. IsTyped ns (body l us)) (sym lens-body) (
        ((is_one, lengths-append lens l.outs typed.0.0 typed.0.1), typed.0.1),
        ((refl, ((tt, typed-runs), ((tt, typed-otherwise), tt))), ((refl, (refl, tt)), h.named)),
      )

  typed-inside : AllTyped lens O (vertices_of (count m.every ∷ (map (keep l) (numbers_below q) ++ body l us ∷ [])))
  typed-inside = (
    (tt, typed-count),
    typed-append lens O (map (keep l) (numbers_below q)) (body l us ∷ []) (typed-keeps q (omega arith)) ((tt, typed-body), tt),
  )

  pub typed-period : IsTyped lens (period m l us)
  typed-period = (
    typed.0,
    (
      subst (λ os. AllTyped lens os (vertices_of (count m.every ∷ (map (keep l) (numbers_below q) ++ body l us ∷ [])))) (sym outs-inside) typed-inside,
      sym
          (ap (λ os. map (source_length lens os) (map (Of (suc q)) (numbers_below q))) outs-inside
          ∙ map_map len (Of (suc q)) (numbers_below q)
          ∙ map_below (λ p. len (Of (suc q) p)) (λ p. slice_index_or l.outs p 0) q (λ p lt. len-body p)
          ∙ all_at l.outs q refl),
    ),
  )

pub outs-made : (mark : ℕ → Option Mark) (us : Vertices) → outs_of (all_periods mark us) ≡ outs_of us
outs-made mark no_vertices = refl
outs-made mark (and_vertex (vertex l vs) us) = ap₂ (λ o os. o ∷ os) (here (mark 0)) (outs-made (λ r. mark (suc r)) us)
  where
    here : (o : Option Mark) → (label_of (period_by o (vertex l vs))).outs ≡ l.outs
    here None = refl
    here (Some m) = refl

pub typed-made : (mark : ℕ → Option Mark) (own : List ℕ) (outs : List (List ℕ)) (us : Vertices) → AreMarked mark us → AllTyped own outs us → AllTyped own outs (all_periods mark us)
typed-made mark own outs no_vertices may h = tt
typed-made mark own outs (and_vertex (vertex l vs) us) may h = both (mark 0) may.0 (all_periods (λ r. mark (suc r)) us) (typed-made (λ r. mark (suc r)) own outs us may.1 h.1)
  where
    both : (o : Option Mark) → MayHave o l → (ws : Vertices) → AllTyped own outs ws → AllTyped own outs (and_vertex (period_by o (vertex l vs)) ws)
    both None k ws rest = (h.0, rest)
    both (Some m) k ws rest = ((tt, typed-period m l vs k (map (source_length own outs) l.ins) (long_map (source_length own outs) l.ins) h.0.1), rest)
