-- The words of a program by how many sequences wait for each buffer, and by what is sent over each medium.
use Rattle.std.proofs.Common.{
  ◌≡◌,
  ℕ,
  zero,
  suc,
  ◌+◌,
  ◌*◌,
  ◌<◌,
  ◌⊎◌,
  Bool,
  true,
  false,
  ◌&&◌,
  ◌||◌,
  not,
  cond,
  max,
  nat_eq,
  get_or,
  List,
  [],
  ◌∷◌,
  ◌++◌,
  length,
  map,
  Option,
  Some,
  None,
  refl,
  sym,
  ap,
  inl,
  inr,
  arith,
  ◌∙◌,
  eq-eqb,
}
use Rattle.std.specs.Prelude.{slice_get}
use Rattle.std.specs.List.{list_any, filter, sum_by}
use Rattle.std.proofs.lemmas.Bool.{false≢true, eqb-true, ne_eqb, cases_eq}
use Rattle.std.proofs.lemmas.Option.{same_Some, slice_get_within}
use Rattle.std.proofs.lemmas.List.Sums.{sum_by-cons}
use Rattle.sequence_build_laws.specs.declared.Seq.{Seq}
use Rattle.sequence_build_laws.proofs.Copies.{same_bool}
use Rattle.sequence_build_laws.specs.Owners.{sum_below}
use Rattle.sequence_build_laws.proofs.InterleavingSums.{same_below}
use Rattle.sequence_build_laws.specs.declared.Instr.{Instr}
use Rattle.sequence_build_laws.specs.declared.Instr.TheVariants.{Sync}
use Rattle.sequence_build_laws.specs.declared.Buffer.{Buffer}
use Rattle.sequence_build_laws.specs.declared.SeqCode.{SeqCode}
use Rattle.sequence_build_laws.specs.declared.Program.{Program}
use Rattle.sequence_build_laws.specs.Blocks.{blocks}
use Rattle.sequence_build_laws.specs.Instructions.{reads, writes, Reader, readers_from, waits_for, len_in}
use Rattle.sequence_build_laws.specs.MicroSteps.{is_on, sent_len, longest_sent, longest_on}
use Rattle.sequence_build_laws.proofs.Expanding.{blocks_length}
use Rattle.sequence_build_laws.proofs.MicroCounts.{first_off}
use Rattle.sequence_build_laws.proofs.Reading.{any_at, any_of, from_readers, in_all}
use Rattle.sequence_build_laws.specs.Serial.{Step, step, projection, codes}
use Rattle.sequence_build_laws.proofs.Lists.{get_some}
use Rattle.sequence_build_laws.proofs.Guards.{in_blocks}
use Rattle.sequence_build.specs.Counted.{buffer_sum}
use Rattle.sequence_build.specs.Touched.{reads_in, writes_in, readers_in}

any-projected : (p : Instr → Bool) (s : ℕ) (xs : List Step) → list_any p (projection xs s) ≡ list_any (λ (x : Step). nat_eq x.sequence s && p x.instr) xs
any-projected p s [] = refl
any-projected p s (x ∷ xs) = by (nat_eq x.sequence s) (any-projected p s xs)
  where
    by : (b : Bool) → list_any p (projection xs s) ≡ list_any (λ (x : Step). nat_eq x.sequence s && p x.instr) xs
        → list_any p (map (λ (y : Step). y.instr) (cond b (x ∷ filter (λ (y : Step). nat_eq y.sequence s) xs) (filter (λ (y : Step). nat_eq y.sequence s) xs)))
        ≡ ((b && p x.instr) || list_any (λ (x : Step). nat_eq x.sequence s && p x.instr) xs)
    by true e = ap (λ (t : Bool). p x.instr || t) e
    by false e = e

-- the program of these steps, without semaphores
module _ (steps : List Step) where
  abbrev pub plain_codes : ℕ → List Seq → List SeqCode
  plain_codes n qs = codes (λ _. []) (projection steps) n qs

  abbrev waiting : ℕ → ℕ → Bool
  waiting b s = reads_in steps b s && not (writes_in steps b s)

  waits_are : (b n : ℕ) (q : Seq) → waits_for b (record { seq = q; prologue = []; turn = projection steps n }) ≡ waiting b n
  waits_are b n q = λ i. any-projected (reads b) n steps i && not (any-projected (writes b) n steps i)

  abbrev one : ℕ → ℕ → ℕ
  one b s = cond (waiting b s) 1 0

  readers_many : (b n : ℕ) (qs : List Seq) → length (readers_from n (plain_codes n qs) b) ≡ sum_below (λ i. one b (n + i)) (length qs)
  readers_many b n [] = refl
  readers_many b n (q ∷ qs) =
      by (waits_for b (record { seq = q; prologue = []; turn = projection steps n })) (readers_from (suc n) (plain_codes (suc n) qs) b)
      ∙ (λ i. cond (waits_are b n q i) 1 0 +
      (readers_many b (suc n) qs ∙ same_below (λ i. one b (suc n + i)) (λ i. one b (n + suc i)) (length qs)
      (λ k l. ap (one b) (let z : suc n + k ≡ n + suc k = omega arith in z))) i)
      ∙ ap (λ (k : ℕ). one b k + sum_below (λ i. one b (n + suc i)) (length qs)) (let z : n ≡ n + 0 = omega arith in z)
      ∙ sym (first_off (λ i. one b (n + i)) (length qs))
    where
      by : (t : Bool) (l : List Reader) → length (cond t (record { buffer = b; sequence = n } ∷ l) l) ≡ cond t 1 0 + length l
      by true l = omega arith
      by false l = omega arith

  pub readers_here : (b : ℕ) (qs : List Seq) → length (readers_from 0 (plain_codes 0 qs) b) ≡ readers_in steps (length qs) b
  readers_here b qs = readers_many b 0 qs ∙ same_below (λ i. one b (0 + i)) (one b) (length qs) (λ k l. ap (one b) (let z : 0 + k ≡ k = omega arith in z))

  pub pairs_many : (qs : List Seq) (n : ℕ) → length (blocks (readers_from 0 (plain_codes 0 qs)) n) ≡ sum_below (readers_in steps (length qs)) n
  pairs_many qs n = blocks_length (readers_from 0 (plain_codes 0 qs)) (readers_in steps (length qs)) n (λ b. readers_here b qs)

  -- a pair guards a buffer where some sequence waits for it
  pub guarded_here : (qs : List Seq) (n b : ℕ) → b < n → list_any (λ (r : Reader). nat_eq r.buffer b) (blocks (readers_from 0 (plain_codes 0 qs)) n) ≡ not (nat_eq (readers_in steps (length qs) b) 0)
  guarded_here qs n b l =
      same_bool (list_any (λ (r : Reader). nat_eq r.buffer b) (blocks (readers_from 0 cs) n)) (not (nat_eq (length (readers_from 0 cs b)) 0)) there back
      ∙ ap (λ (k : ℕ). not (nat_eq k 0)) (readers_here b qs)
    where
      cs : List SeqCode
      cs = plain_codes 0 qs

      there : list_any (λ (r : Reader). nat_eq r.buffer b) (blocks (readers_from 0 (plain_codes 0 qs)) n) ≡ true → not (nat_eq (length (readers_from 0 (plain_codes 0 qs) b)) 0) ≡ true
      there t =
          let k = any_of (λ (r : Reader). nat_eq r.buffer b) (blocks (readers_from 0 (plain_codes 0 qs)) n) t in
          let h = in_blocks (readers_from 0 (plain_codes 0 qs)) n k.0 k.1 k.2 in
          let w = from_readers 0 (plain_codes 0 qs) h.block h.at k.1 h.stands in
          let own : h.block ≡ b = sym (ap (λ (r : Reader). r.buffer) w.is) ∙ eqb-true k.1.buffer b k.3 in
          let low = slice_get_within (readers_from 0 (plain_codes 0 qs) b) h.at k.1 (ap (λ (c : ℕ). slice_get (readers_from 0 (plain_codes 0 qs) c) h.at) (sym own) ∙ h.stands) in
          ap not (ne_eqb (length (readers_from 0 (plain_codes 0 qs) b)) 0 (λ e. omega arith))

      back : not (nat_eq (length (readers_from 0 (plain_codes 0 qs) b)) 0) ≡ true → list_any (λ (r : Reader). nat_eq r.buffer b) (blocks (readers_from 0 (plain_codes 0 qs)) n) ≡ true
      back t = elim (cases_eq (length (readers_from 0 (plain_codes 0 qs) b)) 0) [
        | inl z ↦ absurd (false≢true (sym (ap not (eq-eqb (length (readers_from 0 (plain_codes 0 qs) b)) 0 z)) ∙ t))
        | inr z ↦ (let r = get_some (readers_from 0 (plain_codes 0 qs) b) 0 (omega arith) in
            let w = from_readers 0 (plain_codes 0 qs) b 0 r.0 r.1 in
            let i = in_all (readers_from 0 (plain_codes 0 qs)) n b 0 r.0 l r.1 in
            any_at (λ (r : Reader). nat_eq r.buffer b) (blocks (readers_from 0 (plain_codes 0 qs)) n) i.0 r.0 i.1 (eq-eqb r.0.buffer b (ap (λ (r : Reader). r.buffer) w.is)))
      ]

-- the buffers' elements in all their places, by number
pub buffer_sum_is : (depth : ℕ) (ns : List ℕ) (xs : List Buffer) → length ns ≡ length xs → buffer_sum depth ns xs
    ≡ sum_below (λ b. cond (nat_eq (get_or ns b 0) 0) 1 depth * len_in (slice_get xs b)) (length xs)
buffer_sum_is depth [] [] e = refl
buffer_sum_is depth [] (x ∷ xs) e = absurd (omega arith)
buffer_sum_is depth (n ∷ ns) [] e = absurd (omega arith)
buffer_sum_is depth (n ∷ ns) (x ∷ xs) e =
    ap (λ (k : ℕ). cond (nat_eq n 0) 1 depth * x.len + k) (buffer_sum_is depth ns xs (omega arith))
    ∙ sym (first_off (λ b. cond (nat_eq (get_or (n ∷ ns) b 0) 0) 1 depth * len_in (slice_get (x ∷ xs) b)) (length xs))

pub sum_is : (ns : List ℕ) → sum_by (λ n. n) ns ≡ sum_below (λ b. get_or ns b 0) (length ns)
sum_is [] = refl
sum_is (n ∷ ns) = sum_by-cons (λ n. n) n ns ∙ ap (λ (k : ℕ). n + k) (sum_is ns) ∙ sym (first_off (λ b. get_or (n ∷ ns) b 0) (length ns))

-- the medium of a sequence, of which the first has number n
abbrev pub medium_from : ℕ → List Seq → ℕ → Option ℕ
medium_from n [] s = None
medium_from n (q ∷ qs) s = cond (nat_eq s n) q.medium (medium_from (suc n) qs s)

pub medium_is : (n i s : ℕ) (qs : List Seq) (q : Seq) → slice_get qs i ≡ Some q → s ≡ n + i → medium_from n qs s ≡ q.medium
medium_is n i s [] q e h = absurd cc
medium_is n zero s (r ∷ qs) q e h = (λ j. cond (eq-eqb s n (let z : s ≡ n = omega arith in z) j) r.medium (medium_from (suc n) qs s)) ∙ ap (λ (r : Seq). r.medium) (same_Some r q e)
medium_is n (suc i) s (r ∷ qs) q e h = (λ j. cond (ne_eqb s n (λ z. omega arith) j) r.medium (medium_from (suc n) qs s)) ∙ medium_is (suc n) i s qs q e (omega arith)

pub nothing_sent : (b : Bool) → ◌≡◌ {A = ℕ} (cond b 0 0) 0
nothing_sent true = refl
nothing_sent false = refl

max_first : (o : Bool) (a l r : ℕ) → max (cond o (max a l) 0) r ≡ max (cond o a 0) (max (cond o l 0) r)
max_first true a l r = omega arith
max_first false a l r = omega arith

max_later : (a w r : ℕ) → max a (max w r) ≡ max w (max a r)
max_later a w r = omega arith

-- The longest that these steps send over medium m.
module _ (p : Program) (m : ℕ) where
  abbrev pub step_len : (ℕ → Option ℕ) → Step → ℕ
  step_len medium x = cond (is_on m (medium x.sequence)) (sent_len p x.instr) 0

  abbrev pub longest_step : (ℕ → Option ℕ) → List Step → ℕ
  longest_step medium [] = 0
  longest_step medium (x ∷ xs) = max (step_len medium x) (longest_step medium xs)

  pub longest_step-append : (medium : ℕ → Option ℕ) (xs ys : List Step) → longest_step medium (xs ++ ys) ≡ max (longest_step medium xs) (longest_step medium ys)
  longest_step-append medium [] ys = omega arith
  longest_step-append medium (x ∷ xs) ys = ap (max (step_len medium x)) (longest_step-append medium xs ys)
      ∙ (let a = step_len medium x in let b = longest_step medium xs in let c = longest_step medium ys in omega arith)

  none_sent : (n : ℕ) (qs : List Seq) → longest_on p (codes (λ _. []) (projection []) n qs) m ≡ 0
  none_sent n [] = refl
  none_sent n (q ∷ qs) = (λ i. max (nothing_sent (is_on m q.medium) i) (none_sent (suc n) qs i))

  -- a step of an earlier sequence changes nothing
  not_here : (n : ℕ) (qs : List Seq) (x : Step) (xs : List Step) → x.sequence < n → longest_on p (codes (λ _. []) (projection (x ∷ xs)) n qs) m ≡ longest_on p (codes (λ _. []) (projection xs) n qs) m
  not_here n [] x xs l = refl
  not_here n (q ∷ qs) x xs l =
      λ i. max (cond (is_on m q.medium)
      (longest_sent p (map (λ (y : Step). y.instr)
      (cond (ne_eqb x.sequence n (λ e. omega arith) i) (x ∷ filter (λ (y : Step). nat_eq y.sequence n) xs)
      (filter (λ (y : Step). nat_eq y.sequence n) xs)))) 0)
      (not_here (suc n) qs x xs (omega arith) i)

  one_step : (n : ℕ) (qs : List Seq) (x : Step) (xs : List Step) → longest_on p (codes (λ _. []) (projection (x ∷ xs)) n qs) m
      ≡ max (step_len (medium_from n qs) x) (longest_on p (codes (λ _. []) (projection xs) n qs) m)
  one_step n [] x xs = refl
  one_step n (q ∷ qs) x xs = by (cases_eq x.sequence n) (one_step (suc n) qs x xs)
    where
      loops : Bool → List Instr
      loops b = map (λ (y : Step). y.instr) (cond b (x ∷ filter (λ (y : Step). nat_eq y.sequence n) xs) (filter (λ (y : Step). nat_eq y.sequence n) xs))

      by : (x.sequence ≡ n) ⊎ (x.sequence ≡ n → ⊥)
          → longest_on p (codes (λ _. []) (projection (x ∷ xs)) (suc n) qs) m ≡ max (step_len (medium_from (suc n) qs) x) (longest_on p (codes (λ _. []) (projection xs) (suc n) qs) m)
          → longest_on p (codes (λ _. []) (projection (x ∷ xs)) n (q ∷ qs)) m ≡ max (step_len (medium_from n (q ∷ qs)) x) (longest_on p (codes (λ _. []) (projection xs) n (q ∷ qs)) m)
      by (inl e) r =
          let t = eq-eqb x.sequence n e in
          (λ i. max (cond (is_on m q.medium)
          (longest_sent p (map (λ (y : Step). y.instr)
          (cond (t i) (x ∷ filter (λ (y : Step). nat_eq y.sequence n) xs) (filter (λ (y : Step). nat_eq y.sequence n) xs)))) 0)
          (not_here (suc n) qs x xs (omega arith) i))
          ∙ max_first (is_on m q.medium) (sent_len p x.instr) (longest_sent p (projection xs n)) (longest_on p (codes (λ _. []) (projection xs) (suc n) qs) m)
          ∙ (λ i. max (cond (is_on m (cond (sym t i) q.medium (medium_from (suc n) qs x.sequence))) (sent_len p x.instr) 0) (longest_on p (codes (λ _. []) (projection xs) n (q ∷ qs)) m))
      by (inr e) r =
          let t = ne_eqb x.sequence n e in
          (λ i. max (cond (is_on m q.medium)
          (longest_sent p (map (λ (y : Step). y.instr)
          (cond (t i) (x ∷ filter (λ (y : Step). nat_eq y.sequence n) xs) (filter (λ (y : Step). nat_eq y.sequence n) xs)))) 0) (r i))
          ∙ max_later (cond (is_on m q.medium) (longest_sent p (projection xs n)) 0) (step_len (medium_from (suc n) qs) x) (longest_on p (codes (λ _. []) (projection xs) (suc n) qs) m)
          ∙ (λ i. max (cond (is_on m (cond (sym t i) q.medium (medium_from (suc n) qs x.sequence))) (sent_len p x.instr) 0) (longest_on p (codes (λ _. []) (projection xs) n (q ∷ qs)) m))

  pub longest_is : (qs : List Seq) (xs : List Step) → longest_on p (codes (λ _. []) (projection xs) 0 qs) m ≡ longest_step (medium_from 0 qs) xs
  longest_is qs [] = none_sent 0 qs
  longest_is qs (x ∷ xs) = one_step 0 qs x xs ∙ ap (max (step_len (medium_from 0 qs) x)) (longest_is qs xs)

  -- nothing is sent by waits
  pub waits_send : (medium : ℕ → Option ℕ) (o r : ℕ) (ns : List ℕ) → longest_step medium (map (λ n. step n (Sync o r)) ns) ≡ 0
  waits_send medium o r [] = refl
  waits_send medium o r (n ∷ ns) = (λ i. max (nothing_sent (is_on m (medium n)) i) (waits_send medium o r ns i))
