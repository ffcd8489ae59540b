-- The micro-steps of acts, part by part.
use Rattle.std.proofs.Common.{◌≡◌, ℕ, suc, ◌+◌, ◌*◌, ◌<◌, Bool, true, false, cond, max, drop, get_or, List, [], ◌∷◌, ◌++◌, length, map, Some, None, refl, sym, ap, arith, ◌∙◌}
use Rattle.std.specs.List.{flat_map, sum_by}
use Rattle.std.proofs.lemmas.List.{append-nil, drop_more}
use Rattle.std.proofs.lemmas.List.Concat.{flat_map-append}
use Rattle.std.proofs.lemmas.List.Sums.{sum_by-cons, sum_by-append}
use Rattle.sequence_build_laws.specs.declared.Decision.{Decision}
use Rattle.sequence_build_laws.specs.declared.Transfer.{Transfer}
use Rattle.sequence_build_laws.specs.Acts.{Act, carry, run, acts_of, Copy, copy, read_by, made_by}
use Rattle.sequence_build_laws.specs.declared.Instr.TheVariants.{Call, Send, Recv, Sync}
use Rattle.sequence_build_laws.specs.declared.Program.{Program}
use Rattle.sequence_build_laws.specs.Instructions.{len_of}
use Rattle.sequence_build_laws.specs.Sizes.{plain_of}
use Rattle.sequence_build_laws.specs.Steps.{elements_in}
use Rattle.sequence_build_laws.specs.Serial.{Step, step, numbers_where, is_other}
use Rattle.sequence_build.specs.declared.site.Site.{Site}
use Rattle.sequence_build.specs.Counted.{carried_len, longest, step_micros}
use Rattle.sequence_build.specs.Plain.{numbering, sequence_of, steps_at, waits_from}
use Rattle.sequence_build.proofs.Adding.{acts-cons}

flat-sum : {A B : Type 0} (f : B → ℕ) (h : A → List B) (xs : List A) → sum_by f (flat_map h xs) ≡ sum_by (λ x. sum_by f (h x)) xs
flat-sum f h [] = refl
flat-sum f h (x ∷ xs) = sum_by-append f (h x) (flat_map h xs) ∙ ap (λ (n : ℕ). sum_by f (h x) + n) (flat-sum f h xs) ∙ sym (sum_by-cons (λ y. sum_by f (h y)) x xs)

map-sum : {A B : Type 0} (f : B → ℕ) (h : A → B) (xs : List A) → sum_by f (map h xs) ≡ sum_by (λ x. f (h x)) xs
map-sum f h [] = refl
map-sum f h (x ∷ xs) = sum_by-cons f (h x) (map h xs) ∙ ap (λ (n : ℕ). f (h x) + n) (map-sum f h xs) ∙ sym (sum_by-cons (λ y. f (h y)) x xs)

numbers_many : {A : Type 0} (test : A → Bool) (n : ℕ) (xs : List A) → length (numbers_where test n xs) ≡ sum_by (λ x. cond (test x) 1 0) xs
numbers_many test n [] = refl
numbers_many test n (x ∷ xs) = by (test x) (numbers_where test (suc n) xs) ∙ ap (λ (k : ℕ). cond (test x) 1 0 + k) (numbers_many test (suc n) xs) ∙ sym (sum_by-cons (λ y. cond (test y) 1 0) x xs)
  where
    by : (b : Bool) (l : List ℕ) → length (cond b (n ∷ l) l) ≡ cond b 1 0 + length l
    by true l = omega arith
    by false l = omega arith

module _ (p : Program) where
  waits_many : (o r : ℕ) (ns : List ℕ) → step_micros p (map (λ n. step n (Sync o r)) ns) ≡ length ns
  waits_many o r [] = refl
  waits_many o r (n ∷ ns) = sum_by-cons (λ (x : Step). plain_of p x.instr) (step n (Sync o r)) (map (λ n. step n (Sync o r)) ns) ∙ (let e = waits_many o r ns in omega arith)

  module _ (site : Site) where
    pub carry_is : (t : Transfer) → step_micros p (steps_at site (carry t))
        ≡ (2 + 2 * len_of p (numbering site (copy t.from t.source))) + (2 + 2 * len_of p (numbering site (copy t.to t.source))) + sum_by (λ q. cond (is_other t q) 1 0) site.sequences.now
    carry_is t =
        let sent = step (sequence_of site.sequences.now t.from (Some t.medium)) (Send (numbering site (copy t.from t.source)) t.to) in
        let received = step (sequence_of site.sequences.now t.to (Some t.medium)) (Recv (numbering site (copy t.to t.source)) t.from) in
        let a = sum_by-cons (λ (x : Step). plain_of p x.instr) sent (received ∷ waits_from t 0 site.sequences.now) in
        let b = sum_by-cons (λ (x : Step). plain_of p x.instr) received (waits_from t 0 site.sequences.now) in
        let c = waits_many t.from t.to (numbers_where (is_other t) 0 site.sequences.now) in
        let d = numbers_many (is_other t) 0 site.sequences.now in
        omega arith

    pub run_is : (d : Decision) → step_micros p (steps_at site (run d))
        ≡ elements_in p (map (numbering site) (read_by site.vertices.now (run d))) + elements_in p (map (numbering site) (made_by site.vertices.now (run d)))
    run_is d =
        let call = step (sequence_of site.sequences.now d.operator None)
        (Call d.op (map (numbering site) (read_by site.vertices.now (run d))) (map (numbering site) (made_by site.vertices.now (run d)))) in
        let a = sum_by-cons (λ (x : Step). plain_of p x.instr) call [] in omega arith

  pub carries_are : (f : Act → List Step) (ts : List Transfer) → step_micros p (flat_map f (map carry ts)) ≡ sum_by (λ t. step_micros p (f (carry t))) ts
  carries_are f ts = flat-sum (λ (x : Step). plain_of p x.instr) f (map carry ts) ∙ map-sum (λ x. step_micros p (f x)) carry ts

  pub decision_is : (f : Act → List Step) (d : Decision) → step_micros p (flat_map f (acts_of (d ∷ []))) ≡ step_micros p (flat_map f (map carry d.transfers)) + step_micros p (f (run d))
  decision_is f d =
      ap (step_micros p) (flat_map-append f (map carry d.transfers) (run d ∷ []) ∙ ap (λ (l : List Step). flat_map f (map carry d.transfers) ++ l) (append-nil (f (run d))))
      ∙ sum_by-append (λ (x : Step). plain_of p x.instr) (flat_map f (map carry d.transfers)) (f (run d))

  pub acts_are : (f : Act → List Step) (ds : List Decision) → step_micros p (flat_map f (acts_of ds)) ≡ sum_by (λ d. step_micros p (flat_map f (acts_of (d ∷ [])))) ds
  acts_are f [] = refl
  acts_are f (d ∷ ds) =
      ap (step_micros p) (ap (flat_map f) (acts-cons d ds) ∙ flat_map-append f (acts_of (d ∷ [])) (acts_of ds))
      ∙ sum_by-append (λ (x : Step). plain_of p x.instr) (flat_map f (acts_of (d ∷ []))) (flat_map f (acts_of ds))
      ∙ ap (λ (n : ℕ). step_micros p (flat_map f (acts_of (d ∷ []))) + n) (acts_are f ds)
      ∙ sym (sum_by-cons (λ e. step_micros p (flat_map f (acts_of (e ∷ [])))) d ds)

-- what is carried by decisions, one decision more
module _ (p : Program) (number : Copy → ℕ) (m : ℕ) where
  longest-append : (xs ys : List Act) → longest p number m (xs ++ ys) ≡ max (longest p number m xs) (longest p number m ys)
  longest-append [] ys = omega arith
  longest-append (x ∷ xs) ys = ap (max (carried_len p number m x)) (longest-append xs ys)
      ∙ (let a = carried_len p number m x in let b = longest p number m xs in let c = longest p number m ys in omega arith)

  longest_decision : (d : Decision) (ds : List Decision) → longest p number m (acts_of (d ∷ ds)) ≡ max (longest p number m (map carry d.transfers)) (longest p number m (acts_of ds))
  longest_decision d ds = longest-append (map carry d.transfers) (run d ∷ acts_of ds) ∙ ap (max (longest p number m (map carry d.transfers))) (let n = longest p number m (acts_of ds) in omega arith)

  pub wire_more : (ds : List Decision) (k : ℕ) (d : Decision) (one now new whole : ℕ) → k < length ds → d ≡ get_or ds k d → one ≡ longest p number m (map carry d.transfers) → new ≡ max one now
      → max now (longest p number m (acts_of (drop k ds))) ≡ whole → max new (longest p number m (acts_of (drop (k + 1) ds))) ≡ whole
  wire_more ds k d one now new whole l e h n w =
      let all : longest p number m (acts_of (drop k ds)) ≡ max (longest p number m (map carry d.transfers)) (longest p number m (acts_of (drop (k + 1) ds)))
      = ap (λ (xs : List Decision). longest p number m (acts_of xs)) (drop_more ds k d l)
      ∙ ap (λ (x : Decision). longest p number m (acts_of (x ∷ drop (k + 1) ds))) (sym e) ∙ longest_decision d (drop (k + 1) ds) in
      omega arith
