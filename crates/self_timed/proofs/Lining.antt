-- The last ends of lines, as acts end one after another.
use Rattle.std.proofs.Common.{◌≡◌, ◌≢◌, ℕ, zero, suc, ◌+◌, ◌<◌, Bool, true, false, cond, nat_eq, List, [], ◌∷◌, ◌++◌, length, map, take, Option, Some, None, refl, sym, ap, arith, ◌∙◌, eq-eqb}
use Rattle.std.specs.Prelude.{slice_get, slice_index_or, slice_set}
use Rattle.std.proofs.lemmas.Bool.{false≢true, eqb-true}
use Rattle.std.proofs.lemmas.List.{length-set, get_or-set_same, get_or-set_other, length-take-le}
use Rattle.std.proofs.lemmas.Option.{slice_get_within}
use Rattle.sequence_build_laws.specs.Acts.{Act, carry, run}
use Rattle.sequence_build_laws.specs.Tight.{same_line}
use Rattle.sequence_build_laws.specs.MicroSteps.{first_of}
use Rattle.sequence_build_laws.proofs.Lists.{take_next}
use Rattle.self_timed.specs.Dates.{Event, last_where, latest_of, in_line}
use Rattle.self_timed.specs.declared.line.Line.{Line}
use Rattle.self_timed.specs.declared.line.Line.TheVariants.{Operator, Medium}
use Rattle.self_timed.specs.declared.line.Ends.{Ends}
use Rattle.self_timed.specs.Lines.{AreTables, IsLine, line_of, last_in, noted}
use Rattle.syn_base.specs.Numbers.{greatest}

pub tables_kept : (ends : Ends) (l : Line) (date : ℕ) → AreTables ends → AreTables (noted ends l date)
tables_kept ends (Operator o) date t = record { operators = length-set ends.operators o date ∙ t.operators; media = t.media }
tables_kept ends (Medium m) date t = record { operators = t.operators; media = length-set ends.media m date ∙ t.media }

-- one entry of a table
entry_set : (es : List ℕ) (k n date : ℕ) → k < length es → (b : Bool) → nat_eq k n ≡ b → slice_index_or (slice_set es k date) n 0 ≡ cond b date (slice_index_or es n 0)
entry_set es k n date l true h = ap (slice_index_or (slice_set es k date) n) refl ∙ ap (λ (m : ℕ). slice_index_or (slice_set es k date) m 0) (sym (eqb-true k n h)) ∙ get_or-set_same es k date 0 l
entry_set es k n date l false h = let other : n ≢ k = λ q. false≢true (sym h ∙ eq-eqb k n (sym q)) in get_or-set_other es k n date 0 other

-- the act x has ended at the date: z's line tells so, where it is the same one
pub noted_line : (ends : Ends) → AreTables ends → (z x : Act) → IsLine (line_of x) → (date : ℕ)
    → last_in (noted ends (line_of x) date) (line_of z) ≡ cond (same_line z x) date (last_in ends (line_of z))
noted_line ends t (run d) (run b) l date = entry_set ends.operators b.operator d.operator date (let q = t.operators in omega arith) (nat_eq b.operator d.operator) refl
noted_line ends t (carry c) (carry d) l date = entry_set ends.media d.medium c.medium date (let q = t.media in omega arith) (nat_eq d.medium c.medium) refl
noted_line ends t (run d) (carry c) l date = refl
noted_line ends t (carry c) (run d) l date = refl

last_where-push : {A : Type 0} (p : A → Bool) (n : ℕ) (ys : List A) (y : A) → last_where p n (ys ++ y ∷ []) ≡ cond (p y) (Some (n + length ys)) (last_where p n ys)
last_where-push p n [] y = let q : n ≡ n + 0 = omega arith in ap (λ (m : ℕ). cond (p y) (Some m) None) q
last_where-push p n (x ∷ ys) y = by (p y) (last_where-push p (suc n) ys y)
  where
    by : (b : Bool) → last_where p (suc n) (ys ++ y ∷ []) ≡ cond b (Some (suc n + length ys)) (last_where p (suc n) ys)
        → first_of (last_where p (suc n) (ys ++ y ∷ [])) (cond (p x) (Some n) None) ≡ cond b (Some (n + suc (length ys))) (first_of (last_where p (suc n) ys) (cond (p x) (Some n) None))
    by true h = let q : suc n + length ys ≡ n + suc (length ys) = omega arith in ap (λ (o : Option ℕ). first_of o (cond (p x) (Some n) None)) h ∙ ap (λ (m : ℕ). Some m) q
    by false h = ap (λ (o : Option ℕ). first_of o (cond (p x) (Some n) None)) h

module _ (xs : List Act) (ends : ℕ → ℕ → ℕ) where
  -- the end of the last act before act i in the line of z, or of its last act in the reaction before
  abbrev pub last_end : ℕ → ℕ → Act → ℕ
  last_end k i z = greatest (map (λ (e : Event). ends e.reaction e.act) (in_line xs k i z))

  abbrev end_of_latest : ℕ → Option ℕ → Option ℕ → ℕ
  end_of_latest k o l = greatest (map (λ (e : Event). ends e.reaction e.act) (latest_of k o l))

  pub last_end_next : (k i : ℕ) (x z : Act) → slice_get xs i ≡ Some x → last_end k (suc i) z ≡ cond (same_line z x) (ends k i) (last_end k i z)
  last_end_next k i x z e =
      ap (λ (o : Option ℕ). end_of_latest k o (last_where (same_line z) 0 xs)) (ap (last_where (same_line z) 0) (take_next xs i x e) ∙ last_where-push (same_line z) 0 (take i xs) x)
      ∙ by (same_line z x)
    where
      place : 0 + length (take i xs) ≡ i
      place = let l = slice_get_within xs i x e in let z = length-take-le i xs (omega arith) in omega arith

      by : (b : Bool) → end_of_latest k (cond b (Some (0 + length (take i xs))) (last_where (same_line z) 0 (take i xs))) (last_where (same_line z) 0 xs) ≡ cond b (ends k i) (last_end k i z)
      by true = let z = ap (ends k) place in omega arith
      by false = refl

  -- at the end of a reaction, and at the start of the next one
  pub last_end_over : (k : ℕ) (z : Act) → take (length xs) xs ≡ xs → last_end k (length xs) z ≡ last_end (suc k) 0 z
  last_end_over k z all = ap (λ (ys : List Act). end_of_latest k (last_where (same_line z) 0 ys) (last_where (same_line z) 0 xs)) all ∙ by k (last_where (same_line z) 0 xs)
    where
      by : (k : ℕ) (o : Option ℕ) → end_of_latest k o o ≡ end_of_latest (suc k) None o
      by k (Some q) = refl
      by zero None = refl
      by (suc k) None = refl
