-- The sequences of a program, operator by operator: a computation sequence, and then its communicators by the number of the medium.
use Rattle.std.proofs.Common.{◌≡◌, ℕ, zero, suc, ◌+◌, ◌≤◌, Bool, not, true, false, nat_le, nat_lt, if◌then◌else◌, List, [], ◌∷◌, ◌++◌, length, map, drop, refl, sym, ap, ap₂, arith, ◌∙◌, append-nil}
use Rattle.std.specs.Prelude.{slice_index_or}
use Rattle.std.specs.List.{list_all, flat_map, range_with_len}
use Rattle.std.proofs.lemmas.Bool.{and_parts, and_from, lt-ltb, le-leb, leb-true, ltb-true, ne_eqb}
use Rattle.std.proofs.lemmas.List.Folds.{list_all-append, list_all-map}
use Rattle.std.proofs.lemmas.List.Concat.{flat_map-cons, flat_map-append}
use Rattle.syn_base.specs.Bytes.{Bytes}
use Rattle.sequence_build_laws.specs.declared.Medium.{Medium}
use Rattle.sequence_build_laws.specs.declared.Seq.{Seq}
use Rattle.sequence_build_laws.specs.Archi.{ascends_from, stands_at}
use Rattle.sequence_build_laws.specs.Sequences.{computation, communicator, communicators, sequences_of}
use Rattle.sequence_build_laws.specs.declared.SeqCode.{SeqCode}
use Rattle.code_laws.proofs.Threads.{AreThreads, is_elsewhere, flat_none}

-- the numbers of the media at which an operator stands, where the first has number k
abbrev pub stood : ℕ → ℕ → List Medium → List ℕ
stood o k [] = []
stood o k (m ∷ media) = if stands_at m o then k ∷ stood o (k + 1) media else stood o (k + 1) media

stood_sequences : (o k : ℕ) (media : List Medium) → communicators o k media ≡ map (communicator o) (stood o k media)
stood_sequences o k [] = refl
stood_sequences o k (m ∷ media) = by (stands_at m o) (stood_sequences o (k + 1) media)
  where
    by : (b : Bool) → communicators o (k + 1) media ≡ map (communicator o) (stood o (k + 1) media)
        → (if b then communicator o k ∷ communicators o (k + 1) media else communicators o (k + 1) media) ≡ map (communicator o) (if b then k ∷ stood o (k + 1) media else stood o (k + 1) media)
    by true e = ap (λ (l : List Seq). communicator o k ∷ l) e
    by false e = e

pub stood_rise : (o k least : ℕ) (media : List Medium) → least ≤ k → ascends_from least (stood o k media) ≡ true
stood_rise o k least [] l = refl
stood_rise o k least (m ∷ media) l = by (stands_at m o) (stood_rise o (k + 1) (k + 1) media (omega arith)) (stood_rise o (k + 1) least media (omega (arith, l)))
  where
    by : (b : Bool) → ascends_from (k + 1) (stood o (k + 1) media) ≡ true → ascends_from least (stood o (k + 1) media) ≡ true
        → ascends_from least (if b then k ∷ stood o (k + 1) media else stood o (k + 1) media) ≡ true
    by true e f = and_from (nat_le least k) (ascends_from (k + 1) (stood o (k + 1) media)) (le-leb least k l) e
    by false e f = f

pub stood_low : (o k n : ℕ) (media : List Medium) → k + length media ≤ n → list_all (λ (m : ℕ). nat_lt m n) (stood o k media) ≡ true
stood_low o k n [] l = refl
stood_low o k n (m ∷ media) l = by (stands_at m o) (stood_low o (k + 1) n media (omega (arith, l)))
  where
    by : (b : Bool) → list_all (λ (m : ℕ). nat_lt m n) (stood o (k + 1) media) ≡ true → list_all (λ (m : ℕ). nat_lt m n) (if b then k ∷ stood o (k + 1) media else stood o (k + 1) media) ≡ true
    by true e = and_from (nat_lt k n) (list_all (λ (m : ℕ). nat_lt m n) (stood o (k + 1) media)) (lt-ltb k n (omega (arith, l))) e
    by false e = e

-- one operator's sequences, before those of others
pub record Group (o : ℕ) (ms : List ℕ) (qs : List SeqCode) (later : List Seq) : Type 0 where
  pub main : SeqCode
  pub threads : List SeqCode
  pub rest : List SeqCode
  pub cut : qs ≡ main ∷ (threads ++ rest)
  pub is_main : main.seq ≡ computation o
  pub are_threads : AreThreads o threads ms
  pub others : map (λ (q : SeqCode). q.seq) rest ≡ later

record Threaded (o : ℕ) (ms : List ℕ) (qs : List SeqCode) (later : List Seq) : Type 0 where
  pub threads : List SeqCode
  pub rest : List SeqCode
  pub cut : qs ≡ threads ++ rest
  pub are_threads : AreThreads o threads ms
  pub others : map (λ (q : SeqCode). q.seq) rest ≡ later

same_head : (x y : Seq) (xs ys : List Seq) → x ∷ xs ≡ y ∷ ys → x ≡ y
same_head x y xs ys e = ap (λ (l : List Seq). slice_index_or l 0 x) e

same_tail : (x y : Seq) (xs ys : List Seq) → x ∷ xs ≡ y ∷ ys → xs ≡ ys
same_tail x y xs ys e = ap (drop 1) e

threads_of : (o : ℕ) (ms : List ℕ) (qs : List SeqCode) (later : List Seq) → map (λ (q : SeqCode). q.seq) qs ≡ map (communicator o) ms ++ later → Threaded o ms qs later
threads_of o [] qs later e = record { threads = []; rest = qs; cut = refl; are_threads = tt; others = e }
threads_of o (m ∷ ms) [] later e = absurd (cc)
threads_of o (m ∷ ms) (q ∷ qs) later e =
    let more = threads_of o ms qs later (same_tail q.seq (communicator o m) (map (λ (q : SeqCode). q.seq) qs) (map (communicator o) ms ++ later) e) in
    record {
      threads = q ∷ more.threads;
      rest = more.rest;
      cut = ap (λ (l : List SeqCode). q ∷ l) more.cut;
      are_threads = (same_head q.seq (communicator o m) (map (λ (q : SeqCode). q.seq) qs) (map (communicator o) ms ++ later) e, more.are_threads);
      others = more.others;
    }

pub group : (o : ℕ) (media : List Medium) (qs : List SeqCode) (later : List Seq) → map (λ (q : SeqCode). q.seq) qs ≡ sequences_of media o ++ later → Group o (stood o 0 media) qs later
group o media [] later e = absurd (cc)
group o media (q ∷ qs) later e =
    let more = threads_of o (stood o 0 media) qs later
    (same_tail q.seq (computation o) (map (λ (q : SeqCode). q.seq) qs) (communicators o 0 media ++ later) e ∙ ap (λ (l : List Seq). l ++ later) (stood_sequences o 0 media)) in
    record {
      main = q;
      threads = more.threads;
      rest = more.rest;
      cut = ap (λ (l : List SeqCode). q ∷ l) more.cut;
      is_main = same_head q.seq (computation o) (map (λ (q : SeqCode). q.seq) qs) (communicators o 0 media ++ later) e;
      are_threads = more.are_threads;
      others = more.others;
    }

-- the sequences of the operators from o on
abbrev pub seqs_from : List Medium → ℕ → ℕ → List Seq
seqs_from media o n = flat_map (sequences_of media) (range_with_len o n)

communicators_at : (o k : ℕ) (media : List Medium) (test : Seq → Bool) → ((m : ℕ) → test (communicator o m) ≡ true) → list_all test (communicators o k media) ≡ true
communicators_at o k [] test h = refl
communicators_at o k (m ∷ media) test h = by (stands_at m o) (communicators_at o (k + 1) media test h)
  where
    by : (b : Bool) → list_all test (communicators o (k + 1) media) ≡ true → list_all test (if b then communicator o k ∷ communicators o (k + 1) media else communicators o (k + 1) media) ≡ true
    by true e = and_from (test (communicator o k)) (list_all test (communicators o (k + 1) media)) (h k) e
    by false e = e

from_least : (media : List Medium) (n o least : ℕ) → least ≤ o → list_all (λ (s : Seq). nat_le least s.operator) (seqs_from media o n) ≡ true
from_least media zero o least l = refl
from_least media (suc n) o least l =
    let test : Seq → Bool = λ (s : Seq). nat_le least s.operator in
    let own = le-leb least o l in
    ap (list_all test) (flat_map-cons (sequences_of media) o (range_with_len (o + 1) n))
    ∙ list_all-append test (sequences_of media o) (seqs_from media (o + 1) n)
    ∙ and_from (list_all test (sequences_of media o)) (list_all test (seqs_from media (o + 1) n))
    (and_from (test (computation o)) (list_all test (communicators o 0 media)) own (communicators_at o 0 media test (λ m. own)))
    (from_least media n (o + 1) least (omega (arith, l)))

-- and there are this many operators
pub below_bound : (media : List Medium) (n o bound : ℕ) → o + n ≤ bound → list_all (λ (s : Seq). nat_lt s.operator bound) (seqs_from media o n) ≡ true
below_bound media zero o bound l = refl
below_bound media (suc n) o bound l =
    let test : Seq → Bool = λ (s : Seq). nat_lt s.operator bound in
    let own = lt-ltb o bound (omega (arith, l)) in
    ap (list_all test) (flat_map-cons (sequences_of media) o (range_with_len (o + 1) n))
    ∙ list_all-append test (sequences_of media o) (seqs_from media (o + 1) n)
    ∙ and_from (list_all test (sequences_of media o)) (list_all test (seqs_from media (o + 1) n))
    (and_from (test (computation o)) (list_all test (communicators o 0 media)) own (communicators_at o 0 media test (λ m. own)))
    (below_bound media n (o + 1) bound (omega (arith, l)))

pub all_imply : {A : Type 0} (p q : A → Bool) → ((x : A) → p x ≡ true → q x ≡ true) → (xs : List A) → list_all p xs ≡ true → list_all q xs ≡ true
all_imply p q each [] h = refl
all_imply p q each (x ∷ xs) h = let both = and_parts (p x) (list_all p xs) h in and_from (q x) (list_all q xs) (each x both.0) (all_imply p q each xs both.1)

-- those of later operators are elsewhere, and so are those of earlier ones
pub later_elsewhere : (media : List Medium) (n o : ℕ) (qs : List SeqCode) → map (λ (q : SeqCode). q.seq) qs ≡ seqs_from media (o + 1) n → list_all (is_elsewhere o) qs ≡ true
later_elsewhere media n o qs e =
    all_imply (λ (q : SeqCode). nat_le (o + 1) q.seq.operator) (is_elsewhere o) (λ q h. let l = leb-true (o + 1) q.seq.operator h in ap not (ne_eqb q.seq.operator o (λ k. omega (arith, l, k)))) qs
    (sym (list_all-map (λ (s : Seq). nat_le (o + 1) s.operator) (λ (q : SeqCode). q.seq) qs)
    ∙ ap (list_all (λ (s : Seq). nat_le (o + 1) s.operator)) e ∙ from_least media n (o + 1) (o + 1) (omega arith))

abbrev pub is_earlier : ℕ → SeqCode → Bool
is_earlier o q = nat_lt q.seq.operator o

pub earlier_elsewhere : (o : ℕ) (qs : List SeqCode) → list_all (is_earlier o) qs ≡ true → list_all (is_elsewhere o) qs ≡ true
earlier_elsewhere o qs h = all_imply (is_earlier o) (is_elsewhere o) (λ q h. let l = ltb-true q.seq.operator o h in ap not (ne_eqb q.seq.operator o (λ k. omega (arith, l, k)))) qs h

-- one operator more
pub earlier_more : (o : ℕ) (qs : List SeqCode) → list_all (is_earlier o) qs ≡ true → list_all (is_earlier (o + 1)) qs ≡ true
earlier_more o qs h = all_imply (is_earlier o) (is_earlier (o + 1)) (λ q h. let l = ltb-true q.seq.operator o h in lt-ltb q.seq.operator (o + 1) (omega (arith, l))) qs h

pub own_earlier : (o : ℕ) (q : SeqCode) (s : Seq) → q.seq ≡ s → s.operator ≡ o → is_earlier (o + 1) q ≡ true
own_earlier o q s e f = let same : q.seq.operator ≡ o = ap (λ (x : Seq). x.operator) e ∙ f in lt-ltb q.seq.operator (o + 1) (omega (arith, same))

pub threads_earlier : (o : ℕ) (qs : List SeqCode) (ms : List ℕ) → AreThreads o qs ms → list_all (is_earlier (o + 1)) qs ≡ true
threads_earlier o [] [] h = refl
threads_earlier o [] (m ∷ ms) h = absurd h
threads_earlier o (q ∷ qs) [] h = absurd h
threads_earlier o (q ∷ qs) (m ∷ ms) h = and_from (is_earlier (o + 1) q) (list_all (is_earlier (o + 1)) qs) (own_earlier o q (communicator o m) h.0 refl) (threads_earlier o qs ms h.1)

-- A text of each sequence that is nothing for those elsewhere.
pub focused : (o : ℕ) (f : SeqCode → Bytes) (done : List SeqCode) (main : SeqCode) (threads rest : List SeqCode)
    → ((q : SeqCode) → is_elsewhere o q ≡ true → f q ≡ []) → list_all (is_elsewhere o) done ≡ true → list_all (is_elsewhere o) rest ≡ true
    → flat_map f (done ++ main ∷ (threads ++ rest)) ≡ f main ++ flat_map f threads
focused o f done main threads rest each front back =
    flat_map-append f done (main ∷ (threads ++ rest))
    ∙ ap₂ (λ (x y : Bytes). x ++ y) (flat_none f (is_elsewhere o) each done front)
    (flat_map-cons f main (threads ++ rest)
    ∙ ap (λ (x : Bytes). f main ++ x) (flat_map-append f threads rest ∙ ap (λ (x : Bytes). flat_map f threads ++ x) (flat_none f (is_elsewhere o) each rest back) ∙ append-nil (flat_map f threads)))
