-- Where the lines of all processors were read, the whole is the program.
use Rattle.std.proofs.Common.{
  ◌≡◌,
  ℕ,
  ◌+◌,
  ◌<◌,
  ◌≤◌,
  ◌⊎◌,
  Bool,
  true,
  false,
  ◌||◌,
  if◌then◌else◌,
  cond,
  nat_eq,
  nat_lt,
  List,
  [],
  ◌∷◌,
  ◌++◌,
  length,
  map,
  Some,
  None,
  Ok,
  refl,
  sym,
  ap,
  ap₂,
  inl,
  inr,
  arith,
  ◌∙◌,
  append-nil,
}
use Rattle.std.specs.Prelude.{slice_get, slice_index_or}
use Rattle.std.specs.List.{list_all, count_by, range_with_len}
use Rattle.std.proofs.lemmas.Bool.{cases_lt, lt-ltb, eq-eqb}
use Rattle.std.proofs.lemmas.List.{length-map}
use Rattle.std.proofs.lemmas.List.FromFn.{fill_by_all}
use Rattle.std.proofs.lemmas.List.Sums.{sum_by-cons}
use Rattle.std.proofs.lemmas.Option.{get_or_from_slice_get}
use Rattle.text_lines.specs.Text.{lines_of}
use Rattle.syn_base.specs.Bytes.{Bytes}
use Rattle.sequence_build_laws.specs.Graph.{Graph}
use Rattle.sequence_build_laws.specs.Archi.{Architecture}
use Rattle.sequence_build_laws.specs.Sequences.{sequences}
use Rattle.sequence_build_laws.specs.declared.Buffer.{Buffer}
use Rattle.sequence_build_laws.specs.declared.SeqCode.{SeqCode}
use Rattle.sequence_build_laws.specs.declared.Program.{Program}
use Rattle.macro_code.specs.Text.{macro_code}
use Rattle.macro_code.specs.declared.numbered.Numbered.{Numbered}
use Rattle.macro_code.specs.declared.numbered.Size.{Size}
use Rattle.macro_code.specs.declared.fault.CodeCause.TheVariants.{BadLine}
use Rattle.macro_code.specs.ReadText.{
  Reading,
  start,
  operation_names,
  rest_of,
  whole,
  program_in,
  counted,
  first_misnumbered,
  misnumbered,
  is_outside,
  program_of,
  buffer_of,
  owner_of,
  limited,
  sized,
  no_size,
  at_place,
  place_of,
  is_among,
}
use Rattle.text_lines.specs.Refusals.{refused}
use Rattle.code_laws.proofs.ListPlaces.{got_some, all_there, counted as is_counted}
use Rattle.code_laws.proofs.Named.{AreNamed}
use Rattle.code_laws.proofs.Numbering.{numbers, all_on, all_once, all_none, all_length, found_at, numbered_right}
use Rattle.code_laws.proofs.Declared.{size_of}
use Rattle.code_laws.proofs.Processors.{IsPrintable, processors_read, outside, places_of, later_numbers}
use Rattle.syn_base.specs.Numbers.{lesser}

-- the owner of a pair and the size of a buffer, by number
abbrev pub owner : Program → ℕ → ℕ
owner p q = slice_index_or p.pairs q 0

abbrev no_buffer : Buffer
no_buffer = record { operator = 0; len = 0; depth = 0 }

abbrev pub size : Program → ℕ → Size
size p b = size_of (slice_index_or p.buffers b no_buffer)

among_counted : (b : ℕ) (ns : List ℕ) → 1 ≤ count_by (λ (k : ℕ). nat_eq k b) ns → is_among ns b ≡ true
among_counted b [] l = absurd (omega (arith, l))
among_counted b (n ∷ ns) l = by (nat_eq n b) refl (among_counted b ns)
  where
    by : (t : Bool) → nat_eq n b ≡ t → (1 ≤ count_by (λ (k : ℕ). nat_eq k b) ns → is_among ns b ≡ true) → (t || is_among ns b) ≡ true
    by true e again = refl
    by false e again =
        let c = sum_by-cons (λ (k : ℕ). cond (nat_eq k b) 1 0) n ns in
        let own : ◌≡◌ {A = ℕ} (cond (nat_eq n b) 1 0) 0 = ap (λ (t : Bool). cond t 1 0) e in again (omega (arith, c, own, l))

-- Declarations of the numbers of all operators: each number is found, and none is wrong.
module _ (xs : List ℕ) (count : ℕ) (low : (i x : ℕ) → slice_get xs i ≡ Some x → x < count) (ds : List Numbered) (are : numbers ds ≡ all_on xs count) where
  as_many : length ds ≡ length xs
  as_many = sym (length-map ds (λ (d : Numbered). d.number)) ∙ ap (λ (l : List ℕ). length l) are ∙ all_length xs count low

  is_there : (b : ℕ) → b < length xs → is_among (numbers ds) b ≡ true
  is_there b l =
      let it = got_some xs b l in
      let one = all_once xs count b it.0 it.1 (low b it.0 it.1) in
      ap (λ (ns : List ℕ). is_among ns b) are ∙ among_counted b (all_on xs count) (omega (arith, one))

  at_most_once : (b : ℕ) → count_by (λ (n : ℕ). nat_eq n b) (numbers ds) ≤ 1
  at_most_once b = let same = ap (count_by (λ (n : ℕ). nat_eq n b)) are in elim (cases_lt b (length xs)) [
    | inl l ↦ let it = got_some xs b l in let one = all_once xs count b it.0 it.1 (low b it.0 it.1) in omega (arith, same, one)
    | inr l ↦ let none = all_none xs count b l in omega (arith, same, none)
  ]

  each_low : list_all (λ (k : ℕ). nat_lt k (length ds)) (numbers ds) ≡ true
  each_low = all_there (λ (k : ℕ). nat_lt k (length ds)) (numbers ds) (λ i k e. by i k e (cases_lt k (length xs)))
    where
      by : (i k : ℕ) → slice_get (numbers ds) i ≡ Some k → (k < length xs) ⊎ (length xs ≤ k) → nat_lt k (length ds) ≡ true
      by i k e (inl l) = let many = as_many in lt-ltb k (length ds) (omega (arith, many, l))
      by i k e (inr l) =
          let some = is_counted (λ (n : ℕ). nat_eq n k) (numbers ds) i k e (eq-eqb k k refl) in
          let same = ap (count_by (λ (n : ℕ). nat_eq n k)) are in
          let none = all_none xs count k l in absurd (omega (arith, some, same, none))

  pub right : misnumbered ds ≡ None
  right = numbered_right ds each_low at_most_once

  pub told : {A B : Type 0} (f : ℕ → A) (missing : A) (g : A → B) (ys : List B) → length ys ≡ length xs → ((b : ℕ) (y : B) → slice_get ys b ≡ Some y → g (f b) ≡ y)
      → map (λ (b : ℕ). g (at_place (map f (numbers ds)) missing (place_of b ds))) (range_with_len 0 (length ds)) ≡ ys
  told f missing g [] long is = ap (λ (n : ℕ). map (λ (b : ℕ). g (at_place (map f (numbers ds)) missing (place_of b ds))) (range_with_len 0 n)) (as_many ∙ sym long)
  told f missing g (z ∷ zs) long is =
      ap (λ (n : ℕ). map (λ (b : ℕ). g (at_place (map f (numbers ds)) missing (place_of b ds))) (range_with_len 0 n)) (as_many ∙ sym long)
      ∙ sym (fill_by_all (λ (b : ℕ). g (at_place (map f (numbers ds)) missing (place_of b ds))) (z ∷ zs) (length (z ∷ zs)) z refl
      (λ b l. let it = got_some (z ∷ zs) b l in
      get_or_from_slice_get (z ∷ zs) b it.0 z it.1 ∙ sym (ap g (found_at f missing b ds (is_there b (omega (arith, l, long)))) ∙ is b it.0 it.1)))

-- What a text says that is read up to a state after its last processor, where no number is wrong.
ends_as : (g : Graph) (a : Architecture) (text : Bytes) (r : Reading) (k : ℕ) (p : Program) → is_outside r.stage ≡ true
    → rest_of (operation_names g) a start 1 (lines_of (text ++ [])) ≡ whole (length a.media) r k
    → misnumbered r.pairs ≡ None → misnumbered r.buffers ≡ None
    → map (owner_of r) (range_with_len 0 (length r.pairs)) ≡ p.pairs → map (buffer_of r) (range_with_len 0 (length r.buffers)) ≡ p.buffers → r.seqs ≡ p.seqs
    → limited (length a.media) p ≡ Ok p → program_in text g a ≡ Ok p
ends_as g a text r k p out read pairs_right buffers_right owners sizes seqs_are within =
    let media = length a.media in
    let made : program_of r ≡ p = λ i. record { buffers = sizes i; pairs = owners i; seqs = seqs_are i } in
    ap (λ (t : Bytes). program_in t g a) (sym (append-nil text))
    ∙ read
    ∙ ap (λ (b : Bool). if b then counted media r (first_misnumbered r) else refused k BadLine) out
    ∙ ap (counted media r) (ap₂ lesser pairs_right buffers_right)
    ∙ ap (limited media) made
    ∙ within

module _ (g : Graph) (a : Architecture) (named : AreNamed g a) where
  pub read_whole : (p : Program) → IsPrintable g a named p (owner p) (size p)
      → ((i x : ℕ) → slice_get p.pairs i ≡ Some x → x < length a.operators) → ((i x : ℕ) → slice_get (places_of p.buffers) i ≡ Some x → x < length a.operators)
      → map (λ (q : SeqCode). q.seq) p.seqs ≡ sequences a → limited (length a.media) p ≡ Ok p
      → program_in (macro_code p g a) g a ≡ Ok p
  read_whole p good pairs_low buffers_low seqs_are within =
      let count = length a.operators in
      let all = processors_read g a named a.operators p (owner p) (size p) good start 1 0 None [] [] [] p.seqs (omega arith) refl refl refl (record { cut = refl; earlier = refl; later = seqs_are }) in
      let pairs_are = later_numbers (numbers all.pairs) p.pairs (0 + count) count all.are_pairs (omega arith) in
      let buffers_are = later_numbers (numbers all.buffers) (places_of p.buffers) (0 + count) count all.are_buffers (omega arith) in
      let final = outside g a named all.behind all.at all.pairs (map (owner p) (numbers all.pairs)) all.buffers (map (size p) (numbers all.buffers)) p.seqs in
      ends_as g a (macro_code p g a) final all.read.k p (refl {a = true}) (all.read.reads [])
      (right p.pairs count pairs_low all.pairs pairs_are)
      (right (places_of p.buffers) count buffers_low all.buffers buffers_are)
      (told p.pairs count pairs_low all.pairs pairs_are (owner p) 0 (λ (x : ℕ). x) p.pairs refl (λ b y e. get_or_from_slice_get p.pairs b y 0 e))
      (told (places_of p.buffers) count buffers_low all.buffers buffers_are (size p) no_size sized p.buffers (sym (length-map p.buffers (λ (x : Buffer). x.operator)))
      (λ b y e. ap (λ (x : Buffer). sized (size_of x)) (get_or_from_slice_get p.buffers b y no_buffer e)))
      (refl {a = p.seqs}) within
