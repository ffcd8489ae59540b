-- The readings found in the places at which a buffer is read are its readers.
use Rattle.std.proofs.Common.{◌≡◌, ℕ, suc, ◌+◌, ◌<◌, Bool, true, false, ◌&&◌, not, cond, nat_eq, List, [], ◌∷◌, ◌++◌, map, Option, Some, None, refl, sym, ap, subst, arith, ◌∙◌, eq-eqb}
use Rattle.std.specs.Prelude.{slice_get}
use Rattle.std.specs.List.{filter, list_any, position_or_len}
use Rattle.std.proofs.lemmas.Bool.{ne_eqb}
use Rattle.std.proofs.lemmas.List.Elements.{filter-append}
use Rattle.program_tables.specs.declared.mark_table.Mark.{Mark}
use Rattle.executive_program.specs.declared.program.Instr.{Instr}
use Rattle.executive_program.specs.declared.program.SeqCode.{SeqCode}
use Rattle.executive_program.specs.declared.program.Program.{Program}
use Rattle.executive_program.specs.Blocks.{blocks}
use Rattle.executive_program.specs.Instructions.{Reader, reads, readers_from, turn_of, waits_for, writes}
use Rattle.program_tables.specs.declared.roles.Role.{Role}
use Rattle.program_tables.specs.declared.roles.Role.TheVariants.{Read, Written}
use Rattle.program_tables.specs.Marks.{named, names, marks_at, marks_in, marks_from, marks_of}
use Rattle.program_tables.proofs.Naming.{IsFirst, first_in, of_number, port_in}
use Rattle.program_tables.proofs.Lone.{names_are}
use Rattle.program_tables.specs.declared.readings.Reading.{Reading}
use Rattle.program_tables.specs.Readings.{is_new, reading, reading_of, readings_in}
use Rattle.program_tables.proofs.Buffered.{written_in}

abbrev AllIn : ℕ → List Mark → Type 0
AllIn s [] = Unit {0}
AllIn s (m ∷ ms) = (m.sequence ≡ s) × AllIn s ms

all_here : (s a k : ℕ) (ns : List ℕ) → AllIn s (marks_at s a k ns)
all_here s a k [] = tt
all_here s a k (n ∷ ns) = (refl, all_here s a (k + 1) ns)

all_append : (s : ℕ) (xs ys : List Mark) → AllIn s xs → AllIn s ys → AllIn s (xs ++ ys)
all_append s [] ys h d = d
all_append s (x ∷ xs) ys h d = (h.0, all_append s xs ys h.1 d)

all_filter : (test : Mark → Bool) (s : ℕ) (ms : List Mark) → AllIn s ms → AllIn s (filter test ms)
all_filter test s [] h = tt
all_filter test s (m ∷ ms) h = by (test m) (all_filter test s ms h.1)
  where
    by : (b : Bool) → AllIn s (filter test ms) → AllIn s (cond b (m ∷ filter test ms) (filter test ms))
    by true r = (h.0, r)
    by false r = r

all_in : (role : Role) (s a : ℕ) (xs : List Instr) → AllIn s (marks_in role s a xs)
all_in role s a [] = tt
all_in role s a (x ∷ xs) = all_append s (marks_at s a 0 (named role x)) (marks_in role s (a + 1) xs) (all_here s a 0 (named role x)) (all_in role s (a + 1) xs)

module _ (b : ℕ) (written : List Mark) where
  abbrev writes_in : ℕ → Bool
  writes_in s = list_any (λ (w : Mark). nat_eq w.sequence s) written

  -- further reads of the same sequence add none
  again : (s : ℕ) (ms ys : List Mark) → AllIn s ms → readings_in b written (Some s) (ms ++ ys) ≡ readings_in b written (Some s) ys
  again s [] ys h = refl
  again s (m ∷ ms) ys h =
      let P : ℕ → Type 0 = λ t. cond (not (nat_eq s t) && not (writes_in t)) (reading b t ∷ readings_in b written (Some t) (ms ++ ys))
      (readings_in b written (Some t) (ms ++ ys)) ≡ readings_in b written (Some s) ys in
      subst P (sym h.0) (ap (λ (c : Bool). cond (not c && not (writes_in s)) (reading b s ∷ readings_in b written (Some s) (ms ++ ys))
      (readings_in b written (Some s) (ms ++ ys))) (eq-eqb s s refl) ∙ again s ms ys h.1)

  -- the first read of a sequence that is not the last one
  once : (s : ℕ) (last : Option ℕ) (m : Mark) (ms ys : List Mark) → is_new last s ≡ true → m.sequence ≡ s → AllIn s ms
      → readings_in b written last (m ∷ ms ++ ys) ≡ cond (not (writes_in s)) (reading b s ∷ readings_in b written (Some s) ys) (readings_in b written (Some s) ys)
  once s last m ms ys new e h =
      let P : ℕ → Type 0 = λ t. cond (is_new last t && not (writes_in t)) (reading b t ∷ readings_in b written (Some t) (ms ++ ys))
      (readings_in b written (Some t) (ms ++ ys))
      ≡ cond (not (writes_in s)) (reading b s ∷ readings_in b written (Some s) ys) (readings_in b written (Some s) ys) in
      let rest = again s ms ys h in
      subst P (sym e) (ap (λ (c : Bool). cond (c && not (writes_in s)) (reading b s ∷ readings_in b written (Some s) (ms ++ ys)) (readings_in b written (Some s) (ms ++ ys))) new
      ∙ (λ i. cond (not (writes_in s)) (reading b s ∷ rest i) (rest i)))

  abbrev Below : Option ℕ → ℕ → Type 0
  Below None s = Unit {0}
  Below (Some t) s = t < s

  is_fresh : (last : Option ℕ) (s : ℕ) → Below last s → is_new last s ≡ true
  is_fresh None s l = refl
  is_fresh (Some t) s l = ap not (ne_eqb t s (λ e. omega arith))

  below_more : (last : Option ℕ) (s : ℕ) → Below last s → Below last (s + 1)
  below_more None s l = tt
  below_more (Some t) s l = omega arith

  from : (s : ℕ) (qs : List SeqCode) (last : Option ℕ) → Below last s → ((i : ℕ) (q : SeqCode) → slice_get qs i ≡ Some q → writes_in (s + i) ≡ list_any (writes b) q.turn)
      → readings_in b written last (filter (of_number b) (marks_from Read s qs)) ≡ map reading_of (readers_from s qs b)
  from s [] last l f = refl
  from s (q ∷ qs) last l f =
      ap (readings_in b written last) (filter-append (of_number b) (marks_in Read s 0 q.turn) (marks_from Read (s + 1) qs))
      ∙ by (filter (of_number b) (marks_in Read s 0 q.turn)) (all_filter (of_number b) s (marks_in Read s 0 q.turn) (all_in Read s 0 q.turn)) (first_in Read b s 0 q.turn)
      (from (s + 1) qs last (below_more last s l) later) (from (s + 1) qs (Some s) (let z : s < s + 1 = omega arith in z) later)
    where
      later : (i : ℕ) (x : SeqCode) → slice_get qs i ≡ Some x → writes_in (s + 1 + i) ≡ list_any (writes b) x.turn
      later i x e = ap writes_in (let z : s + 1 + i ≡ s + suc i = omega arith in z) ∙ f (suc i) x e

      here : writes_in s ≡ list_any (writes b) q.turn
      here = ap writes_in (let z : s ≡ s + 0 = omega arith in z) ∙ f 0 q refl

      one : s + 1 ≡ suc s
      one = omega arith

      read_is : list_any (names Read b) q.turn ≡ list_any (reads b) q.turn
      read_is = λ i. list_any (names_are Read b i) q.turn

      by : (ms : List Mark) → AllIn s ms → IsFirst ms (list_any (names Read b) q.turn) s (0 + position_or_len (names Read b) q.turn) (port_in Read b q.turn)
          → readings_in b written last (filter (of_number b) (marks_from Read (s + 1) qs)) ≡ map reading_of (readers_from (s + 1) qs b)
          → readings_in b written (Some s) (filter (of_number b) (marks_from Read (s + 1) qs)) ≡ map reading_of (readers_from (s + 1) qs b)
          → readings_in b written last (ms ++ filter (of_number b) (marks_from Read (s + 1) qs))
          ≡ map reading_of (cond (waits_for b q) (record { buffer = b; sequence = s } ∷ readers_from (suc s) qs b) (readers_from (suc s) qs b))
      by [] all first none some =
          none ∙ ap (λ (k : ℕ). map reading_of (readers_from k qs b)) one
          ∙ ap (λ (t : Bool). map reading_of
          (cond (t && not (list_any (writes b) q.turn)) (record { buffer = b; sequence = s } ∷ readers_from (suc s) qs b)
          (readers_from (suc s) qs b))) (sym first ∙ read_is)
      by (m ∷ ms) all first none some =
          once s last m ms (filter (of_number b) (marks_from Read (s + 1) qs)) (is_fresh last s l) all.0 all.1
          ∙ (λ i. cond (not (here i)) (reading b s ∷ some i) (some i))
          ∙ ap (λ (k : ℕ). cond (not (list_any (writes b) q.turn)) (reading b s ∷ map reading_of (readers_from k qs b)) (map reading_of (readers_from k qs b))) one
          ∙ inside (list_any (writes b) q.turn)
          ∙ ap (λ (t : Bool). map reading_of
          (cond (t && not (list_any (writes b) q.turn)) (record { buffer = b; sequence = s } ∷ readers_from (suc s) qs b)
          (readers_from (suc s) qs b))) (sym first.0 ∙ read_is)
        where
          inside : (t : Bool) → cond (not t) (reading b s ∷ map reading_of (readers_from (suc s) qs b)) (map reading_of (readers_from (suc s) qs b))
              ≡ map reading_of (cond (true && not t) (record { buffer = b; sequence = s } ∷ readers_from (suc s) qs b) (readers_from (suc s) qs b))
          inside true = refl
          inside false = refl

pub readings_are : (p : Program) (b : ℕ) → readings_in b (marks_of p Written b) None (marks_of p Read b) ≡ map reading_of (readers_from 0 p.seqs b)
readings_are p b = from b (marks_of p Written b) 0 p.seqs None tt
    (λ i q e. ap (λ (s : ℕ). list_any (λ (w : Mark). nat_eq w.sequence s) (marks_of p Written b)) (let z : 0 + i ≡ i = omega arith in z)
    ∙ written_in p b i ∙ ap (λ (xs : List Instr). list_any (writes b) xs) (ap turn_of e))

-- the readings of one buffer more
pub one_more : (p : Program) (b : ℕ) (old new : List Reading) (ws rs : List Mark) → new ≡ old ++ readings_in b ws None rs → old
    ≡ map reading_of (blocks (readers_from 0 p.seqs) b) → ws ≡ marks_of p Written b → rs ≡ marks_of p Read b
    → new ≡ map reading_of (blocks (readers_from 0 p.seqs) (b + 1))
one_more p b old new ws rs e was w r =
    e ∙ (λ i. was i ++ readings_in b (w i) None (r i)) ∙ ap (λ (xs : List Reading). map reading_of (blocks (readers_from 0 p.seqs) b) ++ xs) (readings_are p b)
    ∙ sym (map_append (blocks (readers_from 0 p.seqs) b) (readers_from 0 p.seqs b)) ∙ ap (λ (n : ℕ). map reading_of (blocks (readers_from 0 p.seqs) n)) (let z : suc b ≡ b + 1 = omega arith in z)
  where
    map_append : (xs ys : List Reader) → map reading_of (xs ++ ys) ≡ map reading_of xs ++ map reading_of ys
    map_append [] ys = refl
    map_append (x ∷ xs) ys = ap (λ (zs : List Reading). reading_of x ∷ zs) (map_append xs ys)
