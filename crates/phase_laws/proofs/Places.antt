-- A place in a sequence's micro-steps is a place in its instructions; what is owned at one place.
use Rattle.std.proofs.Common.{◌≡◌, ℕ, zero, suc, ◌+◌, ◌*◌, ◌<◌, ◌≤◌, ◌⊎◌, Bool, true, false, List, [], ◌∷◌, length, Option, Some, None, refl, sym, ap, inl, inr, arith, ◌∙◌}
use Rattle.std.specs.Prelude.{slice_get, take}
use Rattle.std.specs.List.{count_by}
use Rattle.std.proofs.lemmas.Option.{same_Some, slice_get_within}
use Rattle.std.proofs.lemmas.Bool.{cases_lt, cases_Bool, lt-ltb, le-ltb}
use Rattle.executive_program.specs.Sites.{step_at, place_at, hit}
use Rattle.executive_program.specs.System.{System, Micro, signal}
use Rattle.executive_program.specs.Owners.{Owner, IsOwned, sum_below}
use Rattle.executive_program.specs.Pairs.{late}
use Rattle.executive_program.specs.declared.program.Instr.{Instr}
use Rattle.executive_program.specs.declared.program.Instr.TheVariants.{Pre0}
use Rattle.executive_program.specs.declared.program.Program.{Program}
use Rattle.executive_program.specs.declared.program.SeqCode.{SeqCode}
use Rattle.executive_program.specs.Instructions.{is_communication, turn, turn_of, prologue, prologue_of, medium, number_or, communications}
use Rattle.executive_program.specs.MicroSteps.{micros_of, micros_in, block, front_block, code, size, begins}
use Rattle.executive_program.specs.WellFormed.{Stands}
use Rattle.phase_laws.proofs.Blocks.{sum_inside, blocks_at, blocks_length, InBlock, in_block}
use Rattle.phase_laws.proofs.Setting.{Parts, system_of}
use Rattle.phase_laws.proofs.From.{From, from}

pub hit_zero : (test : Micro → Bool) (o : Option Micro) → ((c : Micro) → o ≡ Some c → test c ≡ true → ⊥) → hit test o ≡ 0
hit_zero test None h = refl
hit_zero test (Some c) h = by (cases_Bool (test c))
  where
    by : (test c ≡ true) ⊎ (test c ≡ false) → hit test (Some c) ≡ 0
    by (inl e) = absurd (h c refl e)
    by (inr e) = rw e refl

pub hit_one : (test : Micro → Bool) (o : Option Micro) (c : Micro) → o ≡ Some c → test c ≡ true → hit test o ≡ 1
hit_one test o c e h = ap (hit test) e ∙ rw h refl

pub slice_get_some : {A : Type 0} (xs : List A) (i : ℕ) → i < length xs → (x : A) × (slice_get xs i ≡ Some x)
slice_get_some [] i h = absurd (omega arith)
slice_get_some (x ∷ xs) zero h = (x, refl)
slice_get_some (x ∷ xs) (suc i) h = slice_get_some xs i (omega arith)

module _ (p : Program) where
  pub stands_sequence : (s a : ℕ) (x : Instr) → Stands p s a x → s < length p.seqs
  stands_sequence s a x e = by (slice_get p.seqs s) refl
    where
      by : (o : Option SeqCode) → slice_get p.seqs s ≡ o → s < length p.seqs
      by None q = let z : slice_get (turn_of None) a ≡ Some x = ap (λ (k : Option SeqCode). slice_get (turn_of k) a) (sym q) ∙ e in absurd cc
      by (Some k) q = slice_get_within p.seqs s k q

  pub front_sequence : (s i : ℕ) (d : Micro) → slice_get (code p s).prologue i ≡ Some d → s < length p.seqs
  front_sequence s i d e = by (slice_get p.seqs s) refl
    where
      b : InBlock (front_block p s) (length (prologue p s)) i d
      b = in_block (front_block p s) (length (prologue p s)) i d e

      by : (o : Option SeqCode) → slice_get p.seqs s ≡ o → s < length p.seqs
      by None q = let z = ap (λ (k : Option SeqCode). length (prologue_of k)) q in let y = b.within in absurd (omega arith)
      by (Some k) q = slice_get_within p.seqs s k q

  -- the micro-steps of the instruction at place a of the loop of s
  abbrev pub micros_at : ℕ → ℕ → Instr → List Micro
  micros_at s a x = micros_of p (number_or 0 (medium p s)) (communications p s a) x

  abbrev pub FromAt : ℕ → ℕ → Instr → ℕ → Micro → Type 0
  FromAt s a x r c = From p (number_or 0 (medium p s)) (communications p s a) x r c

  pub block_is : (s a : ℕ) (x : Instr) → Stands p s a x → block p s a ≡ micros_at s a x
  block_is s a x e = ap (micros_in p (number_or 0 (medium p s)) (communications p s a)) e

  -- a place of the serial order of instructions is a place of micro-steps
  pub at_turn : (s a r : ℕ) (x : Instr) (c : Micro) → Stands p s a x → slice_get (micros_at s a x) r ≡ Some c
      → (slice_get (code p s).turn (begins p s a + r) ≡ Some c) × (r < size p s a)
  at_turn s a r x c e h = (blocks_at (block p s) (length (turn p s)) a r (slice_get_within (turn p s) a x e) inner ∙ here, inner)
    where
      here : slice_get (block p s a) r ≡ Some c
      here = ap (λ (l : List Micro). slice_get l r) (block_is s a x e) ∙ h

      inner : r < size p s a
      inner = slice_get_within (block p s a) r c here

  pub at_first : (s a : ℕ) (x : Instr) (c : Micro) → Stands p s a x → slice_get (micros_at s a x) 0 ≡ Some c → slice_get (code p s).turn (begins p s a) ≡ Some c
  at_first s a x c e h = let z : begins p s a ≡ begins p s a + 0 = omega arith in ap (λ (k : ℕ). slice_get (code p s).turn k) z ∙ (at_turn s a 0 x c e h).0

  pub record Origin (s l : ℕ) (c : Micro) : Type 0 where
    pub index : ℕ
    pub instr : Instr
    pub at : ℕ
    pub stands : Stands p s index instr
    pub inner : at < size p s index
    pub is : l ≡ begins p s index + at
    pub from : FromAt s index instr at c

  pub origin : (s l : ℕ) (c : Micro) → slice_get (code p s).turn l ≡ Some c → Origin s l c
  origin s l c e = by (slice_get (turn p s) b.block) refl
    where
      b : InBlock (block p s) (length (turn p s)) l c
      b = in_block (block p s) (length (turn p s)) l c e

      by : (o : Option Instr) → slice_get (turn p s) b.block ≡ o → Origin s l c
      by None q = let z : slice_get (micros_in p (number_or 0 (medium p s)) (communications p s b.block) None) b.at ≡ Some c
          = ap (λ (o : Option Instr). slice_get (micros_in p (number_or 0 (medium p s)) (communications p s b.block) o) b.at) (sym q) ∙ b.stands in absurd cc
      by (Some x) q = record {
        index = b.block;
        instr = x;
        at = b.at;
        stands = q;
        inner = b.inner;
        is = b.is;
        from = from p (number_or 0 (medium p s)) (communications p s b.block) x b.at c (ap (λ (l : List Micro). slice_get l b.at) (sym (block_is s b.block x q)) ∙ b.stands);
      }

  -- an instruction that stands earlier has its micro-steps earlier
  pub earlier : (s a b r i : ℕ) → a < b → r < size p s a → begins p s a + r < begins p s b + i
  earlier s a b r i h g = let x = sum_inside (size p s) b a r h g in omega arith

  module _ {P : Type 0} (media reactions : ℕ) (own : Parts P) where
    abbrev W : System P
    W = system_of p media reactions own

    pub owned : (test : Micro → Bool) (o : Owner) (c : Micro) → slice_get (code p o.sequence).turn o.site.place ≡ Some c → test c ≡ true → o.sequence < length p.seqs
        → ((t l : ℕ) (d : Micro) → slice_get (code p t).turn l ≡ Some d → test d ≡ true → (t ≡ o.sequence) × (l ≡ o.site.place))
        → ((t l : ℕ) (d : Micro) → slice_get (code p t).prologue l ≡ Some d → test d ≡ true → (t ≡ o.sequence) × (o.site.first ≤ l) × (l < o.site.first + o.site.early))
        → o.site.first + o.site.early ≤ length (code p o.sequence).prologue
        → ((l : ℕ) → o.site.first ≤ l → l < o.site.first + o.site.early → hit test (slice_get (code p o.sequence).prologue l) ≡ 1)
        → IsOwned W test o
    owned test o c e h seq only front fits early = record {
      here = seq;
      site = record {
        within = slice_get_within (code p o.sequence).turn o.site.place c e;
        here = hit_one test _ c e h;
        only = λ i n. hit_zero test (slice_get (code p o.sequence).turn i) (λ d q y. n ((only o.sequence i d q y).1));
        within_early = fits;
        here_early = early;
        before_early = λ i n. hit_zero test (slice_get (code p o.sequence).prologue i) (λ d q y. let z = (front o.sequence i d q y).1 in absurd (omega arith));
        after_early = λ i n. hit_zero test (slice_get (code p o.sequence).prologue i) (λ d q y. let z = (front o.sequence i d q y).2 in absurd (omega arith));
      };
      alone = alone;
    }
      where
        alone : (s n : ℕ) → (s ≡ o.sequence → ⊥) → hit test (step_at (code p s) n) ≡ 0
        alone s n other = by (cases_lt n (length (code p s).prologue))
          where
            by : (n < length (code p s).prologue) ⊎ (length (code p s).prologue ≤ n) → hit test (step_at (code p s) n) ≡ 0
            by (inl l) = rw (lt-ltb n (length (code p s).prologue) l) (hit_zero test (slice_get (code p s).prologue n) (λ d q y. other ((front s n d q y).0)))
            by (inr l) = rw (le-ltb n (length (code p s).prologue) l) (hit_zero test (slice_get (code p s).turn (place_at (code p s) n)) (λ d q y. other ((only s (place_at (code p s) n) d q y).0)))

    -- where no prologue has it
    pub owned_late : (test : Micro → Bool) (s l : ℕ) (c : Micro) → slice_get (code p s).turn l ≡ Some c → test c ≡ true → s < length p.seqs
        → ((t i : ℕ) (d : Micro) → slice_get (code p t).turn i ≡ Some d → test d ≡ true → (t ≡ s) × (i ≡ l))
        → ((t i : ℕ) (d : Micro) → slice_get (code p t).prologue i ≡ Some d → test d ≡ true → ⊥)
        → IsOwned W test (late s l)
    owned_late test s l c e h seq only front = owned test (late s l) c e h seq only (λ t i d q y. absurd (front t i d q y)) (omega arith) (λ i a b. absurd (omega arith))

  -- A prologue that only signals empty semaphores has one micro-step for each instruction.
  module _ (s : ℕ) (signals : (i : ℕ) (x : Instr) → slice_get (prologue p s) i ≡ Some x → (q : ℕ) × (x ≡ Pre0 q)) where
    front_is : (a q : ℕ) → slice_get (prologue p s) a ≡ Some (Pre0 q) → front_block p s a ≡ signal (2 * q) ∷ []
    front_is a q e = ap (micros_in p (number_or 0 (medium p s)) (count_by is_communication (take a (prologue p s)))) e

    block_one : (a : ℕ) → a < length (prologue p s) → length (front_block p s a) ≡ 1
    block_one a h = by (slice_get_some (prologue p s) a h)
      where
        by : (x : Instr) × (slice_get (prologue p s) a ≡ Some x) → length (front_block p s a) ≡ 1
        by (x, e) = let n = signals a x e in ap (λ (l : List Micro). length l) (front_is a n.0 (e ∙ ap (λ (y : Instr). Some y) n.1))

    starts : (a : ℕ) → a ≤ length (prologue p s) → sum_below (λ b. length (front_block p s b)) a ≡ a
    starts zero h = refl
    starts (suc a) h = let e = starts a (omega arith) in let g = block_one a h in omega arith

    pub front_at : (i q : ℕ) → slice_get (prologue p s) i ≡ Some (Pre0 q) → slice_get (code p s).prologue i ≡ Some (signal (2 * q))
    front_at i q e = let h = slice_get_within (prologue p s) i (Pre0 q) e in let z = starts i (omega arith) in let b = block_one i h in
        let y : sum_below (λ b. length (front_block p s b)) i + 0 ≡ i = omega arith in
        ap (λ (k : ℕ). slice_get (code p s).prologue k) (sym y) ∙ blocks_at (front_block p s) (length (prologue p s)) i 0 h (omega arith)
        ∙ ap (λ (l : List Micro). slice_get l 0) (front_is i q e)

    pub front_length : length (code p s).prologue ≡ length (prologue p s)
    front_length = let z = starts (length (prologue p s)) (omega arith) in blocks_length (front_block p s) (length (prologue p s)) ∙ z

    pub front_from : (i : ℕ) (d : Micro) → slice_get (code p s).prologue i ≡ Some d → (q : ℕ) × (slice_get (prologue p s) i ≡ Some (Pre0 q)) × (signal (2 * q) ≡ d)
    front_from i d e = by (slice_get_some (prologue p s) i within)
      where
        within : i < length (prologue p s)
        within = let z = slice_get_within (code p s).prologue i d e in let y = front_length in omega arith

        by : (x : Instr) × (slice_get (prologue p s) i ≡ Some x) → (q : ℕ) × (slice_get (prologue p s) i ≡ Some (Pre0 q)) × (signal (2 * q) ≡ d)
        by (x, h) = let n = signals i x h in let y = h ∙ ap (λ (y : Instr). Some y) n.1 in (n.0, y, same_Some (signal (2 * n.0)) d (sym (front_at i n.0 y) ∙ e))
