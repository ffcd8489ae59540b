-- A program over a plain order whose reads stand after the writes: what the semaphore lines are proved from.
use Rattle.std.proofs.Common.{◌≡◌, ℕ, suc, ◌+◌, ◌<◌, ◌⊎◌, Bool, true, false, ◌||◌, nat_eq, List, [], ◌∷◌, length, map, take, drop, Some, refl, sym, ap, subst, inl, inr, ◌∙◌}
use Rattle.std.specs.Prelude.{slice_get}
use Rattle.std.specs.List.{flat_map, list_any}
use Rattle.std.proofs.lemmas.Bool.{false≢true, or_cases, or_from, cases_Bool}
use Rattle.std.proofs.lemmas.Option.{same_Some}
use Rattle.sequence_build_laws.specs.InTurn.{Standing, in_turn}
use Rattle.schedule.specs.declared.Seq.{Seq}
use Rattle.schedule.specs.Acts.{Copy}
use Rattle.executive_program.specs.declared.program.Instr.{Instr}
use Rattle.executive_program.specs.declared.program.Instr.TheVariants.{Suc0, Suc1, Pre0, Pre1}
use Rattle.executive_program.specs.declared.program.Program.{Program}
use Rattle.executive_program.specs.Blocks.{repeated}
use Rattle.executive_program.specs.Instructions.{Reader, reads, writes, readers}
use Rattle.executive_program.specs.WellFormed.{Stands, WritesAt, ReadsAt, place_in}
use Rattle.sequence_build_laws.specs.Serial.{Step, step, projection, codes, steps_at, pairs_where, block}
use Rattle.sequence_build_laws.specs.Built.{operator_in}
use Rattle.sequence_build_laws.proofs.Lists.{turn_at, from_turn}
use Rattle.sequence_build_laws.proofs.Lines as lines
use Rattle.sequence_build_laws.proofs.Lines.{is_plain, middle, Line}

pub record Setting : Type 0 where
  pub copies : List Copy
  pub plain : List Step
  pub pairs : List Reader
  pub program : Program
  pub without : Program
  pub prologues : ℕ → List Instr
  pub seqs : List Seq
  pub len : Copy → ℕ
  pub depth : ℕ → ℕ
  pub many : ℕ
  -- the sequences are the projections; those of the program without semaphores are the plain order's
  pub codes_are : program.seqs ≡ codes prologues (projection (flat_map (steps_at pairs) (in_turn plain))) 0 seqs
  pub codes_without : without.seqs ≡ codes (λ _. []) (projection plain) 0 seqs
  pub pairs_are : pairs ≡ readers without
  pub buffers_without : length without.buffers ≡ length copies
  pub buffers_many : length program.buffers ≡ length copies
  pub buffers_are : (b : ℕ) (c : Copy) → slice_get copies b ≡ Some c → slice_get program.buffers b ≡ Some (record { operator = c.operator; len = len c; depth = depth b })
  -- a buffer that a pair guards has this many places, and its pair is opened as often
  pub guarded : (q : ℕ) (r : Reader) → slice_get pairs q ≡ Some r → depth r.buffer ≡ many
  pub opened : (s : ℕ) → prologues s ≡ flat_map (λ q. repeated (Pre0 q) many) (pairs_where pairs (λ r. nat_eq r.sequence s))
  pub pair_operators : program.pairs ≡ map (λ (r : Reader). operator_in (slice_get copies r.buffer)) pairs
  -- each step is in a sequence that is there
  pub low : (i : ℕ) (y : Step) → slice_get plain i ≡ Some y → y.sequence < length seqs
  pub plain_only : (i : ℕ) (y : Step) → slice_get plain i ≡ Some y → is_plain y.instr ≡ true
  -- each buffer is written once, and read after that
  pub written : (b : ℕ) → b < length copies → (c : ℕ) × (y : Step) × (k : ℕ) × (slice_get plain c ≡ Some y) × WritesAt y.instr k b
  pub written_once : (c e k h b : ℕ) (y z : Step) → slice_get plain c ≡ Some y → slice_get plain e ≡ Some z → WritesAt y.instr k b → WritesAt z.instr h b → (c ≡ e) × (k ≡ h)
  pub read_behind : (c k b : ℕ) (y : Step) → slice_get plain c ≡ Some y → ReadsAt y.instr k b → (e : ℕ) × (z : Step) × (h : ℕ) × (e < c) × (slice_get plain e ≡ Some z) × WritesAt z.instr h b
  pub near : (c k b : ℕ) (y : Step) → slice_get plain c ≡ Some y → WritesAt y.instr k b ⊎ ReadsAt y.instr k b → (it : Copy) × (q : Seq)
      × (slice_get copies b ≡ Some it) × (slice_get seqs y.sequence ≡ Some q) × (q.operator ≡ it.operator)

pub reads_plain : (b : ℕ) (x : Instr) → reads b x ≡ true → is_plain x ≡ true
reads_plain b (Suc0 q) h = h
reads_plain b (Suc1 q) h = h
reads_plain b (Pre0 q) h = h
reads_plain b (Pre1 q) h = h
reads_plain b _ h = refl

pub writes_plain : (b : ℕ) (x : Instr) → writes b x ≡ true → is_plain x ≡ true
writes_plain b (Suc0 q) h = h
writes_plain b (Suc1 q) h = h
writes_plain b (Pre0 q) h = h
writes_plain b (Pre1 q) h = h
writes_plain b _ h = refl

-- the first and the last element that pass
pub record FirstOne {A : Type 0} (p : A → Bool) (xs : List A) : Type 0 where
  pub at : ℕ
  pub it : A
  pub stands : slice_get xs at ≡ Some it
  pub passes : p it ≡ true
  pub alone : list_any p (take at xs) ≡ false

pub first_one : {A : Type 0} (p : A → Bool) (xs : List A) → list_any p xs ≡ true → FirstOne p xs
first_one p [] h = absurd (false≢true h)
first_one p (x ∷ xs) h = by (p x) refl h (λ e. first_one p xs e)
  where
    next : p x ≡ false → FirstOne p xs → FirstOne p (x ∷ xs)
    next f r = record { at = suc r.at; it = r.it; stands = r.stands; passes = r.passes; alone = or_from (p x) (list_any p (take r.at xs)) f r.alone }

    by : (b : Bool) → p x ≡ b → (b || list_any p xs) ≡ true → (list_any p xs ≡ true → FirstOne p xs) → FirstOne p (x ∷ xs)
    by true f e r = record { at = 0; it = x; stands = refl; passes = f; alone = refl }
    by false f e r = next f (r e)

pub record LastOne {A : Type 0} (p : A → Bool) (xs : List A) : Type 0 where
  pub at : ℕ
  pub it : A
  pub stands : slice_get xs at ≡ Some it
  pub passes : p it ≡ true
  pub alone : list_any p (drop (suc at) xs) ≡ false

pub last_one : {A : Type 0} (p : A → Bool) (xs : List A) → list_any p xs ≡ true → LastOne p xs
last_one p [] h = absurd (false≢true h)
last_one p (x ∷ xs) h = by (cases_Bool (list_any p xs)) (λ e. last_one p xs e)
  where
    by : (list_any p xs ≡ true) ⊎ (list_any p xs ≡ false) → (list_any p xs ≡ true → LastOne p xs) → LastOne p (x ∷ xs)
    by (inl e) r = let l = r e in record { at = suc l.at; it = l.it; stands = l.stands; passes = l.passes; alone = l.alone }
    by (inr e) r = record {
      at = 0;
      it = x;
      stands = refl;
      passes = elim (or_cases (p x) (list_any p xs) h) [ inl t ↦ t | inr t ↦ absurd (false≢true (sym e ∙ t)) ];
      alone = e;
    }

-- In this setting.
module _ (S : Setting) where
  -- the steps of the serial order are in sequences that are there
  pub low_of : (i : ℕ) (y : Step) → slice_get (flat_map (steps_at S.pairs) (in_turn S.plain)) i ≡ Some y → y.sequence < length S.seqs
  low_of i y e = lines.serial_low S.pairs S.plain S.program S.prologues S.seqs S.codes_are S.low i y e

  abbrev pub order : List ℕ
  order = lines.names S.pairs S.plain S.program S.prologues S.seqs S.codes_are S.low

  abbrev pub Here : ℕ → ℕ → Instr → Type 0
  Here s a x = lines.Here S.pairs S.plain S.program S.prologues S.seqs S.codes_are S.low s a x

  pub here : (s a : ℕ) (x : Instr) → Stands S.program s a x → Here s a x
  here s a x e = lines.here S.pairs S.plain S.program S.prologues S.seqs S.codes_are S.low s a x e

  abbrev pub There : ℕ → ℕ → Standing Step → Instr → Type 0
  There c k v x = lines.There S.pairs S.plain S.program S.prologues S.seqs S.codes_are S.low c k v x

  pub there : (c k : ℕ) (v : Standing Step) (x : Instr) → slice_get (in_turn S.plain) c ≡ Some v → slice_get (block S.pairs v) k ≡ Some x → There c k v x
  there c k v x e h = lines.there S.pairs S.plain S.program S.prologues S.seqs S.codes_are S.low c k v x e h

  pub before_of : (s a t b : ℕ) (x y : Instr) (h : Here s a x) (k : Here t b y) → (h.block_number < k.block_number)
      ⊎ ((h.block_number ≡ k.block_number) × (h.inner < k.inner)) → place_in order s a < place_in order t b
  before_of s a t b x y h k l = lines.before_of S.pairs S.plain S.program S.prologues S.seqs S.codes_are S.low s a t b x y h k l

  pub same_here : (s a t b : ℕ) (x y : Instr) (h : Here s a x) (k : Here t b y) → h.block_number ≡ k.block_number → h.inner ≡ k.inner → (s ≡ t) × (a ≡ b)
  same_here s a t b x y h k e i = lines.same_here S.pairs S.plain S.program S.prologues S.seqs S.codes_are S.low s a t b x y h k e i

  pub earlier_here : (s a b : ℕ) (x y : Instr) (h : Here s a x) (k : Here s b y) → (h.block_number < k.block_number) ⊎ ((h.block_number ≡ k.block_number) × (h.inner < k.inner)) → a < b
  earlier_here s a b x y h k l = lines.earlier_here S.pairs S.plain S.program S.prologues S.seqs S.codes_are S.low s a b x y h k (before_of s a s b x y h k l)

  pub line_of : (s a : ℕ) (x : Instr) (h : Here s a x) → Line S.pairs h.it h.inner x
  line_of s a x h = lines.line S.pairs h.it h.inner x h.stands

  -- the instruction of the block
  pub record Core (s a : ℕ) (x : Instr) (h : Here s a x) : Type 0 where
    pub instr : h.it.it.instr ≡ x
    pub inner : h.inner ≡ middle S.pairs h.it
    pub is : h.it.it ≡ step s x
    pub stands : slice_get S.plain h.block_number ≡ Some (step s x)

  pub core_of : (s a : ℕ) (x : Instr) (h : Here s a x) → is_plain x ≡ true → Core s a x h
  core_of s a x h l = by (line_of s a x h)
    where
      not_plain : (y : Instr) → x ≡ y → is_plain y ≡ false → Core s a x h
      not_plain y e f = absurd (false≢true (sym f ∙ (ap is_plain (sym e) ∙ l)))

      by : Line S.pairs h.it h.inner x → Core s a x h
      by (lines.takes_full q r e k i) = not_plain (Suc1 q) e refl
      by (lines.takes_empty q r e k i) = not_plain (Suc0 q) e refl
      by (lines.signals_empty q r e k i) = not_plain (Pre0 q) e refl
      by (lines.signals_full q r e k i) = not_plain (Pre1 q) e refl
      by (lines.core e k) =
          let same : h.it.it ≡ step s x = (λ i. record { sequence = h.sequence i; instr = sym e i }) in
          record { instr = sym e; inner = k; is = same; stands = h.around.stands ∙ ap (λ (y : Step). Some y) same }

  -- the instruction of block c, in its loop
  pub record Placed (c : ℕ) (y : Step) : Type 0 where
    pub at : ℕ
    pub stands : Stands S.program y.sequence at y.instr
    pub entry : Here y.sequence at y.instr
    pub number : entry.block_number ≡ c

  same_number : (s a : ℕ) (x : Instr) (h : Here s a x) (c : ℕ) (v : Standing Step) → slice_get (in_turn S.plain) c ≡ Some v
      → place_in order s a ≡ lines.place_of S.pairs S.plain c + middle S.pairs v → h.block_number ≡ c
  same_number s a x h c v e p = lines.same_number S.pairs S.plain S.program S.prologues S.seqs S.codes_are S.low s a x h c v e p

  pub placed : (c : ℕ) (y : Step) → slice_get S.plain c ≡ Some y → Placed c y
  placed c y e =
      let v = turn_at [] S.plain c y e in
      let t = from_turn [] S.plain c v.0 v.1 in
      let same : v.0.it ≡ y = same_Some v.0.it y (sym t.stands ∙ e) in
      subst (λ (z : Step). Placed c z) same (by v.0 v.1)
    where
      by : (v : Standing Step) → slice_get (in_turn S.plain) c ≡ Some v → Placed c v.it
      by v h = let r = there c (middle S.pairs v) v v.it.instr h (lines.middle_there S.pairs v) in
          let k = here v.it.sequence r.at v.it.instr r.stands in
          record { at = r.at; stands = r.stands; entry = k; number = same_number v.it.sequence r.at v.it.instr k c v h r.place }
