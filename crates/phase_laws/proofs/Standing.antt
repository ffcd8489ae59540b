-- Where a sequence stands after n micro-steps, and after one more.
use Rattle.std.proofs.Common.{◌≡◌, ℕ, suc, ◌+◌, ◌-◌, ◌*◌, ◌/◌, ◌%◌, ◌<◌, ◌≤◌, ◌⊎◌, cond, length, Some, refl, sym, ap, inl, inr, ⊎_elim, arith, ◌∙◌, add-one}
use Rattle.std.specs.Prelude.{slice_get, nat_lt}
use Rattle.std.proofs.lemmas.Option.{slice_get_within}
use Rattle.std.proofs.lemmas.Bool.{cases_lt, lt-ltb, le-ltb}
use Rattle.std.proofs.lemmas.Nat.{mod-mul-add, div-mul-add}
use native.Mathlib.Nat.{suc-mul, zero-mul}
use Rattle.executive_program.specs.Sites.{Code, step_at, place_at, reaction_at, number_of}
use Rattle.executive_program.proofs.Numbers.{reaction_number, place_number, number_split}
use Rattle.executive_program.specs.System.{Micro}
use Rattle.executive_program.specs.declared.program.Instr.{Instr}
use Rattle.executive_program.specs.declared.program.Program.{Program}
use Rattle.executive_program.specs.Blocks.{block_at}
use Rattle.executive_program.specs.MicroSteps.{code, size, begins, block}
use Rattle.executive_program.specs.Instructions.{turn}
use Rattle.executive_program.specs.WellFormed.{Stands}
use Rattle.semaphore_core.specs.Told.{index_at, offset_at}
use Rattle.phase_laws.proofs.Blocks.{sum_rises, sum_inside, block_at_is, inside, blocks_length}
use Rattle.phase_laws.proofs.Places.{Origin, origin, FromAt}

module _ {A : Type 0} (c : Code A) where
  -- one more step stands at the next place, or at the first of the next reaction
  pub next_place : (n : ℕ) → length c.prologue ≤ n → place_at c n < length c.turn
      → ((place_at c n + 1 < length c.turn) × (place_at c (n + 1) ≡ place_at c n + 1) × (reaction_at c (n + 1) ≡ reaction_at c n))
      ⊎ ((place_at c n + 1 ≡ length c.turn) × (place_at c (n + 1) ≡ 0) × (reaction_at c (n + 1) ≡ reaction_at c n + 1))
  next_place n h l = let e = number_split c n h in by e (cases_lt (place_at c n + 1) (length c.turn))
    where
      by : n ≡ number_of c (reaction_at c n) (place_at c n) → (place_at c n + 1 < length c.turn) ⊎ (length c.turn ≤ place_at c n + 1)
          → ((place_at c n + 1 < length c.turn) × (place_at c (n + 1) ≡ place_at c n + 1) × (reaction_at c (n + 1) ≡ reaction_at c n))
          ⊎ ((place_at c n + 1 ≡ length c.turn) × (place_at c (n + 1) ≡ 0) × (reaction_at c (n + 1) ≡ reaction_at c n + 1))
      by e (inl m) = let f : n + 1 ≡ number_of c (reaction_at c n) (place_at c n + 1) = omega arith in
          inl (m, ap (place_at c) f ∙ place_number c (reaction_at c n) (place_at c n + 1) m, ap (reaction_at c) f ∙ reaction_number c (reaction_at c n) (place_at c n + 1) m)
      by e (inr m) = let q : place_at c n + 1 ≡ length c.turn = omega arith in
          let u : (reaction_at c n + 1) * length c.turn
          ≡ reaction_at c n * length c.turn + length c.turn = ap (λ (k : ℕ). k * length c.turn) (add-one (reaction_at c n))
          ∙ suc-mul (reaction_at c n) (length c.turn) in
          let f : n + 1 ≡ number_of c (reaction_at c n + 1) 0 = omega arith in
          inr (q, ap (place_at c) f ∙ place_number c (reaction_at c n + 1) 0 (omega arith), ap (reaction_at c) f ∙ reaction_number c (reaction_at c n + 1) 0 (omega arith))

  pub early_place : (n : ℕ) → n ≤ length c.prologue → (place_at c n ≡ 0) × (reaction_at c n ≡ 0)
  early_place n h = by (cases_lt 0 (length c.turn))
    where
      z : n - length c.prologue ≡ 0
      z = omega arith

      by : (0 < length c.turn) ⊎ (length c.turn ≤ 0) → (place_at c n ≡ 0) × (reaction_at c n ≡ 0)
      by (inl l) = let f : 0 * length c.turn + 0 ≡ n - length c.prologue = omega (arith, zero-mul (length c.turn)) in
          (ap (λ (k : ℕ). k % length c.turn) (sym f) ∙ mod-mul-add 0 (length c.turn) 0 l, ap (λ (k : ℕ). k / length c.turn) (sym f) ∙ div-mul-add 0 (length c.turn) 0 l)
      by (inr l) = let e : length c.turn ≡ 0 = omega arith in (ap (λ (k : ℕ). k % length c.turn) z ∙ ap (λ (k : ℕ). 0 % k) e, ap (λ (k : ℕ). k / length c.turn) z ∙ ap (λ (k : ℕ). 0 / k) e)

module _ (p : Program) (s : ℕ) where
  abbrev pub C : Code Micro
  C = code p s

  located : (l a r : ℕ) → a < length (turn p s) → r < size p s a → l ≡ begins p s a + r → block_at (size p s) (length (turn p s)) l ≡ a
  located l a r h g e = ap (block_at (size p s) (length (turn p s))) e ∙ block_at_is (size p s) (length (turn p s)) a r h g

  -- where an instruction ends, the next one begins
  pub offset_zero : (n a : ℕ) → place_at (code p s) n < length (code p s).turn → place_at (code p s) n ≡ begins p s a → offset_at p s n ≡ 0
  offset_zero n a h e = let f = blocks_length (block p s) (length (turn p s)) in
      let b = inside (size p s) (length (turn p s)) (place_at (code p s) n) (omega arith) in
      let w = located (place_at (code p s) n) b.block b.at b.within b.inner b.is in let z = ap (begins p s) w in let u = b.is in
      ⊎_elim (λ l. let y = sum_inside (size p s) a b.block b.at l b.inner in absurd (omega arith)) (λ l. let y = sum_rises (size p s) b.block a l in omega arith) (cases_lt b.block a)

  pub offset_first : (n : ℕ) → place_at (code p s) n ≡ 0 → offset_at p s n ≡ 0
  offset_first n e = omega arith

  -- the micro-step n, by its instruction
  pub record Here (n : ℕ) (c : Micro) : Type 0 where
    pub late : length (code p s).prologue ≤ n
    pub index : ℕ
    pub instr : Instr
    pub at : ℕ
    pub stands : Stands p s index instr
    pub from : FromAt p s index instr at c
    pub inner : at < size p s index
    pub low : place_at (code p s) n < length (code p s).turn
    pub is : place_at (code p s) n ≡ begins p s index + at
    pub index_is : index_at p s n ≡ index
    pub offset_is : offset_at p s n ≡ at
    pub next : ((at + 1 < size p s index) × (index_at p s (n + 1) ≡ index) × (offset_at p s (n + 1) ≡ at + 1)
        × (reaction_at (code p s) (n + 1) ≡ reaction_at (code p s) n)) ⊎ ((size p s index ≤ at + 1) × (offset_at p s (n + 1) ≡ 0))

  pub here : (n : ℕ) (c : Micro) → length (code p s).prologue ≤ n → step_at (code p s) n ≡ Some c → Here n c
  here n c h e = by o (next_place (code p s) n h low)
    where
      there : slice_get (code p s).turn (place_at (code p s) n) ≡ Some c
      there = let u : step_at (code p s) n ≡ slice_get (code p s).turn (place_at (code p s) n) = rw (le-ltb n (length (code p s).prologue) h) refl in sym u ∙ e

      o : Origin p s (place_at (code p s) n) c
      o = origin p s (place_at (code p s) n) c there

      low : place_at (code p s) n < length (code p s).turn
      low = slice_get_within (code p s).turn (place_at (code p s) n) c there

      abb : (o : Origin p s (place_at (code p s) n) c) → index_at p s n ≡ o.index
      abb o = located (place_at (code p s) n) o.index o.at (slice_get_within (turn p s) o.index o.instr o.stands) o.inner o.is

      off : (o : Origin p s (place_at (code p s) n) c) → offset_at p s n ≡ o.at
      off o = let z = ap (begins p s) (abb o) in let u = o.is in omega arith

      make : (o : Origin p s (place_at (code p s) n) c)
          → ((o.at + 1 < size p s o.index) × (index_at p s (n + 1) ≡ o.index) × (offset_at p s (n + 1) ≡ o.at + 1)
          × (reaction_at (code p s) (n + 1) ≡ reaction_at (code p s) n)) ⊎ ((size p s o.index ≤ o.at + 1) × (offset_at p s (n + 1) ≡ 0)) → Here n c
      make o x = record {
        late = h;
        index = o.index;
        instr = o.instr;
        at = o.at;
        stands = o.stands;
        from = o.from;
        inner = o.inner;
        low =
            low;
        is = o.is;
        index_is = abb o;
        offset_is = off o;
        next = x;
      }

      by : (o : Origin p s (place_at (code p s) n) c)
          → ((place_at (code p s) n + 1 < length (code p s).turn) × (place_at (code p s) (n + 1) ≡ place_at (code p s) n + 1)
          × (reaction_at (code p s) (n + 1) ≡ reaction_at (code p s) n))
          ⊎ ((place_at (code p s) n + 1 ≡ length (code p s).turn) × (place_at (code p s) (n + 1) ≡ 0)
          × (reaction_at (code p s) (n + 1) ≡ reaction_at (code p s) n + 1)) → Here n c
      by o (inl q) = make o (⊎_elim
          (λ l. let u = o.is in let v = q.1 in let i = located (place_at (code p s) (n + 1)) o.index (o.at + 1) (slice_get_within (turn p s) o.index o.instr o.stands) l (omega arith) in
          let z = ap (begins p s) i in inl (l, i, omega arith, q.2))
          (λ l. let u = o.is in let v = q.1 in let w = o.inner in let w2 = q.0 in inr (l, offset_zero (n + 1) (suc o.index) (omega arith) (omega arith)))
          (cases_lt (o.at + 1) (size p s o.index)))
      by o (inr q) = make o (⊎_elim
          (λ l. let u = o.is in let v = q.0 in let f = blocks_length (block p s) (length (turn p s)) in
          let z = sum_inside (size p s) (length (turn p s)) o.index (o.at + 1)
          (slice_get_within (turn p s) o.index o.instr o.stands) l in absurd (omega arith))
          (λ l. inr (l, offset_first (n + 1) q.1))
          (cases_lt (o.at + 1) (size p s o.index)))

  -- how often place c was passed
  abbrev Made : ℕ → ℕ → ℕ
  Made c n = reaction_at (code p s) n + cond (nat_lt c (place_at (code p s) n)) 1 0

  pub made_here : (n c : ℕ) → length (code p s).prologue ≤ n → place_at (code p s) n < length (code p s).turn → c ≡ place_at (code p s) n
      → (Made c n ≡ reaction_at (code p s) n) × (Made c (n + 1) ≡ reaction_at (code p s) n + 1)
  made_here n c h l e = by (next_place (code p s) n h l)
    where
      now : Made c n ≡ reaction_at (code p s) n
      now = rw (le-ltb c (place_at (code p s) n) (omega arith)) (omega arith)

      by : ((place_at (code p s) n + 1 < length (code p s).turn) × (place_at (code p s) (n + 1) ≡ place_at (code p s) n + 1)
          × (reaction_at (code p s) (n + 1) ≡ reaction_at (code p s) n))
          ⊎ ((place_at (code p s) n + 1 ≡ length (code p s).turn) × (place_at (code p s) (n + 1) ≡ 0)
          × (reaction_at (code p s) (n + 1) ≡ reaction_at (code p s) n + 1)) → (Made c n ≡ reaction_at (code p s) n)
          × (Made c (n + 1) ≡ reaction_at (code p s) n + 1)
      by (inl q) = (now, let z = q.1 in let y = q.2 in rw (lt-ltb c (place_at (code p s) (n + 1)) (omega arith)) (omega arith))
      by (inr q) = (now, let z = q.1 in let y = q.2 in rw (le-ltb c (place_at (code p s) (n + 1)) (omega arith)) (omega arith))

  pub made_else : (n c : ℕ) → length (code p s).prologue ≤ n → place_at (code p s) n < length (code p s).turn → c < length (code p s).turn → (c ≡ place_at (code p s) n → ⊥) → Made c (n + 1) ≡ Made c n
  made_else n c h l k e = by (next_place (code p s) n h l) (cases_lt c (place_at (code p s) n))
    where
      by : ((place_at (code p s) n + 1 < length (code p s).turn) × (place_at (code p s) (n + 1) ≡ place_at (code p s) n + 1)
          × (reaction_at (code p s) (n + 1) ≡ reaction_at (code p s) n))
          ⊎ ((place_at (code p s) n + 1 ≡ length (code p s).turn) × (place_at (code p s) (n + 1) ≡ 0)
          × (reaction_at (code p s) (n + 1) ≡ reaction_at (code p s) n + 1)) → (c < place_at (code p s) n) ⊎ (place_at (code p s) n ≤ c)
          → Made c (n + 1) ≡ Made c n
      by (inl q) (inl m) = let z = q.1 in let y = q.2 in rw (lt-ltb c (place_at (code p s) n) m, lt-ltb c (place_at (code p s) (n + 1)) (omega arith)) (omega arith)
      by (inl q) (inr m) = let z = q.1 in let y = q.2 in rw (le-ltb c (place_at (code p s) n) m, le-ltb c (place_at (code p s) (n + 1)) (omega arith)) (omega arith)
      by (inr q) (inl m) = let z = q.1 in let y = q.2 in rw (lt-ltb c (place_at (code p s) n) m, le-ltb c (place_at (code p s) (n + 1)) (omega arith)) (omega arith)
      by (inr q) (inr m) = let z = q.0 in absurd (omega arith)
