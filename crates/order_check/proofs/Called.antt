-- The test of calls is true exactly where each operation is called right.
use Rattle.std.proofs.Common.{◌≡◌, ℕ, zero, suc, ◌+◌, ◌<◌, Bool, true, ◌&&◌, nat_eq, List, [], ◌∷◌, ◌++◌, map, drop, length, refl, sym, ap, subst, eq-eqb, arith, add-zero, zero-add, ◌∙◌}
use Rattle.std.specs.Prelude.{slice_get, Option, Some, None, is_none, nat_lt, ℤ}
use Rattle.std.specs.Cmp.Derive.{both_true}
use Rattle.std.proofs.lemmas.Bool.{false≢true, and_parts, eqb-true, ltb-true, lt-ltb}
use Rattle.executive_program.specs.declared.Guard.{Guard}
use Rattle.executive_program.specs.declared.Kind.{Kind}
use Rattle.executive_program.specs.declared.Kind.TheVariants.{Get}
use Rattle.executive_program.specs.declared.Source.{Source}
use Rattle.executive_program.specs.declared.Vertex.{Vertex}
use Rattle.executive_program.specs.Graph.{Graph, same_source}
use Rattle.executive_program.specs.declared.program.Buffer.{Buffer}
use Rattle.executive_program.specs.declared.program.Instr.{Instr}
use Rattle.executive_program.specs.declared.program.Instr.TheVariants.{Call}
use Rattle.executive_program.specs.declared.program.Program.{Program}
use Rattle.executive_program.specs.Instructions.{len_of, medium, turn}
use Rattle.executive_program.specs.Places.{caller_of, calls, carried, ins_in, outs_in, places}
use Rattle.executive_program.specs.WellFormed.{CarryInOrder, CarryOutputs, HasLength, IsCalled, Stands, len_is}
use Rattle.executive_program.proofs.Passing.{call_is}
use Rattle.program_walks.specs.Walks.{all_at, every, implies}
use Rattle.order_check.specs.Calls.{are_called, called_at, carries, carry_guards, carry_inputs, gives, gives_at, has_len, has_output, is_before_twin, is_called, takes}
use Rattle.program_walks.specs.Acts.{is_only, passes}
use Rattle.order_check.proofs.Kept.{is_same_source, same_source_is}
use Rattle.program_walks.proofs.ListTests.{every_of, of_every, from_zero, to_zero, implied, implying}
use Rattle.program_walks.proofs.Readings.{entry_is, is_entry, same_numbers}

call_there : (v : ℕ) (o : Option Instr) → passes (calls v) o ≡ true → o ≡ Some (Call v (ins_in o) (outs_in o))
call_there v None h = absurd (false≢true h)
call_there v (Some x) h = ap (λ (y : Instr). Some y) (call_is v x h)

none_is : (o : Option ℕ) → is_none o ≡ true → o ≡ None
none_is None h = refl
none_is (Some m) h = absurd (false≢true h)

module _ (p : Program) where
  pub twins_of : (s a : ℕ) (kind : Kind) (twin : Option ℕ) → is_before_twin p s a kind twin ≡ true → (z : List ℤ) (u : ℕ) → kind ≡ Get z → twin ≡ Some u → (s ≡ caller_of p u) × (a < called_at p u)
  twins_of s a kind twin h z u k t =
      let both : is_before_twin p s a (Get z) (Some u) ≡ true = subst (λ (k : Kind). is_before_twin p s a k (Some u) ≡ true) k (subst (λ (o : Option ℕ). is_before_twin p s a kind o ≡ true) t h) in
      let parts = and_parts (nat_eq s (caller_of p u)) (nat_lt a (called_at p u)) both in
      (eqb-true s (caller_of p u) parts.0, ltb-true a (called_at p u) parts.1)

  pub of_twins : (s a : ℕ) (kind : Kind) (twin : Option ℕ) → ((z : List ℤ) (u : ℕ) → kind ≡ Get z → twin ≡ Some u → (s ≡ caller_of p u) × (a < called_at p u)) → is_before_twin p s a kind twin ≡ true
  of_twins s a (Get z) (Some u) h = let r = h z u refl refl in both_true (eq-eqb s (caller_of p u) r.0) (lt-ltb a (called_at p u) r.1)
  of_twins s a _ _ h = refl

  abbrev only_test : ℕ → ℕ → ℕ → ℕ → ℕ → Instr → Bool
  only_test v s a t b y = implies (calls v y) (nat_eq t s && nat_eq b a)

  -- the operation is called at this place and nowhere else
  pub only_call : (v s a : ℕ) → is_only p (calls v) s a ≡ true
      → Stands p s a (Call v (ins_in (slice_get (turn p s) a)) (outs_in (slice_get (turn p s) a))) × ((t b : ℕ) (ins outs : List ℕ) → Stands p t b (Call v ins outs) → (t ≡ s) × (b ≡ a))
  only_call v s a h =
      let only = and_parts (passes (calls v) (slice_get (turn p s) a)) (every p (only_test v s a)) h in (
        call_there v (slice_get (turn p s) a) only.0,
        λ t b ins outs e.
            let r = and_parts (nat_eq t s) (nat_eq b a)
            (implied (calls v (Call v ins outs)) (nat_eq t s && nat_eq b a)
            (every_of p (only_test v s a) only.1 t b (Call v ins outs) e) (same_numbers v)) in
            (eqb-true t s r.0, eqb-true b a r.1),
      )

  pub of_only_call : (v s a : ℕ) (ins outs : List ℕ) → Stands p s a (Call v ins outs)
      → ((t b : ℕ) (ins outs : List ℕ) → Stands p t b (Call v ins outs) → (t ≡ s) × (b ≡ a)) → is_only p (calls v) s a ≡ true
  of_only_call v s a ins outs e only =
      both_true (subst (λ (o : Option Instr). passes (calls v) o ≡ true) (sym e) (same_numbers v))
      (of_every p (only_test v s a) (λ t b y f.
      implying (calls v y) (nat_eq t s && nat_eq b a) (λ ty.
      let z = only t b (ins_in (Some y)) (outs_in (Some y)) (f ∙ ap (λ (z : Instr). Some z) (call_is v y ty)) in both_true (eq-eqb t s z.0) (eq-eqb b a z.1))))

  -- the tests of both: the only call, in a computation sequence
  pub call_alone : (v s a : ℕ) → (is_only p (calls v) s a && is_none (medium p s)) ≡ true → (is_only p (calls v) s a ≡ true) × (medium p s ≡ None)
  call_alone v s a h = let r = and_parts (is_only p (calls v) s a) (is_none (medium p s)) h in (r.0, none_is (medium p s) r.1)

module _ (p : Program) (order : List ℕ) (g : Graph) where
  length_told : (x : Source) (n : ℕ) (o : Option Vertex) → slice_get g.vertices x.vertex ≡ o → has_output o x.port n ≡ true → HasLength p order (places p) (carried p) g x n
  length_told x n None e h = absurd (false≢true h)
  length_told x n (Some v) e h = rw e (entry_is (slice_get v.outs x.port) n h)

  told_length : (x : Source) (n : ℕ) (o : Option Vertex) → slice_get g.vertices x.vertex ≡ o → HasLength p order (places p) (carried p) g x n → has_output o x.port n ≡ true
  told_length x n None e h = absurd (rw e at h)
  told_length x n (Some v) e h = is_entry (slice_get v.outs x.port) n (rw e at h)

  carries_is : (x : Source) (b : ℕ) → carries p g.vertices x (Some b) ≡ true → (b < length p.buffers) × (carried p b ≡ x) × HasLength p order (places p) (carried p) g x (len_of p b)
  carries_is x b h =
      let long = and_parts _ (has_output (slice_get g.vertices x.vertex) x.port (len_of p b)) h in
      let named = and_parts (nat_lt b (length p.buffers)) (same_source (carried p b) x) long.0 in
      (ltb-true b (length p.buffers) named.0, same_source_is (carried p b) x named.1, length_told x (len_of p b) (slice_get g.vertices x.vertex) refl long.1)

  is_carries : (x : Source) (b : ℕ) → b < length p.buffers → carried p b ≡ x → HasLength p order (places p) (carried p) g x (len_of p b) → carries p g.vertices x (Some b) ≡ true
  is_carries x b l e h = both_true (both_true (lt-ltb b (length p.buffers) l) (is_same_source (carried p b) x e)) (told_length x (len_of p b) (slice_get g.vertices x.vertex) refl h)

  carry_of : (bs : List ℕ) (xs : List Source) → length bs ≡ length xs
      → ((k : ℕ) (x : Source) → slice_get xs k ≡ Some x → carries p g.vertices x (slice_get bs k) ≡ true) → CarryInOrder p order (places p) (carried p) g bs xs
  carry_of [] [] n h = tt
  carry_of [] (x ∷ xs) n h = absurd (omega (arith, n))
  carry_of (b ∷ bs) [] n h = absurd (omega (arith, n))
  carry_of (b ∷ bs) (x ∷ xs) n h =
      let c = carries_is x b (h zero x refl) in
      (c.0, c.1, c.2, carry_of bs xs (let m : length bs ≡ length xs = omega (arith, n) in m) (λ k y e. h (suc k) y e))

  take_of : (ins : List ℕ) (ds : List Guard) (xs : List Source) → length ins ≡ length ds + length xs
      → ((k : ℕ) (d : Guard) → slice_get ds k ≡ Some d → carries p g.vertices d.source (slice_get ins k) ≡ true)
      → ((k : ℕ) (x : Source) → slice_get xs k ≡ Some x → carries p g.vertices x (slice_get (drop (length ds) ins) k) ≡ true)
      → CarryInOrder p order (places p) (carried p) g ins (map (λ d. d.source) ds ++ xs)
  take_of ins [] xs n h i = carry_of ins xs (let m : length ins ≡ length xs = omega (arith, n) in m) i
  take_of [] (d ∷ ds) xs n h i = absurd (omega (arith, n))
  take_of (b ∷ ins) (d ∷ ds) xs n h i =
      let c = carries_is d.source b (h zero d refl) in
      (c.0, c.1, c.2, take_of ins ds xs (let m : length ins ≡ length ds + length xs = omega (arith, n) in m) (λ k e f. h (suc k) e f) i)

  long_carry : (bs : List ℕ) (xs : List Source) → CarryInOrder p order (places p) (carried p) g bs xs → length bs ≡ length xs
  long_carry [] [] h = refl
  long_carry [] (x ∷ xs) h = absurd h
  long_carry (b ∷ bs) [] h = absurd h
  long_carry (b ∷ bs) (x ∷ xs) h = let r = long_carry bs xs h.3 in let m : length (b ∷ bs) ≡ length (x ∷ xs) = omega (arith, r) in m

  each_carry : (bs : List ℕ) (xs : List Source) → CarryInOrder p order (places p) (carried p) g bs xs → (k : ℕ) (x : Source) → slice_get xs k ≡ Some x → carries p g.vertices x (slice_get bs k) ≡ true
  each_carry [] [] h k x e = absurd (cc)
  each_carry [] (y ∷ xs) h k x e = absurd h
  each_carry (b ∷ bs) [] h k x e = absurd h
  each_carry (b ∷ bs) (y ∷ xs) h zero x e =
      let same : y ≡ x = cc in
      subst (λ (z : Source). carries p g.vertices z (Some b) ≡ true) same (is_carries y b h.0 h.1 h.2)
  each_carry (b ∷ bs) (y ∷ xs) h (suc k) x e = each_carry bs xs h.3 k x e

  long_take : (ins : List ℕ) (ds : List Guard) (xs : List Source) → CarryInOrder p order (places p) (carried p) g ins (map (λ d. d.source) ds ++ xs) → length ins ≡ length ds + length xs
  long_take ins [] xs h = let r = long_carry ins xs h in let m : length ins ≡ 0 + length xs = omega (arith, r) in m
  long_take [] (d ∷ ds) xs h = absurd h
  long_take (b ∷ ins) (d ∷ ds) xs h = let r = long_take ins ds xs h.3 in let m : length (b ∷ ins) ≡ length (d ∷ ds) + length xs = omega (arith, r) in m

  each_guard : (ins : List ℕ) (ds : List Guard) (xs : List Source)
      → CarryInOrder p order (places p) (carried p) g ins (map (λ d. d.source) ds ++ xs) → (k : ℕ) (d : Guard) → slice_get ds k ≡ Some d
      → carries p g.vertices d.source (slice_get ins k) ≡ true
  each_guard ins [] xs h k d e = absurd (cc)
  each_guard [] (f ∷ ds) xs h k d e = absurd h
  each_guard (b ∷ ins) (f ∷ ds) xs h zero d e =
      let same : f ≡ d = cc in
      subst (λ (z : Guard). carries p g.vertices z.source (Some b) ≡ true) same (is_carries f.source b h.0 h.1 h.2)
  each_guard (b ∷ ins) (f ∷ ds) xs h (suc k) d e = each_guard ins ds xs h.3 k d e

  each_input : (ins : List ℕ) (ds : List Guard) (xs : List Source) → CarryInOrder p order (places p) (carried p) g ins (map (λ d. d.source) ds ++ xs) → (k : ℕ) (x : Source) → slice_get xs k ≡ Some x
      → carries p g.vertices x (slice_get (drop (length ds) ins) k) ≡ true
  each_input ins [] xs h k x e = each_carry ins xs h k x e
  each_input [] (f ∷ ds) xs h k x e = absurd h
  each_input (b ∷ ins) (f ∷ ds) xs h k x e = each_input ins ds xs h.3 k x e

  takes_of : (ins : List ℕ) (ds : List Guard) (xs : List Source) → takes p g.vertices ins ds xs ≡ true → CarryInOrder p order (places p) (carried p) g ins (map (λ d. d.source) ds ++ xs)
  takes_of ins ds xs h =
      let inputs = and_parts _ (carry_inputs p g.vertices (drop (length ds) ins) xs) h in
      let guards = and_parts (nat_eq (length ins) (length ds + length xs)) (carry_guards p g.vertices ins ds) inputs.0 in
      take_of ins ds xs (eqb-true (length ins) (length ds + length xs) guards.0)
      (from_zero (λ (k : ℕ) (d : Guard). carries p g.vertices d.source (slice_get ins k)) ds guards.1)
      (from_zero (λ (k : ℕ) (x : Source). carries p g.vertices x (slice_get (drop (length ds) ins) k)) xs inputs.1)

  pub of_takes : (ins : List ℕ) (ds : List Guard) (xs : List Source) → CarryInOrder p order (places p) (carried p) g ins (map (λ d. d.source) ds ++ xs) → takes p g.vertices ins ds xs ≡ true
  of_takes ins ds xs h =
      both_true (both_true (eq-eqb (length ins) (length ds + length xs) (long_take ins ds xs h))
      (to_zero (λ (k : ℕ) (d : Guard). carries p g.vertices d.source (slice_get ins k)) ds (each_guard ins ds xs h)))
      (to_zero (λ (k : ℕ) (x : Source). carries p g.vertices x (slice_get (drop (length ds) ins) k)) xs (each_input ins ds xs h))

  len_told : (o : Option Buffer) (n : ℕ) → has_len o n ≡ true → len_is p o n
  len_told None n h = absurd (false≢true h)
  len_told (Some x) n h = eqb-true x.len n h

  told_len : (o : Option Buffer) (n : ℕ) → len_is p o n → has_len o n ≡ true
  told_len None n h = absurd h
  told_len (Some x) n h = eq-eqb x.len n h

  give_of : (v port : ℕ) (bs ns : List ℕ) → length bs ≡ length ns
      → ((k n : ℕ) → slice_get ns k ≡ Some n → gives_at p v (port + k) n (slice_get bs k) ≡ true) → CarryOutputs p order (places p) (carried p) g v port bs ns
  give_of v port [] [] l h = tt
  give_of v port [] (n ∷ ns) l h = absurd (omega (arith, l))
  give_of v port (b ∷ bs) [] l h = absurd (omega (arith, l))
  give_of v port (b ∷ bs) (n ∷ ns) l h =
      let here = and_parts (same_source (carried p b) (record { vertex = v; port = port })) (has_len (slice_get p.buffers b) n)
      (subst (λ (k : ℕ). gives_at p v k n (Some b) ≡ true) (add-zero port) (h zero n refl)) in (
        same_source_is (carried p b) (record { vertex = v; port = port }) here.0,
        len_told (slice_get p.buffers b) n here.1,
        give_of v (port + 1) bs ns (let m : length bs ≡ length ns = omega (arith, l) in m)
            (λ k m e. subst (λ (q : ℕ). gives_at p v q m (slice_get bs k) ≡ true) (let q : port + suc k ≡ port + 1 + k = omega arith in q) (h (suc k) m e)),
      )

  long_give : (v port : ℕ) (bs ns : List ℕ) → CarryOutputs p order (places p) (carried p) g v port bs ns → length bs ≡ length ns
  long_give v port [] [] h = refl
  long_give v port [] (n ∷ ns) h = absurd h
  long_give v port (b ∷ bs) [] h = absurd h
  long_give v port (b ∷ bs) (n ∷ ns) h = let r = long_give v (port + 1) bs ns h.2 in let m : length (b ∷ bs) ≡ length (n ∷ ns) = omega (arith, r) in m

  each_give : (v port : ℕ) (bs ns : List ℕ) → CarryOutputs p order (places p) (carried p) g v port bs ns → (k n : ℕ) → slice_get ns k ≡ Some n → gives_at p v (port + k) n (slice_get bs k) ≡ true
  each_give v port [] [] h k n e = absurd (cc)
  each_give v port [] (m ∷ ns) h k n e = absurd h
  each_give v port (b ∷ bs) [] h k n e = absurd h
  each_give v port (b ∷ bs) (m ∷ ns) h zero n e =
      let same : m ≡ n = cc in
      subst (λ (q : ℕ). gives_at p v q n (Some b) ≡ true) (sym (add-zero port))
      (both_true (is_same_source (carried p b) (record { vertex = v; port = port }) h.0) (subst (λ (z : ℕ). has_len (slice_get p.buffers b) z ≡ true) same (told_len (slice_get p.buffers b) m h.1)))
  each_give v port (b ∷ bs) (m ∷ ns) h (suc k) n e =
      subst (λ (q : ℕ). gives_at p v q n (slice_get bs k) ≡ true) (let q : port + 1 + k ≡ port + suc k = omega arith in q) (each_give v (port + 1) bs ns h.2 k n e)

  gives_of : (v : ℕ) (bs ns : List ℕ) → gives p v bs ns ≡ true → CarryOutputs p order (places p) (carried p) g v 0 bs ns
  gives_of v bs ns h =
      let parts = and_parts (nat_eq (length bs) (length ns)) (all_at (λ (k n : ℕ). gives_at p v k n (slice_get bs k)) 0 ns) h in
      give_of v 0 bs ns (eqb-true (length bs) (length ns) parts.0)
      (λ k n e. subst (λ (q : ℕ). gives_at p v q n (slice_get bs k) ≡ true) (sym (zero-add k)) (from_zero (λ (k n : ℕ). gives_at p v k n (slice_get bs k)) ns parts.1 k n e))

  pub of_gives : (v : ℕ) (bs ns : List ℕ) → CarryOutputs p order (places p) (carried p) g v 0 bs ns → gives p v bs ns ≡ true
  of_gives v bs ns h =
      both_true (eq-eqb (length bs) (length ns) (long_give v 0 bs ns h))
      (to_zero (λ (k n : ℕ). gives_at p v k n (slice_get bs k)) ns (λ k n e. subst (λ (q : ℕ). gives_at p v q n (slice_get bs k) ≡ true) (zero-add k) (each_give v 0 bs ns h k n e)))

  call_of : (v : ℕ) (x : Vertex) → is_called p g.vertices v x ≡ true → IsCalled p order (places p) (carried p) g v x
  call_of v x h =
      let s = caller_of p v in
      let a = called_at p v in
      let twin = and_parts _ (is_before_twin p s a x.kind x.twin) h in
      let given = and_parts _ (gives p v (outs_in (slice_get (turn p s) a)) x.outs) twin.0 in
      let taken = and_parts _ (takes p g.vertices (ins_in (slice_get (turn p s) a)) x.guards x.ins) given.0 in
      let alone = call_alone p v s a taken.0 in
      let only = only_call p v s a alone.0 in
      record {
        stands = only.0;
        only = only.1;
        computes = alone.1;
        takes = takes_of (ins_in (slice_get (turn p s) a)) x.guards x.ins taken.1;
        gives = gives_of v (outs_in (slice_get (turn p s) a)) x.outs given.1;
        twins = twins_of p s a x.kind x.twin twin.1;
      }

  of_call : (v : ℕ) (x : Vertex) → IsCalled p order (places p) (carried p) g v x → is_called p g.vertices v x ≡ true
  of_call v x r =
      let s = caller_of p v in
      let a = called_at p v in
      both_true (both_true (both_true (both_true
      (of_only_call p v s a (ins_in (slice_get (turn p s) a)) (outs_in (slice_get (turn p s) a)) r.stands r.only)
      (subst (λ (o : Option ℕ). is_none o ≡ true) (sym r.computes) refl))
      (of_takes (ins_in (slice_get (turn p s) a)) x.guards x.ins r.takes))
      (of_gives v (outs_in (slice_get (turn p s) a)) x.outs r.gives))
      (of_twins p s a x.kind x.twin r.twins)

  pub calls_of : are_called p g.vertices ≡ true → (v : ℕ) (x : Vertex) → slice_get g.vertices v ≡ Some x → IsCalled p order (places p) (carried p) g v x
  calls_of h v x e = call_of v x (from_zero (λ v x. is_called p g.vertices v x) g.vertices h v x e)

  pub of_calls : ((v : ℕ) (x : Vertex) → slice_get g.vertices v ≡ Some x → IsCalled p order (places p) (carried p) g v x) → are_called p g.vertices ≡ true
  of_calls h = to_zero (λ v x. is_called p g.vertices v x) g.vertices (λ v x e. of_call v x (h v x e))
