-- From which instruction a micro-step comes.
use Rattle.std.proofs.Common.{◌≡◌, ℕ, zero, suc, ◌+◌, ◌-◌, ◌*◌, ◌<◌, ◌≤◌, ◌⊎◌, true, false, List, [], ◌∷◌, ◌++◌, length, Option, Some, None, refl, sym, ap, subst, inl, inr, arith, ◌∙◌, Bool, cond}
use Rattle.std.specs.Prelude.{slice_get}
use Rattle.std.proofs.lemmas.Option.{same_Some, slice_get_within}
use Rattle.std.proofs.lemmas.Bool.{cases_lt, cases_eq, eq-eqb, ne_eqb}
use native.Mathlib.Nat.{mul-one}
use Rattle.executive_program.specs.System.{Micro, take as taken, see, sub, signal, await, advance, load, store}
use Rattle.executive_program.specs.Owners.{sum_below}
use Rattle.executive_program.specs.declared.program.Instr.{Instr}
use Rattle.executive_program.specs.declared.program.Instr.TheVariants.{Suc0, Suc1, Pre0, Pre1, Call, Send, Recv, Sync}
use Rattle.executive_program.specs.declared.program.Program.{Program}
use Rattle.executive_program.specs.Blocks.{blocks}
use Rattle.executive_program.specs.Instructions.{len_of, pair_depth}
use Rattle.executive_program.specs.MicroSteps.{takes, element_of, wire_of, access, store_at, loads_of, stores_of, loads_at, stores_at, send_at, receive_at, micros_of}
use Rattle.executive_program.specs.WellFormed.{WritesAt, ReadsAt}
use Rattle.phase_laws.proofs.Blocks.{get-append_past, get-append_within, blocks_length, blocks_at, InBlock, in_block, sum_const}

-- x takes semaphore z of pair q, or signals it
abbrev pub Takes : Instr → ℕ → ℕ → Type 0
Takes x z q = ((x ≡ Suc0 q) × (z ≡ 2 * q)) ⊎ ((x ≡ Suc1 q) × (z ≡ 2 * q + 1))

abbrev pub Signals : Instr → ℕ → ℕ → Type 0
Signals x z q = ((x ≡ Pre0 q) × (z ≡ 2 * q)) ⊎ ((x ≡ Pre1 q) × (z ≡ 2 * q + 1))

module _ (p : Program) where
  -- the place of the store of element j of output k
  abbrev pub store_place : Instr → ℕ → ℕ → ℕ
  store_place (Call v ins outs) k j = length (blocks (loads_at p ins) (length ins)) + (sum_below (λ i. length (stores_at p outs i)) k + j)
  store_place (Recv b o) k j = suc (2 * j + 1)
  store_place _ k j = 0

  abbrev pub load_place : Instr → ℕ → ℕ → ℕ
  load_place (Call v ins outs) k j = sum_below (λ i. length (loads_at p ins i)) k + j
  load_place (Send b o) k j = 2 * j + 1
  load_place _ k j = 0

  pub record LoadsBuffer (x : Instr) (r y i : ℕ) : Type 0 where
    pub port : ℕ
    pub buffer : ℕ
    pub number : ℕ
    pub reads : ReadsAt x port buffer
    pub inside : number < len_of p buffer
    pub is : y ≡ element_of p buffer number
    pub first : i ≡ 0
    pub at : r ≡ load_place x port number

  pub record StoresBuffer (x : Instr) (r y i : ℕ) : Type 0 where
    pub port : ℕ
    pub buffer : ℕ
    pub number : ℕ
    pub writes : WritesAt x port buffer
    pub inside : number < len_of p buffer
    pub is : y ≡ element_of p buffer number
    pub first : i ≡ 0
    pub at : r ≡ store_place x port number

  module _ (m t : ℕ) where
    pub record LoadsWire (x : Instr) (r y i : ℕ) : Type 0 where
      pub buffer : ℕ
      pub from : ℕ
      pub number : ℕ
      pub receives : x ≡ Recv buffer from
      pub inside : number < len_of p buffer
      pub is : y ≡ wire_of p m number
      pub access_is : i ≡ access p m number t
      pub at : r ≡ 2 * number + 1

    pub record StoresWire (x : Instr) (r y i : ℕ) : Type 0 where
      pub buffer : ℕ
      pub to : ℕ
      pub number : ℕ
      pub sends : x ≡ Send buffer to
      pub inside : number < len_of p buffer
      pub is : y ≡ wire_of p m number
      pub access_is : i ≡ access p m number t
      pub at : r ≡ 2 * number + 2

    -- half i of the medium's transfers is done by x
    pub data IsHalf (x : Instr) (i : ℕ) : Type 0 where
      sending : (b o : ℕ) → x ≡ Send b o → i ≡ 2 * t → IsHalf x i
      receiving : (b o : ℕ) → x ≡ Recv b o → i ≡ 2 * t + 1 → IsHalf x i

    abbrev pub half_len : Instr → ℕ
    half_len (Send b o) = len_of p b
    half_len (Recv b o) = len_of p b
    half_len _ = 0

    abbrev pub From : Instr → ℕ → Micro → Type 0
    From x r (taken z) = (q : ℕ) × (r ≡ 0) × (pair_depth p q ≡ 1) × Takes x z q
    From x r (see z) = (q : ℕ) × (r ≡ 0) × (pair_depth p q ≡ 1 → ⊥) × Takes x z q
    From x r (sub z) = (q : ℕ) × (r ≡ 1) × (pair_depth p q ≡ 1 → ⊥) × Takes x z q
    From x r (signal z) = (q : ℕ) × (r ≡ 0) × Signals x z q
    From x r (await n i true) = (n ≡ m) × (r ≡ 0) × IsHalf x i
    From x r (await n i false) = (n ≡ m) × (r ≡ 0) × ((b : ℕ) × (o : ℕ) × (x ≡ Sync b o) × (i ≡ 2 * t + 2))
    From x r (advance n i) = (n ≡ m) × (r ≡ 2 * half_len x + 1) × IsHalf x i
    From x r (load y i) = LoadsBuffer x r y i ⊎ LoadsWire x r y i
    From x r (store y i) = StoresBuffer x r y i ⊎ StoresWire x r y i

    none : {A : Type 0} (r : ℕ) (a : A) → slice_get [] r ≡ Some a → ⊥
    none r a e = cc

    one : {A : Type 0} (b : A) (r : ℕ) (a : A) → slice_get (b ∷ []) r ≡ Some a → (r ≡ 0) × (b ≡ a)
    one b zero a e = (refl, same_Some b a e)
    one b (suc r) a e = absurd cc

    single : (x : Instr) (b : Micro) (r : ℕ) (a : Micro) → From x 0 b → slice_get (b ∷ []) r ≡ Some a → From x r a
    single x b r a f e = let o = one b r a e in subst (λ (k : ℕ). From x k a) (sym o.0) (subst (λ (c : Micro). From x 0 c) o.1 f)

    of_takes : (x : Instr) (q z r : ℕ) (a : Micro) → Takes x z q → slice_get (takes (pair_depth p q) z) r ≡ Some a → From x r a
    of_takes x q z r a k e = by (cases_eq (pair_depth p q) 1)
      where
        two : (r : ℕ) → (pair_depth p q ≡ 1 → ⊥) → slice_get (see z ∷ sub z ∷ []) r ≡ Some a → From x r a
        two zero n e = subst (λ (c : Micro). From x 0 c) (same_Some (see z) a e) (q, refl, n, k)
        two (suc zero) n e = subst (λ (c : Micro). From x 1 c) (same_Some (sub z) a e) (q, refl, n, k)
        two (suc (suc r)) n e = absurd cc

        by : (pair_depth p q ≡ 1) ⊎ (pair_depth p q ≡ 1 → ⊥) → From x r a
        by (inl h) = single x (taken z) r a (q, refl, h, k) (ap (λ (b : Bool). slice_get (cond b (taken z ∷ []) (see z ∷ sub z ∷ [])) r) (sym (eq-eqb (pair_depth p q) 1 h)) ∙ e)
        by (inr n) = two r n (ap (λ (b : Bool). slice_get (cond b (taken z ∷ []) (see z ∷ sub z ∷ [])) r) (sym (ne_eqb (pair_depth p q) 1 n)) ∙ e)

    -- the loads of a buffer's elements
    elements : (f : ℕ → Micro) (n r : ℕ) (a : Micro) → slice_get (blocks (λ j. f j ∷ []) n) r ≡ Some a → (r < n) × (f r ≡ a)
    elements f n r a e = let b = in_block (λ j. f j ∷ []) n r a e in let o = one (f b.block) b.at a b.stands in
        let w = b.within in let u = sum_const 1 b.block in let v = b.is in let z = o.0 in let y = mul-one b.block in
        let q : b.block ≡ r = omega arith in (omega arith, ap f (sym q) ∙ o.1)

    two_of : (f g : ℕ → Micro) (n r : ℕ) (a : Micro) → slice_get (blocks (λ j. f j ∷ g j ∷ []) n) r ≡ Some a
        → ((j : ℕ) × (j < n) × (r ≡ 2 * j) × (f j ≡ a)) ⊎ ((j : ℕ) × (j < n) × (r ≡ 2 * j + 1) × (g j ≡ a))
    two_of f g n r a e = by b.at b.is b.stands
      where
        b : InBlock (λ j. f j ∷ g j ∷ []) n r a
        b = in_block (λ j. f j ∷ g j ∷ []) n r a e

        by : (i : ℕ) → r ≡ sum_below (λ _. 2) b.block + i → slice_get (f b.block ∷ g b.block ∷ []) i ≡ Some a
            → ((j : ℕ) × (j < n) × (r ≡ 2 * j) × (f j ≡ a)) ⊎ ((j : ℕ) × (j < n) × (r ≡ 2 * j + 1) × (g j ≡ a))
        by zero h k = let u = sum_const 2 b.block in inl (b.block, b.within, omega arith, same_Some _ a k)
        by (suc zero) h k = let u = sum_const 2 b.block in inr (b.block, b.within, omega arith, same_Some _ a k)
        by (suc (suc i)) h k = absurd cc

    loads_in : (o : Option ℕ) (r : ℕ) (a : Micro) → slice_get (loads_of p o) r ≡ Some a → (b : ℕ) × (o ≡ Some b) × (r < len_of p b) × (load (element_of p b r) 0 ≡ a)
    loads_in None r a e = absurd (none r a e)
    loads_in (Some b) r a e = let q = elements (λ j. load (element_of p b j) 0) (len_of p b) r a e in (b, refl, q.0, q.1)

    stores_in : (o : Option ℕ) (r : ℕ) (a : Micro) → slice_get (stores_of p o) r ≡ Some a → (b : ℕ) × (o ≡ Some b) × (r < len_of p b) × (store (element_of p b r) 0 ≡ a)
    stores_in None r a e = absurd (none r a e)
    stores_in (Some b) r a e = let q = elements (λ j. store (element_of p b j) 0) (len_of p b) r a e in (b, refl, q.0, q.1)

    of_loads : (v : ℕ) (ins outs : List ℕ) (r : ℕ) (a : Micro) → slice_get (blocks (loads_at p ins) (length ins)) r ≡ Some a → From (Call v ins outs) r a
    of_loads v ins outs r a e = let b = in_block (loads_at p ins) (length ins) r a e in let q = loads_in (slice_get ins b.block) b.at a b.stands in
        subst (λ (c : Micro). From (Call v ins outs) r c) q.3 (inl (record { port = b.block; buffer = q.0; number = b.at; reads = q.1; inside = q.2; is = refl; first = refl; at = b.is }))

    of_stores : (v : ℕ) (ins outs : List ℕ) (r i : ℕ) (a : Micro) → r ≡ length (blocks (loads_at p ins) (length ins)) + i
        → slice_get (blocks (stores_at p outs) (length outs)) i ≡ Some a → From (Call v ins outs) r a
    of_stores v ins outs r i a h e = let b = in_block (stores_at p outs) (length outs) i a e in let q = stores_in (slice_get outs b.block) b.at a b.stands in
        let w = b.is in
        subst (λ (c : Micro). From (Call v ins outs) r c) q.3 (inl (record { port = b.block; buffer = q.0; number = b.at; writes = q.1; inside = q.2; is = refl; first = refl; at = omega arith }))

    of_call : (v : ℕ) (ins outs : List ℕ) (r : ℕ) (a : Micro) → slice_get (micros_of p m t (Call v ins outs)) r ≡ Some a → From (Call v ins outs) r a
    of_call v ins outs r a e = by (cases_lt r (length A))
      where
        A : List Micro
        A = blocks (loads_at p ins) (length ins)

        B : List Micro
        B = blocks (stores_at p outs) (length outs)

        by : (r < length A) ⊎ (length A ≤ r) → From (Call v ins outs) r a
        by (inl h) = of_loads v ins outs r a (sym (get-append_within A B r h) ∙ e)
        by (inr h) = let z : r ≡ length A + (r - length A) = omega arith in
            of_stores v ins outs r (r - length A) a z (sym (get-append_past A B (r - length A)) ∙ ap (λ (k : ℕ). slice_get (A ++ B) k) (sym z) ∙ e)

    of_send : (b o r : ℕ) (a : Micro) → slice_get (blocks (send_at p m t b) (len_of p b)) r ≡ Some a → From (Send b o) (suc r) a
    of_send b o r a e = by (two_of (λ j. load (element_of p b j) 0) (λ j. store (wire_of p m j) (access p m j t)) (len_of p b) r a e)
      where
        by : ((j : ℕ) × (j < len_of p b) × (r ≡ 2 * j) × (load (element_of p b j) 0 ≡ a))
            ⊎ ((j : ℕ) × (j < len_of p b) × (r ≡ 2 * j + 1) × (store (wire_of p m j) (access p m j t) ≡ a)) → From (Send b o) (suc r) a
        by (inl q) = let h = q.2 in subst (λ (c : Micro). From (Send b o) (suc r) c) q.3
            (inl (record { port = 0; buffer = b; number = q.0; reads = (refl, refl); inside = q.1; is = refl; first = refl; at = omega arith }))
        by (inr q) = let h = q.2 in subst (λ (c : Micro). From (Send b o) (suc r) c) q.3
            (inr (record { buffer = b; to = o; number = q.0; sends = refl; inside = q.1; is = refl; access_is = refl; at = omega arith }))

    of_receive : (b o r : ℕ) (a : Micro) → slice_get (blocks (receive_at p m t b) (len_of p b)) r ≡ Some a → From (Recv b o) (suc r) a
    of_receive b o r a e = by (two_of (λ j. load (wire_of p m j) (access p m j t)) (λ j. store (element_of p b j) 0) (len_of p b) r a e)
      where
        by : ((j : ℕ) × (j < len_of p b) × (r ≡ 2 * j) × (load (wire_of p m j) (access p m j t) ≡ a))
            ⊎ ((j : ℕ) × (j < len_of p b) × (r ≡ 2 * j + 1) × (store (element_of p b j) 0 ≡ a)) → From (Recv b o) (suc r) a
        by (inl q) = let h = q.2 in subst (λ (c : Micro). From (Recv b o) (suc r) c) q.3
            (inr (record { buffer = b; from = o; number = q.0; receives = refl; inside = q.1; is = refl; access_is = refl; at = omega arith }))
        by (inr q) = let h = q.2 in subst (λ (c : Micro). From (Recv b o) (suc r) c) q.3
            (inl (record { port = 0; buffer = b; number = q.0; writes = (refl, refl); inside = q.1; is = refl; first = refl; at = omega arith }))

    -- what a wait, a middle part of two micro-steps an element, and an advance hold
    of_half : (x : Instr) (w z : Micro) (A : List Micro) (r : ℕ) (a : Micro) → From x 0 w → ((i : ℕ) → slice_get A i ≡ Some a → From x (suc i) a) → From x (length A + 1) z
        → slice_get (w ∷ (A ++ z ∷ [])) r ≡ Some a → From x r a
    of_half x w z A zero a f g h e = subst (λ (c : Micro). From x 0 c) (same_Some w a e) f
    of_half x w z A (suc r) a f g h e = by (cases_lt r (length A))
      where
        by : (r < length A) ⊎ (length A ≤ r) → From x (suc r) a
        by (inl l) = g r (sym (get-append_within A (z ∷ []) r l) ∙ e)
        by (inr l) = let y : r ≡ length A + (r - length A) = omega arith in
            let o = one z (r - length A) a (sym (get-append_past A (z ∷ []) (r - length A)) ∙ ap (λ (k : ℕ). slice_get (A ++ z ∷ []) k) (sym y) ∙ e) in
            let v = o.0 in let u : length A + 1 ≡ suc r = omega arith in
            subst (λ (k : ℕ). From x k a) u (subst (λ (c : Micro). From x (length A + 1) c) o.1 h)

    pub two_length : (f g : ℕ → Micro) (n : ℕ) → length (blocks (λ j. f j ∷ g j ∷ []) n) ≡ 2 * n
    two_length f g n = let a = blocks_length (λ j. f j ∷ g j ∷ []) n in let b = sum_const 2 n in omega arith

    pub from : (x : Instr) (r : ℕ) (a : Micro) → slice_get (micros_of p m t x) r ≡ Some a → From x r a
    from (Suc0 q) r a e = of_takes (Suc0 q) q (2 * q) r a (inl (refl, refl)) e
    from (Suc1 q) r a e = of_takes (Suc1 q) q (2 * q + 1) r a (inr (refl, refl)) e
    from (Pre0 q) r a e = single (Pre0 q) (signal (2 * q)) r a (q, refl, inl (refl, refl)) e
    from (Pre1 q) r a e = single (Pre1 q) (signal (2 * q + 1)) r a (q, refl, inr (refl, refl)) e
    from (Call v ins outs) r a e = of_call v ins outs r a e
    from (Send b o) r a e = of_half (Send b o) (await m (2 * t) true) (advance m (2 * t)) (blocks (send_at p m t b) (len_of p b)) r a
        (refl, refl, sending b o refl refl) (λ i. of_send b o i a)
        (refl, ap (λ (k : ℕ). k + 1) (two_length (λ j. load (element_of p b j) 0) (λ j. store (wire_of p m j) (access p m j t)) (len_of p b)), sending b o refl refl) e
    from (Recv b o) r a e = of_half (Recv b o) (await m (2 * t + 1) true) (advance m (2 * t + 1)) (blocks (receive_at p m t b) (len_of p b)) r a
        (refl, refl, receiving b o refl refl) (λ i. of_receive b o i a)
        (refl, ap (λ (k : ℕ). k + 1) (two_length (λ j. load (wire_of p m j) (access p m j t)) (λ j. store (element_of p b j) 0) (len_of p b)), receiving b o refl refl) e
    from (Sync b o) r a e = single (Sync b o) (await m (2 * t + 2) false) r a (refl, refl, (b, o, refl, refl)) e

    -- and back: where the stores, the loads, the wait and the advance of an instruction stand
    get_elements : (f : ℕ → Micro) (n j : ℕ) → j < n → slice_get (blocks (λ i. f i ∷ []) n) j ≡ Some (f j)
    get_elements f n j h = let u = sum_const 1 j in let y = mul-one j in let z : sum_below (λ _. 1) j + 0 ≡ j = omega arith in
        ap (λ (k : ℕ). slice_get (blocks (λ i. f i ∷ []) n) k) (sym z) ∙ blocks_at (λ i. f i ∷ []) n j 0 h (omega arith)

    get_two : (f g : ℕ → Micro) (n j : ℕ) → j < n → (slice_get (blocks (λ i. f i ∷ g i ∷ []) n) (2 * j) ≡ Some (f j)) × (slice_get (blocks (λ i. f i ∷ g i ∷ []) n) (2 * j + 1) ≡ Some (g j))
    get_two f g n j h = let u = sum_const 2 j in let z : sum_below (λ _. 2) j + 0 ≡ 2 * j = omega arith in let y : sum_below (λ _. 2) j + 1 ≡ 2 * j + 1 = omega arith in (
      ap (λ (k : ℕ). slice_get (blocks (λ i. f i ∷ g i ∷ []) n) k) (sym z) ∙ blocks_at (λ i. f i ∷ g i ∷ []) n j 0 h (omega arith),
      ap (λ (k : ℕ). slice_get (blocks (λ i. f i ∷ g i ∷ []) n) k) (sym y) ∙ blocks_at (λ i. f i ∷ g i ∷ []) n j 1 h (omega arith),
    )

    pub store_stands : (x : Instr) (k b j : ℕ) → WritesAt x k b → j < len_of p b → slice_get (micros_of p m t x) (store_place x k j) ≡ Some (store (element_of p b j) 0)
    store_stands (Call v ins outs) k b j e h = get-append_past (blocks (loads_at p ins) (length ins)) (blocks (stores_at p outs) (length outs)) (sum_below (λ i. length (stores_at p outs i)) k + j)
        ∙ blocks_at (stores_at p outs) (length outs) k j (slice_get_within outs k b e) size_is ∙ here
      where
        block_is : stores_at p outs k ≡ blocks (store_at p b) (len_of p b)
        block_is = ap (stores_of p) e

        here : slice_get (stores_at p outs k) j ≡ Some (store (element_of p b j) 0)
        here = ap (λ (l : List Micro). slice_get l j) block_is ∙ get_elements (λ i. store (element_of p b i) 0) (len_of p b) j h

        size_is : j < length (stores_at p outs k)
        size_is = slice_get_within (stores_at p outs k) j (store (element_of p b j) 0) here
    store_stands (Suc0 _) k b j e h = elim e [ ]
    store_stands (Suc1 _) k b j e h = elim e [ ]
    store_stands (Pre0 _) k b j e h = elim e [ ]
    store_stands (Pre1 _) k b j e h = elim e [ ]
    store_stands (Send _ _) k b j e h = elim e [ ]
    store_stands (Sync _ _) k b j e h = elim e [ ]
    store_stands (Recv o q) k b j e h = subst (λ (z : ℕ). slice_get (micros_of p m t (Recv o q)) (suc (2 * j + 1)) ≡ Some (store (element_of p z j) 0)) e.0
        (get-append_within (blocks (receive_at p m t o) (len_of p o)) (advance m (2 * t + 1) ∷ []) (2 * j + 1)
        (let l = two_length (λ i. load (wire_of p m i) (access p m i t)) (λ i. store (element_of p o i) 0) (len_of p o) in
        let z = ap (len_of p) e.0 in omega arith)
        ∙ (get_two (λ i. load (wire_of p m i) (access p m i t)) (λ i. store (element_of p o i) 0) (len_of p o) j inside).1)
      where
        inside : j < len_of p o
        inside = let z = ap (len_of p) e.0 in omega arith

    pub wire_store_stands : (b o j : ℕ) → j < len_of p b → slice_get (micros_of p m t (Send b o)) (suc (2 * j + 1)) ≡ Some (store (wire_of p m j) (access p m j t))
    wire_store_stands b o j h = get-append_within (blocks (send_at p m t b) (len_of p b)) (advance m (2 * t) ∷ []) (2 * j + 1)
        (let l = two_length (λ i. load (element_of p b i) 0) (λ i. store (wire_of p m i) (access p m i t)) (len_of p b) in omega arith)
        ∙ (get_two (λ i. load (element_of p b i) 0) (λ i. store (wire_of p m i) (access p m i t)) (len_of p b) j h).1

    last : (A : List Micro) (z : Micro) (n : ℕ) → length A ≡ n → slice_get (A ++ z ∷ []) n ≡ Some z
    last A z n e = let y : n ≡ length A + 0 = omega arith in ap (λ (k : ℕ). slice_get (A ++ z ∷ []) k) y ∙ get-append_past A (z ∷ []) 0

    pub send_advances : (b o : ℕ) → slice_get (micros_of p m t (Send b o)) (suc (2 * len_of p b)) ≡ Some (advance m (2 * t))
    send_advances b o = last (blocks (send_at p m t b) (len_of p b)) (advance m (2 * t)) (2 * len_of p b)
        (two_length (λ i. load (element_of p b i) 0) (λ i. store (wire_of p m i) (access p m i t)) (len_of p b))

    pub receive_advances : (b o : ℕ) → slice_get (micros_of p m t (Recv b o)) (suc (2 * len_of p b)) ≡ Some (advance m (2 * t + 1))
    receive_advances b o = last (blocks (receive_at p m t b) (len_of p b)) (advance m (2 * t + 1)) (2 * len_of p b)
        (two_length (λ i. load (wire_of p m i) (access p m i t)) (λ i. store (element_of p b i) 0) (len_of p b))
