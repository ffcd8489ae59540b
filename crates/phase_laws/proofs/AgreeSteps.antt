-- The micro-steps of the core and those of the theory are the same, one by one.
use Rattle.std.proofs.Common.{◌≡◌, ℕ, zero, suc, ◌+◌, ◌*◌, ◌<◌, ◌≤◌, ◌⊎◌, Bool, true, false, cond, List, [], ◌∷◌, ◌++◌, length, take, Option, Some, None, refl, sym, ap, subst, inl, inr, arith, ◌∙◌}
use Rattle.std.specs.Prelude.{◌-◌, slice_get, nat_eq, nat_lt}
use Rattle.std.specs.List.{count_by}
use Rattle.std.proofs.lemmas.Bool.{cases_eq, cases_lt, eq-eqb}
use Rattle.std.proofs.lemmas.List.{length-map}
use Rattle.std.proofs.lemmas.Option.{same_Some, slice_get_past}
use Rattle.executive_program.specs.Graph.{Graph}
use Rattle.executive_program.specs.declared.Seq.{Seq}
use Rattle.executive_program.specs.System.{Micro, take as taken, see, sub}
use Rattle.executive_program.specs.Owners.{sum_below}
use Rattle.executive_program.specs.declared.program.Instr.{Instr}
use Rattle.executive_program.specs.declared.program.Instr.TheVariants.{Suc0, Suc1, Pre0, Pre1, Call, Send, Recv, Sync}
use Rattle.executive_program.specs.declared.program.SeqCode.{SeqCode}
use Rattle.executive_program.specs.declared.program.Program.{Program}
use Rattle.executive_program.specs.declared.steps.MicroStep.{MicroStep}
use Rattle.executive_program.specs.declared.steps.MicroStep.TheVariants.{Take, See, Lower}
use Rattle.executive_program.specs.declared.steps.OnLoad.TheVariants.{Gather, Compute as ComputeIn}
use Rattle.executive_program.specs.declared.steps.OnStore.TheVariants.{Give, Compute as ComputeOut}
use Rattle.executive_program.specs.Blocks.{blocks, repeated}
use Rattle.executive_program.specs.Instructions.{is_communication, turn, turn_of, prologue, prologue_of, medium, medium_in, number_or, len_of, pair_depth, communications, readers, Reader}
use Rattle.executive_program.specs.MicroSteps.{
  is_on,
  takes,
  transfers,
  element_of,
  wire_of,
  wire_len,
  longest_sent,
  longest_in,
  longest_on,
  sent_len,
  load_at,
  store_at,
  loads_of,
  stores_of,
  loads_at,
  stores_at,
  send_at,
  receive_at,
  micros_of,
  micros_in,
  block_in,
  code,
}
use Rattle.executive_program.specs.Steps.{
  take_steps,
  on_load,
  on_store,
  load_step,
  store_step,
  send_step,
  receive_step,
  load_steps,
  store_steps,
  input_steps,
  output_steps,
  len_at,
  elements_in,
  steps_of,
  steps_in,
  steps_at,
  steps_in_list,
  steps_by,
  steps,
}
use Rattle.executive_program.specs.Places.{calling, signals_of, opening_of, opening_signals, places, Transfer}
use Rattle.executive_program.specs.WellFormed.{Stands, IsTransfer, IsOrder, operator_of}
use Rattle.semaphore_core.specs.Job.{JobData}
use Rattle.phase_laws.specs.Agrees.{IsFormed, LoadsHere, StoresHere, Matches, AreMatched, IsMatched}
use Rattle.phase_laws.proofs.Blocks.{in_block}
use Rattle.phase_laws.proofs.Places.{slice_get_some}
use Rattle.phase_laws.proofs.Counting.{count_more, count_less}

-- what stands in a list of one thing
repeated_is : {A : Type 0} (x y : A) (n i : ℕ) → slice_get (repeated x n) i ≡ Some y → y ≡ x
repeated_is x y zero i e = absurd (cc)
repeated_is x y (suc n) zero e = sym (same_Some x y e)
repeated_is x y (suc n) (suc i) e = repeated_is x y n i e

module _ (p : Program) (media s : ℕ) where
  -- lists that match, one after the other, and block by block
  matched_append : (xs ys : List MicroStep) (cs ds : List Micro) → AreMatched p media s xs cs → AreMatched p media s ys ds → AreMatched p media s (xs ++ ys) (cs ++ ds)
  matched_append [] ys [] ds h k = k
  matched_append [] ys (c ∷ cs) ds h k = absurd h
  matched_append (x ∷ xs) ys [] ds h k = absurd h
  matched_append (x ∷ xs) ys (c ∷ cs) ds h k = (h.0, matched_append xs ys cs ds h.1 k)

  matched_blocks : (f : ℕ → List MicroStep) (g : ℕ → List Micro) (n : ℕ) → ((a : ℕ) → a < n → AreMatched p media s (f a) (g a)) → AreMatched p media s (blocks f n) (blocks g n)
  matched_blocks f g zero h = tt
  matched_blocks f g (suc n) h = matched_append (blocks f n) (f n) (blocks g n) (g n) (matched_blocks f g n (λ a l. h a (omega arith))) (h n (omega arith))

  -- are as long
  matched_length : (xs : List MicroStep) (cs : List Micro) → AreMatched p media s xs cs → length xs ≡ length cs
  matched_length [] [] h = refl
  matched_length [] (c ∷ cs) h = absurd h
  matched_length (x ∷ xs) [] h = absurd h
  matched_length (x ∷ xs) (c ∷ cs) h = ap (λ (n : ℕ). suc n) (matched_length xs cs h.1)

  -- both are there and match, or neither is there
  abbrev pub AtSame : Option MicroStep → Option Micro → Type 0
  AtSame None None = Unit {0}
  AtSame (Some x) (Some c) = Matches p media s x c
  AtSame None (Some c) = ⊥
  AtSame (Some x) None = ⊥

  pub matched_at : (xs : List MicroStep) (cs : List Micro) (l : ℕ) → AreMatched p media s xs cs → AtSame (slice_get xs l) (slice_get cs l)
  matched_at [] [] l h = tt
  matched_at [] (c ∷ cs) l h = absurd h
  matched_at (x ∷ xs) [] l h = absurd h
  matched_at (x ∷ xs) (c ∷ cs) zero h = h.0
  matched_at (x ∷ xs) (c ∷ cs) (suc l) h = matched_at xs cs l h.1

  -- What the names of an instruction have to meet, on medium m, where the loop has n communications.
  abbrev Names : ℕ → ℕ → Instr → Type 0
  Names m n (Suc0 q) = q < length p.pairs
  Names m n (Suc1 q) = q < length p.pairs
  Names m n (Pre0 q) = q < length p.pairs
  Names m n (Pre1 q) = q < length p.pairs
  Names m n (Call v ins outs) = ((calling p v).sequence ≡ s) × ((k b : ℕ) → (slice_get ins k ≡ Some b) ⊎ (slice_get outs k ≡ Some b) → b < length p.buffers)
  Names m n (Send b q) = (b < length p.buffers) × (m < media) × (n ≡ transfers p m) × (len_of p b ≤ wire_len p m)
  Names m n (Recv b q) = (b < length p.buffers) × (m < media) × (n ≡ transfers p m) × (len_of p b ≤ wire_len p m)
  Names m n (Sync q r) = (m < media) × (n ≡ transfers p m)

  -- each instruction's micro-steps match: a take
  take_matched : (depth x : ℕ) → x < 2 * length p.pairs → AreMatched p media s (take_steps depth x) (takes depth x)
  take_matched depth x h = by (nat_eq depth 1)
    where
      by : (b : Bool) → AreMatched p media s (cond b (Take x ∷ []) (See x ∷ Lower x ∷ [])) (cond b (taken x ∷ []) (see x ∷ sub x ∷ []))
      by true = ((h, refl), tt)
      by false = ((h, refl), ((h, refl), tt))

  module _ (v loads micros : ℕ) (here : (calling p v).sequence ≡ s) where
    -- a call's loads and stores, of which one computes
    load_here : (r : ℕ) → LoadsHere p media s (on_load v loads micros r)
    load_here r = by (nat_eq (r + 1) loads)
      where
        by : (b : Bool) → LoadsHere p media s (cond b (ComputeIn v r (nat_lt (r + 1) micros)) (Gather r))
        by true = here
        by false = tt

    store_here : (r : ℕ) → StoresHere p media s (on_store v loads micros r)
    store_here r = by (nat_eq r 0)
      where
        by : (b : Bool) → StoresHere p media s (cond b (ComputeOut v (nat_lt (r + 1) micros)) (Give (r - loads) (nat_lt (r + 1) micros)))
        by true = here
        by false = tt

    loads_matched : (r : ℕ) (o : Option ℕ) → ((b : ℕ) → o ≡ Some b → b < length p.buffers) → AreMatched p media s (load_steps p v loads micros r o) (loads_of p o)
    loads_matched r None h = tt
    loads_matched r (Some b) h = matched_blocks (load_step v loads micros b r) (load_at p b) (len_of p b) (λ n l. ((load_here (r + n), element_of p b n, 0, (h b refl, l, refl, refl), refl), tt))

    stores_matched : (r : ℕ) (o : Option ℕ) → ((b : ℕ) → o ≡ Some b → b < length p.buffers) → AreMatched p media s (store_steps p v loads micros r o) (stores_of p o)
    stores_matched r None h = tt
    stores_matched r (Some b) h = matched_blocks (store_step v loads micros b r) (store_at p b) (len_of p b) (λ n l. ((store_here (r + n), element_of p b n, 0, (h b refl, l, refl, refl), refl), tt))

  -- every instruction
  instr_matched : (m n t : ℕ) (x : Instr) → Names m n x → AreMatched p media s (steps_of p m n t x) (micros_of p m t x)
  instr_matched m n t (Suc0 q) h = take_matched (pair_depth p q) (2 * q) (omega arith)
  instr_matched m n t (Suc1 q) h = take_matched (pair_depth p q) (2 * q + 1) (omega arith)
  instr_matched m n t (Pre0 q) h = ((omega arith, refl), tt)
  instr_matched m n t (Pre1 q) h = ((omega arith, refl), tt)
  instr_matched m n t (Call v ins outs) h =
      let loads = elements_in p ins in let micros = elements_in p ins + elements_in p outs in
      matched_append (blocks (input_steps p v loads micros ins) (length ins)) (blocks (output_steps p v loads micros outs) (length outs))
      (blocks (loads_at p ins) (length ins)) (blocks (stores_at p outs) (length outs))
      (matched_blocks (input_steps p v loads micros ins) (loads_at p ins) (length ins)
      (λ k l. loads_matched v loads micros h.0 (sum_below (len_at p ins) k) (slice_get ins k) (λ b e. h.1 k b (inl e))))
      (matched_blocks (output_steps p v loads micros outs) (stores_at p outs) (length outs)
      (λ k l. stores_matched v loads micros h.0 (loads + sum_below (len_at p outs) k) (slice_get outs k) (λ b e. h.1 k b (inr e))))
  instr_matched m n t (Send b q) h = (
    (h.1, ap (λ (k : ℕ). 2 * k) h.2, refl),
    matched_append (blocks (send_step m b) (len_of p b)) _ (blocks (send_at p m t b) (len_of p b)) _
        (matched_blocks (send_step m b) (send_at p m t b) (len_of p b)
        (λ i l. ((tt, element_of p b i, 0, (h.0, l, refl, refl), refl), ((tt, wire_of p m i, _, (h.1, (let w = h.3 in omega arith), refl), refl), tt))))
        ((h.1, 2 * t, refl), tt),
  )
  instr_matched m n t (Recv b q) h = (
    (h.1, ap (λ (k : ℕ). 2 * k) h.2, refl),
    matched_append (blocks (receive_step m b) (len_of p b)) _ (blocks (receive_at p m t b) (len_of p b)) _
        (matched_blocks (receive_step m b) (receive_at p m t b) (len_of p b)
        (λ i l. ((tt, wire_of p m i, _, (h.1, (let w = h.3 in omega arith), refl), refl), ((tt, element_of p b i, 0, (h.0, l, refl, refl), refl), tt))))
        ((h.1, 2 * t + 1, refl), tt),
  )
  instr_matched m n t (Sync q r) h = ((h.0, ap (λ (k : ℕ). 2 * k) h.1, refl), tt)

  -- and every list of them
  list_matched : (m : ℕ) (xs : List Instr) → ((a : ℕ) (x : Instr) → slice_get xs a ≡ Some x → Names m (count_by is_communication xs) x)
      → AreMatched p media s (steps_in_list p m xs) (blocks (block_in p m xs) (length xs))
  list_matched m xs h = matched_blocks (steps_at p m xs) (block_in p m xs) (length xs) (λ a l. by a (slice_get xs a) refl)
    where
      by : (a : ℕ) (o : Option Instr) → slice_get xs a ≡ o
          → AreMatched p media s (steps_in p m (count_by is_communication xs) (count_by is_communication (take a xs)) o)
          (micros_in p m (count_by is_communication (take a xs)) o)
      by a None e = tt
      by a (Some x) e = instr_matched m (count_by is_communication xs) (count_by is_communication (take a xs)) x (h a x e)

  -- of the list of a sequence that may be none
  abbrev AllName : Option SeqCode → List Instr → Type 0
  AllName o xs = (a : ℕ) (x : Instr) → slice_get xs a ≡ Some x → Names (number_or 0 (medium_in o)) (count_by is_communication xs) x

  -- the prologue and the loop of a sequence
  prologue_matched : (o : Option SeqCode) → AllName o (prologue_of o)
      → AreMatched p media s (steps_by p o).prologue (blocks (block_in p (number_or 0 (medium_in o)) (prologue_of o)) (length (prologue_of o)))
  prologue_matched None h = tt
  prologue_matched (Some q) h = list_matched (number_or 0 q.seq.medium) q.prologue h

  turn_matched : (o : Option SeqCode) → AllName o (turn_of o) → AreMatched p media s (steps_by p o).turn (blocks (block_in p (number_or 0 (medium_in o)) (turn_of o)) (length (turn_of o)))
  turn_matched None h = tt
  turn_matched (Some q) h = list_matched (number_or 0 q.seq.medium) q.turn h

  pub is_matched : AllName (slice_get p.seqs s) (prologue p s) → AllName (slice_get p.seqs s) (turn p s) → IsMatched p media s
  is_matched h k = let a = prologue_matched (slice_get p.seqs s) h in let b = turn_matched (slice_get p.seqs s) k in
      record { prologues_as_long = matched_length (steps p s).prologue (code p s).prologue a; turns_as_long = matched_length (steps p s).turn (code p s).turn b; prologues = a; turns = b }

module _ (p : Program) where
  -- a wire is as long as each buffer that is sent over it
  longest_sent_at : (xs : List Instr) (a b q : ℕ) → slice_get xs a ≡ Some (Send b q) → len_of p b ≤ longest_sent p xs
  longest_sent_at [] a b q e = absurd (cc)
  longest_sent_at (x ∷ xs) zero b q e = let z = ap (sent_len p) (same_Some x (Send b q) e) in omega arith
  longest_sent_at (x ∷ xs) (suc a) b q e = let z = longest_sent_at xs a b q e in omega arith

  longest_on_at : (qs : List SeqCode) (m s : ℕ) → medium_in (slice_get qs s) ≡ Some m → longest_sent p (turn_of (slice_get qs s)) ≤ longest_on p qs m
  longest_on_at [] m s e = absurd (cc)
  longest_on_at (q ∷ qs) m zero e = let on : is_on m q.seq.medium ≡ true = ap (is_on m) e ∙ eq-eqb m m refl in
      let z : longest_in p m q ≡ longest_sent p q.turn = rw on refl in omega arith
  longest_on_at (q ∷ qs) m (suc s) e = let z = longest_on_at qs m s e in omega arith

  sent_fits : (m s a b q : ℕ) → medium p s ≡ Some m → Stands p s a (Send b q) → len_of p b ≤ wire_len p m
  sent_fits m s a b q on e = let x = longest_sent_at (turn p s) a b q e in let y = longest_on_at p.seqs m s on in omega arith

  -- two communications with equally many before them are one
  same_number : (s a b : ℕ) (x y : Instr) → Stands p s a x → Stands p s b y → is_communication x ≡ true → is_communication y ≡ true → communications p s a ≡ communications p s b → a ≡ b
  same_number s a b x y e f c d n = by (cases_lt a b) (cases_lt b a)
    where
      by : (a < b) ⊎ (b ≤ a) → (b < a) ⊎ (a ≤ b) → a ≡ b
      by (inl l) r = let z = count_more is_communication (turn p s) a b x e c l in absurd (omega arith)
      by (inr l) (inl r) = let z = count_more is_communication (turn p s) b a y f d r in absurd (omega arith)
      by (inr l) (inr r) = omega arith

abbrev buffer_or : Instr → ℕ
buffer_or (Recv b o) = b
buffer_or _ = 0

module _ (p : Program) (order : List ℕ) (g : Graph) (seqs : List Seq) (media : ℕ) (h : IsOrder p g seqs media order) where
  -- what a transfer receives is as long as what it sends
  received_fits : (m s a b q : ℕ) → medium p s ≡ Some m → Stands p s a (Recv b q) → len_of p b ≤ wire_len p m
  received_fits m s a b q on e = by (cases_eq s T.sender) (cases_eq s T.receiver)
    where
      t : ℕ
      t = communications p s a

      few : t < transfers p m
      few = let x = count_less is_communication (turn p s) a (Recv b q) e refl in let y = h.counts s m on in omega arith

      T : Transfer
      T = (places p).transfer m t

      is : IsTransfer p order (places p) m t
      is = h.transferred m t (h.on_media s m on) few

      by : (s ≡ T.sender) ⊎ (s ≡ T.sender → ⊥) → (s ≡ T.receiver) ⊎ (s ≡ T.receiver → ⊥) → len_of p b ≤ wire_len p m
      by (inl k) r = let e' = subst (λ (i : ℕ). Stands p i a (Recv b q)) k e in
          let n = same_number p T.sender a T.send_at (Recv b q) _ e' is.sends.stands refl refl (ap (λ (i : ℕ). communications p i a) (sym k) ∙ sym is.sends.number) in
          let z : slice_get (turn p T.sender) T.send_at ≡ Some (Recv b q) = subst (λ (i : ℕ). Stands p T.sender i (Recv b q)) n e' in
          let y = is.sends.stands in absurd (cc)
      by (inr k) (inl r) = let e' = subst (λ (i : ℕ). Stands p i a (Recv b q)) r e in
          let n = same_number p T.receiver a T.receive_at (Recv b q) _ e' is.receives.stands refl refl (ap (λ (i : ℕ). communications p i a) (sym r) ∙ sym is.receives.number) in
          let z : slice_get (turn p T.receiver) T.receive_at ≡ Some (Recv b q) = subst (λ (i : ℕ). Stands p T.receiver i (Recv b q)) n e' in
          let u : b ≡ T.received = ap buffer_or (same_Some (Recv b q) _ (sym z ∙ is.receives.stands)) in
          let v = ap (len_of p) u in let w = is.lengths in let x = sent_fits p m T.sender T.send_at T.sent _ is.sends.on is.sends.stands in omega arith
      by (inr k) (inr r) = let z = (is.others s a (Recv b q) (record { on = on; stands = e; is_one = refl; number = refl }) k r).0 in absurd (cc)

  module _ (s : ℕ) where
    -- the medium of a sequence that communicates
    on_medium : (a : ℕ) (x : Instr) → Stands p s a x → is_communication x ≡ true → (medium p s ≡ Some (number_or 0 (medium p s))) × (number_or 0 (medium p s) < media)
    on_medium a x e c = let r = h.communicators s a x e c in let n : number_or 0 (medium p s) ≡ r.0 = ap (number_or 0) r.1 in
        (r.1 ∙ ap (λ (k : ℕ). Some k) (sym n), (let l = h.on_media s r.0 r.1 in omega arith))

    -- what the instructions of a loop name
    turn_names : (a : ℕ) (x : Instr) → Stands p s a x → Names p media s (number_or 0 (medium p s)) (count_by is_communication (turn p s)) x
    turn_names a (Suc0 q) e = h.named s a (Suc0 q) e
    turn_names a (Suc1 q) e = h.named s a (Suc1 q) e
    turn_names a (Pre0 q) e = h.named s a (Pre0 q) e
    turn_names a (Pre1 q) e = h.named s a (Pre1 q) e
    turn_names a (Call v ins outs) e = let n = h.named s a (Call v ins outs) e in let x = slice_get_some g.vertices v n.0 in
        (sym ((h.called v x.0 x.1).only s a ins outs e).0, n.1)
    turn_names a (Send b q) e = let m = on_medium a (Send b q) e refl in
        (h.named s a (Send b q) e, m.1, h.counts s (number_or 0 (medium p s)) m.0, sent_fits p (number_or 0 (medium p s)) s a b q m.0 e)
    turn_names a (Recv b q) e = let m = on_medium a (Recv b q) e refl in
        (h.named s a (Recv b q) e, m.1, h.counts s (number_or 0 (medium p s)) m.0, received_fits (number_or 0 (medium p s)) s a b q m.0 e)
    turn_names a (Sync q r) e = let m = on_medium a (Sync q r) e refl in (m.1, h.counts s (number_or 0 (medium p s)) m.0)

    -- prologues are signals of the pairs
    as_many : length (readers p) ≡ length p.pairs
    as_many = sym (length-map (readers p) (λ (r : Reader). operator_of p r.buffer)) ∙ ap (λ (l : List (Option ℕ)). length l) (sym h.numbered) ∙ length-map p.pairs (λ (o : ℕ). Some o)

    opening_names : (m n a : ℕ) (x : Instr) → slice_get (opening_of p s) a ≡ Some x → Names p media s m n x
    opening_names m n a x e = let b = in_block (signals_of p s) (length (readers p)) a x e in
        let i : x ≡ Pre0 b.block = repeated_is (Pre0 b.block) x (opening_signals p s b.block) b.at b.stands in
        subst (λ (y : Instr). Names p media s m n y) (sym i) (let w = b.within in let k = as_many in omega arith)

    prologue_names : (n a : ℕ) (x : Instr) → slice_get (prologue p s) a ≡ Some x → Names p media s (number_or 0 (medium p s)) n x
    prologue_names n a x e = by (cases_lt s (length p.seqs))
      where
        by : (s < length p.seqs) ⊎ (length p.seqs ≤ s) → Names p media s (number_or 0 (medium p s)) n x
        by (inl l) = opening_names (number_or 0 (medium p s)) n a x (ap (λ (xs : List Instr). slice_get xs a) (sym (h.prologues s l)) ∙ e)
        by (inr l) = let z : slice_get (prologue_of None) a ≡ Some x = ap (λ (o : Option SeqCode). slice_get (prologue_of o) a) (sym (slice_get_past p.seqs s l)) ∙ e in absurd (cc)

    pub matched : IsMatched p media s
    matched = is_matched p media s (prologue_names (count_by is_communication (prologue p s))) turn_names

pub steps_matched : (j : JobData) → IsFormed j → (s : ℕ) → IsMatched j.program j.media s
steps_matched j f s = matched j.program f.formed.0 j.graph f.seqs j.media f.formed.1 s
