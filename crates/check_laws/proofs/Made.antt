-- In a well-formed program, following receives back from a buffer meets a call within as many steps as there are buffers: each step leads to a buffer that is written earlier in the order.
use Rattle.std.proofs.Common.{◌≡◌, ℕ, zero, suc, ◌+◌, ◌<◌, ◌≤◌, Bool, true, false, cond, List, [], ◌∷◌, length, Option, Some, refl, sym, ap, arith, ◌∙◌}
use Rattle.std.specs.Prelude.{slice_get, nat_lt}
use Rattle.std.specs.List.{range_with_len}
use Rattle.std.proofs.lemmas.Bool.{false≢true, lt-ltb, le-ltb, ltb-true}
use Rattle.std.proofs.lemmas.List.FromFn.{length-range_with_len}
use Rattle.std.proofs.lemmas.Option.{same_Some}
use Rattle.order_check.specs.Carries.{origin, origin_of, received, sent_on}
use Rattle.sequence_build_laws.specs.Graph.{Graph}
use Rattle.sequence_build_laws.specs.declared.Seq.{Seq}
use Rattle.sequence_build_laws.specs.declared.Instr.{Instr}
use Rattle.sequence_build_laws.specs.declared.Instr.TheVariants.{Call, Send, Recv}
use Rattle.sequence_build_laws.specs.declared.Program.{Program}
use Rattle.sequence_build_laws.specs.Instructions.{turn, medium, operator, communications}
use Rattle.sequence_build_laws.specs.Places.{writing, transfer, output_at}
use Rattle.sequence_build_laws.specs.WellFormed.{Stands, WritesAt, IsOrder, place_in}
use Rattle.sequence_build_laws.proofs.Lists.{tally, tally_yes, tally_not}
use Rattle.sequence_build_laws.proofs.Sequences.{range_there}
use Rattle.check_laws.specs.Items.{is_made, made_from}
use Rattle.check_laws.proofs.Orders.{Part, sends, receives, waits, part, transferred, Communication, communication}
use Rattle.check_laws.proofs.Sent.{found}
use Rattle.check_laws.proofs.Reading.{after_write}

-- fewer pass a stronger test
tally_le : {A : Type 0} (p q : A → Bool) (xs : List A) → ((x : A) → p x ≡ true → q x ≡ true) → tally p xs ≤ tally q xs
tally_le p q [] h = omega arith
tally_le p q (x ∷ xs) h = by (p x) refl (q x) refl (tally_le p q xs h)
  where
    by : (b : Bool) → p x ≡ b → (c : Bool) → q x ≡ c → tally p xs ≤ tally q xs → cond b (suc (tally p xs)) (tally p xs) ≤ cond c (suc (tally q xs)) (tally q xs)
    by true e true f l = omega arith
    by true e false f l = absurd (false≢true (sym f ∙ h x e))
    by false e true f l = omega arith
    by false e false f l = l

tally_less : {A : Type 0} (p q : A → Bool) (xs : List A) (i : ℕ) (y : A) → ((x : A) → p x ≡ true → q x ≡ true) → slice_get xs i ≡ Some y → p y ≡ false → q y ≡ true → tally p xs < tally q xs
tally_less p q [] i y h e f g = absurd cc
tally_less p q (x ∷ xs) zero y h e f g = let l = tally_le p q xs h in let a = tally_not p x xs (ap p (same_Some x y e) ∙ f) in let b = tally_yes q x xs (ap q (same_Some x y e) ∙ g) in omega arith
tally_less p q (x ∷ xs) (suc i) y h e f g = by (p x) refl (q x) refl (tally_less p q xs i y h e f g)
  where
    by : (b : Bool) → p x ≡ b → (c : Bool) → q x ≡ c → tally p xs < tally q xs → cond b (suc (tally p xs)) (tally p xs) < cond c (suc (tally q xs)) (tally q xs)
    by true s true t l = omega arith
    by true s false t l = absurd (false≢true (sym t ∙ h x s))
    by false s true t l = omega arith
    by false s false t l = l

tally_all : {A : Type 0} (xs : List A) → tally (λ _. true) xs ≡ length xs
tally_all [] = refl
tally_all (x ∷ xs) = ap (λ (n : ℕ). suc n) (tally_all xs)

module _ (p : Program) (g : Graph) (seqs : List Seq) (media : ℕ) (order : List ℕ) (h : IsOrder p g seqs media order) where
  written : ℕ → ℕ
  written b = place_in order (writing p b).writer (writing p b).at

  abbrev earlier : ℕ → ℕ → Bool
  earlier b c = nat_lt (place_in order (writing p c).writer (writing p c).at) (place_in order (writing p b).writer (writing p b).at)

  -- how many buffers are written before it
  abbrev rank : ℕ → ℕ
  rank b = tally (earlier b) (range_with_len 0 (length p.buffers))

  there : (b : ℕ) → b < length p.buffers → slice_get (range_with_len 0 (length p.buffers)) b ≡ Some b
  there b l = range_there 0 (length p.buffers) b l ∙ ap (λ (n : ℕ). Some n) (let z : 0 + b ≡ b = omega arith in z)

  not_itself : (b : ℕ) → earlier b b ≡ false
  not_itself b = le-ltb (place_in order (writing p b).writer (writing p b).at) (place_in order (writing p b).writer (writing p b).at) (omega arith)

  rank_falls : (b c : ℕ) → c < length p.buffers → place_in order (writing p c).writer (writing p c).at < place_in order (writing p b).writer (writing p b).at → rank c < rank b
  rank_falls b c l m = tally_less (earlier c) (earlier b) (range_with_len 0 (length p.buffers)) c c more (there c l) (not_itself c)
      (lt-ltb (place_in order (writing p c).writer (writing p c).at) (place_in order (writing p b).writer (writing p b).at) m)
    where
      more : (d : ℕ) → earlier c d ≡ true → earlier b d ≡ true
      more d e = let z = ltb-true (place_in order (writing p d).writer (writing p d).at) (place_in order (writing p c).writer (writing p c).at) e in
          lt-ltb (place_in order (writing p d).writer (writing p d).at) (place_in order (writing p b).writer (writing p b).at) (omega arith)

  rank_low : (b : ℕ) → b < length p.buffers → rank b < length p.buffers
  rank_low b l =
      let z = tally_less (earlier b) (λ _. true) (range_with_len 0 (length p.buffers)) b b (λ x e. refl) (there b l) (not_itself b) refl in
      let n = tally_all (range_with_len 0 (length p.buffers)) ∙ length-range_with_len 0 (length p.buffers) in
      omega arith

  -- what is received was sent from a buffer that is written earlier
  record Sender (b s a : ℕ) : Type 0 where
    buffer : ℕ
    low : buffer < length p.buffers
    before : place_in order (writing p buffer).writer (writing p buffer).at < place_in order s a
    is : sent_on p (medium p s) (communications p s a) ≡ Some buffer

  sender : (b o s a : ℕ) → Stands p s a (Recv b o) → Sender b s a
  sender b o s a e = by (part p c.on (communications p s a) s a (Recv b o) (transferred p g seqs media order h c.on (communications p s a) c.low c.inside) c.is)
    where
      c : Communication p g seqs media order h s a (Recv b o)
      c = communication p g seqs media order h s a (Recv b o) e refl

      by : Part p c.on (communications p s a) s a (Recv b o) → Sender b s a
      by (sends u v w) = absurd cc
      by (waits u v w) = absurd cc
      by (receives u v w) =
          let t = h.transferred c.on (communications p s a) c.low c.inside in
          let l = h.named (transfer p c.on (communications p s a)).sender (transfer p c.on (communications p s a)).send_at
          (Send (transfer p c.on (communications p s a)).sent (operator p (transfer p c.on (communications p s a)).receiver)) t.sends.stands in
          let first = after_write p g seqs media order h (transfer p c.on (communications p s a)).sent
          (transfer p c.on (communications p s a)).sender (transfer p c.on (communications p s a)).send_at 0
          (Send (transfer p c.on (communications p s a)).sent (operator p (transfer p c.on (communications p s a)).receiver)) l t.sends.stands (refl, refl) in
          let second = t.in_order in
          let here : place_in order s a ≡ place_in order (transfer p c.on (communications p s a)).receiver (transfer p c.on (communications p s a)).receive_at = λ j. place_in order (u j) (v j) in
          record {
            buffer = (transfer p c.on (communications p s a)).sent;
            low = l;
            before = omega arith;
            is = ap (λ (m : Option ℕ). sent_on p m (communications p s a)) c.is.on
                ∙ found p c.on (communications p s a) (transferred p g seqs media order h c.on (communications p s a) c.low c.inside);
          }

  made_within : (hops b : ℕ) → b < length p.buffers → rank b < hops → is_made p hops b ≡ true
  made_within zero b l m = absurd (omega arith)
  made_within (suc hops) b l m = by (h.buffers b l).instr (h.buffers b l).stands (h.buffers b l).writes (λ c k n. made_within hops c k n)
    where
      port : ℕ
      port = output_at b (slice_get (turn p (writing p b).writer) (writing p b).at)

      by : (x : Instr) → Stands p (writing p b).writer (writing p b).at x → WritesAt x (writing p b).port b
          → ((c : ℕ) → c < length p.buffers → rank c < hops → is_made p hops c ≡ true) → made_from (origin p b) (λ c. is_made p hops c) ≡ true
      by (Call v ins outs) e w r = ap
          (λ (o : Option Instr). made_from
          (origin_of p (writing p b).writer (writing p b).at (output_at b (slice_get (turn p (writing p b).writer) (writing p b).at)) o)
          (λ c. is_made p hops c)) e
      by (Recv c o) e w r =
          let n = sender c o (writing p b).writer (writing p b).at e in
          let f = rank_falls b n.buffer n.low n.before in
          ap (λ (o : Option Instr). made_from (origin_of p (writing p b).writer (writing p b).at (output_at b (slice_get (turn p (writing p b).writer) (writing p b).at)) o) (λ c. is_made p hops c)) e
          ∙ ap (λ (o : Option ℕ). made_from (received o) (λ c. is_made p hops c)) n.is ∙ r n.buffer n.low (omega arith)
      by _ e w r = absurd w

  pub all_made : (b : ℕ) → b < length p.buffers → is_made p (length p.buffers) b ≡ true
  all_made b l = made_within (length p.buffers) b l (rank_low b l)
