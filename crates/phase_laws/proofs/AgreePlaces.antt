-- Where an element lies in the core, and which one of the theory it is.
use Rattle.std.proofs.Common.{
  ◌≡◌,
  ℕ,
  zero,
  suc,
  ◌+◌,
  ◌*◌,
  ◌/◌,
  ◌%◌,
  ◌<◌,
  ◌⊎◌,
  List,
  [],
  ◌∷◌,
  ◌++◌,
  length,
  map,
  Option,
  Some,
  None,
  refl,
  sym,
  ap,
  inl,
  inr,
  arith,
  ◌∙◌,
  ℤ,
  pos,
  suc-mul,
  mul-le-mul_right,
  length-append,
}
use Rattle.std.specs.Prelude.{slice_get, slice_index_or}
use Rattle.std.proofs.lemmas.Bool.{cases_eq, lt-ltb, le-ltb}
use Rattle.std.proofs.lemmas.List.{length-map, length-replicate, get_or_append_left, get_or-append-add, get_or_push}
use Rattle.std.proofs.lemmas.Nat.{div-mul-add, mod-mul-add, mod_below}
use Rattle.std.specs.Option.{option_map}
use Rattle.std.proofs.lemmas.Option.{get_or_from_slice_get, slice_get-map}
use Rattle.executive_program.specs.System.{put}
use Rattle.executive_program.specs.Owners.{sum_below}
use Rattle.executive_program.specs.declared.program.Program.{Program}
use Rattle.executive_program.specs.declared.program.Buffer as declared
use Rattle.executive_program.specs.declared.steps.Place.{Place}
use Rattle.executive_program.specs.declared.steps.Place.TheVariants.{Buffer, Wire}
use Rattle.executive_program.specs.Blocks.{blocks, block_at}
use Rattle.executive_program.specs.Instructions.{len_of, depth_of, HasPlaces, len_in, depth_in}
use Rattle.executive_program.specs.MicroSteps.{element_of, wire_of, wire_len, buffer_elements}
use Rattle.semaphore_core.specs.Job.{buffer_at, depth_at, period_at}
use Rattle.semaphore_core.specs.Core.{home_of, slot_of, buffer_zeros, wire_zeros}
use Rattle.phase_laws.specs.Agrees.{LiesAt}
use Rattle.phase_laws.proofs.Blocks.{sum_inside, sum_same_block, block_at_is}
use Rattle.phase_laws.proofs.Places.{slice_get_some}
use Rattle.phase_laws.proofs.AgreeLists.{put_here, put_there, set_in, get_in, get_in_here, get_in_there, same_length, same_lengths}
use Rattle.syn_base.specs.Vectors.{zeros}

-- a number of two digits tells both
two_digits : (w a b n m : ℕ) → n < w → m < w → a * w + n ≡ b * w + m → (a ≡ b) × (n ≡ m)
two_digits w a b n m h k e = (sym (div-mul-add a w n h) ∙ ap (λ (i : ℕ). i / w) e ∙ div-mul-add b w m k, sym (mod-mul-add a w n h) ∙ ap (λ (i : ℕ). i % w) e ∙ mod-mul-add b w m k)

-- a list of blocks of one entry each
singles_length : {A : Type 0} (f : ℕ → A) (n : ℕ) → length (blocks (λ m. f m ∷ []) n) ≡ n
singles_length f zero = refl
singles_length f (suc n) = length-append (blocks (λ m. f m ∷ []) n) (f n ∷ []) ∙ (let e = singles_length f n in omega arith)

singles_at : {A : Type 0} (f : ℕ → A) (n m : ℕ) (d : A) → m < n → slice_index_or (blocks (λ i. f i ∷ []) n) m d ≡ f m
singles_at f zero m d h = absurd (omega arith)
singles_at {A = A} f (suc n) m d h = by (cases_eq m n) (λ l. singles_at f n m d l)
  where
    by : (m ≡ n) ⊎ (m ≡ n → ⊥) → (m < n → slice_index_or (blocks (λ i. f i ∷ []) n) m d ≡ f m) → slice_index_or (blocks (λ i. f i ∷ []) n ++ f n ∷ []) m d ≡ f m
    by (inl e) r = get_or_push (blocks (λ i. f i ∷ []) n) (f n) d m (singles_length f n ∙ sym e) ∙ ap f (sym e)
    by (inr e) r = get_or_append_left (blocks (λ i. f i ∷ []) n) (f n ∷ []) d m (let z = singles_length f n in omega arith) ∙ r (omega arith)

module _ (p : Program) (media : ℕ) where
  abbrev pub word_of : Place → ℕ
  word_of (Buffer b n) = element_of p b n
  word_of (Wire m n) = wire_of p m n

  -- place q of an element, in the list that holds it
  abbrev pub slot_at : Place → ℕ → ℕ
  slot_at (Buffer b n) q = q * len_of p b + n
  slot_at (Wire m n) q = n

  abbrev pub IsIn : Place → ℕ → Type 0
  IsIn (Buffer b n) q = (b < length p.buffers) × (n < len_of p b) × (q < depth_of p b)
  IsIn (Wire m n) q = (m < media) × (n < wire_len p m) × (q ≡ 0)

  -- buffers' elements come before those of wires
  element_low : (b n : ℕ) → b < length p.buffers → n < len_of p b → element_of p b n < buffer_elements p
  element_low b n h k = sum_inside (len_of p) (length p.buffers) b n h k

  -- one slot of the core is one place of one element
  same_slot : (x y : Place) (q r : ℕ) → IsIn x q → IsIn y r → home_of p x ≡ home_of p y → slot_at x q ≡ slot_at y r → (word_of x ≡ word_of y) × (q ≡ r)
  same_slot (Buffer b n) (Buffer c m) q r h k e f = let l = ap (len_of p) e in
      let w : r * len_of p b ≡ r * len_of p c = ap (λ (i : ℕ). r * i) l in
      let d = two_digits (len_of p b) q r n m h.1 (let z = k.1 in omega arith) (let z : q * len_of p b + n ≡ r * len_of p b + m = omega arith in z) in
      ((λ i. element_of p (e i) (d.1 i)), d.0)
  same_slot (Buffer b n) (Wire m i) q r h k e f = absurd (omega arith)
  same_slot (Wire m i) (Buffer b n) q r h k e f = absurd (omega arith)
  same_slot (Wire m i) (Wire n l) q r h k e f = let s : m ≡ n = omega arith in ((λ t. wire_of p (s t) (f t)), h.2 ∙ sym k.2)

  -- and one place of one element is one slot
  same_word : (x y : Place) (q r : ℕ) → IsIn x q → IsIn y r → word_of x ≡ word_of y → q ≡ r → (home_of p x ≡ home_of p y) × (slot_at x q ≡ slot_at y r)
  same_word (Buffer b n) (Buffer c m) q r h k e f = let d = sum_same_block (len_of p) b c n m h.1 k.1 e in (d.0, (λ t. f t * len_of p (d.0 t) + d.1 t))
  same_word (Buffer b n) (Wire m i) q r h k e f = let z = element_low b n h.0 h.1 in absurd (omega arith)
  same_word (Wire m i) (Buffer b n) q r h k e f = let z = element_low b n k.0 k.1 in absurd (omega arith)
  same_word (Wire m i) (Wire n l) q r h k e f = let d = sum_same_block (wire_len p) m n i l h.1 k.1 (let z : sum_below (wire_len p) m + i ≡ sum_below (wire_len p) n + l = omega arith in z) in
      (ap (λ (t : ℕ). length p.buffers + t) d.0, d.1)

  -- the lists of the opening have room for each element in all its places
  abbrev pub opening_elements : List (List ℤ)
  opening_elements = buffer_zeros p ++ wire_zeros p media

  buffers_many : length (buffer_zeros p) ≡ length p.buffers
  buffers_many = length-map p.buffers (λ (x : declared.Buffer). zeros (x.depth * x.len))

  wires_many : length (wire_zeros p media) ≡ media
  wires_many = singles_length (λ m. zeros (wire_len p m)) media

  pub lists_many : length opening_elements ≡ length p.buffers + media
  lists_many = length-append (buffer_zeros p) (wire_zeros p media) ∙ (let a = buffers_many in let b = wires_many in omega arith)

  pub buffer_list : (b : ℕ) → b < length p.buffers → slice_index_or opening_elements b [] ≡ zeros (depth_of p b * len_of p b)
  buffer_list b h = get_or_append_left (buffer_zeros p) (wire_zeros p media) [] b (let z = buffers_many in omega arith) ∙ by (slice_get p.buffers b) refl
    where
      by : (o : Option declared.Buffer) → slice_get p.buffers b ≡ o → slice_index_or (buffer_zeros p) b [] ≡ zeros (depth_in o * len_in o)
      by None e = let z = slice_get_some p.buffers b h in absurd (cc)
      by (Some x) e = get_or_from_slice_get (buffer_zeros p) b (zeros (x.depth * x.len)) []
          (slice_get-map (λ (y : declared.Buffer). zeros (y.depth * y.len)) p.buffers b ∙ ap (option_map (λ (y : declared.Buffer). zeros (y.depth * y.len))) e)

  pub wire_list : (m : ℕ) → m < media → slice_index_or opening_elements (length p.buffers + m) [] ≡ zeros (wire_len p m)
  wire_list m h = ap (λ (n : ℕ). slice_index_or opening_elements (n + m) []) (sym buffers_many)
      ∙ get_or-append-add (buffer_zeros p) (wire_zeros p media) m [] ∙ singles_at (λ i. zeros (wire_len p i)) media m [] h

  -- an element's slot is there
  room : (x : Place) (q : ℕ) → IsIn x q → (home_of p x < length opening_elements) × (slot_at x q < length (slice_index_or opening_elements (home_of p x) []))
  room (Buffer b n) q h = (
    (let z = lists_many in let y = h.0 in omega arith),
    (let e = ap (λ (l : List ℤ). length l) (buffer_list b h.0) ∙ length-replicate (depth_of p b * len_of p b) (pos 0) in
        let c = suc-mul q (len_of p b) in let l = mul-le-mul_right (len_of p b) h.2 in let k = h.1 in omega arith),
  )
  room (Wire m n) q h = (
    (let z = lists_many in let y = h.0 in omega arith),
    (let e = ap (λ (l : List ℤ). length l) (wire_list m h.0) ∙ length-replicate (wire_len p m) (pos 0) in let k = h.1 in omega arith),
  )

  -- the elements of the core and those of the theory
  abbrev pub AllSame : List (List ℤ) → (ℕ → ℕ → ℤ) → Type 0
  AllSame lists f = (x : Place) (q : ℕ) → IsIn x q → get_in lists (home_of p x) (slot_at x q) (pos 0) ≡ f (word_of x) q

  -- are the same after one was stored
  pub stored_same : (lists : List (List ℤ)) (f : ℕ → ℕ → ℤ) → map length lists ≡ map length opening_elements → AllSame lists f → (x : Place) (q : ℕ) (v : ℤ) → IsIn x q
      → AllSame (set_in lists (home_of p x) (slot_at x q) v) (put f (word_of x) (put (f (word_of x)) q v))
  stored_same lists f long all x q v inside y r there = by (cases_eq (home_of p y) (home_of p x)) (cases_eq (slot_at y r) (slot_at x q))
    where
      W : ℕ
      W = word_of x

      Goal : Type 0
      Goal = get_in (set_in lists (home_of p x) (slot_at x q) v) (home_of p y) (slot_at y r) (pos 0) ≡ put f W (put (f W) q v) (word_of y) r

      untouched : (word_of y ≡ W → r ≡ q → ⊥) → put f W (put (f W) q v) (word_of y) r ≡ f (word_of y) r
      untouched o = cases (cases_eq (word_of y) W) (cases_eq r q)
        where
          cases : (word_of y ≡ W) ⊎ (word_of y ≡ W → ⊥) → (r ≡ q) ⊎ (r ≡ q → ⊥) → put f W (put (f W) q v) (word_of y) r ≡ f (word_of y) r
          cases (inl a) (inl b) = absurd (o a b)
          cases (inl a) (inr b) = ap (λ (g : ℕ → ℤ). g r) (put_here f W (put (f W) q v) (word_of y) a) ∙ put_there (f W) q v r b ∙ ap (λ (w : ℕ). f w r) (sym a)
          cases (inr a) b = ap (λ (g : ℕ → ℤ). g r) (put_there f W (put (f W) q v) (word_of y) a)

      apart : ((home_of p y ≡ home_of p x) × (slot_at y r ≡ slot_at x q) → ⊥) → Goal
      apart o = get_in_there lists (home_of p x) (slot_at x q) (home_of p y) (slot_at y r) v (pos 0) o ∙ all y r there ∙ sym (untouched (λ a b. o (same_word y x r q there inside a b)))

      by : (home_of p y ≡ home_of p x) ⊎ (home_of p y ≡ home_of p x → ⊥) → (slot_at y r ≡ slot_at x q) ⊎ (slot_at y r ≡ slot_at x q → ⊥) → Goal
      by (inl a) (inl b) = let s = same_slot y x r q there inside a b in let k = room x q inside in
          let m = same_length lists opening_elements long in let n = same_lengths lists opening_elements (home_of p x) long in
          (λ t. get_in (set_in lists (home_of p x) (slot_at x q) v) (a t) (b t) (pos 0)) ∙ get_in_here lists (home_of p x) (slot_at x q) v (pos 0) (omega arith) (omega arith)
          ∙ sym (ap (λ (g : ℕ → ℤ). g r) (put_here f W (put (f W) q v) (word_of y) s.0) ∙ put_here (f W) q v r s.1)
      by (inl a) (inr b) = apart (λ z. b z.1)
      by (inr a) b = apart (λ z. a z.0)

  -- the place of an element in a reaction
  pub record Placed (x : Place) (y i r : ℕ) : Type 0 where
    pub at : ℕ
    pub number : (r * period_at p media y + i) % depth_at p media y ≡ at
    pub inside : IsIn x at
    pub slot : slot_of p x r ≡ slot_at x at
    pub word : y ≡ word_of x

  pub placed : HasPlaces p → (x : Place) (y i r : ℕ) → LiesAt p media x y i → Placed x y i r
  placed places (Buffer b n) y i r h = record {
    at = r % depth_of p b;
    number = (λ t. (r * period t + h.3 t) % depth t) ∙ ap (λ (k : ℕ). k % depth_of p b) (let z : r * 1 + 0 ≡ r = omega arith in z);
    inside = (h.0, h.1, mod_below r (depth_of p b) (let z = places b in omega arith));
    slot = refl;
    word = h.2;
  }
    where
      low : y < buffer_elements p
      low = let z = element_low b n h.0 h.1 in let e = h.2 in omega arith

      period : period_at p media y ≡ 1
      period = rw (lt-ltb y (buffer_elements p) low) refl

      block : buffer_at p media y ≡ b
      block = ap (block_at (len_of p) (length p.buffers)) h.2 ∙ block_at_is (len_of p) (length p.buffers) b n h.0 h.1

      depth : depth_at p media y ≡ depth_of p b
      depth = rw (lt-ltb y (buffer_elements p) low) (ap (depth_of p) block)
  placed places (Wire m n) y i r h = record {
    at = 0;
    number = ap (λ (d : ℕ). (r * period_at p media y + i) % d) depth ∙ one (r * period_at p media y + i);
    inside = (h.0, h.1, refl);
    slot = refl;
    word = h.2;
  }
    where
      one : (k : ℕ) → k % 1 ≡ 0
      one k = omega arith

      depth : depth_at p media y ≡ 1
      depth = rw (le-ltb y (buffer_elements p) (let e = h.2 in omega arith)) refl
