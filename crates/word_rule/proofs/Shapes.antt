-- The words of a state after a micro-step: one word changed, or none.
use Rattle.std.proofs.Common.{◌≡◌, ℕ, suc, ◌+◌, ◌*◌, ◌<◌, List, [], ◌∷◌, ◌++◌, map, take, length, sum, get_or, set, sym, ap, arith, ◌∙◌, ℤ, pos}
use Rattle.std.proofs.lemmas.List.{set-append_left, get_or_append_left, get_or-append-add, length-append, length-map, map-set, get_or-map}
use Rattle.executive_program.specs.Level.{all_joined}
use Rattle.executive_program.specs.declared.steps.Place.{Place}
use Rattle.phase_laws.specs.Job.{JobData}
use Rattle.phase_laws.specs.Core.{Core, home_of, slot_of, element_of, with_element}
use Rattle.word_rule.specs.Words.{word_of, words_of, table_of, element_lens, turn_word, element_word, table_len}
use Rattle.word_rule.specs.Given.{IsShaped, IsHere}
use Rattle.word_rule.proofs.Joined.{joined_length, joined_inside, joined_set, joined_get, set_add}

module _ (j : JobData) (z : Core) (h : IsShaped j z) where
  abbrev Elements : List ℕ
  Elements = map word_of (all_joined z.elements)

  pub table_is_long : length (table_of z) ≡ table_len j
  table_is_long = let a = length-append z.semaphores (z.turns ++ Elements) in let b = length-append z.turns Elements in
      let c = length-map (all_joined z.elements) word_of in let d = joined_length z.elements in
      let e = ap sum h.elements in let f = h.semaphores in let g = h.turns in omega (arith, a, b, c, d, e, f, g)

  -- a semaphore
  pub semaphore_set : (x n : ℕ) → x < 2 * length j.program.pairs → set (table_of z) (suc x) n ≡ 0 ∷ (set z.semaphores x n ++ (z.turns ++ Elements))
  semaphore_set x n l = ap (λ ws. 0 ∷ ws) (set-append_left z.semaphores (z.turns ++ Elements) x n (let f = h.semaphores in omega arith))

  pub semaphore_get : (x : ℕ) → x < 2 * length j.program.pairs → get_or (table_of z) (suc x) 0 ≡ get_or z.semaphores x 0
  semaphore_get x l = get_or_append_left z.semaphores (z.turns ++ Elements) 0 x (let f = h.semaphores in omega arith)

  -- a turn
  turns_at : (m : ℕ) → 2 * length j.program.pairs + m ≡ length z.semaphores + m
  turns_at m = let f = h.semaphores in omega arith

  pub turn_set : (m n : ℕ) → m < j.media → set (table_of z) (turn_word j m) n ≡ 0 ∷ (z.semaphores ++ (set z.turns m n ++ Elements))
  turn_set m n l = ap (λ ws. 0 ∷ ws) (ap (λ (k : ℕ). set (words_of z) k n) (turns_at m) ∙ set_add z.semaphores (z.turns ++ Elements) m n
      ∙ ap (λ ws. z.semaphores ++ ws) (set-append_left z.turns Elements m n (let f = h.turns in omega arith)))

  pub turn_get : (m : ℕ) → m < j.media → get_or (table_of z) (turn_word j m) 0 ≡ get_or z.turns m 0
  turn_get m l = ap (λ (k : ℕ). get_or (words_of z) k 0) (turns_at m) ∙ get_or-append-add z.semaphores (z.turns ++ Elements) m 0
      ∙ get_or_append_left z.turns Elements 0 m (let f = h.turns in omega arith)

  -- an element
  module _ (x : Place) (k : ℕ) (here : IsHere j x) where
    abbrev Home : ℕ
    Home = home_of j.program x

    abbrev Slot : ℕ
    Slot = slot_of j.program x k

    pub lens_there : length (element_lens j) ≡ length z.elements
    lens_there = ap length (sym h.elements) ∙ length-map z.elements (length {A = ℤ})

    home_there : Home < length z.elements
    home_there = let a = (here k).0 in let b = lens_there in omega arith

    pub len_of_home : get_or (element_lens j) Home 0 ≡ length (get_or z.elements Home [])
    len_of_home = ap (λ (ns : List ℕ). get_or ns Home 0) (sym h.elements) ∙ get_or-map length z.elements Home [] 0 home_there

    slot_there : Slot < length (get_or z.elements Home [])
    slot_there = let a = (here k).1 in let b = len_of_home in omega arith

    abbrev Inner : ℕ
    Inner = sum (take Home (map length z.elements)) + Slot

    inner_there : Inner < length (all_joined z.elements)
    inner_there = let a = joined_inside z.elements Home Slot home_there slot_there in let b = joined_length z.elements in omega arith

    element_at_word : element_word j x k ≡ suc (length z.semaphores + (length z.turns + Inner))
    element_at_word = let a = h.semaphores in let b = h.turns in let c = ap (λ (ns : List ℕ). sum (take Home ns)) h.elements in omega (arith, a, b, c)

    pub element_set : (v : ℤ) → set (table_of z) (element_word j x k) (word_of v) ≡ 0 ∷ (z.semaphores ++ (z.turns ++ map word_of (all_joined (with_element j z x k v))))
    element_set v = ap (λ (i : ℕ). set (table_of z) i (word_of v)) element_at_word
        ∙ ap (λ ws. 0 ∷ ws) (set_add z.semaphores (z.turns ++ Elements) (length z.turns + Inner) (word_of v)
        ∙ ap (λ ws. z.semaphores ++ ws) (set_add z.turns Elements Inner (word_of v)
        ∙ ap (λ ws. z.turns ++ ws) (sym (map-set word_of (all_joined z.elements) Inner v) ∙ ap (map word_of) (joined_set z.elements Home Slot v home_there slot_there))))

    pub element_get : get_or (table_of z) (element_word j x k) 0 ≡ word_of (element_of j z x k)
    element_get = ap (λ (i : ℕ). get_or (table_of z) i 0) element_at_word
        ∙ get_or-append-add z.semaphores (z.turns ++ Elements) (length z.turns + Inner) 0
        ∙ get_or-append-add z.turns Elements Inner 0
        ∙ get_or-map word_of (all_joined z.elements) Inner (pos 0) 0 inner_there
        ∙ ap word_of (joined_get z.elements Home Slot (pos 0) home_there slot_there)
