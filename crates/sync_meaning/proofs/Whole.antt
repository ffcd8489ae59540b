-- The values of inputs and of guards' sources, written over what was read before.
use Rattle.std.proofs.Common.{◌≡◌, ℕ, ◌+◌, ◌<◌, ◌≤◌, List, [], ◌++◌, map, take, drop, length, get_or, sym, ap, ◌∙◌, arith, length-append}
use Rattle.std.proofs.lemmas.List.{
  length-map,
  map-append,
  get_or-map,
  get_or_append_left,
  get_or-append-add,
  length-take-le,
  length-drop,
  take-append-drop,
  take_at,
  take_all,
  drop_all,
  take-map,
  drop-map,
  append-nil,
}
use Rattle.sync_meaning.specs.Store.{lengths}
use Rattle.syn_base.specs.Vectors.{Vector, Values, vector_at}

module _ {S : Type 0} (look : S → Vector) (ss : List S) (initial : Values) where
  -- over the first ones
  module _ (fits : lengths (map look ss) ≡ take (length ss) (lengths initial)) where
    abbrev pub over_first : Values
    over_first = map look ss ++ drop (length ss) initial

    pub first_lens : lengths over_first ≡ lengths initial
    first_lens =
        map-append length (map look ss) (drop (length ss) initial)
        ∙ (λ i. fits i ++ sym (drop-map length (length ss) initial) i)
        ∙ take-append-drop (length ss) (lengths initial)

    pub first_at : (k : ℕ) (d : S) (v : Vector) → k < length ss → v ≡ look (get_or ss k d) → v ≡ vector_at over_first k
    first_at k d v lt is =
        is ∙ sym (get_or-map look ss k d [] lt) ∙ sym (get_or_append_left (map look ss) (drop (length ss) initial) [] k (let e = length-map ss look in omega (arith, e)))

    pub first_more : length ss ≤ length over_first
    first_more = let e = length-append (map look ss) (drop (length ss) initial) in let f = length-map ss look in omega (arith, e, f)

    pub first_whole : take (length ss) over_first ++ drop (length ss) initial ≡ over_first
    first_whole = ap (λ (vs : Values). vs ++ drop (length ss) initial) (take_at (map look ss) (drop (length ss) initial) (length ss) (length-map ss look))

  -- over those from a place on
  module _ (first : ℕ) (count : first + length ss ≡ length initial) (fits : lengths (map look ss) ≡ drop first (lengths initial)) where
    abbrev pub over_last : Values
    over_last = take first initial ++ map look ss

    front : length (take first initial) ≡ first
    front = length-take-le first initial (omega (arith, count))

    pub last_lens : lengths over_last ≡ lengths initial
    last_lens =
        map-append length (take first initial) (map look ss)
        ∙ (λ i. sym (take-map length first initial) i ++ fits i)
        ∙ take-append-drop first (lengths initial)

    pub last_at : (k : ℕ) (d : S) (v : Vector) → k < length ss → v ≡ look (get_or ss k d) → v ≡ vector_at over_last (first + k)
    last_at k d v lt is =
        is ∙ sym (get_or-map look ss k d [] lt) ∙ sym (get_or-append-add (take first initial) (map look ss) k []) ∙ ap (λ (n : ℕ). vector_at over_last (n + k)) front

    pub last_count : length over_last ≡ length initial
    last_count = let e = length-append (take first initial) (map look ss) in let f = length-map ss look in omega (arith, e, f, front, count)

    pub last_none : take first over_last ++ drop first initial ≡ initial
    last_none = ap (λ (vs : Values). vs ++ drop first initial) (take_at (take first initial) (map look ss) first front) ∙ take-append-drop first initial

    pub last_whole : (n : ℕ) → length initial ≤ n → take n over_last ++ drop n initial ≡ over_last
    last_whole n le = (λ i. take_all n over_last (let e = last_count in omega (arith, e, le)) i ++ drop_all n initial le i) ∙ append-nil over_last
