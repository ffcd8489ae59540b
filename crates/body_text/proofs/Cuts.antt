-- Cutting a text into tokens.
use Rattle.std.proofs.Common.{
  ◌≡◌,
  ℕ,
  zero,
  suc,
  ◌+◌,
  ◌-◌,
  ◌<◌,
  ◌≤◌,
  false,
  true,
  Bool,
  not,
  cond,
  min,
  List,
  [],
  ◌∷◌,
  ◌++◌,
  length,
  take,
  drop,
  get_or,
  refl,
  arith,
  ap,
  ap₂,
  map,
  ◌∙◌,
  drop-cons,
  length-drop,
  append_assoc,
}
use Rattle.std.specs.Prelude.{slice_range}
use Rattle.std.proofs.lemmas.List.{drop-drop, map_push, drop_all, take_all}
use Rattle.std.proofs.lemmas.List.Sums.{prefix_len-le-length}
use Rattle.text_lines.specs.Text.{is_blank}
use Rattle.text_lines.specs.declared.Span.{Span}
use Rattle.syn_base.specs.Bytes.{Bytes}
use Rattle.body_text.specs.Tokens.{Token, Placed, front, len_by, token_of, mark_of, mark_or_word, tokens_from}
use Rattle.body_text.specs.Cut.{IsCut, token_in}

skip_more : (place k : ℕ) (bs : Bytes) → tokens_from (suc place + k) 0 bs ≡ tokens_from (place + suc k) 0 bs
skip_more place k bs = ap (λ n. tokens_from n 0 bs) (omega arith)

-- The bytes that belong to a token before are passed over.
pub skip : (place inside : ℕ) (bs : Bytes) → tokens_from place inside bs ≡ tokens_from (place + inside) 0 (drop inside bs)
skip place zero [] = refl
skip place zero (b ∷ bs) = ap (λ n. tokens_from n 0 (b ∷ bs)) (omega arith)
skip place (suc k) [] = refl
skip place (suc k) (b ∷ bs) = skip (suc place) k bs ∙ skip_more place k (drop k bs)

-- A blank is passed over.
pub blank_step : (text : Bytes) (at : ℕ) → at < length text → is_blank (get_or text at 0) ≡ true
    → tokens_from at 0 (drop at text) ≡ tokens_from (at + 1) 0 (drop (at + 1) text)
blank_step text at inside blank =
    let one : at + 1 ≡ suc at = omega arith in
    rw (drop-cons text at 0 inside, blank, one) refl

word_is : (n : ℕ) (b : ℕ) (bs : Bytes) → 0 < n → mark_or_word (mark_of b) (take n (b ∷ bs)) ≡ token_in (take n (b ∷ bs))
word_is zero b bs h = absurd (omega arith)
word_is (suc n) b bs h = refl

-- A byte that is no blank begins a token.
pub token_step : (text : Bytes) (at to : ℕ) → at < length text → is_blank (get_or text at 0) ≡ false
    → (n : ℕ) → n ≡ len_by (get_or text at 0) (drop (suc at) text) → 0 < n → to ≡ at + n
    → tokens_from at 0 (drop at text) ≡ record { token = token_in (slice_range text at to); place = at } ∷ tokens_from to 0 (drop to text)
token_step text at to inside dark n len some is =
    let b : ℕ = get_or text at 0 in
    let bs : Bytes = drop (suc at) text in
    let here : drop at text ≡ b ∷ bs = drop-cons text at 0 inside in
    let size : to - at ≡ n = omega arith in
    let word : token_of b bs ≡ token_in (slice_range text at to) = rw (size, here, ← len) (word_is n b bs some) in
    let behind : drop (n - 1) bs ≡ drop to text = drop-drop (n - 1) (suc at) text ∙ ap (λ (k : ℕ). drop k text) (omega arith) in
    let goes : suc at + (n - 1) ≡ to = omega arith in
    let rest : tokens_from (suc at) (n - 1) bs ≡ tokens_from to 0 (drop to text) = skip (suc at) (n - 1) bs ∙ rw (behind, goes) refl in
    let front : tokens_from at 0 (b ∷ bs) ≡ record { token = token_of b bs; place = at } ∷ tokens_from (suc at) (n - 1) bs = rw (dark, len) refl in
    rw here front ∙ ap₂ (λ (t : Token) (ps : List Placed). record { token = t; place = at } ∷ ps) word rest

-- At the end there is no token.
pub at_end : (text : Bytes) (at : ℕ) → length text ≤ at → tokens_from at 0 (drop at text) ≡ []
at_end text at h = rw (drop_all at text) refl

-- A tail of a text, as a range of it is written.
pub tail_is : (text : Bytes) (at : ℕ) → take (length text - (at + 1)) (drop (at + 1) text) ≡ drop (suc at) text
tail_is text at =
    let one : at + 1 ≡ suc at = omega arith in
    rw one (take_all (length text - suc at) (drop (suc at) text) (omega (arith, length-drop (suc at) text)))

-- What stands at a place is the next token.
pub cut_here : (text : Bytes) (from at n : ℕ) → from ≤ at → tokens_from from 0 (drop from text) ≡ tokens_from at 0 (drop at text)
    → at < length text → is_blank (get_or text at 0) ≡ false
    → n ≡ len_by (get_or text at 0) (take (length text - (at + 1)) (drop (at + 1) text)) → n ≤ length (take (length text - (at + 1)) (drop (at + 1) text)) + 1 → 0 < n
    → IsCut text from (record { from = at; to = at + n })
cut_here text from at n on before inside dark len most some =
    let tail = tail_is text at in
    let size : n ≡ len_by (get_or text at 0) (drop (suc at) text) = rw tail at len in
    let room : n ≤ length (drop (suc at) text) + 1 = rw tail at most in
    record {
      on = on;
      some = omega arith;
      within = omega (arith, length-drop (suc at) text);
      is = before ∙ token_step text at (at + n) inside dark n size some refl;
    }

-- One more token is counted.
pub counted_more : (text : Bytes) (at n m : ℕ) (s : Span) → IsCut text at s → n + length (tokens_from at 0 (drop at text)) ≡ m
    → n + 1 + length (tokens_from s.to 0 (drop s.to text)) ≡ m
counted_more text at n m s cut h =
    let e = ap length cut.is in omega arith

-- One more token is kept.
pub kept_more : {A : Type 0} (view : A → Placed) (text : Bytes) (at : ℕ) (s : Span) (old new : List A) (x : A) (all : List Placed)
    → IsCut text at s → new ≡ old ++ x ∷ [] → view x ≡ record { token = token_in (slice_range text s.from s.to); place = s.from }
    → map view old ++ tokens_from at 0 (drop at text) ≡ all → map view new ++ tokens_from s.to 0 (drop s.to text) ≡ all
kept_more view text at s old new x all cut pushed is before =
    rw (pushed, map_push, append_assoc, is, ← cut.is) before

front_step : (b : Bool) (n k m : ℕ) → k ≡ min n m → cond (not (not b)) (1 + k) 0 ≡ min (suc n) (cond (not (not b)) (1 + m) 0)
front_step true n k m h = omega (arith, h)
front_step false n k m h = omega arith

-- Of a front of a list no more passes than of the list.
front_take : (p : ℕ → Bool) (n : ℕ) (bs : Bytes) → front p (take n bs) ≡ min n (front p bs)
front_take p zero bs = omega arith
front_take p (suc n) [] = omega arith
front_take p (suc n) (b ∷ bs) = front_step (p b) n (front p (take n bs)) (front p bs) (front_take p n bs)

front_within : (p : ℕ → Bool) (bs : Bytes) → front p bs ≤ length bs
front_within p bs = prefix_len-le-length _ bs

-- The length of a name at the front, looked for in as many bytes as a name has at most.
pub name_length : (p : ℕ → Bool) (bs : Bytes) → 1 + front p (take (min (length bs) 31) bs) ≡ min 32 (suc (front p bs))
name_length p bs = omega (arith, front_take p (min (length bs) 31) bs, front_within p bs)
