-- Text that is joined splits into what it was joined from.
use Rattle.std.proofs.Common.{◌≡◌, ℕ, Bool, not, ◌&&◌, true, false, cond, nat_lt, List, [], ◌∷◌, ◌++◌, length, refl, arith, ap, ◌∙◌, None, Some, map}
use Rattle.std.specs.List.{list_all, position_or_len}
use Rattle.std.proofs.lemmas.Grind.{common_steps}
use Rattle.std.proofs.lemmas.List.{take_all}
use Rattle.text_lines.specs.Text.{is_feed, is_blank, is_hash, is_foreign, lines_of, words_of, with_byte, code_of, foreign_place}
use Rattle.archi_reader.specs.Canonical.{Words, joined, text_of}

-- a byte of a word: neither blank nor a comment's beginning nor a line feed, and allowed
abbrev pub is_plain : ℕ → Bool
is_plain b = not (is_blank b) && not (is_foreign b) && not (is_hash b) && not (is_feed b)

-- a word, as lines are made of
abbrev pub is_word : List ℕ → Bool
is_word [] = false
is_word (b ∷ bs) = list_all is_plain (b ∷ bs)

-- both parts of a test that holds
both : (p q : Bool) → (p && q) ≡ true → (p ≡ true) × (q ≡ true)
both true true h = (refl, refl)
both true false h = cc
both false q h = cc

pub record Plain (b : ℕ) : Type 0 where
  pub no_blank : is_blank b ≡ false
  pub no_foreign : is_foreign b ≡ false
  pub no_hash : is_hash b ≡ false
  pub no_feed : is_feed b ≡ false

negated : (p : Bool) → not p ≡ true → p ≡ false
negated true h = cc
negated false h = refl

pub plain : (b : ℕ) → is_plain b ≡ true → Plain b
plain b h =
    let p = both (not (is_blank b) && not (is_foreign b) && not (is_hash b)) (not (is_feed b)) h in
    let q = both (not (is_blank b) && not (is_foreign b)) (not (is_hash b)) p.0 in
    let r = both (not (is_blank b)) (not (is_foreign b)) q.0 in
    record { no_blank = negated _ r.0; no_foreign = negated _ r.1; no_hash = negated _ q.1; no_feed = negated _ p.1 }

plain_word : (w : List ℕ) → is_word w ≡ true → list_all is_plain w ≡ true
plain_word [] h = cc
plain_word (b ∷ w) h = h

and_true : (p q : Bool) → p ≡ true → q ≡ true → (p && q) ≡ true
and_true p q e f = rw (e, f) refl

passes : (test : ℕ → Bool) → ((b : ℕ) → is_plain b ≡ true → test b ≡ true) → (w : List ℕ) → list_all is_plain w ≡ true → list_all test w ≡ true
passes test each [] h = refl
passes test each (b ∷ w) h =
    let p = both (is_plain b) (list_all is_plain w) h in
    and_true (test b) (list_all test w) (each b p.0) (passes test each w p.1)

joins : (test : ℕ → Bool) (l m : List ℕ) → list_all test l ≡ true → list_all test m ≡ true → list_all test (l ++ m) ≡ true
joins test [] m h k = k
joins test (b ∷ l) m h k =
    let p = both (test b) (list_all test l) h in
    and_true (test b) (list_all test (l ++ m)) p.0 (joins test l m p.1 k)

none_at : (m n : ℕ) → m ≡ n → cond (nat_lt m n) (Some m) None ≡ None
none_at m n e = grind (arith, common_steps)

pub line_back : (l rest : List ℕ) → list_all (λ b. not (is_feed b)) l ≡ true → lines_of (l ++ 10 ∷ rest) ≡ l ∷ lines_of rest
line_back [] rest h = refl
line_back (b ∷ l) rest h =
    let p = both (not (is_feed b)) (list_all (λ c. not (is_feed c)) l) h in
    rw (negated (is_feed b) p.0) (ap (with_byte b) (line_back l rest p.1))

-- a word before a blank
pub word_back : (b : ℕ) (w rest : List ℕ) → list_all is_plain (b ∷ w) ≡ true → words_of ((b ∷ w) ++ 32 ∷ rest) ≡ (b ∷ w) ∷ words_of rest
word_back b [] rest h =
    let p = plain b (both (is_plain b) true h).0 in
    rw p.no_blank refl
word_back b (c ∷ w) rest h =
    let p = both (is_plain b) (list_all is_plain (c ∷ w)) h in
    let q = both (is_plain c) (list_all is_plain w) p.1 in
    let own = word_back c w rest p.1 in
    rw ((plain b p.0).no_blank) (rw ((plain c q.0).no_blank) (ap (with_byte b) (rw ((plain c q.0).no_blank) at own)))

-- a word at the end
pub last_back : (b : ℕ) (w : List ℕ) → list_all is_plain (b ∷ w) ≡ true → words_of (b ∷ w) ≡ (b ∷ w) ∷ []
last_back b [] h =
    let p = plain b (both (is_plain b) true h).0 in
    rw p.no_blank refl
last_back b (c ∷ w) h =
    let p = both (is_plain b) (list_all is_plain (c ∷ w)) h in
    let q = both (is_plain c) (list_all is_plain w) p.1 in
    let own = last_back c w p.1 in
    rw ((plain b p.0).no_blank) (rw ((plain c q.0).no_blank) (ap (with_byte b) (rw ((plain c q.0).no_blank) at own)))

-- joined words are split again
pub joined_back : (ws : List (List ℕ)) → list_all is_word ws ≡ true → words_of (joined ws) ≡ ws
joined_back [] h = refl
joined_back ([] ∷ []) h = cc
joined_back ((b ∷ w) ∷ []) h = last_back b w (both (is_word (b ∷ w)) true h).0
joined_back ([] ∷ v ∷ ws) h = cc
joined_back ((b ∷ w) ∷ v ∷ ws) h =
    let p = both (is_word (b ∷ w)) (list_all is_word (v ∷ ws)) h in
    word_back b w (joined (v ∷ ws)) p.0 ∙ ap (λ (x : List (List ℕ)). (b ∷ w) ∷ x) (joined_back (v ∷ ws) p.1)

-- each byte of joined words passes a test that each plain byte and the space pass
pub joined_bytes : (test : ℕ → Bool) → test 32 ≡ true → ((b : ℕ) → is_plain b ≡ true → test b ≡ true)
    → (ws : List (List ℕ)) → list_all is_word ws ≡ true → list_all test (joined ws) ≡ true
joined_bytes test space each [] h = refl
joined_bytes test space each (w ∷ []) h = passes test each w (plain_word w (both (is_word w) true h).0)
joined_bytes test space each (w ∷ v ∷ ws) h =
    let p = both (is_word w) (list_all is_word (v ∷ ws)) h in
    joins test w (32 ∷ joined (v ∷ ws)) (passes test each w (plain_word w p.0)) (rw space (joined_bytes test space each (v ∷ ws) p.1))

-- each of these lines has words alone
abbrev pub are_words : Words → Bool
are_words ws = list_all is_word ws

no_feed : (ws : Words) → are_words ws ≡ true → list_all (λ b. not (is_feed b)) (joined ws) ≡ true
no_feed ws h = joined_bytes (λ b. not (is_feed b)) refl (λ b p. ap not ((plain b p).no_feed)) ws h

-- the lines of a text are its lines again
pub text_back : (lines : List Words) → list_all are_words lines ≡ true → lines_of (text_of lines) ≡ map joined lines
text_back [] h = refl
text_back (ws ∷ lines) h =
    let p = both (are_words ws) (list_all are_words lines) h in
    line_back (joined ws) (text_of lines) (no_feed ws p.0) ∙ ap (λ (x : List (List ℕ)). joined ws ∷ x) (text_back lines p.1)

no_stop : (test : ℕ → Bool) (l : List ℕ) → list_all (λ b. not (test b)) l ≡ true → position_or_len test l ≡ length l
no_stop test [] h = refl
no_stop test (b ∷ l) h =
    let p = both (not (test b)) (list_all (λ c. not (test c)) l) h in
    rw p.0 (omega (arith, no_stop test l p.1))

-- a line without comment is its own code
pub code_back : (l : List ℕ) → list_all (λ b. not (is_hash b)) l ≡ true → code_of l ≡ l
code_back l h = take_all (position_or_len is_hash l) l (omega (arith, no_stop is_hash l h))

pub foreign_back : (l : List ℕ) → list_all (λ b. not (is_hash b)) l ≡ true → list_all (λ b. not (is_foreign b)) l ≡ true → foreign_place l ≡ None
foreign_back l h f =
    rw (code_back l h) (none_at (position_or_len is_foreign l) (length l) (no_stop is_foreign l f))
