-- Text that is put together from words and lines is cut into them again.
use Rattle.std.proofs.Common.{◌≡◌, ℕ, ◌<◌, Bool, not, ◌&&◌, true, false, cond, nat_lt, List, [], ◌∷◌, ◌++◌, length, map, refl, arith, ap, ◌∙◌, None, Some, position, append_assoc, append-nil}
use Rattle.std.specs.List.{list_all, position_or_len}
use Rattle.std.proofs.lemmas.Grind.{common_steps}
use Rattle.std.proofs.lemmas.List.{take_all}
use Rattle.text_lines.specs.Text.{is_feed, is_blank, is_hash, is_foreign, lines_of, words_of, with_byte, code_of, foreign_place}
use Rattle.syn_base.specs.Bytes.{Bytes}
use Rattle.algo_print.specs.Canonical.{spaced, joined, text_of}

-- a byte of a word: neither a blank, a comment's beginning nor a line feed, and allowed
abbrev pub is_plain : ℕ → Bool
is_plain b = not (is_blank b) && not (is_foreign b) && not (is_hash b) && not (is_feed b)

abbrev pub is_word : Bytes → Bool
is_word [] = false
is_word (b ∷ bs) = list_all is_plain (b ∷ bs)

-- both parts of a test that holds
pub both : (p q : Bool) → (p && q) ≡ true → (p ≡ true) × (q ≡ true)
both true true h = (refl, refl)
both true false h = cc
both false q h = cc

pub and_true : (p q : Bool) → p ≡ true → q ≡ true → (p && q) ≡ true
and_true p q e f = rw (e, f) refl

pub negated : (p : Bool) → not p ≡ true → p ≡ false
negated true h = cc
negated false h = refl

pub record Plain (b : ℕ) : Type 0 where
  pub no_blank : is_blank b ≡ false
  pub no_foreign : is_foreign b ≡ false
  pub no_hash : is_hash b ≡ false
  pub no_feed : is_feed b ≡ false

pub plain : (b : ℕ) → is_plain b ≡ true → Plain b
plain b h =
    let p = both (not (is_blank b) && not (is_foreign b) && not (is_hash b)) (not (is_feed b)) h in
    let q = both (not (is_blank b) && not (is_foreign b)) (not (is_hash b)) p.0 in
    let r = both (not (is_blank b)) (not (is_foreign b)) q.0 in
    record { no_blank = negated _ r.0; no_foreign = negated _ r.1; no_hash = negated _ q.1; no_feed = negated _ p.1 }

pub plain_word : (w : Bytes) → is_word w ≡ true → list_all is_plain w ≡ true
plain_word [] h = cc
plain_word (b ∷ w) h = h

pub passes : (test also : ℕ → Bool) → ((b : ℕ) → test b ≡ true → also b ≡ true) → (w : Bytes) → list_all test w ≡ true → list_all also w ≡ true
passes test also each [] h = refl
passes test also each (b ∷ w) h =
    let p = both (test b) (list_all test w) h in
    and_true (also b) (list_all also w) (each b p.0) (passes test also each w p.1)

pub joins : (test : ℕ → Bool) (l m : Bytes) → list_all test l ≡ true → list_all test m ≡ true → list_all test (l ++ m) ≡ true
joins test [] m h k = k
joins test (b ∷ l) m h k =
    let p = both (test b) (list_all test l) h in
    and_true (test b) (list_all test (l ++ m)) p.0 (joins test l m p.1 k)

-- a word with more plain bytes after it
pub word_more : (w m : Bytes) → is_word w ≡ true → list_all is_plain m ≡ true → is_word (w ++ m) ≡ true
word_more [] m h k = cc
word_more (b ∷ w) m h k = joins is_plain (b ∷ w) m h k

line_back : (l rest : Bytes) → list_all (λ b. not (is_feed b)) l ≡ true → lines_of (l ++ 10 ∷ rest) ≡ l ∷ lines_of rest
line_back [] rest h = refl
line_back (b ∷ l) rest h =
    let p = both (not (is_feed b)) (list_all (λ c. not (is_feed c)) l) h in
    rw (negated (is_feed b) p.0) (ap (with_byte b) (line_back l rest p.1))

-- a word before a blank
word_back : (b : ℕ) (w rest : Bytes) → list_all is_plain (b ∷ w) ≡ true → words_of ((b ∷ w) ++ 32 ∷ rest) ≡ (b ∷ w) ∷ words_of rest
word_back b [] rest h =
    let p = plain b (both (is_plain b) true h).0 in
    rw p.no_blank refl
word_back b (c ∷ w) rest h =
    let p = both (is_plain b) (list_all is_plain (c ∷ w)) h in
    let q = both (is_plain c) (list_all is_plain w) p.1 in
    let own = word_back c w rest p.1 in
    rw ((plain b p.0).no_blank) (rw ((plain c q.0).no_blank) (ap (with_byte b) (rw ((plain c q.0).no_blank) at own)))

-- a word at the end
last_back : (b : ℕ) (w : Bytes) → list_all is_plain (b ∷ w) ≡ true → words_of (b ∷ w) ≡ (b ∷ w) ∷ []
last_back b [] h =
    let p = plain b (both (is_plain b) true h).0 in
    rw p.no_blank refl
last_back b (c ∷ w) h =
    let p = both (is_plain b) (list_all is_plain (c ∷ w)) h in
    let q = both (is_plain c) (list_all is_plain w) p.1 in
    let own = last_back c w p.1 in
    rw ((plain b p.0).no_blank) (rw ((plain c q.0).no_blank) (ap (with_byte b) (rw ((plain c q.0).no_blank) at own)))

abbrev pub are_words : List Bytes → Bool
are_words ws = list_all is_word ws

-- words with a blank and more after them
pub words_then : (w : Bytes) (ws : List Bytes) (rest : Bytes) → are_words (w ∷ ws) ≡ true → words_of (w ++ (spaced ws ++ 32 ∷ rest)) ≡ w ∷ (ws ++ words_of rest)
words_then [] ws rest h = cc
words_then (b ∷ w) [] rest h = word_back b w rest (both (is_word (b ∷ w)) true h).0
words_then (b ∷ w) (v ∷ ws) rest h =
    let p = both (is_word (b ∷ w)) (are_words (v ∷ ws)) h in
    ap (λ (t : Bytes). words_of ((b ∷ w) ++ 32 ∷ t)) (append_assoc v (spaced ws) (32 ∷ rest))
    ∙ word_back b w (v ++ (spaced ws ++ 32 ∷ rest)) p.0
    ∙ ap (λ (x : List Bytes). (b ∷ w) ∷ x) (words_then v ws rest p.1)

-- joined words are split again
pub joined_back : (ws : List Bytes) → are_words ws ≡ true → words_of (joined ws) ≡ ws
joined_back [] h = refl
joined_back ([] ∷ ws) h = cc
joined_back ((b ∷ w) ∷ []) h = ap words_of (append-nil (b ∷ w)) ∙ last_back b w (both (is_word (b ∷ w)) true h).0
joined_back ((b ∷ w) ∷ v ∷ ws) h =
    let p = both (is_word (b ∷ w)) (are_words (v ∷ ws)) h in
    word_back b w (joined (v ∷ ws)) p.0 ∙ ap (λ (x : List Bytes). (b ∷ w) ∷ x) (joined_back (v ∷ ws) p.1)

spaced_bytes : (test : ℕ → Bool) → test 32 ≡ true → ((b : ℕ) → is_plain b ≡ true → test b ≡ true)
    → (ws : List Bytes) → are_words ws ≡ true → list_all test (spaced ws) ≡ true
spaced_bytes test space each [] h = refl
spaced_bytes test space each (w ∷ ws) h =
    let p = both (is_word w) (are_words ws) h in
    and_true (test 32) (list_all test (w ++ spaced ws)) space (joins test w (spaced ws) (passes is_plain test each w (plain_word w p.0)) (spaced_bytes test space each ws p.1))

-- each byte of joined words passes a test that each plain byte and the space pass
pub joined_bytes : (test : ℕ → Bool) → test 32 ≡ true → ((b : ℕ) → is_plain b ≡ true → test b ≡ true)
    → (ws : List Bytes) → are_words ws ≡ true → list_all test (joined ws) ≡ true
joined_bytes test space each [] h = refl
joined_bytes test space each (w ∷ ws) h =
    let p = both (is_word w) (are_words ws) h in
    joins test w (spaced ws) (passes is_plain test each w (plain_word w p.0)) (spaced_bytes test space each ws p.1)

abbrev pub all_words : List (List Bytes) → Bool
all_words ls = list_all are_words ls

no_feed : (ws : List Bytes) → are_words ws ≡ true → list_all (λ b. not (is_feed b)) (joined ws) ≡ true
no_feed ws h = joined_bytes (λ b. not (is_feed b)) refl (λ b p. ap not ((plain b p).no_feed)) ws h

-- the lines of a text of lines
pub text_back : (ls : List (List Bytes)) → all_words ls ≡ true → lines_of (text_of ls) ≡ map joined ls
text_back [] h = refl
text_back (ws ∷ ls) h =
    let p = both (are_words ws) (all_words ls) h in
    ap lines_of (append_assoc (joined ws) (10 ∷ []) (text_of ls)) ∙ line_back (joined ws) (text_of ls) (no_feed ws p.0)
    ∙ ap (λ (x : List Bytes). joined ws ∷ x) (text_back ls p.1)

none_at : (m n : ℕ) → m ≡ n → cond (nat_lt m n) (Some m) None ≡ None
none_at m n e = grind (arith, common_steps)

no_stop : (test : ℕ → Bool) (l : Bytes) → list_all (λ b. not (test b)) l ≡ true → position_or_len test l ≡ length l
no_stop test [] h = refl
no_stop test (b ∷ l) h =
    let p = both (not (test b)) (list_all (λ c. not (test c)) l) h in
    rw p.0 (omega (arith, no_stop test l p.1))

-- a line without comment is its own code
pub code_back : (ws : List Bytes) → are_words ws ≡ true → code_of (joined ws) ≡ joined ws
code_back ws h = take_all (position_or_len is_hash (joined ws)) (joined ws)
    (omega (arith, no_stop is_hash (joined ws) (joined_bytes (λ b. not (is_hash b)) refl (λ b p. ap not ((plain b p).no_hash)) ws h)))

pub foreign_back : (ws : List Bytes) → are_words ws ≡ true → foreign_place (joined ws) ≡ None
foreign_back ws h =
    rw (code_back ws h) (none_at (position_or_len is_foreign (joined ws)) (length (joined ws))
    (no_stop is_foreign (joined ws) (joined_bytes (λ b. not (is_foreign b)) refl (λ b p. ap not ((plain b p).no_foreign)) ws h)))

-- the first byte of a kind
pub first_stands : (test : ℕ → Bool) (l rest : Bytes) (b : ℕ) → list_all (λ c. not (test c)) l ≡ true → test b ≡ true → position test (l ++ b ∷ rest) ≡ Some (length l)
first_stands test l rest b h is = found (position_or_len test (l ++ b ∷ rest)) (length l) (length (l ++ b ∷ rest)) (stops test l rest b h is) (shorter l rest b)
  where
    found : (m k n : ℕ) → m ≡ k → k < n → cond (nat_lt m n) (Some m) None ≡ Some k
    found m k n e less = grind (arith, common_steps)

    shorter : (l rest : Bytes) (b : ℕ) → length l < length (l ++ b ∷ rest)
    shorter [] rest b = omega arith
    shorter (c ∷ l) rest b = omega (arith, shorter l rest b)

    stops : (test : ℕ → Bool) (l rest : Bytes) (b : ℕ) → list_all (λ c. not (test c)) l ≡ true → test b ≡ true → position_or_len test (l ++ b ∷ rest) ≡ length l
    stops test [] rest b h is = rw is refl
    stops test (c ∷ l) rest b h is =
        let p = both (not (test c)) (list_all (λ d. not (test d)) l) h in
        rw p.0 (omega (arith, stops test l rest b p.1 is))
