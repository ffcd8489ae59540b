-- The words of a command without options, positional by positional.
use Rattle.std.proofs.Common.{◌≡◌, ◌∙◌, ℕ, suc, List, [], ◌∷◌, Bool, true, false, Option, Some, None, inl, inr, refl, sym, subst}
use Rattle.std.specs.Prelude.{fold, option_map, option_and_then}
use Rattle.std.specs.Str.{IsUtf8}
use Rattle.clap.specs.Walk.{Held, Row, Walk, value, walked, arg_by_index, to_positional, settled, finished}
use Rattle.clap.specs.Simple.{Shape}
use Rattle.clap.specs.Kinds.{Kinds, or_else}
use Rattle.clap.specs.Faults.{turn_fault, walk_fault, step_fault, settle_fault, defaults_fault, check_fault}
use Rattle.command_words.proofs.PlainWords.{Text, is_escape, is_dashed, plain_from}
use Rattle.command_words.proofs.Looks.{two_ways}
use Rattle.command_words.proofs.Leaf.{IsRefused, refused_first, NoOptions, at, met_plain, met_escape, word_plain, word_escape, word_dashed}

abbrev pub AreTexts : List Text → Type 0
AreTexts [] = Unit {0}
AreTexts (w ∷ ws) = IsUtf8 w × AreTexts ws

-- the faults of the words from a walk on, and the rows at their end
abbrev pub ending : Shape → Held → Kinds
ending s h = or_else (settle_fault s.rules s.args_override_self h) (or_else (defaults_fault (settled s.rules h).rows s.rules) (check_fault s (finished s.rules h) false))

abbrev pub faults_of : Shape → Walk → List Text → Kinds
faults_of s w ws = or_else (walk_fault s [] w ws) (ending s (fold (walked s.rules []) w ws).held)

abbrev pub rows_of_walk : Shape → Walk → List Text → List Row
rows_of_walk s w ws = finished s.rules (fold (walked s.rules []) w ws).held

abbrev pub Fits : Shape → Walk → List Text → Option (List Row) → Type 0
Fits s w ws None = IsRefused (faults_of s w ws)
Fits s w ws (Some rows) = (faults_of s w ws ≡ []) × (rows_of_walk s w ws ≡ rows)

pub faults_on : (s : Shape) (w : Walk) (x : Text) (xs : List Text) → turn_fault s [] w x ≡ [] → faults_of s w (x ∷ xs) ≡ faults_of s (walked s.rules [] w x) xs
unfolding walk_fault
faults_on s w x xs h = rw h refl

pub fits_on : (s : Shape) (w w' : Walk) (x : Text) (xs : List Text) (o : Option (List Row)) → turn_fault s [] w x ≡ [] → walked s.rules [] w x ≡ w' → Fits s w' xs o → Fits s w (x ∷ xs) o
fits_on s w w' x xs None h e f = rw (faults_on s w x xs h, e) f
fits_on s w w' x xs (Some rows) h e f = (faults_on s w x xs h ∙ rw e f.0, subst (λ (v : Walk). rows_of_walk s v xs ≡ rows) (sym e) f.1)

pub fits_not : (s : Shape) (w : Walk) (x : Text) (xs : List Text) → IsRefused (turn_fault s [] w x) → Fits s w (x ∷ xs) None
unfolding walk_fault
fits_not s w x xs h = refused_first _ _ (refused_first _ _ h)

-- from here on the plain words come to what f says
abbrev pub Reads : Shape → Held → ℕ → (List Text → Option (List Row)) → Type 0
Reads s h p f = (t : Bool) (ws : List Text) → AreTexts ws → Fits s (at h p t) ws (option_and_then f (plain_from t ws))

-- one word
pub turn_value : (s : Shape) (h : Held) (p : ℕ) (x : Text) → turn_fault s [] (at h p true) x ≡ step_fault s p h value
turn_value s h p x = refl

pub turn_plain : (s : Shape) (h : Held) (p : ℕ) (x : Text) → is_escape x ≡ false → is_dashed x ≡ false → turn_fault s [] (at h p false) x ≡ step_fault s p h value
turn_plain s h p x e d = rw (word_plain s x h e d, met_plain s.rules p x h e d) refl

pub turn_escape : (s : Shape) (h : Held) (p : ℕ) (x : Text) → is_escape x ≡ true → turn_fault s [] (at h p false) x ≡ []
turn_escape s h p x e = rw (word_escape s x h e, met_escape s.rules p x h e) refl

turn_dashed : (s : Shape) (h : Held) (p : ℕ) (x : Text) → NoOptions s → h.skip ≡ 0 → IsUtf8 x → is_escape x ≡ false → is_dashed x ≡ true → IsRefused (turn_fault s [] (at h p false) x)
turn_dashed s h p x free z u e d = refused_first _ _ (subst IsRefused (sym (word_dashed s x h free z u e d)) (λ b. cc))

pub walked_value : (s : Shape) (h : Held) (p : ℕ) (x : Text) → walked s.rules [] (at h p true) x ≡ to_positional s.rules (arg_by_index s.rules p) x (at h p true) h
unfolding walked
walked_value s h p x = refl

pub walked_plain : (s : Shape) (h : Held) (p : ℕ) (x : Text) → is_escape x ≡ false → is_dashed x ≡ false
    → walked s.rules [] (at h p false) x ≡ to_positional s.rules (arg_by_index s.rules p) x (at h p false) h
unfolding walked
walked_plain s h p x e d = rw (met_plain s.rules p x h e d) refl

pub walked_escape : (s : Shape) (h : Held) (p : ℕ) (x : Text) → is_escape x ≡ true → walked s.rules [] (at h p false) x ≡ at h p true
unfolding walked
walked_escape s h p x e = rw (met_escape s.rules p x h e) refl

-- a positional takes the word
pub record Takes (s : Shape) (h : Held) (p : ℕ) (next : Text → Held) : Type 0 where
  pub passes : (x : Text) → step_fault s p h value ≡ []
  pub goes : (x : Text) (t : Bool) → to_positional s.rules (arg_by_index s.rules p) x (at h p t) h ≡ at (next x) (suc p) t

module _ (s : Shape) (h : Held) (p : ℕ) (f : List Text → Option (List Row)) (free : NoOptions s) (unskipped : h.skip ≡ 0) (ends : (t : Bool) → Fits s (at h p t) [] (f [])) where
  -- a positional stands at this place, and what is after it is read as g says
  pub stage : (next : Text → Held) (g : Text → List Text → Option (List Row)) → Takes s h p next
      → ((x : Text) (us : List Text) → f (x ∷ us) ≡ g x us) → ((x : Text) → Reads s (next x) (suc p) (g x)) → Reads s h p f
  stage next g k eq r true [] u = ends true
  stage next g k eq r false [] u = ends false
  stage next g k eq r true (x ∷ xs) u =
      rw (eq x xs) (fits_on s (at h p true) (at (next x) (suc p) true) x xs (g x xs) (turn_value s h p x ∙ k.passes x) (walked_value s h p x ∙ k.goes x true) (r x true xs u.1))
  stage next g k eq r false (x ∷ xs) u =
      elim (two_ways (is_escape x)) [
        | inl e ↦ rw e (fits_on s (at h p false) (at h p true) x xs (f xs) (turn_escape s h p x e) (walked_escape s h p x e) (stage next g k eq r true xs u.1))
        | inr e ↦ elim (two_ways (is_dashed x)) [
          | inl d ↦ rw (e, d) (fits_not s (at h p false) x xs (turn_dashed s h p x free unskipped u.0 e d))
          | inr d ↦ rw (e, d) (subst (λ (o : Option (List Row)). Fits s (at h p false) (x ∷ xs) o) (sym (shift x (plain_from false xs)))
              (fits_on s (at h p false) (at (next x) (suc p) false) x xs (option_and_then (g x) (plain_from false xs))
              (turn_plain s h p x e d ∙ k.passes x) (walked_plain s h p x e d ∙ k.goes x false) (r x false xs u.1)))
        ]
      ]
    where
      shift : (x : Text) (o : Option (List Text)) → option_and_then f (option_map (λ us. x ∷ us) o) ≡ option_and_then (g x) o
      shift x None = refl
      shift x (Some us) = eq x us

  -- no positional stands at this place
  pub last : IsRefused (step_fault s p h value) → ((x : Text) (us : List Text) → f (x ∷ us) ≡ None) → Reads s h p f
  last bad eq true [] u = ends true
  last bad eq false [] u = ends false
  last bad eq true (x ∷ xs) u = rw (eq x xs) (fits_not s (at h p true) x xs bad)
  last bad eq false (x ∷ xs) u =
      elim (two_ways (is_escape x)) [
        | inl e ↦ rw e (fits_on s (at h p false) (at h p true) x xs (f xs) (turn_escape s h p x e) (walked_escape s h p x e) (last bad eq true xs u.1))
        | inr e ↦ elim (two_ways (is_dashed x)) [
          | inl d ↦ rw (e, d) (fits_not s (at h p false) x xs (turn_dashed s h p x free unskipped u.0 e d))
          | inr d ↦ rw (e, d) (subst (λ (o : Option (List Row)). Fits s (at h p false) (x ∷ xs) o) (sym (none x (plain_from false xs)))
              (fits_not s (at h p false) x xs (subst IsRefused (sym (turn_plain s h p x e d)) bad)))
        ]
      ]
    where
      none : (x : Text) (o : Option (List Text)) → option_and_then f (option_map (λ us. x ∷ us) o) ≡ None
      none x None = refl
      none x (Some us) = eq x us
