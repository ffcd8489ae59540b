-- The ports of a written expression, by number and back by name.
use Rattle.std.proofs.Common.{
  ◌≡◌,
  ℕ,
  suc,
  ◌+◌,
  ◌<◌,
  Bool,
  true,
  false,
  not,
  cond,
  ◌||◌,
  List,
  [],
  ◌∷◌,
  ◌++◌,
  length,
  Option,
  Some,
  None,
  refl,
  sym,
  ap,
  ap₂,
  ◌∙◌,
  arith,
  slice_index_or,
  bytes_eq,
  codes,
}
use Rattle.std.specs.List.{list_any, position_or_len}
use Rattle.std.proofs.lemmas.Slice.Eq.{bytes_eq-Decides}
use Rattle.syn_base.specs.declared.arithmetic.Op.TheVariants.{Neg}
use Rattle.body_lang.specs.Expr.{PortsBelow}
use Rattle.syn_base.specs.Bytes.{Bytes}
use Rattle.body_text.specs.Grammar.{Written, literal, index, element, sum_over, negation, apply, select, written, word_of}
use Rattle.body_text.specs.Ports.{Naming, namings, is_port, first_unknown, unknown, port_number, resolved}
use Rattle.body_text.specs.Canonical.{port_name, canonical}
use Rattle.body_text.proofs.CanonicalText.{text_of}

found : (here : Bool) (k : ℕ) (p q : Bytes) (qs : List Bytes) → (here ≡ true → p ≡ q) → (here ≡ false → (k < length qs) × (slice_index_or qs k [] ≡ p))
    → (cond (not here) (1 + k) 0 < length (q ∷ qs)) × (slice_index_or (q ∷ qs) (cond (not here) (1 + k) 0) [] ≡ p)
found true k p q qs same later = (omega arith, sym (same refl))
found false k p q qs same later =
    let next : suc k ≡ 1 + k = omega arith in
    let small : k < length qs = (later refl).0 in
    (omega arith, ap (λ n. slice_index_or (q ∷ qs) n []) (sym next) ∙ (later refl).1)

later_any : (here more : Bool) → (here || more) ≡ true → here ≡ false → more ≡ true
later_any true more h e = cc
later_any false more h e = h

-- a port of this name has a number, which is of this name
numbered : (p : Bytes) (ports : List Bytes) → list_any (bytes_eq p) ports ≡ true → (position_or_len (bytes_eq p) ports < length ports)
    × (slice_index_or ports (position_or_len (bytes_eq p) ports) [] ≡ p)
numbered p [] h = cc
numbered p (q ∷ qs) h = found (bytes_eq p q) (position_or_len (bytes_eq p) qs) p q qs (λ e. (bytes_eq-Decides p q).0 e) (λ e. numbered p qs (later_any (bytes_eq p q) (list_any (bytes_eq p) qs) h e))

known_first : (known : Bool) (o : Option ℕ) (token : ℕ) → cond known o (Some token) ≡ None → (known ≡ true) × (o ≡ None)
known_first true o token h = (refl, h)
known_first false o token h = cc

module _ (ports : List Bytes) where
  abbrev pub AreKnown : Written → Type 0
  AreKnown (literal v) = Unit {0}
  AreKnown index = Unit {0}
  AreKnown (element p e) = (is_port ports p ≡ true) × AreKnown e
  AreKnown (sum_over p) = is_port ports p ≡ true
  AreKnown (negation a) = AreKnown a
  AreKnown (apply op a b) = AreKnown a × AreKnown b
  AreKnown (select c a b) = AreKnown c × (AreKnown a × AreKnown b)

  none_each : (xs ys : List Naming) → first_unknown ports (xs ++ ys) ≡ None → (first_unknown ports xs ≡ None) × (first_unknown ports ys ≡ None)
  none_each [] ys h = (refl, h)
  none_each (n ∷ xs) ys h =
      let k : (is_port ports n.port ≡ true) × (first_unknown ports (xs ++ ys) ≡ None) = known_first (is_port ports n.port) (first_unknown ports (xs ++ ys)) n.token h in
      let more : (first_unknown ports xs ≡ None) × (first_unknown ports ys ≡ None) = none_each xs ys k.1 in
      (ap (λ b. cond b (first_unknown ports xs) (Some n.token)) k.0 ∙ more.0, more.1)

  all_known : (at : ℕ) (w : Written) → first_unknown ports (namings at w) ≡ None → AreKnown w
  all_known at (literal v) h = tt
  all_known at index h = tt
  all_known at (element p e) h =
      let k : (is_port ports p ≡ true) × (first_unknown ports (namings (at + 2) e) ≡ None) = known_first (is_port ports p) (first_unknown ports (namings (at + 2) e)) at h in
      (k.0, all_known (at + 2) e k.1)
  all_known at (sum_over p) h = (known_first (is_port ports p) None (at + 2) h).0
  all_known at (negation a) h = all_known (at + 2) a h
  all_known at (apply op a b) h =
      let k = none_each (namings (at + 2) a) (namings (at + 3 + length (written a)) b) h in
      (all_known (at + 2) a k.0, all_known (at + 3 + length (written a)) b k.1)
  all_known at (select c a b) h =
      let second : ℕ = at + 3 + length (written c) in
      let third : ℕ = at + 4 + length (written c) + length (written a) in
      let k = none_each (namings (at + 2) c) (namings second a ++ namings third b) h in
      let l = none_each (namings second a) (namings third b) k.1 in
      (all_known (at + 2) c k.0, (all_known second a l.0, all_known third b l.1))

  pub known : (w : Written) → unknown ports w ≡ None → AreKnown w
  known w h = all_known 0 w h

  named_again : (p : Bytes) → is_port ports p ≡ true → port_name ports (port_number ports p) ≡ p
  named_again p h = (numbered p ports h).1

  -- the text by numbers is the text by names
  pub same_text : (w : Written) → AreKnown w → canonical ports (resolved ports w) ≡ text_of w
  same_text (literal v) k = refl
  same_text index k = refl
  same_text (element p e) k = ap₂ (λ n t. n ++ (codes "[" ++ (t ++ codes "]"))) (named_again p k.0) (same_text e k.1)
  same_text (sum_over p) k = ap (λ n. codes "sum(" ++ (n ++ codes ")")) (named_again p k)
  same_text (negation a) k = ap (λ t. word_of Neg ++ (codes "(" ++ (t ++ codes ")"))) (same_text a k)
  same_text (apply op a b) k = ap₂ (λ t u. word_of op ++ (codes "(" ++ (t ++ (codes "," ++ (u ++ codes ")"))))) (same_text a k.0) (same_text b k.1)
  same_text (select c a b) k =
      ap (λ t. codes "select(" ++ (t ++ (codes "," ++ (canonical ports (resolved ports a) ++ (codes "," ++ (canonical ports (resolved ports b) ++ codes ")")))))) (same_text c k.0)
      ∙ ap₂ (λ t u. codes "select(" ++ (text_of c ++ (codes "," ++ (t ++ (codes "," ++ (u ++ codes ")")))))) (same_text a k.1.0) (same_text b k.1.1)

  pub numbers_below : (w : Written) → AreKnown w → PortsBelow (length ports) (resolved ports w)
  numbers_below (literal v) k = tt
  numbers_below index k = tt
  numbers_below (element p e) k = ((numbered p ports k.0).0, numbers_below e k.1)
  numbers_below (sum_over p) k = (numbered p ports k).0
  numbers_below (negation a) k = numbers_below a k
  numbers_below (apply op a b) k = (numbers_below a k.0, numbers_below b k.1)
  numbers_below (select c a b) k = (numbers_below c k.0, (numbers_below a k.1.0, numbers_below b k.1.1))
