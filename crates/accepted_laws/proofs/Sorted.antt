-- The lines of a repetition in order are those of the text: each puts itself before all that are left.
use Rattle.std.proofs.Common.{
  ◌≡◌,
  ℕ,
  suc,
  ◌<◌,
  ◌≤◌,
  nat_le,
  Bool,
  true,
  false,
  ◌||◌,
  List,
  [],
  ◌∷◌,
  ◌++◌,
  map,
  Option,
  Some,
  None,
  refl,
  ap,
  ap₂,
  sym,
  subst,
  ◌∙◌,
  arith,
  append_assoc,
  append-nil,
  if◌then◌else◌,
}
use Rattle.std.specs.Str.{bytes_eq}
use Rattle.std.proofs.lemmas.Bool.{le-leb, lt-leb}
use Rattle.std.proofs.lemmas.Slice.Eq.{bytes_eq-Decides}
use Rattle.syn_base.specs.Bytes.{Bytes}
use Rattle.flat_laws.specs.Lines.{outer_of, put_line, in_line_order}
use Rattle.flat_laws.proofs.Lines.{AllLines, all-lines}
use Rattle.algo_laws.specs.declared.Port.{Port}
use Rattle.algo_laws.specs.declared.Feed.{Feed}
use Rattle.algo_laws.specs.declared.Feed.TheVariants as feed
use Rattle.algo_laws.specs.Well.{IsNewName, AreDistinctNames}
use Rattle.algo_laws.specs.declared.Frontier.{Frontier}
use Rattle.algo_laws.specs.declared.Frontier.TheVariants.{Fork, Diffuse, Iterate, Join}
use Rattle.algo_laws.specs.declared.FrontierLine.{FrontierLine}
use Rattle.algo_laws.specs.Among.{is_among}
use Rattle.algo_laws.specs.Ports.{has_port, len_of, number_of}
use Rattle.algo_laws.specs.Frontiers.{used_by}
use Rattle.algo_laws.specs.Resolved.{feed_by, first_feed, feed_of}
use Rattle.algo_laws.specs.WellRead.{port_names}
use Rattle.algo_laws.specs.declared.Ports.{Ports}
use Rattle.algo_laws.proofs.Firsts.{Each}
use Rattle.algo_laws.proofs.Lengths.{turned}
use Rattle.algo_laws.proofs.Frontiers.{LinesFit, LineFits, IsFresh, AreFresh, uses_all, RepeatFits}
use Rattle.accepted_laws.specs.TextLines.{feeds_by, text_feeds}
use Rattle.accepted_laws.proofs.OuterNumbers.{NumbersLine, NumbersLines}

if_true : {A : Type 0} (b : Bool) (x y : A) → b ≡ true → (if b then x else y) ≡ x
if_true true x y e = refl
if_true false x y e = cc

if_false : {A : Type 0} (b : Bool) (x y : A) → b ≡ false → (if b then x else y) ≡ y
if_false true x y e = cc
if_false false x y e = refl

-- a line with a smaller outer input than all others stands before them
put_first : (f : Feed) (fs : List Feed) → AllLines (λ g. outer_of f < outer_of g) fs → put_line f fs ≡ f ∷ fs
put_first f [] h = refl
put_first f (g ∷ gs) h = if_true (nat_le (outer_of f) (outer_of g)) (f ∷ g ∷ gs) (g ∷ put_line f gs) (le-leb (outer_of f) (outer_of g) (let lt = h.0 in omega (arith, lt)))

-- a line with a greater one goes past it
put_past : (f g : Feed) (fs : List Feed) → outer_of f < outer_of g → put_line g (f ∷ fs) ≡ f ∷ put_line g fs
put_past f g fs lt = if_false (nat_le (outer_of g) (outer_of f)) (g ∷ f ∷ fs) (f ∷ put_line g fs) (lt-leb (outer_of g) (outer_of f) lt)

-- the ports that no line before has used
abbrev pub left : List Bytes → List Port → List Port
left used [] = []
left used (p ∷ ps) = if is_among p.name used then left used ps else p ∷ left used ps

left_used : (used : List Bytes) (p : Port) (ps : List Port) → is_among p.name used ≡ true → left used (p ∷ ps) ≡ left used ps
left_used used p ps e = if_true (is_among p.name used) (left used ps) (p ∷ left used ps) e

left_new : (used : List Bytes) (p : Port) (ps : List Port) → is_among p.name used ≡ false → left used (p ∷ ps) ≡ p ∷ left used ps
left_new used p ps e = if_false (is_among p.name used) (left used ps) (p ∷ left used ps) e

among_append : (w : Bytes) (xs ys : List Bytes) → is_among w (xs ++ ys) ≡ (is_among w xs || is_among w ys)
among_append w [] ys = refl
among_append w (x ∷ xs) ys = by (bytes_eq w x) (among_append w xs ys)
  where
    by : (b : Bool) → is_among w (xs ++ ys) ≡ (is_among w xs || is_among w ys) → (b || is_among w (xs ++ ys)) ≡ ((b || is_among w xs) || is_among w ys)
    by true e = refl
    by false e = e

among_one : (w x : Bytes) (used : List Bytes) (b c : Bool) → is_among w used ≡ b → bytes_eq w x ≡ c → is_among w (used ++ x ∷ []) ≡ (b || (c || false))
among_one w x used b c e k = among_append w used (x ∷ []) ∙ ap₂ (λ (a d : Bool). a || (d || false)) e k

-- One line: a feed f for the inner input x, and the rest of the lines for the others.
module _ (inner own : Ports) (rest : Bytes → Feed) (f : Feed) (x : Bytes) (used after : List Bytes) where
  abbrev fed : Bytes → Feed
  fed w = first_feed inner own (if bytes_eq w x then Some f else None) (rest w)

  fed_here : (w : Bytes) → bytes_eq w x ≡ true → fed w ≡ f
  fed_here w e = ap (λ (o : Option Feed). first_feed inner own o (rest w)) (if_true (bytes_eq w x) (Some f) None e)

  fed_later : (w : Bytes) → bytes_eq w x ≡ false → fed w ≡ rest w
  fed_later w e = ap (λ (o : Option Feed). first_feed inner own o (rest w)) (if_false (bytes_eq w x) (Some f) None e)

  abbrev by_now : List Bytes
  by_now = used ++ x ∷ []

  -- each port is used by now or after it
  abbrev IsUsed : Port → Type 0
  IsUsed p = is_among p.name (by_now ++ after) ≡ true

  -- what is used after it has greater outer inputs
  abbrev IsAfter : Type 0
  IsAfter = (w : Bytes) → is_among w after ≡ true → outer_of f < outer_of (rest w)

  used_after : (w : Bytes) → is_among w (by_now ++ after) ≡ true → is_among w by_now ≡ false → is_among w after ≡ true
  used_after w h e = sym (among_append w by_now after ∙ ap (λ (a : Bool). a || is_among w after) e) ∙ h

  others : (ps : List Port) → IsNewName x (port_names ps) → map (λ p. fed p.name) (left used ps) ≡ map (λ p. rest p.name) (left by_now ps)
  others [] new = refl
  others (p ∷ ps) new = by (is_among p.name used) refl (turned x p.name new.0) (others ps new.1)
    where
      by : (b : Bool) → is_among p.name used ≡ b → bytes_eq p.name x ≡ false → map (λ p. fed p.name) (left used ps) ≡ map (λ p. rest p.name) (left by_now ps)
          → map (λ p. fed p.name) (left used (p ∷ ps)) ≡ map (λ p. rest p.name) (left by_now (p ∷ ps))
      by true e other later = ap (map (λ p. fed p.name)) (left_used used p ps e) ∙ later ∙ ap (map (λ p. rest p.name)) (sym (left_used by_now p ps (among_one p.name x used true false e other)))
      by false e other later =
          ap (map (λ p. fed p.name)) (left_new used p ps e)
          ∙ ap₂ (λ (g : Feed) (gs : List Feed). g ∷ gs) (fed_later p.name other) later
          ∙ ap (map (λ p. rest p.name)) (sym (left_new by_now p ps (among_one p.name x used false false e other)))

  greater : (ps : List Port) → Each IsUsed ps → IsAfter → AllLines (λ g. outer_of f < outer_of g) (map (λ p. rest p.name) (left by_now ps))
  greater [] h go = tt
  greater (p ∷ ps) h go = by (is_among p.name by_now) refl (greater ps h.1 go)
    where
      by : (b : Bool) → is_among p.name by_now ≡ b → AllLines (λ g. outer_of f < outer_of g) (map (λ p. rest p.name) (left by_now ps))
          → AllLines (λ g. outer_of f < outer_of g) (map (λ p. rest p.name) (left by_now (p ∷ ps)))
      by true e later = subst (λ (qs : List Port). AllLines (λ g. outer_of f < outer_of g) (map (λ p. rest p.name) qs)) (sym (left_used by_now p ps e)) later
      by false e later =
          subst (λ (qs : List Port). AllLines (λ g. outer_of f < outer_of g) (map (λ p. rest p.name) qs)) (sym (left_new by_now p ps e)) (go p.name (used_after p.name h.0 e), later)

  stands_first : (p : Port) (ps : List Port) → p.name ≡ x → IsNewName p.name (port_names ps) → is_among x used ≡ false → Each IsUsed ps → IsAfter
      → in_line_order (map (λ p. fed p.name) (left used (p ∷ ps))) ≡ f ∷ in_line_order (map (λ p. rest p.name) (left by_now (p ∷ ps)))
  stands_first p ps same new fresh h go =
      let unused : is_among p.name used ≡ false = ap (λ (w : Bytes). is_among w used) same ∙ fresh in
      let test : bytes_eq p.name x ≡ true = (bytes_eq-Decides p.name x).1 same in
      let zs : List Feed = map (λ p. rest p.name) (left by_now ps) in
      ap (λ (qs : List Port). in_line_order (map (λ p. fed p.name) qs)) (left_new used p ps unused)
      ∙ ap₂ (λ (g : Feed) (gs : List Feed). in_line_order (g ∷ gs)) (fed_here p.name test) (others ps (subst (λ (w : Bytes). IsNewName w (port_names ps)) same new))
      ∙ put_first f (in_line_order zs) (all-lines (λ g. outer_of f < outer_of g) zs (greater ps h go))
      ∙ ap (λ (qs : List Port). f ∷ in_line_order (map (λ p. rest p.name) qs)) (sym (left_used by_now p ps (among_one p.name x used false true unused test)))

  goes_past : (p : Port) (ps : List Port) → bytes_eq p.name x ≡ false → IsUsed p → IsAfter → (b : Bool) → is_among p.name used ≡ b
      → in_line_order (map (λ p. fed p.name) (left used ps)) ≡ f ∷ in_line_order (map (λ p. rest p.name) (left by_now ps))
      → in_line_order (map (λ p. fed p.name) (left used (p ∷ ps))) ≡ f ∷ in_line_order (map (λ p. rest p.name) (left by_now (p ∷ ps)))
  goes_past p ps other h go true e later =
      ap (λ (qs : List Port). in_line_order (map (λ p. fed p.name) qs)) (left_used used p ps e) ∙ later
      ∙ ap (λ (qs : List Port). f ∷ in_line_order (map (λ p. rest p.name) qs)) (sym (left_used by_now p ps (among_one p.name x used true false e other)))
  goes_past p ps other h go false e later =
      let unused : is_among p.name by_now ≡ false = among_one p.name x used false false e other in
      ap (λ (qs : List Port). in_line_order (map (λ p. fed p.name) qs)) (left_new used p ps e)
      ∙ ap₂ (λ (g : Feed) (gs : List Feed). put_line g gs) (fed_later p.name other) later
      ∙ put_past f (rest p.name) (in_line_order (map (λ p. rest p.name) (left by_now ps))) (go p.name (used_after p.name h unused))
      ∙ ap (λ (qs : List Port). f ∷ in_line_order (map (λ p. rest p.name) qs)) (sym (left_new by_now p ps unused))

  -- the line of x stands before all that are left
  pub one_line : (ps : List Port) → AreDistinctNames (port_names ps) → has_port ps x ≡ true → is_among x used ≡ false → Each IsUsed ps → IsAfter
      → in_line_order (map (λ p. fed p.name) (left used ps)) ≡ f ∷ in_line_order (map (λ p. rest p.name) (left by_now ps))
  one_line [] distinct there fresh h go = cc
  one_line (p ∷ ps) distinct there fresh h go = by (bytes_eq x p.name) refl there (λ k. one_line ps distinct.1 k fresh h.1 go)
    where
      by : (b : Bool) → bytes_eq x p.name ≡ b → (b || has_port ps x) ≡ true
          → (has_port ps x ≡ true → in_line_order (map (λ p. fed p.name) (left used ps)) ≡ f ∷ in_line_order (map (λ p. rest p.name) (left by_now ps)))
          → in_line_order (map (λ p. fed p.name) (left used (p ∷ ps))) ≡ f ∷ in_line_order (map (λ p. rest p.name) (left by_now (p ∷ ps)))
      by true e k later = stands_first p ps (sym ((bytes_eq-Decides x p.name).0 e)) distinct.0 fresh h.1 go
      by false e k later = goes_past p ps (turned x p.name e) h.0 go (is_among p.name used) refl (later k)

none_left : (used : List Bytes) (ps : List Port) → Each (λ p. is_among p.name (used ++ []) ≡ true) ps → left used ps ≡ []
none_left used [] h = refl
none_left used (p ∷ ps) h = left_used used p ps (ap (is_among p.name) (sym (append-nil used)) ∙ h.0) ∙ none_left used ps h.1

all_left : (ps : List Port) → left [] ps ≡ ps
all_left [] = refl
all_left (p ∷ ps) = ap (λ (qs : List Port). p ∷ qs) (all_left ps)

module _ (copies : ℕ) (inner own : Ports) where
  abbrev fed_by : List FrontierLine → Bytes → Feed
  fed_by ls w = feed_of inner own ls w

  abbrev uses : List FrontierLine → List Bytes
  uses ls = uses_all copies inner ls

  -- what a line of these feeds has an outer input of at least n
  later : (ls : List FrontierLine) (n : ℕ) → NumbersLines own.ins n ls → (w : Bytes) → is_among w (uses ls) ≡ true → n ≤ outer_of (fed_by ls w)
  later [] n h w k = cc
  later (l ∷ ls) n h w k = by l.frontier h k (λ m i j. later ls m i w j)
    where
      one : (x : Bytes) (g : Feed) (b : Bool) → bytes_eq w x ≡ b → outer_of g ≡ n → (b || is_among w (uses ls)) ≡ true → (is_among w (uses ls) ≡ true → suc n ≤ outer_of (fed_by ls w))
          → n ≤ outer_of (first_feed inner own (if b then Some g else None) (fed_by ls w))
      one x g true e at j go = omega (arith, at)
      one x g false e at j go = let le = go j in omega (arith, le)

      by : (f : Frontier) → NumbersLine own.ins n f (NumbersLines own.ins (suc n) ls) (NumbersLines own.ins n ls) → is_among w (used_by f ++ uses ls) ≡ true
          → ((m : ℕ) → NumbersLines own.ins m ls → is_among w (uses ls) ≡ true → m ≤ outer_of (fed_by ls w))
          → n ≤ outer_of (first_feed inner own (feed_by inner own w f) (fed_by ls w))
      by (Fork p x) i j go = one x (feed.Fork p (number_of own.ins p) (len_of inner.ins x)) (bytes_eq w x) refl i.0 j (go (suc n) i.1)
      by (Diffuse p x) i j go = one x (feed.Diffuse (number_of own.ins p)) (bytes_eq w x) refl i.0 j (go (suc n) i.1)
      by (Iterate p x y q) i j go = one x (feed.Iterate (number_of own.ins p) (number_of inner.outs y)) (bytes_eq w x) refl i.0 j (go (suc n) i.1)
      by (Join y q) i j go = go n i j

  module _ (ps : List Port) (distinct : AreDistinctNames (port_names ps)) where
    abbrev AreThere : List FrontierLine → Type 0
    AreThere ls = Each (λ l. Each (λ x. has_port ps x ≡ true) (used_by l.frontier)) ls

    abbrev AllUsed : List Bytes → Type 0
    AllUsed ws = Each (λ p. is_among p.name ws ≡ true) ps

    abbrev IsSorted : List Bytes → List FrontierLine → Type 0
    IsSorted used ls = in_line_order (map (λ p. fed_by ls p.name) (left used ps)) ≡ text_feeds inner own ls

    sorted : (ls : List FrontierLine) (used : List Bytes) (n : ℕ) → AreThere ls → AreFresh copies inner used ls → NumbersLines own.ins n ls → AllUsed (used ++ uses ls) → IsSorted used ls
    sorted [] used n there fresh numbered all = ap (λ (qs : List Port). in_line_order (map (λ p. fed_by [] p.name) qs)) (none_left used ps all)
    sorted (l ∷ ls) used n there fresh numbered all = by l.frontier there.0 fresh.0 fresh.1 numbered all (λ v m i j k. sorted ls v m there.1 i j k)
      where
        one : (x : Bytes) (g : Feed) → outer_of g ≡ n → has_port ps x ≡ true → is_among x used ≡ false
            → AreFresh copies inner (used ++ x ∷ []) ls → NumbersLines own.ins (suc n) ls → AllUsed (used ++ x ∷ uses ls)
            → ((v : List Bytes) (m : ℕ) → AreFresh copies inner v ls → NumbersLines own.ins m ls → AllUsed (v ++ uses ls) → IsSorted v ls)
            → in_line_order (map (λ p. first_feed inner own (if bytes_eq p.name x then Some g else None) (fed_by ls p.name)) (left used ps)) ≡ g ∷ text_feeds inner own ls
        one x g at is new fresh_rest numbers used_all go =
            let now : AllUsed ((used ++ x ∷ []) ++ uses ls) = subst AllUsed (sym (append_assoc used (x ∷ []) (uses ls))) used_all in
            one_line inner own (fed_by ls) g x used (uses ls) ps distinct is new now (λ w k. let le = later ls (suc n) numbers w k in omega (arith, le, at))
            ∙ ap (λ (gs : List Feed). g ∷ gs) (go (used ++ x ∷ []) (suc n) fresh_rest numbers now)

        by : (f : Frontier) → Each (λ x. has_port ps x ≡ true) (used_by f) → IsFresh copies inner used f
            → AreFresh copies inner (used ++ used_by f) ls → NumbersLine own.ins n f (NumbersLines own.ins (suc n) ls) (NumbersLines own.ins n ls)
            → AllUsed (used ++ (used_by f ++ uses ls))
            → ((v : List Bytes) (m : ℕ) → AreFresh copies inner v ls → NumbersLines own.ins m ls → AllUsed (v ++ uses ls) → IsSorted v ls)
            → in_line_order (map (λ p. first_feed inner own (feed_by inner own p.name f) (fed_by ls p.name)) (left used ps)) ≡ feeds_by inner own f ++ text_feeds inner own ls
        by (Fork p x) is new i j k go = one x (feed.Fork p (number_of own.ins p) (len_of inner.ins x)) j.0 is.0 new.0 i j.1 k go
        by (Diffuse p x) is new i j k go = one x (feed.Diffuse (number_of own.ins p)) j.0 is.0 new.0 i j.1 k go
        by (Iterate p x y q) is new i j k go = one x (feed.Iterate (number_of own.ins p) (number_of inner.outs y)) j.0 is.0 new.0 i j.1 k go
        by (Join y q) is new i j k go = go used n (subst (λ (v : List Bytes). AreFresh copies inner v ls) (append-nil used) i) j k

  there_by : (f : Frontier) → LineFits copies inner f → Each (λ x. has_port inner.ins x ≡ true) (used_by f)
  there_by (Fork p x) h = (h.0, tt)
  there_by (Diffuse p x) h = (h.0, tt)
  there_by (Iterate p x y q) h = (h.0.0, tt)
  there_by (Join y q) h = tt

  all_there : (ls : List FrontierLine) → LinesFit copies inner ls → Each (λ l. Each (λ x. has_port inner.ins x ≡ true) (used_by l.frontier)) ls
  all_there [] h = tt
  all_there (l ∷ ls) h = (there_by l.frontier h.0, all_there ls h.1)

  -- The lines by ascending outer input are those of the text.
  pub lines_sorted : (ls : List FrontierLine) → RepeatFits copies inner ls → AreDistinctNames (port_names inner.ins) → NumbersLines own.ins 0 ls
      → in_line_order (map (λ p. feed_of inner own ls p.name) inner.ins) ≡ text_feeds inner own ls
  lines_sorted ls fits distinct numbered =
      ap (λ (qs : List Port). in_line_order (map (λ p. fed_by ls p.name) qs)) (sym (all_left inner.ins))
      ∙ sorted inner.ins distinct ls [] 0 (all_there ls fits.lines) fits.fresh numbered fits.fed
