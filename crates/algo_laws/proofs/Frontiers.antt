-- The lines of a repetition whose checks have no fault: what they use is there, and the lengths fit.
use Rattle.std.proofs.Common.{
  ◌≡◌,
  ℕ,
  zero,
  ◌*◌,
  ◌<◌,
  ◌≤◌,
  Bool,
  true,
  false,
  not,
  ◌&&◌,
  ◌||◌,
  List,
  [],
  ◌∷◌,
  ◌++◌,
  map,
  get_or,
  Option,
  Some,
  None,
  refl,
  ap,
  ap₂,
  sym,
  ◌∙◌,
  arith,
  if◌then◌else◌,
  nat_lt,
}
use Rattle.std.specs.Prelude.{◌==◌}
use Rattle.std.specs.Str.{bytes_eq}
use Rattle.std.specs.List.{list_all, flat_map}
use Rattle.std.proofs.Math.Nat.{mul-pos}
use Rattle.std.proofs.lemmas.Bool.{ltb-false, eqb-true}
use Rattle.std.proofs.lemmas.Slice.Eq.{bytes_eq-Decides}
use Rattle.syn_base.specs.declared.limits.LimitKind.TheVariants.{PortLength}
use Rattle.syn_base.specs.Limits.{bound_of}
use Rattle.level_meaning.specs.declared.frontier.Feed.{Feed}
use Rattle.level_meaning.specs.declared.frontier.Feed.TheVariants as feed
use Rattle.syn_base.specs.Bytes.{Bytes}
use Rattle.text_lines.specs.Refusals.{Limit}
use Rattle.algo_rules.specs.Refusals.{AlgoRefusal}
use Rattle.algo_rules.specs.declared.Port.{Port}
use Rattle.algo_rules.specs.Typed.{AreLengths, IsFed, AllFed, fed_length, given_length}
use Rattle.algo_rules.specs.Well.{IsNewName, AreDistinctNames}
use Rattle.algo_rules.specs.declared.Frontier.{Frontier}
use Rattle.algo_rules.specs.declared.Frontier.TheVariants.{Fork, Diffuse, Iterate, Join}
use Rattle.algo_rules.specs.declared.FrontierLine.{FrontierLine}
use Rattle.algo_rules.specs.declared.AlgoCause.TheVariants.{BadRepeat}
use Rattle.algo_rules.specs.Among.{is_among}
use Rattle.algo_rules.specs.Outer.{outer_names, all_outer}
use Rattle.algo_rules.specs.Links.{fault, first_of}
use Rattle.algo_rules.specs.Ports.{has_port, len_of, number_of, lens_of, outer_ins, outer_outs, outer_ports}
use Rattle.algo_rules.specs.Frontiers.{too_long, used_by, is_open, frontier_fault, frontier_faults, unfed, repeat_fault}
use Rattle.algo_rules.specs.Resolved.{feed_by, first_feed, feed_of, give_by}
use Rattle.algo_rules.specs.WellRead.{port_names}
use Rattle.algo_rules.specs.declared.ports.Ports.{Ports}
use Rattle.algo_laws.proofs.Firsts.{Each, none_both, none_append, each_flat}
use Rattle.algo_laws.proofs.Standing.{both, negated}
use Rattle.algo_laws.proofs.Lengths.{len_at, len_is, IsFound, all_found, len_sized}

small : (n : ℕ) → too_long n ≡ None → n ≤ 64
small n h = by (nat_lt 64 n) refl h
  where
    by : (b : Bool) → nat_lt 64 n ≡ b → (if◌then◌else◌ {A = Option AlgoRefusal} b (Some (Limit (record { which = PortLength; count = n; bound = bound_of PortLength }))) None) ≡ None → n ≤ 64
    by true e k = cc
    by false e k = ltb-false 64 n e

-- a test that must hold before a check
asked : (b : Bool) (n : ℕ) (o : Option AlgoRefusal) → (if b then o else fault n BadRepeat) ≡ None → (b ≡ true) × (o ≡ None)
asked true n o h = (refl, h)
asked false n o h = cc

module _ (copies : ℕ) (inner : Ports) where
  -- the inner ports of a line are there, and its outer ports are short
  abbrev pub LineFits : Frontier → Type 0
  LineFits (Fork p x) = (has_port inner.ins x ≡ true) × (copies * len_of inner.ins x ≤ 64)
  LineFits (Diffuse p x) = (has_port inner.ins x ≡ true) × (len_of inner.ins x ≤ 64)
  LineFits (Iterate p x y q) = ((has_port inner.ins x ≡ true) × (has_port inner.outs y ≡ true)) × ((len_of inner.ins x ≡ len_of inner.outs y) × (len_of inner.ins x ≤ 64))
  LineFits (Join y q) = (has_port inner.outs y ≡ true) × (copies * len_of inner.outs y ≤ 64)

  -- no line before uses what this one uses
  abbrev pub IsFresh : List Bytes → Frontier → Type 0
  IsFresh used f = Each (λ x. is_among x used ≡ false) (used_by f)

  line_fits : (used : List Bytes) (n : ℕ) (f : Frontier) → frontier_fault copies inner used n f ≡ None → LineFits f × IsFresh used f
  line_fits used n (Fork p x) h =
      let a = asked (is_open copies inner used x) n (too_long (copies * len_of inner.ins x)) h in
      let b = both (has_port inner.ins x) (not (is_among x used)) a.0 in
      ((b.0, small (copies * len_of inner.ins x) a.1), (negated (is_among x used) b.1, tt))
  line_fits used n (Diffuse p x) h =
      let a = asked (is_open copies inner used x) n (too_long (len_of inner.ins x)) h in
      let b = both (has_port inner.ins x) (not (is_among x used)) a.0 in
      ((b.0, small (len_of inner.ins x) a.1), (negated (is_among x used) b.1, tt))
  line_fits used n (Iterate p x y q) h =
      let a = asked (is_open copies inner used x && (has_port inner.outs y && (len_of inner.ins x == len_of inner.outs y))) n (too_long (len_of inner.ins x)) h in
      let b = both (is_open copies inner used x) (has_port inner.outs y && (len_of inner.ins x == len_of inner.outs y)) a.0 in
      let c = both (has_port inner.ins x) (not (is_among x used)) b.0 in
      let d = both (has_port inner.outs y) (len_of inner.ins x == len_of inner.outs y) b.1 in
      (((c.0, d.0), (eqb-true (len_of inner.ins x) (len_of inner.outs y) d.1, small (len_of inner.ins x) a.1)), (negated (is_among x used) c.1, tt))
  line_fits used n (Join y q) h =
      let a = asked (has_port inner.outs y) n (too_long (copies * len_of inner.outs y)) h in
      ((a.0, small (copies * len_of inner.outs y) a.1), tt)

  abbrev pub LinesFit : List FrontierLine → Type 0
  LinesFit ls = Each (λ l. LineFits l.frontier) ls

  abbrev pub AreFresh : List Bytes → List FrontierLine → Type 0
  AreFresh used [] = Unit {0}
  AreFresh used (l ∷ ls) = IsFresh used l.frontier × AreFresh (used ++ used_by l.frontier) ls

  lines_fit : (used : List Bytes) (ls : List FrontierLine) → first_of (frontier_faults copies inner used ls) ≡ None → LinesFit ls × AreFresh used ls
  lines_fit used [] h = (tt, tt)
  lines_fit used (l ∷ ls) h =
      let two = none_both (frontier_fault copies inner used l.line l.frontier) (frontier_faults copies inner (used ++ used_by l.frontier) ls) h in
      let here = line_fits used l.line l.frontier two.0 in
      let rest = lines_fit (used ++ used_by l.frontier) ls two.1 in
      ((here.0, rest.0), (here.1, rest.1))

  abbrev pub uses_all : List FrontierLine → List Bytes
  uses_all ls = flat_map (λ l. used_by l.frontier) ls

  unfed_by : (b : Bool) (n : ℕ) → (if b then None else fault n BadRepeat) ≡ None → b ≡ true
  unfed_by true n h = refl
  unfed_by false n h = cc

  all_pass : (p : Port → Bool) (xs : List Port) → list_all p xs ≡ true → Each (λ x. p x ≡ true) xs
  all_pass p [] h = tt
  all_pass p (x ∷ xs) h = let two = both (p x) (list_all p xs) h in (two.0, all_pass p xs two.1)

  pub record RepeatFits (ls : List FrontierLine) : Type 0 where
    pub lines : LinesFit ls
    pub fresh : AreFresh [] ls
    pub fed : Each (λ p. is_among p.name (uses_all ls) ≡ true) inner.ins

  pub repeat_fits : (line : ℕ) (ls : List FrontierLine) → repeat_fault copies inner line ls ≡ None → RepeatFits ls
  repeat_fits line ls h =
      let two = none_append (frontier_faults copies inner [] ls) (unfed copies inner line ls ∷ []) h in
      let fit = lines_fit [] ls two.0 in
      let none = none_both (unfed copies inner line ls) [] two.1 in
      record { lines = fit.0; fresh = fit.1; fed = all_pass (λ p. is_among p.name (uses_all ls)) inner.ins (unfed_by (list_all (λ p. is_among p.name (uses_all ls)) inner.ins) line none.0) }

  -- the lengths of the outer ports
  times : (n : ℕ) → 1 ≤ copies → 1 ≤ n → 1 ≤ copies * n
  times n h k = let p : zero < copies * n = mul-pos (omega arith) (omega arith) in omega arith

  pub ins_sized : 1 ≤ copies → AreLengths (lens_of inner.ins) → (ls : List FrontierLine) → LinesFit ls → AreLengths (lens_of (flat_map (λ l. outer_ins copies inner l.frontier) ls))
  ins_sized some h [] fit = tt
  ins_sized some h (l ∷ ls) fit = by l.frontier fit.0 (ins_sized some h ls fit.1)
    where
      by : (f : Frontier) → LineFits f → AreLengths (lens_of (flat_map (λ l. outer_ins copies inner l.frontier) ls))
          → AreLengths (lens_of (outer_ins copies inner f ++ flat_map (λ l. outer_ins copies inner l.frontier) ls))
      by (Fork p x) k rest = ((times (len_of inner.ins x) some (len_sized inner.ins x h k.0).0, k.1), rest)
      by (Diffuse p x) k rest = (len_sized inner.ins x h k.0, rest)
      by (Iterate p x y q) k rest = (len_sized inner.ins x h k.0.0, rest)
      by (Join y q) k rest = rest

  pub outs_sized : 1 ≤ copies → AreLengths (lens_of inner.outs) → (ls : List FrontierLine) → LinesFit ls → AreLengths (lens_of (flat_map (λ l. outer_outs copies inner l.frontier) ls))
  outs_sized some h [] fit = tt
  outs_sized some h (l ∷ ls) fit = by l.frontier fit.0 (outs_sized some h ls fit.1)
    where
      by : (f : Frontier) → LineFits f → AreLengths (lens_of (flat_map (λ l. outer_outs copies inner l.frontier) ls))
          → AreLengths (lens_of (outer_outs copies inner f ++ flat_map (λ l. outer_outs copies inner l.frontier) ls))
      by (Fork p x) k rest = rest
      by (Diffuse p x) k rest = rest
      by (Iterate p x y q) k rest = (len_sized inner.outs y h k.0.1, rest)
      by (Join y q) k rest = ((times (len_of inner.outs y) some (len_sized inner.outs y h k.0).0, k.1), rest)

  -- the names of the outer inputs
  ins_new : (v : Bytes) (ls : List FrontierLine) → IsNewName v (all_outer ls) → IsNewName v (port_names (flat_map (λ l. outer_ins copies inner l.frontier) ls))
  ins_new v [] h = tt
  ins_new v (l ∷ ls) h = by l.frontier h (λ k. ins_new v ls k)
    where
      by : (f : Frontier) → IsNewName v (outer_names f ++ all_outer ls) → (IsNewName v (all_outer ls) → IsNewName v (port_names (flat_map (λ l. outer_ins copies inner l.frontier) ls)))
          → IsNewName v (port_names (outer_ins copies inner f ++ flat_map (λ l. outer_ins copies inner l.frontier) ls))
      by (Fork p x) k rest = (k.0, rest k.1)
      by (Diffuse p x) k rest = (k.0, rest k.1)
      by (Iterate p x y q) k rest = (k.0, rest k.1.1)
      by (Join y q) k rest = rest k.1

  pub ins_distinct : (ls : List FrontierLine) → AreDistinctNames (all_outer ls) → AreDistinctNames (port_names (flat_map (λ l. outer_ins copies inner l.frontier) ls))
  ins_distinct [] h = tt
  ins_distinct (l ∷ ls) h = by l.frontier h (λ k. ins_distinct ls k)
    where
      by : (f : Frontier) → AreDistinctNames (outer_names f ++ all_outer ls) → (AreDistinctNames (all_outer ls) → AreDistinctNames (port_names (flat_map (λ l. outer_ins copies inner l.frontier) ls)))
          → AreDistinctNames (port_names (outer_ins copies inner f ++ flat_map (λ l. outer_ins copies inner l.frontier) ls))
      by (Fork p x) k rest = (ins_new p ls k.0, rest k.1)
      by (Diffuse p x) k rest = (ins_new p ls k.0, rest k.1)
      by (Iterate p x y q) k rest = (ins_new p ls k.0.1, rest k.1.1)
      by (Join y q) k rest = rest k.1

  -- what the outputs of the body give
  pub given : (own : Ports) (ls : List FrontierLine) → lens_of (flat_map (λ l. outer_outs copies inner l.frontier) ls)
      ≡ map (given_length copies (lens_of inner.outs)) (flat_map (λ l. give_by inner own l.frontier) ls)
  given own [] = refl
  given own (l ∷ ls) = by l.frontier (given own ls)
    where
      by : (f : Frontier) → lens_of (flat_map (λ l. outer_outs copies inner l.frontier) ls) ≡ map (given_length copies (lens_of inner.outs)) (flat_map (λ l. give_by inner own l.frontier) ls)
          → lens_of (outer_outs copies inner f ++ flat_map (λ l. outer_outs copies inner l.frontier) ls)
          ≡ map (given_length copies (lens_of inner.outs)) (give_by inner own f ++ flat_map (λ l. give_by inner own l.frontier) ls)
      by (Fork p x) rest = rest
      by (Diffuse p x) rest = rest
      by (Iterate p x y q) rest = ap₂ (λ (n : ℕ) (ns : List ℕ). n ∷ ns) (sym (len_at inner.outs y)) rest
      by (Join y q) rest = ap₂ (λ (n : ℕ) (ns : List ℕ). copies * n ∷ ns) (sym (len_at inner.outs y)) rest

  -- how an inner input is fed
  module _ (own : Ports) where
    abbrev pub FeedFits : Bytes → Feed → Type 0
    FeedFits w f = IsFed copies (lens_of own.ins) (lens_of inner.outs) f × (fed_length (lens_of own.ins) f ≡ len_of inner.ins w)

    abbrev LinesFound : List FrontierLine → Type 0
    LinesFound ls = Each (λ l. Each (IsFound own.ins) (outer_ins copies inner l.frontier)) ls

    outer_len : (p : Bytes) (n : ℕ) → IsFound own.ins (record { name = p; len = n }) → get_or (lens_of own.ins) (number_of own.ins p) 0 ≡ n
    outer_len p n h = len_at own.ins p ∙ len_is own.ins p n h

    fed_by : (w x : Bytes) (b : Bool) (f g : Feed) (rest : Bool) → bytes_eq w x ≡ b → (b || rest) ≡ true → (w ≡ x → FeedFits w f)
        → (rest ≡ true → FeedFits w g) → FeedFits w (first_feed inner inner (if b then Some f else None) g)
    fed_by w x true f g rest e k here later = here ((bytes_eq-Decides w x).0 e)
    fed_by w x false f g rest e k here later = later k

    pub feed_fits : (w : Bytes) (ls : List FrontierLine) → LinesFit ls → LinesFound ls → is_among w (uses_all ls) ≡ true → FeedFits w (feed_of inner own ls w)
    feed_fits w [] fit found k = cc
    feed_fits w (l ∷ ls) fit found k = by l.frontier fit.0 found.0 k (λ j. feed_fits w ls fit.1 found.1 j)
      where
        by : (f : Frontier) → LineFits f → Each (IsFound own.ins) (outer_ins copies inner f) → is_among w (used_by f ++ uses_all ls) ≡ true
            → (is_among w (uses_all ls) ≡ true → FeedFits w (feed_of inner own ls w))
            → FeedFits w (first_feed inner own (feed_by inner own w f) (feed_of inner own ls w))
        by (Fork p x) fits there j later =
            fed_by w x (bytes_eq w x) (feed.Fork p (number_of own.ins p) (len_of inner.ins x)) (feed_of inner own ls w) (is_among w (uses_all ls)) refl j
            (λ e. (outer_len p (copies * len_of inner.ins x) there.0, ap (len_of inner.ins) (sym e))) later
        by (Diffuse p x) fits there j later =
            fed_by w x (bytes_eq w x) (feed.Diffuse (number_of own.ins p)) (feed_of inner own ls w) (is_among w (uses_all ls)) refl j
            (λ e. (tt, outer_len p (len_of inner.ins x) there.0 ∙ ap (len_of inner.ins) (sym e))) later
        by (Iterate p x y q) fits there j later =
            fed_by w x (bytes_eq w x) (feed.Iterate (number_of own.ins p) (number_of inner.outs y)) (feed_of inner own ls w) (is_among w (uses_all ls)) refl j
            (λ e. (outer_len p (len_of inner.ins x) there.0 ∙ fits.1.0 ∙ sym (len_at inner.outs y), outer_len p (len_of inner.ins x) there.0 ∙ ap (len_of inner.ins) (sym e))) later
        by (Join y q) fits there j later = later j

    -- all inner inputs
    feeds_fit : (ls : List FrontierLine) → LinesFit ls → LinesFound ls → (ps : List Port) → Each (λ p. is_among p.name (uses_all ls) ≡ true) ps
        → AllFed copies (lens_of own.ins) (lens_of inner.outs) (map (λ p. feed_of inner own ls p.name) ps)
    feeds_fit ls fit found [] h = tt
    feeds_fit ls fit found (p ∷ ps) h = ((feed_fits p.name ls fit found h.0).0, feeds_fit ls fit found ps h.1)

    fed_lengths : (ls : List FrontierLine) → LinesFit ls → LinesFound ls → (ps : List Port) → Each (λ p. is_among p.name (uses_all ls) ≡ true) ps → Each (IsFound inner.ins) ps
        → map (fed_length (lens_of own.ins)) (map (λ p. feed_of inner own ls p.name) ps) ≡ lens_of ps
    fed_lengths ls fit found [] h k = refl
    fed_lengths ls fit found (p ∷ ps) h k =
        ap₂ (λ (n : ℕ) (ns : List ℕ). n ∷ ns) ((feed_fits p.name ls fit found h.0).1 ∙ len_is inner.ins p.name p.len k.0) (fed_lengths ls fit found ps h.1 k.1)

  lines_found : (ls : List FrontierLine) → AreDistinctNames (all_outer ls) → LinesFound (outer_ports copies inner ls) ls
  lines_found ls h =
      each_flat (IsFound (outer_ports copies inner ls).ins) (λ l. outer_ins copies inner l.frontier) ls (all_found (outer_ports copies inner ls).ins (ins_distinct ls h))

  pub all_fed : (ls : List FrontierLine) → RepeatFits ls → AreDistinctNames (all_outer ls)
      → AllFed copies (lens_of (outer_ports copies inner ls).ins) (lens_of inner.outs) (map (λ p. feed_of inner (outer_ports copies inner ls) ls p.name) inner.ins)
  all_fed ls fits h = feeds_fit (outer_ports copies inner ls) ls fits.lines (lines_found ls h) inner.ins fits.fed

  pub all_fed_lengths : (ls : List FrontierLine) → RepeatFits ls → AreDistinctNames (all_outer ls) → AreDistinctNames (port_names inner.ins)
      → map (fed_length (lens_of (outer_ports copies inner ls).ins)) (map (λ p. feed_of inner (outer_ports copies inner ls) ls p.name) inner.ins) ≡ lens_of inner.ins
  all_fed_lengths ls fits h k = fed_lengths (outer_ports copies inner ls) ls fits.lines (lines_found ls h) inner.ins fits.fed (all_found inner.ins k)
