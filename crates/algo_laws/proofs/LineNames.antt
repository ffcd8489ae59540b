-- The names of a repetition's fork lines and join lines are distinct.
use Rattle.std.proofs.Common.{◌≡◌, ℕ, Bool, true, false, List, [], ◌∷◌, ◌++◌, map, Some, None, refl, sym, ◌∙◌, if◌then◌else◌}
use Rattle.std.specs.Str.{bytes_eq}
use Rattle.std.specs.List.{flat_map}
use Rattle.std.proofs.lemmas.Slice.Eq.{bytes_eq-Decides}
use Rattle.level_meaning.specs.declared.frontier.Feed.{Feed}
use Rattle.level_meaning.specs.declared.frontier.Feed.TheVariants as feed
use Rattle.level_meaning.specs.declared.frontier.Give.{Give}
use Rattle.syn_base.specs.Bytes.{Bytes}
use Rattle.algo_rules.specs.declared.Port.{Port}
use Rattle.algo_rules.specs.Well.{IsNewName, AreDistinctNames, fork_names, join_names}
use Rattle.algo_rules.specs.declared.Frontier.{Frontier}
use Rattle.algo_rules.specs.declared.Frontier.TheVariants.{Fork, Diffuse, Iterate, Join}
use Rattle.algo_rules.specs.declared.FrontierLine.{FrontierLine}
use Rattle.algo_rules.specs.Outer.{outer_names, all_outer}
use Rattle.algo_rules.specs.Ports.{len_of, number_of}
use Rattle.algo_rules.specs.Resolved.{feed_by, first_feed, feed_of, give_by}
use Rattle.algo_rules.specs.WellRead.{port_names}
use Rattle.algo_rules.specs.declared.ports.Ports.{Ports}
use Rattle.algo_laws.proofs.Firsts.{Each}
use Rattle.algo_laws.proofs.Lengths.{turned, join_new}

-- a fork line of another name, if it is a fork line
abbrev NotFork : Bytes → Feed → Type 0
NotFork v (feed.Fork name k len) = bytes_eq v name ≡ false
NotFork v (feed.Diffuse k) = Unit {0}
NotFork v (feed.Iterate k y) = Unit {0}

abbrev Apart : Feed → Feed → Type 0
Apart (feed.Fork name k len) g = NotFork name g
Apart (feed.Diffuse k) g = Unit {0}
Apart (feed.Iterate k y) g = Unit {0}

-- its name is none of these
abbrev IsNewFork : Feed → List Bytes → Type 0
IsNewFork (feed.Fork name k len) xs = IsNewName name xs
IsNewFork (feed.Diffuse k) xs = Unit {0}
IsNewFork (feed.Iterate k y) xs = Unit {0}

flip : (f : Feed) (p : Bytes) (k len : ℕ) → NotFork p f → Apart f (feed.Fork p k len)
flip (feed.Fork name j n) p k len h = turned p name h
flip (feed.Diffuse j) p k len h = tt
flip (feed.Iterate j y) p k len h = tt

unlike_diffuse : (f : Feed) (k : ℕ) → Apart f (feed.Diffuse k)
unlike_diffuse (feed.Fork name j n) k = tt
unlike_diffuse (feed.Diffuse j) k = tt
unlike_diffuse (feed.Iterate j y) k = tt

unlike_iterate : (f : Feed) (k y : ℕ) → Apart f (feed.Iterate k y)
unlike_iterate (feed.Fork name j n) k y = tt
unlike_iterate (feed.Diffuse j) k y = tt
unlike_iterate (feed.Iterate j z) k y = tt

one_new : (f : Feed) (q : Bytes) (xs : List Bytes) → NotFork q f → IsNewFork f xs → IsNewFork f (q ∷ xs)
one_new (feed.Fork name j n) q xs h k = (turned q name h, k)
one_new (feed.Diffuse j) q xs h k = tt
one_new (feed.Iterate j y) q xs h k = tt

both_new : (f : Feed) (xs ys : List Bytes) → IsNewFork f xs → IsNewFork f ys → IsNewFork f (xs ++ ys)
both_new (feed.Fork name j n) xs ys h k = join_new name xs ys h k
both_new (feed.Diffuse j) xs ys h k = tt
both_new (feed.Iterate j y) xs ys h k = tt

put_front : (f : Feed) (fs : List Feed) (js : List Bytes) → IsNewFork f (fork_names fs ++ js) → AreDistinctNames (fork_names fs ++ js) → AreDistinctNames (fork_names (f ∷ fs) ++ js)
put_front (feed.Fork name j n) fs js h k = (h, k)
put_front (feed.Diffuse j) fs js h k = k
put_front (feed.Iterate j y) fs js h k = k

module _ (inner own : Ports) where
  abbrev fed : List FrontierLine → Bytes → Feed
  fed ls w = feed_of inner own ls w

  abbrev gives : List FrontierLine → List Give
  gives ls = flat_map (λ l. give_by inner own l.frontier) ls

  new_fork : (v w : Bytes) (ls : List FrontierLine) → IsNewName v (all_outer ls) → NotFork v (fed ls w)
  new_fork v w [] h = tt
  new_fork v w (l ∷ ls) h = by l.frontier h (λ k. new_fork v w ls k)
    where
      one : (b : Bool) (f : Feed) → NotFork v f → NotFork v (fed ls w) → NotFork v (first_feed inner own (if b then Some f else None) (fed ls w))
      one true f k rest = k
      one false f k rest = rest

      by : (f : Frontier) → IsNewName v (outer_names f ++ all_outer ls) → (IsNewName v (all_outer ls) → NotFork v (fed ls w)) → NotFork v (first_feed inner own (feed_by inner own w f) (fed ls w))
      by (Fork p x) k rest = one (bytes_eq w x) (feed.Fork p (number_of own.ins p) (len_of inner.ins x)) k.0 (rest k.1)
      by (Diffuse p x) k rest = one (bytes_eq w x) (feed.Diffuse (number_of own.ins p)) tt (rest k.1)
      by (Iterate p x y q) k rest = one (bytes_eq w x) (feed.Iterate (number_of own.ins p) (number_of inner.outs y)) tt (rest k.1.1)
      by (Join y q) k rest = rest k.1

  forks_apart : (v w : Bytes) → bytes_eq v w ≡ false → (ls : List FrontierLine) → AreDistinctNames (all_outer ls) → Apart (fed ls v) (fed ls w)
  forks_apart v w other [] h = tt
  forks_apart v w other (l ∷ ls) h = by l.frontier h (λ k. forks_apart v w other ls k)
    where
      fork : (b c : Bool) (p x : Bytes) (k len : ℕ) → bytes_eq v x ≡ b → bytes_eq w x ≡ c → IsNewName p (all_outer ls) → Apart (fed ls v) (fed ls w)
          → Apart (first_feed inner own (if b then Some (feed.Fork p k len) else None) (fed ls v)) (first_feed inner own (if c then Some (feed.Fork p k len) else None) (fed ls w))
      fork true true p x k len e f new rest =
          let same : v ≡ w = (bytes_eq-Decides v x).0 e ∙ sym ((bytes_eq-Decides w x).0 f) in
          let test : bytes_eq v w ≡ true = (bytes_eq-Decides v w).1 same in cc
      fork true false p x k len e f new rest = new_fork p w ls new
      fork false true p x k len e f new rest = flip (fed ls v) p k len (new_fork p v ls new)
      fork false false p x k len e f new rest = rest

      diffuse : (b c : Bool) (k : ℕ) → Apart (fed ls v) (fed ls w)
          → Apart (first_feed inner own (if b then Some (feed.Diffuse k) else None) (fed ls v))
          (first_feed inner own (if c then Some (feed.Diffuse k) else None) (fed ls w))
      diffuse true c k rest = tt
      diffuse false true k rest = unlike_diffuse (fed ls v) k
      diffuse false false k rest = rest

      iterate : (b c : Bool) (k y : ℕ) → Apart (fed ls v) (fed ls w)
          → Apart (first_feed inner own (if b then Some (feed.Iterate k y) else None) (fed ls v))
          (first_feed inner own (if c then Some (feed.Iterate k y) else None) (fed ls w))
      iterate true c k y rest = tt
      iterate false true k y rest = unlike_iterate (fed ls v) k y
      iterate false false k y rest = rest

      by : (f : Frontier) → AreDistinctNames (outer_names f ++ all_outer ls) → (AreDistinctNames (all_outer ls) → Apart (fed ls v) (fed ls w))
          → Apart (first_feed inner own (feed_by inner own v f) (fed ls v)) (first_feed inner own (feed_by inner own w f) (fed ls w))
      by (Fork p x) k rest = fork (bytes_eq v x) (bytes_eq w x) p x (number_of own.ins p) (len_of inner.ins x) refl refl k.0 (rest k.1)
      by (Diffuse p x) k rest = diffuse (bytes_eq v x) (bytes_eq w x) (number_of own.ins p) (rest k.1)
      by (Iterate p x y q) k rest = iterate (bytes_eq v x) (bytes_eq w x) (number_of own.ins p) (number_of inner.outs y) (rest k.1.1)
      by (Join y q) k rest = rest k.1

  joins_new : (v : Bytes) (ls : List FrontierLine) → IsNewName v (all_outer ls) → IsNewName v (join_names (gives ls))
  joins_new v [] h = tt
  joins_new v (l ∷ ls) h = by l.frontier h (λ k. joins_new v ls k)
    where
      by : (f : Frontier) → IsNewName v (outer_names f ++ all_outer ls)
          → (IsNewName v (all_outer ls) → IsNewName v (join_names (gives ls))) → IsNewName v (join_names (give_by inner own f ++ gives ls))
      by (Fork p x) k rest = rest k.1
      by (Diffuse p x) k rest = rest k.1
      by (Iterate p x y q) k rest = rest k.1.1
      by (Join y q) k rest = (k.0, rest k.1)

  joins_distinct : (ls : List FrontierLine) → AreDistinctNames (all_outer ls) → AreDistinctNames (join_names (gives ls))
  joins_distinct [] h = tt
  joins_distinct (l ∷ ls) h = by l.frontier h (λ k. joins_distinct ls k)
    where
      by : (f : Frontier) → AreDistinctNames (outer_names f ++ all_outer ls)
          → (AreDistinctNames (all_outer ls) → AreDistinctNames (join_names (gives ls))) → AreDistinctNames (join_names (give_by inner own f ++ gives ls))
      by (Fork p x) k rest = rest k.1
      by (Diffuse p x) k rest = rest k.1
      by (Iterate p x y q) k rest = rest k.1.1
      by (Join y q) k rest = (joins_new q ls k.0, rest k.1)

  fork_among_joins : (w : Bytes) (ls : List FrontierLine) → AreDistinctNames (all_outer ls) → IsNewFork (fed ls w) (join_names (gives ls))
  fork_among_joins w [] h = tt
  fork_among_joins w (l ∷ ls) h = by l.frontier h (λ k. fork_among_joins w ls k)
    where
      one : (b : Bool) (f : Feed) (xs : List Bytes) → IsNewFork f xs → IsNewFork (fed ls w) xs → IsNewFork (first_feed inner own (if b then Some f else None) (fed ls w)) xs
      one true f xs k rest = k
      one false f xs k rest = rest

      by : (f : Frontier) → AreDistinctNames (outer_names f ++ all_outer ls) → (AreDistinctNames (all_outer ls) → IsNewFork (fed ls w) (join_names (gives ls)))
          → IsNewFork (first_feed inner own (feed_by inner own w f) (fed ls w)) (join_names (give_by inner own f ++ gives ls))
      by (Fork p x) k rest = one (bytes_eq w x) (feed.Fork p (number_of own.ins p) (len_of inner.ins x)) (join_names (gives ls)) (joins_new p ls k.0) (rest k.1)
      by (Diffuse p x) k rest = one (bytes_eq w x) (feed.Diffuse (number_of own.ins p)) (join_names (gives ls)) tt (rest k.1)
      by (Iterate p x y q) k rest = one (bytes_eq w x) (feed.Iterate (number_of own.ins p) (number_of inner.outs y)) (join_names (gives ls)) tt (rest k.1.1)
      by (Join y q) k rest = one_new (fed ls w) q (join_names (gives ls)) (new_fork q w ls k.0) (rest k.1)

  abbrev feeds : List FrontierLine → List Port → List Feed
  feeds ls ps = map (λ p. fed ls p.name) ps

  among_forks : (f : Feed) (ls : List FrontierLine) (ps : List Port) → Each (λ p. Apart f (fed ls p.name)) ps → IsNewFork f (fork_names (feeds ls ps))
  among_forks (feed.Fork name k len) ls [] h = tt
  among_forks (feed.Fork name k len) ls (p ∷ ps) h = by (fed ls p.name) h.0 (among_forks (feed.Fork name k len) ls ps h.1)
    where
      by : (g : Feed) → NotFork name g → IsNewName name (fork_names (feeds ls ps)) → IsNewName name (fork_names (g ∷ feeds ls ps))
      by (feed.Fork other i m) e rest = (e, rest)
      by (feed.Diffuse i) e rest = rest
      by (feed.Iterate i y) e rest = rest
  among_forks (feed.Diffuse k) ls ps h = tt
  among_forks (feed.Iterate k y) ls ps h = tt

  all_apart : (w : Bytes) (ls : List FrontierLine) → AreDistinctNames (all_outer ls) → (ps : List Port) → IsNewName w (port_names ps) → Each (λ p. Apart (fed ls w) (fed ls p.name)) ps
  all_apart w ls h [] new = tt
  all_apart w ls h (p ∷ ps) new = (forks_apart w p.name new.0 ls h, all_apart w ls h ps new.1)

  pub names_distinct : (ls : List FrontierLine) → AreDistinctNames (all_outer ls) → (ps : List Port) → AreDistinctNames (port_names ps)
      → AreDistinctNames (fork_names (feeds ls ps) ++ join_names (gives ls))
  names_distinct ls h [] k = joins_distinct ls h
  names_distinct ls h (p ∷ ps) k =
      put_front (fed ls p.name) (feeds ls ps) (join_names (gives ls))
      (both_new (fed ls p.name) (fork_names (feeds ls ps)) (join_names (gives ls)) (among_forks (fed ls p.name) ls ps (all_apart p.name ls h ps k.0)) (fork_among_joins p.name ls h))
      (names_distinct ls h ps k.1)
