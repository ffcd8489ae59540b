-- What a connection keeps.
use Rattle.std.proofs.Common.{◌≡◌, ℕ, zero, suc, ◌+◌, ◌<◌, ◌≤◌, Bool, not, true, false, ◌==◌, List, [], ◌∷◌, ◌++◌, length, map, Some, position, nat_le, nat_lt, refl, sym, ap, subst, ◌∙◌, arith}
use Rattle.std.specs.Prelude.{slice_index_or, slice_set}
use Rattle.std.specs.List.{list_any, list_all, position_or_len}
use Rattle.std.proofs.lemmas.Bool.{and_parts, and_from, or_parts, ltb-true, ltb-false, le-leb, lt-ltb, eqb-false}
use Rattle.std.proofs.lemmas.List.{length-set, length-map}
use Rattle.std.proofs.lemmas.List.Sums.{sum_by-set, AllPass-from_list_all}
use Rattle.syn_base.specs.Limits.{bound_of}
use Rattle.syn_base.specs.declared.limits.LimitKind.TheVariants.{Connections}
use Rattle.syn_base.specs.Bytes.{Bytes}
use Rattle.archi_defs.specs.declared.Medium.{Medium}
use Rattle.archi_defs.specs.Archi.{ascends_from, are_distinct, connections_in}
use Rattle.archi_defs.specs.Text.{Reading, place_of, medium_names, connect_line, connected, with_stand, no_medium}
use Rattle.text_lines.specs.Refusals.{is_above}
use Rattle.archi_reader.specs.Views.{IsSound, is_begun}
use Rattle.archi_reader.proofs.Sound.{Keeps, keeps_if, keeps_names, keeps_some, when_some}
use Rattle.text_lines.specs.Text.{word}

with_one_more : (o : ℕ) (ps : List ℕ) → length (with_stand o ps) ≡ length ps + 1
with_one_more o [] = refl
with_one_more o (p ∷ ps) = by (nat_lt o p) refl (with_one_more o ps)
  where
    by : (b : Bool) → nat_lt o p ≡ b → length (with_stand o ps) ≡ length ps + 1 → length (with_stand o (p ∷ ps)) ≡ length (p ∷ ps) + 1
    by true e h = rw e (omega arith)
    by false e h = rw e (omega (arith, h))

all_stand : (test : ℕ → Bool) (o : ℕ) (ps : List ℕ) → test o ≡ true → list_all test ps ≡ true → list_all test (with_stand o ps) ≡ true
all_stand test o [] here h = and_from (test o) true here refl
all_stand test o (p ∷ ps) here h = by (nat_lt o p) refl (λ k. all_stand test o ps here k)
  where
    by : (b : Bool) → nat_lt o p ≡ b → (list_all test ps ≡ true → list_all test (with_stand o ps) ≡ true) → list_all test (with_stand o (p ∷ ps)) ≡ true
    by true e k = rw e (and_from (test o) (list_all test (p ∷ ps)) here h)
    by false e k = rw e (let both = and_parts (test p) (list_all test ps) h in and_from (test p) (list_all test (with_stand o ps)) both.0 (k both.1))

ascends_stand : (least o : ℕ) (ps : List ℕ) → least ≤ o → list_any (λ p. p == o) ps ≡ false → ascends_from least ps ≡ true → ascends_from least (with_stand o ps) ≡ true
ascends_stand least o [] low new h = and_from (nat_le least o) true (le-leb least o low) refl
ascends_stand least o (p ∷ ps) low new h = by (nat_lt o p) refl (λ l k. ascends_stand (p + 1) o ps l new_behind k)
  where
    new_behind : list_any (λ q. q == o) ps ≡ false
    new_behind = (or_parts (p == o) (list_any (λ q. q == o) ps) new).1

    by : (b : Bool) → nat_lt o p ≡ b → (p + 1 ≤ o → ascends_from (p + 1) ps ≡ true → ascends_from (p + 1) (with_stand o ps) ≡ true) → ascends_from least (with_stand o (p ∷ ps)) ≡ true
    by true e k =
        let both = and_parts (nat_le least p) (ascends_from (p + 1) ps) h in
        let above = ltb-true o p e in
        rw e (and_from (nat_le least o) _ (le-leb least o low) (and_from (nat_le (o + 1) p) (ascends_from (p + 1) ps) (le-leb (o + 1) p (omega (arith, above))) both.1))
    by false e k =
        let both = and_parts (nat_le least p) (ascends_from (p + 1) ps) h in
        let apart = eqb-false p o (or_parts (p == o) (list_any (λ q. q == o) ps) new).0 in
        let below = ltb-false o p e in
        rw e (and_from (nat_le least p) (ascends_from (p + 1) (with_stand o ps)) both.0 (k (omega (arith, below, apart)) both.1))

all_set : {X : Type 0} (test : X → Bool) (xs : List X) (k : ℕ) (x : X) → test x ≡ true → list_all test xs ≡ true → list_all test (slice_set xs k x) ≡ true
all_set test [] k x here h = refl
all_set test (y ∷ xs) zero x here h = let both = and_parts (test y) (list_all test xs) h in and_from (test x) (list_all test xs) here both.1
all_set test (y ∷ xs) (suc k) x here h = let both = and_parts (test y) (list_all test xs) h in and_from (test y) (list_all test (slice_set xs k x)) both.0 (all_set test xs k x here both.1)

pub names_kept : (media : List Medium) (k : ℕ) (m : Medium) → m.name ≡ (slice_index_or media k no_medium).name → map (λ x. x.name) (slice_set media k m) ≡ map (λ x. x.name) media
names_kept [] k m h = refl
names_kept (x ∷ media) zero m h = ap (λ (n : Bytes). n ∷ map (λ (y : Medium). y.name) media) h
names_kept (x ∷ media) (suc k) m h = ap (λ (ns : List Bytes). x.name ∷ ns) (names_kept media k m h)

-- a place that was found is one
pub place_below : {X : Type 0} (p : X → Bool) (xs : List X) (k : ℕ) → position p xs ≡ Some k → k < length xs
place_below p xs k h =
    let w = when_some (nat_lt (position_or_len p xs) (length xs)) (position_or_len p xs) k h in
    let below = ltb-true (position_or_len p xs) (length xs) w.0 in
    omega (arith, below, w.1)

module _ (r : Reading) (h : IsSound r) where
  -- one connection more
  connected_sound : (n m o : ℕ) (w : Bytes) → m < length r.media → o < length r.operators → Keeps IsSound (connected r n w m o)
  connected_sound n m o w below known =
      keeps_if (list_any (λ p. p == o) (slice_index_or r.media m no_medium).stands) _ _ (λ new. keeps_if (is_above Connections (r.connections + 1)) _ _ (λ few. record { holds = sound new few }))
    where
      before : Medium
      before = slice_index_or r.media m no_medium

      after : Medium
      after = record before { stands = with_stand o before.stands }

      begun : list_any (λ p. p == o) before.stands ≡ false → is_begun (length r.operators) after ≡ true
      begun new =
          let it : is_begun (length r.operators) before ≡ true = AllPass-from_list_all (is_begun (length r.operators)) r.media h.begun m no_medium below in
          let a = and_parts _ (nat_le before.per 1000000) it in
          let b = and_parts _ (nat_le before.fixed 1000000) a.0 in
          let c = and_parts (ascends_from 0 before.stands) (list_all (λ p. nat_lt p (length r.operators)) before.stands) b.0 in
          and_from _ _ (and_from _ _ (and_from _ _ (ascends_stand 0 o before.stands (omega arith) new c.0)
          (all_stand (λ p. nat_lt p (length r.operators)) o before.stands (lt-ltb o (length r.operators) known) c.1)) b.1) a.1

      sound : list_any (λ p. p == o) before.stands ≡ false → is_above Connections (r.connections + 1) ≡ false
          → IsSound (record r { media = slice_set r.media m after; connections = r.connections + 1 })
      sound new few =
          let room = ltb-false (bound_of Connections) (r.connections + 1) few in
          let one : length after.stands ≡ length before.stands + 1 = with_one_more o before.stands in
          let all : connections_in (slice_set r.media m after) + length before.stands
          ≡ connections_in r.media + length after.stands = sum_by-set (λ x. length x.stands) r.media m after no_medium below in
          let kept : length (slice_set r.media m after) ≡ length r.media = length-set r.media m after in
          record {
            operators = h.operators;
            media = omega (arith, kept, h.media);
            lines = h.lines ∙ sym kept;
            stands = omega (arith, one, all, h.stands);
            connections = omega (arith, room);
            begun = all_set (is_begun (length r.operators)) r.media m after (begun new) h.begun;
            depth = h.depth;
            distinct = subst (λ (l : List Bytes). are_distinct (r.operators ++ l) ≡ true) (sym (names_kept r.media m after refl)) h.distinct;
          }

  pub sound_connect : (n : ℕ) (ws : List Bytes) → Keeps IsSound (connect_line r n ws)
  sound_connect n ws =
      keeps_if (not (length ws == 3)) _ _ (λ a. keeps_names n (word ws 1) (word ws 2 ∷ []) _ (λ b. keeps_names n (word ws 2) [] _ (λ c.
      keeps_some (place_of (word ws 1) (medium_names r)) _ _ (λ m found. keeps_some (place_of (word ws 2) r.operators) _ _ (λ o known.
      let at = place_below _ (medium_names r) m found in
      let all : length (medium_names r) ≡ length r.media = search length-map in
      connected_sound n m o (word ws 2) (omega (arith, at, all)) (place_below _ r.operators o known))))))
