-- What was read was spelled, and each line adds one thing at most.
use Rattle.std.proofs.Common.{
  ◌≡◌,
  ℕ,
  ◌+◌,
  ◌≤◌,
  ◌<◌,
  Bool,
  not,
  true,
  false,
  ◌||◌,
  ◌&&◌,
  ◌==◌,
  if◌then◌else◌,
  List,
  [],
  ◌∷◌,
  ◌++◌,
  length,
  Option,
  Some,
  None,
  Ok,
  nat_le,
  nat_lt,
  refl,
  sym,
  ap,
  subst,
  ◌∙◌,
  arith,
  append_assoc,
  append-nil,
  inl,
  inr,
}
use Rattle.std.specs.Prelude.{codes, is_some, slice_index_or, slice_set, ◌⊎◌}
use Rattle.std.specs.List.{list_any, list_all}
use Rattle.std.specs.Str.{bytes_eq}
use Rattle.std.proofs.lemmas.Bool.{and_parts, and_from, eqb-false, ltb-true, lt-ltb, or_parts}
use Rattle.std.proofs.lemmas.Option.{same_Some}
use Rattle.std.proofs.lemmas.List.{length_push, map-append, length-set}
use Rattle.std.proofs.lemmas.List.Folds.{list_all-append}
use Rattle.text_lines.specs.Text.{words_of, code_of, foreign_place, word, begins}
use Rattle.syn_base.specs.Name.{is_name}
use Rattle.syn_base.specs.Integer.{integer_of}
use Rattle.syn_base.specs.declared.limits.LimitKind.TheVariants.{Operators, Media, Connections}
use Rattle.archi_defs.specs.declared.Medium.{Medium}
use Rattle.archi_defs.specs.Archi.{names_of}
use Rattle.archi_defs.specs.declared.text.DurationLine.{DurationLine}
use Rattle.syn_base.specs.Bytes.{Bytes}
use Rattle.archi_defs.specs.Text.{
  Reading,
  kind_of,
  up_to,
  depth_of,
  version_of,
  place_of,
  medium_names,
  is_taken,
  no_medium,
  with_stand,
  version_line,
  operator_line,
  medium_line,
  connect_line,
  duration_line,
  depth_line,
  described_line,
  line_by,
  next_line,
}
use Rattle.text_lines.specs.Refusals.{with_some, is_above}
use Rattle.archi_reader.specs.Durations.{is_given}
use Rattle.archi_reader.proofs.Sound.{Holds, Keeps, keeps_if, keeps_names, keeps_some, within, all_with}
use Rattle.archi_reader.proofs.Connected.{names_kept, place_below}
use Rattle.archi_reader.proofs.Following.{either}
use Rattle.archi_reader.proofs.Listed.{AreNew, is_spelled, new_push}

-- the version is 1 or 2, and a text of version 1 has no depth
abbrev pub IsVersion : Option ℕ → Option ℕ → Type 0
IsVersion None depth = depth ≡ None
IsVersion (Some version) depth = ((version ≡ 1) × (depth ≡ None)) ⊎ (version ≡ 2)

-- names are names, durations are what lines say, each once, and there are two versions
pub record IsSpelled (r : Reading) : Type 0 where
  pub names : list_all is_name (names_of r.operators r.media) ≡ true
  pub durations : list_all (is_spelled (length r.operators)) r.durations ≡ true
  pub new : AreNew [] r.durations
  pub version : IsVersion r.version r.depth

abbrev pub said : Option ℕ → ℕ
said None = 0
said (Some n) = 1

-- how many lines say so much
abbrev pub weight : Reading → ℕ
weight r = said r.version + said r.depth + length r.operators + length r.media + r.connections + length r.durations

pub record Follows (r s : Reading) : Type 0 where
  pub spelled : IsSpelled s
  pub counted : weight s ≤ weight r + 1

module _ (r : Reading) (h : IsSpelled r) where
  version_is : (w : Bytes) (version : ℕ) → version_of w ≡ Some version → (version ≡ 1) ⊎ (version ≡ 2)
  version_is w version = by (bytes_eq w (codes "1")) (bytes_eq w (codes "2"))
    where
      by : (b c : Bool) → (if b then Some 1 else if c then Some 2 else None) ≡ Some version → (version ≡ 1) ⊎ (version ≡ 2)
      by true c e = inl (sym (same_Some 1 version e))
      by false true e = inr (sym (same_Some 2 version e))
      by false false e = cc

  opened : (version : ℕ) → r.depth ≡ None → (version ≡ 1) ⊎ (version ≡ 2) → IsVersion (Some version) r.depth
  opened version none (inl e) = inl (e, none)
  opened version none (inr e) = inr e

  no_depth : (o : Option ℕ) → o ≡ None → IsVersion o r.depth → r.depth ≡ None
  no_depth None e k = k
  no_depth (Some version) e k = cc

  follows_version : (n : ℕ) (ws : List Bytes) → r.version ≡ None → Keeps (Follows r) (version_line r n ws)
  follows_version n ws first =
      keeps_if (not (length ws == 2) || not (bytes_eq (word ws 0) (codes "architecture"))) _ _ (λ a. keeps_some (version_of (word ws 1)) _ _ (λ version v. record {
        holds = record {
          spelled = record { names = h.names; durations = h.durations; new = h.new; version = opened version (no_depth r.version first h.version) (version_is (word ws 1) version v) };
          counted = let none : said r.version ≡ 0 = ap said first in omega (arith, none);
        };
      }))

  -- a depth stands in version 2 alone
  deepened : (version depth : ℕ) → r.version ≡ Some version → (version == 1) ≡ false → IsVersion r.version r.depth → IsVersion r.version (Some depth)
  deepened version depth is other k = subst (λ (o : Option ℕ). IsVersion o (Some depth)) (sym is) (two (subst (λ (o : Option ℕ). IsVersion o r.depth) is k))
    where
      two : ((version ≡ 1) × (r.depth ≡ None)) ⊎ (version ≡ 2) → ((version ≡ 1) × (Some depth ≡ None)) ⊎ (version ≡ 2)
      two (inl e) = absurd (eqb-false version 1 other e.0)
      two (inr e) = inr e

  none_said : (o : Option ℕ) → is_some o ≡ false → said o ≡ 0
  none_said None e = refl
  none_said (Some n) e = cc

  follows_depth : (n version : ℕ) (ws : List Bytes) → r.version ≡ Some version → Keeps (Follows r) (depth_line r n version ws)
  follows_depth n version ws is =
      keeps_if (not (length ws == 2) || (version == 1) || is_some r.depth) _ _ (λ a. keeps_some (depth_of (integer_of (word ws 1))) _ _ (λ depth d. record {
        holds =
            let parts = or_parts (not (length ws == 2) || (version == 1)) (is_some r.depth) a in
            let other = (or_parts (not (length ws == 2)) (version == 1) parts.0).1 in
            record {
              spelled = record { names = h.names; durations = h.durations; new = h.new; version = deepened version depth is other h.version };
              counted = let none = none_said r.depth parts.1 in omega (arith, none);
            };
      }))

  more_operators : (n : ℕ) (durations : List DurationLine) → list_all (is_spelled n) durations ≡ true → list_all (is_spelled (n + 1)) durations ≡ true
  more_operators n [] e = refl
  more_operators n (d ∷ durations) e =
      let both = and_parts (is_spelled n d) (list_all (is_spelled n) durations) e in
      let ticks = and_parts (is_name d.def && nat_lt d.operator n) (nat_le d.ticks 1000000000) both.0 in
      let parts = and_parts (is_name d.def) (nat_lt d.operator n) ticks.0 in
      let low = ltb-true d.operator n parts.1 in
      and_from _ _ (and_from _ _ (and_from _ _ parts.0 (lt-ltb d.operator (n + 1) (omega (arith, low)))) ticks.1) (more_operators n durations both.1)

  follows_operator : (n : ℕ) (ws : List Bytes) → Keeps (Follows r) (operator_line r n ws)
  follows_operator n ws =
      keeps_if (not (length ws == 2)) _ _
      (λ a. keeps_names n (word ws 1) [] _
      (λ named. keeps_if (is_taken r (word ws 1)) _ _
      (λ fresh. keeps_if (is_above Operators (length r.operators + 1)) _ _ (λ few. record { holds = it named }))))
    where
      it : is_name (word ws 1) ≡ true → Follows r (record r { operators = r.operators ++ word ws 1 ∷ [] })
      it named =
          let more = length_push r.operators (word ws 1) in
          record {
            spelled = record {
              names = subst (λ (l : List Bytes). list_all is_name l ≡ true) (sym (append_assoc r.operators (word ws 1 ∷ []) (medium_names r)))
                  (all_with is_name r.operators (medium_names r) (word ws 1) named h.names);
              durations = subst (λ (k : ℕ). list_all (is_spelled k) r.durations ≡ true) (sym more) (more_operators (length r.operators) r.durations h.durations);
              new = h.new;
              version = h.version;
            };
            counted = omega (arith, more);
          }

  follows_medium : (n : ℕ) (ws : List Bytes) → Keeps (Follows r) (medium_line r n ws)
  follows_medium n ws =
      keeps_if (not (length ws == 5) || not (bytes_eq (word ws 2) (codes "p2p") || bytes_eq (word ws 2) (codes "multi"))) _ _ (λ a. keeps_names n (word ws 1) [] _ (λ named.
      keeps_some (up_to 1000000 (integer_of (word ws 3))) _ _ (λ fixed f. keeps_some (up_to 1000000 (integer_of (word ws 4))) _ _ (λ per p.
      keeps_if (is_taken r (word ws 1)) _ _ (λ fresh. keeps_if (is_above Media (length r.media + 1)) _ _ (λ few. record { holds = it fixed per named }))))))
    where
      it : (fixed per : ℕ) → is_name (word ws 1) ≡ true
          → Follows r (record r { media = r.media ++ record { name = word ws 1; kind = kind_of (word ws 2); fixed = fixed; per = per; stands = [] } ∷ []; lines = r.lines ++ n ∷ [] })
      it fixed per named =
          let m : Medium = record { name = word ws 1; kind = kind_of (word ws 2); fixed = fixed; per = per; stands = [] } in
          let more = length_push r.media m in
          let all : list_all is_name ((r.operators ++ medium_names r) ++ []) ≡ true = rw append-nil h.names in
          record {
            spelled = record {
              names = subst (λ (l : List Bytes). list_all is_name l ≡ true)
                  (append_assoc r.operators (medium_names r) (word ws 1 ∷ []) ∙ ap (λ (l : List Bytes). r.operators ++ l) (sym (map-append (λ (x : Medium). x.name) r.media (m ∷ []))))
                  (all_with is_name (r.operators ++ medium_names r) [] (word ws 1) named all);
              durations = h.durations;
              new = h.new;
              version = h.version;
            };
            counted = omega (arith, more);
          }

  follows_connect : (n : ℕ) (ws : List Bytes) → Keeps (Follows r) (connect_line r n ws)
  follows_connect n ws =
      keeps_if (not (length ws == 3)) _ _ (λ a. keeps_names n (word ws 1) (word ws 2 ∷ []) _ (λ b. keeps_names n (word ws 2) [] _ (λ c.
      keeps_some (place_of (word ws 1) (medium_names r)) _ _ (λ m found. keeps_some (place_of (word ws 2) r.operators) _ _ (λ o known.
      keeps_if (list_any (λ p. p == o) (slice_index_or r.media m no_medium).stands) _ _ (λ new. keeps_if (is_above Connections (r.connections + 1)) _ _ (λ few. record { holds = it m o })))))))
    where
      after_of : ℕ → ℕ → Medium
      after_of m o = record (slice_index_or r.media m no_medium) { stands = with_stand o (slice_index_or r.media m no_medium).stands }

      it : (m o : ℕ) → Follows r (record r { media = slice_set r.media m (after_of m o); connections = r.connections + 1 })
      it m o =
          let kept : length (slice_set r.media m (after_of m o)) ≡ length r.media = length-set r.media m (after_of m o) in
          record {
            spelled = record {
              names = subst (λ (l : List Bytes). list_all is_name (r.operators ++ l) ≡ true) (sym (names_kept r.media m (after_of m o) refl)) h.names;
              durations = h.durations;
              new = h.new;
              version = h.version;
            };
            counted = omega (arith, kept);
          }

  follows_duration : (n : ℕ) (ws : List Bytes) → Keeps (Follows r) (duration_line r n ws)
  follows_duration n ws =
      keeps_if (not (length ws == 4)) _ _ (λ a. keeps_names n (word ws 1) (word ws 2 ∷ []) _ (λ named. keeps_names n (word ws 2) [] _ (λ c.
      keeps_some (up_to 1000000000 (integer_of (word ws 3))) _ _ (λ ticks t. keeps_some (place_of (word ws 2) r.operators) _ _ (λ o known.
      keeps_if (list_any (λ d. bytes_eq d.def (word ws 1) && (d.operator == o)) r.durations) _ _ (λ new. record {
        holds = it ticks o named (within 1000000000 (integer_of (word ws 3)) ticks t) (place_below _ r.operators o known) new;
      }))))))
    where
      it : (ticks o : ℕ) → is_name (word ws 1) ≡ true → nat_le ticks 1000000000 ≡ true → o < length r.operators → is_given r.durations (word ws 1) o ≡ false
          → Follows r (record r { durations = r.durations ++ record { def = word ws 1; operator = o; ticks = ticks } ∷ [] })
      it ticks o named low below new =
          let d : DurationLine = record { def = word ws 1; operator = o; ticks = ticks } in
          let more = length_push r.durations d in
          let own : is_spelled (length r.operators) d ≡ true = and_from _ _ (and_from _ _ named (lt-ltb o (length r.operators) below)) low in
          record {
            spelled = record {
              names = h.names;
              durations = list_all-append (is_spelled (length r.operators)) r.durations (d ∷ []) ∙ and_from _ _ h.durations (and_from _ true own refl);
              new = new_push r.durations [] d h.new new;
              version = h.version;
            };
            counted = omega (arith, more);
          }

  follows_described : (n version : ℕ) (ws : List Bytes) → r.version ≡ Some version → Keeps (Follows r) (described_line r n version ws)
  follows_described n version ws is =
      either (begins ws (codes "operator")) _ _ (follows_operator n ws)
      (either (begins ws (codes "medium")) _ _ (follows_medium n ws)
      (either (begins ws (codes "connect")) _ _ (follows_connect n ws)
      (either (begins ws (codes "duration")) _ _ (follows_duration n ws)
      (either (begins ws (codes "depth")) _ _ (follows_depth n version ws is) (record { holds = tt })))))

  by_version : (o : Option ℕ) (n : ℕ) (ws : List Bytes) → r.version ≡ o → Keeps (Follows r) (with_some o (version_line r n ws) (λ version. described_line r n version ws))
  by_version (Some version) n ws e = follows_described n version ws e
  by_version None n ws e = follows_version n ws e

  follows_line : (n : ℕ) (line : Bytes) (foreign : Option ℕ) → Keeps (Follows r) (line_by r n line foreign)
  follows_line n line (Some place) = record { holds = tt }
  follows_line n line None =
      either (length (words_of (code_of line)) == 0) _ _ (record { holds = record { spelled = h; counted = omega arith } })
      (by_version r.version n (words_of (code_of line)) refl)

-- one line more
pub follows_next : (r s : Reading) (n : ℕ) (line : Bytes) → IsSpelled r → next_line r n line ≡ Ok s → Follows r s
follows_next r s n line h is = let kept : Keeps (Follows r) (next_line r n line) = follows_line r h n line (foreign_place line) in subst (Holds (Follows r)) is kept.holds
