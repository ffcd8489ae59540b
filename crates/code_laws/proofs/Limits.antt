-- Within the limits of a program, its numbers are small and its lengths too; and a reader of texts counts the same words, since the prologues of a well-formed program send nothing.
use Rattle.std.proofs.Common.{
  ◌≡◌,
  ℕ,
  zero,
  suc,
  ◌+◌,
  ◌-◌,
  ◌*◌,
  ◌^◌,
  ◌<◌,
  ◌≤◌,
  Bool,
  true,
  false,
  ◌&&◌,
  if◌then◌else◌,
  cond,
  min,
  max,
  nat_le,
  nat_lt,
  List,
  [],
  ◌∷◌,
  length,
  Option,
  Some,
  None,
  Result,
  Ok,
  refl,
  sym,
  ap,
  ap₂,
  inl,
  inr,
  arith,
  ◌∙◌,
}
use Rattle.std.specs.List.{list_all, sum_by}
use Rattle.std.proofs.lemmas.Bool.{and_parts, and_from, lt-ltb, le-ltb, le-leb, ltb-false, cases_lt}
use Rattle.std.proofs.lemmas.Nat.{mul-le}
use Rattle.std.proofs.lemmas.Option.{slice_get_within}
use Rattle.syn_base.specs.Limits.{bound_of, above}
use Rattle.syn_base.specs.declared.limits.LimitKind.{LimitKind}
use Rattle.syn_base.specs.declared.limits.LimitKind.TheVariants.{Words, MicroSteps}
use Rattle.syn_base.specs.declared.limits.LimitFault.{LimitFault}
use Rattle.sequence_build_laws.specs.Owners.{sum_below}
use Rattle.sequence_build_laws.specs.declared.Instr.{Instr}
use Rattle.sequence_build_laws.specs.declared.Instr.TheVariants.{Suc0, Suc1, Pre0, Pre1, Call, Send, Recv, Sync}
use Rattle.sequence_build_laws.specs.declared.Buffer.{Buffer}
use Rattle.sequence_build_laws.specs.declared.SeqCode.{SeqCode}
use Rattle.sequence_build_laws.specs.declared.Program.{Program}
use Rattle.sequence_build_laws.specs.Instructions.{len_of, len_in, depth_of, depth_in}
use Rattle.sequence_build_laws.specs.MicroSteps.{words, wire_len, longest_sent, longest_on, is_on}
use Rattle.sequence_build_laws.specs.Steps.{all_turns}
use Rattle.sequence_build_laws.proofs.InterleavingSums.{same_below}
use Rattle.sequence_build_laws.proofs.MicroCounts.{by_place}
use Rattle.sequence_build.specs.Limit.{program_limit}
use Rattle.macro_code.specs.ReadText as text
use Rattle.macro_code.specs.ReadText.{limited, within_steps}
use Rattle.macro_code.specs.Refusals.{CodeRefusal}
use Rattle.text_lines.specs.Refusals as refusals
use Rattle.code_laws.proofs.ListPlaces.{all_there}
use Rattle.code_laws.proofs.Arguments.{is_small}
use Rattle.code_laws.proofs.Declared.{is_declarable}

-- no quantity is above its bound
not_above : (which : LimitKind) (count : ℕ) (next : Option LimitFault) → above which count next ≡ None → (count ≤ bound_of which) × (next ≡ None)
not_above which count next = by (nat_lt (bound_of which) count) refl
  where
    by : (b : Bool) → nat_lt (bound_of which) count ≡ b → cond b (Some (record { which = which; count = count; bound = bound_of which })) next ≡ None → (count ≤ bound_of which) × (next ≡ None)
    by true e h = absurd (cc)
    by false e h = (ltb-false (bound_of which) count e, h)

pub record Within (p : Program) (media : ℕ) : Type 0 where
  pub words_low : words p media ≤ 65536
  pub steps_low : all_turns p ≤ 262144

least_of : (n m k : ℕ) → min n m ≤ k → k < m → n ≤ k
least_of n m k h l = elim (cases_lt n m) [
  | inl x ↦ omega (arith, h, x)
  | inr x ↦ absurd (omega (arith, h, l, x))
]

pub within : (p : Program) (media : ℕ) → program_limit p media ≡ None → Within p media
within p media h =
    let first = not_above Words (words p media) (above MicroSteps (min (all_turns p) (2 ^ 128 - 1)) None) h in
    let second = not_above MicroSteps (min (all_turns p) (2 ^ 128 - 1)) None first.1 in
    record { words_low = first.0; steps_low = least_of (all_turns p) (2 ^ 128 - 1) 262144 second.0 (omega arith) }

-- parts of a sum
many_terms : (f : ℕ → ℕ) (n : ℕ) → ((i : ℕ) → i < n → 1 ≤ f i) → n ≤ sum_below f n
many_terms f zero h = omega arith
many_terms f (suc n) h = let e = many_terms f n (λ i l. h i (omega (arith, l))) in let d = h n (omega arith) in omega (arith, e, d)

one_term : (f : ℕ → ℕ) (n i : ℕ) → i < n → f i ≤ sum_below f n
one_term f zero i l = absurd (omega (arith, l))
one_term f (suc n) i l = elim (cases_lt i n) [
  | inl k ↦ let e = one_term f n i k in omega (arith, e)
  | inr k ↦ let same : i ≡ n = omega (arith, l, k) in let e = ap f same in omega (arith, e)
]

product : (x y : ℕ) → 1 ≤ x → 1 ≤ y → (1 ≤ x * y) × (y ≤ x * y)
product x y l k = let m = mul-le 1 y x y l (omega arith) in let one : 1 * y ≡ y = omega arith in (omega (arith, m, one, k), omega (arith, m, one))

-- What the limit on words tells, where each buffer has an element and a place.
pub record Few (p : Program) : Type 0 where
  pub few_pairs : length p.pairs ≤ 9223372036854775808
  pub few_buffers : length p.buffers ≤ 9223372036854775808
  pub declarable : list_all is_declarable p.buffers ≡ true

pub few : (p : Program) (media : ℕ) → words p media ≤ 65536 → ((b : ℕ) → b < length p.buffers → 1 ≤ len_of p b) → ((b : ℕ) → b < length p.buffers → (1 ≤ depth_of p b) × (depth_of p b ≤ 4)) → Few p
few p media low elements places =
    let each : ℕ → ℕ = λ (b : ℕ). depth_of p b * len_of p b in
    let all : 2 * length p.pairs + media + sum_below (λ (b : ℕ). depth_of p b * len_of p b) (length p.buffers) + sum_below (wire_len p) media ≤ 65536 = low in
    let many : length p.buffers ≤ sum_below (λ (b : ℕ). depth_of p b * len_of p b) (length p.buffers) =
    many_terms (λ (b : ℕ). depth_of p b * len_of p b) (length p.buffers) (λ b l. (product (depth_of p b) (len_of p b) (places b l).0 (elements b l)).0) in
    record {
      few_pairs = omega (arith, all);
      few_buffers = omega (arith, all, many);
      declarable = all_there is_declarable p.buffers (λ b y e.
          let l = slice_get_within p.buffers b y e in
          let len_is : len_of p b ≡ y.len = ap len_in e in
          let depth_is : depth_of p b ≡ y.depth = ap depth_in e in
          let some = elements b l in
          let place = places b l in
          let least = place.0 in
          let most = place.1 in
          let term = one_term (λ (b : ℕ). depth_of p b * len_of p b) (length p.buffers) b l in
          let long = (product (depth_of p b) (len_of p b) least some).1 in
          and_from (nat_le 1 y.len && is_small y.len && nat_le 1 y.depth) (nat_le y.depth 4)
          (and_from (nat_le 1 y.len && is_small y.len) (nat_le 1 y.depth)
          (and_from (nat_le 1 y.len) (is_small y.len) (le-leb 1 y.len (omega (arith, some, len_is))) (lt-ltb y.len 9223372036854775808 (omega (arith, all, term, long, len_is))))
          (le-leb 1 y.depth (omega (arith, least, depth_is))))
          (le-leb y.depth 4 (omega (arith, most, depth_is))));
    }

-- a signal, which sends nothing
abbrev pub is_signal : Instr → Bool
is_signal (Pre0 q) = true
is_signal _ = false

nothing_sent : (p : Program) (xs : List Instr) → list_all is_signal xs ≡ true → longest_sent p xs ≡ 0
nothing_sent p [] h = refl
nothing_sent p (Pre0 q ∷ xs) h = let e = nothing_sent p xs h in let m : max 0 (longest_sent p xs) ≡ longest_sent p xs = omega arith in m ∙ e
nothing_sent p (Suc0 q ∷ xs) h = absurd (cc)
nothing_sent p (Suc1 q ∷ xs) h = absurd (cc)
nothing_sent p (Pre1 q ∷ xs) h = absurd (cc)
nothing_sent p (Call v ins outs ∷ xs) h = absurd (cc)
nothing_sent p (Send b o ∷ xs) h = absurd (cc)
nothing_sent p (Recv b o ∷ xs) h = absurd (cc)
nothing_sent p (Sync o r ∷ xs) h = absurd (cc)

abbrev pub opens_alone : SeqCode → Bool
opens_alone q = list_all is_signal q.prologue

same_wire : (p : Program) (m : ℕ) (qs : List SeqCode) → list_all opens_alone qs ≡ true → text.longest_on p m qs ≡ longest_on p qs m
same_wire p m [] h = refl
same_wire p m (q ∷ qs) h =
    let both = and_parts (opens_alone q) (list_all opens_alone qs) h in
    let none = nothing_sent p q.prologue both.0 in
    let own : max (longest_sent p q.prologue) (longest_sent p q.turn) ≡ longest_sent p q.turn = omega (arith, none) in
    ap₂ max (ap (λ (k : ℕ). cond (is_on m q.seq.medium) k 0) own) (same_wire p m qs both.1)

same_words : (p : Program) (media : ℕ) → list_all opens_alone p.seqs ≡ true → text.words p media ≡ words p media
same_words p media h =
    let buffers : sum_below (λ (b : ℕ). depth_of p b * len_of p b) (length p.buffers) ≡ sum_by (λ (x : Buffer). x.depth * x.len) p.buffers =
    by_place (λ (o : Option Buffer). depth_in o * len_in o) (λ (x : Buffer). x.depth * x.len) (λ x. refl) p.buffers in
    let wires : sum_below (text.wire_len p) media ≡ sum_below (wire_len p) media = same_below (text.wire_len p) (wire_len p) media (λ m _. same_wire p m p.seqs h) in
    ap₂ (λ (x y : ℕ). 2 * length p.pairs + media + x + y) (sym buffers) wires

-- the refusal by a limit
abbrev over : LimitKind → ℕ → Result Program CodeRefusal
over which count = refusals.above which count

-- a reader refuses no such program for its limits
pub not_limited : (p : Program) (media : ℕ) → Within p media → list_all opens_alone p.seqs ≡ true → limited media p ≡ Ok p
not_limited p media low h =
    let same = same_words p media h in
    let words_low = low.words_low in
    let steps_low = low.steps_low in
    ap (λ (b : Bool). if b then over Words (text.words p media) else within_steps p) (le-ltb 65536 (text.words p media) (omega (arith, same, words_low)))
    ∙ ap (λ (b : Bool). if b then over MicroSteps (all_turns p) else Ok p) (le-ltb 262144 (all_turns p) steps_low)
