-- The bytes of names and of paths stand for themselves.
use Rattle.std.proofs.Common.{◌≡◌, ℕ, ◌+◌, ◌≤◌, ◌≢◌, Bool, true, false, ◌&&◌, ◌||◌, not, List, [], ◌∷◌, length, refl, sym, inl, inr, arith, ◌∙◌}
use Rattle.std.specs.Prelude.{◌⊎◌, ◌==◌, nat_le, All}
use Rattle.std.specs.List.{list_all}
use Rattle.std.proofs.lemmas.List.Elements.{All-nil, All-cons}
use Rattle.std.proofs.lemmas.Bool.{false≢true, and_parts, leb-true, le-leb, eqb-true, ne_eqb}
use Rattle.syn_base.specs.Name.{is_digit, is_letter, is_name_byte, is_name, begins_name}
use Rattle.flat_graph.specs.declared.vertex.Vertex.{Vertex}
use Rattle.flat_graph.specs.Graph.{Graph, lens_of}
use Rattle.flat_graph.specs.Valid.{is_path_byte, is_path, is_vertex, all_from, is_flat, is_len, is_guard, fits, has_twin, are_named_apart, sensors_from, actuators_from, kinds_of}
use Rattle.flat_graph.specs.Order.{is_acyclic}
use Rattle.svg_text.specs.Plain.{stands_for_itself, needs_no_escape}

either : (x y : Bool) → (x || y) ≡ true → (x ≡ true) ⊎ (y ≡ true)
either true y h = inl refl
either false y h = inr h

-- a number above all control characters that is none of six
record IsPlain (b : ℕ) : Type 0 where
  above : 32 ≤ b
  quote : b ≢ 34
  and : b ≢ 38
  tick : b ≢ 39
  less : b ≢ 60
  more : b ≢ 62
  back : b ≢ 92

-- what is neither quoted nor below stands for itself
tests : (low p q r s t u : Bool) → low ≡ true → p ≡ false → q ≡ false → r ≡ false → s ≡ false → t ≡ false → u ≡ false → (low && not (p || q || r || s || t || u)) ≡ true
tests true false false false false false false l a b c d e f = refl
tests false p q r s t u l a b c d e f = l
tests low true q r s t u l a b c d e f = absurd (false≢true (sym a))
tests low p true r s t u l a b c d e f = absurd (false≢true (sym b))
tests low p q true s t u l a b c d e f = absurd (false≢true (sym c))
tests low p q r true t u l a b c d e f = absurd (false≢true (sym d))
tests low p q r s true u l a b c d e f = absurd (false≢true (sym e))
tests low p q r s t true l a b c d e f = absurd (false≢true (sym f))

plain_stands : (b : ℕ) → IsPlain b → stands_for_itself b ≡ true
plain_stands b p =
    tests (nat_le 32 b) (b == 34) (b == 38) (b == 39) (b == 60) (b == 62) (b == 92)
    (le-leb 32 b p.above) (ne_eqb b 34 p.quote) (ne_eqb b 38 p.and) (ne_eqb b 39 p.tick) (ne_eqb b 60 p.less) (ne_eqb b 62 p.more) (ne_eqb b 92 p.back)

between : (low high b : ℕ) → (nat_le low b && nat_le b high) ≡ true → (low ≤ b) × (b ≤ high)
between low high b h = let r = and_parts (nat_le low b) (nat_le b high) h in (leb-true low b r.0, leb-true b high r.1)

plain_digit : (b : ℕ) → is_digit b ≡ true → IsPlain b
plain_digit b h =
    let r = between 48 57 b h in let l = r.0 in let u = r.1 in
    record { above = omega arith; quote = omega arith; and = omega arith; tick = omega arith; less = omega arith; more = omega arith; back = omega arith }

plain_upper : (b : ℕ) → 65 ≤ b → b ≤ 90 → IsPlain b
plain_upper b l u = record { above = omega arith; quote = omega arith; and = omega arith; tick = omega arith; less = omega arith; more = omega arith; back = omega arith }

plain_lower : (b : ℕ) → 97 ≤ b → b ≤ 122 → IsPlain b
plain_lower b l u = record { above = omega arith; quote = omega arith; and = omega arith; tick = omega arith; less = omega arith; more = omega arith; back = omega arith }

plain_letter : (b : ℕ) → is_letter b ≡ true → IsPlain b
plain_letter b h = by (either (nat_le 65 b && nat_le b 90) (nat_le 97 b && nat_le b 122) h)
  where
    by : ((nat_le 65 b && nat_le b 90) ≡ true) ⊎ ((nat_le 97 b && nat_le b 122) ≡ true) → IsPlain b
    by (inl x) = let r = between 65 90 b x in plain_upper b r.0 r.1
    by (inr x) = let r = between 97 122 b x in plain_lower b r.0 r.1

-- one of `_`, `.`, `/` and `:`
plain_mark : (b c : ℕ) → (b == c) ≡ true → IsPlain c → IsPlain b
plain_mark b c h p =
    let e = eqb-true b c h in
    record {
      above = (let x = p.above in omega arith);
      quote = λ q. p.quote (sym e ∙ q);
      and = λ q. p.and (sym e ∙ q);
      tick = λ q. p.tick (sym e ∙ q);
      less = λ q. p.less (sym e ∙ q);
      more = λ q. p.more (sym e ∙ q);
      back = λ q. p.back (sym e ∙ q);
    }

score : IsPlain 95
score = record { above = omega arith; quote = omega arith; and = omega arith; tick = omega arith; less = omega arith; more = omega arith; back = omega arith }

dot : IsPlain 46
dot = record { above = omega arith; quote = omega arith; and = omega arith; tick = omega arith; less = omega arith; more = omega arith; back = omega arith }

slash : IsPlain 47
slash = record { above = omega arith; quote = omega arith; and = omega arith; tick = omega arith; less = omega arith; more = omega arith; back = omega arith }

colon : IsPlain 58
colon = record { above = omega arith; quote = omega arith; and = omega arith; tick = omega arith; less = omega arith; more = omega arith; back = omega arith }

plain_name_byte : (b : ℕ) → is_name_byte b ≡ true → IsPlain b
plain_name_byte b h = by (either (is_letter b || is_digit b) (b == 95) h)
  where
    inner : (is_letter b ≡ true) ⊎ (is_digit b ≡ true) → IsPlain b
    inner (inl x) = plain_letter b x
    inner (inr x) = plain_digit b x

    by : ((is_letter b || is_digit b) ≡ true) ⊎ ((b == 95) ≡ true) → IsPlain b
    by (inl x) = inner (either (is_letter b) (is_digit b) x)
    by (inr x) = plain_mark b 95 x score

plain_path_byte : (b : ℕ) → is_path_byte b ≡ true → IsPlain b
plain_path_byte b h = last (either (is_name_byte b || (b == 46) || (b == 47)) (b == 58) h)
  where
    first : (is_name_byte b ≡ true) ⊎ ((b == 46) ≡ true) → IsPlain b
    first (inl x) = plain_name_byte b x
    first (inr x) = plain_mark b 46 x dot

    second : ((is_name_byte b || (b == 46)) ≡ true) ⊎ ((b == 47) ≡ true) → IsPlain b
    second (inl x) = first (either (is_name_byte b) (b == 46) x)
    second (inr x) = plain_mark b 47 x slash

    last : ((is_name_byte b || (b == 46) || (b == 47)) ≡ true) ⊎ ((b == 58) ≡ true) → IsPlain b
    last (inl x) = second (either (is_name_byte b || (b == 46)) (b == 47) x)
    last (inr x) = plain_mark b 58 x colon

all_plain : (p : ℕ → Bool) → ((b : ℕ) → p b ≡ true → IsPlain b) → (text : List ℕ) → list_all p text ≡ true → needs_no_escape text ≡ true
all_plain p f [] h = refl
all_plain p f (b ∷ bs) h =
    let r = and_parts (p b) (list_all p bs) h in
    both (stands_for_itself b) (needs_no_escape bs) (plain_stands b (f b r.0)) (all_plain p f bs r.1)
  where
    both : (x y : Bool) → x ≡ true → y ≡ true → (x && y) ≡ true
    both true true d e = refl
    both true false d e = e
    both false y d e = d

pub name_is_plain : (text : List ℕ) → is_name text ≡ true → needs_no_escape text ≡ true
name_is_plain text h =
    all_plain is_name_byte plain_name_byte text (and_parts (begins_name text && nat_le (length text) 32) (list_all is_name_byte text) h).1

path_is_plain : (text : List ℕ) → is_path text ≡ true → needs_no_escape text ≡ true
path_is_plain text h = all_plain is_path_byte plain_path_byte text (and_parts (nat_le 1 (length text)) (list_all is_path_byte text) h).1

vertex_is_plain : (g : Graph) (v : ℕ) (x : Vertex) → is_vertex g v x ≡ true → needs_no_escape x.name ≡ true
vertex_is_plain g v x h =
    let first = is_path x.name in
    let second = nat_le (length x.outs) 64 && list_all is_len x.outs in
    let third = list_all (is_guard g.vertices) x.guards in
    let fourth = list_all (nat_le 1) (lens_of g.vertices x.ins) in
    let fifth = fits g.bodies x.kind (lens_of g.vertices x.ins) x.outs in
    let sixth = has_twin g.vertices v x.kind x.twin in
    let five = (and_parts (first && second && third && fourth && fifth) sixth h).0 in
    let four = (and_parts (first && second && third && fourth) fifth five).0 in
    let three = (and_parts (first && second && third) fourth four).0 in
    let two = (and_parts (first && second) third three).0 in
    path_is_plain x.name (and_parts first second two).0

abbrev Plain : Vertex → Type 0
Plain x = needs_no_escape x.name ≡ true

all_vertices : (g : Graph) (v : ℕ) (xs : List Vertex) → all_from (is_vertex g) v xs ≡ true → All Plain xs
all_vertices g v [] h = All-nil Plain
all_vertices g v (x ∷ xs) h =
    let r = and_parts (is_vertex g v x) (all_from (is_vertex g) (v + 1) xs) h in
    All-cons Plain x xs (vertex_is_plain g v x r.0) (all_vertices g (v + 1) xs r.1)

pub paths_are_plain : (g : Graph) → is_flat g ≡ true → All Plain g.vertices
paths_are_plain g h =
    let first = nat_le (length g.vertices) 2048 in
    let second = are_named_apart g.vertices in
    let third = all_from (is_vertex g) 0 g.vertices in
    let fourth = sensors_from 0 (kinds_of g.vertices) in
    let fifth = actuators_from 0 (kinds_of g.vertices) in
    let five = (and_parts (first && second && third && fourth && fifth) (is_acyclic g.vertices) h).0 in
    let four = (and_parts (first && second && third && fourth) fifth five).0 in
    let three = (and_parts (first && second && third) fourth four).0 in
    all_vertices g 0 g.vertices (and_parts (first && second) third three).1
