use Rattle.std.proofs.Common.{
  ◌≡◌,
  ℕ,
  zero,
  suc,
  ◌+◌,
  ◌-◌,
  ◌<◌,
  ◌≤◌,
  List,
  [],
  ◌∷◌,
  ◌++◌,
  length,
  take,
  drop,
  refl,
  ap,
  sym,
  ◌∙◌,
  arith,
  append_assoc,
  append-nil,
  zero-add,
  false,
  true,
  suc-add,
  length-append,
  subst,
}
use Rattle.std.proofs.lemmas.List.{take-append-le}
use Rattle.std.specs.Prelude.{Bool, if◌then◌else◌, Option, Some, None, IfSome}
use Rattle.std.proofs.lemmas.Grind.{common_steps}
use Rattle.syn_base.specs.Bytes.{Bytes}
use Rattle.outside.specs.Bytes.{IsPrefix}
use Rattle.outside.specs.Faults.{Rose}
use Rattle.outside.specs.Shelf.{Held, Stays, OthersStay, Took}
use Rattle.outside.specs.Sink.{Sunk, Appends, Wrote, appended}
use Rattle.outside.specs.declared.file.File.{File}

-- the first bytes of a file are these
pub record IsFront (file bytes : Bytes) : Type 0 where
  pub front : bytes ≡ take (length bytes) file
  pub within : length bytes ≤ length file

pub appended_twice : (a b : Bytes) (o : Option Bytes) → appended b (appended a o) ≡ appended (a ++ b) o
appended_twice a b None = refl
appended_twice a b (Some w) = ap (λ (x : Bytes). Some x) (append_assoc w a b)

pub appends_more : {a b c : Sunk} {x y : Bytes} → Appends a b x → Appends b c y → Appends a c (x ++ y)
appends_more {a} {b} {c} {x} {y} p q = record {
  told = q.told ∙ ap (appended y) p.told ∙ appended_twice x y a.told;
  faults = let m : a.faults ≤ b.faults = p.faults in let n : b.faults ≤ c.faults = q.faults in omega arith;
}

pub take_more : (xs : Bytes) (at n : ℕ) → take at xs ++ take n (drop at xs) ≡ take (at + n) xs
take_more xs zero n = rw zero-add refl
take_more [] (suc at) n = grind (arith, common_steps)
take_more (x ∷ xs) (suc at) n = rw suc-add (ap (λ (ys : Bytes). x ∷ ys) (take_more xs at n))

pub appended_none : (o : Option Bytes) → o ≡ appended [] o
appended_none None = refl
appended_none (Some w) = ap (λ (x : Bytes). Some x) (sym (append-nil w))

pub appends_none : (a : Sunk) → Appends a a []
appends_none a = record { told = appended_none a.told; faults = omega arith }

pub take_prefix : (at : ℕ) (xs : Bytes) → IsPrefix (take at xs) xs
take_prefix at xs = (drop at xs, grind (arith, common_steps))

pub stays_on : (a b c : Held) → Stays a b → Stays b c → Stays a c
stays_on a b c p q = record {
  told = λ n. q.told n ∙ p.told n;
  faults = λ f n. let x : a.faults f n ≤ b.faults f n = p.faults f n in let y : b.faults f n ≤ c.faults f n = q.faults f n in omega arith;
}

pub others_on : (a b c : Held) (f : File) → OthersStay f a b → OthersStay f b c → OthersStay f a c
others_on a b c f p q = λ g n ne. q g n ne ∙ p g n ne

-- one more piece
pub front_more : (file bytes : Bytes) (n : ℕ) (buffer : List ℕ) → IsFront file bytes → Took file (length bytes) n buffer → n ≤ length buffer → IsFront file (bytes ++ take n buffer)
front_more file bytes n buffer p q h =
    let b : length bytes ≤ length file = p.within in
    let w : n ≤ length file - length bytes = q.within in
    let l : length (bytes ++ take n buffer) ≡ length bytes + n = length-append bytes (take n buffer) ∙ grind (arith, common_steps) in
    record {
      front = rw l (ap (λ (x : Bytes). x ++ take n buffer) p.front ∙ ap (λ (x : Bytes). take (length bytes) file ++ x) q.bytes ∙ take_more file (length bytes) n);
      within = rw l (omega arith);
    }

pub front_whole : (file bytes : Bytes) (n : ℕ) (buffer : List ℕ) → IsFront file bytes → Took file (length bytes) n buffer → 0 < length buffer → n ≡ 0 → bytes ≡ file
front_whole file bytes n buffer p q h e =
    let b : length file ≤ length bytes = q.ends h e in
    let f = p.front in
    grind (arith, common_steps)

pub front_if : (o o' : Option Bytes) (bytes : Bytes) (at n : ℕ) (buffer : List ℕ) → at ≡ length bytes → o' ≡ o
    → IfSome o (λ file. IsFront file bytes) → IfSome o' (λ file. Took file at n buffer) → n ≤ length buffer
    → IfSome o (λ file. IsFront file (bytes ++ take n buffer))
front_if None o' bytes at n buffer same_at e p q h = tt
front_if (Some x) None bytes at n buffer same_at e p q h = cc e
front_if (Some x) (Some y) bytes at n buffer same_at e p q h =
    let same : y ≡ x = cc e in
    front_more x bytes n buffer p (subst (λ (k : ℕ). Took x k n buffer) same_at (subst (λ (z : Bytes). Took z at n buffer) same q)) h

pub whole_if : (o o' : Option Bytes) (bytes : Bytes) (n : ℕ) (buffer : List ℕ) → o' ≡ o → IfSome o (λ file. IsFront file bytes)
    → IfSome o' (λ file. Took file (length bytes) n buffer) → 0 < length buffer → n ≡ 0
    → IfSome o (λ file. bytes ≡ file)
whole_if None o' bytes n buffer e p q h z = tt
whole_if (Some x) None bytes n buffer e p q h z = cc e
whole_if (Some x) (Some y) bytes n buffer e p q h z =
    let same : y ≡ x = cc e in
    front_whole x bytes n buffer p (subst (λ (z : Bytes). Took z (length bytes) n buffer) same q) h z

pub long_if : (o : Option Bytes) (bytes : Bytes) (bound : ℕ) → IfSome o (λ file. IsFront file bytes) → bound < length bytes → IfSome o (λ file. bound < length file)
long_if None bytes bound p h = tt
long_if (Some x) bytes bound p h = let w : length bytes ≤ length x = p.within in omega arith

pub wrote_front : {a b c : Sunk} (at : ℕ) (text : Bytes) → Appends a b (take at text) → c.told ≡ b.told → Rose b.faults c.faults → b.faults ≤ c.faults → Wrote a c text false
wrote_front {a} {b} {c} at text p e rose up =
    let q : Appends b c [] = record { told = e ∙ appended_none b.told; faults = up } in
    let m : a.faults ≤ b.faults = p.faults in
    ((take at text, take_prefix at text, subst (λ (x : Bytes). Appends a c x) (append-nil (take at text)) (appends_more p q)), omega arith)

pub take_more_within : (xs : Bytes) (at n : ℕ) → take at xs ++ take n (take (length xs - at) (drop at xs)) ≡ take (at + n) xs
take_more_within xs at n =
    let l : length (drop at xs) ≡ length xs - at = grind (arith, common_steps) in
    let e : take (length xs - at) (drop at xs) ≡ drop at xs = grind (arith, common_steps) in
    rw e (take_more xs at n)

pub taken_front : (n : ℕ) (xs ys : Bytes) → n ≤ length xs → take n (xs ++ ys) ≡ take n xs
taken_front n xs ys h = rw take-append-le refl

pub grown : {b : Bool} {new x : Bytes} (y : Bytes) → b ≡ true → new ≡ (if b then x else y) → new ≡ x
grown {b} {new} {x} y e h = rw e at h

pub grown_by : {b : Bool} {new x : ℕ} (y : ℕ) → b ≡ true → new ≡ (if b then x else y) → new ≡ x
grown_by {b} {new} {x} y e h = rw e at h

-- one text after another
pub wrote_then : (a b c : Sunk) (x y : Bytes) (ok : Bool) → Wrote a b x true → Wrote b c y ok → Wrote a c (x ++ y) ok
wrote_then a b c x y true p q = appends_more p q
wrote_then a b c x y false p q =
    let up : a.faults ≤ b.faults = p.faults in
    let rose = q.1 in
    let part = q.0 in
    ((x ++ part.0, (part.1.0, ap (λ (z : Bytes). x ++ z) part.1.1 ∙ sym (append_assoc x part.0 part.1.0)), appends_more p part.2), omega arith)

-- a text that was cut, before another one
pub wrote_part : (a b : Sunk) (x y : Bytes) → Wrote a b x false → Wrote a b (x ++ y) false
wrote_part a b x y p =
    let part = p.0 in
    ((part.0, (part.1.0 ++ y, ap (λ (z : Bytes). z ++ y) part.1.1 ∙ append_assoc part.0 part.1.0 y), part.2), p.1)
