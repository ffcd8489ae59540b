-- A line of a port: its port, and what follows.
use Rattle.std.proofs.Common.{◌≡◌, ℕ, ◌+◌, Bool, not, ◌||◌, ◌==◌, true, false, cond, Option, Some, None, List, [], ◌∷◌, ◌++◌, length, map, Result, Ok, Err, refl, ap, sym, ◌∙◌, subst, arith}
use Rattle.std.specs.Prelude.{if◌then◌else◌}
use Rattle.syn_base.specs.Name.{is_name}
use Rattle.syn_base.specs.Limits.{bound_of}
use Rattle.syn_base.specs.declared.limits.LimitKind.TheVariants.{PortLength, Ports}
use Rattle.algo_text.specs.declared.Port.{Port}
use Rattle.algo_text.specs.Expr.{Expr}
use Rattle.algo_text.specs.declared.fault.AlgoCause.TheVariants.{BadLine, BadName, BadNumber, DuplicateName}
use Rattle.syn_base.specs.Bytes.{Bytes}
use Rattle.algo_text.specs.Words.{count_of}
use Rattle.algo_text.specs.Formulas.{formula_of}
use Rattle.algo_text.specs.declared.part.Part.TheVariants.{Inputs, Outputs}
use Rattle.algo_text.specs.Parts.{admits}
use Rattle.algo_text.specs.Blocks.{Block, port_line, is_taken, in_line, with_in, out_line, with_out, result_words, with_result}
use Rattle.text_lines.specs.Refusals.{is_above, with_some, and_then, Limit, refused, Fails, IsStop, refusal}
use Rattle.algo_lines.specs.Lines.{port_of}
use Rattle.text_lines.proofs.Refusals.{fails_through, stopped}
use Rattle.text_lines.specs.Text.{word}
use Rattle.algo_text.specs.Refusals.{AlgoError, AlgoRefusal}

length_shape : (long : Bool) (e : AlgoRefusal) (p : Port) (go : Port → Result Block AlgoRefusal)
    → cond long (Err e) (go p) ≡ and_then (cond long (Err e) (Ok p)) go
length_shape true e p go = refl
length_shape false e p go = refl

shape : (b : Bool) (o : Option ℕ) (many : Bool) (long : ℕ → Bool) (e1 e2 e3 : AlgoRefusal) (e4 : ℕ → AlgoRefusal) (mk : ℕ → Port) (go : Port → Result Block AlgoRefusal)
    → cond b (with_some o (Err e2) (λ len. cond many (Err e3) (cond (long len) (Err (e4 len)) (go (mk len))))) (Err e1)
    ≡ and_then (cond b (with_some o (Err e2) (λ len. cond many (Err e3) (cond (long len) (Err (e4 len)) (Ok (mk len))))) (Err e1)) go
shape false o many long e1 e2 e3 e4 mk go = refl
shape true None many long e1 e2 e3 e4 mk go = refl
shape true (Some len) true long e1 e2 e3 e4 mk go = refl
shape true (Some len) false long e1 e2 e3 e4 mk go = length_shape (long len) (e4 len) (mk len) go

pub port_is : (n before : ℕ) (ws : List Bytes) (go : Port → Result Block AlgoRefusal) → port_line n before ws go ≡ and_then (port_of n before ws) go
unfolding port_of
port_is n before ws go = shape (is_name (word ws 1)) (count_of (word ws 2)) (is_above Ports (before + 1)) (λ len. is_above PortLength len)
    (refusal n (BadName (word ws 1))) (refusal n (BadNumber (word ws 2))) (Limit (record { which = Ports; count = before + 1; bound = bound_of Ports }))
    (λ len. Limit (record { which = PortLength; count = len; bound = bound_of PortLength })) (λ len. record { name = word ws 1; len = len }) go

pub equal_test : (m n : ℕ) → m ≡ n → (m == n) ≡ true
equal_test m n h = grind arith

-- What follows a port, where the line has its form: its refusal, a name that is taken, or the block with it.
pub record Follows (whole : Result Block AlgoRefusal) (port : Result Port AlgoRefusal) (go : Port → Result Block AlgoRefusal) : Type 0 where
  pub is : whole ≡ and_then port go

pub fails : {whole : Result Block AlgoRefusal} {port : Result Port AlgoRefusal} {go : Port → Result Block AlgoRefusal} → Follows whole port go → (e : AlgoError) → Fails e port → Fails e whole
fails {whole} {port} {go} f e h = subst (λ (r : Result Block AlgoRefusal). Fails e r) (sym f.is) (fails_through e port go h)

pub goes : {whole : Result Block AlgoRefusal} {port : Result Port AlgoRefusal} {go : Port → Result Block AlgoRefusal} → Follows whole port go → (p : Port) → port ≡ Ok p → whole ≡ go p
goes {whole} {port} {go} f p h = f.is ∙ ap (λ r. and_then r go) h

taken_shape : {A : Type 0} (t : Bool) (x y : A) → t ≡ true → cond t x y ≡ x
taken_shape true x y h = refl
taken_shape false x y h = cc

free_shape : {A : Type 0} (t : Bool) (x y : A) → t ≡ false → cond t x y ≡ y
free_shape false x y h = refl
free_shape true x y h = cc

in_shape : {A : Type 0} (a b : Bool) (x y : A) → a ≡ true → b ≡ true → (if not a || not b then x else y) ≡ y
in_shape true true x y h g = refl
in_shape false b x y h g = cc
in_shape true false x y h g = cc

pub in_follows : (b : Block) (n : ℕ) (ws : List Bytes) (k : ℕ) → length ws ≡ 3 → admits b.part Inputs ≡ true → k ≡ length b.ins → Follows (in_line b n ws) (port_of n k ws) (with_in b n)
in_follows b n ws k three at count = record {
  is = in_shape (length ws == 3) (admits b.part Inputs) (refused n BadLine) (port_line n (length b.ins) ws (with_in b n)) (equal_test (length ws) 3 three) at
      ∙ port_is n (length b.ins) ws (with_in b n) ∙ ap (λ j. and_then (port_of n j ws) (with_in b n)) (sym count);
}

pub in_taken : (b : Block) (n : ℕ) (p : Port) → is_taken b p.name ≡ true → with_in b n p ≡ Err (refusal n (DuplicateName p.name))
in_taken b n p h = taken_shape (is_taken b p.name) _ _ h

pub in_free : (b : Block) (n : ℕ) (p : Port) → is_taken b p.name ≡ false → with_in b n p ≡ Ok (record b { ins = b.ins ++ p ∷ [] })
in_free b n p h = free_shape (is_taken b p.name) _ _ h

pub out_follows : (b : Block) (n : ℕ) (ws : List Bytes) (k : ℕ) → length ws ≡ 3 → admits b.part Outputs ≡ true → k ≡ length b.outs → Follows (out_line b n ws) (port_of n k ws) (with_out b n)
out_follows b n ws k three at count = record {
  is = in_shape (length ws == 3) (admits b.part Outputs) (refused n BadLine) (port_line n (length b.outs) ws (with_out b n)) (equal_test (length ws) 3 three) at
      ∙ port_is n (length b.outs) ws (with_out b n) ∙ ap (λ j. and_then (port_of n j ws) (with_out b n)) (sym count);
}

pub out_taken : (b : Block) (n : ℕ) (p : Port) → is_taken b p.name ≡ true → with_out b n p ≡ Err (refusal n (DuplicateName p.name))
out_taken b n p h = taken_shape (is_taken b p.name) _ _ h

pub out_free : (b : Block) (n : ℕ) (p : Port) → is_taken b p.name ≡ false → with_out b n p ≡ Ok (record b { part = Outputs; outs = b.outs ++ p ∷ [] })
out_free b n p h = free_shape (is_taken b p.name) _ _ h

-- after the port of an output of a function
abbrev pub expression_then : Block → ℕ → Bytes → Port → Result Block AlgoRefusal
expression_then b n text p = and_then (formula_of n (map (λ i. i.name) b.ins) text) (with_result b n p)

pub result_follows : (b : Block) (n : ℕ) (ws : List Bytes) (text : Bytes) (k : ℕ) → length ws ≡ 3 → admits b.part Outputs ≡ true → k
    ≡ length b.results → Follows (result_words b n ws text) (port_of n k ws) (expression_then b n text)
result_follows b n ws text k three at count = record {
  is = in_shape (length ws == 3) (admits b.part Outputs) (refused n BadLine) (port_line n (length b.results) ws (expression_then b n text)) (equal_test (length ws) 3 three) at
      ∙ port_is n (length b.results) ws (expression_then b n text) ∙ ap (λ j. and_then (port_of n j ws) (expression_then b n text)) (sym count);
}

pub result_taken : (b : Block) (n : ℕ) (p : Port) (e : Expr) → is_taken b p.name ≡ true → with_result b n p e ≡ Err (refusal n (DuplicateName p.name))
result_taken b n p e h = taken_shape (is_taken b p.name) _ _ h

pub result_free : (b : Block) (n : ℕ) (p : Port) (e : Expr) → is_taken b p.name ≡ false → with_result b n p e
    ≡ Ok (record b { part = Outputs; results = b.results ++ record { port = p; formula = e } ∷ [] })
result_free b n p e h = free_shape (is_taken b p.name) _ _ h

pub taken_stops : {A : Type 0} (e : AlgoError) (n : ℕ) (w name : Bytes) (whole : Result A AlgoRefusal) → IsStop e (refusal n (DuplicateName w))
    → w ≡ name → whole ≡ Err (refusal n (DuplicateName name)) → Fails e whole
taken_stops {A} e n w name whole is same h = stopped e (refusal n (DuplicateName w)) whole is (h ∙ ap (λ (x : Bytes). Err (refusal n (DuplicateName x))) (sym same))

-- the expression is read over the names of the inputs
pub formula_same : (n : ℕ) (names inner : List Bytes) (text : Bytes) (r : Result Expr AlgoRefusal) → names ≡ inner → formula_of n names text ≡ r → formula_of n inner text ≡ r
formula_same n names inner text r same h = subst (λ (x : List Bytes). formula_of n x text ≡ r) same h

pub formula_fails : (n : ℕ) (text : Bytes) (go : Expr → Result Block AlgoRefusal) (e : AlgoError) (names inner : List Bytes)
    (whole : Result Block AlgoRefusal) → whole ≡ and_then (formula_of n inner text) go → names ≡ inner → Fails e (formula_of n names text) → Fails e whole
formula_fails n text go e names inner whole is same h =
    subst (λ (r : Result Block AlgoRefusal). Fails e r) (sym is) (fails_through e (formula_of n inner text) go (subst (λ (x : List Bytes). Fails e (formula_of n x text)) same h))
