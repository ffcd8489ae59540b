-- The lines at the head of a processor are read as its operator, the pairs and the buffers that are declared there.
use Rattle.std.proofs.Common.{
  ◌≡◌,
  ℕ,
  suc,
  ◌+◌,
  ◌-◌,
  ◌≤◌,
  ◌<◌,
  Bool,
  ◌&&◌,
  true,
  false,
  cond,
  nat_le,
  nat_eq,
  if◌then◌else◌,
  List,
  [],
  ◌∷◌,
  ◌++◌,
  length,
  map,
  refl,
  sym,
  ap,
  arith,
  ◌∙◌,
  subst,
  Option,
  Some,
  None,
  Result,
  Ok,
  ◌⊎◌,
  inl,
  inr,
  append_assoc,
  append-nil,
}
use Rattle.std.specs.Prelude.{slice_get}
use Rattle.std.specs.List.{list_all}
use Rattle.std.specs.Fmt.{decimal}
use Rattle.std.proofs.lemmas.Bool.{and_parts, and_from, lt-ltb, le-leb, eqb-true, cases_eq, cases_lt, leb-true}
use Rattle.std.proofs.lemmas.Option.{slice_get-get_or}
use Rattle.std.proofs.lemmas.List.{length_push, get_or_push, map-append}
use Rattle.syn_base.specs.Name.{is_name}
use Rattle.sequence_build_laws.specs.Graph.{Graph}
use Rattle.sequence_build_laws.specs.Archi.{Architecture, ascends_from}
use Rattle.sequence_build_laws.specs.declared.Buffer.{Buffer}
use Rattle.macro_code.specs.declared.macros.Macro.TheVariants as macros
use Rattle.macro_code.specs.Text.{line, pairs_on, buffer_name, places_of, alloc_line, alloc_lines, operator_name}
use Rattle.macro_code.specs.Refusals.{CodeRefusal}
use Rattle.macro_code.specs.declared.fault.CodeCause.TheVariants.{BadArgument}
use Rattle.macro_code.specs.declared.numbered.Numbered.{Numbered}
use Rattle.macro_code.specs.declared.numbered.Size.{Size}
use Rattle.macro_code.specs.declared.stage.Stage.TheVariants.{Outside, Named, Declared}
use Rattle.syn_base.specs.Bytes.{Bytes}
use Rattle.macro_code.specs.Forms.{Declaration, declaration_in, declared_by, buffer_in, number_in, at_least, from_to}
use Rattle.macro_code.specs.ReadText.{Reading, argument, known, name_of, place_in, follows, last_of, numbered, with_pairs, with_buffer, at_processor, ascending, operation_names}
use Rattle.text_lines.specs.Refusals.{and_then, refused}
use Rattle.code_laws.proofs.Arguments.{is_small, number_back, number_argument, buffer_back, buffer_argument, each_back, each_argument, name_argument}
use Rattle.code_laws.proofs.Forms.{is_argument}
use Rattle.code_laws.proofs.Named.{names, AreNamed}
use Rattle.code_laws.proofs.Numbering.{numbers}
use Rattle.code_laws.proofs.ReadLines as lines
use Rattle.code_laws.proofs.Instructions.{Read, stands, one_argument}

-- one argument that is a name
pub name_back : {A : Type 0} (n : ℕ) (w : Bytes) (go : Bytes → Result A CodeRefusal) → is_name w ≡ true → and_then (name_of n (Some (w ∷ []))) go ≡ go w
name_back n w go h = ap (λ (b : Bool). and_then (argument n (if b then Some w else None)) go) h

declared_steps : (b l d : ℕ) (o p q : Option ℕ) → o ≡ Some b → p ≡ Some l → q ≡ Some d → declared_by o p q ≡ Some (record { number = b; len = l; depth = d })
declared_steps b l d o p q e f g = rw (e, f, g) refl

-- a buffer that can be declared: it has an element, numbers of 64 bits hold its length, and it has 1 to 4 places
abbrev pub is_declarable : Buffer → Bool
is_declarable x = nat_le 1 x.len && is_small x.len && nat_le 1 x.depth && nat_le x.depth 4

pub record Declarable (x : Buffer) : Type 0 where
  pub some : nat_le 1 x.len ≡ true
  pub small : is_small x.len ≡ true
  pub least : 1 ≤ x.depth
  pub most : x.depth ≤ 4

pub declarable : (x : Buffer) → is_declarable x ≡ true → Declarable x
declarable x h =
    let a = and_parts (nat_le 1 x.len && is_small x.len && nat_le 1 x.depth) (nat_le x.depth 4) h in
    let b = and_parts (nat_le 1 x.len && is_small x.len) (nat_le 1 x.depth) a.0 in
    let c = and_parts (nat_le 1 x.len) (is_small x.len) b.0 in
    record { some = c.0; small = c.1; least = leb-true 1 x.depth b.1; most = leb-true x.depth 4 a.1 }

length_back : (len : ℕ) → nat_le 1 len ≡ true → is_small len ≡ true → at_least 1 (number_in (decimal len)) ≡ Some len
length_back len some small = ap (at_least 1) (number_back len small) ∙ ap (λ (b : Bool). if b then Some len else None) some

record Places (depth : ℕ) (b l : Bytes) (number len : ℕ) : Type 0 where
  pub back : declaration_in (b ∷ l ∷ places_of depth) ≡ Some (record { number = number; len = len; depth = depth })
  pub arguments : list_all is_argument (b ∷ l ∷ places_of depth) ≡ true

small_depth : (depth : ℕ) → depth ≤ 4 → is_small depth ≡ true
small_depth depth h = lt-ltb depth 9223372036854775808 (omega (arith, h))

places : (x : Buffer) (number : ℕ) → Declarable x → is_small number ≡ true → Places x.depth (buffer_name number) (decimal x.len) number x.len
places x number is s = by (cases_eq 1 x.depth)
  where
    b : Bytes
    b = buffer_name number

    l : Bytes
    l = decimal x.len

    both : list_all is_argument (buffer_name number ∷ decimal x.len ∷ []) ≡ true
    both = and_from (is_argument (buffer_name number)) _ (buffer_argument number s) (one_argument (decimal x.len) (number_argument x.len is.small))

    by : (1 ≡ x.depth) ⊎ (1 ≡ x.depth → ⊥) → Places x.depth (buffer_name number) (decimal x.len) number x.len
    by (inl e) = subst (λ (d : ℕ). Places d (buffer_name number) (decimal x.len) number x.len) e (record {
      back = declared_steps number x.len 1 (buffer_in (buffer_name number)) (at_least 1 (number_in (decimal x.len))) (Some 1) (buffer_back number s) (length_back x.len is.some is.small) refl;
      arguments = both;
    })
    by (inr other) =
        let low = is.least in
        let high = is.most in
        let several : places_of x.depth ≡ decimal x.depth ∷ [] = ap (λ (t : Bool). cond t (decimal x.depth ∷ []) []) (lt-ltb 1 x.depth (more low other)) in
        let within : from_to 2 4 (number_in (decimal x.depth)) ≡ Some x.depth =
        ap (from_to 2 4) (number_back x.depth (small_depth x.depth high))
        ∙ ap (λ (t : Bool). if t then Some x.depth else None) (and_from (nat_le 2 x.depth) (nat_le x.depth 4) (le-leb 2 x.depth (more low other)) (le-leb x.depth 4 high)) in
        record {
          back = ap (λ (ws : List Bytes). declaration_in (buffer_name number ∷ decimal x.len ∷ ws)) several
              ∙ declared_steps number x.len x.depth (buffer_in (buffer_name number)) (at_least 1 (number_in (decimal x.len)))
              (from_to 2 4 (number_in (decimal x.depth))) (buffer_back number s) (length_back x.len is.some is.small) within;
          arguments = ap (λ (ws : List Bytes). list_all is_argument (buffer_name number ∷ decimal x.len ∷ ws)) several
              ∙ and_from (is_argument (buffer_name number)) _ (buffer_argument number s)
              (and_from (is_argument (decimal x.len)) _ (number_argument x.len is.small) (one_argument (decimal x.depth) (number_argument x.depth (small_depth x.depth high))));
        }
      where
        more : 1 ≤ x.depth → (1 ≡ x.depth → ⊥) → 1 < x.depth
        more low other = elim (cases_lt 1 x.depth) [ inl l ↦ l | inr l ↦ absurd (other (omega (arith, low, l))) ]

-- the next number is above the last one
pub above_last : (here : List ℕ) (b : ℕ) → last_of (here ++ b ∷ []) ≡ Some b
above_last here b =
    let more = length_push here b in
    slice_get-get_or (here ++ b ∷ []) (length (here ++ b ∷ []) - 1) 0 (omega (arith, more))
    ∙ ap (λ (k : ℕ). Some k) (get_or_push here b 0 (length (here ++ b ∷ []) - 1) (omega (arith, more)))

pub record Above (here : List ℕ) (b : ℕ) : Type 0 where
  pub follow : (k : ℕ) → b ≤ k → follows (last_of here) k ≡ true

pub above_none : (b : ℕ) → Above [] b
above_none b = record { follow = λ k l. refl }

pub above_next : (here : List ℕ) (b : ℕ) → Above (here ++ b ∷ []) (suc b)
above_next here b = record { follow = λ k l. ap (λ (o : Option ℕ). follows o k) (above_last here b) ∙ lt-ltb b k (omega (arith, l)) }

pub above_later : (here : List ℕ) (b : ℕ) → Above here b → Above here (suc b)
above_later here b h = record { follow = λ k l. h.follow k (omega (arith, l)) }

-- The size of a buffer, as its line says it.
abbrev pub size_of : Buffer → Size
size_of x = record { operator = x.operator; len = x.len; depth = x.depth }

module _ (g : Graph) (a : Architecture) (known_names : AreNamed g a) where
  -- the name of a processor
  pub processor_reads : (r : Reading) (n o : ℕ) → o < length a.operators → follows r.operator o ≡ true
      → Read g a known_names (record r { stage = Outside }) n (line macros.Processor (operator_name (names g a) o ∷ [])) (at_processor a r o)
  processor_reads r n o l f =
      let it = known_names.operator o l in
      let w = operator_name (names g a) o in
      let at = record r { stage = Outside } in
      lines.macro_reads (operation_names g) a at (at_processor a r o) n macros.Processor (w ∷ []) (one_argument w (name_argument w it.passes))
      (stands g a known_names at n (Some (w ∷ [])) macros.Processor (at_processor a r o) refl
      (ap (λ (x : Result ℕ CodeRefusal). and_then x (λ (p : ℕ). Ok (at_processor a at p)))
      (name_back n w (λ (v : Bytes). and_then (known n v (place_in a.operators v)) (λ (p : ℕ). if follows r.operator p then Ok p else refused n BadArgument)) it.passes
      ∙ ap (λ (p : Option ℕ). and_then (known n w p) (λ (q : ℕ). if follows r.operator q then Ok q else refused n BadArgument)) it.place
      ∙ ap (λ (b : Bool). if b then Ok o else refused n BadArgument) f)))

  -- the pairs of an operator
  pub semaphores_read : (r : Reading) (n : ℕ) (qs : List ℕ) → list_all is_small qs ≡ true → ascends_from 0 qs ≡ true
      → Read g a known_names (record r { stage = Named }) n (line macros.Semaphores (map decimal qs)) (with_pairs r n qs)
  semaphores_read r n qs small rising =
      let at = record r { stage = Named } in
      let ws = map decimal qs in
      lines.macro_reads (operation_names g) a at (with_pairs r n qs) n macros.Semaphores ws (each_argument decimal number_argument qs small)
      (stands g a known_names at n (Some ws) macros.Semaphores (with_pairs r n qs) refl
      (ap (λ (x : Result (List ℕ) CodeRefusal). and_then x (λ (ps : List ℕ). Ok (with_pairs at n ps)))
      (ap (λ (o : Option (List ℕ)). and_then (argument n o) (λ (ps : List ℕ). ascending n ps)) (each_back number_in decimal number_back qs small)
      ∙ ap (λ (b : Bool). if b then Ok qs else refused n BadArgument) rising)))

  -- the head of a processor, with these buffers, their sizes and their numbers
  abbrev pub declaring : Reading → ℕ → List Numbered → List Size → List ℕ → Reading
  declaring r o ds ss here = record r { stage = Declared; operator = Some o; buffers = ds; sizes = ss; buffers_here = here }

  one_reads : (r : Reading) (n o b : ℕ) (ds : List Numbered) (ss : List Size) (here : List ℕ) (x : Buffer) → is_declarable x ≡ true → is_small b ≡ true → Above here b
      → Read g a known_names (declaring r o ds ss here) n (alloc_line b x) (declaring r o (ds ++ numbered n b ∷ []) (ss ++ record { operator = o; len = x.len; depth = x.depth } ∷ []) (here ++ b ∷ []))
  one_reads r n o b ds ss here x good s above =
      let it = places x b (declarable x good) s in
      let at = declaring r o ds ss here in
      let to = declaring r o (ds ++ numbered n b ∷ []) (ss ++ record { operator = o; len = x.len; depth = x.depth } ∷ []) (here ++ b ∷ []) in
      let ws = buffer_name b ∷ decimal x.len ∷ places_of x.depth in
      lines.macro_reads (operation_names g) a at to n macros.Alloc ws it.arguments
      (stands g a known_names at n (Some ws) macros.Alloc to refl
      (ap (λ (y : Result Declaration CodeRefusal). and_then y (λ (d : Declaration). Ok (with_buffer at n d)))
      (ap (λ (o : Option Declaration). and_then (argument n o) (λ (d : Declaration). if follows (last_of here) d.number then Ok d else refused n BadArgument)) it.back
      ∙ ap (λ (t : Bool). if t then Ok (record { number = b; len = x.len; depth = x.depth }) else refused n BadArgument) (above.follow b (omega arith)))))

  -- the buffers of an operator: which lines declare them, and what they say
  pub record Allocated (r : Reading) (n o b : ℕ) (ds : List Numbered) (f : ℕ → Size) (here : List ℕ) (xs : List Buffer) : Type 0 where
    pub more : List Numbered
    pub are : numbers more ≡ pairs_on o b (map (λ (x : Buffer). x.operator) xs)
    pub read : Read g a known_names (declaring r o ds (map f (numbers ds)) here) n (alloc_lines o b xs)
        (declaring r o (ds ++ more) (map f (numbers (ds ++ more))) (here ++ pairs_on o b (map (λ (x : Buffer). x.operator) xs)))

  pub allocs_read : (xs : List Buffer) (r : Reading) (n o b : ℕ) (ds : List Numbered) (f : ℕ → Size) (here : List ℕ)
      → list_all is_declarable xs ≡ true → b + length xs ≤ 9223372036854775808 → Above here b
      → ((i : ℕ) (x : Buffer) → slice_get xs i ≡ Some x → f (b + i) ≡ size_of x) → Allocated r n o b ds f here xs
  allocs_read [] r n o b ds f here good few above sizes = record {
    more = [];
    are = refl;
    read = subst (λ (es : List Numbered). Read g a known_names (declaring r o ds (map f (numbers ds)) here) n [] (declaring r o es (map f (numbers es)) (here ++ []))) (sym (append-nil ds))
        (subst (λ (hs : List ℕ). Read g a known_names (declaring r o ds (map f (numbers ds)) here) n []
        (declaring r o ds (map f (numbers ds)) hs)) (sym (append-nil here))
        (lines.nothing (operation_names g) a (declaring r o ds (map f (numbers ds)) here) n));
  }
  allocs_read (x ∷ xs) r n o b ds f here good few above sizes =
      by (nat_eq x.operator o) refl (λ k ds here good above sizes. allocs_read xs r k o (suc b) ds f here good (omega (arith, few)) above sizes)
    where
      ops : List ℕ
      ops = map (λ (y : Buffer). y.operator) xs

      parts : (is_declarable x ≡ true) × (list_all is_declarable xs ≡ true)
      parts = and_parts (is_declarable x) (list_all is_declarable xs) good

      later : (i : ℕ) (y : Buffer) → slice_get xs i ≡ Some y → f (suc b + i) ≡ size_of y
      later i y e = ap f (let k : suc b + i ≡ b + suc i = omega arith in k) ∙ sizes (suc i) y e

      by : (t : Bool) → nat_eq x.operator o ≡ t
          → ((k : ℕ) (ds : List Numbered) (here : List ℕ) → list_all is_declarable xs ≡ true → Above here (suc b)
          → ((i : ℕ) (y : Buffer) → slice_get xs i ≡ Some y → f (suc b + i) ≡ size_of y) → Allocated r k o (suc b) ds f here xs)
          → Allocated r n o b ds f here (x ∷ xs)
      by false e again =
          let rest = again n ds here parts.1 (above_later here b above) later in
          record {
            more = rest.more;
            are = rest.are ∙ ap (λ (t : Bool). cond t (b ∷ []) [] ++ pairs_on o (suc b) (map (λ (y : Buffer). y.operator) xs)) (sym e);
            read = subst (λ (t : Bool). Read g a known_names (declaring r o ds (map f (numbers ds)) here) n (cond t (alloc_line b x) [] ++ alloc_lines o (suc b) xs)
                (declaring r o (ds ++ rest.more) (map f (numbers (ds ++ rest.more))) (here ++ (cond t (b ∷ []) [] ++ pairs_on o (suc b) (map (λ (y : Buffer). y.operator) xs))))) (sym e) rest.read;
          }
      by true e again =
          let seen = ds ++ numbered n b ∷ [] in
          let own : record { operator = o; len = x.len; depth = x.depth } ≡ f b =
          ap (λ (k : ℕ). record { operator = k; len = x.len; depth = x.depth }) (sym (eqb-true x.operator o e)) ∙ sym (sizes 0 x refl) ∙ ap f (let k : b + 0 ≡ b = omega arith in k) in
          let said : map f (numbers ds) ++ record { operator = o; len = x.len; depth = x.depth } ∷ [] ≡ map f (numbers seen) =
          ap (λ (s : Size). map f (numbers ds) ++ s ∷ []) own
          ∙ sym (ap (map f) (map-append (λ (d : Numbered). d.number) ds (numbered n b ∷ [])) ∙ map-append f (numbers ds) (b ∷ [])) in
          let first = subst (λ (ss : List Size). Read g a known_names (declaring r o ds (map f (numbers ds)) here) n (alloc_line b x) (declaring r o seen ss (here ++ b ∷ []))) said
          (one_reads r n o b ds (map f (numbers ds)) here x parts.0 (lt-ltb b 9223372036854775808 (omega (arith, few))) above) in
          let rest = again first.k seen (here ++ b ∷ []) parts.1 (above_next here b) later in
          let joined : seen ++ rest.more ≡ ds ++ numbered n b ∷ rest.more = append_assoc ds (numbered n b ∷ []) rest.more in
          let both = lines.both (operation_names g) a (declaring r o ds (map f (numbers ds)) here) (declaring r o seen (map f (numbers seen)) (here ++ b ∷ []))
          (declaring r o (seen ++ rest.more) (map f (numbers (seen ++ rest.more))) ((here ++ b ∷ []) ++ pairs_on o (suc b) (map (λ (y : Buffer). y.operator) xs)))
          n (alloc_line b x) (alloc_lines o (suc b) xs) first rest.read in
          record {
            more = numbered n b ∷ rest.more;
            are = ap (λ (ks : List ℕ). b ∷ ks) rest.are ∙ ap (λ (t : Bool). cond t (b ∷ []) [] ++ pairs_on o (suc b) (map (λ (y : Buffer). y.operator) xs)) (sym e);
            read = subst (λ (t : Bool). Read g a known_names (declaring r o ds (map f (numbers ds)) here) n (cond t (alloc_line b x) [] ++ alloc_lines o (suc b) xs)
                (declaring r o (ds ++ numbered n b ∷ rest.more) (map f (numbers (ds ++ numbered n b ∷ rest.more)))
                (here ++ (cond t (b ∷ []) [] ++ pairs_on o (suc b) (map (λ (y : Buffer). y.operator) xs))))) (sym e)
                (subst (λ (es : List Numbered). Read g a known_names (declaring r o ds (map f (numbers ds)) here) n (alloc_line b x ++ alloc_lines o (suc b) xs)
                (declaring r o es (map f (numbers es)) (here ++ b ∷ pairs_on o (suc b) (map (λ (y : Buffer). y.operator) xs)))) joined
                (subst (λ (hs : List ℕ). Read g a known_names (declaring r o ds (map f (numbers ds)) here) n (alloc_line b x ++ alloc_lines o (suc b) xs)
                (declaring r o (seen ++ rest.more) (map f (numbers (seen ++ rest.more))) hs)) (append_assoc here (b ∷ []) (pairs_on o (suc b) (map (λ (y : Buffer). y.operator) xs))) both));
          }
