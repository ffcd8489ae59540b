-- Marks of who reads and writes each buffer, as they are put act by act.
use Rattle.std.proofs.Common.{
  ◌≡◌,
  ℕ,
  ◌+◌,
  ◌*◌,
  ◌/◌,
  ◌%◌,
  ◌<◌,
  ◌≤◌,
  ◌⊎◌,
  Bool,
  true,
  false,
  ◌&&◌,
  ◌||◌,
  not,
  cond,
  nat_eq,
  get_or,
  List,
  [],
  ◌∷◌,
  ◌++◌,
  length,
  map,
  drop,
  Some,
  None,
  refl,
  sym,
  ap,
  subst,
  inl,
  inr,
  arith,
  ◌∙◌,
  eq-eqb,
}
use Rattle.std.specs.Prelude.{nat_lt, slice_set, replicate}
use Rattle.std.specs.List.{list_any}
use Rattle.std.specs.Cmp.Derive.{both_true}
use Rattle.std.proofs.lemmas.Bool.{and_parts, eqb-true, ltb-true, cases_Bool, cases_lt, lt-ltb}
use Rattle.std.proofs.lemmas.List.{drop_all, drop_more, get_or-replicate, length-replicate, length-set}
use Rattle.std.proofs.lemmas.List.Folds.{list_any-append}
use Rattle.std.proofs.lemmas.Nat.{mul-add-lt, div-mul-add, mod-mul-add}
use Rattle.std.proofs.Math.Nat.{mul_comm}
use Rattle.sequence_build_laws.specs.declared.Instr.{Instr}
use Rattle.sequence_build_laws.specs.declared.Instr.TheVariants.{Sync}
use Rattle.sequence_build_laws.specs.Instructions.{reads, writes}
use Rattle.sequence_build_laws.proofs.Marks.{put_at}
use Rattle.sequence_build_laws.specs.Owners.{sum_below}
use Rattle.sequence_build_laws.proofs.InterleavingSums.{same_below}
use Rattle.sequence_build_laws.specs.declared.Decision.{Decision}
use Rattle.sequence_build_laws.specs.declared.Transfer.{Transfer}
use Rattle.sequence_build_laws.specs.Acts.{carry, run, copy, read_by, made_by}
use Rattle.sequence_build_laws.proofs.Copies.{same_bool}
use Rattle.sequence_build_laws.specs.Serial.{Step, step, numbers_where, is_other}
use Rattle.sequence_build.specs.declared.site.Site.{Site}
use Rattle.sequence_build.specs.declared.touched.Touched.{Touched}
use Rattle.sequence_build.specs.Touched.{reads_in, writes_in, mark_at, put_in, readers_of, waits, Counts, IsNoted, Puts, Notes}
use Rattle.sequence_build.specs.Plain.{numbering, sequence_of, steps_at}

-- The marks that were put come, with those that are left, to the whole.
pub record PutsUp (width : ℕ) (old new : List Bool) (left whole : ℕ → ℕ → Bool) : Type 0 where
  pub many : length new ≡ length old
  pub marks : (b s : ℕ) → s < width → b * width + s < length old →
      (left b s || mark_at width new b s) ≡ (whole b s || mark_at width old b s)

-- What was noted comes, with what is left, to the whole.
pub record NotesUp (old new : Touched) (left whole : List Step) : Type 0 where
  pub width : new.width ≡ old.width
  pub reads : PutsUp old.width old.reads.items new.reads.items (reads_in left) (reads_in whole)
  pub writes : PutsUp old.width old.writes.items new.writes.items (writes_in left) (writes_in whole)

-- tests in another order
swap_or : (x y z : Bool) → (x || (y || z)) ≡ ((y || x) || z)
swap_or true true z = refl
swap_or true false z = refl
swap_or false true z = refl
swap_or false false z = refl

or_false : (x : Bool) → (x || false) ≡ x
or_false true = refl
or_false false = refl

and_false : (x : Bool) → (x && false) ≡ false
and_false true = refl
and_false false = refl

cond_or : (t m : Bool) → cond t true m ≡ (t || m)
cond_or true m = refl
cond_or false m = refl

module _ {width : ℕ} where
  pub puts_same : {old new : List Bool} {f h : ℕ → ℕ → Bool} → ((b s : ℕ) → f b s ≡ h b s) → Puts width old new f → Puts width old new h
  puts_same {old} e p = record { many = p.many; marks = λ b s l k. p.marks b s l k ∙ ap (λ (t : Bool). t || mark_at width old b s) (e b s) }

  pub puts_twice : {old mid new : List Bool} {f h : ℕ → ℕ → Bool} → Puts width old mid f → Puts width mid new h → Puts width old new (λ b s. f b s || h b s)
  puts_twice {old} {mid} {new} {f} {h} first second = record {
    many = second.many ∙ first.many;
    marks = λ b s l k.
        second.marks b s l (subst (λ (n : ℕ). b * width + s < n) (sym first.many) k)
        ∙ ap (λ (t : Bool). h b s || t) (first.marks b s l k) ∙ swap_or (h b s) (f b s) (mark_at width old b s);
  }

  pub puts_next : {old mid new : List Bool} {f h whole left : ℕ → ℕ → Bool} → ((b s : ℕ) → left b s ≡ (f b s || h b s))
      → PutsUp width old mid left whole → Puts width mid new f → PutsUp width old new h whole
  puts_next {old} {mid} {new} {f} {h} e so_far more = record {
    many = more.many ∙ so_far.many;
    marks = λ b s l k.
        ap (λ (t : Bool). h b s || t) (more.marks b s l (subst (λ (n : ℕ). b * width + s < n) (sym so_far.many) k))
        ∙ swap_or (h b s) (f b s) (mark_at width mid b s) ∙ ap (λ (t : Bool). t || mark_at width mid b s) (sym (e b s)) ∙ so_far.marks b s l k;
  }

  pub puts_all : {old new : List Bool} {left whole : ℕ → ℕ → Bool} → ((b s : ℕ) → left b s ≡ false) → PutsUp width old new left whole → Puts width old new whole
  puts_all {old} {new} e so_far = record {
    many = so_far.many;
    marks = λ b s l k. ap (λ (t : Bool). t || mark_at width new b s) (sym (e b s)) ∙ so_far.marks b s l k;
  }

  pub puts_first : (old : List Bool) (whole : ℕ → ℕ → Bool) → PutsUp width old old whole whole
  puts_first old whole = record { many = refl; marks = λ b s l k. refl }

  -- one mark
  same_spot : (b s c t : ℕ) → s < width → t < width → c * width + t ≡ b * width + s → (c ≡ b) × (t ≡ s)
  same_spot b s c t h k e = (
    sym (div-mul-add c width t k) ∙ ap (λ n. n / width) e ∙ div-mul-add b width s h,
    sym (mod-mul-add c width t k) ∙ ap (λ n. n % width) e ∙ mod-mul-add b width s h,
  )

  spot_test : (b s c t : ℕ) → s < width → t < width → nat_eq (c * width + t) (b * width + s) ≡ (nat_eq t s && nat_eq c b)
  spot_test b s c t h k = same_bool (nat_eq (c * width + t) (b * width + s)) (nat_eq t s && nat_eq c b)
      (λ e. let z = same_spot b s c t h k (eqb-true (c * width + t) (b * width + s) e) in both_true (eq-eqb t s z.1) (eq-eqb c b z.0))
      (λ e. let parts = and_parts (nat_eq t s) (nat_eq c b) e in
      let same : c * width + t ≡ b * width + s = (λ i. eqb-true c b parts.1 i * width + eqb-true t s parts.0 i) in
      eq-eqb (c * width + t) (b * width + s) same)

  pub put_is : (marks new : List Bool) (t c : ℕ) → t < width → length new ≡ length marks → new ≡ slice_set marks (c * width + t) true → Puts width marks new (λ b s. nat_eq t s && nat_eq c b)
  put_is marks new t c k many e = record {
    many = many;
    marks = λ b s h l.
        ap (λ (xs : List Bool). get_or xs (b * width + s) false) e
        ∙ put_at marks (c * width + t) (b * width + s) true l
        ∙ cond_or (nat_eq (c * width + t) (b * width + s)) (get_or marks (b * width + s) false)
        ∙ ap (λ (z : Bool). z || get_or marks (b * width + s) false) (spot_test b s c t h k);
  }

  -- no mark, where its place is not there
  pub put_not : (marks : List Bool) (t c : ℕ) → ((t < width) → (c * width + t < length marks) → ⊥) → Puts width marks marks (λ b s. nat_eq t s && nat_eq c b)
  put_not marks t c none = record {
    many = refl;
    marks = λ b s h l. ap (λ (z : Bool). z || mark_at width marks b s) (by b s h l (cases_Bool (nat_eq t s && nat_eq c b)));
  }
    where
      by : (b s : ℕ) → s < width → b * width + s < length marks → ((nat_eq t s && nat_eq c b) ≡ true) ⊎ ((nat_eq t s && nat_eq c b) ≡ false) → false ≡ (nat_eq t s && nat_eq c b)
      by b s h l (inl e) =
          let parts = and_parts (nat_eq t s) (nat_eq c b) e in
          let same = eqb-true t s parts.0 in
          let here : b * width + s ≡ c * width + t = (λ i. sym (eqb-true c b parts.1) i * width + sym same i) in
          absurd (none (subst (λ (n : ℕ). n < width) (sym same) h) (subst (λ (n : ℕ). n < length marks) here l))
      by b s h l (inr e) = sym e

  pub put_puts : (marks new : List Bool) (t c : ℕ) → new ≡ put_in width marks t c → Puts width marks new (λ b s. nat_eq t s && nat_eq c b)
  put_puts marks new t c e = elim (cases_lt t width) [
    | inl l ↦ (let is : new ≡ slice_set marks (c * width + t) true = e ∙ ap (λ (z : Bool). cond z (slice_set marks (c * width + t) true) marks) (lt-ltb t width l) in
        put_is marks new t c l (ap (λ (xs : List Bool). length xs) is ∙ length-set marks (c * width + t) true) is)
    | inr l ↦ (let is : new ≡ marks = e ∙ ap (λ (z : Bool). cond z (slice_set marks (c * width + t) true) marks) (not_lt t width l) in
        subst (λ (xs : List Bool). Puts width marks xs (λ b s. nat_eq t s && nat_eq c b)) (sym is) (put_not marks t c (λ k h. omega arith)))
  ]
    where
      not_lt : (m n : ℕ) → n ≤ m → nat_lt m n ≡ false
      not_lt m n l = elim (cases_Bool (nat_lt m n)) [ inl e ↦ (let z = ltb-true m n e in absurd (omega arith)) | inr e ↦ e ]

-- a list of buffers, one buffer more
pub one_left : (t s b k d : ℕ) (buffers : List ℕ) → k < length buffers
    → (nat_eq t s && list_any (λ c. nat_eq c b) (drop k buffers)) ≡ ((nat_eq t s && nat_eq (get_or buffers k d) b) || (nat_eq t s && list_any (λ c. nat_eq c b) (drop (k + 1) buffers)))
one_left t s b k d buffers l =
    ap (λ (xs : List ℕ). nat_eq t s && list_any (λ c. nat_eq c b) xs) (drop_more buffers k d l)
    ∙ spread (nat_eq t s) (nat_eq (get_or buffers k d) b) (list_any (λ c. nat_eq c b) (drop (k + 1) buffers))
  where
    spread : (x y z : Bool) → (x && (y || z)) ≡ ((x && y) || (x && z))
    spread true y z = refl
    spread false y z = refl

pub list_put : {width : ℕ} {old new : List Bool} {whole : ℕ → ℕ → Bool} (t k : ℕ) (buffers : List ℕ) → length buffers ≤ k
    → PutsUp width old new (λ b s. nat_eq t s && list_any (λ c. nat_eq c b) (drop k buffers)) whole → Puts width old new whole
list_put t k buffers l p = puts_all (λ b s. ap (λ (xs : List ℕ). nat_eq t s && list_any (λ c. nat_eq c b) xs) (drop_all k buffers l) ∙ and_false (nat_eq t s)) p

-- notes
read_more : (xs ys : List Step) (b s : ℕ) → reads_in (xs ++ ys) b s ≡ (reads_in xs b s || reads_in ys b s)
read_more xs ys b s = list_any-append (λ (x : Step). nat_eq x.sequence s && reads b x.instr) xs ys

write_more : (xs ys : List Step) (b s : ℕ) → writes_in (xs ++ ys) b s ≡ (writes_in xs b s || writes_in ys b s)
write_more xs ys b s = list_any-append (λ (x : Step). nat_eq x.sequence s && writes b x.instr) xs ys

module _ {old mid new : Touched} where
  pub notes_twice : {xs ys : List Step} → Notes old mid xs → Notes mid new ys → Notes old new (xs ++ ys)
  notes_twice {xs} {ys} first second = record {
    width = second.width ∙ first.width;
    reads = puts_same (λ b s. sym (read_more xs ys b s)) (puts_twice first.reads (subst (λ (w : ℕ). Puts w mid.reads.items new.reads.items (reads_in ys)) first.width second.reads));
    writes = puts_same (λ b s. sym (write_more xs ys b s)) (puts_twice first.writes (subst (λ (w : ℕ). Puts w mid.writes.items new.writes.items (writes_in ys)) first.width second.writes));
  }

  pub notes_next : {xs ys whole : List Step} → NotesUp old mid (xs ++ ys) whole → Notes mid new xs → NotesUp old new ys whole
  notes_next {xs} {ys} so_far more = record {
    width = more.width ∙ so_far.width;
    reads = puts_next (read_more xs ys) so_far.reads (subst (λ (w : ℕ). Puts w mid.reads.items new.reads.items (reads_in xs)) so_far.width more.reads);
    writes = puts_next (write_more xs ys) so_far.writes (subst (λ (w : ℕ). Puts w mid.writes.items new.writes.items (writes_in xs)) so_far.width more.writes);
  }

pub notes_all : {old new : Touched} {whole : List Step} → NotesUp old new [] whole → Notes old new whole
notes_all so_far = record {
  width = so_far.width;
  reads = puts_all (λ b s. refl) so_far.reads;
  writes = puts_all (λ b s. refl) so_far.writes;
}

pub notes_first : (old : Touched) (whole : List Step) → NotesUp old old whole whole
notes_first old whole = record {
  width = refl;
  reads = puts_first old.reads.items (reads_in whole);
  writes = puts_first old.writes.items (writes_in whole);
}

-- what one act reads and writes
waits_silent : (p : Instr → Bool) (o r s : ℕ) → p (Sync o r) ≡ false → (ns : List ℕ) → list_any (λ (x : Step). nat_eq x.sequence s && p x.instr) (map (λ n. step n (Sync o r)) ns) ≡ false
waits_silent p o r s e [] = refl
waits_silent p o r s e (n ∷ ns) = (λ i. (nat_eq n s && e i) || waits_silent p o r s e ns i) ∙ or_false (nat_eq n s && false) ∙ and_false (nat_eq n s)

pub sent_alone : (x y w : Bool) → w ≡ false → x ≡ (x || ((y && false) || w))
sent_alone true y w e = refl
sent_alone false y w e = sym ((λ i. (and_false y i) || e i))

pub received_alone : (x y w : Bool) → w ≡ false → x ≡ ((y && false) || (x || w))
received_alone x y w e = sym ((λ i. and_false y i || (x || e i)) ∙ or_false x)

pub waits_read : (b o r s : ℕ) (ns : List ℕ) → reads_in (map (λ n. step n (Sync o r)) ns) b s ≡ false
waits_read b o r s ns = waits_silent (reads b) o r s refl ns

pub waits_write : (b o r s : ℕ) (ns : List ℕ) → writes_in (map (λ n. step n (Sync o r)) ns) b s ≡ false
waits_write b o r s ns = waits_silent (writes b) o r s refl ns

pub carry_notes : (old new : Touched) (site : Site) (t : Transfer) (sender sent receiver received : ℕ)
    → sender ≡ sequence_of site.sequences.now t.from (Some t.medium) → sent ≡ numbering site (copy t.from t.source)
    → receiver ≡ sequence_of site.sequences.now t.to (Some t.medium) → received ≡ numbering site (copy t.to t.source) → new.width ≡ old.width
    → new.reads.items ≡ put_in old.width old.reads.items sender sent → new.writes.items ≡ put_in old.width old.writes.items receiver received → Notes old new (steps_at site (carry t))
carry_notes old new site t sender sent receiver received e h k m w r u =
    let others = numbers_where (is_other t) 0 site.sequences.now in record {
      width = w;
      reads = puts_same (λ b s.
          (λ i. nat_eq (e i) s && nat_eq (h i) b)
          ∙ sent_alone (nat_eq (sequence_of site.sequences.now t.from (Some t.medium)) s
          && nat_eq (numbering site (copy t.from t.source)) b) (nat_eq (sequence_of site.sequences.now t.to (Some t.medium)) s)
          (reads_in (map (λ n. step n (Sync t.from t.to)) others) b s) (waits_read b t.from t.to s others))
          (put_puts old.reads.items new.reads.items sender sent r);
      writes = puts_same (λ b s.
          (λ i. nat_eq (k i) s && nat_eq (m i) b)
          ∙ received_alone (nat_eq (sequence_of site.sequences.now t.to (Some t.medium)) s
          && nat_eq (numbering site (copy t.to t.source)) b) (nat_eq (sequence_of site.sequences.now t.from (Some t.medium)) s)
          (writes_in (map (λ n. step n (Sync t.from t.to)) others) b s) (waits_write b t.from t.to s others))
          (put_puts old.writes.items new.writes.items receiver received u);
    }

pub run_notes : (old new : Touched) (site : Site) (d : Decision) (sequence : ℕ) (ins outs : List ℕ)
    → sequence ≡ sequence_of site.sequences.now d.operator None → ins ≡ map (numbering site) (read_by site.vertices.now (run d)) → outs ≡ map (numbering site) (made_by site.vertices.now (run d))
    → new.width ≡ old.width → Puts old.width old.reads.items new.reads.items (λ b s. nat_eq sequence s && list_any (λ c. nat_eq c b) ins)
    → Puts old.width old.writes.items new.writes.items (λ b s. nat_eq sequence s && list_any (λ c. nat_eq c b) outs) → Notes old new (steps_at site (run d))
run_notes old new site d sequence ins outs e h k w r u = record {
  width = w;
  reads = puts_same (λ b s. (λ i. nat_eq (e i) s && list_any (λ c. nat_eq c b) (h i))
      ∙ sym (or_false (nat_eq (sequence_of site.sequences.now d.operator None) s
      && list_any (λ c. nat_eq c b) (map (numbering site) (read_by site.vertices.now (run d)))))) r;
  writes = puts_same (λ b s. (λ i. nat_eq (e i) s && list_any (λ c. nat_eq c b) (k i))
      ∙ sym (or_false (nat_eq (sequence_of site.sequences.now d.operator None) s
      && list_any (λ c. nat_eq c b) (map (numbering site) (made_by site.vertices.now (run d)))))) u;
}

-- all that was noted
pub noted_all : (width buffers : ℕ) (steps : List Step) (old new : Touched) → old.width ≡ width → old.reads.items
    ≡ replicate (buffers * width) false → old.writes.items ≡ replicate (buffers * width) false
    → Notes old new steps → IsNoted width buffers steps new
noted_all width buffers steps old new w r u h =
    let same : new.width ≡ width = h.width ∙ w in record {
      width = same;
      each = λ b s l k.
          let low : b * width + s < buffers * width = subst (λ (n : ℕ). b * width + s < n) (mul_comm width buffers) (mul-add-lt b width s buffers l k) in
          let many : (xs : List Bool) → xs ≡ replicate (buffers * width) false → b * width + s
          < length xs = λ xs e. subst (λ (n : ℕ). b * width + s < n)
          (sym (ap (λ (ys : List Bool). length ys) e ∙ length-replicate (buffers * width) false)) low in
          let none : (xs : List Bool) → xs ≡ replicate (buffers * width) false → mark_at width xs b s
          ≡ false = λ xs e. ap (λ (ys : List Bool). mark_at width ys b s) e ∙ get_or-replicate (buffers * width) (b * width + s) false false low in
          let reading = subst (λ (n : ℕ). Puts n old.reads.items new.reads.items (reads_in steps)) w h.reads in
          let writing = subst (λ (n : ℕ). Puts n old.writes.items new.writes.items (writes_in steps)) w h.writes in
          let read = reading.marks b s k (many old.reads.items r) ∙ ap (λ (t : Bool). reads_in steps b s || t) (none old.reads.items r) ∙ or_false (reads_in steps b s) in
          let written = writing.marks b s k (many old.writes.items u) ∙ ap (λ (t : Bool). writes_in steps b s || t) (none old.writes.items u) ∙ or_false (writes_in steps b s) in
          (λ i. mark_at (same i) new.reads.items b s && not (mark_at (same i) new.writes.items b s)) ∙ (λ i. read i && not (written i));
    }

-- the counts by what was noted
pub counts_are : (width buffers : ℕ) (steps : List Step) (x : Touched) (counts : List ℕ) → IsNoted width buffers steps x → length counts
    ≡ buffers → ((b : ℕ) → b < buffers → get_or counts b 0 ≡ readers_of x b) → Counts width buffers steps counts
counts_are width buffers steps x counts noted many each = record {
  many = many;
  each = λ b l.
      each b l ∙ ap (sum_below (λ s. cond (waits x b s) 1 0)) noted.width
      ∙ same_below (λ s. cond (waits x b s) 1 0) (λ s. cond (reads_in steps b s && not (writes_in steps b s)) 1 0) width (λ s k. ap (λ (t : Bool). cond t 1 0) (noted.each b s l k));
}
