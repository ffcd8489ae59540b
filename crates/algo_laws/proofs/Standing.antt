-- Where definitions may stand, from the lines that name them.
use Rattle.std.proofs.Common.{◌≡◌, Bool, true, false, ◌&&◌, ◌||◌, not, List, [], ◌∷◌, map, Option, Some, None, refl, ap, sym, subst, ◌∙◌, if◌then◌else◌}
use Rattle.std.specs.Str.{bytes_eq}
use Rattle.std.proofs.lemmas.Slice.Eq.{bytes_eq-Decides}
use Rattle.syn_base.specs.Bytes.{Bytes}
use Rattle.algo_rules.specs.declared.Def.{Def}
use Rattle.algo_rules.specs.declared.Body.{Body}
use Rattle.algo_rules.specs.declared.Body.TheVariants.{Sensor, Actuator, Constant, Delay, Function, Graph, Switch, Repeat}
use Rattle.algo_rules.specs.declared.AlgoCause.TheVariants.{Misplaced}
use Rattle.algo_rules.specs.Links.{fault, first_of, Mention, mentions, definition, is_main, is_end, may_be_inner, may_stand, misplaced_by, misplaced}
use Rattle.algo_laws.proofs.Firsts.{Each, none_each, none_flat, each_gives}

-- what holds of each definition holds of that of a name
pub definition_by : (P : Def → Type 0) (ds : List Def) (w : Bytes) (d : Def) → Each P ds → definition ds w ≡ Some d → P d
definition_by P [] w d h e = cc
definition_by P (x ∷ ds) w d h e = by (λ k. definition_by P ds w d h.1 k) (bytes_eq w x.name) e
  where
    by : (definition ds w ≡ Some d → P d) → (b : Bool) → (if b then Some x else definition ds w) ≡ Some d → P d
    by rest true k = let same : x ≡ d = cc in subst P same h.0
    by rest false k = rest k

pub named : (ds : List Def) (w : Bytes) (d : Def) → definition ds w ≡ Some d → w ≡ d.name
named [] w d e = cc
named (x ∷ ds) w d e = by (λ k. named ds w d k) (bytes_eq w x.name) refl e
  where
    by : (definition ds w ≡ Some d → w ≡ d.name) → (b : Bool) → bytes_eq w x.name ≡ b → (if b then Some x else definition ds w) ≡ Some d → w ≡ d.name
    by rest true is k = let same : x ≡ d = cc in (bytes_eq-Decides w x.name).0 is ∙ ap (λ (y : Def). y.name) same
    by rest false is k = rest k

-- the line may name what it names
abbrev pub Stands : List Def → Bytes → Mention → Type 0
Stands ds owner m = may_stand owner m (definition ds m.def) ≡ true

stands_by : (m : Mention) (b : Bool) → (if b then None else fault m.line (Misplaced m.def)) ≡ None → b ≡ true
stands_by m true h = refl
stands_by m false h = cc

pub all_stand : (ds : List Def) → misplaced ds ≡ None → (w : Bytes) (d : Def) → definition ds w ≡ Some d → Each (Stands ds w) (mentions d)
all_stand ds h w d e =
    let lines = definition_by (λ x. first_of (map (misplaced_by ds x.name) (mentions x)) ≡ None) ds w d (none_flat (λ x. map (misplaced_by ds x.name) (mentions x)) ds h) e in
    let each : Each (Stands ds d.name) (mentions d) =
    each_gives (λ m. misplaced_by ds d.name m ≡ None) (Stands ds d.name) (λ m k. stands_by m (may_stand d.name m (definition ds m.def)) k)
    (mentions d) (none_each (misplaced_by ds d.name) (mentions d) lines) in
    subst (λ (x : Bytes). Each (Stands ds x) (mentions d)) (sym (named ds w d e)) each

pub both : (a b : Bool) → (a && b) ≡ true → (a ≡ true) × (b ≡ true)
both true b h = (refl, h)
both false b h = cc

pub negated : (a : Bool) → not a ≡ true → a ≡ false
negated false h = refl
negated true h = cc

-- a definition of this name that may stand anywhere but in `main`
abbrev pub IsInner : Bytes → Option Def → Type 0
IsInner w None = Unit {0}
IsInner w (Some d) = (is_main w ≡ false) × (is_end d.body ≡ false)

inner_is_no_end : (b : Body) → may_be_inner b ≡ true → is_end b ≡ false
inner_is_no_end (Sensor n) h = cc
inner_is_no_end (Actuator n) h = cc
inner_is_no_end (Constant values) h = refl
inner_is_no_end (Delay depth values) h = refl
inner_is_no_end (Function ins outs) h = refl
inner_is_no_end (Graph ins outs references edges) h = refl
inner_is_no_end (Switch on ins outs cases otherwise last) h = refl
inner_is_no_end (Repeat copies def lines) h = refl

either : (a b : Bool) → (not a || b) ≡ true → b ≡ false → a ≡ false
either true b h k = cc
either false b h k = refl

-- what is named outside `main` is inner
pub inner_by : (owner : Bytes) (m : Mention) (o : Option Def) → is_main owner ≡ false → may_stand owner m o ≡ true → IsInner m.def o
inner_by owner m None out h = tt
inner_by owner m (Some d) out h =
    let two = both (not (is_main m.def)) (if m.is_reference then not (is_end d.body) || is_main owner else may_be_inner d.body) h in
    (negated (is_main m.def) two.0, by m.is_reference two.1)
  where
    by : (b : Bool) → (if b then not (is_end d.body) || is_main owner else may_be_inner d.body) ≡ true → is_end d.body ≡ false
    by true k = either (is_end d.body) (is_main owner) k out
    by false k = inner_is_no_end d.body k

-- what is named at all is not `main`
pub not_main : (owner : Bytes) (m : Mention) (d : Def) → may_stand owner m (Some d) ≡ true → is_main m.def ≡ false
not_main owner m d h = negated (is_main m.def) (both (not (is_main m.def)) (if m.is_reference then not (is_end d.body) || is_main owner else may_be_inner d.body) h).0
