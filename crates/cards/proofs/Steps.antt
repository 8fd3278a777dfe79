-- One record more on top of what a card says so far: where it may stand, and that the rules are kept.
use Rattle.std.proofs.Common.{◌≡◌, ℕ, ◌<◌, ◌≤◌, true, false, List, [], ◌∷◌, ◌++◌, map, length, get_or, Ok, decimal, Result, sym, refl, ap, subst, arith}
use Rattle.std.specs.List.{AllByRecursion}
use Rattle.std.proofs.lemmas.List.{length_push, length-map, map_push}
use Rattle.std.proofs.ByRecursion.{All-push, All-weaker, All-map, All-get_or}
use Rattle.sas.specs.declared.Precondition.{Precondition}
use Rattle.sas.specs.declared.Fact.{Fact}
use Rattle.sas.specs.Model.{Distinct, Valued}
use Rattle.fields.specs.declared.faults.LineFault.{LineFault}
use Rattle.fields.specs.Text.{is_name}
use Rattle.fields.specs.Lines.{by_letter}
use Rattle.cards.specs.Content.{Var, Oper, Content, VarRules, OperRules, PatternRules, sizes}
use Rattle.cards.specs.Reading.{Placed, Reading, ◌>>=◌, member, add_valued, make_precondition, make_fact, add_part, add_some}
use Rattle.cards.specs.Spelling.{tabbed, variable_line, operator_line, pattern_line}
use Rattle.cards.proofs.Apart.{distinct_push}
use Rattle.cards.proofs.Numerals.{Between}

-- a variable
pub record VarKept (v : Var) : Type 0 where
  pub rules : VarRules v
  pub large : 2 ≤ v.size
  pub small : v.size ≤ 16

-- one kind of parts of an operator, its preconditions or its effects; x speaks of the variable `of x`, and of its value `val x`
pub record Way (X : Type 0) : Type 0 where
  pub letter : ℕ
  pub of : X → ℕ
  pub val : X → ℕ
  pub make : ℕ × ℕ → X
  pub parts : Oper → List X
  pub having : Oper → List X → Oper

abbrev pub R : Way Precondition
R = record {
  letter = 82;
  of = λ p. p.variable;
  val = λ p. p.value;
  make = make_precondition;
  parts = λ o. o.preconditions;
  having = λ o ps. record { name = o.name; cost = o.cost; preconditions = ps; effects = o.effects };
}

abbrev pub E : Way Fact
E = record {
  letter = 69;
  of = λ f. f.variable;
  val = λ f. f.value;
  make = make_fact;
  parts = λ o. o.effects;
  having = λ o fs. record { name = o.name; cost = o.cost; preconditions = o.preconditions; effects = fs };
}

-- one part of this kind more for an operator
abbrev pub add_to : {X : Type 0} → Way X → ℕ → List Var → List ℕ → List ℕ → Placed → Result Placed LineFault
add_to w l vs a b o = add_valued w.of w.make l vs a b (w.parts o.oper) >>= (λ xs. Ok (record { line = o.line; oper = w.having o.oper xs }))

-- how a part of this kind is made of its numbers, and added where its letter is read
pub record WayRules {X : Type 0} (w : Way X) : Type 0 where
  pub of_made : (p : ℕ × ℕ) → w.of (w.make p) ≡ p.0
  pub val_made : (p : ℕ × ℕ) → w.val (w.make p) ≡ p.1
  pub made_of : (x : X) → w.make (w.of x, w.val x) ≡ x
  pub printed : Between 33 126 w.letter
  pub told : w.letter ≡ 35 → ⊥
  pub cut : (l : ℕ) (s : Reading) (a b : List ℕ) → (by_letter l (w.letter ∷ []) (a ∷ b ∷ []) >>= add_some l s) ≡ add_part l s (add_to w l s.vars a b)

pub r_rules : WayRules R
r_rules = record { of_made = λ p. refl; val_made = λ p. refl; made_of = λ p. refl; printed = (omega arith, omega arith); told = λ e. omega arith; cut = λ l s a b. refl }

pub e_rules : WayRules E
e_rules = record { of_made = λ p. refl; val_made = λ p. refl; made_of = λ p. refl; printed = (omega arith, omega arith); told = λ e. omega arith; cut = λ l s a b. refl }

abbrev pub part_line : {X : Type 0} → Way X → X → List ℕ
part_line w x = tabbed (w.letter ∷ []) (decimal (w.of x) ∷ decimal (w.val x) ∷ [])

-- the parts xs, over variables of the sizes zs
pub record PartsKept {X : Type 0} (w : Way X) (zs : List ℕ) (xs : List X) : Type 0 where
  pub few : length xs ≤ 8
  pub valued : AllByRecursion (λ x. Valued zs (w.of x) (w.val x)) xs
  pub distinct : Distinct (map w.of xs)

-- x may come after xs
pub record Fits {X : Type 0} (w : Way X) (zs : List ℕ) (xs : List X) (x : X) : Type 0 where
  pub room : length xs < 8
  pub valued : Valued zs (w.of x) (w.val x)
  pub new : member (w.of x) (map w.of xs) ≡ false

parts_more : {X : Type 0} (w : Way X) (zs : List ℕ) (xs : List X) (x : X) → PartsKept w zs xs → Fits w zs xs x → PartsKept w zs (xs ++ x ∷ [])
parts_more w zs xs x h k = record {
  few = simp length_push (omega arith);
  valued = All-push (λ x. Valued zs (w.of x) (w.val x)) xs x h.valued k.valued;
  distinct = rw (map_push w.of xs x) (distinct_push (map w.of xs) (w.of x) h.distinct k.new);
}

-- an operator, over variables of the sizes zs
pub record OperKept (zs : List ℕ) (o : Oper) : Type 0 where
  pub rules : OperRules o
  pub preconditions : PartsKept R zs o.preconditions
  pub effects : PartsKept E zs o.effects

-- what each record keeps
pub record Kept (c : Content) : Type 0 where
  pub few_variables : length c.variables ≤ 16
  pub variables : AllByRecursion VarKept c.variables
  pub few_operators : length c.operators ≤ 128
  pub operators : AllByRecursion (OperKept (sizes c.variables)) c.operators
  pub few_patterns : length c.patterns ≤ 2
  pub patterns : AllByRecursion (PatternRules (length c.variables)) c.patterns

-- variables that are few and small enough
pub record Few (vs : List Var) : Type 0 where
  pub few : length vs ≤ 16
  pub sized : AllByRecursion (λ z. (2 ≤ z) × (z ≤ 16)) (sizes vs)

pub kept_sized : (vs : List Var) → AllByRecursion VarKept vs → AllByRecursion (λ z. (2 ≤ z) × (z ≤ 16)) (sizes vs)
kept_sized vs h = All-map (λ z. (2 ≤ z) × (z ≤ 16)) (λ v. v.size) vs (All-weaker VarKept _ (λ x k. (k.large, k.small)) vs h)

pub kept_few : (c : Content) → Kept c → Few c.variables
kept_few c h = record { few = h.few_variables; sized = kept_sized c.variables h.variables }

pub size_small : (vs : List Var) (v : ℕ) → Few vs → v < length vs → get_or (sizes vs) v 0 ≤ 16
size_small vs v h k = (All-get_or (λ z. (2 ≤ z) × (z ≤ 16)) (sizes vs) v 0 (simp length-map k) h.sized).1

-- what is said with one thing more
abbrev pub with_variable : Content → Var → Content
with_variable c v = record { variables = c.variables ++ v ∷ []; operators = c.operators; patterns = c.patterns }

abbrev pub with_operators : Content → List Oper → Content
with_operators c os = record { variables = c.variables; operators = os; patterns = c.patterns }

abbrev pub with_pattern : Content → List ℕ → Content
with_pattern c p = record { variables = c.variables; operators = c.operators; patterns = c.patterns ++ p ∷ [] }

abbrev pub fresh : List ℕ → ℕ → Oper
fresh name cost = record { name = name; cost = cost; preconditions = []; effects = [] }

abbrev pub more_part : {X : Type 0} → Way X → Oper → X → Oper
more_part w o x = w.having o (w.parts o ++ x ∷ [])

-- the part x may be added to o, the last operator, which stands below os
pub record PartStep {X : Type 0} (w : Way X) (c : Content) (os : List Oper) (o : Oper) (x : X) : Type 0 where
  pub was : c.operators ≡ os ++ o ∷ []
  pub no_patterns : c.patterns ≡ []
  pub fits : Fits w (sizes c.variables) (w.parts o) x

-- a line that may stand below those that say c, and what they say together
pub data Step (c : Content) : List ℕ → Content → Type 0 where
  v_line : (v : Var) → VarKept v → length c.variables < 16 → c.operators ≡ [] → c.patterns ≡ [] → Step c (variable_line v) (with_variable c v)
  o_line : (name : List ℕ) (cost : ℕ) → is_name name ≡ true → cost < 65536 → length c.operators < 128 → c.patterns ≡ [] → Step c (operator_line (fresh name cost)) (with_operators c (c.operators ++ fresh name cost ∷ []))
  r_line : (os : List Oper) (o : Oper) (p : Precondition) → PartStep R c os o p → Step c (part_line R p) (with_operators c (os ++ more_part R o p ∷ []))
  e_line : (os : List Oper) (o : Oper) (f : Fact) → PartStep E c os o f → Step c (part_line E f) (with_operators c (os ++ more_part E o f ∷ []))
  t_line : (p : List ℕ) → PatternRules (length c.variables) p → length c.patterns < 2 → Step c (pattern_line p) (with_pattern c p)

-- the same step, under equal names
pub step_as : {c : Content} {t u : List ℕ} {d e : Content} → t ≡ u → d ≡ e → Step c t d → Step c u e
step_as {c} {t} {u} {d} {e} p q s = subst (λ x. Step c x e) p (subst (Step c t) q s)

all_front : {X : Type 0} (P : X → Type 0) (xs : List X) (x : X) → AllByRecursion P (xs ++ x ∷ []) → AllByRecursion P xs × P x
all_front P [] x h = (tt, h.0)
all_front P (y ∷ ys) x h = let q = all_front P ys x h.1 in ((h.0, q.0), q.1)

operators_kept : (c : Content) (os : List Oper) (o p : Oper) → Kept c → c.operators ≡ os ++ o ∷ [] → (OperKept (sizes c.variables) o → OperKept (sizes c.variables) p) → Kept (with_operators c (os ++ p ∷ []))
operators_kept c os o p h e k =
    let q = all_front (OperKept (sizes c.variables)) os o (subst (AllByRecursion (OperKept (sizes c.variables))) e h.operators) in
    record {
      few_variables = h.few_variables;
      variables = h.variables;
      few_operators = omega (arith, h.few_operators, ap length e, length_push os o, length_push os p);
      operators = All-push (OperKept (sizes c.variables)) os p q.0 (k q.1);
      few_patterns = h.few_patterns;
      patterns = h.patterns;
    }

pub step_kept : {c : Content} {text : List ℕ} {d : Content} → Kept c → Step c text d → Kept d
step_kept {c} h (v_line v k room e f) = record {
  few_variables = simp length_push (omega arith);
  variables = All-push VarKept c.variables v h.variables k;
  few_operators = h.few_operators;
  operators = subst (AllByRecursion _) (sym e) tt;
  few_patterns = h.few_patterns;
  patterns = subst (AllByRecursion _) (sym f) tt;
}
step_kept {c} h (o_line name cost n k room f) = record {
  few_variables = h.few_variables;
  variables = h.variables;
  few_operators = simp length_push (omega arith);
  operators = All-push (OperKept (sizes c.variables)) c.operators (fresh name cost) h.operators (record {
    rules = record { named = n; cheap = omega arith };
    preconditions = record { few = omega arith; valued = tt; distinct = tt };
    effects = record { few = omega arith; valued = tt; distinct = tt };
  });
  few_patterns = h.few_patterns;
  patterns = h.patterns;
}
step_kept {c} h (r_line os o p k) =
    operators_kept c os o (more_part R o p) h k.was
    (λ q. record { rules = record { named = q.rules.named; cheap = q.rules.cheap }; preconditions = parts_more R _ o.preconditions p q.preconditions k.fits; effects = q.effects })
step_kept {c} h (e_line os o f k) =
    operators_kept c os o (more_part E o f) h k.was
    (λ q. record { rules = record { named = q.rules.named; cheap = q.rules.cheap }; preconditions = q.preconditions; effects = parts_more E _ o.effects f q.effects k.fits })
step_kept {c} h (t_line p k room) = record {
  few_variables = h.few_variables;
  variables = h.variables;
  few_operators = h.few_operators;
  operators = h.operators;
  few_patterns = simp length_push (omega arith);
  patterns = All-push (PatternRules (length c.variables)) c.patterns p h.patterns k;
}

-- lines that may stand below those that say c, one after another, and what they all say
abbrev pub Steps : Content → List (List ℕ) → Content → Type 0
Steps c [] d = c ≡ d
Steps c (t ∷ ts) d = (e : Content) × Step c t e × Steps e ts d

pub steps_append : (c d e : Content) (xs ys : List (List ℕ)) → Steps c xs d → Steps d ys e → Steps c (xs ++ ys) e
steps_append c d e [] ys p q = subst (λ b. Steps b ys e) (sym p) q
steps_append c d e (x ∷ xs) ys (b, s, p) q = (b, s, steps_append b d e xs ys p q)

pub steps_kept : (c d : Content) (ts : List (List ℕ)) → Kept c → Steps c ts d → Kept d
steps_kept c d [] h e = subst Kept e h
steps_kept c d (t ∷ ts) h (b, s, p) = steps_kept b d ts (step_kept h s) p

abbrev pub blank : Content
blank = record { variables = []; operators = []; patterns = [] }

pub blank_kept : Kept blank
blank_kept = record { few_variables = omega arith; variables = tt; few_operators = omega arith; operators = tt; few_patterns = omega arith; patterns = tt }
