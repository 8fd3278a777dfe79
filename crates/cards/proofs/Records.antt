-- Lines that may stand one after another are the records that spell what they say; and the records of a lawful card may so stand.
use Rattle.std.proofs.Common.{◌≡◌, ℕ, ◌+◌, ◌≤◌, List, [], ◌∷◌, ◌++◌, map, length, sym, refl, ap, ◌∙◌, subst, append_assoc, append-nil, arith}
use Rattle.std.specs.List.{AllByRecursion}
use Rattle.std.proofs.lemmas.List.{length_push, length-map, map_push, map-append}
use Rattle.sas.specs.declared.Precondition.{Precondition}
use Rattle.sas.specs.declared.Fact.{Fact}
use Rattle.sas.specs.Model.{Distinct, Valued, ActionRules}
use Rattle.cards.specs.Content.{Var, Oper, Content, Lawful, VarRules, OperRules, PatternRules, sizes, action}
use Rattle.cards.specs.Spelling.{variable_line, precondition_line, effect_line, operator_line, pattern_line, Mixed, ended, left, right, Blocks, empty, block}
use Rattle.cards.proofs.Apart.{member_before}
use Rattle.cards.proofs.Steps.{VarKept, Way, R, E, Fits, fresh, more_part, Step, v_line, o_line, r_line, e_line, t_line, Steps, steps_append, blank}

-- the lines ls are the records that spell c
pub record Says (ls : List (List ℕ)) (c : Content) : Type 0 where
  pub middle : List (List ℕ)
  pub blocks : Blocks c.operators middle
  pub records : ls ≡ map variable_line c.variables ++ (middle ++ map pattern_line c.patterns)

mixed_left : {xs ys zs : List (List ℕ)} (x : List ℕ) → Mixed xs ys zs → Mixed (xs ++ x ∷ []) ys (zs ++ x ∷ [])
mixed_left x ended = left ended
mixed_left x (left m) = left (mixed_left x m)
mixed_left x (right m) = right (mixed_left x m)

mixed_right : {xs ys zs : List (List ℕ)} (y : List ℕ) → Mixed xs ys zs → Mixed xs (ys ++ y ∷ []) (zs ++ y ∷ [])
mixed_right y ended = right ended
mixed_right y (left m) = left (mixed_right y m)
mixed_right y (right m) = right (mixed_right y m)

no_blocks : {m : List (List ℕ)} → Blocks [] m → m ≡ []
no_blocks empty = refl

blocks_push : {os : List Oper} {m : List (List ℕ)} (name : List ℕ) (cost : ℕ) → Blocks os m → Blocks (os ++ fresh name cost ∷ []) (m ++ operator_line (fresh name cost) ∷ [])
blocks_push name cost empty = block ended empty
blocks_push name cost (block {o} {os} {parts} {more} m rest) =
    subst (λ ls. Blocks (o ∷ (os ++ fresh name cost ∷ [])) (operator_line o ∷ ls)) (sym (append_assoc parts more (operator_line (fresh name cost) ∷ []))) (block m (blocks_push name cost rest))

-- a line more in the last block
blocks_more : (o p : Oper) (t : List ℕ) → operator_line p ≡ operator_line o → ((ls : List (List ℕ)) → Mixed (map precondition_line o.preconditions) (map effect_line o.effects) ls → Mixed (map precondition_line p.preconditions) (map effect_line p.effects) (ls ++ t ∷ [])) → (os : List Oper) {m : List (List ℕ)} → Blocks (os ++ o ∷ []) m → Blocks (os ++ p ∷ []) (m ++ t ∷ [])
blocks_more o p t e k [] (block {parts = parts} m empty) =
    subst (λ l. Blocks (p ∷ []) (l ∷ ((parts ++ []) ++ t ∷ []))) e
    (subst (λ ls. Blocks (p ∷ []) (operator_line p ∷ ls)) (append-nil (parts ++ t ∷ []) ∙ ap (λ ls. ls ++ t ∷ []) (sym (append-nil parts))) (block (k parts m) empty))
blocks_more o p t e k (x ∷ os) (block {parts = parts} {more = more} m rest) =
    subst (λ ls. Blocks (x ∷ (os ++ p ∷ [])) (operator_line x ∷ ls)) (sym (append_assoc parts more (t ∷ []))) (block m (blocks_more o p t e k os rest))

-- a line more where the lines after it would be none
push_middle : (xs m ps : List (List ℕ)) (t : List ℕ) → ps ≡ [] → (xs ++ (m ++ ps)) ++ t ∷ [] ≡ xs ++ ((m ++ t ∷ []) ++ ps)
push_middle xs m ps t e = subst (λ qs. (xs ++ (m ++ qs)) ++ t ∷ [] ≡ xs ++ ((m ++ t ∷ []) ++ qs)) (sym e) (simp (append-nil, append_assoc))

push_front : (xs m : List (List ℕ)) (t : List ℕ) → m ≡ [] → (xs ++ m) ++ t ∷ [] ≡ (xs ++ t ∷ []) ++ m
push_front xs m t e = subst (λ n. (xs ++ n) ++ t ∷ [] ≡ (xs ++ t ∷ []) ++ n) (sym e) (simp append-nil)

says_middle : (ls : List (List ℕ)) (c : Content) (os : List Oper) (t : List ℕ) (h : Says ls c) → c.patterns ≡ [] → Blocks os (h.middle ++ t ∷ []) → Says (ls ++ t ∷ []) (record { variables = c.variables; operators = os; patterns = c.patterns })
says_middle ls c os t h e b = record {
  middle = h.middle ++ t ∷ [];
  blocks = b;
  records = ap (λ xs. xs ++ t ∷ []) h.records ∙ push_middle (map variable_line c.variables) h.middle (map pattern_line c.patterns) t (ap (map pattern_line) e);
}

says_step : {c : Content} {t : List ℕ} {d : Content} (ls : List (List ℕ)) → Says ls c → Step c t d → Says (ls ++ t ∷ []) d
says_step {c} ls h (v_line v k room e f) =
    let none : h.middle ++ map pattern_line c.patterns ≡ [] = ap (λ m. m ++ map pattern_line c.patterns) (no_blocks (subst (λ os. Blocks os h.middle) e h.blocks)) ∙ ap (map pattern_line) f in
    record {
      middle = h.middle;
      blocks = h.blocks;
      records =
          ap (λ xs. xs ++ variable_line v ∷ []) h.records
          ∙ push_front (map variable_line c.variables) (h.middle ++ map pattern_line c.patterns) (variable_line v) none
          ∙ ap (λ xs. xs ++ (h.middle ++ map pattern_line c.patterns)) (sym (map_push variable_line c.variables v));
    }
says_step {c} ls h (o_line name cost n k room f) =
    says_middle ls c (c.operators ++ fresh name cost ∷ []) (operator_line (fresh name cost)) h f (blocks_push name cost h.blocks)
says_step {c} ls h (r_line os o p k) =
    says_middle ls c (os ++ more_part R o p ∷ []) (precondition_line p) h k.no_patterns
    (blocks_more o (more_part R o p) (precondition_line p) refl
    (λ qs m. subst (λ xs. Mixed xs (map effect_line o.effects) (qs ++ precondition_line p ∷ [])) (sym (map_push precondition_line o.preconditions p)) (mixed_left (precondition_line p) m)) os
    (subst (λ xs. Blocks xs h.middle) k.was h.blocks))
says_step {c} ls h (e_line os o f k) =
    says_middle ls c (os ++ more_part E o f ∷ []) (effect_line f) h k.no_patterns
    (blocks_more o (more_part E o f) (effect_line f) refl
    (λ qs m. subst (λ ys. Mixed (map precondition_line o.preconditions) ys (qs ++ effect_line f ∷ [])) (sym (map_push effect_line o.effects f)) (mixed_right (effect_line f) m)) os
    (subst (λ xs. Blocks xs h.middle) k.was h.blocks))
says_step {c} ls h (t_line p k room) = record {
  middle = h.middle;
  blocks = h.blocks;
  records = ap (λ xs. xs ++ pattern_line p ∷ []) h.records ∙ simp (map_push, append_assoc);
}

says_steps : (c d : Content) (ls ts : List (List ℕ)) → Says ls c → Steps c ts d → Says (ls ++ ts) d
says_steps c d ls [] h e = subst (λ xs. Says xs d) (sym (append-nil ls)) (subst (Says ls) e h)
says_steps c d ls (t ∷ ts) h (b, s, p) = subst (λ xs. Says xs d) (append_assoc ls (t ∷ []) ts) (says_steps b d (ls ++ t ∷ []) ts (says_step ls h s) p)

pub steps_say : (c : Content) (ls : List (List ℕ)) → Steps blank ls c → Says ls c
steps_say c ls p = says_steps blank c [] ls (record { middle = []; blocks = empty; records = refl }) p

-- the other way
abbrev at : List Var → List Oper → List (List ℕ) → Content
at vs os ps = record { variables = vs; operators = os; patterns = ps }

pub variables_kept : (vs : List Var) → AllByRecursion VarRules vs → AllByRecursion (λ z. (2 ≤ z) × (z ≤ 16)) (sizes vs) → AllByRecursion VarKept vs
variables_kept [] h k = tt
variables_kept (v ∷ vs) h k = (record { rules = h.0; large = k.0.0; small = k.0.1 }, variables_kept vs h.1 k.1)

variables_stand : (vs ws : List Var) → length vs + length ws ≤ 16 → AllByRecursion VarKept ws → Steps (at vs [] []) (map variable_line ws) (at (vs ++ ws) [] [])
variables_stand vs [] few h = ap (λ xs. at xs [] []) (sym (append-nil vs))
variables_stand vs (w ∷ ws) few h =
    (at (vs ++ w ∷ []) [] [], v_line w h.0 (omega arith) refl refl, subst (λ xs. Steps (at (vs ++ w ∷ []) [] []) (map variable_line ws) (at xs [] [])) (append_assoc vs (w ∷ []) ws) (variables_stand (vs ++ w ∷ []) ws (omega (arith, length_push vs w)) h.1))

patterns_stand : (vs : List Var) (os : List Oper) (ps qs : List (List ℕ)) → length ps + length qs ≤ 2 → AllByRecursion (PatternRules (length vs)) qs → Steps (at vs os ps) (map pattern_line qs) (at vs os (ps ++ qs))
patterns_stand vs os ps [] few h = ap (at vs os) (sym (append-nil ps))
patterns_stand vs os ps (q ∷ qs) few h =
    (at vs os (ps ++ q ∷ []), t_line q h.0 (omega arith), subst (λ xs. Steps (at vs os (ps ++ q ∷ [])) (map pattern_line qs) (at vs os xs)) (append_assoc ps (q ∷ []) qs) (patterns_stand vs os (ps ++ q ∷ []) qs (omega (arith, length_push ps q)) h.1))

-- ys may all come after xs
record Follow {X : Type 0} (w : Way X) (zs : List ℕ) (xs ys : List X) : Type 0 where
  few : length xs + length ys ≤ 8
  valued : AllByRecursion (λ x. Valued zs (w.of x) (w.val x)) ys
  distinct : Distinct (map w.of (xs ++ ys))

next_fits : {X : Type 0} (w : Way X) (zs : List ℕ) (xs : List X) (y : X) (ys : List X) → Follow w zs xs (y ∷ ys) → Fits w zs xs y
next_fits w zs xs y ys h = record { room = omega arith; valued = h.valued.0; new = member_before (map w.of xs) (w.of y) (map w.of ys) (rw (map-append w.of xs (y ∷ ys)) at h.distinct) }

rest_follow : {X : Type 0} (w : Way X) (zs : List ℕ) (xs : List X) (y : X) (ys : List X) → Follow w zs xs (y ∷ ys) → Follow w zs (xs ++ y ∷ []) ys
rest_follow w zs xs y ys h = record { few = omega (arith, length_push xs y); valued = h.valued.1; distinct = rw (append_assoc xs (y ∷ []) ys) h.distinct }

abbrev grown : Oper → List Precondition → List Fact → Oper
grown o ps fs = record { name = o.name; cost = o.cost; preconditions = o.preconditions ++ ps; effects = o.effects ++ fs }

module _ (vs : List Var) (os : List Oper) where
  r_stands : (ls : List (List ℕ)) (o : Oper) (p : Precondition) (ps : List Precondition) (fs : List Fact) → Follow R (sizes vs) o.preconditions (p ∷ ps) → Steps (at vs (os ++ more_part R o p ∷ []) []) ls (at vs (os ++ grown (more_part R o p) ps fs ∷ []) []) → Steps (at vs (os ++ o ∷ []) []) (precondition_line p ∷ ls) (at vs (os ++ grown o (p ∷ ps) fs ∷ []) [])
  r_stands ls o p ps fs h k = (
    at vs (os ++ more_part R o p ∷ []) [],
    r_line os o p (record { was = refl; no_patterns = refl; fits = next_fits R (sizes vs) o.preconditions p ps h }),
    subst (λ xs. Steps (at vs (os ++ more_part R o p ∷ []) []) ls (at vs (os ++ record { name = o.name; cost = o.cost; preconditions = xs; effects = o.effects ++ fs } ∷ []) [])) (append_assoc o.preconditions (p ∷ []) ps) k,
  )

  e_stands : (ls : List (List ℕ)) (o : Oper) (ps : List Precondition) (f : Fact) (fs : List Fact) → Follow E (sizes vs) o.effects (f ∷ fs) → Steps (at vs (os ++ more_part E o f ∷ []) []) ls (at vs (os ++ grown (more_part E o f) ps fs ∷ []) []) → Steps (at vs (os ++ o ∷ []) []) (effect_line f ∷ ls) (at vs (os ++ grown o ps (f ∷ fs) ∷ []) [])
  e_stands ls o ps f fs h k = (
    at vs (os ++ more_part E o f ∷ []) [],
    e_line os o f (record { was = refl; no_patterns = refl; fits = next_fits E (sizes vs) o.effects f fs h }),
    subst (λ ys. Steps (at vs (os ++ more_part E o f ∷ []) []) ls (at vs (os ++ record { name = o.name; cost = o.cost; preconditions = o.preconditions ++ ps; effects = ys } ∷ []) [])) (append_assoc o.effects (f ∷ []) fs) k,
  )

  parts_stand : (o : Oper) (ps : List Precondition) (fs : List Fact) → Follow R (sizes vs) o.preconditions ps → Follow E (sizes vs) o.effects fs → {ls : List (List ℕ)} → Mixed (map precondition_line ps) (map effect_line fs) ls → Steps (at vs (os ++ o ∷ []) []) ls (at vs (os ++ grown o ps fs ∷ []) [])
  parts_stand o [] [] h k ended = rw (append-nil o.preconditions, append-nil o.effects)
  parts_stand o [] (f ∷ fs) h k (right {zs = ls} m) = e_stands ls o [] f fs k (parts_stand (more_part E o f) [] fs h (rest_follow E (sizes vs) o.effects f fs k) m)
  parts_stand o (p ∷ ps) [] h k (left {zs = ls} m) = r_stands ls o p ps [] h (parts_stand (more_part R o p) ps [] (rest_follow R (sizes vs) o.preconditions p ps h) k m)
  parts_stand o (p ∷ ps) (f ∷ fs) h k (left {zs = ls} m) = r_stands ls o p ps (f ∷ fs) h (parts_stand (more_part R o p) ps (f ∷ fs) (rest_follow R (sizes vs) o.preconditions p ps h) k m)
  parts_stand o (p ∷ ps) (f ∷ fs) h k (right {zs = ls} m) = e_stands ls o (p ∷ ps) f fs k (parts_stand (more_part E o f) (p ∷ ps) fs h (rest_follow E (sizes vs) o.effects f fs k) m)

blocks_stand : (vs : List Var) (done os : List Oper) {ls : List (List ℕ)} → length done + length os ≤ 128 → AllByRecursion OperRules os → AllByRecursion (ActionRules (sizes vs)) (map action os) → Blocks os ls → Steps (at vs done []) ls (at vs (done ++ os) [])
blocks_stand vs done [] few h a empty = ap (λ os. at vs os []) (sym (append-nil done))
blocks_stand vs done (o ∷ os) few h a (block {parts = parts} {more = more} m rest) = (
  at vs (done ++ fresh o.name o.cost ∷ []) [],
  o_line o.name o.cost h.0.named (omega (arith, h.0.cheap)) (omega arith) refl,
  steps_append _ (at vs (done ++ o ∷ []) []) (at vs (done ++ o ∷ os) []) parts more
      (parts_stand vs done (fresh o.name o.cost) o.preconditions o.effects (record { few = omega (arith, a.0.few_preconditions); valued = a.0.preconditions_valued; distinct = a.0.preconditions_distinct }) (record { few = omega (arith, a.0.few_effects); valued = a.0.effects_valued; distinct = a.0.effects_distinct }) m)
      (subst (λ xs. Steps (at vs (done ++ o ∷ []) []) more (at vs xs [])) (append_assoc done (o ∷ []) os) (blocks_stand vs (done ++ o ∷ []) os (omega (arith, length_push done o)) h.1 a.1 rest)),
)

pub lawful_stands : {m : List (List ℕ)} (c : Content) → Lawful c → Blocks c.operators m → Steps blank (map variable_line c.variables ++ (m ++ map pattern_line c.patterns)) c
lawful_stands {m} c h b =
    steps_append blank (at c.variables [] []) c (map variable_line c.variables) (m ++ map pattern_line c.patterns)
    (variables_stand [] c.variables (omega (arith, h.rules.few_variables, length-map c.variables (λ v. v.size))) (variables_kept c.variables h.variables h.rules.sized))
    (steps_append (at c.variables [] []) (at c.variables c.operators []) c m (map pattern_line c.patterns)
    (blocks_stand c.variables [] c.operators (omega (arith, h.rules.few_operators, length-map c.operators action)) h.operators h.rules.acting b)
    (patterns_stand c.variables c.operators [] c.patterns (omega (arith, h.few_patterns)) h.patterns))
