-- A line that may stand where it is is read as that, and so are lines one after another; each is tidy.
use Rattle.std.proofs.Common.{◌≡◌, ℕ, ◌+◌, ◌*◌, ◌<◌, ◌≤◌, Bool, true, false, cond, not, List, [], ◌∷◌, ◌++◌, map, length, get_or, Some, None, Ok, Err, decimal, Option, Result, sym, refl, ap, ◌∙◌, subst, ⊎_elim, append_assoc, append-nil, arith}
use Rattle.std.specs.List.{AllByRecursion}
use Rattle.std.proofs.lemmas.Fmt.{length-decimal-le}
use Rattle.std.proofs.lemmas.List.{length_push, length-map, map_push, same_from_push}
use Rattle.std.proofs.lemmas.Bool.{and_from, cond-true, lt-ltb, eq-eqb, cases_Bool}
use Rattle.sas.specs.Model.{Valued}
use Rattle.fields.specs.declared.faults.LineFault.{LineFault}
use Rattle.fields.specs.declared.faults.LineFault.TheVariants.{Order}
use Rattle.fields.specs.Fields.{at}
use Rattle.fields.specs.Text.{is_name, tidy}
use Rattle.fields.specs.Lines.{skipped}
use Rattle.cards.specs.Content.{Var, Oper, Content, Aimed, PatternRules, sizes}
use Rattle.cards.specs.Reading.{Placed, Reading, ◌>>=◌, name_at, number_at, variable_of, operator_of, add_valued, on_last, none, place_for, variable_place, operator_place, part_place, pattern_place, indices_on, distinct_on, add_some, line_on, read_on, content}
use Rattle.cards.specs.Spelling.{goal_text, variable_line, operator_line, pattern_line, telling}
use Rattle.cards.proofs.Apart.{distinct_passes}
use Rattle.cards.proofs.Pigeonhole.{pigeonhole}
use Rattle.cards.proofs.Cuts.{Inked, name_inked, name_short, decimal_inked, room, tabbed_tidy, cut_tabbed}
use Rattle.cards.proofs.Fields.{bind_ok, name_at_lem, number_at_lem, variable_of_lem, add_valued_lem}
use Rattle.cards.proofs.Steps.{VarKept, Way, R, E, add_to, WayRules, r_rules, e_rules, part_line, Fits, Kept, Few, kept_few, size_small, with_operators, fresh, more_part, PartStep, Step, v_line, o_line, r_line, e_line, t_line, step_kept, Steps}

number_short : (n : ℕ) → n < 65536 → length (decimal n) ≤ 5
number_short n h = length-decimal-le 5 n (omega arith) (omega arith) (omega arith)

-- the fields of each line
goal_inked : (size : ℕ) (g : Option ℕ) → size ≤ 16 → Aimed size g → Inked (goal_text g)
goal_inked size None h a = ((omega arith, omega arith), tt)
goal_inked size (Some w) h a = decimal_inked w (omega arith)

goal_short : (size : ℕ) (g : Option ℕ) → size ≤ 16 → Aimed size g → length (goal_text g) ≤ 5
goal_short size None h a = omega arith
goal_short size (Some w) h a = number_short w (omega arith)

abbrev variable_fields : Var → List (List ℕ)
variable_fields v = v.name ∷ decimal v.size ∷ decimal v.start ∷ goal_text v.goal ∷ []

variable_inked : (v : Var) → VarKept v → AllByRecursion Inked (variable_fields v)
variable_inked v h =
    (name_inked v.name h.rules.named, (decimal_inked v.size (omega arith), (decimal_inked v.start (omega (arith, h.rules.started)), (goal_inked v.size v.goal h.small h.rules.aimed, tt))))

operator_inked : (name : List ℕ) (cost : ℕ) → is_name name ≡ true → cost < 65536 → AllByRecursion Inked (name ∷ decimal cost ∷ [])
operator_inked name cost n h = (name_inked name n, (decimal_inked cost (omega arith), tt))

indices_inked : (n : ℕ) (ws : List ℕ) → n ≤ 16 → AllByRecursion (λ v. v < n) ws → AllByRecursion Inked (map decimal ws)
indices_inked n [] few h = tt
indices_inked n (w ∷ ws) few h = (decimal_inked w (omega (arith, h.0)), indices_inked n ws few h.1)

indices_room : (n : ℕ) (ws : List ℕ) → n ≤ 16 → AllByRecursion (λ v. v < n) ws → room (map decimal ws) ≤ 3 * length ws
indices_room n [] few h = omega arith
indices_room n (w ∷ ws) few h = omega (arith, length-decimal-le 2 w (omega arith) (omega (arith, h.0)) (omega (arith, h.0)), indices_room n ws few h.1)

-- v is one of few variables, and x one of its values
module _ (vs : List Var) (all : Few vs) (v x : ℕ) (h : Valued (sizes vs) v x) where
  below : v < length vs
  below = omega (arith, h.0, length-map vs (λ v. v.size))

  values : get_or (sizes vs) v 0 ≤ 16
  values = size_small vs v all below

  valued_inked : AllByRecursion Inked (decimal v ∷ decimal x ∷ [])
  valued_inked = (decimal_inked v (omega (arith, below, all.few)), (decimal_inked x (omega (arith, values, h.1)), tt))

  valued_room : room (decimal v ∷ decimal x ∷ []) ≤ 199
  valued_room = omega (arith, number_short v (omega (arith, below, all.few)), number_short x (omega (arith, values, h.1)))

-- each line that may stand somewhere is tidy, and says something
pub record Sound (text : List ℕ) : Type 0 where
  pub clean : tidy text ≡ true
  pub told : skipped text ≡ false

part_sound : {X : Type 0} (w : Way X) → WayRules w → (c : Content) (os : List Oper) (o : Oper) (x : X) → Kept c → skipped (part_line w x) ≡ false → PartStep w c os o x → Sound (part_line w x)
part_sound w rules c os o x h t k =
    let all : Few c.variables = kept_few c h in
    record { clean = tabbed_tidy w.letter (decimal (w.of x) ∷ decimal (w.val x) ∷ []) rules.printed (valued_inked c.variables all (w.of x) (w.val x) k.fits.valued) (valued_room c.variables all (w.of x) (w.val x) k.fits.valued); told = t }

pub step_sound : {c : Content} {text : List ℕ} {d : Content} → Kept c → Step c text d → Sound text
step_sound h (v_line v k few e f) = record {
  clean =
      tabbed_tidy 86 (variable_fields v) (omega arith, omega arith) (variable_inked v k)
      (omega (arith, name_short v.name k.rules.named, number_short v.size (omega arith), number_short v.start (omega (arith, k.rules.started)), goal_short v.size v.goal k.small k.rules.aimed));
  told = refl;
}
step_sound h (o_line name cost n k few f) =
    record { clean = tabbed_tidy 79 (name ∷ decimal cost ∷ []) (omega arith, omega arith) (operator_inked name cost n k) (omega (arith, name_short name n, number_short cost k)); told = refl }
step_sound {c} h (r_line os o p k) = part_sound R r_rules c os o p h refl k
step_sound {c} h (e_line os o f k) = part_sound E e_rules c os o f h refl k
step_sound {c} h (t_line [] k few) = absurd (omega (arith, k.some))
step_sound {c} h (t_line (w ∷ ws) k few) = record {
  clean =
      tabbed_tidy 84 (map decimal (w ∷ ws)) (omega arith, omega arith) (indices_inked (length c.variables) (w ∷ ws) h.few_variables k.below)
      (omega (arith, h.few_variables, indices_room (length c.variables) (w ∷ ws) h.few_variables k.below, pigeonhole (length c.variables) (w ∷ ws) k.below k.distinct));
  told = refl;
}

pub steps_sound : (c d : Content) (ts : List (List ℕ)) → Kept c → Steps c ts d → AllByRecursion Sound ts
steps_sound c d [] h e = tt
steps_sound c d (t ∷ ts) h (b, s, p) = (step_sound h s, steps_sound b d ts (step_kept h s) p)

-- line l is read after s, and d is what is said then
record Reads (l : ℕ) (s : Reading) (text : List ℕ) (d : Content) : Type 0 where
  next : Reading
  read : line_on l s text ≡ Ok next
  says : content next ≡ d

abbrev opers : List Placed → List Oper
opers os = map (λ o. o.oper) os

no_opers : (os : List Placed) → opers os ≡ [] → none os ≡ true
no_opers os e = eq-eqb (length os) 0 (sym (length-map os (λ o. o.oper)) ∙ ap length e)

no_lists : (ps : List (List ℕ)) → ps ≡ [] → none ps ≡ true
no_lists ps e = eq-eqb (length ps) 0 (ap length e)

place_passes : (l : ℕ) (ordered room : Bool) → ordered ≡ true → room ≡ true → place_for l ordered room ≡ Ok tt
place_passes l ordered room a b = cond-true ordered _ _ a ∙ cond-true room _ _ b

variable_read : (l : ℕ) (s : Reading) (v : Var) → VarKept v → length s.vars < 16 → opers s.opers ≡ [] → s.patterns ≡ [] → tidy (variable_line v) ≡ true → line_on l s (variable_line v) ≡ Ok (record { vars = s.vars ++ v ∷ []; opers = s.opers; patterns = s.patterns })
variable_read l s v h few e f t =
    ap (λ r. r >>= add_some l s) (cut_tabbed l 86 v.name (decimal v.size ∷ decimal v.start ∷ goal_text v.goal ∷ []) (omega arith, omega arith) (λ e. omega arith) (variable_inked v h) t)
    ∙ bind_ok (variable_place l s) tt _ (place_passes l _ _ (and_from (none s.opers) (none s.patterns) (no_opers s.opers e) (no_lists s.patterns f)) (lt-ltb (length s.vars) 16 few))
    ∙ bind_ok (variable_of l v.name (decimal v.size) (decimal v.start) (goal_text v.goal)) v _ (variable_of_lem l v h.rules h.large h.small)

operator_of_lem : (l : ℕ) (name : List ℕ) (cost : ℕ) → is_name name ≡ true → cost < 65536 → operator_of l name (decimal cost) ≡ Ok (record { line = l; oper = fresh name cost })
operator_of_lem l name cost n h =
    bind_ok (name_at (at l 2) name) name _ (name_at_lem (at l 2) name n)
    ∙ bind_ok (number_at (at l 3) 0 65536 (decimal cost)) cost _ (number_at_lem (at l 3) 0 65536 cost (omega arith) h (omega arith))

operator_read : (l : ℕ) (s : Reading) (name : List ℕ) (cost : ℕ) → is_name name ≡ true → cost < 65536 → length s.opers < 128 → s.patterns ≡ [] → tidy (operator_line (fresh name cost)) ≡ true → line_on l s (operator_line (fresh name cost)) ≡ Ok (record { vars = s.vars; opers = s.opers ++ record { line = l; oper = fresh name cost } ∷ []; patterns = s.patterns })
operator_read l s name cost n h few f t =
    ap (λ r. r >>= add_some l s) (cut_tabbed l 79 name (decimal cost ∷ []) (omega arith, omega arith) (λ e. omega arith) (operator_inked name cost n h) t)
    ∙ bind_ok (operator_place l s) tt _ (place_passes l _ _ (no_lists s.patterns f) (lt-ltb (length s.opers) 128 few))
    ∙ bind_ok (operator_of l name (decimal cost)) (record { line = l; oper = fresh name cost }) _ (operator_of_lem l name cost n h)

-- f at the last of a list that is known to end
bind_assoc : {X Y Z E : Type 0} (r : Result X E) (f : X → Result Y E) (g : Y → Result Z E) → (r >>= f >>= g) ≡ (r >>= (λ x. f x >>= g))
bind_assoc (Ok x) f g = refl
bind_assoc (Err e) f g = refl

on_last_lem : {X : Type 0} (e : LineFault) (f : X → Result X LineFault) (xs : List X) (x : X) → on_last e f (xs ++ x ∷ []) ≡ (f x >>= (λ y. Ok (xs ++ y ∷ [])))
on_last_lem e f [] x = refl
on_last_lem e f (z ∷ []) x = bind_assoc (f x) (λ y. Ok (y ∷ [])) (λ ys. Ok (z ∷ ys))
on_last_lem e f (z ∷ w ∷ zs) x = ap (λ r. r >>= (λ ys. Ok (z ∷ ys))) (on_last_lem e f (w ∷ zs) x) ∙ bind_assoc (f x) (λ y. Ok ((w ∷ zs) ++ y ∷ [])) (λ ys. Ok (z ∷ ys))

ends : {X : Type 0} (x : X) (xs : List X) → (ys : List X) × (y : X) × (x ∷ xs ≡ ys ++ y ∷ [])
ends x [] = ([], x, refl)
ends x (z ∷ zs) = let q = ends z zs in (x ∷ q.0, q.1, ap (◌∷◌ x) q.2)

-- operators that end with o, where the lines of their records are kept too
record Split (xs : List Placed) (os : List Oper) (o : Oper) : Type 0 where
  before : List Placed
  last : Placed
  is : xs ≡ before ++ last ∷ []
  before_is : opers before ≡ os
  last_is : last.oper ≡ o

split : (xs : List Placed) (os : List Oper) (o : Oper) → opers xs ≡ os ++ o ∷ [] → Split xs os o
split [] os o e = absurd (omega (arith, ap length e, length_push os o))
split (x ∷ xs) os o e =
    let q = ends x xs in
    let p = same_from_push (opers q.0) os q.1.oper o (sym (map_push (λ o. o.oper) q.0 q.1) ∙ ap opers (sym q.2) ∙ e) in
    record { before = q.0; last = q.1; is = q.2; before_is = p.0; last_is = p.1 }

part_read : {X : Type 0} (w : Way X) → WayRules w → (l : ℕ) (s : Reading) (os : List Oper) (o : Oper) (x : X) → Few s.vars → tidy (part_line w x) ≡ true → PartStep w (content s) os o x → Reads l s (part_line w x) (with_operators (content s) (os ++ more_part w o x ∷ []))
part_read w rules l s os o x few t k =
    let p = split s.opers os o k.was in
    let a : List ℕ = decimal (w.of x) in
    let b : List ℕ = decimal (w.val x) in
    let valued = k.fits.valued in
    let fits = subst (λ y. Fits w (sizes s.vars) (w.parts y) x) (sym p.last_is) k.fits in
    let new : Placed = record { line = p.last.line; oper = more_part w p.last.oper x } in
    let added = add_valued_lem w.of w.val w.make l s.vars (w.parts p.last.oper) x (rules.made_of x) few.few (values s.vars few (w.of x) (w.val x) valued) (below s.vars few (w.of x) (w.val x) valued) valued.1 fits.room fits.new in
    record {
      next = record { vars = s.vars; opers = p.before ++ new ∷ []; patterns = s.patterns };
      read =
          ap (λ r. r >>= add_some l s) (cut_tabbed l w.letter a (b ∷ []) rules.printed rules.told (valued_inked s.vars few (w.of x) (w.val x) valued) t)
          ∙ rules.cut l s a b
          ∙ bind_ok (part_place l s) tt _ (place_passes l _ true (no_lists s.patterns k.no_patterns) refl)
          ∙ bind_ok (on_last (Order l) (add_to w l s.vars a b) s.opers) (p.before ++ new ∷ []) _
          (ap (on_last (Order l) (add_to w l s.vars a b)) p.is ∙ on_last_lem (Order l) (add_to w l s.vars a b) p.before p.last
          ∙ bind_ok (add_to w l s.vars a b p.last) new _ (bind_ok (add_valued w.of w.make l s.vars a b (w.parts p.last.oper)) (w.parts p.last.oper ++ x ∷ []) _ added));
      says = ap (with_operators (content s)) (map_push (λ o. o.oper) p.before new ∙ ap (λ xs. xs ++ more_part w p.last.oper x ∷ []) p.before_is ∙ ap (λ y. os ++ more_part w y x ∷ []) p.last_is);
    }

indices_passes : (l n : ℕ) (vs ws : List ℕ) → n ≤ 16 → AllByRecursion (λ v. v < n) ws → indices_on l n vs (map decimal ws) ≡ Ok (vs ++ ws)
indices_passes l n vs [] few h = ap Ok (sym (append-nil vs))
indices_passes l n vs (w ∷ ws) few h =
    bind_ok (number_at (at l (length vs + 2)) 0 n (decimal w)) w (λ v. indices_on l n (vs ++ v ∷ []) (map decimal ws)) (number_at_lem (at l (length vs + 2)) 0 n w (omega arith) h.0 (omega (arith, h.0)))
    ∙ indices_passes l n (vs ++ w ∷ []) ws few h.1
    ∙ ap Ok (append_assoc vs (w ∷ []) ws)

pattern_read : (l : ℕ) (s : Reading) (p : List ℕ) → length s.vars ≤ 16 → PatternRules (length s.vars) p → length s.patterns < 2 → tidy (pattern_line p) ≡ true → line_on l s (pattern_line p) ≡ Ok (record { vars = s.vars; opers = s.opers; patterns = s.patterns ++ p ∷ [] })
pattern_read l s [] few h two t = absurd (omega (arith, h.some))
pattern_read l s (w ∷ ws) few h two t =
    ap (λ r. r >>= add_some l s) (cut_tabbed l 84 (decimal w) (map decimal ws) (omega arith, omega arith) (λ e. omega arith) (indices_inked (length s.vars) (w ∷ ws) few h.below) t)
    ∙ bind_ok (pattern_place l s) tt _ (place_passes l true _ refl (lt-ltb (length s.patterns) 2 two))
    ∙ bind_ok (indices_on l (length s.vars) [] (map decimal (w ∷ ws))) (w ∷ ws) _ (indices_passes l (length s.vars) [] (w ∷ ws) few h.below)
    ∙ bind_ok (distinct_on l [] (w ∷ ws)) tt _ (distinct_passes l [] (w ∷ ws) h.distinct)

step_read : {text : List ℕ} {d : Content} (l : ℕ) (s : Reading) → Kept (content s) → tidy text ≡ true → Step (content s) text d → Reads l s text d
step_read l s h t (v_line v k few e f) = record { next = _; read = variable_read l s v k few e f t; says = refl }
step_read l s h t (o_line name cost n k few f) =
    record { next = _; read = operator_read l s name cost n k (omega (arith, length-map s.opers (λ o. o.oper))) f t; says = ap (with_operators (content s)) (map_push (λ o. o.oper) s.opers (record { line = l; oper = fresh name cost })) }
step_read l s h t (r_line os o p k) = part_read R r_rules l s os o p (kept_few (content s) h) t k
step_read l s h t (e_line os o f k) = part_read E e_rules l s os o f (kept_few (content s) h) t k
step_read l s h t (t_line p k few) = record { next = _; read = pattern_read l s p h.few_variables k few t; says = refl }

-- lines are read after s, and c is what is said then
pub record ReadsOn (l : ℕ) (s : Reading) (ls : List (List ℕ)) (c : Content) : Type 0 where
  pub last : Reading
  pub read : read_on l s ls ≡ Ok last
  pub says : content last ≡ c

after : {l : ℕ} {s t : Reading} {text : List ℕ} {ls : List (List ℕ)} {c : Content} → line_on l s text ≡ Ok t → ReadsOn (l + 1) t ls c → ReadsOn l s (text ∷ ls) c
after {l} {s} {t} {text} {ls} e r = record { last = r.last; read = bind_ok (line_on l s text) t (λ u. read_on (l + 1) u ls) e ∙ r.read; says = r.says }

pub lines_read : (l : ℕ) (s : Reading) (ls : List (List ℕ)) (c : Content) → Kept (content s) → AllByRecursion (λ x. tidy x ≡ true) ls → Steps (content s) (telling ls) c → ReadsOn l s ls c
lines_read l s [] c h t e = record { last = s; read = refl; says = e }
lines_read l s (text ∷ ls) c h t p =
    ⊎_elim
    (λ e. after (ap (λ r. r >>= add_some l s) (cond-true (tidy text) _ _ t.0 ∙ cond-true (skipped text) _ _ e)) (lines_read (l + 1) s ls c h t.1 (at true e)))
    (λ e.
    let q = at false e in
    let r = step_read l s h t.0 q.1 in
    after r.read (lines_read (l + 1) r.next ls c (subst Kept (sym r.says) (step_kept h q.1)) t.1 (subst (λ b. Steps b (telling ls) c) (sym r.says) q.2)))
    (cases_Bool (skipped text))
  where
    at : (b : Bool) → skipped text ≡ b → Steps (content s) (cond (not b) (text ∷ telling ls) (telling ls)) c
    at b e = subst (λ b. Steps (content s) (cond (not b) (text ∷ telling ls) (telling ls)) c) e p
