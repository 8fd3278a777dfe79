-- A line that is read is tidy, and says nothing or may stand where it is.
use Rattle.std.proofs.Common.{◌≡◌, ℕ, ◌+◌, ◌^◌, ◌<◌, ◌≤◌, Bool, true, false, cond, not, ◌&&◌, eqb, ltb, leb, List, [], ◌∷◌, ◌++◌, map, length, get_or, is_some, IfOk, Some, None, Ok, Err, decimal, Option, Result, sym, refl, ap, ◌∙◌, subst, append_assoc, append-nil, arith}
use Rattle.std.specs.List.{AllByRecursion}
use Rattle.std.proofs.lemmas.List.{length-map, map_push, nil_from_length}
use Rattle.std.proofs.lemmas.List.Elements.{filter-append}
use Rattle.std.proofs.lemmas.Result.{IfOk-weaker}
use Rattle.std.proofs.lemmas.Bool.{and_parts, leb-true, ltb-true, eqb-true, cond_both}
use Rattle.fields.specs.declared.place.Place.{Place}
use Rattle.fields.specs.declared.faults.FieldFault.{FieldFault}
use Rattle.fields.specs.declared.faults.FieldFault.TheVariants.{NoName, NoNumber}
use Rattle.fields.specs.declared.faults.LineFault.{LineFault}
use Rattle.fields.specs.declared.faults.LineFault.TheVariants.{Order}
use Rattle.fields.specs.Text.{is_name, numeral, pieces, tidy}
use Rattle.fields.specs.Fields.{at, name, number, dash, text_of, name_field, number_field, from, value_in}
use Rattle.fields.specs.Lines.{Cut, variable, operator, precondition, effect, pattern, cut_line, map_ok, four, two, some, by_letter, by_fields, skipped}
use Rattle.sas.specs.Model.{Distinct}
use Rattle.cards.specs.Content.{Var, Oper, Aimed, sizes}
use Rattle.cards.specs.Reading.{Placed, Reading, ◌>>=◌, in_field, name_at, number_at, goal_in, goal_at, variable_of, operator_of, valued_of, member, add_valued, on_last, none, place_for, variable_place, operator_place, part_place, pattern_place, add_variable, add_operator, add_part, indices_on, distinct_on, add_pattern, add_record, add_some, line_on, read_on, content}
use Rattle.cards.specs.Spelling.{tabbed, goal_text, variable_line, operator_line, telling}
use Rattle.cards.proofs.Chains.{made_bind, made_map_ok, made_in_field, made_test, made_unless}
use Rattle.cards.proofs.Apart.{distinct_on_lem}
use Rattle.cards.proofs.Numerals.{decimal_numeral}
use Rattle.cards.proofs.Pieces.{rejoined, rejoined_pieces}
use Rattle.cards.proofs.Steps.{VarKept, Way, R, E, add_to, WayRules, r_rules, e_rules, part_line, Fits, Kept, Few, kept_few, size_small, with_operators, with_pattern, fresh, more_part, PartStep, Step, step_as, v_line, o_line, r_line, e_line, t_line, Steps, steps_kept, steps_append}

-- fields
name_made : (q : Place) (text : List ℕ) → IfOk (name_at q text) (λ t. (is_name t ≡ true) × (t ≡ text))
name_made q text =
    made_in_field _ (map_ok text_of (name_field q text)) (made_map_ok _ text_of (name_field q text) (made_test (λ p. (is_name (text_of p) ≡ true) × (text_of p ≡ text)) (is_name text) (Ok (name text q)) (NoName q) (λ e. (e, refl))))

-- the text writes n, which is from low to below end
record Number (low end : ℕ) (text : List ℕ) (n : ℕ) : Type 0 where
  above : low ≤ n
  below : n < end
  spelled : n < 2 ^ 64 → decimal n ≡ text

from_made : (low end : ℕ) (e : FieldFault) (o : Option ℕ) → IfOk (from low end e o) (λ n. (o ≡ Some n) × (low ≤ n) × (n < end))
from_made low end e None = tt
from_made low end e (Some n) =
    made_test (λ m. (Some n ≡ Some m) × (low ≤ m) × (m < end)) (leb low n && ltb n end) (Ok n) e
    (λ h. let p = and_parts (leb low n) (ltb n end) h in (refl, leb-true low n p.0, ltb-true n end p.1))

value_made : (q : Place) (low end : ℕ) (text : List ℕ) → IfOk (value_in low end (number text q)) (Number low end text)
value_made q low end text =
    IfOk-weaker (from low end (NoNumber q) (numeral text)) _ (Number low end text) (λ n h. record { above = h.1; below = h.2; spelled = decimal_numeral n text h.0 }) (from_made low end (NoNumber q) (numeral text))

-- what is made of a number field, whatever follows
field_made : {X : Type 0} (P : X → Type 0) (q : Place) (text : List ℕ) (next : _ → Result X FieldFault) → IfOk (next (number text q)) P → IfOk (in_field (number_field q text >>= next)) P
field_made P q text next h =
    made_in_field P (number_field q text >>= next) (cond_both (is_some (numeral text)) (Ok (number text q)) (Err (NoNumber q)) (λ r. IfOk (r >>= next) P) (λ _. h) (λ _. tt))

number_made : (q : Place) (low end : ℕ) (text : List ℕ) → IfOk (number_at q low end text) (Number low end text)
number_made q low end text = field_made (Number low end text) q text (value_in low end) (value_made q low end text)

abbrev Goal : ℕ → List ℕ → Option ℕ → Type 0
Goal size text g = Aimed size g × (size ≤ 16 → goal_text g ≡ text)

goal_number : (q : Place) (size : ℕ) (text : List ℕ) → IfOk (in_field (number_field q text >>= goal_in size)) (Goal size text)
goal_number q size text =
    field_made (Goal size text) q text (goal_in size)
    (made_map_ok (Goal size text) Some (value_in 0 size (number text q)) (IfOk-weaker (value_in 0 size (number text q)) (Number 0 size text) _ (λ n h. (h.below, λ k. h.spelled (omega arith))) (value_made q 0 size text)))

goal_made : (q : Place) (size : ℕ) (text : List ℕ) → IfOk (goal_at q size text) (Goal size text)
goal_made q size [] = goal_number q size []
goal_made q size (b ∷ []) =
    cond_both (eqb b 45) (Ok (dash q)) (number_field q (b ∷ [])) (λ r. IfOk (in_field (r >>= goal_in size)) (Goal size (b ∷ [])))
    (λ e. (tt, λ _. ap (λ x. x ∷ []) (sym (eqb-true b 45 e))))
    (λ _. goal_number q size (b ∷ []))
goal_made q size (b ∷ c ∷ cs) = goal_number q size (b ∷ c ∷ cs)

-- records
variable_made : (l : ℕ) (n z a g : List ℕ) → IfOk (variable_of l n z a g) (λ v. VarKept v × (variable_line v ≡ tabbed (86 ∷ []) (n ∷ z ∷ a ∷ g ∷ [])))
variable_made l n z a g =
    made_bind _ _ (name_at (at l 2) n) _ (name_made (at l 2) n)
    (λ called e. made_bind (Number 2 17 z) _ (number_at (at l 3) 2 17 z) _ (number_made (at l 3) 2 17 z)
    (λ size b. made_bind (Number 0 size a) _ (number_at (at l 4) 0 size a) _ (number_made (at l 4) 0 size a)
    (λ start c. made_bind (Goal size g) _ (goal_at (at l 5) size g) _ (goal_made (at l 5) size g)
    (λ goal d.
    let p : called ≡ n = e.1 in
    let q : decimal size ≡ z = b.spelled (omega arith) in
    let r : decimal start ≡ a = c.spelled (omega arith) in
    let s : goal_text goal ≡ g = d.1 (omega arith) in
    (record { rules = record { named = e.0; started = c.below; aimed = d.0 }; large = b.above; small = omega arith }, cc)))))

record OperMade (n c : List ℕ) (o : Placed) : Type 0 where
  name : List ℕ
  cost : ℕ
  is : o.oper ≡ fresh name cost
  named : is_name name ≡ true
  cheap : cost < 65536
  spelled : operator_line (fresh name cost) ≡ tabbed (79 ∷ []) (n ∷ c ∷ [])

operator_made : (l : ℕ) (n c : List ℕ) → IfOk (operator_of l n c) (OperMade n c)
operator_made l n c =
    made_bind _ (OperMade n c) (name_at (at l 2) n) _ (name_made (at l 2) n)
    (λ called e. made_bind (Number 0 65536 c) (OperMade n c) (number_at (at l 3) 0 65536 c) _ (number_made (at l 3) 0 65536 c)
    (λ cost b.
    let p : called ≡ n = e.1 in
    let q : decimal cost ≡ c = b.spelled (omega arith) in
    record { name = called; cost = cost; is = refl; named = e.0; cheap = b.below; spelled = cc }))

valued_made : (l : ℕ) (vs : List Var) (a b : List ℕ) → Few vs → IfOk (valued_of l vs a b) (λ p. (p.0 < length vs) × (p.1 < get_or (sizes vs) p.0 0) × (decimal p.0 ≡ a) × (decimal p.1 ≡ b))
valued_made l vs a b h =
    made_bind (Number 0 (length vs) a) _ (number_at (at l 2) 0 (length vs) a) _ (number_made (at l 2) 0 (length vs) a)
    (λ v p. made_bind (Number 0 (get_or (sizes vs) v 0) b) _ (number_at (at l 3) 0 (get_or (sizes vs) v 0) b) _ (number_made (at l 3) 0 (get_or (sizes vs) v 0) b)
    (λ x q. (p.below, q.below, p.spelled (omega (arith, h.few)), q.spelled (omega (arith, size_small vs v h p.below)))))

-- xs with one part more
record PartMade {X : Type 0} (w : Way X) (vs : List Var) (a b : List ℕ) (xs ys : List X) : Type 0 where
  part : X
  is : ys ≡ xs ++ part ∷ []
  fits : Fits w (sizes vs) xs part
  spelled : part_line w part ≡ tabbed (w.letter ∷ []) (a ∷ b ∷ [])

parts_made : {X : Type 0} (w : Way X) → WayRules w → (l : ℕ) (vs : List Var) (a b : List ℕ) (xs : List X) → Few vs → IfOk (add_valued w.of w.make l vs a b xs) (PartMade w vs a b xs)
parts_made w m l vs a b xs h =
    made_test (PartMade w vs a b xs) (ltb (length xs) 8) _ _
    (λ room. made_bind _ (PartMade w vs a b xs) (valued_of l vs a b) _ (valued_made l vs a b h)
    (λ p v. made_unless (PartMade w vs a b xs) (member p.0 (map w.of xs)) _ _
    (λ new. record {
      part = w.make p;
      is = refl;
      fits = record { room = ltb-true (length xs) 8 room; valued = rw (m.of_made p, m.val_made p, length-map vs (λ u. u.size)) (v.0, v.1); new = rw (m.of_made p) new };
      spelled = rw (m.of_made p, m.val_made p, v.2, v.3);
    })))

-- the last of xs is changed, by Q
record Last {X : Type 0} (Q : X → X → Type 0) (xs ys : List X) : Type 0 where
  before : List X
  old : X
  new : X
  was : xs ≡ before ++ old ∷ []
  is : ys ≡ before ++ new ∷ []
  change : Q old new

last_made : {X : Type 0} (Q : X → X → Type 0) (e : LineFault) (f : X → Result X LineFault) → ((x : X) → IfOk (f x) (Q x)) → (xs : List X) → IfOk (on_last e f xs) (Last Q xs)
last_made Q e f k [] = tt
last_made Q e f k (x ∷ []) = made_bind (Q x) _ (f x) _ (k x) (λ y q. record { before = []; old = x; new = y; was = refl; is = refl; change = q })
last_made Q e f k (x ∷ z ∷ zs) =
    made_bind (Last Q (z ∷ zs)) _ (on_last e f (z ∷ zs)) _ (last_made Q e f k (z ∷ zs))
    (λ ys h. record { before = x ∷ h.before; old = h.old; new = h.new; was = ap (◌∷◌ x) h.was; is = ap (◌∷◌ x) h.is; change = h.change })

place_made : (l : ℕ) (ordered room : Bool) → IfOk (place_for l ordered room) (λ _. (ordered ≡ true) × (room ≡ true))
place_made l true true = (refl, refl)
place_made l true false = tt
place_made l false room = tt

none_nil : {X : Type 0} (xs : List X) → none xs ≡ true → xs ≡ []
none_nil xs e = nil_from_length xs (eqb-true (length xs) 0 e)

indices_made : (l n : ℕ) (vs : List ℕ) (ts : List (List ℕ)) → n ≤ 16 → IfOk (indices_on l n vs ts) (λ ws. (us : List ℕ) × (ws ≡ vs ++ us) × AllByRecursion (λ v. v < n) us × (map decimal us ≡ ts))
indices_made l n vs [] h = ([], sym (append-nil vs), tt, refl)
indices_made l n vs (t ∷ ts) h =
    made_bind (Number 0 n t) _ (number_at (at l (length vs + 2)) 0 n t) _ (number_made (at l (length vs + 2)) 0 n t)
    (λ v k. IfOk-weaker (indices_on l n (vs ++ v ∷ []) ts) _ _
    (λ ws (us, e, b, d). let q : decimal v ≡ t = k.spelled (omega arith) in (v ∷ us, e ∙ append_assoc vs (v ∷ []) us, (k.below, b), cc))
    (indices_made l n (vs ++ v ∷ []) ts h))

-- the line of a record
abbrev line_of : Cut → List ℕ
line_of (variable n z a g) = tabbed (86 ∷ []) (n ∷ z ∷ a ∷ g ∷ [])
line_of (operator n c) = tabbed (79 ∷ []) (n ∷ c ∷ [])
line_of (precondition a b) = tabbed (82 ∷ []) (a ∷ b ∷ [])
line_of (effect a b) = tabbed (69 ∷ []) (a ∷ b ∷ [])
line_of (pattern ts) = tabbed (84 ∷ []) ts

-- a T line has a variable
abbrev Filled : Cut → Type 0
Filled (variable n z a g) = Unit {0}
Filled (operator n c) = Unit {0}
Filled (precondition a b) = Unit {0}
Filled (effect a b) = Unit {0}
Filled (pattern ts) = 1 ≤ length ts

-- what is read is what was read before with the line on top
abbrev Taken : Reading → List ℕ → Reading → Type 0
Taken s text t = Step (content s) text (content t)

variable_taken : (l : ℕ) (s : Reading) (n z a g : List ℕ) → IfOk (add_variable l s n z a g) (Taken s (tabbed (86 ∷ []) (n ∷ z ∷ a ∷ g ∷ [])))
variable_taken l s n z a g =
    made_bind _ _ (variable_place l s) _ (place_made l (none s.opers && none s.patterns) (ltb (length s.vars) 16))
    (λ _ p. made_bind _ _ (variable_of l n z a g) _ (variable_made l n z a g)
    (λ v k. let q = and_parts (none s.opers) (none s.patterns) p.0 in
    step_as k.1 refl
    (v_line v k.0 (ltb-true (length s.vars) 16 p.1) (ap (map (λ o. o.oper)) (none_nil s.opers q.0)) (none_nil s.patterns q.1))))

operator_taken : (l : ℕ) (s : Reading) (n c : List ℕ) → IfOk (add_operator l s n c) (Taken s (tabbed (79 ∷ []) (n ∷ c ∷ [])))
operator_taken l s n c =
    made_bind _ _ (operator_place l s) _ (place_made l (none s.patterns) (ltb (length s.opers) 128))
    (λ _ p. made_bind (OperMade n c) _ (operator_of l n c) _ (operator_made l n c)
    (λ o k.
    let room : length (map (λ o. o.oper) s.opers) < 128 = omega (arith, length-map s.opers (λ o. o.oper), ltb-true (length s.opers) 128 p.1) in
    step_as k.spelled (ap (with_operators (content s)) (ap (λ x. map (λ o. o.oper) s.opers ++ x ∷ []) (sym k.is) ∙ sym (map_push (λ o. o.oper) s.opers o)))
    (o_line k.name k.cost k.named k.cheap room (none_nil s.patterns p.0))))

-- an R or an E line, by the step that it is
part_taken : {X : Type 0} (w : Way X) → WayRules w → (l : ℕ) (s : Reading) (a b : List ℕ) → Few s.vars → ((os : List Oper) (o : Oper) (x : X) → PartStep w (content s) os o x → Step (content s) (part_line w x) (with_operators (content s) (os ++ more_part w o x ∷ []))) → IfOk (add_part l s (add_to w l s.vars a b)) (Taken s (tabbed (w.letter ∷ []) (a ∷ b ∷ [])))
part_taken w m l s a b few step =
    made_bind _ _ (part_place l s) _ (place_made l (none s.patterns) true)
    (λ _ p. made_bind (Last Change s.opers) _ (on_last (Order l) (add_to w l s.vars a b) s.opers) _ (last_made Change (Order l) (add_to w l s.vars a b) changes s.opers)
    (λ os h.
    let oper : Placed → Oper = λ o. o.oper in
    let k = h.change in
    let done : List Oper = map oper h.before in
    step_as k.2 (ap (with_operators (content s)) (ap (λ x. done ++ x ∷ []) (sym k.1) ∙ sym (map_push oper h.before h.new) ∙ ap (map oper) (sym h.is)))
    (step done h.old.oper k.0 (record { was = ap (map oper) h.was ∙ map_push oper h.before h.old; no_patterns = none_nil s.patterns p.0; fits = k.3 }))))
  where
    Change : Placed → Placed → Type 0
    Change o p = (x : _) × (p.oper ≡ more_part w o.oper x) × (part_line w x ≡ tabbed (w.letter ∷ []) (a ∷ b ∷ [])) × Fits w (sizes s.vars) (w.parts o.oper) x

    changes : (o : Placed) → IfOk (add_to w l s.vars a b o) (Change o)
    changes o =
        made_bind (PartMade w s.vars a b (w.parts o.oper)) (Change o) (add_valued w.of w.make l s.vars a b (w.parts o.oper)) _ (parts_made w m l s.vars a b (w.parts o.oper) few)
        (λ xs k. (k.part, ap (w.having o.oper) k.is, k.spelled, k.fits))

pattern_taken : (l : ℕ) (s : Reading) (ts : List (List ℕ)) → 1 ≤ length ts → Few s.vars → IfOk (add_pattern l s ts) (Taken s (tabbed (84 ∷ []) ts))
pattern_taken l s ts filled few =
    made_bind _ _ (pattern_place l s) _ (place_made l true (ltb (length s.patterns) 2))
    (λ _ p. made_bind _ _ (indices_on l (length s.vars) [] ts) _ (indices_made l (length s.vars) [] ts few.few)
    (λ vs (us, e, b, d). made_bind (λ _. Distinct vs) _ (distinct_on l [] vs) _ (distinct_on_lem l [] vs tt)
    (λ _ k. step_as (ap (tabbed (84 ∷ [])) d) (ap (with_pattern (content s)) (sym e))
    (t_line us (record { some = omega (arith, length-map us decimal, ap length d); below = b; distinct = subst Distinct e k }) (ltb-true (length s.patterns) 2 p.1)))))

record_taken : (l : ℕ) (s : Reading) (c : Cut) → Filled c → Few s.vars → IfOk (add_record l s c) (Taken s (line_of c))
record_taken l s (variable n z a g) f h = variable_taken l s n z a g
record_taken l s (operator n c) f h = operator_taken l s n c
record_taken l s (precondition a b) f h = part_taken R r_rules l s a b h r_line
record_taken l s (effect a b) f h = part_taken E e_rules l s a b h e_line
record_taken l s (pattern ts) f h = pattern_taken l s ts f h

-- the fields ps are cut into this record
abbrev CutFrom : List (List ℕ) → Option Cut → Type 0
CutFrom ps None = ⊥
CutFrom ps (Some c) = (rejoined ps ≡ line_of c) × Filled c

four_cut : (b : ℕ) → b ≡ 86 → (l : ℕ) (ts : List (List ℕ)) → IfOk (four l ts) (CutFrom ((b ∷ []) ∷ ts))
four_cut b e l [] = tt
four_cut b e l (w ∷ []) = tt
four_cut b e l (w ∷ x ∷ []) = tt
four_cut b e l (w ∷ x ∷ y ∷ []) = tt
four_cut b e l (w ∷ x ∷ y ∷ z ∷ []) = (ap (λ i. tabbed (i ∷ []) (w ∷ x ∷ y ∷ z ∷ [])) e, tt)
four_cut b e l (w ∷ x ∷ y ∷ z ∷ t ∷ ts) = tt

two_cut : (b : ℕ) (make : List ℕ → List ℕ → Cut) → ((x y : List ℕ) → (tabbed (b ∷ []) (x ∷ y ∷ []) ≡ line_of (make x y)) × Filled (make x y)) → (l : ℕ) (ts : List (List ℕ)) → IfOk (two make l ts) (CutFrom ((b ∷ []) ∷ ts))
two_cut b make k l [] = tt
two_cut b make k l (x ∷ []) = tt
two_cut b make k l (x ∷ y ∷ []) = k x y
two_cut b make k l (x ∷ y ∷ z ∷ zs) = tt

some_cut : (b : ℕ) → b ≡ 84 → (l : ℕ) (ts : List (List ℕ)) → IfOk (some l ts) (CutFrom ((b ∷ []) ∷ ts))
some_cut b e l [] = tt
some_cut b e l (x ∷ xs) = (ap (λ i. tabbed (i ∷ []) (x ∷ xs)) e, omega arith)

letter_cut : (l : ℕ) (first : List ℕ) (rest : List (List ℕ)) → IfOk (by_letter l first rest) (CutFrom (first ∷ rest))
letter_cut l [] rest = tt
letter_cut l (b ∷ []) rest =
    cond_both (eqb b 86) _ _ P (λ e. four_cut b (eqb-true b 86 e) l rest)
    (λ _. cond_both (eqb b 79) _ _ P (λ e. two_cut b operator (λ x y. (ap (λ i. tabbed (i ∷ []) (x ∷ y ∷ [])) (eqb-true b 79 e), tt)) l rest)
    (λ _. cond_both (eqb b 82) _ _ P (λ e. two_cut b precondition (λ x y. (ap (λ i. tabbed (i ∷ []) (x ∷ y ∷ [])) (eqb-true b 82 e), tt)) l rest)
    (λ _. cond_both (eqb b 69) _ _ P (λ e. two_cut b effect (λ x y. (ap (λ i. tabbed (i ∷ []) (x ∷ y ∷ [])) (eqb-true b 69 e), tt)) l rest)
    (λ _. cond_both (eqb b 84) _ _ P (λ e. some_cut b (eqb-true b 84 e) l rest) (λ _. tt)))))
  where
    P : Result (Option Cut) LineFault → Type 0
    P r = IfOk r (CutFrom ((b ∷ []) ∷ rest))
letter_cut l (b ∷ c ∷ cs) rest = tt

fields_cut : (l : ℕ) (ps : List (List ℕ)) → IfOk (by_fields l ps) (CutFrom ps)
fields_cut l [] = tt
fields_cut l (first ∷ rest) = letter_cut l first rest

-- a line that is cut says nothing, or is the record
abbrev CutLine : List ℕ → Option Cut → Type 0
CutLine text None = skipped text ≡ true
CutLine text (Some c) = (skipped text ≡ false) × (text ≡ line_of c) × Filled c

line_cut : (text : List ℕ) → skipped text ≡ false → (o : Option Cut) → CutFrom (pieces 9 text) o → CutLine text o
line_cut text e None h = absurd h
line_cut text e (Some c) h = (e, sym (rejoined_pieces text) ∙ h.0, h.1)

cut_made : (l : ℕ) (text : List ℕ) → IfOk (cut_line l text) (λ o. (tidy text ≡ true) × CutLine text o)
cut_made l text =
    made_test _ (tidy text) _ _
    (λ t. cond_both (skipped text) (Ok None) (by_fields l (pieces 9 text)) (λ r. IfOk r (λ o. (tidy text ≡ true) × CutLine text o))
    (λ e. (t, e))
    (λ e. IfOk-weaker (by_fields l (pieces 9 text)) (CutFrom (pieces 9 text)) _ (λ o h. (t, line_cut text e o h)) (fields_cut l (pieces 9 text))))

some_taken : (l : ℕ) (s : Reading) (text : List ℕ) (o : Option Cut) → CutLine text o → Few s.vars → IfOk (add_some l s o) (λ t. Steps (content s) (telling (text ∷ [])) (content t))
some_taken l s text None e h = subst (λ b. Steps (content s) (cond (not b) (text ∷ []) []) (content s)) (sym e) refl
some_taken l s text (Some c) (e, x, f) h =
    IfOk-weaker (add_record l s c) (Taken s (line_of c)) _
    (λ t k. subst (λ b. Steps (content s) (cond (not b) (text ∷ []) []) (content t)) (sym e) (content t, step_as (sym x) refl k, refl))
    (record_taken l s c f h)

-- lines that are read are tidy, and those that say something may stand one after another
pub lines_taken : (l : ℕ) (s : Reading) (texts : List (List ℕ)) → Kept (content s) → IfOk (read_on l s texts) (λ t. AllByRecursion (λ x. tidy x ≡ true) texts × Steps (content s) (telling texts) (content t))
lines_taken l s [] h = (tt, refl)
lines_taken l s (text ∷ texts) h =
    made_bind (λ t. (tidy text ≡ true) × Steps (content s) (telling (text ∷ [])) (content t)) _ (line_on l s text) (λ t. read_on (l + 1) t texts)
    (made_bind _ _ (cut_line l text) (add_some l s) (cut_made l text) (λ o k. IfOk-weaker (add_some l s o) _ _ (λ t p. (k.0, p)) (some_taken l s text o k.1 (kept_few (content s) h))))
    (λ t k. IfOk-weaker (read_on (l + 1) t texts) _ _
    (λ u p. ((k.0, p.0), subst (λ ls. Steps (content s) ls (content u)) (sym (filter-append (λ x. not (skipped x)) (text ∷ []) texts)) (steps_append (content s) (content t) (content u) (telling (text ∷ [])) (telling texts) k.1 p.1)))
    (lines_taken (l + 1) t texts (steps_kept (content s) (content t) (telling (text ∷ [])) h k.1)))
