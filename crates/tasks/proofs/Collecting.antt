-- What a chain collects of what was read.
use Rattle.std.proofs.Common.{◌≡◌, ℕ, ◌<◌, List, [], ◌∷◌, map, length, get_or, refl, sym, ◌∙◌, Result, Vec, vec_items, Ok, Err, IfOk, Global, arith, suc, ◌+◌, ◌++◌, Option, Some, None, ap, option_map}
use Rattle.std.proofs.lemmas.Simd.{map-map}
use Rattle.std.specs.List.{filter_map, enumerate_from, cons_option}
use Rattle.sas.specs.declared.Fact.{Fact}
use Rattle.cards.specs.Content as said
use Rattle.cards.specs.Content.{aim, goal_from}
use Rattle.drafts.specs.View.{plain_var, placed}
use Rattle.drafts.specs.declared.parts.Variable.{Variable}
use Rattle.drafts.specs.declared.parts.DraftOperator.{DraftOperator}
use Rattle.tasks.specs.Gathered.{action_said}
use Rattle.tasks.specs.Parts.{action}
use Rattle.tasks.specs.declared.task.Operator.{Operator}

-- a part of what each says is that part of each
pub map_collected : {X Y Z E : Type 0} (g : Y → Z) (f : X → Y) (xs : List X) (r : Result (Vec Z Global) E) → IfOk r (λ v. vec_items v ≡ map (λ x. g (f x)) xs) → IfOk r (λ v. vec_items v ≡ map g (map f xs))
map_collected g f xs (Ok v) is = is ∙ sym (map-map g f xs)
map_collected g f xs (Err e) is = tt

-- lists are made the same of where each element is
pub each_made : {X Y Z : Type 0} (g : Y → Z) (f : X → Z) (ys : List Y) (xs : List X) → length ys ≡ length xs → ((k : ℕ) (d : Y) (e : X) → k < length xs → g (get_or ys k d) ≡ f (get_or xs k e)) → map g ys ≡ map f xs
each_made g f [] [] len each = refl
each_made g f [] (x ∷ xs) len each = absurd (omega (arith, len))
each_made g f (y ∷ ys) [] len each = absurd (omega (arith, len))
each_made g f (y ∷ ys) (x ∷ xs) len each = λ i. each 0 y x (omega arith) i ∷ each_made g f ys xs (omega (arith, len)) (λ k d e within. each (suc k) d e (omega (arith, within))) i

pub actions_collected : {E : Type 0} (ds : List DraftOperator) (r : Result (Vec Operator Global) E) → IfOk r (λ v. length (vec_items v) ≡ length ds) → IfOk r (λ v. (k : ℕ) (o : Operator) (d : DraftOperator) → k < length ds → action (get_or (vec_items v) k o) ≡ action_said (get_or ds k d)) → IfOk r (λ v. map action (vec_items v) ≡ map said.action (map (λ o. o.oper) (map placed ds)))
actions_collected ds (Ok v) len each = each_made action action_said (vec_items v) ds len each ∙ sym (map-map (λ p. said.action p.oper) placed ds) ∙ sym (map-map said.action (λ o. o.oper) (map placed ds))
actions_collected ds (Err e) len each = tt

-- what the goal asks of a variable that has a number before it
abbrev pub aimed : ℕ × Variable → Option Fact
aimed p = option_map (λ value. record { variable = p.0; value = value }) p.1.goal

pub one_aimed : (n : ℕ) (o : Option ℕ) (fs : List Fact) → cons_option (option_map (λ value. record { variable = n; value = value }) o) fs ≡ aim n o ++ fs
one_aimed n None fs = refl
one_aimed n (Some w) fs = refl

pub goal_filtered : (n : ℕ) (vs : List Variable) → filter_map aimed (enumerate_from n vs) ≡ goal_from n (map plain_var vs)
goal_filtered n [] = refl
goal_filtered n (v ∷ vs) = one_aimed n v.goal (filter_map aimed (enumerate_from (n + 1) vs)) ∙ ap (λ fs. aim n v.goal ++ fs) (goal_filtered (n + 1) vs)

pub goal_collected : {E : Type 0} (vs : List Variable) (r : Result (Vec Fact Global) E) → IfOk r (λ v. vec_items v ≡ filter_map aimed (enumerate_from 0 vs)) → IfOk r (λ v. vec_items v ≡ goal_from 0 (map plain_var vs))
goal_collected vs (Ok v) is = is ∙ goal_filtered 0 vs
goal_collected vs (Err e) is = tt
