-- The goal of variables that keep their rules: its facts are valued, and no variable is in it twice.
use Rattle.std.proofs.Common.{◌≡◌, ℕ, ◌+◌, ◌≤◌, List, [], ◌∷◌, ◌++◌, map, length, Some, None, Option, refl, append_assoc, arith}
use Rattle.std.specs.List.{AllByRecursion}
use Rattle.std.proofs.lemmas.List.{length-append, length_push, get_or_at}
use Rattle.std.proofs.ByRecursion.{All-weaker}
use Rattle.sas.specs.declared.Fact.{Fact}
use Rattle.sas.specs.Model.{Distinct, Valued}
use Rattle.cards.specs.Content.{Var, VarRules, Aimed, aim, goal_from, sizes}

abbrev spoken : List Fact → List ℕ
spoken fs = map (λ f. f.variable) fs

aim_from : (n : ℕ) (g : Option ℕ) (fs : List Fact) → AllByRecursion (λ x. n + 1 ≤ x) (spoken fs) → AllByRecursion (λ x. n ≤ x) (spoken (aim n g ++ fs))
aim_from n None fs h = All-weaker (λ x. n + 1 ≤ x) (λ x. n ≤ x) (λ x l. omega arith) (spoken fs) h
aim_from n (Some w) fs h = (omega arith, All-weaker (λ x. n + 1 ≤ x) (λ x. n ≤ x) (λ x l. omega arith) (spoken fs) h)

-- the variables that the goal of vs speaks of are numbered from n
goal_from_lem : (n : ℕ) (vs : List Var) → AllByRecursion (λ x. n ≤ x) (spoken (goal_from n vs))
goal_from_lem n [] = tt
goal_from_lem n (v ∷ vs) = aim_from n v.goal (goal_from (n + 1) vs) (goal_from_lem (n + 1) vs)

aim_distinct : (n : ℕ) (g : Option ℕ) (fs : List Fact) → AllByRecursion (λ x. n + 1 ≤ x) (spoken fs) → Distinct (spoken fs) → Distinct (spoken (aim n g ++ fs))
aim_distinct n None fs h d = d
aim_distinct n (Some w) fs h d = (All-weaker (λ x. n + 1 ≤ x) (λ x. n ≡ x → ⊥) (λ x l e. omega arith) (spoken fs) h, d)

pub goal_distinct : (n : ℕ) (vs : List Var) → Distinct (map (λ f. f.variable) (goal_from n vs))
goal_distinct n [] = tt
goal_distinct n (v ∷ vs) = aim_distinct n v.goal (goal_from (n + 1) vs) (goal_from_lem (n + 1) vs) (goal_distinct (n + 1) vs)

abbrev AllValued : List ℕ → List Fact → Type 0
AllValued zs fs = AllByRecursion (λ f. Valued zs f.variable f.value) fs

aim_valued : (front rest : List ℕ) (size : ℕ) (g : Option ℕ) (fs : List Fact) → Aimed size g → AllValued (front ++ size ∷ rest) fs → AllValued (front ++ size ∷ rest) (aim (length front) g ++ fs)
aim_valued front rest size None fs a h = h
aim_valued front rest size (Some w) fs a h = ((simp length-append (omega arith), rw (get_or_at front size rest 0 (length front) refl) a), h)

pub goal_valued : (front : List ℕ) (vs : List Var) → AllByRecursion VarRules vs → AllByRecursion (λ f. Valued (front ++ sizes vs) f.variable f.value) (goal_from (length front) vs)
goal_valued front [] h = tt
goal_valued front (v ∷ vs) h =
    aim_valued front (sizes vs) v.size v.goal (goal_from (length front + 1) vs) h.0.aimed
    (rw (append_assoc front (v.size ∷ []) (sizes vs), length_push front v.size) at (goal_valued (front ++ v.size ∷ []) vs h.1))
