-- What a card says: variables, operators and patterns; the task among it; and what a bench takes.
use Rattle.std.specs.Prelude.{◌≡◌, ℕ, ◌+◌, ◌<◌, ◌≤◌, true, List, [], ◌∷◌, ◌++◌, map, length, Some, None, Option}
use Rattle.std.specs.List.{AllByRecursion}
use Rattle.sas.specs.declared.Precondition.{Precondition}
use Rattle.sas.specs.declared.Fact.{Fact}
use Rattle.sas.specs.Model.{Action, Model, Rules, Distinct}
use Rattle.fields.specs.Text.{is_name}

pub record Var : Type 0 where
  pub name : List ℕ
  pub size : ℕ
  pub start : ℕ
  pub goal : Option ℕ

pub record Oper : Type 0 where
  pub name : List ℕ
  pub cost : ℕ
  pub preconditions : List Precondition
  pub effects : List Fact

pub record Content : Type 0 where
  pub variables : List Var
  pub operators : List Oper
  pub patterns : List (List ℕ)

abbrev pub sizes : List Var → List ℕ
sizes vs = map (λ v. v.size) vs

-- what the goal asks of the variable v
abbrev pub aim : ℕ → Option ℕ → List Fact
aim v None = []
aim v (Some w) = record { variable = v; value = w } ∷ []

-- the goal of the variables vs, which are numbered from n
abbrev pub goal_from : ℕ → List Var → List Fact
goal_from n [] = []
goal_from n (v ∷ vs) = aim n v.goal ++ goal_from (n + 1) vs

abbrev pub action : Oper → Action
action o = record { preconditions = o.preconditions; effects = o.effects }

-- the task that a card gives
abbrev pub task_of : Content → Model
task_of c = record { sizes = sizes c.variables; goal = goal_from 0 c.variables; operators = map action c.operators }

abbrev pub Aimed : ℕ → Option ℕ → Type 0
Aimed size None = Unit {0}
Aimed size (Some w) = w < size

pub record VarRules (v : Var) : Type 0 where
  pub named : is_name v.name ≡ true
  pub started : v.start < v.size
  pub aimed : Aimed v.size v.goal

pub record OperRules (o : Oper) : Type 0 where
  pub named : is_name o.name ≡ true
  pub cheap : o.cost ≤ 65535

-- a pattern of a task of n variables
pub record PatternRules (n : ℕ) (vs : List ℕ) : Type 0 where
  pub some : 1 ≤ length vs
  pub below : AllByRecursion (λ v. v < n) vs
  pub distinct : Distinct vs

pub record Lawful (c : Content) : Type 0 where
  pub rules : Rules (task_of c)
  pub variables : AllByRecursion VarRules c.variables
  pub operators : AllByRecursion OperRules c.operators
  pub few_patterns : length c.patterns ≤ 2
  pub patterns : AllByRecursion (PatternRules (length c.variables)) c.patterns

-- what stands for a variable or an operator that a card does not have
abbrev pub no_var : Var
no_var = record { name = []; size = 0; start = 0; goal = None }

abbrev pub no_oper : Oper
no_oper = record { name = []; cost = 0; preconditions = []; effects = [] }
