-- Runs and their costs, one step longer.
use Rattle.std.proofs.Common.{◌≡◌, ℕ, ◌+◌, List, [], ◌∷◌, ◌++◌, arith}
use Rattle.sas.specs.Model.{Model, Rules}
use Rattle.sas.specs.Runs.{Run, stay, step, cost}
use Rattle.sas.specs.States.{Step}
use Rattle.sas.proofs.Steps.{step_laws}
use Rattle.session.specs.Changes.{held}

pub run_more : (m : Model) (allowed : ℕ → Type 0) → Rules m → {s os t : List ℕ} (o : ℕ) (u : List ℕ) → Run m allowed s os t → allowed o → Step m o t u → Run m allowed s (os ++ o ∷ []) u
run_more m allowed r {t = t} o u (stay h) a d = step a d (stay ((step_laws m r).to_state o t u d))
run_more m allowed r o u (step b e rest) a d = step b e (run_more m allowed r o u rest a d)

cost_more : (each : ℕ → ℕ) (os : List ℕ) (o : ℕ) → cost each (os ++ o ∷ []) ≡ cost each os + each o
cost_more each [] o = omega arith
cost_more each (x ∷ os) o = omega (arith, cost_more each os o)

pub sum_more : (each : ℕ → ℕ) (os : List ℕ) (o was c now : ℕ) → was ≡ held (cost each os) → c ≡ each o → now ≡ held (was + c) → now ≡ held (cost each (os ++ o ∷ []))
sum_more each os o was c now p q r = omega (arith, p, q, r, cost_more each os o)
