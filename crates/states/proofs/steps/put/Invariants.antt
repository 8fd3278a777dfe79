-- What is left of the effects gives the outcome of all.
use Rattle.std.proofs.Common.{◌≡◌, drop}
use Rattle.sas.specs.States.{outcome}
use Rattle.states.proofs.steps.put.Given as goal

abbrev pub invariant-loop-f : goal.invariant-loop-f
invariant-loop-f l = outcome (drop l.f-index l.effects) l.values ≡ outcome l.effects l.initial.values
