-- The action of an operator that was read.
use Rattle.cards.specs.Content as said
use Rattle.drafts.specs.View.{placed}
use Rattle.drafts.specs.declared.parts.DraftOperator.{DraftOperator}
use Rattle.sas.specs.Model.{Action}

abbrev pub action_said : DraftOperator → Action
action_said d = said.action (placed d).oper
