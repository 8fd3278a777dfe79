-- One step more.
use Rattle.std.proofs.Common.{◌≡◌, [], get_or, take, Ok, sym, refl, ap, ◌∙◌, subst, rules}
use Rattle.std.proofs.lemmas.List.{take_more}
use Rattle.sas.specs.Runs.{stay, cost}
use Rattle.sas.proofs.Rules.{rules as model_rules}
use Rattle.tasks.specs.View.{model_of}
use Rattle.session.specs.Bench.{bench}
use Rattle.session.specs.Changes.{held}
use Rattle.session.specs.Checks.{Runs, Unbarred, Went, cost_in}
use Rattle.session.proofs.Following.{run_more, sum_more}
use Rattle.session.proofs.session.Session.follow.Goals as goal

pub loop-i-init : goal.loop-i-init
loop-i-init c =
    let b = bench c.args.self.now in
    (subst (Runs b []) (sym c.requires) (stay c.args.self.now.sound), refl)

pub loop-i-preserved : goal.loop-i-preserved
loop-i-preserved c =
    let s = c.args.self.now in
    let b = bench s in
    let os = c.args.steps.now in
    let i = c.loop-i.i-counter in
    let o = get_or os i 0 in
    let ok : c.go.result ≡ Ok c.in_ok-cost.cost = search rules in
    let went = subst (Went b o c.loop-i.values c.go.new.values) ok c.go.ensures in
    let more = take_more os i 0 c.loop-i-test.true in
    let run = run_more (model_of s.task) (Unbarred b) (model_rules (model_of s.task) s.task.rules) o c.go.new.values c.loop-i.invariant.0 went.0 went.1 in
    let sum = sum_more (cost_in b) (take i os) o c.loop-i.sum c.in_ok-cost.cost c.added-sum.result c.loop-i.invariant.1 went.2 c.added-sum.ensures in (
      subst (λ xs. Runs b xs c.go.new.values) (sym more) run,
      sum ∙ ap (λ xs. held (cost (cost_in b) xs)) (sym more),
    )
