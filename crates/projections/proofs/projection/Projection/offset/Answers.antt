-- The variables of the free facts are the free variables.
use Rattle.std.proofs.Common.{◌≡◌, sym, ◌∙◌, map, ap, vec_items, rules}
use Rattle.projections.specs.Origins.{offset}
use Rattle.projections.specs.View.{view_of}
use Rattle.projections.proofs.Held.{by_option, none_free, free_held, free_is, read_is, read_number}
use Rattle.projections.proofs.projection.Projection.offset.Goals as goal

pub map_or-requires : goal.map_or-requires
map_or-requires c x e lifetimes address captured deref fits ended =
    let p = c.args.self.now in
    let o = c.args.operator in
    free_held p o x.now (read_is p o _ c.deref.ensures.value _ c.get.ensures.lookup x e) (read_number p o _ c.deref.ensures.value _ c.get.ensures.lookup x e) deref.result.now deref.ensures.0

pub returns : goal.returns
returns c =
    let p = c.args.self.now in
    let o = c.args.operator in
    by_option c.get.result c.map_or.ensures
    (λ e q. q ∙ sym (ap (λ vs. offset (view_of p).sizes vs c.args.n) (none_free p o _ c.deref.ensures.value _ c.get.ensures.lookup e)))
    (λ x e q.
    let made : c.map_or.result ≡ offset (view_of p).sizes (map (λ f. f.variable) (vec_items x.now.free)) c.args.n = search rules in
    made ∙ ap (λ vs. offset (view_of p).sizes vs c.args.n) (free_is p o x.now (read_is p o _ c.deref.ensures.value _ c.get.ensures.lookup x e)))
