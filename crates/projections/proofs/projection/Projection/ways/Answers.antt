-- The variables of the free facts are the free variables.
use Rattle.std.proofs.Common.{◌≡◌, sym, ◌∙◌, map, ap, vec_items, rules}
use Rattle.projections.specs.Origins.{ways}
use Rattle.projections.specs.View.{view_of}
use Rattle.projections.proofs.Held.{by_option, none_free, free_held, free_is, read_is, read_number}
use Rattle.projections.proofs.projection.Projection.ways.Goals as goal

pub map_or-requires : goal.map_or-requires
map_or-requires c x e lifetimes address captured deref ended =
    let p = c.args.self.now in
    let o = c.args.operator in
    free_held p o x.now (read_is p o _ c.deref.ensures.value _ c.get.ensures.lookup x e) (read_number p o _ c.deref.ensures.value _ c.get.ensures.lookup x e) deref.result.now deref.ensures.0

pub returns : goal.returns
returns c =
    let p = c.args.self.now in
    let o = c.args.operator in
    by_option c.get.result c.map_or.ensures
    (λ e q. q ∙ sym (ap (ways (view_of p).sizes) (none_free p o _ c.deref.ensures.value _ c.get.ensures.lookup e)))
    (λ x e q.
    let made : c.map_or.result ≡ ways (view_of p).sizes (map (λ f. f.variable) (vec_items x.now.free)) = search rules in
    made ∙ ap (ways (view_of p).sizes) (free_is p o x.now (read_is p o _ c.deref.ensures.value _ c.get.ensures.lookup x e)))
