-- The ranks from which an operator leads to a rank: the one in which its free variables are 0, and what their choices add.
use Rattle.std.proofs.Common.{◌≡◌, ℕ, ◌+◌, ◌<◌, List, map, length, get_or, sym, ap, ◌∙◌, subst, arith}
use mathlib.Core.List.{map-id, map-map}
use Rattle.std.specs.List.{AllByRecursion}
use Rattle.std.proofs.ByRecursion.{All-map, All-weaker}
use Rattle.sas.specs.Model.{Model, Distinct, Valued}
use Rattle.sas.specs.Ranks.{rank, states}
use Rattle.sas.specs.States.{State, Step, outcome, operator}
use Rattle.sas.specs.declared.Fact.{Fact}
use Rattle.sas.proofs.Outcomes.{outcome_gives, outcome_keeps, outcome_state}
use Rattle.sas.proofs.Steps.{from_state}
use Rattle.sas.proofs.Unranks.{unrank, rank_apart}
use Rattle.projections.specs.Asked.{as_precondition, at_zero}
use Rattle.projections.specs.Origins.{Origin, free, offset, unasked, ways}
use Rattle.projections.specs.Projection.{Edge, Remains}
use Rattle.projections.specs.Shapes.{Shaped}
use Rattle.projections.proofs.Backward.{frees, leads_to, start_agrees, start_leads, unasked_all, unasked_distinct}
use Rattle.projections.proofs.Edges.{Stand, acts, all_unmap, asked_distinct, asked_valued, edge_from_step, edge_step, positive_sizes, rank_onto, set_distinct, set_valued, state_onto, step_here, step_into, step_made, step_stand}
use Rattle.projections.proofs.Fills.{Off, code, code_below, fill, fill_code, fill_keeps, fill_state, rank_fill}

-- r is the rank of what the facts make of the state of rank k
abbrev pub Writes : ℕ → ℕ → List ℕ → List Fact → Type 0
Writes k r sizes fs = (s : List ℕ) → State sizes s → rank sizes s ≡ k → r ≡ rank sizes (outcome fs s)

pub zero_variables : (vs : List ℕ) → map (λ f. f.variable) (map at_zero vs) ≡ vs
zero_variables vs = map-map (λ f. f.variable) at_zero vs ∙ map-id vs

-- 0 is a value of each free variable
pub frees_valued : (sizes : List ℕ) (ps es : List Fact) → AllByRecursion (λ f. Valued sizes f.variable f.value) es → AllByRecursion (λ f. Valued sizes f.variable f.value) (map at_zero (frees ps es))
frees_valued sizes ps es h = All-map (λ f. Valued sizes f.variable f.value) at_zero (frees ps es) (unasked_all (λ v. Valued sizes v 0) (map as_precondition ps) es (All-weaker (λ f. Valued sizes f.variable f.value) (λ f. Valued sizes f.variable 0) (λ f w. (w.0, omega (arith, w.1))) es h))

module _ (p : Model) (h : Shaped p) (o : ℕ) (ps es : List Fact) (is : operator p o ≡ acts ps es) (number : o < length p.operators) (t : ℕ) (low : t < states p) (a w : ℕ) (asked : Writes t a p.sizes ps) (back : Writes a w p.sizes es) where
  abbrev target : List ℕ
  target = unrank p.sizes t

  abbrev start : List ℕ
  start = outcome ps target

  target_state : State p.sizes target
  target_state = state_onto p h t

  start_state : State p.sizes start
  start_state = outcome_state p.sizes ps target (asked_valued p h o ps es is number) target_state

  start_rank : rank p.sizes start ≡ a
  start_rank = sym (asked target target_state (rank_onto p h t low))

  back_rank : w ≡ rank p.sizes (outcome es start)
  back_rank = back start start_state start_rank

  -- an edge to t comes from a state that its effects make to the state of t
  module _ (k : ℕ) (e : Edge p o k t) where
    abbrev from : List ℕ
    from = (edge_step p o k t e).0

    edge : Step p o from (edge_step p o k t e).1
    edge = (edge_step p o k t e).2

    from_is_state : State p.sizes from
    from_is_state = from_state p o from (edge_step p o k t e).1 edge

    stands : Stand ps from
    stands = step_stand p h o ps es is number from (edge_step p o k t e).1 edge

    made : target ≡ outcome es from
    made = rank_apart p.sizes target (edge_step p o k t e).1 target_state (step_into p h o from (edge_step p o k t e).1 edge) (rank_onto p h t low ∙ sym (edge_step p o k t e).4) ∙ step_made p h o ps es is number from (edge_step p o k t e).1 edge

    returned : outcome es start ≡ target
    returned = ap (λ y. outcome es (outcome ps y)) made ∙ start_leads p.sizes ps es (asked_valued p h o ps es is number) (asked_distinct p h o ps es is number) (set_valued p h o ps es is number) (set_distinct p h o ps es is number) from from_is_state.0 stands ∙ sym made

    agrees : (v : ℕ) → Off (frees ps es) v → get_or start v 0 ≡ get_or from v 0
    agrees v off = ap (λ y. get_or (outcome ps y) v 0) made ∙ start_agrees p.sizes ps es (asked_valued p h o ps es is number) (asked_distinct p h o ps es is number) (set_valued p h o ps es is number) (set_distinct p h o ps es is number) from from_is_state.0 stands v off

  pub no_origin : (w ≡ t → ⊥) → (k : ℕ) → Edge p o k t → ⊥
  no_origin never k e = never (back_rank ∙ ap (rank p.sizes) (returned k e) ∙ rank_onto p h t low)

  module _ (b : ℕ) (zeroed : Writes a b p.sizes (map at_zero (frees ps es))) (same : w ≡ t) (remains : Remains p o) where
    abbrev zeros : List ℕ
    zeros = outcome (map at_zero (frees ps es)) start

    zeros_state : State p.sizes zeros
    zeros_state = outcome_state p.sizes (map at_zero (frees ps es)) start (frees_valued p.sizes ps es (set_valued p h o ps es is number)) start_state

    zeros_rank : rank p.sizes zeros ≡ b
    zeros_rank = sym (zeroed start start_state start_rank)

    zeros_keep : (v : ℕ) → Off (frees ps es) v → get_or zeros v 0 ≡ get_or start v 0
    zeros_keep v off = outcome_keeps (map at_zero (frees ps es)) start v (All-map (λ f. f.variable ≡ v → ⊥) at_zero (frees ps es) off)

    distinct : Distinct (frees ps es)
    distinct = unasked_distinct (map as_precondition ps) es (set_distinct p h o ps es is number)

    inside : AllByRecursion (λ v. v < length p.sizes) (frees ps es)
    inside = unasked_all (λ v. v < length p.sizes) (map as_precondition ps) es (All-weaker (λ f. Valued p.sizes f.variable f.value) (λ f. f.variable < length p.sizes) (λ f x. x.0) es (set_valued p h o ps es is number))

    at_zero_lem : AllByRecursion (λ v. get_or zeros v 0 ≡ 0) (frees ps es)
    at_zero_lem = all_unmap (λ f. get_or zeros f.variable 0 ≡ f.value) at_zero (frees ps es) (outcome_gives (map at_zero (frees ps es)) start (subst Distinct (sym (zero_variables (frees ps es))) distinct) (All-map (λ f. f.variable < length start) at_zero (frees ps es) (All-weaker (λ v. v < length p.sizes) (λ v. v < length start) (λ v l. omega (arith, l, start_state.0)) (frees ps es) inside)))

    fill_rank : (n : ℕ) → rank p.sizes (fill p.sizes (frees ps es) n zeros) ≡ b + offset p.sizes (frees ps es) n
    fill_rank n = rank_fill p.sizes (frees ps es) n zeros distinct inside zeros_state.0 at_zero_lem ∙ ap (λ r. r + offset p.sizes (frees ps es) n) zeros_rank

    test : outcome es start ≡ target
    test = rank_apart p.sizes (outcome es start) target (outcome_state p.sizes es start (set_valued p h o ps es is number) start_state) target_state (sym back_rank ∙ same ∙ sym (rank_onto p h t low))

    each_leads : (n : ℕ) → Edge p o (b + offset p.sizes (frees ps es) n) t
    each_leads n =
        let x = fill p.sizes (frees ps es) n zeros in
        let hx = fill_state p.sizes (frees ps es) n zeros (positive_sizes p h) inside zeros_state in
        let lead = leads_to p.sizes ps es (asked_valued p h o ps es is number) (asked_distinct p h o ps es is number) (set_valued p h o ps es is number) (set_distinct p h o ps es is number) target x target_state.0 hx.0 test (λ v off. fill_keeps p.sizes (frees ps es) n zeros v off ∙ zeros_keep v off) in
        edge_from_step p o (b + offset p.sizes (frees ps es) n) t x (outcome es x) remains (step_here p h o ps es is number x hx lead.0) (fill_rank n) (ap (rank p.sizes) lead.1 ∙ rank_onto p h t low)

    all_come : (k : ℕ) → Edge p o k t → (n : ℕ) × (n < ways p.sizes (frees ps es)) × (k ≡ b + offset p.sizes (frees ps es) n)
    all_come k e =
        let x = from k e in
        let hx = from_is_state k e in
        let n = code p.sizes (frees ps es) x in
        let filled = fill_code p.sizes (frees ps es) zeros x inside hx (zeros_state.0 ∙ sym hx.0) (λ v off. zeros_keep v off ∙ agrees k e v off) in
        (n, code_below p.sizes (frees ps es) x inside hx, sym (edge_step p o k t e).3 ∙ ap (rank p.sizes) (sym filled) ∙ fill_rank n)

    pub some_origin : Origin p o t b
    some_origin =
        let free_is : frees ps es ≡ free p o = ap (λ c. unasked c.preconditions c.effects) (sym is) in
        record {
          leads = subst (λ vs. (n : ℕ) → n < ways p.sizes vs → Edge p o (b + offset p.sizes vs n) t) free_is (λ n _. each_leads n);
          all = subst (λ vs. (k : ℕ) → Edge p o k t → (n : ℕ) × (n < ways p.sizes vs) × (k ≡ b + offset p.sizes vs n)) free_is all_come;
        }
