-- A table that is made from what was tested is the table of its entries.
use Rattle.std.proofs.Common.{◌≡◌, ℕ, ltb, List, None, length, vec_items, sym, ap, ◌∙◌, subst, arith}
use Rattle.std.proofs.lemmas.Bool.{cond-true, cond-false, le-ltb, lt-ltb}
use Rattle.projections.specs.Projection.{among, only, projected}
use Rattle.sas.specs.Model.{Model}
use Rattle.sas.specs.Ranks.{rank, states}
use Rattle.sas.specs.States.{State, operator}
use Rattle.sas.proofs.Unranks.{rank_below}
use Rattle.tasks.specs.View.{model_of}
use Rattle.tables.specs.Costs.{share}
use Rattle.tables.specs.Entries.{entry, height_at}
use Rattle.tables.specs.Estimates.{height_in, rank_in, share_in}
use Rattle.tables.specs.Laws.{rank_in_lem}
use Rattle.tables.specs.Opened.{Opened}
use Rattle.tables.specs.Tables.{TableOf, table_heights, table_shares}
use Rattle.tables.specs.declared.table.Table.{Table}

-- of a copy of the task, the pattern and the shares
pub opened_copy : (m n : Model) (pattern copy shares charges : List ℕ) (p : Model) (places entries : List ℕ) → n ≡ m → copy ≡ pattern → charges ≡ shares → Opened m pattern p places shares entries → Opened n copy p places charges entries
opened_copy m n pattern copy shares charges p places entries own same even O =
    subst (λ x. Opened x copy p places charges entries) (sym own) (subst (λ x. Opened m x p places charges entries) (sym same) (subst (λ x. Opened m pattern p places x entries) (sym even) O))

module _ (m : Model) (pattern : List ℕ) (p : Model) (places shares entries : List ℕ) (O : Opened m pattern p places shares entries) where
  abbrev effects : ℕ → ℕ
  effects o = length (operator (projected (among pattern) m) o).effects

  height_is : (s : List ℕ) → State m.sizes s → height_in m pattern entries (rank m.sizes s) ≡ height_at (entry entries (rank (projected (among pattern) m).sizes (only (among pattern) s)))
  height_is s h =
      cond-true (ltb (rank m.sizes s) (states m)) (height_at (entry entries (rank_in m pattern (rank m.sizes s)))) None (lt-ltb (rank m.sizes s) (states m) (rank_below m s h))
      ∙ ap (λ k. height_at (entry entries k)) (rank_in_lem m pattern p places shares entries O s h)

  pub table_of : (t : Table) → model_of t.own ≡ m → vec_items t.pattern ≡ pattern → vec_items t.shares ≡ shares → t.entries.now ≡ entries → TableOf m pattern shares entries t
  table_of t own same even lent =
      record {
        own = own;
        shared = λ o some. shares_are o ∙ cond-true (ltb 0 (effects o)) (share shares o) 0 (lt-ltb 0 (effects o) some);
        unshared = λ o none. shares_are o ∙ cond-false (ltb 0 (effects o)) (share shares o) 0 (le-ltb 0 (effects o) (omega (arith, none)));
        heights = λ s h. heights_are (rank m.sizes s) ∙ height_is s h;
      }
    where
      shares_are : (o : ℕ) → table_shares t o ≡ share_in m pattern shares o
      shares_are o = ap (λ x. share_in x (vec_items t.pattern) (vec_items t.shares) o) own ∙ ap (λ x. share_in m x (vec_items t.shares) o) same ∙ ap (λ x. share_in m pattern x o) even

      heights_are : (k : ℕ) → table_heights t k ≡ height_in m pattern entries k
      heights_are k = ap (λ x. height_in x (vec_items t.pattern) t.entries.now k) own ∙ ap (λ x. height_in m x t.entries.now k) same ∙ ap (λ x. height_in m pattern x k) lent
