-- In a task that a pile is for, there is no first overcharged operator just where the pile is sound.
use Rattle.std.proofs.Common.{◌≡◌, ℕ, Bool, true, false, not, List, length, is_some, Some, None, Decides, Option, refl, arith, MatchOption}
use native.Mathlib.Decide.{dec_lt}
use Rattle.std.proofs.lemmas.Bool.{false≢true, true≢false}
use Rattle.sas.specs.Model.{Model, Rules}
use Rattle.sas.specs.declared.Row.{Row}
use Rattle.estimators.specs.Bounds.{Bounds}
use Rattle.estimators.specs.Laws.{EstimatorLaws}
use Rattle.estimators.specs.Soundness.{Fair, FirstOvercharged, Sound, Unbarred, price}
use Rattle.estimators.proofs.Bounded.{bounded}

module _
    {S : Type 0}
    {suits : S → Model → Type 0}
    {shares : S → ℕ → ℕ}
    {heights : S → ℕ → Option ℕ}
    (laws : EstimatorLaws suits shares heights)
    (e : S)
    (m : Model)
    (r : Rules m)
    (suited : suits e m)
    (rows : List Row) where
  unsound : (o : ℕ) → FirstOvercharged rows (shares e) o → Sound m rows (suits e) (shares e) → ⊥
  unsound o h s =
      elim (dec_lt o (length m.operators)) [
        | yes l ↦ omega (arith, h.here.1, s.fair o l h.here.0)
        | no l ↦ omega (arith, h.here.1, laws.idle e m r suited o (omega arith))
      ]

  pub sounded : (found : Option ℕ) (b : Bool) → is_some found ≡ not b → MatchOption found ((o : ℕ) → Fair rows (shares e) o) (FirstOvercharged rows (shares e)) → Decides b (Sound m rows (suits e) (shares e)) × (b ≡ true → Bounds m (Unbarred rows) (price rows) (heights e))
  sounded None true is h = ((λ t. record { suited = suited; fair = λ o l. h o }, λ s. refl), λ t. bounded laws e m r suited (Unbarred rows) (price rows) h)
  sounded None false is h = absurd (false≢true is)
  sounded (Some o) true is h = absurd (true≢false is)
  sounded (Some o) false is h = ((λ t. absurd (false≢true t), λ s. absurd (unsound o h s)), λ t. absurd (false≢true t))
