-- The rank of what is left of a state, from the digits of the whole state's rank.
use Rattle.std.proofs.Common.{◌≡◌, ℕ, zero, suc, ◌+◌, ◌*◌, ◌/◌, ◌%◌, ◌<◌, Bool, List, length, get_or, sym, refl, ap, ◌∙◌, subst, arith}
use Rattle.sas.specs.Ranks.{sum, coefficient, rank}
use Rattle.sas.specs.States.{State}
use Rattle.sas.proofs.Digits.{digit_is}
use Rattle.projections.specs.Parts.{folded, scales}
use Rattle.projections.specs.Projection.{only, place}
use Rattle.projections.proofs.Scales.{scale_at}
use Rattle.projections.proofs.Only.{get_or_only, only_from}

sum_same : (f g : ℕ → ℕ) (n : ℕ) → ((v : ℕ) → v < n → f v ≡ g v) → sum f n ≡ sum g n
sum_same f g zero h = refl
sum_same f g (suc n) h = ap (λ a. a + f n) (sum_same f g n (λ v l. h v (omega arith))) ∙ ap (λ b. sum g n + b) (h n (omega arith))

rank_is : (sizes s : List ℕ) → rank sizes s ≡ sum (λ v. get_or s v 0 * coefficient sizes v) (length sizes)
unfolding rank
rank_is sizes s = refl

module _ (keep : ℕ → Bool) (sizes s : List ℕ) (h : State sizes s) where
  -- the value of a kept variable, by its new number
  left_digit : (i : ℕ) → i < length (only keep sizes) → rank sizes s / get_or (only keep (scales sizes)) i 0 % get_or (only keep sizes) i 0 ≡ get_or (only keep s) i 0
  left_digit i l =
      let f = only_from keep sizes i l in
      let v = f.0 in
      let k = rank sizes s in
      let scale = get_or_only keep (scales sizes) v 0 f.2 ∙ scale_at sizes v f.1 in
      let size = get_or_only keep sizes v 0 f.2 in
      let value = sym (digit_is sizes s h v f.1) ∙ sym (get_or_only keep s v 0 f.2) in
      subst (λ n. k / get_or (only keep (scales sizes)) n 0 % get_or (only keep sizes) n 0 ≡ get_or (only keep s) n 0) f.3 (ap (λ c. k / c % get_or (only keep sizes) (place keep v) 0) scale ∙ ap (λ z. k / coefficient sizes v % z) size ∙ value)

  pub folded_is : folded (only keep (scales sizes)) (only keep sizes) (rank sizes s) ≡ rank (only keep sizes) (only keep s)
  folded_is = sum_same (λ v. rank sizes s / get_or (only keep (scales sizes)) v 0 % get_or (only keep sizes) v 0 * coefficient (only keep sizes) v) (λ v. get_or (only keep s) v 0 * coefficient (only keep sizes) v) (length (only keep sizes)) (λ v l. ap (λ x. x * coefficient (only keep sizes) v) (left_digit v l)) ∙ sym (rank_is (only keep sizes) (only keep s))
