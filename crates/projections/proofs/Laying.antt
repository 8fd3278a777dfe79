-- One turn of the loop that keeps the variables of a pattern.
use Rattle.std.proofs.Common.{◌≡◌, ℕ, ◌+◌, ◌*◌, ◌<◌, ◌≤◌, Bool, true, false, List, [], ◌∷◌, ◌++◌, length, get_or, take, sym, ap, ◌∙◌, subst, append-nil, arith}
use Rattle.std.specs.List.{AllByRecursion}
use Rattle.std.proofs.ByRecursion.{All-get_or, All-take}
use Rattle.std.proofs.lemmas.List.{map_push, take_all}
use Rattle.sas.specs.Model.{product}
use Rattle.sas.specs.Ranks.{coefficient}
use Rattle.sas.proofs.Digits.{coefficient_below, coefficient_more, coefficient_pos as all_pos}
use Rattle.sas.proofs.Products.{product_pos}
use Rattle.projections.specs.Parts.{axis_coefficients, axis_places, axis_sizes, scales}
use Rattle.projections.specs.Projection.{only}
use Rattle.projections.specs.declared.axis.Axis.{Axis}
use Rattle.projections.proofs.Only.{only_more, product_only}
use Rattle.projections.proofs.Scales.{product_push, scale_at, scales_long, scales_push, sizes_positive}
use Rattle.projections.proofs.Digits.{axes_positive}

-- the kept variables so far, the next of which has the coefficient c in the projected task, and the next of all p in the whole one
pub record KeptSoFar (keep : ℕ → Bool) (sizes : List ℕ) (axes : List Axis) (c p i : ℕ) : Type 0 where
  pub sizes_are : axis_sizes axes ≡ only keep (take i sizes)
  pub places_are : axis_places axes ≡ only keep (take i (scales sizes))
  pub scaled : axis_coefficients axes ≡ scales (axis_sizes axes)
  pub next : c ≡ product (axis_sizes axes)
  pub place : p ≡ coefficient sizes i

module _ (keep : ℕ → Bool) (sizes : List ℕ) (sized : AllByRecursion (λ z. (2 ≤ z) × (z ≤ 16)) sizes) (few : product sizes ≤ 1048576) where
  pos : AllByRecursion (λ z. 0 < z) sizes
  pos = sizes_positive sizes sized

  module _ (axes : List Axis) (c p i : ℕ) (h : KeptSoFar keep sizes axes c p i) where
    module _ (l : i < length sizes) where
      -- the coefficient behind the variable is that of the next
      place_next : (z : ℕ) → z ≡ get_or sizes i 0 → p * z ≡ coefficient sizes (i + 1)
      place_next z e = ap (λ n. n * z) h.place ∙ ap (λ n. coefficient sizes i * n) e ∙ sym (coefficient_more sizes i l)

      pub place_few : (z : ℕ) → z ≡ get_or sizes i 0 → p * z ≤ 1048576
      place_few z e = omega (arith, place_next z e, coefficient_below sizes (i + 1) pos, few)

      -- a variable that is not kept
      pub kept_passed : (b : Bool) → b ≡ keep i → b ≡ false → (axes' : List Axis) → axes' ≡ axes → (c' z : ℕ) → c' ≡ c → z ≡ get_or sizes i 0 → KeptSoFar keep sizes axes' c' (p * z) (i + 1)
      kept_passed b k off axes' a c' z e f =
          let left = sym k ∙ off in
          let there : i < length (scales sizes) = omega (arith, l, scales_long sizes) in
          subst (λ w. KeptSoFar keep sizes w c' (p * z) (i + 1)) (sym a) (record {
            sizes_are = h.sizes_are ∙ sym (only_more keep sizes i 0 false left l ∙ append-nil (only keep (take i sizes)));
            places_are = h.places_are ∙ sym (only_more keep (scales sizes) i 0 false left there ∙ append-nil (only keep (take i (scales sizes))));
            scaled = h.scaled;
            next = e ∙ h.next;
            place = place_next z f;
          })

      -- one that is
      module _ (b : Bool) (k : b ≡ keep i) (here : b ≡ true) where
        kept : keep i ≡ true
        kept = sym k ∙ here

        few_here : c * get_or sizes i 0 ≤ 1048576
        few_here =
            let more = ap product (only_more keep sizes i 0 true kept l) ∙ product_push (only keep (take i sizes)) (get_or sizes i 0) in
            omega (arith, ap (λ n. n * get_or sizes i 0) (h.next ∙ ap product h.sizes_are), more, product_only keep (take (i + 1) sizes) (All-take (λ z. 0 < z) (i + 1) sizes pos), coefficient_below sizes (i + 1) pos, few)

        -- and its axis keeps the rules
        pub kept_rules : ((2 ≤ get_or sizes i 0) × (get_or sizes i 0 ≤ 16)) × (0 < c) × (0 < p) × (c * get_or sizes i 0 ≤ 1048576)
        kept_rules = (
          All-get_or (λ z. (2 ≤ z) × (z ≤ 16)) sizes i 0 l sized,
          omega (arith, h.next, product_pos (axis_sizes axes) (axes_positive axes)),
          omega (arith, h.place, all_pos sizes i pos),
          few_here,
        )

        pub kept_pushed : (x : Axis) → x.size ≡ get_or sizes i 0 → x.coefficient ≡ c → x.whole_coefficient ≡ p → (pushed axes' : List Axis) → pushed ≡ axes ++ x ∷ [] → axes' ≡ pushed → (c' y z : ℕ) → c' ≡ c * y → y ≡ get_or sizes i 0 → z ≡ get_or sizes i 0 → KeptSoFar keep sizes axes' c' (p * z) (i + 1)
        kept_pushed x size coefficient-is place-is pushed axes' push is c' y z e g f =
            let there : i < length (scales sizes) = omega (arith, l, scales_long sizes) in
            subst (λ w. KeptSoFar keep sizes w c' (p * z) (i + 1)) (sym (is ∙ push)) (record {
              sizes_are = map_push (λ a. a.size) axes x ∙ ap (λ zs. zs ++ x.size ∷ []) h.sizes_are ∙ ap (λ n. only keep (take i sizes) ++ n ∷ []) size ∙ sym (only_more keep sizes i 0 true kept l);
              places_are = map_push (λ a. a.whole_coefficient) axes x ∙ ap (λ ks. ks ++ x.whole_coefficient ∷ []) h.places_are ∙ ap (λ n. only keep (take i (scales sizes)) ++ n ∷ []) (place-is ∙ h.place ∙ sym (scale_at sizes i l)) ∙ sym (only_more keep (scales sizes) i 0 true kept there);
              scaled = map_push (λ a. a.coefficient) axes x ∙ ap (λ ks. ks ++ x.coefficient ∷ []) h.scaled ∙ ap (λ n. scales (axis_sizes axes) ++ n ∷ []) (coefficient-is ∙ h.next) ∙ sym (scales_push (axis_sizes axes) x.size) ∙ ap scales (sym (map_push (λ a. a.size) axes x));
              next = e ∙ ap (λ n. n * y) h.next ∙ ap (λ n. product (axis_sizes axes) * n) (g ∙ sym size) ∙ sym (product_push (axis_sizes axes) x.size) ∙ ap product (sym (map_push (λ a. a.size) axes x));
              place = place_next z f;
            })

    module _ (past : length sizes ≤ i) where
      sizes_all : axis_sizes axes ≡ only keep sizes
      sizes_all = h.sizes_are ∙ ap (only keep) (take_all i sizes past)

      places_all : axis_places axes ≡ only keep (scales sizes)
      places_all = h.places_are ∙ ap (only keep) (take_all i (scales sizes) (omega (arith, scales_long sizes)))

      few_all : product (axis_sizes axes) ≤ 1048576
      few_all = omega (arith, ap product sizes_all, product_only keep sizes pos, few)

      pub kept_all : (axis_sizes axes ≡ only keep sizes) × (axis_places axes ≡ only keep (scales sizes)) × (product (axis_sizes axes) ≤ 1048576)
      kept_all = (sizes_all, places_all, few_all)
