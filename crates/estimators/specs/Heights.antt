-- Heights, where none is dead: how they are held, how they fall along a step, how two are merged; and the laws of all this.
use Rattle.std.specs.Prelude.{◌≡◌, ℕ, ◌+◌, ◌<◌, ◌≤◌, min, max, nat_lt, Option, Some, None, option_map, IfSome, IsSomeAnd, refl}
use Rattle.std.specs.Bool.{then_some}
use Rattle.std.specs.Option.{option_zip}
use Rattle.std.proofs.Math.Decide.{dec_lt}
use Rattle.std.proofs.Common.{arith, lt-ltb, le-ltb}

-- K, the most that a share or a height may be: 2 ^ 40
abbrev pub most : ℕ
most = 1099511627776

abbrev pub Held : Option ℕ → Type 0
Held h = IfSome h (λ x. x ≤ most)

-- along a step of share w: where the second height is not dead, the first is not, and is at most w more
abbrev pub Falls : ℕ → Option ℕ → Option ℕ → Type 0
Falls w a b = IfSome b (λ y. IsSomeAnd a (λ x. x ≤ w + y))

-- a run of cost c may lead from this height to a goal
abbrev pub Admits : Option ℕ → ℕ → Type 0
Admits h c = IsSomeAnd h (λ x. x ≤ c)

-- two heights made one by f; dead if either is
abbrev pub merged : (ℕ → ℕ → ℕ) → Option ℕ → Option ℕ → Option ℕ
merged f a b = option_map (λ p. f p.0 p.1) (option_zip a b)

-- the sum, held at K
abbrev pub capped : ℕ → ℕ → ℕ
capped x y = min (x + y) most

-- 0 below n, and dead from n on
abbrev pub flat : ℕ → ℕ → Option ℕ
flat n k = then_some (nat_lt k n) 0

-- what two shares, and two heights, may be merged by
pub record Joins (f : ℕ → ℕ → ℕ) : Type 0 where
  pub none : f 0 0 ≡ 0
  pub held : (x y : ℕ) → x ≤ most → y ≤ most → f x y ≤ most
  pub falls : (v w a b x y : ℕ) → a ≤ v + x → b ≤ w + y → f a b ≤ f v w + f x y

pub max_joins : Joins max
max_joins = record { none = refl; held = λ x y p q. omega arith; falls = λ v w a b x y p q. omega arith }

pub capped_joins : Joins capped
capped_joins = record { none = refl; held = λ x y p q. omega arith; falls = λ v w a b x y p q. omega arith }

module _ (f : ℕ → ℕ → ℕ) (by : Joins f) where
  pub merged_held : (a b : Option ℕ) → Held a → Held b → Held (merged f a b)
  merged_held None b p q = tt
  merged_held (Some x) None p q = tt
  merged_held (Some x) (Some y) p q = by.held x y p q

  pub merged_falls : (v w : ℕ) (a b x y : Option ℕ) → Falls v a x → Falls w b y → Falls (f v w) (merged f a b) (merged f x y)
  merged_falls v w a b None y p q = tt
  merged_falls v w a b (Some x) None p q = tt
  merged_falls v w None b (Some x) (Some y) p q = p
  merged_falls v w (Some a) None (Some x) (Some y) p q = q
  merged_falls v w (Some a) (Some b) (Some x) (Some y) p q = by.falls v w a b x y p q

pub flat_inside : (n k : ℕ) → k < n → flat n k ≡ Some 0
flat_inside n k h = rw (lt-ltb k n h) refl

pub flat_outside : (n k : ℕ) → n ≤ k → flat n k ≡ None
flat_outside n k h = rw (le-ltb k n h) refl

pub flat_held : (n k : ℕ) → Held (flat n k)
flat_held n k = elim (dec_lt k n) [ yes l ↦ rw (flat_inside n k l) (omega arith) | no l ↦ rw (flat_outside n k (omega arith)) tt ]

pub flat_falls : (w n s t : ℕ) → s < n → Falls w (flat n s) (flat n t)
flat_falls w n s t h = rw (flat_inside n s h) (elim (dec_lt t n) [ yes l ↦ rw (flat_inside n t l) (omega arith) | no l ↦ rw (flat_outside n t (omega arith)) tt ])

pub falls_more : (v w : ℕ) (x y : Option ℕ) → v ≤ w → Falls v x y → Falls w x y
falls_more v w x None l p = tt
falls_more v w None (Some y) l p = p
falls_more v w (Some x) (Some y) l p = omega arith

-- a step and then a run
pub falls_admits : (w c : ℕ) (x y : Option ℕ) → Falls w x y → Admits y c → Admits x (w + c)
falls_admits w c x None p q = absurd q
falls_admits w c None (Some y) p q = p
falls_admits w c (Some x) (Some y) p q = omega arith
