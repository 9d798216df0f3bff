-- How much is left of walks that keep a list of what is still to visit: a level more weighs more than all that may stand below one part.
use Rattle.std.proofs.Common.{◌≡◌, ◌≤◌, ◌<◌, ◌+◌, ◌-◌, ◌*◌, ℕ, zero, suc, List, [], ◌∷◌, ◌++◌, refl, ◌∙◌, ap, subst, arith}
use Rattle.std.proofs.Math.Nat.{mul-le-mul_right}

pub weight : ℕ → ℕ
weight zero = 1
weight (suc n) = 36893488147419103232 * weight n

weight-some : (n : ℕ) → 0 < weight n
unfolding weight
weight-some zero = omega arith
weight-some (suc n) = let k = weight-some n in omega (arith, k)

weight-grows : (k l : ℕ) → weight l ≤ weight (k + l)
unfolding weight
weight-grows zero l = let e : l ≡ zero + l = omega arith in subst (λ (m : ℕ). weight l ≤ weight m) e (omega arith)
weight-grows (suc k) l =
    let e : suc (k + l) ≡ suc k + l = omega arith in
    subst (λ (m : ℕ). weight l ≤ weight m) e (let h = weight-grows k l in omega (arith, h))

weight-below : (l n : ℕ) → l < n → 36893488147419103232 * weight l ≤ weight n
unfolding weight
weight-below l n h =
    let e : suc ((n - suc l) + l) ≡ n = omega (arith, h) in
    subst (λ (m : ℕ). 36893488147419103232 * weight l ≤ weight m) e (let k = weight-grows (n - suc l) l in omega (arith, k))

times-suc : (k x : ℕ) → suc k * x ≡ x + k * x
times-suc k x = grind arith

-- Of what is kept is known how many parts are left, and how many levels.
module _ {T : Type 0} (left levels : T → ℕ) where
  abbrev pub weighed : T → ℕ
  weighed t = left t * weight (levels t)

  pub total : List T → ℕ
  total [] = 0
  total (t ∷ ts) = suc (weighed t) + total ts

  total-last : (ts : List T) (t : T) → total (ts ++ t ∷ []) ≡ suc (weighed t) + total ts
  unfolding total
  total-last [] t = refl
  total-last (u ∷ us) t = let k = total-last us t in omega (arith, k)

  one-more : (t u : T) → left t ≡ suc (left u) → levels u ≡ levels t → weighed t ≡ weight (levels t) + weighed u
  one-more t u e l =
      ap (λ (k : ℕ). k * weight (levels t)) e
      ∙ (times-suc (left u) (weight (levels t)) ∙ ap (λ (n : ℕ). weight (levels t) + left u * weight n) (let k : levels t ≡ levels u = omega (arith, l) in k))

  -- one part fewer
  pub less-next : (ts : List T) (t u : T) → left t ≡ suc (left u) → levels u ≡ levels t → weighed u + total ts < weighed t + total ts
  less-next ts t u e l = omega (arith, one-more t u e l, weight-some (levels t))

  -- back to what was kept last
  pub less-back : (ts us : List T) (t u : T) → ts ≡ us ++ u ∷ [] → weighed u + total us < weighed t + total ts
  less-back ts us t u e = omega (arith, ap total e, total-last us u)

  -- one part fewer, and what stands below it
  pub less-below : (ts : List T) (t u v : T) → left t ≡ suc (left u) → levels u ≡ levels t → left v ≤ 18446744073709551616 → levels v < levels t
      → weighed v + total (ts ++ u ∷ []) < weighed t + total ts
  less-below ts t u v e l small deep =
      let bound : left v * weight (levels v) ≤ 18446744073709551616 * weight (levels v) = mul-le-mul_right (weight (levels v)) small in
      omega (arith, bound, total-last ts u, one-more t u e l, weight-below (levels v) (levels t) deep, weight-some (levels v))
