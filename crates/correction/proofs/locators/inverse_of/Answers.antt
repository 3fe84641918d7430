-- `inverse_of` meets its contract: each product adds the exponents of its factors. Assumes nothing.
use mathlib.Core.Path.{◌≡◌, ap, ◌∙◌}
use Prim.Native.Nat.{ℕ, ◌+◌, ◌*◌}
use native.Mathlib.Omega.{arith}
use Rattle.field.specs.CheckBytes.{times_power}
use Rattle.correction.proofs.ErrorValues.{product-exponents}
use Rattle.correction.proofs.locators.inverse_of.Goals as goal

pub returns : goal.returns
returns c = λ k e.
    let two = product-exponents k k _ _ _ e e c.product_of-two.ensures in
    let three = product-exponents (k + k) k _ _ _ two e c.product_of-three.ensures in
    let n3 = k + k + k in
    let six = product-exponents n3 n3 _ _ _ three three c.product_of-six.ensures in
    let n6 = n3 + n3 in
    let twelve = product-exponents n6 n6 _ _ _ six six c.product_of-twelve.ensures in
    let n12 = n6 + n6 in
    let fifteen = product-exponents n12 n3 _ _ _ twelve three c.product_of-fifteen.ensures in
    let n15 = n12 + n3 in
    let thirty = product-exponents n15 n15 _ _ _ fifteen fifteen c.product_of-thirty.ensures in
    let n30 = n15 + n15 in
    let sixty = product-exponents n30 n30 _ _ _ thirty thirty c.product_of-sixty.ensures in
    let n60 = n30 + n30 in
    let twice = product-exponents n60 n60 _ _ _ sixty sixty c.product_of-twice_sixty.ensures in
    let n120 = n60 + n60 in
    let fourfold = product-exponents n120 n120 _ _ _ twice twice c.product_of-four_times_sixty.ensures in
    let n240 = n120 + n120 in
    let n252 = product-exponents n240 n12 _ _ _ fourfold twelve c.product_of.ensures in
    let n254 = product-exponents (n240 + n12) (k + k) _ _ _ n252 two c.product_of-2.ensures in
    let sum : n240 + n12 + (k + k) ≡ 254 * k = omega arith in
    n254 ∙ ap (λ (n : ℕ). times_power n 1) sum
