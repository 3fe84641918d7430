-- Where the wrong bytes of a word are: one place that fits its syndromes makes a codeword of it, and two do; and where none fit, no codeword
-- is within so many bytes. Assumes nothing.
use mathlib.Core.Path.{◌≡◌, refl, sym, ap, ◌∙◌, subst}
use mathlib.Core.List.{List}
use mathlib.Core.Logic.{⊎_elim}
use Prim.Native.Nat.{ℕ, ◌*◌, ◌-◌, ◌^◌, ◌<◌, ◌≤◌}
use native.Mathlib.Omega.{arith}
use native.Mathlib.Decide.{ℕ_discrete, dec_le, dec_lt}
use lib.Bits.{bit_xor, xor_comm, xor_lt, xor_self, xor_zero_l, xor_zero_r}
use lib.Dec.{lit<}
use lib.ListN.{length}
use Rattle.field.specs.Bytes.{AllBytes}
use Rattle.field.specs.CheckBytes.{times_power, value_at, Vanishes}
use Rattle.field.proofs.Xor.{xor_assoc, xor-zero-eq}
use Rattle.field.proofs.Powers.{power-xor, power_zero}
use Rattle.field.proofs.Horner.{horner-lt}
use Rattle.correction.specs.Correction.{distance, Near}
use Rattle.correction.specs.Locators.{Fits, without, square_of, changed}
use Rattle.correction.proofs.Distances.{distance-same, distance_none}
use Rattle.correction.proofs.ErrorShapes.{one-shape, shape_one, two-shape, shape_two}
use Rattle.correction.proofs.SquareTerm.{two-square}
use Rattle.correction.proofs.ChangedBytes.{changed-value, changed-length, changed-bytes, changed-distance, step}

-- the syndromes of a word, by their numbers
abbrev pub values : List ℕ → ℕ → ℕ
values w i = value_at i w

first_byte : (w : List ℕ) → AllBytes w → value_at 0 w < 2 ^ 8
first_byte w hs = horner-lt 0 0 w (lit< tt) hs

gone : (k x : ℕ) → x ≡ 0 → times_power k x ≡ 0
gone k x z = ap (times_power k) z ∙ power_zero k

-- a codeword within R/2 bytes, and it is k bytes away
abbrev pub NearBy : ℕ → List ℕ → List ℕ → ℕ → Type 0
NearBy R w v k = Near R w v × (distance v w ≡ k)

module _ (R : ℕ) (w : List ℕ) (hs : AllBytes w) (damaged : Vanishes R w → ⊥) where
  -- ---- one byte

  pub one_right : (p : ℕ) → 2 ≤ R → p < length w → Fits R (values w) p → NearBy R w (changed w p (value_at 0 w)) 1
  one_right p many h f =
      let e = value_at 0 w in
      let v = changed w p e in
      let vanishes : Vanishes R v = (λ i k. changed-value w p e h i ∙ rw (one-shape R (values w) p f i k, xor_self)) in
      let long = changed-length w p e h in
      let most = changed-distance w p e h w refl in
      let same = distance-same w in
      let least : 1 ≤ distance v w = elim (dec_le 1 (distance v w))
      [ yes k ↦ k | no k ↦ absurd (damaged (subst (Vanishes R) (distance_none v w long (omega arith)) vanishes)) ] in (
        record { bytes = changed-bytes w p e h hs (first_byte w hs); size = long; sums = vanishes; close = omega arith },
        omega arith,
      )

  module _ (unfit : (p : ℕ) → p < length w → Fits R (values w) p → ⊥) where
    pub one-missing : (v : List ℕ) → Near R w v → distance v w ≤ 1 → ⊥
    one-missing v n h =
        elim (dec_lt 0 (distance v w)) [
          | no z ↦ damaged (subst (Vanishes R) (distance_none v w n.size (omega arith)) n.sums)
          | yes z ↦
              let r = step v w n.size n.bytes hs z in
              let p = r.place in
              let e = r.byte in
              let c = r.closer in
              let q = distance_none v (changed w p e) (n.size ∙ sym (changed-length w p e r.inside)) (omega arith) in
              unfit p r.inside
              (shape_one R (values w) p e
              (λ i k. xor-zero-eq _ _ (sym (changed-value w p e r.inside i) ∙ ap (value_at i) (sym q) ∙ n.sums i k)))
        ]

    -- ---- two bytes

    pub two-right : (p q f : ℕ) → 4 ≤ R → p < length w → q < p → f < 2 ^ 8 → Fits (R - 1) (without p (values w)) q
        → bit_xor (times_power p f) (times_power q f) ≡ without p (values w) 0
        → NearBy R w (changed (changed w p (bit_xor (value_at 0 w) f)) q f) 2
    two-right p q f many hp hq hf g d =
        let e = bit_xor (value_at 0 w) f in
        let w₁ = changed w p e in
        let v = changed w₁ q f in
        let l₁ = changed-length w p e hp in
        let hq₁ : q < length w₁ = omega arith in
        let l = changed-length w₁ q f hq₁ in
        let vanishes : Vanishes R v = (λ i k.
        changed-value w₁ q f hq₁ i
        ∙ ap (λ (x : ℕ). bit_xor x (times_power (i * q) f)) (changed-value w p e hp i)
        ∙ xor_assoc (value_at i w) (times_power (i * p) e) (times_power (i * q) f)
        ∙ rw (two-shape R (values w) p q f g d i k, xor_self)) in
        let m₁ = changed-distance w p e hp w refl in
        let m₂ = changed-distance w₁ q f hq₁ w l₁ in
        let same = distance-same w in
        let near : Near R w v = record {
          bytes = changed-bytes w₁ q f hq₁ (changed-bytes w p e hp hs (xor_lt 8 _ f (first_byte w hs) hf)) hf;
          size = l ∙ l₁;
          sums = vanishes;
          close = omega arith;
        } in
        let least : 2 ≤ distance v w = elim (dec_le 2 (distance v w))
        [ yes k ↦ k | no k ↦ absurd (one-missing v near (omega arith)) ] in
        (near, omega arith)

    -- the syndromes are those of e at place p and f at place q
    abbrev pub TwoWrong : ℕ → ℕ → ℕ → ℕ → Type 0
    TwoWrong p q e f = (i : ℕ) → i < R → value_at i w ≡ bit_xor (times_power (i * p) e) (times_power (i * q) f)

    -- no two bytes at different places are wrong
    abbrev pub NoTwo : Type 0
    NoTwo = (p q e f : ℕ) → p < length w → q < length w → (p ≡ q → ⊥) → e < 2 ^ 8 → f < 2 ^ 8 → TwoWrong p q e f → ⊥

    -- where no two places fit, no two bytes are wrong
    pub two-unfit : ((p q : ℕ) → p < length w → q < p → Fits (R - 1) (without p (values w)) q → ⊥)
        → NoTwo
    two-unfit unfits p q e f hp hq n he hf g =
        elim (dec_lt q p) [
          | yes m ↦ unfits p q hp m (shape_two R (values w) p q e f g)
          | no m ↦ unfits q p hq (omega arith)
              (shape_two R (values w) q p f e (λ i l. g i l ∙ xor_comm (times_power (i * p) e) (times_power (i * q) f)))
        ]

    -- nor are they where the square term is 0
    pub two-flat : 3 ≤ R → length w ≤ 255 → square_of (values w) ≡ 0
        → NoTwo
    two-flat many short flat p q e f hp hq n he hf g =
        ⊎_elim
        (λ z. unfit q hq (shape_one R (values w) q f (λ i l. g i l ∙ ap (λ (x : ℕ). bit_xor x (times_power (i * q) f)) (gone (i * p) e z) ∙ xor_zero_l _)))
        (λ z. unfit p hp (shape_one R (values w) p e (λ i l. g i l ∙ ap (bit_xor (times_power (i * p) e)) (gone (i * q) f z) ∙ xor_zero_r _)))
        (two-square p q e f he hf R (values w) many g n (omega arith) (omega arith) flat)

    module _ (no-two : NoTwo) where
      -- two wrong bytes at one place are one
      anywhere : (p q e f : ℕ) → p < length w → q < length w → e < 2 ^ 8 → f < 2 ^ 8 → TwoWrong p q e f → ⊥
      anywhere p q e f hp hq he hf g =
          elim (ℕ_discrete p q) [
            | yes k ↦ unfit p hp (shape_one R (values w) p (bit_xor e f) (λ i l. g i l ∙ rw (← k, power-xor)))
            | no k ↦ no-two p q e f hp hq k he hf g
          ]

      pub two-missing : (v : List ℕ) → Near R w v → distance v w ≤ 2 → ⊥
      two-missing v n h =
          elim (dec_le (distance v w) 1) [
            | yes z ↦ one-missing v n z
            | no z ↦
                let r = step v w n.size n.bytes hs (omega arith) in
                let p = r.place in
                let e = r.byte in
                let c = r.closer in
                let hp = r.inside in
                let w₁ = changed w p e in
                let l₁ = changed-length w p e hp in
                elim (dec_lt 0 (distance v w₁)) [
                  | no y ↦
                      (let b : ⊥ = omega (
                        arith,
                        changed-distance w p e hp w refl,
                        distance-same w,
                        ap (λ (x : List ℕ). distance x w) (distance_none v w₁ (n.size ∙ sym l₁) (omega arith)),
                      ) in b)
                  | yes y ↦
                      let t = step v w₁ (n.size ∙ sym l₁) n.bytes (changed-bytes w p e hp hs r.small) y in
                      let q = t.place in
                      let f = t.byte in
                      let d = t.closer in
                      let hq = t.inside in
                      let l₂ = changed-length w₁ q f hq in
                      let same = distance_none v (changed w₁ q f) (n.size ∙ sym l₁ ∙ sym l₂) (omega arith) in
                      anywhere p q e f hp (omega arith) r.small t.small
                      (λ i k. xor-zero-eq _ _
                      (sym (xor_assoc (value_at i w) (times_power (i * p) e) (times_power (i * q) f))
                      ∙ ap (λ (x : ℕ). bit_xor x (times_power (i * q) f)) (sym (changed-value w p e hp i)) ∙ sym (changed-value w₁ q f hq i)
                      ∙ ap (value_at i) (sym same) ∙ n.sums i k))
                ]
          ]
